-- What a seal builds of a job meets what the laws of this crate ask: every threshold is a guard of its row, links join rows of which
-- one starts the other, conditions of a row are distinct, guards rise and weights fall.
use Rattle.std.specs.Prelude.{ℕ, zero, suc, ◌+◌, ◌≤◌, ◌<◌, ◌≡◌, refl, Bool, true, false, ◌⊎◌, ◌≢◌, length, get_or}
use Rattle.std.proofs.Common.{not-suc-le-zero, le_of_suc-le-suc, arith, sym, ap, ◌∙◌, subst, inl, inr, ⊎_elim}
use mathlib.Core.List.Memᴰ
use mathlib.Core.List.{List, [], ◌∷◌, Memᴰ}
use Rattle.std.specs.Int.Signed.{le_z, lt_z}
use Rattle.base.specs.All.{All}
use Rattle.base.specs.AllLaws.{all_each}
use Rattle.base.specs.TestLaws.{and_left, or-true, or-false}
use Rattle.memory.specs.Limits.{max_nodes}
use Rattle.base.specs.SignedLaws.{le_z_trans, lt_z_weaken, nlt-le_z}
use Rattle.base.specs.Insertion.{insert}
use Rattle.base.specs.InsertionLaws.{insert_mem, mem_insert}
use Rattle.numeric.specs.Threshold.{Term, Threshold, Job}
use Rattle.row.specs.Terms.{row_terms, merged, same_terms}
use Rattle.row.specs.TermsLaws as TermsLaws
use Rattle.row.specs.TermsLaws.{Distinct, distinct, sorted_falling, conditions-merged, all_sorted}
use Rattle.rows.specs.Rows.{Row, row_of, no_row, linked_by, Linked, Guard, alone, guard, below, insert_guard, place, place_all, rows_of, row_number}
use Rattle.rows.specs.ListsLaws.{same_refl}
use Rattle.links.specs.Links.{Link, links, neighbours}
use Rattle.links.proofs.LinksLaws.{link, link_starts, links_range, links_apart, Joined, downward, upward, neighbours-joined}
use Rattle.row_moves.specs.Between.{Index}
use Rattle.theorem_table.specs.Table.{IsRow, terms_of, Guards, IsPrefix}
use Rattle.theorem_table.proofs.LayoutLaws.{row_made}
use Rattle.theorem_follows.specs.Ordered.{Each, Rising, Falling, Ordered}

pub record Built (j : Job) (x : Index) : Type 0 where
  pub thresholds : x.thresholds ≡ j.thresholds
  pub rows : x.rows ≡ rows_of j
  pub links : (r : ℕ) → IsRow x.rows r → Linked (get_or x.rows r no_row) → x.links ≡ links x.rows
  pub guards : (t : Threshold) → Memᴰ t x.thresholds → Guards x.rows (row_number x.rows t.terms) (guard t.bound t.node)
  pub linked : (r q : ℕ) → Memᴰ q (neighbours r x.links) → IsPrefix x.rows r q ⊎ IsPrefix x.rows q r
  pub distinct : (r : ℕ) → IsRow x.rows r → Distinct (terms_of x.rows r)

-- GUARDS STAND IN THE ROW OF THEIR RAW LIST

number_here : (r : Row) (rs : List Row) (raw : List Term) → same_terms r.raw raw ≡ true → row_number (r ∷ rs) raw ≡ 0
unfolding row_number
number_here r rs raw e = rw (e, row_number)

number_next : (r : Row) (rs : List Row) (raw : List Term) → same_terms r.raw raw ≡ false → row_number (r ∷ rs) raw ≡ 1 + row_number rs raw
unfolding row_number
number_next r rs raw e = rw (e, row_number)

deeper : (r : Row) (rs : List Row) (n : ℕ) (g : Guard) → Guards rs n g → Guards (r ∷ rs) (1 + n) g
deeper r rs n g k = subst (λ (i : ℕ). Guards (r ∷ rs) i g) (omega arith) (let h = k.0 in let z : Guards (r ∷ rs) (suc n) g = (omega arith, k.1) in z)

shallower : (r : Row) (rs : List Row) (n : ℕ) (g : Guard) → Guards (r ∷ rs) (1 + n) g → Guards rs n g
shallower r rs n g k = let z : Guards (r ∷ rs) (suc n) g = subst (λ (i : ℕ). Guards (r ∷ rs) i g) (omega arith) k in (le_of_suc-le-suc z.0, z.1)

-- the guard of a threshold stands in the row of its raw list
abbrev Stood : List Row → List Term → Guard → Type 0
Stood rs raw g = Guards rs (row_number rs raw) g

first-stood : (r : Row) (rs : List Row) (raw : List Term) (g : Guard) → same_terms r.raw raw ≡ true → Memᴰ g r.guards → Stood (r ∷ rs) raw g
first-stood r rs raw g e m = subst (λ (i : ℕ). Guards (r ∷ rs) i g) (sym (number_here r rs raw e)) (omega arith, m)

next_stood : (r : Row) (rs : List Row) (raw : List Term) (g : Guard) → same_terms r.raw raw ≡ false → Stood rs raw g → Stood (r ∷ rs) raw g
next_stood r rs raw g e k = subst (λ (i : ℕ). Guards (r ∷ rs) i g) (sym (number_next r rs raw e)) (deeper r rs (row_number rs raw) g k)

place_has : (t : Threshold) (rs : List Row) → Stood (place t rs) t.terms (guard t.bound t.node)
unfolding place
place_has t [] = first-stood (row_of t.terms (row_terms t.terms) (guard t.bound t.node ∷ [])) [] t.terms (guard t.bound t.node) (same_refl t.terms) (Memᴰ.head refl)
place_has t (r ∷ rs) = by (place_has t rs) (same_terms r.raw t.terms) refl
  where
    by : Stood (place t rs) t.terms (guard t.bound t.node) → (b : Bool) → same_terms r.raw t.terms ≡ b
        → Stood (elim b [ true ↦ row_of r.raw r.terms (insert_guard (guard t.bound t.node) r.guards) ∷ rs | false ↦ r ∷ place t rs ]) t.terms (guard t.bound t.node)
    by ih true e =
        first-stood (row_of r.raw r.terms (insert_guard (guard t.bound t.node) r.guards)) rs t.terms (guard t.bound t.node) e (insert_mem below (guard t.bound t.node) (guard t.bound t.node) r.guards (inl refl))
    by ih false e = next_stood r (place t rs) t.terms (guard t.bound t.node) e ih

place_keeps : (t : Threshold) (rs : List Row) (raw : List Term) (g : Guard) → Stood rs raw g → Stood (place t rs) raw g
unfolding place
place_keeps t [] raw g k = absurd (not-suc-le-zero k.0)
place_keeps t (r ∷ rs) raw g k = by (λ i. place_keeps t rs raw g i) (same_terms r.raw t.terms) (same_terms r.raw raw) refl
  where
    here : same_terms r.raw raw ≡ true → Memᴰ g r.guards
    here f = (subst (λ (i : ℕ). Guards (r ∷ rs) i g) (number_here r rs raw f) k).1

    behind : same_terms r.raw raw ≡ false → Stood rs raw g
    behind f = shallower r rs (row_number rs raw) g (subst (λ (i : ℕ). Guards (r ∷ rs) i g) (number_next r rs raw f) k)

    by : (Stood rs raw g → Stood (place t rs) raw g) → (b : Bool) → (d : Bool) → same_terms r.raw raw ≡ d
        → Stood (elim b [ true ↦ row_of r.raw r.terms (insert_guard (guard t.bound t.node) r.guards) ∷ rs | false ↦ r ∷ place t rs ]) raw g
    by ih true true f =
        first-stood (row_of r.raw r.terms (insert_guard (guard t.bound t.node) r.guards)) rs raw g f (insert_mem below g (guard t.bound t.node) r.guards (inr (here f)))
    by ih true false f = next_stood (row_of r.raw r.terms (insert_guard (guard t.bound t.node) r.guards)) rs raw g f (behind f)
    by ih false true f = first-stood r (place t rs) raw g f (here f)
    by ih false false f = next_stood r (place t rs) raw g f (ih (behind f))

all_keep : (ts : List Threshold) (rs : List Row) (raw : List Term) (g : Guard) → Stood rs raw g → Stood (place_all ts rs) raw g
unfolding place_all
all_keep [] rs raw g k = k
all_keep (t ∷ ts) rs raw g k = all_keep ts (place t rs) raw g (place_keeps t rs raw g k)

all_has : (ts : List Threshold) (rs : List Row) (t : Threshold) → Memᴰ t ts → Stood (place_all ts rs) t.terms (guard t.bound t.node)
unfolding place_all
all_has [] rs t m = absurd (Memᴰ.not-nil m)
all_has (y ∷ ts) rs t m =
    ⊎_elim
    (λ (e : t ≡ y). subst (λ (z : Threshold). Stood (place_all ts (place y rs)) z.terms (guard z.bound z.node)) (sym e)
    (all_keep ts (place y rs) y.terms (guard y.bound y.node) (place_has y rs)))
    (λ k. all_has ts (place y rs) t k) (Memᴰ.cases_cons m)

-- EVERY THRESHOLD IS A GUARD OF ITS ROW
pub guard-placed : (j : Job) (t : Threshold) → Memᴰ t j.thresholds → Guards (rows_of j) (row_number (rows_of j) t.terms) (guard t.bound t.node)
guard-placed j t m = all_has j.thresholds [] t m

-- ROWS ARE LINKED
pub rows-linked : (j : Job) (r : ℕ) → IsRow (rows_of j) r → Linked (get_or (rows_of j) r no_row)
rows-linked j r i = by (get_or (rows_of j) r no_row).guards (λ g m. ap (λ (y : Guard). y.linked) ((row_made j r i).guards g m).3)
  where
    by : (gs : List Guard) → Each (λ (g : Guard). g.linked ≡ true) gs → linked_by gs ≡ true
    by [] h = refl
    by (g ∷ gs) h = h g (Memᴰ.head refl)

-- NEIGHBOURS: one starts the other
pub neighbours_prefix : (rs : List Row) → ((r : ℕ) → IsRow rs r → Linked (get_or rs r no_row)) → (r q : ℕ) → Memᴰ q (neighbours r (links rs)) → IsPrefix rs r q ⊎ IsPrefix rs q r
neighbours_prefix rs linked r q m = let a = neighbours-joined r q (links rs) m in by a.0 a.1 a.2
  where
    ends : (p e : ℕ) → Memᴰ (link p e) (links rs) → IsPrefix rs p e
    ends p e i = let o = links_range rs p e i in let t = link_starts rs p e i in (o.0, o.1, (t.0, t.1, linked p o.0, linked e o.1))

    by : (l : Link) → Memᴰ l (links rs) → Joined r q l → IsPrefix rs r q ⊎ IsPrefix rs q r
    by l i (downward e f) = inl (subst (λ (y : ℕ). IsPrefix rs r y) f (subst (λ (y : ℕ). IsPrefix rs y l.extension) e (ends l.prefix l.extension i)))
    by l i (upward e f) = inr (subst (λ (y : ℕ). IsPrefix rs q y) e (subst (λ (y : ℕ). IsPrefix rs y l.extension) f (ends l.prefix l.extension i)))

-- and no row is its own neighbour
pub neighbours_apart : (rs : List Row) (r q : ℕ) → Memᴰ q (neighbours r (links rs)) → q ≢ r
neighbours_apart rs r q m e = let a = neighbours-joined r q (links rs) m in by a.0 a.1 a.2
  where
    by : (l : Link) → Memᴰ l (links rs) → Joined r q l → ⊥
    by l i (downward f g) = links_apart rs l.prefix l.extension i (f ∙ sym e ∙ sym g)
    by l i (upward f g) = links_apart rs l.prefix l.extension i (g ∙ e ∙ sym f)

-- WHAT THE SEAL BUILDS
pub built : (j : Job) (x : Index) → x.thresholds ≡ j.thresholds → x.rows ≡ rows_of j → x.links ≡ links (rows_of j) → Built j x
built j x e f g = record {
  thresholds = e;
  rows = f;
  links = λ r i h. g ∙ ap links (sym f);
  guards = λ t m. subst (λ (rs : List Row). Guards rs (row_number rs t.terms) (guard t.bound t.node)) (sym f) (guard-placed j t (subst (λ (l : List Threshold). Memᴰ t l) e m));
  linked = λ r q m. subst (λ (rs : List Row). IsPrefix rs r q ⊎ IsPrefix rs q r) (sym f) (neighbours_prefix (rows_of j) (rows-linked j) r q (subst (λ (l : List Link). Memᴰ q (neighbours r l)) g m));
  distinct = λ r i. subst (λ (rs : List Row). IsRow rs r → Distinct (terms_of rs r)) (sym f)
      (λ k. let m = row_made j r k in subst Distinct (sym m.terms) (distinct (get_or (rows_of j) r no_row).raw)) i;
}

-- EVERY GUARD IS A THRESHOLD'S
pub guard_threshold : (j : Job) (x : Index) → Built j x → (r : ℕ) (g : Guard) → Guards x.rows r g → (t : Threshold) × Memᴰ t x.thresholds × (g.node ≡ t.node)
guard_threshold j x b r g i =
    let k = subst (λ (rs : List Row). Guards rs r g) b.rows i in
    let o = (row_made j r k.0).guards g k.1 in
    (o.0, subst (λ (l : List Threshold). Memᴰ o.0 l) (sym b.thresholds) o.1, ap (λ (y : Guard). y.node) o.3)

-- AND IS ALONE
pub guard_alone : (j : Job) (x : Index) → Built j x → (r : ℕ) (g : Guard) → Guards x.rows r g → g.other ≡ alone
guard_alone j x b r g i = let k = subst (λ (rs : List Row). Guards rs r g) b.rows i in ap (λ (y : Guard). y.other) ((row_made j r k.0).guards g k.1).3

-- ROWS ARE ORDERED: guards by rising bounds, terms by falling weights, all nodes in range

below-le : (g h : Guard) → below g h ≡ true → le_z g.bound h.bound ≡ true
below-le g h e =
    ⊎_elim (λ (a : lt_z g.bound h.bound ≡ true). lt_z_weaken g.bound h.bound a) (λ a. and_left (le_z g.bound h.bound) _ a) (or-true (lt_z g.bound h.bound) _ e)

not-below : (g h : Guard) → below g h ≡ false → le_z h.bound g.bound ≡ true
not-below g h e = nlt-le_z g.bound h.bound (or-false (lt_z g.bound h.bound) _ e).0

insert_rises : (g : Guard) (gs : List Guard) → Rising gs → Rising (insert_guard g gs)
unfolding insert
insert_rises g [] r = (λ y m. absurd (Memᴰ.not-nil m), tt)
insert_rises g (h ∷ hs) r = by (insert_rises g hs r.1) (below g h) refl
  where
    by : Rising (insert_guard g hs) → (b : Bool) → below g h ≡ b → Rising (elim b [ true ↦ g ∷ h ∷ hs | false ↦ h ∷ insert_guard g hs ])
    by ih true e = (
      λ y m. ⊎_elim (λ (q : y ≡ h). subst (λ (z : Guard). le_z g.bound z.bound ≡ true) (sym q) (below-le g h e))
          (λ k. le_z_trans g.bound h.bound y.bound (below-le g h e) (r.0 y k)) (Memᴰ.cases_cons m),
      r,
    )
    by ih false e = (
      λ y m. ⊎_elim (λ (q : y ≡ g). subst (λ (z : Guard). le_z h.bound z.bound ≡ true) (sym q) (not-below g h e)) (λ k. r.0 y k) (mem_insert below y g hs m),
      ih,
    )

abbrev AllRise : List Row → Type 0
AllRise [] = Unit {0}
AllRise (r ∷ rs) = Rising r.guards × AllRise rs

place_rises : (t : Threshold) (rs : List Row) → AllRise rs → AllRise (place t rs)
unfolding place
place_rises t [] h = ((λ y m. absurd (Memᴰ.not-nil m), tt), tt)
place_rises t (r ∷ rs) h = by (λ k. place_rises t rs k) (same_terms r.raw t.terms)
  where
    by : (AllRise rs → AllRise (place t rs)) → (b : Bool) → AllRise (elim b [ true ↦ row_of r.raw r.terms (insert_guard (guard t.bound t.node) r.guards) ∷ rs | false ↦ r ∷ place t rs ])
    by ih true = (insert_rises (guard t.bound t.node) r.guards h.0, h.1)
    by ih false = (h.0, ih h.1)

all_rise : (ts : List Threshold) (rs : List Row) → AllRise rs → AllRise (place_all ts rs)
unfolding place_all
all_rise [] rs h = h
all_rise (t ∷ ts) rs h = all_rise ts (place t rs) (place_rises t rs h)

rises_at : (rs : List Row) (r : ℕ) → AllRise rs → r < length rs → Rising (get_or rs r no_row).guards
rises_at [] r h k = absurd (not-suc-le-zero k)
rises_at (x ∷ xs) zero h k = h.0
rises_at (x ∷ xs) (suc r) h k = rises_at xs r h.1 (le_of_suc-le-suc k)

-- a list's property, element by element
together : (P : Term → Type 0) (ts : List Term) → Each P ts → All P ts
together P [] a = tt
together P (x ∷ xs) a = (a x (Memᴰ.head refl), together P xs (λ t m. a t (Memᴰ.tail m)))

falls : (ts : List Term) → TermsLaws.Falling ts → Falling ts
falls [] h = tt
falls (t ∷ ts) h = (all_each (λ (u : Term). u.weight ≤ t.weight) ts h.0, falls ts h.1)

-- every row's raw list is that of a threshold
abbrev From : List Threshold → Row → Type 0
From all r = (t : Threshold) × Memᴰ t all × (t.terms ≡ r.raw)

abbrev AllFrom : List Threshold → List Row → Type 0
AllFrom all [] = Unit {0}
AllFrom all (r ∷ rs) = From all r × AllFrom all rs

place_from : (all : List Threshold) (t : Threshold) (rs : List Row) → Memᴰ t all → AllFrom all rs → AllFrom all (place t rs)
unfolding place
place_from all t [] m h = ((t, m, refl), tt)
place_from all t (r ∷ rs) m h = by (λ k. place_from all t rs m k) (same_terms r.raw t.terms)
  where
    by : (AllFrom all rs → AllFrom all (place t rs)) → (b : Bool)
        → AllFrom all (elim b [ true ↦ row_of r.raw r.terms (insert_guard (guard t.bound t.node) r.guards) ∷ rs | false ↦ r ∷ place t rs ])
    by ih true = h
    by ih false = (h.0, ih h.1)

all_from : (all ts : List Threshold) (rs : List Row) → ((t : Threshold) → Memᴰ t ts → Memᴰ t all) → AllFrom all rs → AllFrom all (place_all ts rs)
unfolding place_all
all_from all [] rs m h = h
all_from all (t ∷ ts) rs m h = all_from all ts (place t rs) (λ y k. m y (Memᴰ.tail k)) (place_from all t rs (m t (Memᴰ.head refl)) h)

from_at : (all : List Threshold) (rs : List Row) (r : ℕ) → AllFrom all rs → r < length rs → From all (get_or rs r no_row)
from_at all [] r h k = absurd (not-suc-le-zero k)
from_at all (x ∷ xs) zero h k = h.0
from_at all (x ∷ xs) (suc r) h k = from_at all xs r h.1 (le_of_suc-le-suc k)

-- Each nodes that a job names have a place in the masks.
pub record InRange (j : Job) : Type 0 where
  pub nodes : (t : Threshold) → Memᴰ t j.thresholds → t.node < max_nodes
  pub conditions : (t : Threshold) → Memᴰ t j.thresholds → Each (λ (u : Term). u.condition < max_nodes) t.terms

pub rows-ordered : (j : Job) → InRange j → (r : ℕ) → IsRow (rows_of j) r → Ordered (get_or (rows_of j) r no_row)
rows-ordered j ok r i =
    let m = row_made j r i in
    let from = from_at j.thresholds (rows_of j) r (all_from j.thresholds j.thresholds [] (λ t k. k) tt) i in
    let raw = (get_or (rows_of j) r no_row).raw in
    record {
      rising = rises_at (rows_of j) r (all_rise j.thresholds [] tt) i;
      falling = subst Falling (sym m.terms) (falls (row_terms raw) (sorted_falling raw));
      guards = λ g k. let o = m.guards g k in subst (λ (y : Guard). y.node < max_nodes) (sym o.3) (ok.nodes o.0 o.1);
      terms = subst (Each (λ (u : Term). u.condition < max_nodes)) (sym m.terms)
          (all_each (λ (u : Term). u.condition < max_nodes) (row_terms raw)
          (all_sorted (λ (u : Term). u.condition < max_nodes) (merged raw) (conditions-merged (λ (n : ℕ). n < max_nodes) raw
          (together (λ (u : Term). u.condition < max_nodes) raw (subst (Each (λ (u : Term). u.condition < max_nodes)) from.2 (ok.conditions from.0 from.1))))));
    }
