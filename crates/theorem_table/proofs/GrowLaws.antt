-- A larger job's table has all steps of the smaller one's: rows keep their numbers and terms, guards and rows are only added. So what
-- followed from a start follows still, and a conflict that followed follows.
use Rattle.std.specs.Prelude.{ℕ, zero, suc, ◌≤◌, ◌<◌, ◌≡◌, refl, Bool, true, false, ◌⊎◌, get_or, ℤ, ◌-ℤ◌, ◌≤ℤ◌, ◌<ℤ◌}
use Rattle.std.proofs.Common.{le_refl, not-suc-le-zero, le_of_suc-le-suc, arith, sym, ap, ◌∙◌, inl, inr}
use Rattle.std.proofs.Math.Decide.{dec_lt}
use Rattle.std.proofs.Math.Path.{subst}
use mathlib.Core.List.{List, [], ◌∷◌, ◌++◌, Memᴰ}
use Rattle.std.proofs.Math.ListN.{length, get_or-eq_default}
use Rattle.std.proofs.Math.IntN.{pos}
use Rattle.std.specs.Int.Signed.{≤ℤ_refl}
use Rattle.base.specs.Insertion.{insert}
use Rattle.base.specs.InsertionLaws.{insert_mem}
use Rattle.numeric.specs.Threshold.{Term, Threshold}
use Rattle.row.specs.Terms.{same_terms}
use Rattle.state.specs.State.{max_z}
use Rattle.rows.specs.Rows.{Row, row_of, Guard, guard, no_row, below, insert_guard, place, place_all, Other, alone, beside, linked_by, Linked}
use Rattle.theorem_table.specs.Table.{Table, known, possible, AtMost, Below, Undecided, terms_of, IsRow, Guards, HasTerm, OtherReached, IsPrefix, Step, sure-guard, never-guard, bound-reached, bound-out-of-reach, term-needed, term-too-heavy, longer-lower, shorter-upper, Conflict, both, lower-above, upper-reached, AtRest, raise_lower, lower_upper, decide_sure, decide_never, known_of, possible_of, reached_of}
use Rattle.theorem_table.specs.OrderLaws.{≤ℤ_trans, zero-le, max_up}
use Rattle.theorem_table.proofs.TableLaws.{Le, Follows}

-- Rows that were there keep their terms and their guards, and stay linked.
pub record Grown (rows more : List Row) : Type 0 where
  pub long : length rows ≤ length more
  pub terms : (r : ℕ) → IsRow rows r → terms_of more r ≡ terms_of rows r
  pub guards : (r : ℕ) → IsRow rows r → (g : Guard) → Memᴰ g (get_or rows r no_row).guards → Memᴰ g (get_or more r no_row).guards
  pub linked : (r : ℕ) → IsRow rows r → Linked (get_or rows r no_row) → Linked (get_or more r no_row)

module _ (rows more : List Row) (h : Grown rows more) where
  is_row : (r : ℕ) → IsRow rows r → IsRow more r
  is_row r i = let l = h.long in omega arith

  has-guard : (r : ℕ) (g : Guard) → Guards rows r g → Guards more r g
  has-guard r g i = (is_row r i.0, h.guards r i.0 g i.1)

  has-term : (r : ℕ) (t : Term) → HasTerm rows r t → HasTerm more r t
  has-term r t i = (is_row r i.0, subst (Memᴰ t) (sym (h.terms r i.0)) i.1)

  is-prefix : (r q : ℕ) → IsPrefix rows r q → IsPrefix more r q
  is-prefix r q i = (
    is_row r i.0,
    is_row q i.1,
    (
      i.2.0,
      h.terms q i.1 ∙ i.2.1 ∙ ap (λ (ts : List Term). ts ++ i.2.0) (sym (h.terms r i.0)),
      h.linked r i.0 i.2.2,
      h.linked q i.1 i.2.3,
    ),
  )

  same_known : (s : Table) (r : ℕ) → IsRow rows r → known_of rows s r ≡ known_of more s r
  same_known s r i = ap (λ (ts : List Term). pos (known s.sure ts)) (sym (h.terms r i))

  same-possible : (s : Table) (r : ℕ) → IsRow rows r → possible_of rows s r ≡ possible_of more s r
  same-possible s r i = ap (λ (ts : List Term). pos (possible s.never ts)) (sym (h.terms r i))

  same-reached : (s : Table) (r : ℕ) → IsRow rows r → reached_of rows s r ≡ reached_of more s r
  same-reached s r i = ap (λ (z : ℤ). max_z z (s.lower r)) (same_known s r i)

  -- a row that is not there yet has nothing known
  reached-larger : (s : Table) (r : ℕ) → reached_of rows s r ≤ℤ reached_of more s r
  unfolding known
  reached-larger s r = by (dec_lt r (length rows))
    where
      by : Dec (r < length rows) → reached_of rows s r ≤ℤ reached_of more s r
      by (yes i) = subst (λ (z : ℤ). reached_of rows s r ≤ℤ z) (same-reached s r i) (≤ℤ_refl (reached_of rows s r))
      by (no i) = max_up {a = known_of rows s r} {b = s.lower r} {c = known_of more s r} {d = s.lower r} known-none (≤ℤ_refl (s.lower r))
        where
          known-none : known_of rows s r ≤ℤ known_of more s r
          known-none = subst (λ (w : Row). pos (known s.sure w.terms) ≤ℤ known_of more s r) (sym (get_or-eq_default rows no_row (omega arith))) (zero-le _)

  other-larger : (s : Table) (o : Other) → OtherReached rows s o → OtherReached more s o
  unfolding OtherReached
  other-larger s alone k = tt
  other-larger s (beside q b) k = ≤ℤ_trans k (reached-larger s q)

  pub step_larger : (s t : Table) → Step rows s t → Step more s t
  step_larger s t (sure-guard r g i e k) = sure-guard r g (has-guard r g i) e k
  step_larger s t (never-guard r g i e k) = never-guard r g (has-guard r g i) (e.0, other-larger s _ e.1) k
  step_larger s t (bound-reached r g i k e) =
      bound-reached r g (has-guard r g i) (k.0, subst (λ (z : ℤ). g.bound ≤ℤ z) (same-reached s r i.0) k.1, other-larger s _ k.2) e
  step_larger s t (bound-out-of-reach r g i k e) =
      bound-out-of-reach r g (has-guard r g i) (k.0, subst (λ (z : ℤ). (z <ℤ g.bound) ⊎ AtMost (s.upper r) g.bound) (same-possible s r i.0) k.1) e
  step_larger s t (term-needed r x i d k) = term-needed r x (has-term r x i) d (subst (λ (z : ℤ). (z -ℤ s.lower r) <ℤ pos x.weight) (same-possible s r i.0) k)
  step_larger s t (term-too-heavy r x u i d e k) =
      term-too-heavy r x u (has-term r x i) d e (subst (λ (z : ℤ). (u -ℤ z) ≤ℤ pos x.weight) (same_known s r i.0) k)
  step_larger s t (longer-lower r q i k) = longer-lower r q (is-prefix r q i) k
  step_larger s t (shorter-upper r q i k) = shorter-upper r q (is-prefix r q i) k

  pub conflict_larger : (s : Table) → Conflict rows s → Conflict more s
  conflict_larger s (both n a b) = both n a b
  conflict_larger s (lower-above r i k) = lower-above r (is_row r i) (subst (λ (z : ℤ). z <ℤ s.lower r) (same-possible s r i) k)
  conflict_larger s (upper-reached r i k) = upper-reached r (is_row r i) (subst (AtMost (s.upper r)) (same-reached s r i) k)

  -- A REST OF THE LARGER TABLE is one of the smaller
  pub rest_smaller : (u : Table) → AtRest more u → AtRest rows u
  rest_smaller u rest = ((λ c. rest.0 (conflict_larger u c)), λ t a. rest.1 t (step_larger u t a))

  pub follows_larger : (s t : Table) → Follows rows s t → Follows more s t
  follows_larger s t f u a rest = f u a (rest_smaller u rest)

-- ---- ROWS OF MORE THRESHOLDS

pub grown_same : (rows : List Row) → Grown rows rows
grown_same rows = record { long = le_refl (length rows); terms = λ r i. refl; guards = λ r i g m. m; linked = λ r i l. l }

grown_then : (a b c : List Row) → Grown a b → Grown b c → Grown a c
grown_then a b c h k = record {
  long = let x = h.long in let y = k.long in omega arith;
  terms = λ r i. k.terms r (is_row a b h r i) ∙ h.terms r i;
  guards = λ r i g m. k.guards r (is_row a b h r i) g (h.guards r i g m);
  linked = λ r i l. k.linked r (is_row a b h r i) (h.linked r i l);
}

linked_in : (h : Guard) (hs : List Guard) → h.linked ≡ true → linked_by hs ≡ true → linked_by (insert_guard h hs) ≡ true
unfolding insert
linked_in h [] e l = e
linked_in h (x ∷ xs) e l = by (below h x)
  where
    by : (b : Bool) → linked_by (elim b [ true ↦ h ∷ x ∷ xs | false ↦ x ∷ insert_guard h xs ]) ≡ true
    by true = e
    by false = l

-- one row more in front
grown_on : (r : Row) (a b : List Row) → Grown a b → Grown (r ∷ a) (r ∷ b)
grown_on r a b h = record { long = let x = h.long in omega arith; terms = terms; guards = guards; linked = linked }
  where
    terms : (k : ℕ) → IsRow (r ∷ a) k → terms_of (r ∷ b) k ≡ terms_of (r ∷ a) k
    terms zero i = refl
    terms (suc k) i = h.terms k (le_of_suc-le-suc i)

    guards : (k : ℕ) → IsRow (r ∷ a) k → (g : Guard) → Memᴰ g (get_or (r ∷ a) k no_row).guards → Memᴰ g (get_or (r ∷ b) k no_row).guards
    guards zero i g m = m
    guards (suc k) i g m = h.guards k (le_of_suc-le-suc i) g m

    linked : (k : ℕ) → IsRow (r ∷ a) k → Linked (get_or (r ∷ a) k no_row) → Linked (get_or (r ∷ b) k no_row)
    linked zero i l = l
    linked (suc k) i l = h.linked k (le_of_suc-le-suc i) l

grown-place : (t : Threshold) (rs : List Row) → Grown rs (place t rs)
unfolding place
grown-place t [] = record { long = omega arith; terms = λ r i. absurd (not-suc-le-zero i); guards = λ r i. absurd (not-suc-le-zero i); linked = λ r i. absurd (not-suc-le-zero i) }
grown-place t (r ∷ rs) = by (grown-place t rs) (same_terms r.raw t.terms)
  where
    more : Row
    more = row_of r.raw r.terms (insert_guard (guard t.bound t.node) r.guards)

    terms : (k : ℕ) → IsRow (r ∷ rs) k → terms_of (more ∷ rs) k ≡ terms_of (r ∷ rs) k
    terms zero i = refl
    terms (suc k) i = refl

    guards : (k : ℕ) → IsRow (r ∷ rs) k → (g : Guard) → Memᴰ g (get_or (r ∷ rs) k no_row).guards → Memᴰ g (get_or (more ∷ rs) k no_row).guards
    guards zero i g m = insert_mem below g (guard t.bound t.node) r.guards (inr m)
    guards (suc k) i g m = m

    linked : (k : ℕ) → IsRow (r ∷ rs) k → Linked (get_or (r ∷ rs) k no_row) → Linked (get_or (more ∷ rs) k no_row)
    linked zero i l = linked_in (guard t.bound t.node) r.guards refl l
    linked (suc k) i l = l

    by : Grown rs (place t rs) → (b : Bool) → Grown (r ∷ rs) (elim b [ true ↦ more ∷ rs | false ↦ r ∷ place t rs ])
    by ih true = record { long = omega arith; terms = terms; guards = guards; linked = linked }
    by ih false = grown_on r rs (place t rs) ih

pub grown_all : (ts : List Threshold) (rs : List Row) → Grown rs (place_all ts rs)
unfolding place_all
grown_all [] rs = grown_same rs
grown_all (t ∷ ts) rs = grown_then rs (place t rs) (place_all ts (place t rs)) (grown-place t rs) (grown_all ts (place t rs))

pub place-append : (ts us : List Threshold) (rs : List Row) → place_all (ts ++ us) rs ≡ place_all us (place_all ts rs)
unfolding place_all
place-append [] us rs = refl
place-append (t ∷ ts) us rs = place-append ts us (place t rs)

-- ROWS KEEP THEIR NUMBERS, new ones follow
pub grown_job : (ts us : List Threshold) → Grown (place_all ts []) (place_all (ts ++ us) [])
grown_job ts us = subst (Grown (place_all ts [])) (sym (place-append ts us [])) (grown_all us (place_all ts []))
