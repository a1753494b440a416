-- A layout is a state of the table at rest. So whatever follows from nodes that a layout agrees with, the layout agrees with,
-- and where a conflict follows, there is no such layout.
use Rattle.std.specs.Prelude.{ℕ, zero, suc, ◌+◌, ◌≤◌, ◌<◌, ◌≡◌, refl, Bool, true, false, cond, not, ◌&&◌, length, get_or, eqb, ℤ, pos, negsuc, ◌≤ℤ◌, ◌<ℤ◌, Some}
use Rattle.std.proofs.Common.{le_refl, not-suc-le-zero, le_of_suc-le-suc, arith, sym, ap, ap₂, ◌∙◌, subst, ⊎_elim}
use mathlib.Core.List.Memᴰ
use mathlib.Core.List.{List, [], ◌∷◌, ◌++◌, Memᴰ}
use Rattle.std.specs.Int.Signed.{le_z, ≤ℤ_refl, clash_ℤ}
use borrow.Author.Tests.{eqb-true, le-leb, lt-ltb, not-false, not-true}
use Rattle.base.specs.TestLaws.{and-true, unequal}
use Rattle.base.specs.SignedLaws.{le_z-pos, lt_z-pos, max_least}
use Rattle.base.specs.InsertionLaws.{mem_insert}
use Rattle.numeric.specs.Threshold.{Term, Threshold, Job}
use Rattle.numeric.specs.Layout.{Layout, IsLayout, constraint, value}
use Rattle.numeric.specs.LayoutLaws.{sum_of, value-sum}
use Rattle.row.specs.Terms.{row_terms, same_terms}
use Rattle.row.specs.SumLaws.{row-sum}
use Rattle.rows.specs.Rows.{Row, row_of, Guard, guard, no_row, insert_guard, below, place, place_all, rows_of}
use Rattle.theorem_table.specs.Table.{Table, possible, terms_of, Guards, known_of, possible_of, reached_of, Step, sure-guard, never-guard, bound-reached, bound-out-of-reach, term-needed, term-too-heavy, longer-lower, shorter-upper, Conflict, both, lower-above, upper-reached, AtRest}
use Rattle.theorem_table.specs.OrderLaws.{le, lt, of_le, ≤ℤ_trans, pos_≤ℤ}
use Rattle.theorem_table.proofs.TableLaws.{Le, known-sum, Follows, conflict_up}

-- ROWS come from thresholds: a row's terms are those of its raw list, and each of its guards is a threshold with that list

same_terms_lem : (ts us : List Term) → same_terms ts us ≡ true → ts ≡ us
unfolding same_terms
same_terms_lem [] [] h = refl
same_terms_lem [] (u ∷ us) h = absurd (unequal cc)
same_terms_lem (t ∷ ts) [] h = absurd (unequal cc)
same_terms_lem (t ∷ ts) (u ∷ us) h =
    let a = and-true (eqb t.condition u.condition && eqb t.weight u.weight) (same_terms ts us) h in
    let b = and-true (eqb t.condition u.condition) (eqb t.weight u.weight) a.0 in
    ap₂ (λ (x : Term) (xs : List Term). x ∷ xs)
    (λ i. record { condition = eqb-true t.condition u.condition b.0 i; weight = eqb-true t.weight u.weight b.1 i })
    (same_terms_lem ts us a.1)

-- every guard of a list has a property
abbrev AllGuards : (Guard → Type 0) → List Guard → Type 0
AllGuards P gs = (g : Guard) → Memᴰ g gs → P g

inserted : (P : Guard → Type 0) (g : Guard) (gs : List Guard) → P g → AllGuards P gs → AllGuards P (insert_guard g gs)
inserted P g gs h k x m = ⊎_elim (λ (e : x ≡ g). subst P (sym e) h) (k x) (mem_insert below x g gs m)

-- a row that thresholds of the list made
pub record Made (all : List Threshold) (r : Row) : Type 0 where
  pub terms : r.terms ≡ row_terms r.raw
  pub guards : AllGuards (λ (g : Guard). (t : Threshold) × Memᴰ t all × (t.terms ≡ r.raw) × (g ≡ guard t.bound t.node)) r.guards

abbrev AllMade : List Threshold → List Row → Type 0
AllMade all [] = Unit {0}
AllMade all (r ∷ rs) = Made all r × AllMade all rs

placed : (all : List Threshold) (t : Threshold) (rs : List Row) → Memᴰ t all → AllMade all rs → AllMade all (place t rs)
unfolding place
placed all t [] m h =
    (record { terms = refl; guards = λ g k. ⊎_elim (λ (e : g ≡ guard t.bound t.node). (t, m, refl, e)) (λ n. absurd (Memᴰ.not-nil n)) (Memᴰ.cases_cons k) }, tt)
placed all t (r ∷ rs) m h = by (λ k. placed all t rs m k) (same_terms r.raw t.terms) refl
  where
    by : (AllMade all rs → AllMade all (place t rs)) → (b : Bool) → same_terms r.raw t.terms ≡ b
        → AllMade all (elim b [ true ↦ row_of r.raw r.terms (insert_guard (guard t.bound t.node) r.guards) ∷ rs | false ↦ r ∷ place t rs ])
    by ih true e =
        (record { terms = h.0.terms; guards = inserted _ (guard t.bound t.node) r.guards (t, m, sym (same_terms_lem r.raw t.terms e), refl) h.0.guards }, h.1)
    by ih false e = (h.0, ih h.1)

placed_all : (all ts : List Threshold) (rs : List Row) → ((t : Threshold) → Memᴰ t ts → Memᴰ t all) → AllMade all rs → AllMade all (place_all ts rs)
unfolding place_all
placed_all all [] rs m h = h
placed_all all (t ∷ ts) rs m h = placed_all all ts (place t rs) (λ x k. m x (Memᴰ.tail k)) (placed all t rs (m t (Memᴰ.head refl)) h)

made_at_lem : (all : List Threshold) (rs : List Row) (r : ℕ) → AllMade all rs → r < length rs → Made all (get_or rs r no_row)
made_at_lem all [] r h k = absurd (not-suc-le-zero k)
made_at_lem all (x ∷ xs) zero h k = h.0
made_at_lem all (x ∷ xs) (suc r) h k = made_at_lem all xs r h.1 (le_of_suc-le-suc k)

-- EACH ROW OF A JOB
pub row_made : (j : Job) (r : ℕ) → r < length (rows_of j) → Made j.thresholds (get_or (rows_of j) r no_row)
row_made j r h = made_at_lem j.thresholds (rows_of j) r (placed_all j.thresholds j.thresholds [] (λ t m. m) tt) h

-- SUMS under a layout

flip : (b : Bool) (w : ℕ) → cond (not b) 0 w ≡ cond b w 0
flip true w = refl
flip false w = refl

possible-sum : (v : Layout) (ts : List Term) → possible (λ (n : ℕ). not (v n)) ts ≡ sum_of v ts
unfolding possible sum_of
possible-sum v [] = refl
possible-sum v (t ∷ ts) = ap₂ (λ (a b : ℕ). a + b) (flip (v t.condition) t.weight) (possible-sum v ts)

sum_prefix : (v : Layout) (ts us : List Term) → sum_of v ts ≤ sum_of v (ts ++ us)
unfolding sum_of
sum_prefix v [] us = omega arith
sum_prefix v (t ∷ ts) us = let h = sum_prefix v ts us in omega arith

-- THE STATE OF A LAYOUT: every node decided, every row's bounds closed round its sum
abbrev pub of_layout : List Row → Layout → Table
of_layout rows v = record {
  sure = v;
  never = λ (n : ℕ). not (v n);
  lower = λ (r : ℕ). pos (sum_of v (terms_of rows r));
  upper = λ (r : ℕ). Some (pos (suc (sum_of v (terms_of rows r))));
}

not_both : (b : Bool) → b ≡ true → not b ≡ true → ⊥
not_both true h k = unequal cc
not_both false h k = unequal cc

module _ (j : Job) (v : Layout) (is : IsLayout j v) where
  -- a guard's node is true exactly if its row's sum reaches its bound
  guard-value : (r : ℕ) (g : Guard) → Guards (rows_of j) r g → v g.node ≡ le_z g.bound (pos (sum_of v (terms_of (rows_of j) r)))
  guard-value r g i =
      let m = row_made j r i.0 in
      let o = m.guards g i.1 in
      let t = o.0 in
      let e : value v (constraint t).sum ≡ pos (sum_of v (terms_of (rows_of j) r)) =
      value-sum v t.terms ∙ ap pos (ap (sum_of v) o.2 ∙ sym (row-sum v (get_or (rows_of j) r no_row).raw) ∙ ap (sum_of v) (sym m.terms)) in
      ap (λ (x : Guard). v x.node) o.3 ∙ is t o.1 ∙ ap (le_z t.bound) e ∙ ap (λ (x : Guard). le_z x.bound (pos (sum_of v (terms_of (rows_of j) r)))) (sym o.3)

  reached-sum : (r : ℕ) → reached_of (rows_of j) (of_layout (rows_of j) v) r ≤ℤ pos (sum_of v (terms_of (rows_of j) r))
  reached-sum r =
      let n = sum_of v (terms_of (rows_of j) r) in
      let k = known_of (rows_of j) (of_layout (rows_of j) v) r in
      le (max_least k (pos n) (pos n) (of_le (subst (λ (z : ℕ). pos z ≤ℤ pos n) (sym (known-sum v (terms_of (rows_of j) r))) (≤ℤ_refl (pos n)))) (of_le (≤ℤ_refl (pos n))))

  above-sum : (n : ℕ) (z : ℤ) → le_z z (pos n) ≡ false → pos (suc n) ≤ℤ z
  above-sum n (pos m) h = le (le_z-pos (suc n) m ∙ le-leb (suc n) m (let k = borrow.Author.Tests.leb-false m n (sym (le_z-pos m n) ∙ h) in omega arith))
  above-sum n (negsuc m) h = absurd (unequal cc)

  no-conflict : Conflict (rows_of j) (of_layout (rows_of j) v) → ⊥
  no-conflict (both n h k) = not_both (v n) h k
  no-conflict (lower-above r i h) = clash_ℤ h (subst (λ (z : ℕ). pos (sum_of v (terms_of (rows_of j) r)) ≤ℤ pos z) (sym (possible-sum v (terms_of (rows_of j) r))) (≤ℤ_refl _))
  no-conflict (upper-reached r i h) = clash_ℤ (lt (lt_z-pos n (suc n) ∙ lt-ltb n (suc n) (le_refl (suc n)))) (≤ℤ_trans h (reached-sum r))
    where
      n : ℕ
      n = sum_of v (terms_of (rows_of j) r)

  no_step : (t : Table) → Step (rows_of j) (of_layout (rows_of j) v) t → ⊥
  no_step t (sure-guard r g i e h) = clash_ℤ h (le (sym (guard-value r g i) ∙ e))
  no_step t (never-guard r g i e h) = clash_ℤ h (above-sum (sum_of v (terms_of (rows_of j) r)) g.bound (sym (guard-value r g i) ∙ not-true (v g.node) e.0))
  no_step t (bound-reached r g i h e) = not_both (v g.node) (guard-value r g i ∙ of_le (≤ℤ_trans h.1 (reached-sum r))) (ap not e)
  no_step t (bound-out-of-reach r g i h e) =
      ⊎_elim
      (λ (x : possible_of (rows_of j) (of_layout (rows_of j) v) r <ℤ g.bound).
      clash_ℤ (subst (λ (z : ℕ). pos z <ℤ g.bound) (possible-sum v (terms_of (rows_of j) r)) x) reaches)
      (λ (x : pos (suc n) ≤ℤ g.bound). clash_ℤ (lt (lt_z-pos n (suc n) ∙ lt-ltb n (suc n) (le_refl (suc n)))) (≤ℤ_trans x reaches)) h.1
    where
      n : ℕ
      n = sum_of v (terms_of (rows_of j) r)

      reaches : g.bound ≤ℤ pos (sum_of v (terms_of (rows_of j) r))
      reaches = le (sym (guard-value r g i) ∙ not-false (v g.node) e)
  no_step t (term-needed r x i d h) = not_both (v x.condition) (not-false (v x.condition) d.1) (ap not d.0)
  no_step t (term-too-heavy r x u i d e h) = not_both (v x.condition) (not-false (v x.condition) d.1) (ap not d.0)
  no_step t (longer-lower r q i h) =
      clash_ℤ h (pos_≤ℤ (subst (λ (ts : List Term). sum_of v (terms_of (rows_of j) r) ≤ sum_of v ts) (sym i.2.1) (sum_prefix v (terms_of (rows_of j) r) i.2.0)))
  no_step t (shorter-upper r q i h) =
      clash_ℤ h (pos_≤ℤ (let k = subst (λ (ts : List Term). sum_of v (terms_of (rows_of j) r) ≤ sum_of v ts) (sym i.2.1) (sum_prefix v (terms_of (rows_of j) r) i.2.0) in omega arith))

  -- A LAYOUT IS AT REST
  pub layout_rests : AtRest (rows_of j) (of_layout (rows_of j) v)
  layout_rests = (no-conflict, no_step)

  -- WHAT FOLLOWS from nodes that a layout agrees with, the layout agrees with
  pub layout_agrees : (s t : Table) → Le s (of_layout (rows_of j) v) → Follows (rows_of j) s t → Le t (of_layout (rows_of j) v)
  layout_agrees s t h f = f (of_layout (rows_of j) v) h layout_rests

  -- WHERE A CONFLICT FOLLOWS there is no layout
  pub no_layout : (s t : Table) → Le s (of_layout (rows_of j) v) → Follows (rows_of j) s t → Conflict (rows_of j) t → ⊥
  no_layout s t h f c = no-conflict (conflict_up (rows_of j) t (of_layout (rows_of j) v) (layout_agrees s t h f) c)
