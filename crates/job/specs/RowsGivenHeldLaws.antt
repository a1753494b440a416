-- Terms laid one behind the other, with their ends in the first column of the rows: what the buffers hold are these lists.
use Prim.Native.Nat.{ℕ, zero, suc, ◌+◌, ◌<◌, ◌≤◌}
use Rattle.std.proofs.Common.{zero-add, add-one, ◌∙◌, subst, drop_of_length-le, drop-cons}
use native.Mathlib.Omega.{arith}
use Rattle.std.specs.Prelude.{◌≡◌, refl, get_or}
use Rattle.std.proofs.Math.Path.{sym, ap, ap₂}
use mathlib.Core.List.{List, [], ◌∷◌, ◌++◌, map, append-nil}
use Rattle.std.proofs.Math.ListN.{length, drop}
use Rattle.std.proofs.lemmas.List.{length-map}
use Rattle.base.specs.Parts.{end_by, start_by, stretch, Inside}
use Rattle.base.specs.Laid.{join_all, ends}
use Rattle.base.specs.Deal.{Keyed}
use Rattle.base.specs.Columns.{column}
use Rattle.numeric.specs.Threshold.{Term}
use Rattle.numeric.specs.Slices.{terms}
use Rattle.rows.specs.Laid.{conditions, weights}
use Rattle.job.specs.Incidents.{incidents_from, held_terms, held_lists, held_items}
use Rattle.job.specs.IncidentsLaws.{keys_from}
use Rattle.job.specs.RowsGivenLaidLaws.{over-figures, laid_long, laid_rising, laid_inside}

-- Terms are told by their conditions and weights.
pub terms_back : (ts : List Term) → terms (conditions ts) (weights ts) ≡ ts
unfolding terms
terms_back [] = refl
terms_back (t ∷ ts) = ap (λ (l : List Term). t ∷ l) (terms_back ts)

-- THE TERMS OF ROW k ARE LIST k, in whole buffers, whatever stands behind.
pub held_over : (cs ws : List ℕ) (rows : List (List ℕ)) (ls : List (List Term)) (cmore wmore more : List ℕ)
    → cs ≡ conditions (join_all ls) ++ cmore → ws ≡ weights (join_all ls) ++ wmore → column 0 rows ≡ ends 0 ls ++ more
    → (k : ℕ) → k < length ls → held_terms cs ws rows k ≡ get_or ls k []
held_over cs ws rows ls cmore wmore more c w e k h =
    let a = start_by 0 rows k in
    let b = end_by 0 rows k in
    ap₂ (λ (x y : List ℕ). terms (stretch a b x) (stretch a b y)) c w
    ∙ ap₂ terms (over-figures 0 rows ls more e k h (λ (t : Term). t.condition) cmore) (over-figures 0 rows ls more e k h (λ (t : Term). t.weight) wmore)
    ∙ terms_back (get_or ls k [])

-- In buffers cut to what they hold.
module _ (cs ws : List ℕ) (rows : List (List ℕ)) (ls : List (List Term))
    (c : cs ≡ conditions (join_all ls)) (w : ws ≡ weights (join_all ls)) (e : column 0 rows ≡ ends 0 ls) where
  -- THE TERMS OF ROW k ARE LIST k.
  pub held_terms_lem : (k : ℕ) → k < length ls → held_terms cs ws rows k ≡ get_or ls k []
  held_terms_lem =
      held_over cs ws rows ls [] [] [] (c ∙ sym (append-nil (conditions (join_all ls)))) (w ∙ sym (append-nil (weights (join_all ls)))) (e ∙ sym (append-nil (ends 0 ls)))

  held-from : (n k : ℕ) → n + k ≡ length ls → held_lists cs ws rows n k ≡ drop n ls
  unfolding held_lists
  held-from n zero h = let q : length ls ≤ n = omega arith in sym (drop_of_length-le ls q)
  held-from n (suc k) h =
      ap₂ (λ (l : List Term) (t : List (List Term)). l ∷ t) (held_terms_lem n (omega arith)) (held-from (n + 1) k (omega arith) ∙ ap (λ (m : ℕ). drop m ls) (add-one n))
      ∙ sym (drop-cons ls n [] (omega arith))

  -- THE TERMS OF ALL ROWS ARE THE LISTS.
  pub held_lists_lem : held_lists cs ws rows 0 (length ls) ≡ ls
  held_lists_lem = held-from 0 (length ls) (zero-add (length ls))

  pub held_items_lem : held_items cs ws rows ≡ incidents_from 0 ls
  held_items_lem = ap (incidents_from 0) (ap (held_lists cs ws rows 0) (laid_long 0 rows ls e) ∙ held_lists_lem)

  length-conditions : length cs ≡ length (join_all ls)
  length-conditions = ap length c ∙ length-map (join_all ls) (λ (t : Term). t.condition)

  -- What an index of all terms asks: rows end one behind the other inside the terms,
  pub held_ends : Inside 0 rows (length cs)
  held_ends = record {
    rising = λ k h. laid_rising 0 rows ls e k (listed k h);
    ends = λ k h. subst (λ (n : ℕ). end_by 0 rows k ≤ n) (sym length-conditions) (laid_inside 0 rows ls e k (listed k h));
  }
    where
      listed : (k : ℕ) → k < length rows → k < length ls
      listed k h = subst (λ (n : ℕ). k < n) (laid_long 0 rows ls e) h

  -- the weights are as many as the conditions,
  pub held_even : length ws ≡ length cs
  held_even = ap length w ∙ length-map (join_all ls) (λ (t : Term). t.weight) ∙ sym length-conditions

  -- and the conditions are the keys.
  pub held_keys : cs ≡ map (λ (x : Keyed (List ℕ)). x.key) (held_items cs ws rows)
  held_keys = c ∙ sym (keys_from 0 ls) ∙ ap (map (λ (x : Keyed (List ℕ)). x.key)) (sym held_items_lem)
