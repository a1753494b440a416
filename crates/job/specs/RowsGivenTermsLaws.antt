-- The terms of all rows: their conditions are conditions of the raw lists, and they are no more than the raw terms.
use Prim.Native.Nat.{ℕ, zero, suc, ◌+◌, ◌-◌, ◌<◌, ◌≤◌}
use Rattle.std.proofs.Common.{not-suc-le-zero, sym, ap, ◌∙◌, subst, length-take}
use native.Mathlib.Omega.{arith}
use Rattle.std.specs.Prelude.{◌≡◌, Bool, cond, length, take, drop, get_or, ℤ, eqb, ltb}
use Rattle.std.proofs.Math.Bool.{true, false}
use mathlib.Core.List.{List, [], ◌∷◌, ◌++◌, map}
use Rattle.std.proofs.Math.ListN.{length-append}
use Rattle.base.specs.All.{All}
use Rattle.base.specs.Parts.{end_by, start_by, stretch}
use Rattle.base.specs.Laid.{join_all}
use Rattle.numeric.specs.Threshold.{Term}
use Rattle.numeric.specs.Slices.{terms}
use Rattle.numeric.specs.TermsLaws.{length-terms}
use Rattle.base.specs.InsertionLaws.{sort_length}
use Rattle.row.specs.Terms.{before, merge, merged, row_terms}
use Rattle.row.specs.TermsLaws.{either, all_sorted, conditions-merged}
use Rattle.memory.specs.Buffers.{RawLists}
use Rattle.job.specs.Shared.{number_in, joined, raws_to, terms_to}
use Rattle.rows.specs.Lists.{list_at, Lists}
use Rattle.rows.specs.Laid.{conditions, term_lists}
use Rattle.job.specs.Given.{given_rows}
use Rattle.job.specs.RowsGivenLaws.{terms-given}

-- ---- what holds of each element

module _ {X : Type 0} (P : X → Type 0) where
  all_from : (xs : List X) (d : X) → ((i : ℕ) → i < length xs → P (get_or xs i d)) → All P xs
  all_from [] d h = tt
  all_from (x ∷ xs) d h = (h 0 (omega arith), all_from xs d (λ i k. h (suc i) (omega arith)))

  all_at : (xs : List X) (d : X) → All P xs → (i : ℕ) → i < length xs → P (get_or xs i d)
  all_at [] d h i k = absurd (not-suc-le-zero k)
  all_at (x ∷ xs) d h zero k = h.0
  all_at (x ∷ xs) d h (suc i) k = all_at xs d h.1 i (omega arith)

  all_take : (n : ℕ) (xs : List X) → All P xs → All P (take n xs)
  all_take zero xs h = tt
  all_take (suc n) [] h = tt
  all_take (suc n) (x ∷ xs) h = (h.0, all_take n xs h.1)

  all_drop : (n : ℕ) (xs : List X) → All P xs → All P (drop n xs)
  all_drop zero xs h = h
  all_drop (suc n) [] h = tt
  all_drop (suc n) (x ∷ xs) h = all_drop n xs h.1

  all_append : (xs ys : List X) → All P xs → All P ys → All P (xs ++ ys)
  all_append [] ys h k = k
  all_append (x ∷ xs) ys h k = (h.0, all_append xs ys h.1 k)

  all_join : (ls : List (List X)) → All (λ (l : List X). All P l) ls → All P (join_all ls)
  unfolding join_all
  all_join [] h = tt
  all_join (l ∷ ls) h = all_append l (join_all ls) h.0 (all_join ls h.1)

all_figures : {X Y : Type 0} (f : X → Y) (P : X → Type 0) (Q : Y → Type 0) (xs : List X) → ((x : X) → P x → Q (f x)) → All P xs → All Q (map f xs)
all_figures f P Q [] g h = tt
all_figures f P Q (x ∷ xs) g h = (g x h.0, all_figures f P Q xs g h.1)

-- ---- conditions

module _ (P : ℕ → Type 0) where
  -- of a term's condition
  abbrev Of : Term → Type 0
  Of t = P t.condition

  terms-of : (cs ws : List ℕ) → All P cs → All Of (terms cs ws)
  unfolding terms
  terms-of [] ws h = tt
  terms-of (c ∷ cs) [] h = tt
  terms-of (c ∷ cs) (w ∷ ws) h = (h.0, terms-of cs ws h.1)

  list_of : (r : RawLists) (t : ℕ) → All P r.raw-conditions → All Of (list_at r t)
  unfolding list_at
  list_of r t h =
      let a = start_by 1 r.thresholds t in
      let e = end_by 1 r.thresholds t in
      terms-of (stretch a e r.raw-conditions) (stretch a e r.raw-weights) (all_take P (e - a) (drop a r.raw-conditions) (all_drop P a r.raw-conditions h))

  raws-of : (r : RawLists) (t : ℕ) → All P r.raw-conditions → All (λ (l : List Term). All Of l) (raws_to r t)
  unfolding raws_to
  raws-of r zero h = tt
  raws-of r (suc t) h = by (raws-of r t h) (ltb (number_in (raws_to r t) (list_at r t)) (length (raws_to r t)))
    where
      by : All (λ (l : List Term). All Of l) (raws_to r t) → (b : Bool) → All (λ (l : List Term). All Of l) (cond b (raws_to r t) (raws_to r t ++ (list_at r t ∷ [])))
      by ih true = ih
      by ih false = all_append (λ (l : List Term). All Of l) (raws_to r t) (list_at r t ∷ []) ih (list_of r t h, tt)

  row_of : (raw : List Term) → All Of raw → All Of (row_terms raw)
  row_of raw h = all_sorted Of (merged raw) (conditions-merged P raw h)

  -- WHAT HOLDS OF EVERY RAW CONDITION HOLDS OF EVERY CONDITION OF A ROW.
  pub conditions_hold : (r : RawLists) (t : ℕ) → All P r.raw-conditions → All P (conditions (join_all (terms_to r t)))
  conditions_hold r t h =
      all_figures (λ (u : Term). u.condition) Of P (join_all (terms_to r t)) (λ u k. k)
      (all_join Of (terms_to r t)
      (all_figures (λ (l : List Term). row_terms l) (λ (l : List Term). All Of l) (λ (l : List Term). All Of l) (raws_to r t) row_of (raws-of r t h)))

-- CONDITIONS OF ROWS ARE NODES IF RAW CONDITIONS ARE.
pub conditions-given : (r : RawLists) (bounds : List ℤ) (m : ℕ) (cs : List ℕ) → cs ≡ conditions (join_all (term_lists (given_rows r bounds)))
    → ((i : ℕ) → i < length r.raw-conditions → get_or r.raw-conditions i 0 < m) → (i : ℕ) → i < length cs → get_or cs i 0 < m
conditions-given r bounds m cs e h =
    all_at (λ (c : ℕ). c < m) cs 0
    (subst (λ (l : List ℕ). All (λ (c : ℕ). c < m) l) (ap (λ (ls : List (List Term)). conditions (join_all ls)) (terms-given r bounds) ∙ sym e)
    (conditions_hold (λ (c : ℕ). c < m) r (length r.thresholds) (all_from (λ (c : ℕ). c < m) r.raw-conditions 0 h)))

-- ---- how many there are

length-merge : (t : Term) (us : List Term) → length (merge t us) ≤ suc (length us)
unfolding merge
length-merge t [] = omega arith
length-merge t (u ∷ us) =
    either (λ (l : List Term). length l ≤ suc (suc (length us))) (eqb t.condition u.condition) (λ e. omega arith) (λ e. let q = length-merge t us in omega arith)

length_merged : (raw : List Term) → length (merged raw) ≤ length raw
unfolding merged
length_merged [] = omega arith
length_merged (t ∷ ts) =
    either (λ (l : List Term). length l ≤ suc (length ts)) (eqb t.weight 0) (λ e. let q = length_merged ts in omega arith)
    (λ e. let q = length_merged ts in let p = length-merge t (merged ts) in omega arith)

-- A row has no more terms than its raw list.
pub row_short : (raw : List Term) → length (row_terms raw) ≤ length raw
row_short raw = let p = sort_length before (merged raw) in let q = length_merged raw in omega arith

list_short : (r : RawLists) (t : ℕ) → length (list_at r t) ≤ end_by 1 r.thresholds t - start_by 1 r.thresholds t
unfolding list_at
list_short r t =
    let a = start_by 1 r.thresholds t in
    let e = end_by 1 r.thresholds t in
    let p = length-terms (stretch a e r.raw-conditions) (stretch a e r.raw-weights) in
    let q = length-take (e - a) (drop a r.raw-conditions) in
    omega arith

module _ (f : List Term → List Term) where
  join_last : (ls : List (List Term)) (x : List Term) → length (join_all (map f (ls ++ (x ∷ [])))) ≡ length (join_all (map f ls)) + length (f x)
  unfolding join_all
  join_last [] x = let q = length-append (f x) [] in omega arith
  join_last (l ∷ ls) x =
      let p = length-append (f l) (join_all (map f (ls ++ (x ∷ [])))) in
      let q = length-append (f l) (join_all (map f ls)) in
      let i = join_last ls x in
      omega arith

  join-joined : (ls : List (List Term)) (x : List Term) → length (join_all (map f (joined ls x))) ≤ length (join_all (map f ls)) + length (f x)
  join-joined ls x = by (ltb (number_in ls x) (length ls))
    where
      by : (b : Bool) → length (join_all (map f (cond b ls (ls ++ (x ∷ []))))) ≤ length (join_all (map f ls)) + length (f x)
      by true = omega arith
      by false = let q = join_last ls x in omega arith

-- The terms of the rows so far are no more than the raw terms so far.
pub terms_few : (r : RawLists) (n t : ℕ) → Lists r n → t ≤ n → length (join_all (terms_to r t)) ≤ start_by 1 r.thresholds t
unfolding raws_to start_by join_all
terms_few r n zero l h = omega arith
terms_few r n (suc t) l h =
    let i = terms_few r n t l (omega arith) in
    let j = join-joined (λ (x : List Term). row_terms x) (raws_to r t) (list_at r t) in
    let p = row_short (list_at r t) in
    let q = list_short r t in
    let u = l.rising t h in
    omega arith

-- So the next raw list has room behind them,
pub terms_room : (r : RawLists) (n t : ℕ) → Lists r n → t < n
    → length (join_all (terms_to r t)) + (end_by 1 r.thresholds t - start_by 1 r.thresholds t) ≤ length r.raw-conditions
terms_room r n t l h =
    let i = terms_few r n t l (omega arith) in
    let u = l.rising t h in
    let v = l.inside t h in
    omega arith

-- and at the end they are no more than all raw terms.
pub terms_fit : (r : RawLists) (n : ℕ) → Lists r n → length (join_all (terms_to r n)) ≤ length r.raw-conditions
unfolding raws_to start_by join_all
terms_fit r zero l = omega arith
terms_fit r (suc n) l =
    let i = terms_few r (suc n) (suc n) l (omega arith) in
    let v = l.inside n (omega arith) in
    omega arith

-- THE ROWS OF THE JOB HAVE NO MORE TERMS THAN ITS RAW LISTS.
pub terms-most : (r : RawLists) (bounds : List ℤ) → Lists r (length r.thresholds) → length (join_all (term_lists (given_rows r bounds))) ≤ length r.raw-conditions
terms-most r bounds l =
    subst (λ (ls : List (List Term)). length (join_all ls) ≤ length r.raw-conditions) (terms-given r bounds) (terms_fit r (length r.thresholds) l)
