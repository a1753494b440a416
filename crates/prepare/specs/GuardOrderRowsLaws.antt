-- The guards of one row as thresholds are placed: those of the thresholds whose raw list is the row's, in the order of their keys.
use Prim.Native.Nat.{ℕ, zero, suc, ◌+◌, ◌%◌, ◌≤◌, ◌<◌}
use Rattle.std.proofs.Common.{le_refl, arith, sym, ap, ◌∙◌, eq-eqb, ne_eqb, eqb-true}
use Rattle.std.specs.Prelude.{◌≡◌, Bool, true, false, cond, length, get_or, eqb, ℤ}
use Rattle.std.proofs.Math.Path.{refl}
use mathlib.Core.List.{List, [], ◌∷◌, map}
use Rattle.std.proofs.lemmas.Bool.{eqb-false}
use Rattle.base.specs.All.{All}
use Rattle.memory.specs.Limits.{max_thresholds}
use Rattle.base.specs.Laid.{numbers}
use Rattle.numeric.specs.Threshold.{Threshold}
use Rattle.row.specs.Terms.{same_terms}
use Rattle.sort.specs.Sorted.{put, sorted}
use Rattle.base.specs.InsertionLaws.{all_map}
use Rattle.base.specs.Insertion.{insert}
use Rattle.sort.specs.SortedLaws.{all_put}
use Rattle.memory.specs.Buffers.{RawLists}
use Rattle.rows.specs.Lists.{list_at}
use Rattle.rows.specs.ListsLaws.{same_refl}
use Rattle.rows.specs.Rows.{Row, Guard, guard, insert_guard, place, place_all, row_number, no_row}
use Rattle.job.specs.RowsLaws.{number_all}
use Rattle.rows.specs.Guards.{Bounds, guard_keys, node_at}
use Rattle.job.specs.Given.{threshold_at, given_rows}
use Rattle.prepare.specs.GuardOrderPickedLaws.{picked, picked_same, picked_other, picked_sorted, put_all, put-sorted}
use Rattle.prepare.specs.GuardOrderKeysLaws.{guard_at, key_at, key_guard, Before, keys_are, picked_keys, insert_key}

abbrev pub guards_at : List Row → ℕ → List Guard
guards_at rs k = (get_or rs k no_row).guards

-- ---- one threshold more

eqb_next : (n m : ℕ) → eqb (1 + n) (suc m) ≡ eqb n m
eqb_next n m = by (eqb n m) refl
  where
    by : (b : Bool) → eqb n m ≡ b → eqb (1 + n) (suc m) ≡ b
    by true e = eq-eqb (1 + n) (suc m) (let q = eqb-true n m e in omega arith)
    by false e = ne_eqb (1 + n) (suc m) (λ z. eqb-false n m e (omega arith))

-- The guards of row k: the threshold's is inserted if that is its row.
pub guards-placed : (t : Threshold) (rs : List Row) (k : ℕ)
    → guards_at (place t rs) k ≡ cond (eqb (row_number rs t.terms) k) (insert_guard (guard t.bound t.node) (guards_at rs k)) (guards_at rs k)
unfolding place row_number insert
guards-placed t [] zero = refl
guards-placed t [] (suc k) = rw (ne_eqb 0 (suc k) (λ e. omega arith)) refl
guards-placed t (r ∷ rs) k = by (λ j. guards-placed t rs j) (same_terms r.raw t.terms) refl k
  where
    by : ((j : ℕ) → guards_at (place t rs) j ≡ cond (eqb (row_number rs t.terms) j) (insert_guard (guard t.bound t.node) (guards_at rs j)) (guards_at rs j))
        → (b : Bool) → same_terms r.raw t.terms ≡ b → (k : ℕ)
        → guards_at (place t (r ∷ rs)) k ≡ cond (eqb (row_number (r ∷ rs) t.terms) k) (insert_guard (guard t.bound t.node) (guards_at (r ∷ rs) k)) (guards_at (r ∷ rs) k)
    by ih true e zero = rw (e, place, row_number)
    by ih true e (suc j) = rw (e, place, row_number) (rw (ne_eqb 0 (suc j) (λ q. omega arith)))
    by ih false e zero = rw (e, place, row_number) (rw (ne_eqb (1 + row_number rs t.terms) 0 (λ q. omega arith)))
    by ih false e (suc j) = rw (e, place, row_number) (rw (eqb_next (row_number rs t.terms) j) (ih j))

-- Its row has its number from then on, and is there.
number_placed : (t : Threshold) (rs : List Row)
    → (row_number (place t rs) t.terms ≡ row_number rs t.terms) × (row_number rs t.terms < length (place t rs))
unfolding place row_number
number_placed t [] = (rw (same_refl t.terms, row_number), omega arith)
number_placed t (r ∷ rs) = by (number_placed t rs) (same_terms r.raw t.terms) refl
  where
    by : (row_number (place t rs) t.terms ≡ row_number rs t.terms) × (row_number rs t.terms < length (place t rs)) → (b : Bool)
        → same_terms r.raw t.terms ≡ b
        → (row_number (place t (r ∷ rs)) t.terms ≡ row_number (r ∷ rs) t.terms) × (row_number (r ∷ rs) t.terms < length (place t (r ∷ rs)))
    by ih true e = (rw (e, place, row_number) (rw (e, row_number)), rw (e, place) (rw (e, row_number) (omega arith)))
    by ih false e =
        let q = ih.1 in
        (rw (e, place, row_number) (rw (e, row_number) (ap (λ (n : ℕ). 1 + n) ih.0)), rw (e, place) (rw (e, row_number) (omega arith)))

pub number_given : (t : Threshold) (ts : List Threshold) (rs : List Row) → row_number (place_all ts (place t rs)) t.terms ≡ row_number rs t.terms
number_given t ts rs =
    let q = number_placed t rs in
    let e = q.0 in
    let h = q.1 in
    number_all ts (place t rs) t.terms (omega arith) ∙ e

-- Rows are only added.
rows_more : (t : Threshold) (rs : List Row) → length rs ≤ length (place t rs)
unfolding place
rows_more t [] = omega arith
rows_more t (r ∷ rs) = by (rows_more t rs) (same_terms r.raw t.terms) refl
  where
    by : length rs ≤ length (place t rs) → (b : Bool) → same_terms r.raw t.terms ≡ b → length (r ∷ rs) ≤ length (place t (r ∷ rs))
    by ih true e = rw (e, place) (omega arith)
    by ih false e = rw (e, place) (omega arith)

rows_all : (ts : List Threshold) (rs : List Row) → length rs ≤ length (place_all ts rs)
unfolding place_all
rows_all [] rs = le_refl (length rs)
rows_all (t ∷ ts) rs = let a = rows_more t rs in let b = rows_all ts (place t rs) in omega arith

there_from : (f : ℕ → Threshold) (m a : ℕ) (rs : List Row) (t : ℕ) → a ≤ t → t < a + m
    → row_number (place_all (map f (numbers a m)) rs) (f t).terms < length (place_all (map f (numbers a m)) rs)
unfolding numbers place_all
there_from f zero a rs t h k = absurd (omega arith)
there_from f (suc m) a rs t h k = by (λ q. there_from f m (a + 1) (place (f a) rs) t q (omega arith)) (eqb t a) refl
  where
    all : List Row
    all = place_all (map f (numbers (a + 1) m)) (place (f a) rs)

    by : (a + 1 ≤ t → row_number all (f t).terms < length all) → (b : Bool) → eqb t a ≡ b → row_number all (f t).terms < length all
    by ih true e =
        let q = ap (λ (s : ℕ). row_number all (f s).terms) (eqb-true t a e) in
        let n = number_given (f a) (map f (numbers (a + 1) m)) rs in
        let l = (number_placed (f a) rs).1 in
        let u = rows_all (map f (numbers (a + 1) m)) (place (f a) rs) in
        omega arith
    by ih false e = let n = eqb-false t a e in ih (omega arith)

-- THE ROW OF EVERY THRESHOLD IS THERE.
pub row_there : (r : RawLists) (bounds : List ℤ) (t : ℕ) → t < length r.thresholds → row_number (given_rows r bounds) (list_at r t) < length (given_rows r bounds)
row_there r bounds t h = there_from (threshold_at r bounds) (length r.thresholds) 0 [] t (omega arith) (omega arith)

-- ---- the guards of row k, after all thresholds

module _ (r : RawLists) (bounds : List ℤ) (same : length bounds ≡ length r.thresholds) (many : length bounds ≤ max_thresholds) (good : Bounds bounds)
    (up : (t : ℕ) → t + 1 < length bounds → node_at r.thresholds t < node_at r.thresholds (t + 1)) (row : ℕ → ℕ) (k : ℕ) where
  abbrev rows_from : ℕ → ℕ → List Row → List Row
  rows_from a m rs = place_all (map (threshold_at r bounds) (numbers a m)) rs

  abbrev guards : List ℕ → List Guard
  guards = map (key_guard r.thresholds bounds)

  placed-from : (m a : ℕ) (rs : List Row) (l : List ℕ) → a + m ≤ length bounds
      → ((t : ℕ) → a ≤ t → t < a + m → row t ≡ row_number (rows_from a m rs) (list_at r t)) → All (Before bounds a) l → guards_at rs k ≡ guards l
      → guards_at (rows_from a m rs) k ≡ guards (put_all (map (key_at bounds) (picked row k (numbers a m))) l)
  unfolding numbers place_all picked put_all
  placed-from zero a rs l h n b e = e
  placed-from (suc m) a rs l h n b e =
      by (placed-from m (a + 1) (place (threshold_at r bounds a) rs)) (eqb (row a) k) refl
    where
      rs' : List Row
      rs' = place (threshold_at r bounds a) rs

      number : row a ≡ row_number rs (list_at r a)
      number = n a (le_refl a) (omega arith) ∙ number_given (threshold_at r bounds a) (map (threshold_at r bounds) (numbers (a + 1) m)) rs

      later : (t : ℕ) → a + 1 ≤ t → t < a + 1 + m → row t ≡ row_number (rows_from (a + 1) m rs') (list_at r t)
      later t p q = n t (omega arith) (omega arith)

      older : All (Before bounds (a + 1)) l
      older = all_map (Before bounds a) (Before bounds (a + 1)) l (λ x z. (z.0, (let q = z.1 in omega arith), z.2)) b

      placed : (b : Bool) → eqb (row a) k ≡ b → guards_at rs' k ≡ cond b (insert_guard (guard_at r.thresholds bounds a) (guards_at rs k)) (guards_at rs k)
      placed b q =
          guards-placed (threshold_at r bounds a) rs k
          ∙ ap (λ (c : Bool). cond c (insert_guard (guard_at r.thresholds bounds a) (guards_at rs k)) (guards_at rs k))
          (ap (λ (i : ℕ). eqb i k) (sym number) ∙ q)

      by : ((l : List ℕ) → a + 1 + m ≤ length bounds → ((t : ℕ) → a + 1 ≤ t → t < a + 1 + m → row t ≡ row_number (rows_from (a + 1) m rs') (list_at r t))
          → All (Before bounds (a + 1)) l → guards_at rs' k ≡ guards l
          → guards_at (rows_from (a + 1) m rs') k ≡ guards (put_all (map (key_at bounds) (picked row k (numbers (a + 1) m))) l))
          → (b : Bool) → eqb (row a) k ≡ b → guards_at (rows_from (a + 1) m rs') k ≡ guards (put_all (map (key_at bounds) (picked row k (numbers a (suc m)))) l)
      by ih true q =
          ih (put (key_at bounds a) l) (omega arith) later (all_put (Before bounds (a + 1)) (key_at bounds a) l (a, omega arith, refl) older)
          (placed true q ∙ ap (insert_guard (guard_at r.thresholds bounds a)) e ∙ insert_key r.thresholds bounds many good up a (omega arith) l b)
          ∙ sym (ap (λ (z : List ℕ). guards (put_all (map (key_at bounds) z) l)) (picked_same row k a (numbers (a + 1) m) (eqb-true (row a) k q)))
      by ih false q =
          ih l (omega arith) later older (placed false q ∙ e)
          ∙ sym (ap (λ (z : List ℕ). guards (put_all (map (key_at bounds) z) l)) (picked_other row k a (numbers (a + 1) m) (eqb-false (row a) k q)))

  -- THE GUARDS OF ROW k ARE THOSE OF ITS THRESHOLDS, IN THE ORDER OF THE KEYS.
  pub row-guards : ((t : ℕ) → t < length r.thresholds → row t ≡ row_number (given_rows r bounds) (list_at r t))
      → guards_at (given_rows r bounds) k ≡ map (key_guard r.thresholds bounds) (picked (λ (x : ℕ). row (x % max_thresholds)) k (sorted (guard_keys 0 bounds)))
  row-guards n =
      placed-from (length r.thresholds) 0 [] [] (omega arith) (λ t p q. n t (omega arith)) tt refl
      ∙ ap guards (put-sorted (map (key_at bounds) (picked row k (numbers 0 (length r.thresholds))))
      ∙ ap sorted (sym (picked_keys row bounds k (length r.thresholds) 0 (omega arith))
      ∙ ap (picked (λ (x : ℕ). row (x % max_thresholds)) k) (ap (λ (m : ℕ). map (key_at bounds) (numbers 0 m)) (sym same) ∙ sym (keys_are bounds)))
      ∙ sym (picked_sorted (λ (x : ℕ). row (x % max_thresholds)) k (guard_keys 0 bounds)))
