-- Lists laid one behind the other, with their ends in a column: the part that belongs to list k is list k. For terms, guards and any other lists of rows.
use Prim.Native.Nat.{ℕ, zero, suc, ◌+◌, ◌-◌, ◌<◌, ◌≤◌}
use Rattle.std.proofs.Common.{not-suc-le-zero, sym, ◌∙◌, length-drop, drop_at}
use native.Mathlib.Omega.{arith}
use Rattle.std.specs.Prelude.{◌≡◌, drop, replicate}
use Rattle.std.proofs.Math.Path.{refl, ap, ap₂, subst}
use mathlib.Core.List.{List, [], ◌∷◌, ◌++◌, map, append_assoc, append-nil}
use Rattle.std.proofs.Math.ListN.{length, take, get_or, length-append, get_or-append}
use Rattle.std.proofs.lemmas.List.{length-map, take-append-le, drop-append-le}
use Rattle.std.proofs.Math.Seq.{take-append_seam}
use Rattle.base.specs.Parts.{end_by, start_by, stretch}
use Rattle.base.specs.Laid.{join_all, ends}
use Rattle.base.specs.Columns.{column, Wide}
use Rattle.base.specs.ColumnsLaws.{length-column, column-at}
use Rattle.job.specs.Shared.{row_entry}

-- ---- by the list of ends; the first list begins at s

abbrev start_from : ℕ → List ℕ → ℕ → ℕ
start_from s es zero = s
start_from s es (suc k) = get_or es k 0

start_next : (e : ℕ) (es : List ℕ) (k : ℕ) → get_or (e ∷ es) k 0 ≡ start_from e es k
start_next e es zero = refl
start_next e es (suc k) = refl

module _ {X : Type 0} where
  pub length-ends : (s : ℕ) (ls : List (List X)) → length (ends s ls) ≡ length ls
  unfolding ends
  length-ends s [] = refl
  length-ends s (l ∷ ls) = ap suc (length-ends (s + length l) ls)

  rising-from : (s : ℕ) (ls : List (List X)) (k : ℕ) → k < length ls → start_from s (ends s ls) k ≤ get_or (ends s ls) k 0
  unfolding ends
  rising-from s [] k h = absurd (not-suc-le-zero h)
  rising-from s (l ∷ ls) zero h = omega arith
  rising-from s (l ∷ ls) (suc k) h =
      subst (λ (a : ℕ). a ≤ get_or (ends (s + length l) ls) k 0) (sym (start_next (s + length l) (ends (s + length l) ls) k))
      (rising-from (s + length l) ls k (omega arith))

  inside-from : (s : ℕ) (ls : List (List X)) (k : ℕ) → k < length ls → get_or (ends s ls) k 0 ≤ s + length (join_all ls)
  unfolding ends join_all
  inside-from s [] k h = absurd (not-suc-le-zero h)
  inside-from s (l ∷ ls) zero h = let q = length-append l (join_all ls) in omega arith
  inside-from s (l ∷ ls) (suc k) h =
      let q = length-append l (join_all ls) in
      let i = inside-from (s + length l) ls k (omega arith) in
      omega arith

  part-from : (p : List X) (ls : List (List X)) (s k : ℕ) → length p ≡ s → k < length ls
      → stretch (start_from s (ends s ls) k) (get_or (ends s ls) k 0) (p ++ join_all ls) ≡ get_or ls k []
  unfolding ends join_all
  part-from p [] s k e h = absurd (not-suc-le-zero h)
  part-from p (l ∷ ls) s zero e h =
      ap₂ (λ (n : ℕ) (x : List X). take n x) (let q : s + length l - s ≡ length l = omega arith in q) (drop_at p (l ++ join_all ls) s e)
      ∙ take-append_seam l (join_all ls)
  part-from p (l ∷ ls) s (suc k) e h =
      ap₂ (λ (a : ℕ) (x : List X). stretch a (get_or (ends (s + length l) ls) k 0) x) (start_next (s + length l) (ends (s + length l) ls) k)
      (sym (append_assoc p l (join_all ls)))
      ∙ part-from (p ++ l) ls (s + length l) k (length-append p l ∙ ap (λ (n : ℕ). n + length l) e) (omega arith)

-- ---- by a column

map-take : {X Y : Type 0} (f : X → Y) (n : ℕ) (xs : List X) → take n (map f xs) ≡ map f (take n xs)
map-take f zero xs = refl
map-take f (suc n) [] = refl
map-take f (suc n) (x ∷ xs) = ap (λ (l : List _). f x ∷ l) (map-take f n xs)

map-drop : {X Y : Type 0} (f : X → Y) (n : ℕ) (xs : List X) → drop n (map f xs) ≡ map f (drop n xs)
map-drop f zero xs = refl
map-drop f (suc n) [] = refl
map-drop f (suc n) (x ∷ xs) = map-drop f n xs

-- What stands behind a list is no part of a stretch inside it.
stretch-front : {X : Type 0} (a b : ℕ) (l rest : List X) → a ≤ b → b ≤ length l → stretch a b (l ++ rest) ≡ stretch a b l
stretch-front a b l rest h k =
    ap (take (b - a)) (drop-append-le a l rest (omega arith))
    ∙ take-append-le (b - a) (drop a l) rest (let q = length-drop a l in let z : b - a ≤ length (drop a l) = omega arith in z)

-- In whole buffers, where other rows and other elements may stand behind.
module _ {X : Type 0} (j : ℕ) (rows : List (List ℕ)) (ls : List (List X)) (more : List ℕ) (e : column j rows ≡ ends 0 ls ++ more) where
  end_is : (k : ℕ) → k < length ls → end_by j rows k ≡ get_or (ends 0 ls) k 0
  end_is k h =
      sym (column-at j rows k) ∙ ap (λ (l : List ℕ). get_or l k 0) e
      ∙ get_or-append (ends 0 ls) more 0 k (subst (λ (n : ℕ). k < n) (sym (length-ends 0 ls)) h)

  start_is : (k : ℕ) → k < length ls → start_by j rows k ≡ start_from 0 (ends 0 ls) k
  unfolding start_by
  start_is zero h = refl
  start_is (suc k) h = end_is k (omega arith)

  module _ (k : ℕ) (h : k < length ls) where
    pub over_rising : start_by j rows k ≤ end_by j rows k
    over_rising =
        subst (λ (a : ℕ). a ≤ end_by j rows k) (sym (start_is k h))
        (subst (λ (b : ℕ). start_from 0 (ends 0 ls) k ≤ b) (sym (end_is k h)) (rising-from 0 ls k h))

    pub over_inside : end_by j rows k ≤ length (join_all ls)
    over_inside = let p = end_is k h in let q = inside-from 0 ls k h in omega arith

    part : stretch (start_by j rows k) (end_by j rows k) (join_all ls) ≡ get_or ls k []
    part = ap₂ (λ (a b : ℕ). stretch a b (join_all ls)) (start_is k h) (end_is k h) ∙ part-from [] ls 0 k refl h

    -- THE PART OF LIST k IS LIST k,
    pub over_part : (rest : List X) → stretch (start_by j rows k) (end_by j rows k) (join_all ls ++ rest) ≡ get_or ls k []
    over_part rest = stretch-front (start_by j rows k) (end_by j rows k) (join_all ls) rest over_rising over_inside ∙ part

    -- also where one of its figures is laid: the conditions or weights of terms, the bounds or nodes of guards.
    pub over-figures : {Y : Type 0} (f : X → Y) (rest : List Y)
        → stretch (start_by j rows k) (end_by j rows k) (map f (join_all ls) ++ rest) ≡ map f (get_or ls k [])
    over-figures f rest =
        let a = start_by j rows k in
        let b = end_by j rows k in
        stretch-front a b (map f (join_all ls)) rest over_rising (subst (λ (n : ℕ). b ≤ n) (sym (length-map (join_all ls) f)) over_inside)
        ∙ ap (take (b - a)) (map-drop f a (join_all ls)) ∙ map-take f (b - a) (drop a (join_all ls)) ∙ ap (map f) part

-- In buffers cut to what they hold.
module _ {X : Type 0} (j : ℕ) (rows : List (List ℕ)) (ls : List (List X)) (e : column j rows ≡ ends 0 ls) where
  -- as many rows as lists
  pub laid_long : length rows ≡ length ls
  laid_long = sym (length-column j rows) ∙ ap length e ∙ length-ends 0 ls

  uncut : column j rows ≡ ends 0 ls ++ []
  uncut = e ∙ sym (append-nil (ends 0 ls))

  module _ (k : ℕ) (h : k < length ls) where
    pub laid_rising : start_by j rows k ≤ end_by j rows k
    laid_rising = over_rising j rows ls [] uncut k h

    pub laid_inside : end_by j rows k ≤ length (join_all ls)
    laid_inside = over_inside j rows ls [] uncut k h

    pub laid_part : stretch (start_by j rows k) (end_by j rows k) (join_all ls) ≡ get_or ls k []
    laid_part = part j rows ls [] uncut k h

    pub laid-figures : {Y : Type 0} (f : X → Y) → stretch (start_by j rows k) (end_by j rows k) (map f (join_all ls)) ≡ map f (get_or ls k [])
    laid-figures f =
        ap (stretch (start_by j rows k) (end_by j rows k)) (sym (append-nil (map f (join_all ls)))) ∙ over-figures j rows ls [] uncut k h f []

-- ---- rows that have only the ends of their terms yet

pub entries-ends : (es : List ℕ) → column 0 (map row_entry es) ≡ es
entries-ends [] = refl
entries-ends (e ∷ es) = ap (λ (l : List ℕ). e ∷ l) (entries-ends es)

pub entries_clear : (es : List ℕ) → (column 1 (map row_entry es) ≡ replicate (length es) 0) × (column 2 (map row_entry es) ≡ replicate (length es) 0)
entries_clear [] = (refl, refl)
entries_clear (e ∷ es) = let q = entries_clear es in (ap (λ (l : List ℕ). 0 ∷ l) q.0, ap (λ (l : List ℕ). 0 ∷ l) q.1)

pub entries_wide : (es : List ℕ) → Wide 2 (map row_entry es)
entries_wide [] i h = absurd (not-suc-le-zero h)
entries_wide (e ∷ es) zero h = omega arith
entries_wide (e ∷ es) (suc i) h = entries_wide es i (omega arith)
