-- Numbers picked by key from a list: those of a sorted list are those of the list, sorted.
use Rattle.std.specs.Prelude.{ℕ, ◌≤◌, ◌≡◌, Bool}
use Rattle.std.proofs.Math.Decide.{dec_le}
use Rattle.std.proofs.Common.{arith, ◌∙◌}
use Rattle.std.proofs.Math.Path.{refl, sym, ap}
use Rattle.std.proofs.Math.Bool.{true, false}
use mathlib.Core.List.{List, [], ◌∷◌, map}
use Rattle.std.proofs.Math.Dec.{eqb}
use borrow.Author.Tests.{eq-eqb, ne_eqb, eqb-true, eqb-false}
use Rattle.base.specs.All.{All}
use Rattle.base.specs.Deal.{keyed, those}
use Rattle.base.specs.Insertion.{insert, sort_by}
use Rattle.sort.specs.Sorted.{put, sorted}
use Rattle.sort.specs.SortedLaws.{Rising, put_least, put-before, put-behind, put_comm, at_least_trans, rising_sorted}
use Rattle.base.specs.InsertionLaws.{either}

-- The numbers of a list whose key is k.
unfoldable pub picked : (ℕ → ℕ) → ℕ → List ℕ → List ℕ
picked f k [] = []
picked f k (x ∷ xs) = elim (eqb (f x) k) [ true ↦ x ∷ picked f k xs | false ↦ picked f k xs ]

module _ (f : ℕ → ℕ) (k : ℕ) where
  pub picked_same : (x : ℕ) (xs : List ℕ) → f x ≡ k → picked f k (x ∷ xs) ≡ x ∷ picked f k xs
  unfolding picked
  picked_same x xs e = rw (eq-eqb (f x) k e, picked)

  pub picked_other : (x : ℕ) (xs : List ℕ) → (f x ≡ k → ⊥) → picked f k (x ∷ xs) ≡ picked f k xs
  unfolding picked
  picked_other x xs e = rw (ne_eqb (f x) k e, picked)

  -- Items of key k are made of the numbers of key k.
  pub those_picked : {X Y : Type 0} (g : ℕ → X) (h : X → Y) (xs : List ℕ) → those k (map (λ (x : ℕ). keyed (f x) (h (g x))) xs) ≡ map h (map g (picked f k xs))
  unfolding those picked
  those_picked g h [] = refl
  those_picked {X} {Y} g h (x ∷ xs) = by (those_picked g h xs) (eqb (f x) k) refl
    where
      by : those k (map (λ (x : ℕ). keyed (f x) (h (g x))) xs) ≡ map h (map g (picked f k xs)) → (b : Bool) → eqb (f x) k ≡ b
          → those k (map (λ (x : ℕ). keyed (f x) (h (g x))) (x ∷ xs)) ≡ map h (map g (picked f k (x ∷ xs)))
      by ih true e = rw (e, those, picked) (ap (λ (l : List Y). h (g x) ∷ l) ih)
      by ih false e = rw (e, those, picked) ih

  all-picked : (P : ℕ → Type 0) (xs : List ℕ) → All P xs → All P (picked f k xs)
  unfolding picked
  all-picked P [] a = tt
  all-picked P (x ∷ xs) a = either (All P) (eqb (f x) k) (λ e. (a.0, all-picked P xs a.1)) (λ e. all-picked P xs a.1)

  -- ---- one number more, of key k or of another

  picked-put : (x : ℕ) → f x ≡ k → (l : List ℕ) → Rising l → picked f k (put x l) ≡ put x (picked f k l)
  unfolding insert picked
  picked-put x e [] r = picked_same x [] e
  picked-put x e (y ∷ l) r = by (picked-put x e l r.1) (dec_le x y) (eqb (f y) k) refl
    where
      by : picked f k (put x l) ≡ put x (picked f k l) → Dec (x ≤ y) → (b : Bool) → eqb (f y) k ≡ b → picked f k (put x (y ∷ l)) ≡ put x (picked f k (y ∷ l))
      by ih (yes h) b q =
          ap (picked f k) (put-before x y l h) ∙ picked_same x (y ∷ l) e
          ∙ sym (put_least x (picked f k (y ∷ l)) (all-picked (λ (z : ℕ). x ≤ z) (y ∷ l) (h, at_least_trans x y l h r.0)))
      by ih (no h) true q =
          let s = eqb-true (f y) k q in
          ap (picked f k) (put-behind x y l (omega arith)) ∙ picked_same y (put x l) s ∙ ap (λ (t : List ℕ). y ∷ t) ih
          ∙ sym (ap (put x) (picked_same y l s) ∙ put-behind x y (picked f k l) (omega arith))
      by ih (no h) false q =
          let s = eqb-false (f y) k q in
          ap (picked f k) (put-behind x y l (omega arith)) ∙ picked_other y (put x l) s ∙ ih ∙ sym (ap (put x) (picked_other y l s))

  picked-skip : (x : ℕ) → (f x ≡ k → ⊥) → (l : List ℕ) → picked f k (put x l) ≡ picked f k l
  unfolding insert picked
  picked-skip x n [] = picked_other x [] n
  picked-skip x n (y ∷ l) = by (picked-skip x n l) (dec_le x y) (eqb (f y) k) refl
    where
      by : picked f k (put x l) ≡ picked f k l → Dec (x ≤ y) → (b : Bool) → eqb (f y) k ≡ b → picked f k (put x (y ∷ l)) ≡ picked f k (y ∷ l)
      by ih (yes h) b q = ap (picked f k) (put-before x y l h) ∙ picked_other x (y ∷ l) n
      by ih (no h) true q =
          let s = eqb-true (f y) k q in
          ap (picked f k) (put-behind x y l (omega arith)) ∙ picked_same y (put x l) s ∙ ap (λ (t : List ℕ). y ∷ t) ih ∙ sym (picked_same y l s)
      by ih (no h) false q =
          let s = eqb-false (f y) k q in
          ap (picked f k) (put-behind x y l (omega arith)) ∙ picked_other y (put x l) s ∙ ih ∙ sym (picked_other y l s)

  -- PICKED FROM THE SORTED LIST, THE NUMBERS OF A KEY STAND SORTED.
  pub picked_sorted : (l : List ℕ) → picked f k (sorted l) ≡ sorted (picked f k l)
  unfolding sort_by picked
  picked_sorted [] = refl
  picked_sorted (x ∷ l) = by (picked_sorted l) (eqb (f x) k) refl
    where
      by : picked f k (sorted l) ≡ sorted (picked f k l) → (b : Bool) → eqb (f x) k ≡ b → picked f k (sorted (x ∷ l)) ≡ sorted (picked f k (x ∷ l))
      by ih true q =
          let s = eqb-true (f x) k q in
          picked-put x s (sorted l) (rising_sorted l) ∙ ap (put x) ih ∙ sym (ap sorted (picked_same x l s))
      by ih false q =
          let s = eqb-false (f x) k q in
          picked-skip x s (sorted l) ∙ ih ∙ sym (ap sorted (picked_other x l s))

-- ---- numbers put in from the first on

unfoldable pub put_all : List ℕ → List ℕ → List ℕ
put_all [] l = l
put_all (x ∷ xs) l = put_all xs (put x l)

put_last : (x : ℕ) (xs l : List ℕ) → put_all xs (put x l) ≡ put x (put_all xs l)
unfolding put_all
put_last x [] l = refl
put_last x (y ∷ xs) l = ap (put_all xs) (put_comm y x l) ∙ put_last x xs (put y l)

-- Put in from the first or from the last on, they stand the same.
pub put-sorted : (xs : List ℕ) → put_all xs [] ≡ sorted xs
unfolding put_all sort_by
put-sorted [] = refl
put-sorted (x ∷ xs) = put_last x xs [] ∙ ap (put x) (put-sorted xs)
