-- How often a number stands in a list; a list in which each number below n stands at most once, and no other, has at most n
-- entries. Assumes nothing.
use Rattle.std.specs.Prelude.{◌≡◌, refl, List, [], ◌∷◌, ◌++◌, ◌≢◌, ℕ, zero, suc, ◌+◌, ◌-◌, ◌≤◌, ◌<◌, length, get_or, set}
use Rattle.std.proofs.Common.{sym, ap, ◌∙◌, not-suc-le-zero, le_of_suc-le-suc, arith, eq-eqb, ne_eqb, get_or-set_same, get_or-set_other}
use Rattle.std.proofs.Math.Decide.{dec_lt, ℕ_discrete}
use Rattle.std.proofs.Math.ListN.{get_or-eq_default}
use Rattle.queues.specs.Waiting.{times}

pub times_none : (r : ℕ) → times r [] ≡ 0
unfolding times
times_none r = refl

pub times_same : (x : ℕ) (xs : List ℕ) → times x (x ∷ xs) ≡ 1 + times x xs
unfolding times
times_same x xs = rw (eq-eqb x x refl)

pub times_other : (r x : ℕ) (xs : List ℕ) → r ≢ x → times r (x ∷ xs) ≡ times r xs
unfolding times
times_other r x xs n = rw (ne_eqb x r (λ (e : x ≡ r). n (sym e))) (omega arith)

-- What stands behind the first stands in the whole.
pub times-behind : (r x : ℕ) (xs : List ℕ) → times r xs ≤ times r (x ∷ xs)
unfolding times
times-behind r x xs = omega arith

times-append : (r : ℕ) (l m : List ℕ) → times r (l ++ m) ≡ times r l + times r m
unfolding times
times-append r [] m = omega arith
times-append r (x ∷ l) m = omega (arith, times-append r l m)

-- An entry at the end counts as one at the start.
pub times_last : (r : ℕ) (l : List ℕ) (x : ℕ) → times r (l ++ (x ∷ [])) ≡ times r (x ∷ l)
unfolding times
times_last r l x = times-append r l (x ∷ []) ∙ omega arith

-- ---- as many flags as entries

unfoldable sum : List ℕ → ℕ
sum [] = 0
sum (x ∷ xs) = x + sum xs

sum-none : (l : List ℕ) → ((i : ℕ) → get_or l i 0 ≡ 0) → sum l ≡ 0
unfolding sum
sum-none [] f = refl
sum-none (x ∷ l) f = omega (arith, f 0, sum-none l (λ i. f (suc i)))

sum-le : (l : List ℕ) → ((i : ℕ) → get_or l i 0 ≤ 1) → sum l ≤ length l
unfolding sum
sum-le [] f = omega arith
sum-le (x ∷ l) f = omega (arith, f 0, sum-le l (λ i. f (suc i)))

sum-set : (l : List ℕ) (i v : ℕ) → i < length l → sum (set l i v) + get_or l i 0 ≡ sum l + v
unfolding sum
sum-set [] i v h = absurd (not-suc-le-zero h)
sum-set (x ∷ l) zero v h = omega arith
sum-set (x ∷ l) (suc i) v h = omega (arith, sum-set l i v (le_of_suc-le-suc h))

pub within : (f : List ℕ) (x : ℕ) → 0 < get_or f x 0 → x < length f
within f x h = by (dec_lt x (length f))
  where
    by : Dec (x < length f) → x < length f
    by (yes k) = k
    by (no k) = absurd (let e = get_or-eq_default f 0 {n = x} (omega arith) in omega arith)

counted : (l f : List ℕ) → ((r : ℕ) → times r l ≡ get_or f r 0) → length l ≡ sum f
unfolding times
counted [] f h = sym (sum-none f (λ i. sym (h i)))
counted (x ∷ l) f h =
    let e = sym (times_same x l) ∙ h x in
    let k = within f x (omega arith) in
    let rest = counted l (set f x (get_or f x 0 - 1)) (λ r. by k r (ℕ_discrete r x)) in
    omega (arith, sum-set f x (get_or f x 0 - 1) k)
  where
    by : x < length f → (r : ℕ) → Dec (r ≡ x) → times r l ≡ get_or (set f x (get_or f x 0 - 1)) r 0
    by k r (yes e) =
        let s = sym (times_same x l) ∙ h x in
        rw e (sym (get_or-set_same f x (get_or f x 0 - 1) 0 k ∙ (omega arith)))
    by k r (no n) = sym (times_other r x l n) ∙ h r ∙ sym (get_or-set_other f x r (get_or f x 0 - 1) 0 n)

-- ---- at most once

-- The values at the numbers below n.
unfoldable below : ℕ → (ℕ → ℕ) → List ℕ
below zero g = []
below (suc n) g = g 0 ∷ below n (λ i. g (suc i))

below_length : (n : ℕ) (g : ℕ → ℕ) → length (below n g) ≡ n
unfolding below
below_length zero g = refl
below_length (suc n) g = ap suc (below_length n (λ i. g (suc i)))

below_at : (n : ℕ) (g : ℕ → ℕ) → ((i : ℕ) → n ≤ i → g i ≡ 0) → (i : ℕ) → get_or (below n g) i 0 ≡ g i
unfolding below
below_at zero g z i = sym (z i (omega arith))
below_at (suc n) g z zero = refl
below_at (suc n) g z (suc i) = below_at n (λ j. g (suc j)) (λ j h. z (suc j) (omega arith)) i

pub at_most : (n : ℕ) (l : List ℕ) → ((r : ℕ) → times r l ≤ 1) → ((r : ℕ) → n ≤ r → times r l ≡ 0) → length l ≤ n
at_most n l once none =
    let f = below n (λ r. times r l) in
    let e = below_at n (λ r. times r l) none in
    let s = sum-le f (λ r. omega (arith, e r, once r)) in
    omega (arith, counted l f (λ r. sym (e r)), below_length n (λ r. times r l))

-- So a number below n that stands nowhere in the list leaves room.
pub room : (n : ℕ) (l : List ℕ) → ((r : ℕ) → times r l ≤ 1) → ((r : ℕ) → n ≤ r → times r l ≡ 0)
    → (x : ℕ) → x < n → times x l ≡ 0 → length l < n
room n l once none x h z =
    at_most n (x ∷ l) (λ r. by r (ℕ_discrete r x))
    (λ r k. times_other r x l (λ (e : r ≡ x). omega arith) ∙ none r k)
  where
    by : (r : ℕ) → Dec (r ≡ x) → times r (x ∷ l) ≤ 1
    by r (yes e) = rw e (omega (arith, times_same x l))
    by r (no d) = omega (arith, times_other r x l d, once r)
