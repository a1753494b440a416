-- A table whose entries all pass their test has the gcd of every two numbers below 64.
use Rattle.std.specs.Prelude.{ℕ, zero, suc, ◌/◌, ◌<◌, ◌≤◌, ◌≡◌, List, Bool, true}
use Rattle.std.proofs.Common.{not-suc-le-zero, le_of_suc-le-suc, le_antisymm, arith, ap, ◌∙◌, eqb-true}
use Rattle.std.proofs.Math.Decide.{dec_lt}
use Rattle.base.specs.TestLaws.{and_left, and_right}
use Rattle.divisors.specs.Gcd.{gcd}
use Rattle.divisors.specs.Table.{entry, all_below, all_right}

all_below_lem : (n : ℕ) (test : ℕ → Bool) → all_below n test ≡ true → (k : ℕ) → k < n → test k ≡ true
unfolding all_below
all_below_lem zero test t k h = absurd (not-suc-le-zero h)
all_below_lem (suc n) test t k h = by (dec_lt k n) (λ (l : k < n). all_below_lem n test (and_right (test n) (all_below n test) t) k l)
  where
    by : Dec (k < n) → (k < n → test k ≡ true) → test k ≡ true
    by (yes l) f = f l
    by (no l) f = let e : k ≡ n = omega arith in ap test e ∙ and_left (test n) (all_below n test) t

pub small_gcd : (groups : List (List (List ℕ))) → all_right groups ≡ true → (a b : ℕ) → a < 64 → b < 64 → entry groups a b ≡ gcd a b
unfolding all_right
small_gcd groups t a b h k = eqb-true (entry groups a b) (gcd a b) (all_below_lem _ _ (all_below_lem _ _ t a (omega (arith, h))) b (omega (arith, k)))

-- The last of eight places: below eight, and none of the first seven.
abbrev pub NoneBelow : ℕ → ℕ → Type 0
NoneBelow zero n = Unit
NoneBelow (suc k) n = NoneBelow k n × (n ≡ k → ⊥)

none_below : (k n : ℕ) → NoneBelow k n → k ≤ n
none_below zero n r = omega arith
none_below (suc k) n (r, d) = let h = none_below k n r in omega arith

pub last_place : (n : ℕ) → n < 8 → NoneBelow 7 n → n ≡ 7
last_place n h r = le_antisymm (le_of_suc-le-suc h) (none_below 7 n r)

pub group_below : (left : ℕ) → left < 64 → left / 8 < 8
group_below left h = omega arith
