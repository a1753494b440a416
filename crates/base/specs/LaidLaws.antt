-- The numbers from a first one on: how many, and which stands where.
use Rattle.std.specs.Prelude.{ℕ, zero, suc, ◌+◌, ◌<◌, ◌≡◌, refl, length, get_or}
use Rattle.std.proofs.Common.{arith, ap, ◌∙◌}
use Rattle.base.specs.Laid.{numbers}

pub length-numbers : (n k : ℕ) → length (numbers n k) ≡ k
unfolding numbers
length-numbers n zero = refl
length-numbers n (suc k) = ap suc (length-numbers (n + 1) k)

pub numbers-at : (n k i : ℕ) → i < k → get_or (numbers n k) i 0 ≡ n + i
unfolding numbers
numbers-at n zero i h = absurd (omega arith)
numbers-at n (suc k) zero h = omega arith
numbers-at n (suc k) (suc i) h = numbers-at (n + 1) k i (omega arith) ∙ omega arith
