-- The greatest common divisor by remainders.
use Rattle.std.specs.Prelude.{ℕ, zero, suc, ◌%◌}

-- The second number falls at each step, so that it serves as the count of steps.
unfoldable pub gcd_in : ℕ → ℕ → ℕ → ℕ
gcd_in zero a b = a
gcd_in (suc n) a zero = a
gcd_in (suc n) a (suc b) = gcd_in n (suc b) (a % suc b)

unfoldable pub gcd : ℕ → ℕ → ℕ
gcd a b = gcd_in b a b
