-- Whether a lattice of sums misses an interval.
use Rattle.std.specs.Prelude.{ℕ, ◌-◌, ◌%◌, min, max, Bool, true, cond, ◌||◌, eqb, ltb}

-- From a number up to the next one that lies a multiple of the divisor away.
abbrev pub distance : ℕ → ℕ → ℕ
distance offset divisor = cond (eqb (offset % divisor) 0) 0 (divisor - offset % divisor)

-- No sum base, base + divisor, base + 2 divisor .. lies from lower to upper; base <= lower <= upper.
unfoldable pub misses : ℕ → ℕ → ℕ → ℕ → Bool
misses base lower upper divisor =
    cond (eqb divisor 0) (ltb base lower || ltb upper base) (ltb (upper - lower) (distance (lower - base) divisor))

-- The same of the sums from base to maximum.
unfoldable pub branch_misses : ℕ → ℕ → ℕ → ℕ → ℕ → Bool
branch_misses base maximum lower upper divisor =
    cond (ltb (min maximum upper) (max base lower)) true (misses base (max base lower) (min maximum upper) divisor)
