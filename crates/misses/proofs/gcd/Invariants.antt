-- What the loops of `misses::gcd` keep, and what falls.
use mathlib.Core.Path.{◌≡◌}
use Rattle.divisors.specs.Gcd.{gcd}
use Rattle.misses.proofs.gcd.Given as goal

abbrev pub invariant-loop-b : goal.invariant-loop-b
invariant-loop-b l = gcd l.a l.b ≡ gcd l.left l.right

abbrev pub decreases-loop-b : goal.decreases-loop-b
decreases-loop-b l = l.b
