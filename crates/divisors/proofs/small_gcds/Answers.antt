-- `divisors::small_gcds` meets its contract: the test of all entries, computed once.
use mathlib.Core.Path.{refl}
use Rattle.divisors.specs.Gcd.{gcd_in, gcd}
use Rattle.divisors.specs.Table.{all_below, all_right}
use Rattle.divisors.proofs.small_gcds.Goals as goal

pub returns : goal.returns
unfolding all_right all_below gcd gcd_in
returns c = refl
