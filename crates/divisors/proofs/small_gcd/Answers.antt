-- `divisors::small_gcd` meets its contract: what the test of all entries says of the one that is read.
use mathlib.Core.Path.{◌∙◌}
use Rattle.divisors.specs.TableLaws.{small_gcd}
use Rattle.divisors.proofs.small_gcd.Goals as goal

pub returns : goal.returns
returns c =
    c.from.ensures ∙ small_gcd _ c.small_gcds-groups.ensures c.args.left c.args.right c.requires.0 c.requires.1
