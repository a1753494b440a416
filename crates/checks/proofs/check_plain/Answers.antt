-- `checks::check_plain` meets its contract: the checks that it leaves out say nothing.
use Rattle.checks.specs.Checks.{first}
use Rattle.checks.proofs.check_plain.Goals as goal

pub returns : goal.returns
unfolding first
returns c = c.first_check.ensures
