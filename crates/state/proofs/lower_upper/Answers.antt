-- `state::lower_upper` meets its contract: the one field that is stored.
use borrow.Author.Rules.{rules}
use Rattle.state.specs.State.{with_upper}
use Rattle.state.proofs.lower_upper.Goals as goal

pub returns : goal.returns
unfolding with_upper
returns c = search rules
