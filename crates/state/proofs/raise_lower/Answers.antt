-- `state::raise_lower` meets its contract: the one field that is stored.
use borrow.Author.Rules.{rules}
use Rattle.state.specs.State.{with_lower}
use Rattle.state.proofs.raise_lower.Goals as goal

pub returns : goal.returns
unfolding with_lower
returns c = search rules
