-- `state::State::conflict` meets its contract. Assumes nothing.
use borrow.Author.Rules.{rules}
use Rattle.state.specs.State.{conflict}
use Rattle.state.proofs.State.conflict.Goals as goal

pub returns-then-self : goal.returns-then-self
unfolding conflict
returns-then-self c = search rules

pub returns-else-self : goal.returns-else-self
unfolding conflict
returns-else-self c = search rules
