-- `state::State::has_residual_interval` meets its contract. Assumes nothing.
use borrow.Author.Rules.{rules}
use Rattle.state.specs.State.{has_residual_interval}
use Rattle.state.proofs.State.has_residual_interval.Goals as goal

pub returns-then-self : goal.returns-then-self
unfolding has_residual_interval
returns-then-self c = search rules

pub returns-else-self : goal.returns-else-self
unfolding has_residual_interval
returns-else-self c = search rules
