-- `state::State::with_guards` meets its contract. Assumes nothing.
use borrow.Author.Rules.{rules}
use Rattle.state.specs.State.{with_guards}
use Rattle.state.proofs.State.with_guards.Goals as goal

pub returns : goal.returns
unfolding with_guards
returns c = search rules
