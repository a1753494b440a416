-- `state::State::with_terms` meets its contract. Assumes nothing.
use borrow.Author.Rules.{rules}
use Rattle.state.specs.State.{with_terms}
use Rattle.state.proofs.State.with_terms.Goals as goal

pub returns : goal.returns
unfolding with_terms
returns c = search rules
