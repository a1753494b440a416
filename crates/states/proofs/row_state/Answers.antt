-- `states::row_state` meets its contract: the state that is loaded, or none behind the listed places.
use mathlib.Core.Path.{sym, ◌∙◌, ◌≡◌, refl}
use native.Mathlib.Omega.{arith}
use lib.ListN.{take, length-take, get_or-eq_default}
use lib.Seq.{get_or-take}
use Rattle.memory.specs.Limits.{max_thresholds}
use Rattle.state.specs.State.{no_state, first_state}
use Rattle.row_moves.specs.Numbers.{states_of}
use Rattle.states.proofs.row_state.Goals as goal

none : first_state 0 0 ≡ no_state
unfolding first_state no_state
none = refl

pub returns-then-listed : goal.returns-then-listed
returns-then-listed c =
    let a = c.args in
    c.load.ensures ∙ sym (get_or-take max_thresholds (states_of a.figures.now a.cursors.now) a.row no_state (omega (arith, c.if-listed.true)))

pub returns : goal.returns
returns c =
    let a = c.args in
    let l = states_of a.figures.now a.cursors.now in
    c.first.ensures ∙ none ∙ sym (get_or-eq_default (take max_thresholds l) no_state (omega (arith, length-take max_thresholds l, c.if-listed.false)))
