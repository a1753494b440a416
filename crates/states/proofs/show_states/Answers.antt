-- `states::show_states` meets its contract: place by place. Assumes nothing.
use Rattle.std.proofs.Common.{List, set, arith, sym, ap, ◌∙◌, add-one}
use Rattle.state.specs.declared.State.{State}
use Rattle.row_moves.specs.Numbers.{states_of}
use Rattle.states.specs.StatesLaws.{showing, showing_next, showing_all}
use Rattle.states.proofs.show_states.Goals as goal

pub loop-row-preserved : goal.loop-row-preserved
loop-row-preserved c =
    let w = c.loop-row in
    let a = c.args in
    let s = states_of a.figures.now a.cursors.now in
    ap (λ (l : List State). set l w.row c.row_state.result) w.invariant
    ∙ showing_next s a.states.now c.requires.1 c.requires.0 w.row c.row_state.result c.loop-row-test.true c.row_state.ensures
    ∙ ap (showing s a.states.now) (sym (add-one w.row))

pub returns : goal.returns
returns c =
    let w = c.loop-row in
    let a = c.args in
    let s = states_of a.figures.now a.cursors.now in
    w.invariant ∙ showing_all s a.states.now c.requires.1 c.requires.0 w.row (omega arith)
