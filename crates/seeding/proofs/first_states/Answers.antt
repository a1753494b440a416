-- `seeding::first_states` meets its contract: the rows from here on are those that are left.
use Prim.Native.Nat.{◌<◌}
use mathlib.Core.Path.{◌∙◌}
use native.Mathlib.Omega.{arith}
use lib.ListN.{length}
use Rattle.row_moves.specs.NumbersLaws.{states_set, tidy_store}
use Rattle.row_moves.specs.Numbers.{states_of}
use Rattle.row_moves.specs.FirstLaws.{starting_next, starting_end}
use Rattle.seeding.proofs.first_states.Goals as goal

pub loop-at-preserved : goal.loop-at-preserved
loop-at-preserved c =
    let store = c.store in
    let first = c.first_at-state.result in
    let w = c.loop-at in
    let a = c.args in
    let h = a.held in
    let k : w.at < length (states_of w.figures w.cursors) = omega (arith, c.loop-at-test.true, c.requires.5, w.invariant.0.long) in
    let set = states_set w.figures store.new.figures w.cursors store.new.cursors w.at first k store.ensures.0 store.ensures.1 in
    let tidy = tidy_store w.figures store.new.figures w.cursors store.new.cursors w.at first k store.ensures.0 store.ensures.1 in
    let next = starting_next h.row_conditions.now h.row_weights.now h.rows.now (states_of a.figures.now a.cursors.now) w.at
    (states_of w.figures w.cursors) w.invariant.0 c.loop-at-test.true first c.first_at-state.ensures (states_of store.new.figures store.new.cursors) set in
    (next, store.auto.figures ∙ w.invariant.1, store.auto.cursors ∙ w.invariant.2, λ t. tidy (w.invariant.3 t))

pub returns : goal.returns
returns c =
    let w = c.loop-at in
    let a = c.args in
    let h = a.held in
    let end = starting_end h.row_conditions.now h.row_weights.now h.rows.now (states_of a.figures.now a.cursors.now) w.at
    (states_of w.figures w.cursors) w.invariant.0 c.loop-at-test.false in
    (end, w.invariant.3)
