-- `row_moves::Live::run_from` meets its contract: the state is stored, and the row run.
use native.Mathlib.Omega.{arith}
use Prim.Native.Nat.{◌<◌}
use lib.ListN.{length, set}
use Rattle.memory.specs.Ranges.{figure_limit}
use Rattle.row_moves.specs.NumbersLaws.{states_set, tidy_store}
use Rattle.row_moves.specs.Numbers.{states_of}
use Rattle.row_moves.specs.Held.{held_row}
use Rattle.row_moves.specs.Lent.{held_of, live_in}
use Rattle.row_moves.specs.BetweenLaws.{store_run}
use Rattle.row_moves.specs.ReadyLaws.{ready_set, ready_states}
use Rattle.row_moves.proofs.Live.run_from.Goals as goal

pub run_cut-requires-clause-ready_live : goal.run_cut-requires-clause-ready_live
run_cut-requires-clause-ready_live c =
    let store = c.store in
    let a = c.args in
    let l = a.self.now in
    let h = held_of a.held in
    let v = live_in l in
    let e = states_set l.figures.now store.new.figures l.cursors.now store.new.cursors a.row a.state (omega (arith, c.requires.ready_live.long, c.requires.shaped.1)) store.ensures.0 store.ensures.1 in
    let stored = ready_set h figure_limit v.states v.marks v.residuals c.requires.ready_live a.row a.state c.requires.shaped.2 in
    ready_states h figure_limit (set v.states a.row a.state) (states_of store.new.figures store.new.cursors) v.marks v.residuals e stored

pub returns-clause-ran : goal.returns-clause-ran
returns-clause-ran c =
    let store = c.store in
    let a = c.args in
    let l = a.self.now in
    let v = live_in l in
    let inside : a.row < length v.states = omega (arith, c.requires.ready_live.long, c.requires.shaped.1) in
    let e = states_set l.figures.now store.new.figures l.cursors.now store.new.cursors a.row a.state inside store.ensures.0 store.ensures.1 in (
      store_run (held_row (held_of a.held) a.row) v a.row a.state (states_of store.new.figures store.new.cursors) e _ c.run_cut.ensures.ran.0,
      λ t. c.run_cut.ensures.ran.1 (tidy_store l.figures.now store.new.figures l.cursors.now store.new.cursors a.row a.state inside store.ensures.0 store.ensures.1 t),
    )
