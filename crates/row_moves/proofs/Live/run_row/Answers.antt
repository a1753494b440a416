-- `row_moves::Live::run_row` meets its contract: the state is read and run, its cursors are written back, and the row waits for a residual if it
-- wants one.
use native.Mathlib.Omega.{arith}
use mathlib.Core.Path.{sym, ap, ◌∙◌}
use mathlib.Core.List.{[]}
use lib.ListN.{set}
use Rattle.numeric.specs.Slices.{terms}
use Rattle.state.specs.declared.State.{State}
use Rattle.rows.specs.Rows.{row_of}
use Rattle.row_runs.specs.Guards.{guards}
use Rattle.row_runs.specs.GuardsLaws.{all_guards, all_terms_lem}
use Rattle.row_runs.specs.Row.{ran, threshold_row}
use Rattle.row_runs.proofs.RowLaws.{kept_row, kept_by_lem}
use Rattle.row_moves.specs.NumbersLaws.{states_cursors}
use Rattle.row_moves.specs.Stored.{with_cursors}
use Rattle.row_moves.specs.StoredLaws.{stored_cursors, cursors_moved}
use Rattle.row_moves.specs.Numbers.{states_of, live_of, standing}
use Rattle.row_moves.specs.Lent.{live_in}
use Rattle.row_moves.specs.BetweenLaws.{run_made}
use Rattle.row_moves.proofs.Live.run_row.Goals as goal

pub store_cursors-requires : goal.store_cursors-requires
store_cursors-requires c =
    let l = c.args.self.now in
    omega (arith, c.requires.row_in_bounds.0, states_cursors l.figures.now l.cursors.now)

pub returns-clause-ran : goal.returns-clause-ran
returns-clause-ran c =
    let store = c.store_cursors in
    let threshold-row = c.threshold_row-ran in
    let queue-residual = c.queue_residual-left in
    let load = c.state-state in
    let a = c.args in
    let own = a.own in
    let l = a.self.now in
    let fs = l.figures.now in
    let cs = l.cursors.now in
    let v = live_in l in
    let t = threshold-row.result in
    let n = live_of fs store.new.cursors threshold-row.new.sure threshold-row.new.never threshold-row.new.node_queue queue-residual.new.row_queues (standing t.ring l.rings.rows queue-residual.result) in
    let gs = guards own.guards.bounds.now own.guards.nodes.now in
    let row = row_of [] (terms own.terms.conditions.now own.terms.weights.now) gs in
    let whole = kept_row row load.result v.marks (all_guards own.guards.bounds.now own.guards.nodes.now c.requires.row_in_bounds.2.below) (all_terms_lem own.terms.conditions.now own.terms.weights.now c.requires.row_in_bounds.1.below) c.requires.runs.1 in
    let kept = kept_by_lem load.result (ran t.state _ t.step) (threshold_row row load.result v.marks) (threshold-row.ensures []) whole in
    let stored = stored_cursors fs cs a.row c.requires.row_in_bounds.0 _ t.state store.ensures in
    let states =
    stored.states ∙ ap (λ (y : State). set (states_of fs cs) a.row (with_cursors y t.state)) (sym load.ensures) ∙ ap (set (states_of fs cs) a.row) (cursors_moved load.result t.state kept.moved) in (
      run_made row v a.row load.result (sym load.ensures) n t.state t.step
          (threshold-row.ensures []) states (queue-residual.ensures.1 l.rings.rows) (queue-residual.ensures.0 [] gs),
      stored.tidy,
    )
