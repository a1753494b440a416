-- `row_moves::Live::run_cut` meets its contract: the row's own terms and guards are those that are held.
use mathlib.Core.Path.{refl}
use native.Mathlib.Omega.{arith}
use Rattle.memory.specs.Ranges.{figure_limit}
use Rattle.row_moves.specs.Between.{state_at}
use Rattle.row_moves.specs.HeldLaws.{term_slices, guard_slices}
use Rattle.row_moves.specs.ReadyLaws.{fit_runs}
use Rattle.row_moves.specs.Lent.{held_of, live_in}
use Rattle.row_moves.proofs.Live.run_cut.Goals as goal

pub run_row-requires-clause-row_in_bounds : goal.run_row-requires-clause-row_in_bounds
run_row-requires-clause-row_in_bounds c =
    let h = held_of c.args.held in
    let s = c.requires.shaped in (
      omega (arith, c.requires.ready_live.long, s.1),
      rw (c.terms.ensures.0, c.terms.ensures.1) (term_slices h s.0 c.args.row s.1 _ _ refl refl),
      rw (c.guards.ensures.0, c.guards.ensures.1) (guard_slices h s.0 c.args.row s.1 _ _ refl refl),
    )

pub run_row-requires-clause-runs : goal.run_row-requires-clause-runs
run_row-requires-clause-runs c =
    let h = held_of c.args.held in
    let s = c.requires.shaped in (
      rw c.guards.ensures.0 (fit_runs h figure_limit c.args.row _ (omega arith) s.0 s.1 _ _ refl refl (c.requires.ready_live.fit c.args.row s.1)),
      c.requires.ready_live.waits,
    )
