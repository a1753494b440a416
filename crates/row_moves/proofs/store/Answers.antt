-- `row_moves::store` meets its contract: the row has its place in both buffers.
use native.Mathlib.Omega.{arith}
use borrow.Author.Rules.{rules}
use Rattle.row_moves.specs.NumbersLaws.{states_figures, states_cursors}
use Rattle.row_moves.proofs.store.Goals as goal

pub offset_bounds-figures-row : goal.offset_bounds-figures-row
offset_bounds-figures-row c = search (rules, states_figures c.args.figures.now c.args.cursors.now)

pub bounds-figures-row : goal.bounds-figures-row
bounds-figures-row c = omega (arith, c.requires, states_figures c.args.figures.now c.args.cursors.now)

pub offset_bounds-cursors-row : goal.offset_bounds-cursors-row
offset_bounds-cursors-row c = search (rules, states_cursors c.args.figures.now c.args.cursors.now)

pub bounds-cursors-row : goal.bounds-cursors-row
bounds-cursors-row c = omega (arith, c.requires, states_cursors c.args.figures.now c.args.cursors.now)
