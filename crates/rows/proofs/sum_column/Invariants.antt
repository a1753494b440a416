-- What the loops of `rows::sum_column` keep, and what falls.
use Rattle.base.specs.TallyLaws.{blend}
use Rattle.base.specs.Columns.{column, Wide, Beside}
use Rattle.base.specs.Deal.{begins, sum_to}
use mathlib.Core.Path.{◌≡◌}
use Rattle.rows.proofs.sum_column.Given as goal

abbrev pub invariant-loop-row : goal.invariant-loop-row
invariant-loop-row l = (Wide l.j l.rows) × (Beside l.j l.rows l.initial.rows) × (column l.j l.rows ≡ blend l.row-index (begins 0 (column l.j l.initial.rows)) (column l.j l.initial.rows)) × (l.sum ≡ sum_to (column l.j l.initial.rows) l.row-index)
