-- Two queues of rows in one buffer of slots.
use Rattle.std.specs.Prelude.{ℕ, ◌+◌, List, [], ◌∷◌, get_or, set}
use Rattle.base.specs.Columns.{column}
use Rattle.queues.specs.declared.Ring.{Ring}
use Rattle.queues.specs.declared.RowQueue.{RowQueue}
use Rattle.queues.specs.declared.RowQueue.TheVariants.{Bounds, Residuals}
use Rattle.queues.specs.Queue.{queue, Rows, rows}

-- The queue whose entries stand in column k, and its flags, by row, in the column behind it.
abbrev pub rows_in : ℕ → List (List ℕ) → Ring → Rows
rows_in k slots r = rows (queue (column k slots) r) (column (k + 1) slots)

-- The column of a queue's entries.
abbrev pub first_column : RowQueue → ℕ
first_column Bounds = 0
first_column Residuals = 2

-- The four numbers of a slot.
abbrev pub slot : List ℕ → List ℕ
slot l = get_or l 0 0 ∷ get_or l 1 0 ∷ get_or l 2 0 ∷ get_or l 3 0 ∷ []

-- Number j of one slot is written.
unfoldable pub put : List (List ℕ) → ℕ → ℕ → ℕ → List (List ℕ)
put slots at j x = set slots at (set (slot (get_or slots at [])) j x)
