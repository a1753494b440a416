-- What states, marks and queues must be like so that any row can be run.
use Rattle.std.specs.Prelude.{ℕ, ◌-◌, ◌<◌, ◌≤◌, length, get_or}
use mathlib.Core.List.{List, Memᴰ}
use Rattle.std.specs.Int.Signed.{mag}
use Rattle.memory.specs.Buffers.{HeldRows}
use Rattle.state.specs.declared.State.{State}
use Rattle.state.specs.State.{no_state, limit, first_state}
use Rattle.queues.specs.Queue.{Rows}
use Rattle.queues.specs.Marks.{Marks}
use Rattle.queues.specs.Waiting.{Waits, Flags}
use Rattle.memory.specs.Ranges.{figure_limit}
use Rattle.row_moves.specs.Between.{Live}
use Rattle.row_moves.specs.Held.{end_by, start_by, stretch_by}
use Rattle.numeric.specs.Slices.{terms}
use Rattle.row.specs.Terms.{total}
use Rattle.numeric.specs.Threshold.{Term}
use Rattle.rows.specs.Rows.{Row, Guard}

-- Figures in range, and the cursor from above among the row's guards. What is drained moves known and possible by the weights of
-- edges, so their range n is a number of its own: a caller lets it grow with the edges drained so far, of which there are at
-- most 4,096 since a node is drained once. Bounds only move to other bounds, so that one range serves for all time.
pub record Fit (h : HeldRows) (n r : ℕ) (s : State) : Type 0 where
  pub known : mag s.known < n
  pub possible : mag s.possible < n
  pub lower : mag s.lower < figure_limit
  pub upper : mag (limit s.upper) < figure_limit
  pub inside : s.never_guard ≤ end_by 1 h.rows r - start_by 1 h.rows r

pub record Ready (h : HeldRows) (n : ℕ) (ss : List State) (m : Marks) (q : Rows) : Type 0 where
  pub long : length h.rows ≤ length ss
  pub fit : (r : ℕ) → r < length h.rows → Fit h n r (get_or ss r no_state)
  pub waits : Waits m
  pub flags : Flags q

abbrev pub ReadyLive : HeldRows → ℕ → Live → Type 0
ReadyLive h n v = Ready h n v.states v.marks v.residuals

-- All that can be run, and the rows that wait to hand on their bounds.
pub record Runnable (h : HeldRows) (n : ℕ) (v : Live) : Type 0 where
  pub ready : ReadyLive h n v
  pub dirty : Flags v.dirty

-- The first state of row r, as the buffers hold the row.
abbrev pub first_at : List ℕ → List ℕ → List (List ℕ) → ℕ → State
first_at cs ws rows r = first_state (total (terms (stretch_by 0 rows r cs) (stretch_by 0 rows r ws))) (end_by 1 rows r - start_by 1 rows r)

-- Every row's total is below n.
abbrev pub Totals : ℕ → List ℕ → List ℕ → List (List ℕ) → Type 0
Totals n cs ws rows = (r : ℕ) → r < length rows → total (terms (stretch_by 0 rows r cs) (stretch_by 0 rows r ws)) < n

-- The guards and the terms of a row are such nodes.
pub record Names (Ok : ℕ → Type 0) (row : Row) : Type 0 where
  pub guards : (g : Guard) → Memᴰ g row.guards → Ok g.node
  pub terms : (t : Term) → Memᴰ t row.terms → Ok t.condition
