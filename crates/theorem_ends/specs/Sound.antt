-- What draining asks and keeps: of the rows of a job, and of all that draining changes.
use Rattle.std.specs.Prelude.{ℕ, ◌<◌, List, ◌≡◌, get_or, length}
use Rattle.base.specs.All.{All}
use Rattle.state.specs.declared.State.{State}
use Rattle.state.specs.State.{limit, no_state}
use Rattle.rows.specs.Guards.{Bound}
use Rattle.memory.specs.Limits.{max_thresholds}
use Rattle.numeric.specs.Threshold.{Threshold}
use Rattle.queues.specs.Waiting.{Waits, Flags}
use Rattle.rows.specs.Rows.{no_row, Edge, edges_of, row_number}
use Rattle.links.specs.Links.{neighbours}
use Rattle.row_runs.specs.Guards.{Node, Condition}
use Rattle.row_moves.specs.Between.{Index, Live}

-- Both bounds of a row are in the range.
pub record Bounded (s : State) : Type 0 where
  pub lower : Bound s.lower
  pub upper : Bound (limit s.upper)

abbrev pub AllBounded : List State → Type 0
AllBounded ss = (r : ℕ) → Bounded (get_or ss r no_state)

-- What is asked of the rows: all that a row or a threshold names has its place, and bounds are in the range.
pub record Indexed (x : Index) : Type 0 where
  pub nodes : (r : ℕ) → All Node (get_or x.rows r no_row).guards
  pub conditions : (r : ℕ) → All Condition (get_or x.rows r no_row).terms
  pub thresholds : All (λ (t : Threshold). Bound t.bound × (row_number x.rows t.terms < max_thresholds)) x.thresholds
  pub edges : (n : ℕ) → All (λ (e : Edge). e.row < max_thresholds) (edges_of x.rows n)
  pub linked : (r : ℕ) → All (λ (q : ℕ). q < max_thresholds) (neighbours r x.links)

-- What is asked of the rest: each row and each node waits at most once, and bounds are in the range.
pub record Sound (v : Live) : Type 0 where
  pub long : length v.states ≡ max_thresholds
  pub states : AllBounded v.states
  pub waits : Waits v.marks
  pub dirty : Flags v.dirty
  pub residuals : Flags v.residuals
