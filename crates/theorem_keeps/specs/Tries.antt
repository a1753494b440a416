-- What buffers must be like so that a row can be tried, and what trying comes to, on values.
use Rattle.std.specs.Prelude.{ℕ, ◌-◌, ◌<◌, ◌≤◌, Bool, true, false, List, length}
use Rattle.memory.specs.Limits.{list_terms, search_words}
use Rattle.memory.specs.Ranges.{figure_limit}
use Rattle.memory.specs.Buffers.{HeldRows}
use Rattle.numeric.specs.Threshold.{Term}
use Rattle.state.specs.declared.State.{State}
use Rattle.state.specs.declared.Step.TheVariants.{Contradiction}
use Rattle.state.specs.Step.{joined, contradicts, is_unchanged}
use Rattle.queues.specs.Queue.{is_empty}
use Rattle.queues.specs.Marks.{is_decided}
use Rattle.intervals.specs.Residual.{threshold_residual}
use Rattle.searches.specs.Shape.{Zeros}
use Rattle.searches.specs.Search.{search, search_step, search_visits}
use Rattle.row_moves.specs.Between.{Index, Live, with_marks}
use Rattle.row_moves.specs.Held.{start_by, end_by, Shaped}
use Rattle.row_moves.specs.Ready.{ReadyLive}
use Rattle.drain.specs.Drain.{settle}
use Rattle.drain.specs.Sift.{Sifted, sifted, try_row}
use Rattle.theorem_keeps.specs.Serves.{Among}

-- The gcds of the longest row and one more have room, as do the words of a search, which are zero before and after.
pub record Scratch (gcds words : List ℕ) : Type 0 where
  pub room : list_terms < length gcds
  pub long : search_words ≤ length words
  pub zero : Zeros words

-- No row has more terms than a list.
abbrev pub Short : List (List ℕ) → Type 0
Short rows = (r : ℕ) → r < length rows → end_by 0 rows r - start_by 0 rows r ≤ list_terms

pub record Tries (h : HeldRows) (v : Live) (gcds words : List ℕ) : Type 0 where
  pub shaped : Shaped h
  pub short : Short h.rows
  pub ready : ReadyLive h figure_limit v
  pub among : Among (length h.rows) v.residuals
  pub some : 0 < v.residuals.queue.ring.count
  pub scratch : Scratch gcds words

-- A row with these terms and this state is tried.
abbrev pub tried : List Term → State → Live → List ℕ → ℕ → Sifted
tried ts s v gcds visits =
    let a = threshold_residual ts s v.marks gcds in
    let b = search ts s (is_decided a.marks) in
    elim (is_unchanged a.step) [
      | true ↦ sifted (with_marks v a.marks) a.gcds (search_step b) (search_visits visits b)
      | false ↦ sifted (with_marks v a.marks) a.gcds a.step visits
    ]

-- One round: settle, then try a row if one waits. Whether there is another round is told beside.
pub record Round : Type 0 where
  pub sifted : Sifted
  pub more : Bool

abbrev pub round : Sifted → Bool → Round
round s b = record { sifted = s; more = b }

unfoldable pub once : Index → Live → List ℕ → ℕ → Round
once x v gcds visits =
    let d = settle x v in
    let t = try_row x d.live gcds visits in
    elim (contradicts d.step) [
      | true ↦ round (sifted d.live gcds Contradiction visits) false
      | false ↦
          elim (is_empty d.live.residuals.queue) [
            | true ↦ round (sifted d.live gcds d.step visits) false
            | false ↦ round (sifted t.live t.gcds (joined d.step t.step) t.visits) true
          ]
    ]
