-- Single steps of sealing, settling and sifting.
use Rattle.std.specs.Prelude.{ℕ, Bool, true, false, List, get_or}
use Rattle.memory.specs.Limits.{max_nodes}
use Rattle.numeric.specs.Threshold.{Term}
use Rattle.queues.specs.Queue.{oldest, popped, next_row}
use Rattle.queues.specs.Marks.{marks, is_decided}
use Rattle.rows.specs.Rows.{no_row}
use Rattle.intervals.specs.Residual.{Residual, threshold_residual}
use Rattle.searches.specs.declared.Search.{Search}
use Rattle.searches.specs.Search.{search, search_step, search_visits}
use Rattle.row_moves.specs.Between.{Index, Live, state_at, Did, first_states, guard_of, threshold_condition, with_dirty_rows, with_residuals, with_states, with_marks}
use Rattle.drain.specs.Sift.{Sifted, sifted}

-- All rows have their first states.
abbrev pub begun : Index → Live → Live
begun x v = with_states v (first_states 0 x.rows v.states)

-- The live state without its oldest node, and without its oldest row.
abbrev pub untaken : Live → Live
untaken v = with_marks v (marks v.marks.sure v.marks.never (popped max_nodes v.marks.nodes))

abbrev pub unrowed : Live → Live
unrowed v = with_dirty_rows v (next_row v.dirty)

-- The oldest node's guard, and after it its condition.
module _ (x : Index) (v : Live) where
  abbrev pub node_told : Did
  node_told = guard_of x (untaken v) x.thresholds (oldest v.marks.nodes)

  abbrev pub node_drained : Did
  node_drained = threshold_condition x node_told.live (oldest v.marks.nodes)

-- The row that is tried: divisibility, and if that leaves all as it was, a search.
abbrev pub try_terms : Index → Live → List Term
try_terms x v = (get_or x.rows (oldest v.residuals.queue) no_row).terms

module _ (x : Index) (v : Live) (gcds : List ℕ) where
  abbrev pub try_residual : Residual
  try_residual = threshold_residual (try_terms x v) (state_at v (oldest v.residuals.queue)) v.marks gcds

  abbrev pub try_search : Search
  try_search = search (try_terms x v) (state_at v (oldest v.residuals.queue)) (is_decided try_residual.marks)

  abbrev pub try_live : Live
  try_live = with_residuals (with_marks v try_residual.marks) (next_row v.residuals)

  -- What trying comes to, by the answer of the residual.
  abbrev pub tried : ℕ → Bool → Sifted
  tried visits unchanged = elim unchanged [
    | true ↦ sifted try_live try_residual.gcds (search_step try_search) (search_visits visits try_search)
    | false ↦ sifted try_live try_residual.gcds try_residual.step visits
  ]
