-- A run of a row, scan by scan: each begins where the one before it ended.
use Rattle.state.specs.declared.State.{State}
use Rattle.state.specs.Step.{joined}
use Rattle.queues.specs.Marks.{Marks}
use Rattle.rows.specs.Rows.{Row}
use Rattle.row_runs.specs.Row.{Ran, ran, threshold_guards, true_terms, false_terms}

module _ (row : Row) (s : State) (m : Marks) where
  abbrev pub guards_run : Ran
  guards_run = threshold_guards row.guards s m

  abbrev pub true_run : Ran
  true_run = true_terms row.terms guards_run.state guards_run.marks

  abbrev pub false_run : Ran
  false_run = false_terms row.terms true_run.state true_run.marks

  abbrev pub whole_run : Ran
  whole_run = ran false_run.state false_run.marks (joined (joined guards_run.step true_run.step) false_run.step)
