-- A row that its run leaves as it is: what `rests` finds out at one look at each of its cursors.
use Rattle.std.specs.Prelude.{◌≡◌, false, List, length, ℤ, ℕ}
use Rattle.numeric.specs.Threshold.{Term}
use Rattle.state.specs.declared.State.{State}
use Rattle.state.specs.declared.Step.TheVariants.{Unchanged}
use Rattle.queues.specs.Marks.{Marks}
use Rattle.rows.specs.Rows.{Row}
use Rattle.row_runs.specs.Scan.{scanned}
use Rattle.row_runs.specs.Guards.{guards}
use Rattle.row_runs.specs.Row.{ran, sure_guards, never_guards, true_terms, threshold_row, wants_residual}

-- Nothing is decided, no cursor moves, and no residual is wanted.
pub record Rests (r : Row) (s : State) (m : Marks) : Type 0 where
  pub run : threshold_row r s m ≡ ran s m Unchanged
  pub residual : wants_residual r s ≡ false

-- The scans of guards with these bounds pass none, whatever their nodes are.
abbrev pub UpRests : List ℤ → State → Type 0
UpRests bs s = (ns : List ℕ) (m : Marks) → length bs ≡ length ns → sure_guards (guards bs ns) s m ≡ scanned 0 m Unchanged

abbrev pub DownRests : List ℤ → State → Type 0
DownRests bs s = (ns : List ℕ) (m : Marks) → length bs ≡ length ns → never_guards (guards bs ns) s m Unchanged ≡ scanned 0 m Unchanged

-- The scan for terms that must be sure passes none.
abbrev pub TrueRests : List Term → State → Marks → Type 0
TrueRests ts s m = true_terms ts s m ≡ ran s m Unchanged
