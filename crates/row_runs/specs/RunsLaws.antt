-- HOW THE RUN OF A ROW ENDS: at a conflict, at its guards, at the terms that have to be true, or after those that have to be false.
-- What holds at each of these ends holds of the run.
use Rattle.std.specs.Prelude.{◌≡◌, Bool}
use Rattle.std.proofs.Math.Path.{refl}
use Rattle.std.proofs.Math.Bool.{true, false}
use Rattle.state.specs.declared.Step.TheVariants.{Contradiction}
use Rattle.state.specs.declared.State.{State}
use Rattle.state.specs.Step.{contradicts}
use Rattle.state.specs.State.{conflict}
use Rattle.queues.specs.Marks.{Marks}
use Rattle.rows.specs.Rows.{Row}
use Rattle.row_runs.specs.Row.{Ran, ran, scans, threshold_row}
use Rattle.row_runs.specs.Runs.{guards_run, true_run, whole_run}

module _ (row : Row) (s : State) (m : Marks) where
  pub run_ends : (P : Ran → Type 0) → (conflict s ≡ true → P (ran s m Contradiction)) → (contradicts (guards_run row s m).step ≡ true → P (guards_run row s m))
      → (contradicts (guards_run row s m).step ≡ false → contradicts (true_run row s m).step ≡ true → P (true_run row s m))
      → (contradicts (guards_run row s m).step ≡ false → contradicts (true_run row s m).step ≡ false → P (whole_run row s m)) → P (threshold_row row s m)
  unfolding threshold_row scans
  run_ends P none guards needed whole = by (conflict s) refl
    where
      terms : contradicts (guards_run row s m).step ≡ false → (t : Bool) → contradicts (true_run row s m).step ≡ t → P (elim t [ true ↦ true_run row s m | false ↦ whole_run row s m ])
      terms e true f = needed e f
      terms e false f = whole e f

      after : (t : Bool) → contradicts (guards_run row s m).step ≡ t → P (elim t [ true ↦ guards_run row s m | false ↦ elim (contradicts (true_run row s m).step) [ true ↦ true_run row s m | false ↦ whole_run row s m ] ])
      after true e = guards e
      after false e = terms e (contradicts (true_run row s m).step) refl

      by : (t : Bool) → conflict s ≡ t
          → P (elim t [
            | true ↦ ran s m Contradiction
            | false ↦ elim (contradicts (guards_run row s m).step) [ true ↦ guards_run row s m | false ↦ elim (contradicts (true_run row s m).step) [ true ↦ true_run row s m | false ↦ whole_run row s m ] ]
          ])
      by true e = none e
      by false e = after (contradicts (guards_run row s m).step) refl
