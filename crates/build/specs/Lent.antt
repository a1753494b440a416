-- What `build` is lent: the job in its raw lists and bounds, and all that the seal builds, as the buffers' records.
use Rattle.std.specs.Prelude.{ℕ, List, ℤ}
use Rattle.memory.specs.Buffers.{Built, built}
use Rattle.numeric.specs.Threshold.{Job}
use Rattle.records.specs.declared.Standing.{Standing}
use Rattle.thresholds.specs.declared.RawLists.{RawLists}
use Rattle.prepare.specs.declared.NewRows.{NewRows}
use Rattle.prepare.specs.Lent.{rows_in}
use Rattle.job.specs.Gathered.{Gathered, job_in}

abbrev pub GatheredIn : Standing → RawLists → List ℤ → Type 0
GatheredIn k l bounds = Gathered k l.raw_conditions.now l.raw_weights.now l.thresholds.now bounds

abbrev pub job_lent : Standing → RawLists → List ℤ → Job
job_lent k l bounds = job_in k l.raw_conditions.now l.raw_weights.now l.thresholds.now bounds

abbrev pub built_in : NewRows → List (List ℕ) → List (List ℕ) → List ℕ → Built
built_in b nodes edges links = built (rows_in b) nodes edges links
