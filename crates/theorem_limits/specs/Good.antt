-- What holds of a file within the limits: of its job, of what a seal builds of it, of what draining changes.
use Rattle.std.specs.Prelude.{ℕ, ◌<◌, ◌≤◌, ◌≡◌, true, false, length}
use Rattle.base.specs.All.{All}
use Rattle.state.specs.State.{limit}
use Rattle.rows.specs.Guards.{Bound}
use Rattle.memory.specs.Limits.{max_thresholds, max_nodes, max_terms, list_terms}
use Rattle.numeric.specs.Threshold.{Term, ThresholdOf, Threshold, JobOf, Job}
use Rattle.numeric.specs.Area.{Entry, condition_of, Draft, job_of}
use Rattle.job.specs.Job.{all_terms}
use Rattle.files.specs.File.{File}
use Rattle.theorem_ends.specs.Sound.{Sound}

-- A threshold of a job with so many nodes, and a job, within the limits: of terms, and of the entries that records gave.
pub record FitBy {X : Type 0} (condition : X → ℕ) (nodes : ℕ) (t : ThresholdOf X) : Type 0 where
  pub node : t.node < nodes
  pub bound : Bound t.bound
  pub conditions : All (λ (u : X). condition u < nodes) t.terms
  pub short : length t.terms ≤ list_terms

pub record FitsBy {X : Type 0} (condition : X → ℕ) (j : JobOf X) : Type 0 where
  pub nodes : j.nodes ≤ max_nodes
  pub few : length j.thresholds ≤ max_thresholds
  pub terms : all_terms j.thresholds ≤ max_terms
  pub each : All (FitBy condition j.nodes) j.thresholds

abbrev pub Fit : ℕ → Threshold → Type 0
Fit = FitBy (λ (u : Term). u.condition)

abbrev pub Fits : Job → Type 0
Fits = FitsBy (λ (u : Term). u.condition)

abbrev pub Drafted : Draft → Type 0
Drafted = FitsBy (λ (e : Entry). condition_of e)

-- Its weights are below a limit. This stands apart since a file of any numbers fits, but only one of bytes is light.
abbrev pub Light : ℕ → Job → Type 0
Light limit j = All (λ (t : Threshold). All (λ (u : Term). u.weight < limit) t.terms) j.thresholds

-- A file within the limits: what records gave and the job that the last seal closed, which is that of these records.
pub record Good (f : File) : Type 0 where
  pub draft : Drafted f.draft
  pub closed : Fits f.closed
  pub live : Sound f.live
  pub unstarted : f.started ≡ false → f.sealed ≡ false
  pub same : f.sealed ≡ true → f.closed ≡ job_of f.draft
