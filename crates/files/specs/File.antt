-- A whole job file: what each record does, and the first refusal with its offset.
use Rattle.std.specs.Prelude.{ℕ, zero, suc, ◌+◌, Bool, true, false, List, [], ◌∷◌, ◌++◌, length, drop, replicate, eqb, ltb, ◌≡◌}
use Rattle.memory.specs.Limits.{max_gcds, max_nodes, max_thresholds}
use Rattle.numeric.specs.Threshold.{JobOf, Job}
use Rattle.numeric.specs.Area.{Draft, job_of}
use Rattle.state.specs.declared.Step.{Step}
use Rattle.state.specs.declared.Step.TheVariants.{Unchanged}
use Rattle.state.specs.Step.{contradicts}
use Rattle.state.specs.State.{no_state}
use Rattle.queues.specs.Queue.{queue, ring, rows}
use Rattle.queues.specs.Marks.{marks}
use Rattle.row_moves.specs.Between.{Live, live}
use Rattle.drain.specs.Drain as Drain
use Rattle.drain.specs.Drain.{index_of}
use Rattle.drain.specs.Sift as Sift
use Rattle.job.specs.Job.{standing_of, with_change}
use Rattle.records.specs.declared.Record.{Record}
use Rattle.records.specs.declared.Standing.{Standing}
use Rattle.records.specs.Record.{kind_of, body_length}
use Rattle.records.specs.Facts.{Action, begins, changes, closes, decides, settles, sifts, idles, action}
use Rattle.checks.specs.Checks.{refused_by, refused_at}
pub use Rattle.records.specs.Record.{body_of, record_at}
pub use Rattle.checks.specs.Checks.{unknown_kind, cut_body}

-- The answer of a settle or of a sift, a sift's with its visits.
pub data Answer : Type 0 where
  settled : Step → Answer
  sifted : Step → ℕ → Answer

-- All that the records so far left: the job as they gave it and the one that the last seal closed; the step of the last record
-- that answered (a seal, a mark, a settle or a sift), Unchanged before any; and the answers of settles and sifts.
pub record File : Type 0 where
  pub started : Bool
  pub draft : Draft
  pub closed : Job
  pub sealed : Bool
  pub last : Step
  pub live : Live
  pub gcds : List ℕ
  pub answers : List Answer

abbrev pub file : Bool → Draft → Job → Bool → Step → Live → List ℕ → List Answer → File
file s d c e k v g as' = record { started = s; draft = d; closed = c; sealed = e; last = k; live = v; gcds = g; answers = as' }

abbrev pub contradicted : File → Bool
contradicted f = contradicts f.last

-- Memory as the call clears it.
abbrev pub cleared : Live
cleared =
    live (replicate max_thresholds no_state) (marks (replicate 64 0) (replicate 64 0) (queue (replicate max_nodes 0) (ring 0 0)))
    (rows (queue (replicate max_thresholds 0) (ring 0 0)) (replicate max_thresholds 0)) (rows (queue (replicate max_thresholds 0) (ring 0 0)) (replicate max_thresholds 0))

abbrev pub no_job : {X : Type 0} → ℕ → JobOf X
no_job n = record { nodes = n; thresholds = [] }

unfoldable pub begun : File
begun = file false (no_job 0) (no_job 0) false Unchanged cleared (replicate max_gcds 0) []

-- THE CHECKS: what they read of a file, and the number of the first that applies to a record; 0 for none.
abbrev pub standing : File → Standing
standing f = standing_of f.started f.sealed (contradicted f) f.draft (length f.answers)

unfoldable pub refusal : File → Record → ℕ
refusal f r = refused_by (standing f) r

-- WHAT A RECORD DOES that is not refused.

-- The job before its seal.
abbrev pub with_draft : File → Draft → File
with_draft f d = file true d f.closed f.sealed f.last f.live f.gcds f.answers

-- What a seal, a mark, a settle or a sift left: the job that is closed then, its step, memory and gcds, and all answers.
abbrev pub told : File → Job → Step → Live → List ℕ → List Answer → File
told f j k v g as' = file f.started f.draft j true k v g as'

unfoldable pub sealed_file : File → File
sealed_file f =
    let j = job_of f.draft in
    let d = Drain.seal (index_of j) f.live in
    told f j d.step d.live f.gcds f.answers

unfoldable pub marked_file : File → ℕ → Bool → File
marked_file f n value =
    let d = Drain.mark f.live n value in
    told f f.closed d.step d.live f.gcds f.answers

unfoldable pub settled_file : File → File
settled_file f =
    let d = Drain.settle (index_of f.closed) f.live in
    told f f.closed d.step d.live f.gcds (f.answers ++ (settled d.step ∷ []))

unfoldable pub sifted_file : File → File
sifted_file f =
    let s = Sift.sift (index_of f.closed) f.live f.gcds in
    told f f.closed s.step s.live s.gcds (f.answers ++ (sifted s.step s.visits ∷ []))

unfoldable pub act : File → Action → File
act f (begins n) = with_draft f (no_job n)
act f (changes c) = with_draft f (with_change f.draft c)
act f closes = sealed_file f
act f (decides n v) = marked_file f n (eqb v 1)
act f settles = settled_file f
act f sifts = sifted_file f
act f (idles x) = f

unfoldable pub apply : File → Record → File
apply f r = act f (action r)

-- THE FILE: what is left, the records that were taken, and the refusal with its offset; number 0 is no refusal.
pub record Outcome : Type 0 where
  pub file : File
  pub records : List Record
  pub refused : ℕ
  pub at : ℕ

abbrev pub outcome : File → List Record → ℕ → ℕ → Outcome
outcome f rs r o = record { file = f; records = rs; refused = r; at = o }

-- With what stands before the other checks: kind, then body.
abbrev pub refusal_at : File → ℕ → List ℕ → ℕ
refusal_at f kind rest = refused_at (standing f) kind rest

-- Records from an offset on; the first argument bounds their number.
unfoldable pub read_from : ℕ → ℕ → List ℕ → File → List Record → Outcome
read_from zero o bytes f taken = outcome f taken 0 o
read_from (suc n) o [] f taken = outcome f taken 0 o
read_from (suc n) o (kind ∷ rest) f taken =
    let size = body_length (kind_of kind) in
    let r = refusal_at f kind rest in
    elim (eqb r 0) [
      | true ↦ read_from n (o + 1 + size) (drop size rest) (apply f (record_at kind rest)) (taken ++ (record_at kind rest ∷ []))
      | false ↦ outcome f taken r o
    ]

unfoldable pub file_of : List ℕ → Outcome
file_of bytes = read_from (length bytes) 0 bytes begun []

-- With the test that stands before the first byte.
unfoldable pub planned : List ℕ → Outcome
planned bytes = elim (ltb 65536 (length bytes)) [ true ↦ outcome begun [] 10 0 | false ↦ file_of bytes ]

-- What a list of records leaves, none of them refused.
unfoldable pub after : File → List Record → File
after f [] = f
after f (r ∷ rs) = after (apply f r) rs

-- Each passes all checks on what those before it left.
abbrev pub Passed : File → List Record → Type 0
Passed f [] = Unit {0}
Passed f (r ∷ rs) = (refusal f r ≡ 0) × Passed (apply f r) rs
