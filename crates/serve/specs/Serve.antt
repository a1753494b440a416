-- What the buffers hold of a file behind its seal, what a record comes to there, and how far the records were taken.
use Rattle.std.specs.Prelude.{ℕ, ◌≤◌, ◌≡◌, true, List, [], length, drop, eqb, ℤ}
use Rattle.memory.specs.Ranges.{raw_limit}
use Rattle.memory.specs.Buffers.{Built, Kept}
use Rattle.base.specs.Columns.{column}
use Rattle.base.specs.Laid.{over, quads}
use Rattle.numeric.specs.Threshold.{Job}
use Rattle.numeric.specs.Area.{job_of}
use Rattle.state.specs.declared.Step.{Step}
use Rattle.state.specs.declared.Step.TheVariants.{Unchanged}
use Rattle.state.specs.Step.{contradicts}
use Rattle.queues.specs.declared.Rings.{Rings}
use Rattle.queues.specs.Queue.{ring}
use Rattle.row_moves.specs.Between.{Live, Did}
use Rattle.row_moves.specs.Numbers.{live_of, Tidy}
use Rattle.drain.specs.Drain as Drain
use Rattle.drain.specs.Drain.{index_of}
use Rattle.drain.specs.Sift as Sift
use Rattle.drain.specs.Sift.{Sifted}
use Rattle.records.specs.declared.Record.{Record}
use Rattle.records.specs.declared.Record.TheVariants.{Header, Opens, Adds, Areas, Seal, Mark, Settle, Sift, Unknown}
use Rattle.records.specs.declared.Standing.{Standing}
use Rattle.job.specs.JobBuffers.{built_of}
use Rattle.files.specs.File.{File, standing, refusal, Outcome, read_from}
use Rattle.theorem_limits.specs.Good.{Fits, Light, Good}
use Rattle.theorem_keeps.specs.Serves.{Fresh}
use Rattle.theorem_keeps.specs.Tries.{Scratch}
use Rattle.theorem_holds.specs.Lent.{bounds_of, lent_of, Lendable, Serving}
use Rattle.serve.specs.declared.Reached.{Reached}
use Rattle.answers.specs.Answers.{answers_of}

-- THE BUFFERS OF A FILE

-- What the seal built of the job that it closed, lent on, and memory that can be drained.
pub record Lent (bs : List ℤ) (b : Built) (f : File) : Type 0 where
  pub job : Job
  pub fits : Fits job
  pub light : Light raw_limit job
  pub from : Built
  pub lendable : Lendable from
  pub built : b ≡ lent_of job (built_of job from)
  pub bounds : bs ≡ bounds_of job
  pub serving : Serving job from f

abbrev pub live_in : Kept → Rings → Live
live_in k rings = live_of k.figures k.cursors k.sure k.never k.node_queue k.row_queues rings

-- The live state, the gcds and the answers, these laid over what stood in their buffer; the search's words are clear.
pub record Lies (base : List (List ℕ)) (f : File) (k : Kept) (rings : Rings) : Type 0 where
  pub live : live_in k rings ≡ f.live
  pub tidy : Tidy k.figures k.cursors
  pub gcds : k.gcds ≡ f.gcds
  pub scratch : Scratch k.gcds k.search
  pub answers : k.answers ≡ over (answers_of f.answers) base
  pub room : 64 ≤ length base

-- A job whose seal comes next: what `build` made of it is lent on, and memory can be sealed.
pub record Seals (bs : List ℤ) (b : Built) (f : File) : Type 0 where
  pub good : Good f
  pub light : Light raw_limit (job_of f.draft)
  pub from : Built
  pub lendable : Lendable from
  pub built : b ≡ lent_of (job_of f.draft) (built_of (job_of f.draft) from)
  pub bounds : bs ≡ bounds_of (job_of f.draft)
  pub fresh : Fresh b f.live

abbrev pub no_rings : Rings
no_rings = record { nodes = ring 0 0; rows = ring 0 0; residuals = ring 0 0 }

-- ONE RECORD

-- Behind the seal no other record passes the checks.
abbrev pub Asks : Record → Type 0
Asks (Header n) = ⊥
Asks (Opens n z) = ⊥
Asks (Adds c w) = ⊥
Asks (Areas c a) = ⊥
Asks Seal = ⊥
Asks (Mark n v) = Unit {0}
Asks Settle = Unit {0}
Asks Sift = Unit {0}
Asks Unknown = ⊥

-- What it comes to: memory and gcds, its step, the visits of a sift.
abbrev pub plain : Did → List ℕ → Sifted
plain d gcds = Sift.sifted d.live gcds d.step 0

unfoldable pub came : File → Record → Sifted
came f (Header n) = Sift.sifted f.live f.gcds Unchanged 0
came f (Opens n z) = Sift.sifted f.live f.gcds Unchanged 0
came f (Adds c w) = Sift.sifted f.live f.gcds Unchanged 0
came f (Areas c a) = Sift.sifted f.live f.gcds Unchanged 0
came f Seal = Sift.sifted f.live f.gcds Unchanged 0
came f (Mark n v) = plain (Drain.mark f.live n (eqb v 1)) f.gcds
came f Settle = plain (Drain.settle (index_of f.closed) f.live) f.gcds
came f Sift = Sift.sift (index_of f.closed) f.live f.gcds
came f Unknown = Sift.sifted f.live f.gcds Unchanged 0

-- A record that can be taken, over the buffers that it changes.
pub record Takes (bounds : List ℤ) (b : Built) (f : File) (r : Record) (v : Live) (gs words : List ℕ) : Type 0 where
  pub lent : Lent bounds b f
  pub live : v ≡ f.live
  pub gcds : gs ≡ f.gcds
  pub scratch : Scratch gs words
  pub asks : Asks r
  pub passed : refusal f r ≡ 0

-- What the checks read behind a record that answered.
abbrev pub stood : Standing → Step → ℕ → Standing
stood s k answers =
    record {
      started = s.started;
      sealed = true;
      contradicted = contradicts k;
      nodes = s.nodes;
      thresholds = s.thresholds;
      last_node = s.last_node;
      last_terms = s.last_terms;
      terms = s.terms;
      raw_terms = s.raw_terms;
      answers = answers;
    }

-- HOW FAR THE RECORDS WERE TAKEN: the buffers and what is given back say it.
pub record Reaches (bounds : List ℤ) (b : Built) (base : List (List ℕ)) (k : Kept) (r : Reached) (o : Outcome) : Type 0 where
  pub lent : Lent bounds b o.file
  pub lies : Lies base o.file k r.rings
  pub standing : r.standing ≡ standing o.file
  pub last : r.last ≡ o.file.last
  pub refused : r.refused ≡ o.refused
  pub at : r.at ≡ o.at

-- The records of an input from an offset on, at most so many.
abbrev pub read_at : ℕ → List ℕ → ℕ → File → Outcome
read_at n input at f = read_from n at (drop at input) f []

-- Buffers as long as they were.
pub record Same (k₀ k : Kept) : Type 0 where
  pub figures : length k.figures ≡ length k₀.figures
  pub cursors : length k.cursors ≡ length k₀.cursors
  pub sure : length k.sure ≡ length k₀.sure
  pub never : length k.never ≡ length k₀.never
  pub search : length k.search ≡ length k₀.search
  pub gcds : length k.gcds ≡ length k₀.gcds
  pub node_queue : length k.node_queue ≡ length k₀.node_queue
  pub row_queues : length k.row_queues ≡ length k₀.row_queues
  pub answers : length k.answers ≡ length k₀.answers

-- Slots of four numbers.
abbrev pub fourfold : List (List ℕ) → List (List ℕ)
fourfold q = quads (column 0 q) (column 1 q) (column 2 q) (column 3 q)
