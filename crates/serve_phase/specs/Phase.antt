-- THE PHASE as the call uses it: whole buffers, what is lent of them, and what is left in every word.
use Rattle.std.specs.Prelude.{ℕ, ◌≤◌, ◌≡◌, true, false, List, [], ◌++◌, length, take, drop, replicate, ℤ}
use Rattle.memory.specs.Limits.{max_nodes, max_terms, max_thresholds, max_gcds, search_words}
use Rattle.numeric.specs.Area.{job_of}
use Rattle.memory.specs.Ranges.{raw_limit}
use Rattle.memory.specs.Buffers.{Raw, held_rows, Built, built, Kept, kept, zeros, clear_built, clear_kept}
use Rattle.state.specs.declared.Step.TheVariants.{Unchanged}
use Rattle.queues.specs.declared.Rings.{Rings}
use Rattle.rows.specs.Rows.{rows_of}
use Rattle.job.specs.JobBuffers.{raw_of, built_of}
use Rattle.files.specs.declared.JobRead.{JobRead}
use Rattle.files.specs.File.{File, begun, standing, Outcome, outcome}
use Rattle.files.specs.Contents.{kept_of}
use Rattle.theorem_limits.specs.Good.{Light, Good}
use Rattle.theorem_keeps.specs.Serves.{Fresh}
use Rattle.serve.specs.declared.Reached.{Reached}
use Rattle.serve.specs.Serve.{Lies, read_at, fourfold}
use Rattle.job.specs.Rooms.{BuiltRoom}

pub record KeptRoom (k : Kept) : Type 0 where
  pub figures : max_thresholds ≤ length k.figures
  pub cursors : max_thresholds ≤ length k.cursors
  pub sure : 64 ≤ length k.sure
  pub never : 64 ≤ length k.never
  pub search : search_words ≤ length k.search
  pub gcds : max_gcds ≤ length k.gcds
  pub node_queue : max_nodes ≤ length k.node_queue
  pub row_queues : max_thresholds ≤ length k.row_queues
  pub answers : 64 ≤ length k.answers

-- What is lent: each buffer cut to its listed length, rows and nodes to their number.
abbrev pub cut_built : ℕ → ℕ → Built → Built
cut_built rows nodes b =
    let h = b.held in
    built
    (held_rows (take max_terms h.row-conditions) (take max_terms h.row-weights) (take rows h.rows) (take max_thresholds h.guard_bounds) (take max_thresholds h.guard_nodes))
    (take nodes b.nodes) (take max_terms b.edges) b.links

abbrev pub cut_kept : Kept → Kept
cut_kept k =
    kept (take max_thresholds k.figures) (take max_thresholds k.cursors) (take 64 k.sure) (take 64 k.never) (take search_words k.search) (take max_gcds k.gcds)
    (take max_nodes k.node_queue) (take max_thresholds k.row_queues) k.answers

-- Put back in front of the buffers that they were cut from.
abbrev pub put_back : Kept → Kept → Kept
put_back m k =
    kept (m.figures ++ drop max_thresholds k.figures) (m.cursors ++ drop max_thresholds k.cursors) (m.sure ++ drop 64 k.sure) (m.never ++ drop 64 k.never)
    (m.search ++ drop search_words k.search) (m.gcds ++ drop max_gcds k.gcds) (m.node_queue ++ drop max_nodes k.node_queue) (m.row_queues ++ drop max_thresholds k.row_queues)
    m.answers

-- A file up to its first seal: memory is as it was cleared, and nothing was answered.
pub record Blank (f : File) : Type 0 where
  pub live : f.live ≡ begun.live
  pub gcds : f.gcds ≡ begun.gcds
  pub answers : f.answers ≡ []
  pub last : f.last ≡ Unchanged

-- Such a file whose seal comes next: what the phases before left of its job, in buffers that were cleared before.
pub record Stops (bs : List ℤ) (b : Built) (f : File) (rows : ℕ) : Type 0 where
  pub good : Good f
  pub light : Light raw_limit (job_of f.draft)
  pub from : Built
  pub room : BuiltRoom from
  pub built : b ≡ built_of (job_of f.draft) (clear_built from)
  pub raw : Raw
  pub many : max_thresholds ≤ length raw.bounds
  pub bounds : bs ≡ (raw_of (job_of f.draft) raw).bounds
  pub counted : rows ≡ length (rows_of (job_of f.draft))

-- The same where memory can be sealed, cleared or not.
pub record Sealable (bs : List ℤ) (b : Built) (f : File) (rows : ℕ) : Type 0 where
  pub stops : Stops bs b f rows
  pub fresh : Fresh (cut_built rows f.draft.nodes b) f.live

-- MEMORY IN WHOLE BUFFERS, which were k₀ before the call cleared them: what is cut from them is that of the file, and behind the cuts they
-- are as cleared. It begins a phase, cleared or as an earlier one left it.
pub record Begins (k₀ : Kept) (f : File) (k : Kept) (rings : Rings) : Type 0 where
  pub whole : KeptRoom k₀
  pub room : KeptRoom k
  pub lies : Lies (zeros (replicate 2 0) k₀.answers) f (cut_kept k) rings
  pub fours : fourfold (cut_kept k).row_queues ≡ (cut_kept k).row_queues
  pub behind : (m : Kept) → put_back m k ≡ put_back m (clear_kept k₀)

-- How the file ends: behind the seal if there is one.
abbrev pub ending : List ℕ → File → JobRead → Outcome
ending input f j = elim j.sealing [ true ↦ read_at (length input) input j.at f | false ↦ outcome f [] j.refusal j.at ]

-- WHAT IS LEFT, in every word, and what is given back.
pub record Leaves (k₀ k : Kept) (r : Reached) (o : Outcome) : Type 0 where
  pub words : k ≡ kept_of o.file (clear_kept k₀)
  pub standing : r.standing ≡ standing o.file
  pub last : r.last ≡ o.file.last
  pub refused : r.refused ≡ o.refused
  pub at : r.at ≡ o.at

-- With what the next phase can begin with.
pub record LeavesOn (k₀ k : Kept) (r : Reached) (o : Outcome) : Type 0 where
  pub leaves : Leaves k₀ k r o
  pub begins : Begins k₀ o.file k r.rings
