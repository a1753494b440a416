-- What stands in every word of every lent buffer after the call, for every input.
use Rattle.std.specs.Prelude.{ℕ, ◌+◌, true, false, cond, List, map, length}
use Rattle.base.specs.Laid.{over, pairs, quads}
use Rattle.state.specs.declared.Step.TheVariants.{Unchanged}
use Rattle.state.specs.Step.{step_number}
use Rattle.rows.specs.Rows.{rows_of}
use Rattle.numeric.specs.Area.{job_of}
use Rattle.job.specs.JobBuffers.{raw_of, built_of}
use Rattle.state.specs.State.{figures_of, cursors_of}
use Rattle.memory.specs.Buffers.{Kept, Work, kept, work, fits, cleared}
use Rattle.files.specs.declared.Given.{Given}
use Rattle.files.specs.File.{File, Answer, settled, sifted, Outcome, file_of}

-- An answer as a number: that of its step, and 4 more for a sift.
abbrev pub answer_number : Answer → ℕ
answer_number (settled k) = step_number k
answer_number (sifted k n) = 4 + step_number k

abbrev pub answer_visits : Answer → ℕ
answer_visits (settled k) = 0
answer_visits (sifted k n) = n

unfoldable pub kept_of : File → Kept → Kept
kept_of f w =
    let v = f.live in
    kept (over (map figures_of v.states) w.figures) (over (map cursors_of v.states) w.cursors) (over v.marks.sure w.sure)
    (over v.marks.never w.never) w.search (over f.gcds w.gcds) (over v.marks.nodes.items w.node_queue)
    (over (quads v.dirty.queue.items v.dirty.pending v.residuals.queue.items v.residuals.pending) w.row_queues)
    (over (pairs (map answer_number f.answers) (map answer_visits f.answers)) w.answers)

-- What a file left, laid into cleared buffers; the seal fills those of the rows.
unfoldable pub laid : File → Work → Work
laid f w = work (raw_of (job_of f.draft) w.raw) (cond f.sealed (built_of f.closed w.built) w.built) (kept_of f w.kept)

-- What is given back of an outcome.
abbrev pub given_of : Outcome → Given
given_of o =
    let f = o.file in
    let rows = cond f.sealed (length (rows_of f.closed)) 0 in
    record { refused = o.refused; at = o.at; sealed = f.sealed; nodes = f.draft.nodes; rows = rows; last = f.last; answered = length f.answers }

-- THE CALL: what it gives back, and what it leaves in every buffer. Refusal 10 touches none.
pub record Out : Type 0 where
  pub given : Given
  pub work : Work

abbrev pub out : Given → Work → Out
out g w = record { given = g; work = w }

abbrev pub served : Outcome → Work → Out
served o w = out (given_of o) (laid o.file (cleared w))

-- What refusal 10 gives back.
abbrev pub nothing : Given
nothing = record { refused = 10; at = 0; sealed = false; nodes = 0; rows = 0; last = Unchanged; answered = 0 }

abbrev pub untouched : Work → Out
untouched w = out nothing w

unfoldable pub whole : List ℕ → Work → Out
whole input w = elim (fits input w) [ true ↦ served (file_of input) w | false ↦ untouched w ]
