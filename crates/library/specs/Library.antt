-- What a program in another language gets of the call, what it gives back in numbers and every lent buffer, and of the listing.
use Rattle.std.specs.Prelude.{ℕ, ◌≡◌, cond, List}
use Rattle.memory.specs.Buffers.{Work}
use Rattle.state.specs.Step.{step_number}
use Rattle.files.specs.declared.Given.{Given}
use Rattle.files.specs.Contents.{Out}
use Rattle.report.specs.Plan.{reported}
use Rattle.library.specs.declared.Numbers.{Numbers}

abbrev pub numbers_in : Given → Numbers
numbers_in g = record {
  refused = g.refused;
  last = step_number g.last;
  sealed = cond g.sealed 1 0;
  at = g.at;
  nodes = g.nodes;
  rows = g.rows;
  answered = g.answered;
}

abbrev pub numbers_of : Out → Numbers
numbers_of o = numbers_in o.given

pub record Export : Type 0 where
  pub given : Numbers
  pub work : Work

abbrev pub export : Numbers → Work → Export
export r w = record { given = r; work = w }

abbrev pub exported : Out → Export
exported o = export (numbers_of o) o.work

-- THE LISTING: how many bytes it has, and every byte of its buffer, as the plan gives them.
abbrev pub Lists : (input before after : List ℕ) → ℕ → Type 0
Lists input before after r = (r ≡ (reported input before).planned.length) × (after ≡ (reported input before).out)
