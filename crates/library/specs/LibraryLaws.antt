-- Laws of the library: what the exported functions make of what the call and the plan give. Assumes nothing.
use Rattle.std.specs.Prelude.{ℕ, ◌≡◌, cond, List}
use Rattle.std.proofs.Common.{ap, ap₂, ◌∙◌}
use Rattle.memory.specs.Buffers.{Work}
use Rattle.state.specs.Step.{step_number}
use Rattle.files.specs.declared.Given.{Given}
use Rattle.files.specs.Contents.{Out, out}
use Rattle.report.specs.declared.Planned.{Planned}
use Rattle.report.specs.Plan.{Report, Plans}
use Rattle.library.specs.declared.Numbers.{Numbers}
use Rattle.library.specs.Library.{export, exported, Lists}

-- What the call gives back, with numbers for its last step and whether it is sealed.
abbrev told : Given → (last sealed : ℕ) → Numbers
told g last sealed = record { refused = g.refused; last = last; sealed = sealed; at = g.at; nodes = g.nodes; rows = g.rows; answered = g.answered }

pub exports : (g : Given) (last sealed : ℕ) (w : Work) (o : Out) → last ≡ step_number g.last → sealed ≡ cond g.sealed 1 0 → out g w ≡ o
    → export (told g last sealed) w ≡ exported o
exports g last sealed w o e h q = ap₂ (λ (n m : ℕ). export (told g n m) w) e h ∙ ap exported q

pub lists : (input before after : List ℕ) (r : Planned) → Plans input before after r → Lists input before after r.length
lists input before after r p = (ap (λ (x : Report). x.planned.length) p, ap (λ (x : Report). x.out) p)
