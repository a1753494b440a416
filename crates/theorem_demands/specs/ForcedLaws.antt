-- Demand 2: every layout of the job that agrees with the marks agrees with each forced node, and a contradiction is given only if no
-- such layout exists, for every input, sifts included.
use Rattle.std.specs.Prelude.{ℕ, ◌≡◌, true, false, List}
use Rattle.std.proofs.Common.{sym, subst}
use Rattle.base.specs.TestLaws.{clash}
use Rattle.numeric.specs.Layout.{Layout, IsLayout}
use Rattle.words.specs.Mask.{bit}
use Rattle.files.specs.File.{File, contradicted, planned}
use Rattle.theorem_limits.specs.FilesLaws.{planned_passed}
use Rattle.theorem_demands.specs.LayoutTurnsLaws.{Fits}
use Rattle.theorem_demands.specs.LayoutFilesLaws.{file_layouts}
use Rattle.theorem_demands.specs.Reading.{Agrees}
use Rattle.theorem_demands.specs.RefusalLaws.{taken}

-- what the records left is what the file is
agreed : (input : List ℕ) (v : Layout) → IsLayout (planned input).file.closed v → Agrees (planned input).records v
    → Fits v (planned input).file.live.marks × (contradicted (planned input).file ≡ false)
agreed input v is a =
    subst (λ (f : File). IsLayout f.closed v → Fits v f.live.marks × (contradicted f ≡ false)) (sym (taken input)) (λ l. file_layouts (planned input).records (planned_passed input) v l a) is

pub forced_sure : (input : List ℕ) (v : Layout) → IsLayout (planned input).file.closed v → Agrees (planned input).records v
    → (n : ℕ) → bit (planned input).file.live.marks.sure n ≡ true → v n ≡ true
forced_sure input v is a n e = (agreed input v is a).0 true n e

pub forced_never : (input : List ℕ) (v : Layout) → IsLayout (planned input).file.closed v → Agrees (planned input).records v
    → (n : ℕ) → bit (planned input).file.live.marks.never n ≡ true → v n ≡ false
forced_never input v is a n e = (agreed input v is a).0 false n e

pub no_layout : (input : List ℕ) → contradicted (planned input).file ≡ true
    → (v : Layout) → IsLayout (planned input).file.closed v → Agrees (planned input).records v → ⊥
no_layout input c v is a = clash (contradicted (planned input).file) c (agreed input v is a).1
