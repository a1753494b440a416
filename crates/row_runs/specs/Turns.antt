-- One place of a scan, and the weights that a cutoff leaves free, as the code has them.
use Rattle.std.specs.Prelude.{◌+◌, ℕ, Bool, true, false, cond, ℤ, pos}
use Rattle.std.specs.Int.Signed.{le_z, lt_z}
use Rattle.state.specs.declared.Step.TheVariants.{Contradiction}
use Rattle.state.specs.Step.{joined, contradicts}
use Rattle.queues.specs.Marks.{Decided}
use Rattle.row_runs.specs.Scan.{Scanned, scanned}
use Rattle.row_runs.specs.declared.Cutoff.{Cutoff}

-- One place: what the scan is after it, and whether the scan ends there.
pub record Turned : Type 0 where
  pub scanned : Scanned
  pub ends : Bool

abbrev pub turn : Scanned → Bool → Turned
turn s e = record { scanned = s; ends = e }

unfoldable pub turned : Bool → Decided → Scanned → Turned
turned true d s = turn s true
turned false d s =
    elim (contradicts d.step) [
      | true ↦ turn (scanned (s.passed + 1) d.marks Contradiction) true
      | false ↦ turn (scanned (s.passed + 1) d.marks (joined s.step d.step)) false
    ]

-- A weight that the cutoff leaves free: up to it where sure terms are sought, below it where never ones are.
abbrev pub light : Cutoff → ℕ → Bool
light c w = cond c.value (le_z (pos w) c.weight) (lt_z (pos w) c.weight)

abbrev pub cut : Bool → ℤ → Cutoff
cut b z = record { value = b; weight = z }
