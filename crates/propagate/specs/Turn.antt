-- A turn of a scan as the code hands it on: `Continue` with the scan to go on with, `Break` with that which ends.
use Rattle.std.specs.Prelude.{Bool, true, false}
use Rattle.std.specs.declared.ops.ControlFlow.{ControlFlow}
use Rattle.std.specs.declared.ops.ControlFlow.TheVariants.{Continue, Break}
use Rattle.propagate.specs.declared.Scan.{Scan}

-- The scan after the turn.
abbrev pub scan_of : ControlFlow Scan Scan → Scan
scan_of (Continue s) = s
scan_of (Break s) = s

-- Whether it ends there.
abbrev pub ends : ControlFlow Scan Scan → Bool
ends (Continue s) = false
ends (Break s) = true
