-- `records::u16_at` meets its contract: two bytes put together.
use native.Mathlib.Omega.{arith}
use Rattle.records.specs.RecordLaws.{two_bytes}
use Rattle.records.proofs.u16_at.Goals as goal

pub returns : goal.returns
returns c = omega (arith, c.from_le_bytes.ensures, two_bytes c.args.input.now c.args.at c.requires)
