-- `records::u32_at` meets its contract: four bytes put together.
use native.Mathlib.Omega.{arith}
use Prim.Native.Nat.{◌+◌}
use Rattle.records.proofs.Bytes.{four}
use Rattle.records.proofs.u32_at.Goals as goal

pub returns : goal.returns
returns c =
    let i = c.args.at in
    omega (arith, c.from_le_bytes.ensures, four c.args.input.now i (i + 1) (i + 2) (i + 3) (omega arith) (omega arith) (omega arith) c.requires)
