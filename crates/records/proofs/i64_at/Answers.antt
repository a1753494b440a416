-- `records::i64_at` meets its contract: eight bytes put together, and read as a signed number.
use mathlib.Core.Path.{◌≡◌, ap, ◌∙◌}
use native.Mathlib.Omega.{arith}
use Prim.Native.Nat.{ℕ, ◌+◌, ◌<◌}
use mir.Syntax.{w64}
use mir.Val.{to_z, of_z}
use Rattle.std.specs.Int.{from_le_bytes}
use Rattle.std.specs.Prelude.{◌∷◌, [], get_or, take, drop}
use Rattle.records.specs.Record.{little_endian}
use Rattle.records.proofs.Bytes.{eight, signed_so}
use borrow.Author.Rules.{rules}
use Rattle.records.proofs.i64_at.Goals as goal

pub returns : goal.returns
returns c =
    let l = c.args.input.now in
    let i = c.args.at in
    let z = c.from_le_bytes.result in
    let same : to_z w64 (of_z w64 z) ≡ z = search rules in
    let joined : from_le_bytes w64 (get_or l i 0 ∷ get_or l (i + 1) 0 ∷ get_or l (i + 2) 0 ∷ get_or l (i + 3) 0 ∷ get_or l (i + 4) 0 ∷ get_or l (i + 5) 0 ∷ get_or l (i + 6) 0
    ∷ get_or l (i + 7) 0 ∷ []) ≡ little_endian (take 8 (drop i l)) =
    omega (arith, eight l i (i + 1) (i + 2) (i + 3) (i + 4) (i + 5) (i + 6) (i + 7) (omega arith) (omega arith) (omega arith) (omega arith) (omega arith) (omega arith) (omega arith) c.requires) in
    let b = c.type_inv.input in
    let small : little_endian (take 8 (drop i l)) < 18446744073709551616 =
    omega (arith, joined, b i, b (i + 1), b (i + 2), b (i + 3), b (i + 4), b (i + 5), b (i + 6), b (i + 7)) in
    same ∙ c.from_le_bytes.ensures ∙ ap (λ (n : ℕ). to_z w64 n) joined ∙ signed_so _ small
