-- `records::record_at` meets its contract: an arm for each kind, its fields where they stand.
use mathlib.Core.Path.{◌≡◌, refl, sym, ap, ◌∙◌}
use native.Mathlib.Omega.{arith}
use Prim.Native.Nat.{ℕ, ◌+◌}
use Rattle.records.specs.declared.Record.TheVariants.{Opens, Adds, Areas, Mark}
use Rattle.records.specs.Record.{signed}
use Rattle.records.specs.Kinds.{byte_of}
use mir.Syntax.{w64}
use mir.Val.{to_z, of_z}
use Rattle.records.specs.RecordLaws.{one_byte, room_by, two_fields}
use borrow.Author.Rules.{rules}
use Rattle.records.proofs.record_at.Goals as goal

pub returns-in-Some-Opens : goal.returns-in-Some-Opens
returns-in-Some-Opens c =
    let p = c.args in
    let z = c.i64_at.result in
    let same : to_z w64 (of_z w64 z) ≡ z = search rules in
    ap (Opens c.u16_at-in-Some-Opens.result) (same ∙ c.i64_at.ensures)
    ∙ two_fields p.input.now p.at 2 8 (λ (x y : ℕ). Opens x (signed y)) c.u16_at-in-Some-Opens.result _ refl (c.in-Some-Opens.ensures ∙ ap byte_of c.in-Some-Opens.field-0-is) c.u16_at-in-Some-Opens.ensures refl

pub returns-in-Some-Adds : goal.returns-in-Some-Adds
returns-in-Some-Adds c =
    let p = c.args in
    two_fields p.input.now p.at 3 4 Adds c.u16_at-in-Some-Adds.result c.u32_at.result refl (c.in-Some-Adds.ensures ∙ ap byte_of c.in-Some-Adds.field-0-is) c.u16_at-in-Some-Adds.ensures c.u32_at.ensures

pub returns-in-Some-Mark : goal.returns-in-Some-Mark
returns-in-Some-Mark c =
    let l = c.args.input.now in
    let i = c.args.at in
    let e = (c.in-Some-Mark.ensures ∙ ap byte_of c.in-Some-Mark.field-0-is) in
    two_fields l i 5 1 Mark c.u16_at-in-Some-Mark.result _ refl e c.u16_at-in-Some-Mark.ensures (sym (one_byte l (i + 3) (omega (arith, room_by l i 5 e c.requires))))

pub returns-in-Some-Areas : goal.returns-in-Some-Areas
returns-in-Some-Areas c =
    let p = c.args in
    two_fields p.input.now p.at 8 4 Areas c.u16_at-in-Some-Areas.result c.u32_at-in-Some-Areas.result refl (c.in-Some-Areas.ensures ∙ ap byte_of c.in-Some-Areas.field-0-is) c.u16_at-in-Some-Areas.ensures c.u32_at-in-Some-Areas.ensures
