-- `checks::next_record` meets its contract: kind, body, then the other checks.
use mathlib.Core.Path.{ap}
use native.Mathlib.Omega.{arith}
use Prim.Native.Nat.{ℕ}
use Rattle.records.specs.Record.{kind_of, body_length}
use Rattle.checks.specs.CheckLaws.{next_unknown, next_cut, named_known}
use Rattle.checks.proofs.next_record.Goals as goal

pub returns-in_default : goal.returns-in_default
returns-in_default c = let a = c.args in next_unknown a.standing a.input.now a.at c.in_default.ensures

pub returns-then-input-at : goal.returns-then-input-at
returns-then-input-at c =
    let a = c.args in
    let named = c.in-Some.ensures in
    let e = c.body_length.ensures in
    let l = c.if-input-at.true in
    next_cut a.standing a.input.now a.at (named_known c.in-Some.kind named) c.requires (omega (arith, e, l, ap (λ (b : ℕ). body_length (kind_of b)) named))
