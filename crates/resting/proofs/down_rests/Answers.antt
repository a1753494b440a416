-- `resting::down_rests` meets its contract: the guard below the cursor waits, or there is none.
use native.Mathlib.Omega.{arith}
use mathlib.Core.Path.{◌≡◌, sym, ◌∙◌}
use lib.ListN.{get_or}
use Prim.Native.Nat.{◌-◌}
use lib.IntN.{pos}
use mir.Syntax.{w64}
use mir.Val.{to_z, of_z}
use borrow.Author.Rules.{rules}
use Rattle.row_runs.specs.Row.{reachable}
use Rattle.resting.specs.RestLaws.{down_place, down_none}
use Rattle.resting.proofs.down_rests.Goals as goal

pub returns-then-at-eq0 : goal.returns-then-at-eq0
returns-then-at-eq0 c = (λ h. down_none c.args.bounds.now c.args.state (omega (arith, c.if-at-eq0.true)))

pub returns-else-at-eq0 : goal.returns-else-at-eq0
returns-else-at-eq0 c =
    let a = c.args in
    let s = a.state in
    let b = get_or a.bounds.now (s.never_guard - 1) (pos 0) in
    let hb : to_z w64 (of_z w64 b) ≡ b = search rules in
    let v : c.never_waits.result ≡ reachable s b = simp hb at c.never_waits.ensures in
    (λ h. down_place a.bounds.now s (omega (arith, c.if-at-eq0.false)) c.requires (sym v ∙ h))
