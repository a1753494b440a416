-- `resting::up_rests` meets its contract: the guard at the cursor waits, or there is none.
use native.Mathlib.Omega.{arith}
use mathlib.Core.Path.{◌≡◌, sym, ◌∙◌}
use lib.ListN.{get_or}
use lib.IntN.{pos}
use lib.Signed.{lt_z}
use mir.Syntax.{w64}
use mir.Val.{to_z, of_z}
use borrow.Author.Rules.{rules}
use Rattle.state.specs.State.{reached}
use Rattle.resting.specs.RestLaws.{up_place, up_none}
use Rattle.resting.proofs.up_rests.Goals as goal

pub returns-then-at-bounds : goal.returns-then-at-bounds
returns-then-at-bounds c = (λ h. up_none c.args.bounds.now c.args.state (omega (arith, c.if-at-bounds.true)))

pub returns-else-at-bounds : goal.returns-else-at-bounds
returns-else-at-bounds c =
    let a = c.args in
    let s = a.state in
    let b = get_or a.bounds.now s.sure_guard (pos 0) in
    let hb : to_z w64 (of_z w64 b) ≡ b = search rules in
    let v : c.sure_waits.result ≡ lt_z (reached s) b = simp hb at c.sure_waits.ensures in
    (λ h. up_place a.bounds.now s (omega (arith, c.if-at-bounds.false)) (sym v ∙ h))
