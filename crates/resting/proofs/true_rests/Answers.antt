-- `resting::true_rests` meets its contract: nothing more is required, or the first term waits.
use native.Mathlib.Omega.{arith}
use mathlib.Core.Path.{◌≡◌}
use lib.IntN.{◌-ℤ◌}
use mir.Syntax.{w64}
use mir.Val.{to_z, of_z}
use mir.Facts.{to_z-of_z}
use Rattle.base.specs.SignedLaws.{sub_sfits}
use Rattle.numeric.specs.Slices.{terms}
use Rattle.queues.specs.Marks.{marks}
use Rattle.row_runs.proofs.RowLaws.{signed}
use Rattle.resting.specs.RestLaws.{true_met, true-waits}
use Rattle.resting.proofs.true_rests.Goals as goal

pub returns-then-state : goal.returns-then-state
returns-then-state c =
    let a = c.args in
    let p = c.requires in
    let hk : to_z w64 (of_z w64 a.state.known) ≡ a.state.known = signed a.state.known p.1.known in
    let hl : to_z w64 (of_z w64 a.state.lower) ≡ a.state.lower = signed a.state.lower p.1.lower in
    (λ h q. true_met (terms a.terms.conditions.now a.terms.weights.now) a.state (marks a.sure.now a.never.now q) (simp (hk, hl) at c.if-state.true))

pub returns : goal.returns
returns c =
    let a = c.args in
    let p = c.requires in
    let hk : to_z w64 (of_z w64 a.state.known) ≡ a.state.known = signed a.state.known p.1.known in
    let hp : to_z w64 (of_z w64 a.state.possible) ≡ a.state.possible = signed a.state.possible p.1.possible in
    let hl : to_z w64 (of_z w64 a.state.lower) ≡ a.state.lower = signed a.state.lower p.1.lower in
    let z = to_z w64 (of_z w64 (to_z w64 (of_z w64 a.state.possible) -ℤ to_z w64 (of_z w64 a.state.lower))) in
    let d : to_z w64 (of_z w64 (a.state.possible -ℤ a.state.lower)) ≡ a.state.possible -ℤ a.state.lower = to_z-of_z (sub_sfits a.state.possible a.state.lower (omega (arith, p.1.possible, p.1.lower))) in
    let left = simp (hk, hl) at c.if-state.false in
    (λ h q. true-waits (terms a.terms.conditions.now a.terms.weights.now) a.state (marks a.sure.now a.never.now q) z left (simp (hp, hl, d)) (c.term_rests.ensures h q))
