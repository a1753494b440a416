-- `resting::rests` meets its contract: a row with no upper, in no conflict, all of whose scans rest.
use Rattle.std.specs.Prelude.{◌≡◌, refl, false, ℤ, [], Option, None, Some, is_some}
use Rattle.std.proofs.Common.{sym, ◌∙◌}
use mir.Syntax.{w64}
use mir.Val.{to_z, of_z}
use Rattle.numeric.specs.Slices.{terms}
use Rattle.queues.specs.Marks.{marks}
use Rattle.row_runs.specs.Guards.{guards}
use Rattle.row_runs.proofs.RowLaws.{signed}
use Rattle.base.specs.TestLaws.{contrary}
use Rattle.resting.specs.RestLaws.{row_rests}
use Rattle.resting.proofs.rests.Goals as goal

none : (u : Option ℤ) → is_some u ≡ false → u ≡ None
none None e = refl
none (Some z) e = contrary e

pub returns : goal.returns
returns c =
    let a = c.args in
    let p = c.requires in
    let hp : to_z w64 (of_z w64 a.state.possible) ≡ a.state.possible = signed a.state.possible p.1.possible in
    let hl : to_z w64 (of_z w64 a.state.lower) ≡ a.state.lower = signed a.state.lower p.1.lower in
    let fits = simp (hp, hl) at c.if-state.false in
    let free = none a.state.upper (sym c.is_some.ensures ∙ c.if-is_some.false) in
    let all = c.scans_rest.ensures in
    (λ h ns q same.
    let m = marks a.sure.now a.never.now q in
    row_rests [] (terms a.terms.conditions.now a.terms.weights.now) (guards a.bounds.now ns) a.state m free fits ((all h).0 ns m same) ((all h).1 ns m same) ((all h).2 q))
