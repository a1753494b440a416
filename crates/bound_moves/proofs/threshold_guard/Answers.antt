-- `bound_moves::threshold_guard` meets its contract: the bound is nothing new, or it moves the row.
use mathlib.Core.Bool.{true}
use mathlib.Core.Path.{◌≡◌, refl, ◌∙◌, sym, ap}
use lib.IntN.{ℤ}
use mir.Syntax.{w64}
use mir.Val.{to_z, of_z}
use Rattle.row_runs.proofs.RowLaws.{signed}
use Rattle.tightening.specs.Told.{tight, told, guard_state}
use Rattle.tightening.specs.ToldLaws.{told_some, told_none}
use Rattle.memory.specs.Ranges.{figure_limit}
use Rattle.row_moves.specs.Between.{did, state_at}
use Rattle.row_moves.specs.Lent.{held_of, live_in}
use Rattle.row_moves.specs.BetweenLaws.{guard_moves, guard_tells_nothing, bounded_held}
use Rattle.bound_moves.specs.HandingLaws.{fit_told}
use Rattle.bound_moves.proofs.threshold_guard.Goals as goal

pub run_bounded-requires-clause-shaped : goal.run_bounded-requires-clause-shaped
run_bounded-requires-clause-shaped c =
    let guard-state = c.guard_state-told in
    let b = c.bit-value.result in
    let load = c.state-state in
    let a = c.args in
    let r = a.row in
    let k = c.requires.shaped in
    let moved = c.in-Some.moved in
    let bound : to_z w64 (of_z w64 a.bound) ≡ a.bound = signed a.bound k.3 in
    let heard = told_some moved (guard_state load.result b a.bound) (sym c.in-Some.is ∙ guard-state.ensures ∙ ap (λ (z : ℤ). told (guard_state load.result b z)) bound) in
    (k.0, k.1, fit_told (held_of a.held) figure_limit r load.result (state_at (live_in a.live.now) r) b a.bound (tight moved true) k.3 load.ensures (c.requires.runnable.ready.fit r k.1) heard)

pub returns-in-Some-clause-ran : goal.returns-in-Some-clause-ran
returns-in-Some-clause-ran c =
    let ran = c.run_bounded in
    let guard-state = c.guard_state-told in
    let bit = c.bit-value in
    let load = c.state-state in
    let a = c.args in
    let v = live_in a.live.now in
    let o = live_in ran.new.live in
    let r = a.row in
    let b = bit.result in
    let moved = c.in-Some.moved in
    let bound : to_z w64 (of_z w64 a.bound) ≡ a.bound = signed a.bound c.requires.shaped.3 in
    let heard = told_some moved (guard_state load.result b a.bound) (sym c.in-Some.is ∙ guard-state.ensures ∙ ap (λ (z : ℤ). told (guard_state load.result b z)) bound) in (
      λ x t z many row node is.
          let made = bounded_held x (held_of a.held) z v r moved a.links c.requires.shaped.1 many (did o ran.result) ran.ensures.ran.0 in
          guard_moves x v t r row load.result (sym load.ensures) a.node node a.bound is b (sym bit.ensures) (tight moved true) heard
          refl (did o ran.result) made,
      ran.ensures.ran.1,
    )

pub returns-clause-ran : goal.returns-clause-ran
returns-clause-ran c =
    let guard-state = c.guard_state-told in
    let bit = c.bit-value in
    let load = c.state-state in
    let a = c.args in
    let v = live_in a.live.now in
    let b = bit.result in
    let bound : to_z w64 (of_z w64 a.bound) ≡ a.bound = signed a.bound c.requires.shaped.3 in
    let same = guard_state load.result b a.bound in
    let none = told_none same (sym c.in_default.is ∙ guard-state.ensures ∙ ap (λ (z : ℤ). told (guard_state load.result b z)) bound) in (
      λ x t z many row node is.
          guard_tells_nothing x v t a.row row load.result (sym load.ensures) a.node node a.bound is b (sym bit.ensures) same refl none,
      λ y. y,
    )
