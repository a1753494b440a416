-- `row_moves::make` meets its contract: the flag says whether there is an upper limit.
use mathlib.Core.Path.{◌≡◌, ◌∙◌, sym, ap}
use mathlib.Core.Bool.{Bool}
use mir.Syntax.{w64}
use mir.Val.{to_z, of_z}
use lib.ListN.{get_or}
use lib.IntN.{pos}
use borrow.Author.Tests.{eq-eqb, ne_eqb}
use Rattle.std.specs.Prelude.{ℤ, cond, Option, None, Some}
use Rattle.row_moves.specs.Numbers.{row_state, upper_of}
use borrow.Author.Rules.{rules}
use Rattle.row_moves.proofs.make.Goals as goal
use Rattle.row_moves.proofs.make.Goals.{then-limited, else-limited}

pub returns : goal.returns
unfolding row_state
returns c =
    let a = c.args in
    let f = a.figures in
    let i = c.if-limited in
    let limit = get_or f 3 (pos 0) in
    let flag = get_or a.cursors 4 0 in
    let h0 : to_z w64 (of_z w64 (get_or f 0 (pos 0))) ≡ get_or f 0 (pos 0) = search rules in
    let h1 : to_z w64 (of_z w64 (get_or f 1 (pos 0))) ≡ get_or f 1 (pos 0) = search rules in
    let h2 : to_z w64 (of_z w64 (get_or f 2 (pos 0))) ≡ get_or f 2 (pos 0) = search rules in
    let h3 : to_z w64 (of_z w64 limit) ≡ limit = search rules in
    let upper : i.upper ≡ upper_of flag limit = elim i.branch [
      | then-limited w ↦ w.upper-is ∙ ap (λ (z : ℤ). Some z) h3 ∙ ap (λ (b : Bool). cond b (Some limit) None) (sym (eq-eqb flag 1 w.if-limited.true))
      | else-limited w ↦ w.upper-is ∙ ap (λ (b : Bool). cond b (Some limit) None) (sym (ne_eqb flag 1 w.if-limited.false))
    ] in
    simp (h0, h1, h2, upper)
