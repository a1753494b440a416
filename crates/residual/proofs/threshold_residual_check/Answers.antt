-- `residual::threshold_residual_check` meets its contract: behind its tests the interval is a window.
use mathlib.Core.Path.{◌≡◌, sym, ap, ◌∙◌}
use mathlib.Core.Bool.{true, false}
use lib.Signed.{lt_z}
use mir.Syntax.{w64}
use mir.Val.{to_z, of_z}
use borrow.Author.Rules.{rules}
use Rattle.state.specs.State.{reached, upper_at_most, has_residual_interval}
use Rattle.intervals.specs.IntervalLaws.{window}
use Rattle.residual.proofs.threshold_residual_check.Goals as goal

pub check_from-requires-clause-window : goal.check_from-requires-clause-window
check_from-requires-clause-window c =
    let s = c.args.state in
    let r = c.reached-reached in
    let hr : to_z w64 (of_z w64 r.result) ≡ r.result = search rules in
    let hp : to_z w64 (of_z w64 s.possible) ≡ s.possible = search rules in
    let cuts : has_residual_interval s ≡ true = search rules in
    let above : upper_at_most s.upper (reached s) ≡ false = ap (upper_at_most s.upper) (sym r.ensures) ∙ sym (simp hr at c.if-upper_at_most.ensures) in
    let inside : lt_z s.possible (reached s) ≡ false = ap (lt_z s.possible) (sym r.ensures) ∙ simp (hr, hp) at c.if-state-reached.false in
    rw c.interval_of.ensures (window s cuts above inside)
