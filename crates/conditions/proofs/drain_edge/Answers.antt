-- `conditions::drain_edge` meets its contract: the weight is drained, the sums are stored, and the row is run.
use Prim.Native.Nat.{ℕ, ◌+◌, ◌-◌}
use mathlib.Core.Path.{◌≡◌, ◌∙◌, ap, refl}
use mathlib.Core.List.{[]}
use lib.ListN.{get_or, set}
use mir.Syntax.{w64}
use mir.Val.{to_z, of_z}
use native.Mathlib.Omega.{arith}
use Rattle.state.specs.State.{drained}
use Rattle.memory.specs.Ranges.{figure_limit, drain_limit}
use Rattle.row_moves.specs.Between.{state_at}
use Rattle.row_moves.specs.Numbers.{states_of}
use Rattle.row_moves.specs.NumbersLaws.{states_figures}
use Rattle.row_moves.specs.Stored.{sum_words}
use Rattle.row_moves.specs.BetweenLaws.{store_run}
use Rattle.row_moves.specs.Held.{held_row}
use Rattle.row_moves.specs.Lent.{held_of, live_in}
use Rattle.row_moves.specs.ReadyLaws.{ready_more, ready_set, ready_states, fit_more, fit_drained}
use Rattle.conditions.specs.DrainingLaws.{drained_stored}
use borrow.Author.Rules.{rules}
use Rattle.conditions.proofs.drain_edge.Goals as goal

pub store_sums-requires : goal.store_sums-requires
store_sums-requires c =
    let l = c.args.live.now in
    omega (arith, c.requires.ready_live.long, c.requires.shaped.1, states_figures l.figures.now l.cursors.now)

pub run-requires-clause-ready_live : goal.run-requires-clause-ready_live
run-requires-clause-ready_live c =
    let a = c.args in
    let l = a.live.now in
    let h = held_of a.held in
    let v = live_in l in
    let n : ℕ = figure_limit - drain_limit in
    let r = a.row in
    let s = state_at v r in
    let t = drained a.value a.weight s in
    let moved = c.drained-next.result in
    let hk : to_z w64 (of_z w64 moved.known) ≡ moved.known = search rules in
    let hp : to_z w64 (of_z w64 moved.possible) ≡ moved.possible = search rules in
    let words : c.store_sums.new.figures ≡ set l.figures.now r (sum_words (get_or l.figures.now r []) moved.known moved.possible) = simp (hk, hp) at c.store_sums.ensures in
    let e = c.drained-next.ensures ∙ ap (drained a.value a.weight) c.state-state.ensures in
    let stored = drained_stored l.figures.now c.store_sums.new.figures l.cursors.now r a.weight a.value s moved (omega (arith, c.requires.ready_live.long, c.requires.shaped.1)) e words refl in
    let f = fit_more h (n + drain_limit) figure_limit r t (omega arith) (fit_drained h n r s a.value a.weight c.requires.shaped.2 (c.requires.ready_live.fit r c.requires.shaped.1)) in
    let y = ready_set h figure_limit v.states v.marks v.residuals (ready_more h n figure_limit v.states v.marks v.residuals (omega arith) c.requires.ready_live) r t f in
    ready_states h figure_limit (set v.states r t) (states_of c.store_sums.new.figures l.cursors.now) v.marks v.residuals stored.states y

pub returns-clause-ran : goal.returns-clause-ran
returns-clause-ran c =
    let a = c.args in
    let l = a.live.now in
    let v = live_in l in
    let r = a.row in
    let s = state_at v r in
    let moved = c.drained-next.result in
    let hk : to_z w64 (of_z w64 moved.known) ≡ moved.known = search rules in
    let hp : to_z w64 (of_z w64 moved.possible) ≡ moved.possible = search rules in
    let words : c.store_sums.new.figures ≡ set l.figures.now r (sum_words (get_or l.figures.now r []) moved.known moved.possible) = simp (hk, hp) at c.store_sums.ensures in
    let e = c.drained-next.ensures ∙ ap (drained a.value a.weight) c.state-state.ensures in
    let stored = drained_stored l.figures.now c.store_sums.new.figures l.cursors.now r a.weight a.value s moved (omega (arith, c.requires.ready_live.long, c.requires.shaped.1)) e words refl in (
      store_run (held_row (held_of a.held) r) v r (drained a.value a.weight s) (states_of c.store_sums.new.figures l.cursors.now) stored.states _ c.run.ensures.ran.0,
      λ t. c.run.ensures.ran.1 (stored.tidy t),
    )
