-- `conditions::threshold_condition` meets its contract: what was done so far, joined with the edges that are left, is the whole.
use Prim.Native.Nat.{ℕ, ◌+◌, ◌-◌, ◌<◌}
use mathlib.Core.Path.{◌≡◌, ◌∙◌, sym, subst, ap}
use mathlib.Core.List.{List, []}
use native.Mathlib.Omega.{arith}
use lib.ListN.{get_or}
use Rattle.row_moves.specs.HeldLaws.{stretch-at}
use Rattle.row_moves.specs.Lent.{held_of, live_in}
use Rattle.row_moves.specs.LentLaws.{lent_on}
use Rattle.rows.specs.ListsLaws.{stretch-length}
use Rattle.conditions.specs.DrainingLaws.{Draining, draining_next, draining_stop, draining_end, condition_held}
use Rattle.conditions.proofs.threshold_condition.Goals as goal

pub returns-then-stops-clause-ran : goal.returns-then-stops-clause-ran
returns-then-stops-clause-ran c =
    let turn = c.drain_edge-step in
    let w = c.loop-row in
    let start = c.edges_start-start in
    let end = c.edges_end-end in
    let bit = c.bit-value in
    let a = c.args in
    let h = held_of a.built.held in
    let edges = a.built.edges.now in
    let v = live_in a.live.now in
    let l = w.invariant.0 in
    let long = stretch-length start.result end.result edges l.own.inside in
    let k : w.row-index < end.result - start.result = omega (arith, c.loop-row-test.true, long) in
    let at = start.result + w.row-index in
    let here : at < end.result = omega (arith, k) in
    let edge = stretch-at [] edges start.result end.result w.row-index k in
    let row = ap (λ (e : List ℕ). get_or e 0 0) edge in
    let weight = ap (λ (e : List ℕ). get_or e 1 0) edge in
    let stop = draining_stop h edges bit.result start.result end.result v at w.so_far (live_in w.live) l
    c.requires.shaped.0 here _ _ row weight (live_in turn.new.live) turn.result turn.ensures.ran.0 (sym c.contradicts-contradicts.ensures ∙ c.if-stops.true) in (
      λ x z y. stop x z ∙ condition_held x a.built.nodes.now edges y a.node c.requires.shaped.2 start.result end.result start.ensures.0 end.ensures.0 v bit.result bit.ensures,
      λ t. turn.ensures.ran.1 (w.invariant.1 t),
    )

pub loop-row-preserved : goal.loop-row-preserved
loop-row-preserved c =
    let turn = c.drain_edge-step in
    let w = c.loop-row in
    let start = c.edges_start-start in
    let end = c.edges_end-end in
    let bit = c.bit-value in
    let a = c.args in
    let h = held_of a.built.held in
    let edges = a.built.edges.now in
    let v = live_in a.live.now in
    let l = w.invariant.0 in
    let long = stretch-length start.result end.result edges l.own.inside in
    let k : w.row-index < end.result - start.result = omega (arith, c.loop-row-test.true, long) in
    let at = start.result + w.row-index in
    let here : at < end.result = omega (arith, k) in
    let edge = stretch-at [] edges start.result end.result w.row-index k in
    let row = ap (λ (e : List ℕ). get_or e 0 0) edge in
    let weight = ap (λ (e : List ℕ). get_or e 1 0) edge in
    let next = draining_next h edges bit.result start.result end.result v at w.so_far (live_in w.live) l
    c.requires.shaped.0 here _ _ row weight (live_in turn.new.live) turn.result turn.ensures.ran.0 (sym c.contradicts-contradicts.ensures ∙ c.if-stops.false) c.join-so_far.result c.join-so_far.ensures in
    let on : at + 1 ≡ start.result + (w.row-index + 1) = omega arith in (
      subst (λ (i : ℕ). Draining h edges bit.result start.result end.result v i c.join-so_far.result (live_in turn.new.live)) on next,
      λ t. turn.ensures.ran.1 (w.invariant.1 t),
      lent_on a.live.now w.live turn.new.live w.invariant.2 turn.ensures.lent,
    )

pub returns-clause-ran : goal.returns-clause-ran
returns-clause-ran c =
    let w = c.loop-row in
    let start = c.edges_start-start in
    let end = c.edges_end-end in
    let bit = c.bit-value in
    let a = c.args in
    let h = held_of a.built.held in
    let edges = a.built.edges.now in
    let v = live_in a.live.now in
    let l = w.invariant.0 in
    let long = stretch-length start.result end.result edges l.own.inside in
    let last = draining_end h edges bit.result start.result end.result v (start.result + w.row-index) w.so_far (live_in w.live) l (omega (arith, c.loop-row-test.false, long)) in (
      λ x z y. last x z ∙ condition_held x a.built.nodes.now edges y a.node c.requires.shaped.2 start.result end.result start.ensures.0 end.ensures.0 v bit.result bit.ensures,
      w.invariant.1,
    )
