-- `bound_moves::threshold_prefixes` meets its contract: what was done so far, joined with the neighbours that are left, is the whole.
use Prim.Native.Nat.{ℕ, ◌+◌, ◌-◌, ◌<◌}
use mathlib.Core.Path.{◌≡◌, ◌∙◌, sym, subst}
use native.Mathlib.Omega.{arith}
use Rattle.memory.specs.Ranges.{figure_limit}
use Rattle.row_moves.specs.Between.{state_at}
use Rattle.row_moves.specs.HeldLaws.{stretch-at}
use Rattle.row_moves.specs.Lent.{held_of, live_in}
use Rattle.row_moves.specs.LentLaws.{lent_on}
use Rattle.row_moves.specs.ReadyLaws.{fit_by}
use Rattle.rows.specs.ListsLaws.{stretch-length}
use Rattle.bound_moves.specs.HandingLaws.{Handing, handing_next, handing_stop, handing_end, prefixes_held}
use Rattle.bound_moves.proofs.threshold_prefixes.Goals as goal

pub returns-then-contradicts-clause-ran : goal.returns-then-contradicts-clause-ran
returns-then-contradicts-clause-ran c =
    let turn = c.hand_on-step in
    let count = c.terms_count-own in
    let w = c.loop-link in
    let start = c.links_start-start in
    let end = c.links_end-end in
    let many = c.terms_count-many in
    let load = c.state-source in
    let a = c.args in
    let h = held_of a.built.held in
    let links = a.built.links.now in
    let v = live_in a.live.now in
    let l = w.invariant.0 in
    let long = stretch-length start.result end.result links l.own.inside in
    let k : w.link-index < end.result - start.result = omega (arith, c.loop-link-test.true, long) in
    let at = start.result + w.link-index in
    let here : at < end.result = omega (arith, k) in
    let other = c.place-other.ensures.0 ∙ stretch-at 0 links start.result end.result w.link-index k in
    let stop = handing_stop h links a.row load.result start.result end.result v at w.so_far (live_in w.live) l
    c.requires.shaped.0 here c.requires.shaped.2 many.result many.ensures c.place-other.result other count.result count.ensures
    (live_in turn.new.live) turn.result turn.ensures.ran.0 (sym c.contradicts.ensures ∙ c.if-contradicts.true) in (
      λ x z y. stop x z ∙ prefixes_held x h links y a.row c.requires.shaped.2 start.result end.result start.ensures.0 end.ensures.0 v load.result load.ensures,
      λ t. turn.ensures.ran.1 (w.invariant.1 t),
    )

pub loop-link-preserved : goal.loop-link-preserved
loop-link-preserved c =
    let turn = c.hand_on-step in
    let count = c.terms_count-own in
    let w = c.loop-link in
    let start = c.links_start-start in
    let end = c.links_end-end in
    let many = c.terms_count-many in
    let load = c.state-source in
    let a = c.args in
    let h = held_of a.built.held in
    let links = a.built.links.now in
    let v = live_in a.live.now in
    let l = w.invariant.0 in
    let long = stretch-length start.result end.result links l.own.inside in
    let k : w.link-index < end.result - start.result = omega (arith, c.loop-link-test.true, long) in
    let at = start.result + w.link-index in
    let here : at < end.result = omega (arith, k) in
    let other = c.place-other.ensures.0 ∙ stretch-at 0 links start.result end.result w.link-index k in
    let f = fit_by h figure_limit a.row load.result (state_at v a.row) load.ensures (c.requires.runnable.ready.fit a.row c.requires.shaped.2) in
    let next = handing_next h links a.row load.result start.result end.result v at w.so_far (live_in w.live) l
    c.requires.shaped.0 here c.requires.shaped.2 many.result many.ensures c.place-other.result other count.result count.ensures
    (live_in turn.new.live) turn.result turn.ensures.ran.0 f.lower f.upper (sym c.contradicts.ensures ∙ c.if-contradicts.false) c.join-so_far.result c.join-so_far.ensures in
    let on : at + 1 ≡ start.result + (w.link-index + 1) = omega arith in (
      subst (λ (i : ℕ). Handing h links a.row load.result start.result end.result v i c.join-so_far.result (live_in turn.new.live)) on next,
      λ t. turn.ensures.ran.1 (w.invariant.1 t),
      lent_on a.live.now w.live turn.new.live w.invariant.2 turn.ensures.lent,
    )

pub returns-clause-ran : goal.returns-clause-ran
returns-clause-ran c =
    let w = c.loop-link in
    let start = c.links_start-start in
    let end = c.links_end-end in
    let load = c.state-source in
    let a = c.args in
    let h = held_of a.built.held in
    let links = a.built.links.now in
    let v = live_in a.live.now in
    let l = w.invariant.0 in
    let long = stretch-length start.result end.result links l.own.inside in
    let last = handing_end h links a.row load.result start.result end.result v (start.result + w.link-index) w.so_far (live_in w.live) l (omega (arith, c.loop-link-test.false, long)) in (
      λ x z y. last x z ∙ prefixes_held x h links y a.row c.requires.shaped.2 start.result end.result start.ensures.0 end.ensures.0 v load.result load.ensures,
      w.invariant.1,
    )
