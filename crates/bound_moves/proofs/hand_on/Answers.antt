-- `bound_moves::hand_on` meets its contract: the bounds are nothing new, the row rests with them, or they move it.
use mathlib.Core.Bool.{true}
use mathlib.Core.Path.{◌≡◌, refl, sym, ◌∙◌, ap}
use native.Mathlib.Omega.{arith}
use Rattle.state.specs.declared.State.{State}
use Rattle.state.specs.declared.Step.TheVariants.{Unchanged, Changed}
use Rattle.queues.specs.Queue.{queue}
use Rattle.tightening.specs.Told.{tight, told, moved_state}
use Rattle.tightening.specs.ToldLaws.{told_some, told_none}
use Rattle.memory.specs.Ranges.{figure_limit}
use Rattle.row_moves.specs.Between.{Live, did, state_at, with_dirty, with_state}
use Rattle.row_moves.specs.Held.{held_row}
use Rattle.row_moves.specs.Lent.{held_of, live_in}
use Rattle.row_moves.specs.BetweenLaws.{rest_told}
use Rattle.bound_moves.specs.HandingLaws.{handed_new, handed_none, fit_taken}
use Rattle.bound_moves.proofs.hand_on.Goals as goal

pub rests-requires : goal.rests-requires
rests-requires c =
    let a = c.args in
    let w = c.requires.runnable.ready in
    let load = c.state-state in
    let next = c.in-Some.next in
    let k = c.requires.shaped in
    let heard = told_some next (moved_state a.source load.result a.many a.own) (sym c.in-Some.is ∙ c.moved_state-moved.ensures) in
    let fit = fit_taken (held_of a.held) figure_limit a.row a.source load.result (state_at (live_in a.live.now) a.row) a.many a.own (tight next true) k.2 k.3 load.ensures (w.fit a.row k.1) heard in
    ((a.held.guard_nodes.now, k.0, fit), k.1, omega (arith, w.waits.sures), omega (arith, w.waits.nevers))

pub returns-then-rests-clause-ran : goal.returns-then-rests-clause-ran
returns-then-rests-clause-ran c =
    let note = c.note in
    let load = c.state-state in
    let next = c.in-Some.next in
    let a = c.args in
    let l = a.live.now in
    let row = held_row (held_of a.held) a.row in
    let v = live_in l in
    let r = a.row in
    let t = moved_state a.source (state_at v r) a.many a.own in
    let heard = told_some next t (sym c.in-Some.is ∙ c.moved_state-moved.ensures ∙ ap (λ (y : State). told (moved_state a.source y a.many a.own)) load.ensures) in
    let noted = with_dirty (with_state v r next) r in
    let rest = c.rests.ensures c.if-rests.true a.held.guard_nodes.now (queue l.node_queue.now l.rings.nodes) c.requires.shaped.0 in
    let ran = rest_told row v r next (omega (arith, c.requires.runnable.ready.long, c.requires.shaped.1)) rest noted refl refl refl refl in (
      handed_new row v r t (tight next true) heard refl (did (live_in note.new.live) Unchanged) (ap (λ (y : Live). did y Unchanged) note.ensures.noted.0 ∙ ran) Changed refl,
      note.ensures.noted.1,
    )

pub run_bounded-step-requires-clause-shaped : goal.run_bounded-step-requires-clause-shaped
run_bounded-step-requires-clause-shaped c =
    let a = c.args in
    let w = c.requires.runnable.ready in
    let load = c.state-state in
    let next = c.in-Some.next in
    let k = c.requires.shaped in
    let heard = told_some next (moved_state a.source load.result a.many a.own) (sym c.in-Some.is ∙ c.moved_state-moved.ensures) in
    (k.0, k.1, fit_taken (held_of a.held) figure_limit a.row a.source load.result (state_at (live_in a.live.now) a.row) a.many a.own (tight next true) k.2 k.3 load.ensures (w.fit a.row k.1) heard)

pub returns-in-Some-clause-ran : goal.returns-in-Some-clause-ran
returns-in-Some-clause-ran c =
    let ran = c.run_bounded-step in
    let next = c.in-Some.next in
    let a = c.args in
    let v = live_in a.live.now in
    let r = a.row in
    let t = moved_state a.source (state_at v r) a.many a.own in
    let heard = told_some next t (sym c.in-Some.is ∙ c.moved_state-moved.ensures ∙ ap (λ (y : State). told (moved_state a.source y a.many a.own)) c.state-state.ensures) in (
      handed_new (held_row (held_of a.held) r) v r t (tight next true) heard refl (did (live_in ran.new.live) ran.result) ran.ensures.ran.0 c.tell.result c.tell.ensures,
      ran.ensures.ran.1,
    )

pub returns-clause-ran : goal.returns-clause-ran
returns-clause-ran c =
    let a = c.args in
    let v = live_in a.live.now in
    let r = a.row in
    let t = moved_state a.source (state_at v r) a.many a.own in
    (handed_none (held_row (held_of a.held) r) v r t t refl (told_none t (sym c.in_default.is ∙ c.moved_state-moved.ensures ∙ ap (λ (y : State). told (moved_state a.source y a.many a.own)) c.state-state.ensures)), λ y. y)
