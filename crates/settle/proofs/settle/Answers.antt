-- `settle::settle` meets its contract: the turns that are left from here are those from the start.
use mathlib.Core.Bool.{◌&&◌}
use lib.Dec.{eqb}
use borrow.Author.Tests.{not-true, not-false}
use Rattle.row_moves.specs.Between.{did}
use Rattle.row_moves.specs.Lent.{built_of, live_in}
use Rattle.row_moves.specs.LentLaws.{lent_on}
use Rattle.theorem_keeps.specs.SettlingLaws.{settling_first, settling_next, settling_less, settling_stop, settling_end, row-waits}
use mathlib.Core.Path.{◌∙◌, sym, refl}
use Rattle.settle.proofs.settle.Goals as goal

pub loop-busy-init : goal.loop-busy-init
loop-busy-init c =
    let b = c.args.built in
    (settling_first b.bounds.now (built_of b) (live_in c.args.live.now) c.requires.going, c.waits-busy.ensures, λ t. t, (refl, refl, refl, refl, refl, refl, refl, refl, refl, refl, refl, refl))

pub turn-step-requires : goal.turn-step-requires
turn-step-requires c =
    let l = c.loop-busy in
    let r = l.live.rings in
    let waits = not-true (eqb r.nodes.count 0 && eqb r.rows.count 0) (sym l.invariant.1 ∙ c.loop-busy-test.true) in
    record { count_nonzero = (c.requires.serves, row-waits r.nodes.count r.rows.count waits); going = l.invariant.0.going }

pub returns-then-contradicts-clause-ran : goal.returns-then-contradicts-clause-ran
returns-then-contradicts-clause-ran c =
    let b = c.args.built in
    let l = c.loop-busy in
    let r = l.live.rings in
    let t = c.turn-step in
    let waits = not-true (eqb r.nodes.count 0 && eqb r.rows.count 0) (sym l.invariant.1 ∙ c.loop-busy-test.true) in (
      settling_stop b.bounds.now (built_of b) (live_in c.args.live.now) l.so_far (live_in l.live) l.invariant.0 waits (did (live_in t.new.live) t.result) t.ensures.ran.0
          (sym c.contradicts.ensures ∙ c.if-contradicts.true),
      λ i. t.ensures.ran.1 (l.invariant.2 i),
    )

pub loop-busy-smaller : goal.loop-busy-smaller
loop-busy-smaller c =
    let b = c.args.built in
    let l = c.loop-busy in
    let r = l.live.rings in
    let t = c.turn-step in
    let w = c.requires.serves in
    let waits = not-true (eqb r.nodes.count 0 && eqb r.rows.count 0) (sym l.invariant.1 ∙ c.loop-busy-test.true) in
    settling_less b.bounds.now (built_of b) (live_in c.args.live.now) l.so_far (live_in l.live) l.invariant.0 waits (did (live_in t.new.live) t.result) t.ensures.ran.0 w.0 w.1

pub loop-busy-preserved : goal.loop-busy-preserved
loop-busy-preserved c =
    let b = c.args.built in
    let l = c.loop-busy in
    let r = l.live.rings in
    let t = c.turn-step in
    let w = c.requires.serves in
    let waits = not-true (eqb r.nodes.count 0 && eqb r.rows.count 0) (sym l.invariant.1 ∙ c.loop-busy-test.true) in (
      settling_next b.bounds.now (built_of b) (live_in c.args.live.now) l.so_far (live_in l.live) l.invariant.0 waits (did (live_in t.new.live) t.result) t.ensures.ran.0 w.0 w.1
          (sym c.contradicts.ensures ∙ c.if-contradicts.false) c.join-so_far.result c.join-so_far.ensures,
      c.waits-busy-in-loop-busy.ensures,
      λ i. t.ensures.ran.1 (l.invariant.2 i),
      lent_on c.args.live.now l.live t.new.live l.invariant.3 t.ensures.lent,
    )

pub returns-clause-ran : goal.returns-clause-ran
returns-clause-ran c =
    let b = c.args.built in
    let l = c.loop-busy in
    let r = l.live.rings in
    let rests = not-false (eqb r.nodes.count 0 && eqb r.rows.count 0) (sym l.invariant.1 ∙ c.loop-busy-test.false) in
    (settling_end b.bounds.now (built_of b) (live_in c.args.live.now) l.so_far (live_in l.live) l.invariant.0 rests, l.invariant.2)
