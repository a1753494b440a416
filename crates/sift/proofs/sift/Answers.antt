-- `sift::sift` meets its contract: the rounds that are left from here are those from the start.
use Rattle.row_moves.specs.Lent.{built_of, live_in}
use Rattle.row_moves.specs.LentLaws.{lent_on}
use Rattle.drain.specs.Sift.{sifted}
use Rattle.theorem_keeps.specs.Tries.{round}
use Rattle.theorem_keeps.specs.SiftingLaws.{sifting_first, sifting_next, sifting_less, sifting_stop, scratch_next}
use mathlib.Core.Path.{◌∙◌, refl, sym}
use Rattle.sift.proofs.sift.Goals as goal

pub loop-more-init : goal.loop-more-init
loop-more-init c =
    let b = c.args.built in (
      sifting_first b.bounds.now (built_of b) (live_in c.args.live.now) c.args.gcds.now c.requires.going,
      c.requires.short.2,
      refl,
      refl,
      λ t. t,
      (refl, refl, refl, refl, refl, refl, refl, refl, refl, refl, refl, refl),
    )

pub returns-then-contradicts-clause-sifted : goal.returns-then-contradicts-clause-sifted
returns-then-contradicts-clause-sifted c =
    let a = c.args in
    let b = a.built in
    let l = c.loop-more in
    let t = c.sift_once-round in
    let r = round (sifted (live_in t.new.live) t.new.gcds t.result.step t.result.visits) t.result.more in
    sifting_stop b.bounds.now (built_of b) (live_in a.live.now) a.gcds.now l.so_far.step l.so_far.visits l.more (live_in l.live) l.gcds l.invariant.0 c.loop-more-test.true
    r t.ensures.sifted (sym c.contradicts.ensures ∙ c.if-contradicts.true)

pub loop-more-smaller : goal.loop-more-smaller
loop-more-smaller c =
    let a = c.args in
    let b = a.built in
    let l = c.loop-more in
    let t = c.sift_once-round in
    let r = round (sifted (live_in t.new.live) t.new.gcds t.result.step t.result.visits) t.result.more in
    let w = c.requires.short.0 in
    sifting_less b.bounds.now (built_of b) (live_in a.live.now) a.gcds.now l.so_far.step l.so_far.visits l.more (live_in l.live) l.gcds l.invariant.0 c.loop-more-test.true
    r t.ensures.sifted w.0 w.1

pub loop-more-preserved : goal.loop-more-preserved
loop-more-preserved c =
    let a = c.args in
    let b = a.built in
    let l = c.loop-more in
    let t = c.sift_once-round in
    let r = round (sifted (live_in t.new.live) t.new.gcds t.result.step t.result.visits) t.result.more in
    let w = c.requires.short.0 in (
      sifting_next b.bounds.now (built_of b) (live_in a.live.now) a.gcds.now l.so_far.step l.so_far.visits l.more (live_in l.live) l.gcds l.invariant.0 c.loop-more-test.true
          r t.ensures.sifted w.0 w.1 (sym c.contradicts.ensures ∙ c.if-contradicts.false) c.join.result c.join.ensures,
      scratch_next l.gcds t.new.gcds l.search t.new.search t.auto.gcds t.ensures.kept.1 l.invariant.1,
      t.ensures.kept.1 ∙ l.invariant.2,
      t.auto.gcds ∙ l.invariant.3,
      λ i. t.ensures.kept.0 (l.invariant.4 i),
      lent_on a.live.now l.live t.new.live l.invariant.5 t.ensures.lent,
    )
