-- `sift::sift_once` meets its contract: what is settled, and then a row that waits is tried.
use native.Mathlib.Omega.{arith}
use borrow.Author.Tests.{eq-eqb, ne_eqb}
use Rattle.row_moves.specs.Between.{did}
use Rattle.row_moves.specs.Lent.{built_of, live_in}
use Rattle.drain.specs.Sift.{sifted}
use Rattle.theorem_keeps.specs.SiftingLaws.{once_stop, once-none, once_try, settled_tries}
use mathlib.Core.Path.{◌∙◌, sym}
use Rattle.sift.proofs.sift_once.Goals as goal

pub returns-then-contradicts-clause-sifted : goal.returns-then-contradicts-clause-sifted
returns-then-contradicts-clause-sifted c =
    let t = c.settle-step in
    (λ x s. once_stop x (live_in c.args.live.now) c.args.gcds.now c.args.visits (did (live_in t.new.live) t.result) (t.ensures.ran.0 x s) (sym c.contradicts.ensures ∙ c.if-contradicts.true))

pub returns-then-count-eq0-clause-sifted : goal.returns-then-count-eq0-clause-sifted
returns-then-count-eq0-clause-sifted c =
    let t = c.settle-step in
    let e = eq-eqb t.new.live.rings.residuals.count 0 c.if-count-eq0.true in
    (λ x s. once-none x (live_in c.args.live.now) c.args.gcds.now c.args.visits (did (live_in t.new.live) t.result) (t.ensures.ran.0 x s) (sym c.contradicts.ensures ∙ c.if-contradicts.false) e)

pub try_row-tried-requires : goal.try_row-tried-requires
try_row-tried-requires c =
    let b = c.args.built in
    let w = c.requires.short in
    let t = c.settle-step in
    let v = settled_tries w.0.0 b.bounds.now (built_of b) w.0.1 (live_in c.args.live.now) c.requires.going (did (live_in t.new.live) t.result) (t.ensures.ran.0 w.0.0 w.0.1) (omega (arith, c.if-count-eq0.false)) in
    v c.args.gcds.now c.args.search.now w.1 w.2

pub returns-clause-sifted : goal.returns-clause-sifted
returns-clause-sifted c =
    let a = c.args in
    let t = c.settle-step in
    let o = c.try_row-tried in
    let e = ne_eqb t.new.live.rings.residuals.count 0 c.if-count-eq0.false in
    (λ x s.
    once_try x (live_in a.live.now) a.gcds.now a.visits (did (live_in t.new.live) t.result) (t.ensures.ran.0 x s) (sym c.contradicts.ensures ∙ c.if-contradicts.false) e
    (sifted (live_in o.new.live) o.new.gcds o.result.step o.result.visits) (o.ensures.tried x s.holds) c.join.result c.join.ensures)
