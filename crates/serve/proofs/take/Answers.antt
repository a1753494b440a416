-- `serve::take` meets its contract: a mark, a settle or a sift; the other arms are never reached.
use Rattle.row_moves.specs.Between.{did}
use Rattle.row_moves.specs.Lent.{built_of, live_in}
use Rattle.drain.specs.Sift.{sifted}
use Rattle.serve.specs.ServeLaws.{takes_going, takes_serves, takes_short, takes_mark, took_mark, took_settle, took_sift}
use Rattle.serve.proofs.take.Goals as goal

pub mark-step-requires : goal.mark-step-requires
mark-step-requires c =
    let a = c.args in
    let b = a.built in
    let p = c.requires in (
      (takes_going b.bounds.now (built_of b) p.0 a.given (live_in a.live.now) a.gcds.now a.search.now p.1).sound.waits,
      takes_mark b.bounds.now (built_of b) p.0 a.given (live_in a.live.now) a.gcds.now a.search.now p.1 c.in-Mark.node c.in-Mark.value c.in-Mark.is,
    )

pub settle-step-requires : goal.settle-step-requires
settle-step-requires c =
    let a = c.args in
    let b = a.built in
    let p = c.requires in record {
      serves = takes_serves b.bounds.now (built_of b) p.0 a.given (live_in a.live.now) a.gcds.now a.search.now p.1;
      going = takes_going b.bounds.now (built_of b) p.0 a.given (live_in a.live.now) a.gcds.now a.search.now p.1;
    }

pub sift-requires : goal.sift-requires
sift-requires c =
    let a = c.args in
    let b = a.built in
    let p = c.requires in record {
      short = (
        takes_serves b.bounds.now (built_of b) p.0 a.given (live_in a.live.now) a.gcds.now a.search.now p.1,
        takes_short b.bounds.now (built_of b) p.0 a.given (live_in a.live.now) a.gcds.now a.search.now p.1,
        p.1.scratch,
      );
      going = takes_going b.bounds.now (built_of b) p.0 a.given (live_in a.live.now) a.gcds.now a.search.now p.1;
    }

pub returns-in-Mark-clause-came : goal.returns-in-Mark-clause-came
returns-in-Mark-clause-came c =
    let a = c.args in
    let b = a.built in
    let m = c.mark-step in
    λ f t. took_mark b.bounds.now (built_of b) f a.given (live_in a.live.now) a.gcds.now a.search.now t c.in-Mark.node c.in-Mark.value c.in-Mark.is (did (live_in m.new.live) m.result) m.ensures.marked.0

pub returns-in-Settle-clause-came : goal.returns-in-Settle-clause-came
returns-in-Settle-clause-came c =
    let a = c.args in
    let b = a.built in
    let m = c.settle-step in
    λ f t. took_settle b.bounds.now (built_of b) f a.given (live_in a.live.now) a.gcds.now a.search.now t c.in-Settle.is (did (live_in m.new.live) m.result) m.ensures.ran.0

pub returns-in-Sift-clause-came : goal.returns-in-Sift-clause-came
returns-in-Sift-clause-came c =
    let a = c.args in
    let b = a.built in
    let m = c.sift in
    λ f t. took_sift b.bounds.now (built_of b) f a.given (live_in a.live.now) a.gcds.now a.search.now t c.in-Sift.is (sifted (live_in m.new.live) m.new.gcds m.result.step m.result.visits) m.ensures.sifted
