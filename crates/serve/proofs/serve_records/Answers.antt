-- `serve::serve_records` meets its contract: the records that are left from here are those from the start.
use native.Mathlib.Omega.{arith}
use Rattle.row_moves.specs.Lent.{built_of}
use Rattle.serve.specs.KeptLent.{kept_in}
use Rattle.serve.specs.KeptLentLaws.{kept_on}
use Rattle.serve.specs.ServeLaws.{loops_end, loops_stop, loops_next, loops_less}
use Rattle.serve.proofs.serve_records.Goals as goal

pub serve_record-next-requires : goal.serve_record-next-requires
serve_record-next-requires c =
    let p = c.requires in
    let w = c.loop-reached.invariant.0.so_far p.0.0 p.0.1 p.0.2 in
    ((w.0, p.0.1, w.1), c.loop-reached-test.true, p.1)

pub returns-then-number-ne0-clause-reaches : goal.returns-then-number-ne0-clause-reaches
returns-then-number-ne0-clause-reaches c =
    let a = c.args in
    let b = a.built in
    let l = c.loop-reached in
    let s = c.serve_record-next in
    loops_stop a.input.now b.bounds.now (built_of b) (kept_in a.kept.now) a.first (kept_in l.kept) l.reached l.invariant.0 c.loop-reached-test.true (kept_in s.new.kept) s.result s.ensures.reaches c.if-number-ne0.true

pub loop-reached-smaller : goal.loop-reached-smaller
loop-reached-smaller c =
    let a = c.args in
    let b = a.built in
    let l = c.loop-reached in
    let s = c.serve_record-next in
    let p = c.requires in
    loops_less a.input.now b.bounds.now (built_of b) (kept_in a.kept.now) a.first (kept_in l.kept) l.reached l.invariant.0 c.loop-reached-test.true (kept_in s.new.kept) s.result s.ensures.reaches c.if-number-ne0.false p.0.0 p.0.1 p.0.2

pub loop-reached-preserved : goal.loop-reached-preserved
loop-reached-preserved c =
    let a = c.args in
    let b = a.built in
    let l = c.loop-reached in
    let s = c.serve_record-next in (
      loops_next a.input.now b.bounds.now (built_of b) (kept_in a.kept.now) a.first (kept_in l.kept) l.reached l.invariant.0 c.loop-reached-test.true (kept_in s.new.kept) s.result s.ensures.reaches c.if-number-ne0.false,
      kept_on a.kept.now l.kept s.new.kept l.invariant.1 s.ensures.lent,
    )

pub returns-clause-reaches : goal.returns-clause-reaches
returns-clause-reaches c =
    let a = c.args in
    let b = a.built in
    let l = c.loop-reached in
    loops_end a.input.now b.bounds.now (built_of b) (kept_in a.kept.now) a.first (kept_in l.kept) l.reached l.invariant.0 (omega (arith, c.loop-reached-test.false))
