-- `reading::read_records` meets its contract: every record that is taken keeps the invariant.
use native.Mathlib.Omega.{arith}
use Rattle.reading.specs.HeldLaws.{goes, from_asks, from_ends, from_stops, from_farther, from_on}
use Rattle.reading.specs.LentLaws.{raw_on, notes_on}
use Rattle.reading.proofs.read_records.Goals as goal

pub read_entry-read-requires : goal.read_entry-read-requires
read_entry-read-requires c =
    let g = c.args in
    let v = c.loop-read in
    let p = c.requires.0 in
    let r = from_asks g.input.now g.at g.standing _ _ _ _ _ _ v.read _ _ _ _ _ _ v.invariant.0 p.0 p.1 p.2 p.3 in
    (c.entry_comes.ensures c.if-entry_comes.true, r.1, r.2)

pub loop-read-smaller-then-entry_comes : goal.loop-read-smaller-then-entry_comes
loop-read-smaller-then-entry_comes c =
    let g = c.args in
    let v = c.loop-read in
    let n = c.read_entry-read in
    let p = c.requires.0 in
    let e = goes n.result n.ensures.going.0 n.ensures.going.1 in
    let far = from_farther g.input.now g.at g.standing _ _ _ _ _ _ v.read _ _ _ _ _ _ v.invariant.0 c.loop-read-test.true n.result _ _ _ _ _ _ n.ensures.reads p.0 p.1 p.2 p.3 e in
    omega (arith, c.loop-read-test.true, far)

pub loop-read-preserved-then-entry_comes : goal.loop-read-preserved-then-entry_comes
loop-read-preserved-then-entry_comes c =
    let g = c.args in
    let v = c.loop-read in
    let n = c.read_entry-read in
    let i = v.invariant in
    let l = n.ensures.lent in
    let e = goes n.result n.ensures.going.0 n.ensures.going.1 in (
      from_on g.input.now g.at g.standing _ _ _ _ _ _ v.read _ _ _ _ _ _ i.0 c.loop-read-test.true n.result _ _ _ _ _ _ n.ensures.reads e,
      raw_on g.raw.now v.raw n.new.raw i.1 l.0,
      notes_on g.notes.now v.notes n.new.notes i.2 l.1,
    )

pub read_record-next-requires : goal.read_record-next-requires
read_record-next-requires c =
    let g = c.args in
    let v = c.loop-read in
    let p = c.requires.0 in
    let r = from_asks g.input.now g.at g.standing _ _ _ _ _ _ v.read _ _ _ _ _ _ v.invariant.0 p.0 p.1 p.2 p.3 in
    (c.loop-read-test.true, r.0, r.1, r.2)

pub returns-then-stops-clause-reads : goal.returns-then-stops-clause-reads
returns-then-stops-clause-reads c =
    let g = c.args in
    let v = c.loop-read in
    let n = c.read_record-next in
    from_stops g.input.now g.at g.standing _ _ _ _ _ _ v.read _ _ _ _ _ _ v.invariant.0 c.loop-read-test.true n.result _ _ _ _ _ _ n.ensures.reads c.if-stops.true

pub loop-read-smaller : goal.loop-read-smaller
loop-read-smaller c =
    let g = c.args in
    let v = c.loop-read in
    let n = c.read_record-next in
    let p = c.requires.0 in
    let e = c.if-stops.false in
    let far = from_farther g.input.now g.at g.standing _ _ _ _ _ _ v.read _ _ _ _ _ _ v.invariant.0 c.loop-read-test.true n.result _ _ _ _ _ _ n.ensures.reads p.0 p.1 p.2 p.3 e in
    omega (arith, c.loop-read-test.true, far)

pub loop-read-preserved : goal.loop-read-preserved
loop-read-preserved c =
    let g = c.args in
    let v = c.loop-read in
    let n = c.read_record-next in
    let i = v.invariant in
    let l = n.ensures.lent in
    let e = c.if-stops.false in (
      from_on g.input.now g.at g.standing _ _ _ _ _ _ v.read _ _ _ _ _ _ i.0 c.loop-read-test.true n.result _ _ _ _ _ _ n.ensures.reads e,
      raw_on g.raw.now v.raw n.new.raw i.1 l.0,
      notes_on g.notes.now v.notes n.new.notes i.2 l.1,
    )

pub returns-clause-reads : goal.returns-clause-reads
returns-clause-reads c =
    let g = c.args in
    let v = c.loop-read in
    from_ends g.input.now g.at g.standing _ _ _ _ _ _ v.read _ _ _ _ _ _ v.invariant.0 c.loop-read-test.false
