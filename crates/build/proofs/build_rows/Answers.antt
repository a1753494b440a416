-- `build::build_rows` meets its contract: the job cut to its counts is one that `prepare` takes.
use native.Mathlib.Omega.{arith}
use lib.ListN.{length, take}
use lib.Seq.{length-take-le}
use Rattle.prepare.specs.Lent.{unlinked_in}
use Rattle.build.specs.SoundLaws.{long, nodes_inside, gathered_sound, gathered_ample}
use Rattle.build.specs.BuiltLaws.{unlinked, rows_few}
use Rattle.build.proofs.build_rows.Goals as goal

pub prepare-so-requires : goal.prepare-so-requires
prepare-so-requires c =
    let g = c.args in
    let l = g.lists in
    let p = c.requires in
    let b = unlinked_in g.built.now g.nodes.now g.edges.now in
    let i = nodes_inside g.standing l.raw_conditions.now l.raw_weights.now l.thresholds.now g.bounds.now p.0 b p.1 in (
      gathered_sound g.standing l.raw_conditions.now l.raw_weights.now l.thresholds.now g.bounds.now p.0 (length (take g.standing.nodes g.nodes.now)) (length-take-le g.standing.nodes g.nodes.now i),
      gathered_ample g.standing l.raw_conditions.now l.raw_weights.now l.thresholds.now g.bounds.now p.0 b g.scratch.now p.1 p.2,
    )

pub returns-clause-laid : goal.returns-clause-laid
returns-clause-laid c =
    let g = c.args in
    let l = g.lists in
    let p = c.requires in
    let b = unlinked_in g.built.now g.nodes.now g.edges.now in
    let i = nodes_inside g.standing l.raw_conditions.now l.raw_weights.now l.thresholds.now g.bounds.now p.0 b p.1 in
    let e = c.prepare-so.ensures.prepared in
    let r = rows_few g.standing l.raw_conditions.now l.raw_weights.now l.thresholds.now g.bounds.now b i c.prepare-so.result _ e.0 in
    let k = long g.standing l.raw_conditions.now l.raw_weights.now l.thresholds.now g.bounds.now p.0 in
    (e.0.many, omega (arith, e.0.many, r, k, p.0.listed.many), unlinked g.standing l.raw_conditions.now l.raw_weights.now l.thresholds.now g.bounds.now b i c.prepare-so.result _ e.0, e.1)
