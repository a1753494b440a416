-- `build::build_job` meets its contract: the rows' terms lie in the buffers, so that their links can be found.
use Prim.Native.Nat.{◌≤◌}
use lib.ListN.{length}
use lib.Seq.{length-take-le}
use mathlib.Core.Path.{sym}
use Rattle.build.specs.Lent.{job_lent, built_in}
use Rattle.build.specs.BuiltLaws.{rows_inside, linkable, all_built}
use Rattle.build.proofs.build_job.Goals as goal
use Rattle.build.proofs.build_job.Goals.{After-build_rows-count}

inside : (c : After-build_rows-count) → c.build_rows-count.result ≤ length c.build_rows-count.new.built.rows.now
inside c =
    let g = c.args in
    let e = c.build_rows-count.ensures.laid in
    rows_inside (job_lent g.standing g.lists g.bounds.now) c.build_rows-count.result (built_in g.built.now g.nodes.now g.edges.now g.links.now) _ c.requires.1 e.0 e.1 e.2

pub slice_bounds-prepare-end : goal.slice_bounds-prepare-end
slice_bounds-prepare-end c = inside (goal.at.slice_bounds-prepare-end c).After-build_rows-count

pub slice_bounds-prepare-end-2 : goal.slice_bounds-prepare-end-2
slice_bounds-prepare-end-2 c = sym (length-take-le c.build_rows-count.result c.build_rows-count.new.built.rows.now (inside (goal.at.slice_bounds-prepare-end-2 c).After-build_rows-count))

pub prepare-requires : goal.prepare-requires
prepare-requires c =
    let g = c.args in
    let e = c.build_rows-count.ensures.laid in
    linkable (job_lent g.standing g.lists g.bounds.now) c.build_rows-count.result (built_in g.built.now g.nodes.now g.edges.now g.links.now) _ c.requires.1 e.0 e.1 e.2 c.requires.2

pub returns-clause-laid : goal.returns-clause-laid
returns-clause-laid c =
    let g = c.args in
    let e = c.build_rows-count.ensures.laid in
    (e.0, all_built (job_lent g.standing g.lists g.bounds.now) c.build_rows-count.result (built_in g.built.now g.nodes.now g.edges.now g.links.now) _ c.requires.1 e.0 e.1 e.2 _ _ c.prepare.ensures)
