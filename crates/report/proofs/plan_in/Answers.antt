-- `report::plan_in` meets its contract: what the call left can be listed, and its listing is that of the input's file.
use native.Mathlib.Omega.{arith}
use Rattle.memory.specs.Buffers.{raw_lists, raw, held_rows, built, kept, work}
use Rattle.report.specs.PlanLaws.{ran_listable, ran_plans}
use Rattle.report.proofs.plan_in.Goals as goal

pub list-length-requires : goal.list-length-requires
list-length-requires c =
    let n = c.run-given.new in
    let w = work (raw (raw_lists n.raw_conditions n.raw_weights n.thresholds) n.bounds)
    (built (held_rows n.row_conditions n.row_weights n.rows n.guard_bounds n.guard_nodes) n.nodes n.edges n.links)
    (kept n.figures n.cursors n.sure n.never n.search n.gcds n.node_queue n.row_queues n.answers) in
    (ran_listable c.requires _ n.states w c.run-given.result (omega arith) c.run-given.ensures, c.requires.room)

pub returns : goal.returns
returns c =
    let n = c.run-given.new in
    let w = work (raw (raw_lists n.raw_conditions n.raw_weights n.thresholds) n.bounds)
    (built (held_rows n.row_conditions n.row_weights n.rows n.guard_bounds n.guard_nodes) n.nodes n.edges n.links)
    (kept n.figures n.cursors n.sure n.never n.search n.gcds n.node_queue n.row_queues n.answers) in
    ran_plans c.requires _ n.states w c.run-given.result (omega arith) c.run-given.ensures c.list-length.auto.out c.list-length.ensures
