-- `planner::run` meets its contract: too few states, a call that touches nothing, or the states of what was served.
use mathlib.Core.Path.{ap, ◌∙◌}
use Rattle.memory.specs.Buffers.{raw_lists, raw, held_rows, built, kept, work}
use Rattle.files.specs.declared.Given.{Given}
use Rattle.files.specs.Contents.{out}
use Rattle.files.specs.Planner.{left}
use Rattle.planner.specs.PlannerLaws.{plan_short, plan-ten, plan_many, plan-shown}
use Rattle.planner.proofs.run.Goals as goal

pub returns-then-states-lt1024 : goal.returns-then-states-lt1024
returns-then-states-lt1024 c =
    let a = c.args in
    let w = work (raw (raw_lists a.raw_conditions.now a.raw_weights.now a.thresholds.now) a.bounds.now)
    (built (held_rows a.row_conditions.now a.row_weights.now a.rows.now a.guard_bounds.now a.guard_nodes.now) a.nodes.now a.edges.now a.links.now)
    (kept a.figures.now a.cursors.now a.sure.now a.never.now a.search.now a.gcds.now a.node_queue.now a.row_queues.now a.answers.now) in
    ap (λ (x : Given). left (out x w) a.states.now) c.too_short.ensures ∙ plan_short a.input.now a.states.now w c.if-states-lt1024.true

pub returns-then-given-eq10 : goal.returns-then-given-eq10
returns-then-given-eq10 c =
    let a = c.args in
    let w = work (raw (raw_lists a.raw_conditions.now a.raw_weights.now a.thresholds.now) a.bounds.now)
    (built (held_rows a.row_conditions.now a.row_weights.now a.rows.now a.guard_bounds.now a.guard_nodes.now) a.nodes.now a.edges.now a.links.now)
    (kept a.figures.now a.cursors.now a.sure.now a.never.now a.search.now a.gcds.now a.node_queue.now a.row_queues.now a.answers.now) in
    plan-ten a.input.now a.states.now w c.if-states-lt1024.false _ c.run-given.ensures c.if-given-eq10.true

pub show_states-requires : goal.show_states-requires
show_states-requires c =
    let a = c.args in
    let w = work (raw (raw_lists a.raw_conditions.now a.raw_weights.now a.thresholds.now) a.bounds.now)
    (built (held_rows a.row_conditions.now a.row_weights.now a.rows.now a.guard_bounds.now a.guard_nodes.now) a.nodes.now a.edges.now a.links.now)
    (kept a.figures.now a.cursors.now a.sure.now a.never.now a.search.now a.gcds.now a.node_queue.now a.row_queues.now a.answers.now) in
    (c.if-states-lt1024.false, plan_many a.input.now a.states.now w c.if-states-lt1024.false _ c.run-given.ensures c.if-given-eq10.false)

pub returns : goal.returns
returns c =
    let a = c.args in
    let w = work (raw (raw_lists a.raw_conditions.now a.raw_weights.now a.thresholds.now) a.bounds.now)
    (built (held_rows a.row_conditions.now a.row_weights.now a.rows.now a.guard_bounds.now a.guard_nodes.now) a.nodes.now a.edges.now a.links.now)
    (kept a.figures.now a.cursors.now a.sure.now a.never.now a.search.now a.gcds.now a.node_queue.now a.row_queues.now a.answers.now) in
    plan-shown a.input.now a.states.now w c.if-states-lt1024.false _ c.run-given.ensures c.if-given-eq10.false c.show_states.new.states c.show_states.ensures
