-- `run` meets its contract: the test of all lengths, then what the three phases leave, one behind the other.
use mathlib.Core.Path.{◌≡◌, ap, ◌∙◌}
use mathlib.Core.Bool.{true}
use Rattle.memory.specs.Buffers.{raw_lists, raw, held_rows, built, kept, work, fits}
use Rattle.memory.specs.LengthsLaws.{fits_sized}
use Rattle.files.specs.declared.Given.{Given}
use Rattle.files.specs.Contents.{out}
use Rattle.call.specs.RunLaws.{raw_room, built_room, links_room, long, whole-none, serve_asks, whole_all}
use Rattle.call.proofs.run.Goals as goal

pub returns-then-short : goal.returns-then-short
returns-then-short c =
    let a = c.args in
    let w = work (raw (raw_lists a.raw_conditions.now a.raw_weights.now a.thresholds.now) a.bounds.now)
    (built (held_rows a.row_conditions.now a.row_weights.now a.rows.now a.guard_bounds.now a.guard_nodes.now) a.nodes.now a.edges.now a.links.now)
    (kept a.figures.now a.cursors.now a.sure.now a.never.now a.search.now a.gcds.now a.node_queue.now a.row_queues.now a.answers.now) in
    ap (λ (g : Given). out g w) c.too_short.ensures ∙ whole-none a.input.now w c.short.result c.short.ensures c.if-short.true

pub read-job-requires : goal.read-job-requires
read-job-requires c =
    let a = c.args in
    let x = a.input.now in
    let w = work (raw (raw_lists a.raw_conditions.now a.raw_weights.now a.thresholds.now) a.bounds.now)
    (built (held_rows a.row_conditions.now a.row_weights.now a.rows.now a.guard_bounds.now a.guard_nodes.now) a.nodes.now a.edges.now a.links.now)
    (kept a.figures.now a.cursors.now a.sure.now a.never.now a.search.now a.gcds.now a.node_queue.now a.row_queues.now a.answers.now) in
    let y : fits x w ≡ true = long x w c.short.result c.short.ensures c.if-short.false in
    raw_room w (fits_sized x w y)

pub build-count-requires : goal.build-count-requires
build-count-requires c =
    let a = c.args in
    let x = a.input.now in
    let w = work (raw (raw_lists a.raw_conditions.now a.raw_weights.now a.thresholds.now) a.bounds.now)
    (built (held_rows a.row_conditions.now a.row_weights.now a.rows.now a.guard_bounds.now a.guard_nodes.now) a.nodes.now a.edges.now a.links.now)
    (kept a.figures.now a.cursors.now a.sure.now a.never.now a.search.now a.gcds.now a.node_queue.now a.row_queues.now a.answers.now) in
    let y : fits x w ≡ true = long x w c.short.result c.short.ensures c.if-short.false in
    let s = fits_sized x w y in
    (c.read-job.ensures.held.gathered, built_room w s, links_room w s)

pub serve-end-requires : goal.serve-end-requires
serve-end-requires c =
    let a = c.args in
    let x = a.input.now in
    let w = work (raw (raw_lists a.raw_conditions.now a.raw_weights.now a.thresholds.now) a.bounds.now)
    (built (held_rows a.row_conditions.now a.row_weights.now a.rows.now a.guard_bounds.now a.guard_nodes.now) a.nodes.now a.edges.now a.links.now)
    (kept a.figures.now a.cursors.now a.sure.now a.never.now a.search.now a.gcds.now a.node_queue.now a.row_queues.now a.answers.now) in
    let y : fits x w ≡ true = long x w c.short.result c.short.ensures c.if-short.false in
    let r = c.read-job in
    let u = c.build-count.new in
    let b = built (held_rows u.row_conditions u.row_weights u.rows u.guard_bounds u.guard_nodes) u.nodes u.edges u.links in
    serve_asks x w y r.result r.new.raw_conditions r.new.raw_weights r.new.thresholds r.new.bounds r.ensures b c.build-count.result
    c.build-count.ensures

pub shape_of-raw_conditions : goal.shape_of-raw_conditions
shape_of-raw_conditions c = c.read-job.auto.raw_conditions

pub shape_of-raw_weights : goal.shape_of-raw_weights
shape_of-raw_weights c = c.read-job.auto.raw_weights

pub shape_of-thresholds : goal.shape_of-thresholds
shape_of-thresholds c = c.read-job.auto.thresholds

pub shape_of-bounds : goal.shape_of-bounds
shape_of-bounds c = c.read-job.auto.bounds

pub shape_of-row_conditions : goal.shape_of-row_conditions
shape_of-row_conditions c = c.build-count.auto.row_conditions

pub shape_of-row_weights : goal.shape_of-row_weights
shape_of-row_weights c = c.build-count.auto.row_weights

pub shape_of-rows : goal.shape_of-rows
shape_of-rows c = c.build-count.auto.rows

pub shape_of-guard_bounds : goal.shape_of-guard_bounds
shape_of-guard_bounds c = c.build-count.auto.guard_bounds

pub shape_of-guard_nodes : goal.shape_of-guard_nodes
shape_of-guard_nodes c = c.build-count.auto.guard_nodes

pub shape_of-nodes : goal.shape_of-nodes
shape_of-nodes c = c.build-count.auto.nodes

pub shape_of-edges : goal.shape_of-edges
shape_of-edges c = c.build-count.auto.edges

pub shape_of-links : goal.shape_of-links
shape_of-links c = c.build-count.auto.links

pub shape_of-figures : goal.shape_of-figures
shape_of-figures c = c.serve-end.auto.figures

pub shape_of-cursors : goal.shape_of-cursors
shape_of-cursors c = c.serve-end.auto.cursors

pub shape_of-sure : goal.shape_of-sure
shape_of-sure c = c.serve-end.auto.sure

pub shape_of-never : goal.shape_of-never
shape_of-never c = c.serve-end.auto.never

pub shape_of-search : goal.shape_of-search
shape_of-search c = c.serve-end.auto.search

pub shape_of-gcds : goal.shape_of-gcds
shape_of-gcds c = c.serve-end.auto.gcds

pub shape_of-node_queue : goal.shape_of-node_queue
shape_of-node_queue c = c.serve-end.auto.node_queue

pub shape_of-row_queues : goal.shape_of-row_queues
shape_of-row_queues c = c.serve-end.auto.row_queues

pub shape_of-answers : goal.shape_of-answers
shape_of-answers c = c.serve-end.auto.answers

pub returns : goal.returns
returns c =
    let a = c.args in
    let x = a.input.now in
    let w = work (raw (raw_lists a.raw_conditions.now a.raw_weights.now a.thresholds.now) a.bounds.now)
    (built (held_rows a.row_conditions.now a.row_weights.now a.rows.now a.guard_bounds.now a.guard_nodes.now) a.nodes.now a.edges.now a.links.now)
    (kept a.figures.now a.cursors.now a.sure.now a.never.now a.search.now a.gcds.now a.node_queue.now a.row_queues.now a.answers.now) in
    let y : fits x w ≡ true = long x w c.short.result c.short.ensures c.if-short.false in
    let r = c.read-job in
    let u = c.build-count.new in
    let b = built (held_rows u.row_conditions u.row_weights u.rows u.guard_bounds u.guard_nodes) u.nodes u.edges u.links in
    let e = c.serve-end.new in
    let k = kept e.figures e.cursors e.sure e.never e.search e.gcds e.node_queue e.row_queues e.answers in
    whole_all x w y r.result r.new.raw_conditions r.new.raw_weights r.new.thresholds r.new.bounds r.ensures b c.build-count.result
    c.build-count.ensures k c.serve-end.result c.serve-end.ensures

pub short-requires : goal.short-requires
short-requires c = tt
