-- `serve_phase::lend` meets its contract: what is lent is such as the seal requires, and what comes back is put in front of what stands behind it.
use mathlib.Core.Path.{sym}
use lib.ListN.{length, take, replicate}
use lib.Seq.{length-take-le}
use Rattle.memory.specs.Buffers.{kept, zeros}
use Rattle.row_moves.specs.Lent.{built_of}
use Rattle.serve.specs.Serve.{read_at, Same}
use Rattle.serve_phase.specs.Phase.{cut_built, cut_kept}
use Rattle.serve_phase.specs.PhaseLaws.{phase_room, phase_rows, phase_nodes, phase_bounds, phase_lent, begins_leaves}
use Rattle.serve_phase.proofs.lend.Goals as goal

pub slice_bounds-cut-end : goal.slice_bounds-cut-end
slice_bounds-cut-end c =
    let a = c.args in
    let b = a.built in
    let p = c.requires.0 in
    sym (length-take-le 4096 b.held.row_conditions.now ((phase_room b.bounds.now (built_of b) p.0 a.row_count p.2.stops).conditions))

pub slice_bounds-cut-end-2 : goal.slice_bounds-cut-end-2
slice_bounds-cut-end-2 c =
    let a = c.args in
    let b = a.built in
    let p = c.requires.0 in
    sym (length-take-le 4096 b.held.row_weights.now ((phase_room b.bounds.now (built_of b) p.0 a.row_count p.2.stops).weights))

pub slice_bounds-cut-end-3 : goal.slice_bounds-cut-end-3
slice_bounds-cut-end-3 c =
    let a = c.args in
    let b = a.built in
    let p = c.requires.0 in
    sym (length-take-le a.row_count b.held.rows.now (phase_rows b.bounds.now (built_of b) p.0 a.row_count p.2.stops))

pub slice_bounds-cut-end-4 : goal.slice_bounds-cut-end-4
slice_bounds-cut-end-4 c =
    let a = c.args in
    let b = a.built in
    let p = c.requires.0 in
    sym (length-take-le 1024 b.held.guard_bounds.now ((phase_room b.bounds.now (built_of b) p.0 a.row_count p.2.stops).bounds))

pub slice_bounds-cut-end-5 : goal.slice_bounds-cut-end-5
slice_bounds-cut-end-5 c =
    let a = c.args in
    let b = a.built in
    let p = c.requires.0 in
    sym (length-take-le 1024 b.held.guard_nodes.now ((phase_room b.bounds.now (built_of b) p.0 a.row_count p.2.stops).guards))

pub slice_bounds-cut-end-6 : goal.slice_bounds-cut-end-6
slice_bounds-cut-end-6 c =
    let a = c.args in
    let b = a.built in
    let p = c.requires.0 in
    sym (length-take-le a.standing.nodes b.nodes.now (phase_nodes b.bounds.now (built_of b) p.0 a.row_count p.2.stops a.standing p.4))

pub slice_bounds-cut-end-7 : goal.slice_bounds-cut-end-7
slice_bounds-cut-end-7 c =
    let a = c.args in
    let b = a.built in
    let p = c.requires.0 in
    sym (length-take-le a.standing.thresholds b.bounds.now (phase_bounds b.bounds.now (built_of b) p.0 a.row_count p.2.stops a.standing p.4))

pub slice_bounds-cut-end-8 : goal.slice_bounds-cut-end-8
slice_bounds-cut-end-8 c =
    let a = c.args in
    let b = a.built in
    let p = c.requires.0 in
    sym (length-take-le 4096 b.edges.now ((phase_room b.bounds.now (built_of b) p.0 a.row_count p.2.stops).edges))

pub seal_cut-requires : goal.seal_cut-requires
seal_cut-requires c =
    let a = c.args in
    let b = a.built in
    let w = c.requires in
    let p = w.0 in (
      (p.0, zeros (replicate 2 0) p.1.answers, phase_lent b.bounds.now (built_of b) p.0 a.row_count p.2.stops a.standing p.4 p.2.fresh, p.3.lies, p.4),
      w.1,
      w.2,
      w.3,
    )

pub returns : goal.returns
returns c =
    let a = c.args in
    let b = a.built in
    let t = c.seal_cut in
    let n = t.new in
    let k = kept a.figures.now a.cursors.now a.sure.now a.never.now a.search.now a.gcds.now a.node_queue.now a.row_queues.now a.answers.now in
    let m = kept n.figures n.cursors n.sure n.never n.search n.gcds n.node_queue n.row_queues n.answers in
    let l = t.auto in
    let same : Same (cut_kept k) m = record {
      figures = l.figures;
      cursors = l.cursors;
      sure = l.sure;
      never = l.never;
      search = l.search;
      gcds = l.gcds;
      node_queue = l.node_queue;
      row_queues = l.row_queues;
      answers = l.answers;
    } in
    λ f k₀ s g d.
    let lent = phase_lent b.bounds.now (built_of b) f a.row_count s.stops a.standing d s.fresh in
    begins_leaves k₀ f k a.rings g m same (take a.standing.thresholds b.bounds.now) (cut_built a.row_count a.standing.nodes (built_of b)) (read_at (length a.input.now) a.input.now a.at f) t.result
    (t.ensures.reaches f (zeros (replicate 2 0) k₀.answers) lent g.lies d) t.ensures.fours
