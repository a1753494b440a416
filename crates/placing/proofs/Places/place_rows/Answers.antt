-- `placing::Places::place_rows` meets its contract. Assumes nothing.
use native.Mathlib.Omega.{arith}
use Rattle.thresholds.specs.Lent.{lists_of}
use Rattle.placing.specs.PlaceLaws.{placing_start, rows_start, nodes_start, raws_few, rows_next_lem, nodes_next_lem}
use mathlib.Core.Path.{◌∙◌, refl}
use Rattle.placing.proofs.Places.place_rows.Goals as goal

pub loop-t-init : goal.loop-t-init
loop-t-init c =
    let g = c.args in
    let p = c.requires in (
      record { row-conditions = refl; row-weights = refl; rows = refl; nodes = refl; scratch = refl; heads = refl },
      (refl, refl, refl, refl, refl, refl),
      placing_start (lists_of c.args.lists) g.self.now.row_conditions.now g.self.now.row_weights.now g.self.now.scratch.now g.self.now.heads.now p.2 p.3 p.4 p.5 p.6,
      rows_start (lists_of c.args.lists) g.self.now.rows.now,
      nodes_start (lists_of c.args.lists) g.self.now.nodes.now,
    )

pub loop-t-preserved : goal.loop-t-preserved
loop-t-preserved c =
    let g = c.args in
    let p = c.requires in
    let w = c.loop-t in
    let r = (lists_of c.args.lists) in
    let k = w.invariant.0 in
    let l = c.place_one-so.ensures.lengths in
    let m = w.invariant.1 in
    let n = c.place_one-so.ensures.lent in
    let s = c.place_one-so.ensures.placed in
    let h = c.loop-t-test.true in
    let few = raws_few r w.t in
    let many = p.0.many in (
      record {
        row-conditions = l.row-conditions ∙ k.row-conditions;
        row-weights = l.row-weights ∙ k.row-weights;
        rows = l.rows ∙ k.rows;
        nodes = l.nodes ∙ k.nodes;
        scratch = l.scratch ∙ k.scratch;
        heads = l.heads ∙ k.heads;
      },
      (n.0 ∙ m.0, n.1 ∙ m.1, n.2 ∙ m.2, n.3 ∙ m.3, n.4 ∙ m.4, n.5 ∙ m.5),
      s.0,
      rows_next_lem r w.t g.self.now.rows.now w.self.rows.now _ (omega arith) w.invariant.3 s.1,
      nodes_next_lem r w.t g.self.now.nodes.now w.self.nodes.now _ w.invariant.4 s.2,
    )
