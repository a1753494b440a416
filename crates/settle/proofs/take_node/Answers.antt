-- `settle::take_node` meets its contract: the node's guard, then its condition.
use Rattle.row_moves.specs.Between.{did}
use Rattle.row_moves.specs.KeptHeldLaws.{counts-links}
use Rattle.row_moves.specs.Lent.{held_of, built_by, live_in}
use Rattle.theorem_keeps.specs.TurnLaws.{node_taken, node_next_run, node_stop, node_next}
use mathlib.Core.Path.{◌∙◌, sym}
use Rattle.settle.proofs.take_node.Goals as goal

pub guard_at-told-requires : goal.guard_at-told-requires
guard_at-told-requires c =
    let b = c.args.built in
    let w = c.requires.count_nonzero in
    let s = w.0.2 in
    let o = c.oldest_node-node in
    let p = c.popped-live in
    let t = node_taken w.0.0 b.bounds.now (built_by b w.0.1) s (live_in c.args.live.now) c.requires.going w.1 o.result o.ensures p.result p.ensures in
    record { shaped = (s.shaped, s.guarded, t.there, t.small, s.linked.inside.rising); runnable = t.run }

pub returns-then-contradicts-clause-ran : goal.returns-then-contradicts-clause-ran
returns-then-contradicts-clause-ran c =
    let b = c.args.built in
    let w = c.requires.count_nonzero in
    let o = c.oldest_node-node in
    let p = c.popped-live in
    let g = c.guard_at-told in (
      λ x l s.
          node_stop x b.bounds.now (built_by b l) s (live_in c.args.live.now) c.requires.going w.1 o.result o.ensures p.result p.ensures (did (live_in g.new.live) g.result)
          (g.ensures.ran.0 x s.holds s.holds_guards (counts-links x (held_of b.held) l s.linked s.holds_links)) (sym c.contradicts.ensures ∙ c.if-contradicts.true),
      g.ensures.ran.1,
    )

pub threshold_condition-after-requires : goal.threshold_condition-after-requires
threshold_condition-after-requires c =
    let b = c.args.built in
    let w = c.requires.count_nonzero in
    let x = w.0.0 in
    let l = w.0.1 in
    let s = w.0.2 in
    let v = live_in c.args.live.now in
    let o = c.oldest_node-node in
    let p = c.popped-live in
    let g = c.guard_at-told in
    let made = g.ensures.ran.0 x s.holds s.holds_guards (counts-links x (held_of b.held) l s.linked s.holds_links) in
    let t = node_taken x b.bounds.now (built_by b l) s v c.requires.going w.1 o.result o.ensures p.result p.ensures in
    let run = node_next_run x b.bounds.now (built_by b l) s v c.requires.going w.1 o.result o.ensures p.result p.ensures (did (live_in g.new.live) g.result) made in
    record { shaped = (s.shaped, s.edged, t.there, t.small); ready_live = run.ready }

pub returns-clause-ran : goal.returns-clause-ran
returns-clause-ran c =
    let b = c.args.built in
    let w = c.requires.count_nonzero in
    let o = c.oldest_node-node in
    let p = c.popped-live in
    let g = c.guard_at-told in
    let t = c.threshold_condition-after in (
      λ x l s.
          node_next x b.bounds.now (built_by b l) s (live_in c.args.live.now) c.requires.going w.1 o.result o.ensures p.result p.ensures (did (live_in g.new.live) g.result)
          (g.ensures.ran.0 x s.holds s.holds_guards (counts-links x (held_of b.held) l s.linked s.holds_links)) (sym c.contradicts.ensures ∙ c.if-contradicts.false)
          (did (live_in t.new.live) t.result) (t.ensures.ran.0 x s.holds s.holds_edges) c.join.result c.join.ensures,
      λ i. t.ensures.ran.1 (g.ensures.ran.1 i),
    )
