-- `prepare::prepare` meets its contract: each step leaves what the next one asks, and the buffers that it does not fill as they were.
use Rattle.thresholds.specs.Lent.{lists_of}
use Rattle.prepare.specs.Lent.{unlinked_in}
use Rattle.prepare.specs.PrepareLaws.{opened, guards_ready, edges_ready, prepared}
use Rattle.prepare.proofs.prepare.Goals as goal

pub place_in-so-requires : goal.place_in-so-requires
place_in-so-requires c =
    let a = c.args in
    let o = c.order_keys.ensures in
    opened (lists_of a.lists) a.bounds.now (unlinked_in a.built.now a.nodes.now a.edges.now) a.scratch.now c.requires.0 c.requires.1 _ _ o.0 o.1

pub guards_in-requires : goal.guards_in-requires
guards_in-requires c =
    let a = c.args in
    let o = c.order_keys.ensures in
    let q = c.place_in-so.ensures.placed in
    rw q.3 (guards_ready (lists_of a.lists) a.bounds.now (unlinked_in a.built.now a.nodes.now a.edges.now) a.scratch.now c.requires.0 c.requires.1 _ _ o.0 o.1 c.place_in-so.result _ _ _ _ _ _ q.0 q.1 q.2)

pub edges_in-requires : goal.edges_in-requires
edges_in-requires c =
    let a = c.args in
    let o = c.order_keys.ensures in
    let q = c.place_in-so.ensures.placed in
    let h = c.guards_in.ensures.dealt in
    let dealt = rw q.3 at h.0 in
    rw (h.3, h.4) (edges_ready (lists_of a.lists) a.bounds.now (unlinked_in a.built.now a.nodes.now a.edges.now) a.scratch.now c.requires.0 c.requires.1 _ _ o.0 o.1 c.place_in-so.result _ _ _ _ _ _ q.0 q.1 q.2 _ _ _ _ dealt h.1 h.2)

pub returns-clause-prepared : goal.returns-clause-prepared
returns-clause-prepared c =
    let a = c.args in
    let o = c.order_keys.ensures in
    let q = c.place_in-so.ensures.placed in
    let h = c.guards_in.ensures.dealt in
    let dealt = rw q.3 at h.0 in
    let listed = rw (h.3, h.4) at c.edges_in.ensures in
    rw (h.3, h.4)
    (prepared (lists_of a.lists) a.bounds.now (unlinked_in a.built.now a.nodes.now a.edges.now) a.scratch.now c.requires.0 c.requires.1 _ _ o.0 o.1 c.place_in-so.result _ _ _ _ _ _ q.0 q.1 q.2 _ _ _ _ dealt h.1 _ _ listed)
