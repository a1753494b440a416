-- `clear_built` clears its group: each buffer is filled.
use borrow.Author.Rules.{rules}
use Rattle.memory.specs.Buffers.{held_rows, built}
use Rattle.memory.specs.BuffersLaws.{by_built}
use Rattle.memory.specs.ZerosLaws.{zeros-filled}
use Rattle.memory.proofs.clear_built.Goals as goal

pub returns : goal.returns
returns c =
    let a = c.args in
    by_built (built (held_rows a.row_conditions.now a.row_weights.now a.rows.now a.guard_bounds.now a.guard_nodes.now) a.nodes.now a.edges.now a.links.now)
    (zeros-filled _ _ _ (c.fill.ensures.after (search rules)))
    (zeros-filled _ _ _ (c.fill-2.ensures.after (search rules)))
    (zeros-filled _ _ _ (c.fill-3.ensures.after (search rules)))
    (zeros-filled _ _ _ (c.fill-4.ensures.after (search rules)))
    (zeros-filled _ _ _ (c.fill-5.ensures.after (search rules)))
    (zeros-filled _ _ _ (c.fill-6.ensures.after (search rules)))
    (zeros-filled _ _ _ (c.fill-7.ensures.after (search rules)))
    (zeros-filled _ _ _ (c.fill-8.ensures.after (search rules)))
