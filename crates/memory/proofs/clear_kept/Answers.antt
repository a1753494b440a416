-- `clear_kept` clears its group: each buffer is filled.
use borrow.Author.Rules.{rules}
use Rattle.memory.specs.Buffers.{kept}
use Rattle.memory.specs.BuffersLaws.{by_kept}
use Rattle.memory.specs.ZerosLaws.{zeros-filled}
use Rattle.memory.proofs.clear_kept.Goals as goal

pub returns : goal.returns
returns c =
    let a = c.args in
    by_kept (kept a.figures.now a.cursors.now a.sure.now a.never.now a.search.now a.gcds.now a.node_queue.now a.row_queues.now a.answers.now)
    (zeros-filled _ _ _ (c.fill.ensures.after (search rules)))
    (zeros-filled _ _ _ (c.fill-2.ensures.after (search rules)))
    (zeros-filled _ _ _ (c.fill-3.ensures.after (search rules)))
    (zeros-filled _ _ _ (c.fill-4.ensures.after (search rules)))
    (zeros-filled _ _ _ (c.fill-5.ensures.after (search rules)))
    (zeros-filled _ _ _ (c.fill-6.ensures.after (search rules)))
    (zeros-filled _ _ _ (c.fill-7.ensures.after (search rules)))
    (zeros-filled _ _ _ (c.fill-8.ensures.after (search rules)))
    (zeros-filled _ _ _ (c.fill-9.ensures.after (search rules)))
