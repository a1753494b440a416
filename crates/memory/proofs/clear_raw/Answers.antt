-- `clear_raw` clears its group: each buffer is filled.
use borrow.Author.Rules.{rules}
use Rattle.memory.specs.Buffers.{raw_lists, raw}
use Rattle.memory.specs.BuffersLaws.{by_raw}
use Rattle.memory.specs.ZerosLaws.{zeros-filled}
use Rattle.memory.proofs.clear_raw.Goals as goal

pub returns : goal.returns
returns c =
    let a = c.args in
    by_raw (raw (raw_lists a.raw_conditions.now a.raw_weights.now a.thresholds.now) a.bounds.now)
    (zeros-filled _ _ _ (c.fill.ensures.after (search rules)))
    (zeros-filled _ _ _ (c.fill-2.ensures.after (search rules)))
    (zeros-filled _ _ _ (c.fill-3.ensures.after (search rules)))
    (zeros-filled _ _ _ (c.fill-4.ensures.after (search rules)))
