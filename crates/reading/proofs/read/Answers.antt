-- `read` meets its contract: its buffers are cleared, and the job's records fill them.
use Rattle.memory.specs.Buffers.{raw_lists, raw, clear_raw}
use Rattle.files.specs.JobPart.{job_part_of}
use Rattle.reading.specs.Held.{HeldPart}
use Rattle.reading.specs.HeldLaws.{begun-asks, begun_held}
use Rattle.reading.specs.ClearedLaws.{read_room, read_held}
use Rattle.reading.specs.LentLaws.{lent_back}
use borrow.Author.Rules.{rules}
use Rattle.reading.proofs.read.Goals as goal

pub read_job-requires : goal.read_job-requires
read_job-requires c =
    let a = c.args in
    let n = c.clear_raw.new in
    let w = raw (raw_lists a.raw_conditions.now a.raw_weights.now a.thresholds.now) a.bounds.now in
    let v = raw (raw_lists n.raw_conditions n.raw_weights n.thresholds) n.bounds in
    begun-asks _ _ _ _ (read_room w v c.requires c.clear_raw.ensures) c.nothing_read-standing.result c.nothing_read-standing.ensures a.input.now

pub returns : goal.returns
returns c =
    let a = c.args in
    let n = c.clear_raw.new in
    let w = raw (raw_lists a.raw_conditions.now a.raw_weights.now a.thresholds.now) a.bounds.now in
    let v = raw (raw_lists n.raw_conditions n.raw_weights n.thresholds) n.bounds in
    let t = c.read_job in
    lent_back (HeldPart (job_part_of a.input.now) (clear_raw w) t.result) t.new.raw (search rules) (search rules) (search rules) (search rules)
    (read_held w v c.clear_raw.ensures
    (begun_held _ _ _ _ (read_room w v c.requires c.clear_raw.ensures) c.nothing_read-standing.result c.nothing_read-standing.ensures a.input.now t.result _ _ _ _ t.ensures.reads))
