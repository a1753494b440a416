-- `reading::read_job` meets its contract: where no threshold is open, nothing is noted.
use Rattle.reading.specs.NotedLaws.{zeros_unnoted}
use Rattle.reading.specs.HeldLaws.{anew_asks, anew_reads}
use Rattle.reading.proofs.read_job.Goals as goal

pub read_records-requires : goal.read_records-requires
read_records-requires c =
    let g = c.args in
    let w = g.raw.now in
    (anew_asks w.raw_conditions.now w.raw_weights.now w.thresholds.now w.bounds.now _ _ zeros_unnoted g.standing c.requires.0, c.requires.1)

pub returns-clause-reads : goal.returns-clause-reads
returns-clause-reads c =
    let g = c.args in
    let w = g.raw.now in
    let t = c.read_records in
    anew_reads w.raw_conditions.now w.raw_weights.now w.thresholds.now w.bounds.now _ _ zeros_unnoted g.standing g.input.now g.at t.result _ _ _ _ t.ensures.reads
