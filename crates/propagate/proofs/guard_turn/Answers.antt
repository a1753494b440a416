-- `propagate::guard_turn` meets its contract: it waits, or decides and passes.
use Rattle.queues.specs.Queue.{queue}
use Rattle.queues.specs.Marks.{marks, decide}
use Rattle.row_runs.specs.Scan.{scanned}
use Rattle.row_runs.proofs.ScanLaws.{waits-turn}
use Rattle.propagate.proofs.guard_turn.Goals as goal

pub returns-then-waits : goal.returns-then-waits
returns-then-waits c =
    let a = c.args in
    let m = marks a.sure.now a.never.now (queue a.node_queue.now a.scan.ring) in
    waits-turn a.waits (decide a.value m a.node) (scanned a.scan.passed m a.scan.step) c.if-waits.true
