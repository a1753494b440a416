-- `bound_moves::run_bounded` meets its contract: the row waits, its state is stored, and it is run.
use Rattle.queues.specs.Slot.{rows_in}
use Rattle.memory.specs.Ranges.{figure_limit}
use Rattle.row_moves.specs.Held.{held_row}
use Rattle.row_moves.specs.Lent.{held_of, live_in}
use Rattle.row_moves.specs.BetweenLaws.{linked_run}
use Rattle.row_moves.specs.ReadyLaws.{ready_queue}
use Rattle.bound_moves.proofs.run_bounded.Goals as goal

pub run_from-requires-clause-ready_live : goal.run_from-requires-clause-ready_live
run_from-requires-clause-ready_live c =
    let queue-linked = c.queue_linked-live in
    let l = c.args.live.now in
    let left = rows_in 2 queue-linked.new.row_queues l.rings.residuals in
    ready_queue (held_of c.args.held) figure_limit (live_in l) left (queue-linked.ensures.1 l.rings.residuals) c.requires.runnable.ready

pub returns-clause-ran : goal.returns-clause-ran
returns-clause-ran c =
    let run-from = c.run_from in
    let queue-linked = c.queue_linked-live in
    let a = c.args in
    let l = a.live.now in
    let q = queue-linked.new.row_queues in
    let e = linked_run (held_row (held_of a.held) a.row) (live_in l) a.row a.links a.state (rows_in 0 q queue-linked.result) (rows_in 2 q l.rings.residuals)
    queue-linked.ensures.0 (queue-linked.ensures.1 l.rings.residuals) _ run-from.ensures.ran.0 in
    (e, run-from.ensures.ran.1)
