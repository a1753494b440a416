-- `seal::mark` meets its contract.
use Rattle.queues.specs.Queue.{queue}
use Rattle.queues.specs.Marks.{marks}
use Rattle.row_moves.specs.Lent.{live_in}
use Rattle.theorem_keeps.specs.BeginsLaws.{mark_is}
use Rattle.seal.proofs.mark.Goals as goal

pub returns-clause-marked : goal.returns-clause-marked
returns-clause-marked c =
    let made = c.decide-made in
    let m = marks made.new.sure made.new.never (queue made.new.node_queue made.result.ring) in
    (mark_is c.args.value (live_in c.args.live.now) c.args.node m made.result.step made.ensures, λ t. t)
