-- `row_moves::Live::run` meets its contract: a row that rests is run with nothing changed.
use mathlib.Core.Path.{subst}
use Rattle.state.specs.declared.State.{State}
use Rattle.queues.specs.Queue.{queue}
use Rattle.row_moves.specs.Held.{held_row}
use Rattle.row_moves.specs.Lent.{held_of, live_in}
use Rattle.row_moves.specs.BetweenLaws.{rest_run}
use Rattle.resting.specs.Rest.{Rests}
use Rattle.row_moves.proofs.Live.run.Goals as goal

pub returns-then-rests-clause-ran : goal.returns-then-rests-clause-ran
returns-then-rests-clause-ran c =
    let a = c.args in
    let l = a.self.now in
    let row = held_row (held_of a.held) a.row in
    let v = live_in l in
    let rest = c.rests.ensures c.if-rests.true a.held.guard_nodes.now (queue l.node_queue.now l.rings.nodes) c.requires.shaped.0 in
    (rest_run row v a.row (subst (λ (y : State). Rests row y v.marks) c.state-state.ensures rest), λ t. t)
