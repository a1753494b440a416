-- `residual::force_term` meets its contract: each pair of tests leads to one clause of the definition.
use mathlib.Core.Path.{sym, ap, ◌∙◌}
use mathlib.Core.Bool.{true, false}
use Rattle.numeric.specs.Threshold.{term}
use Rattle.queues.specs.Queue.{queue}
use Rattle.queues.specs.Marks.{marks, decide}
use Rattle.intervals.proofs.ForceLaws.{force-unit, force-none, force_sure, force_never, force_free}
use Rattle.residual.proofs.force_term.Goals as goal

pub returns-then-divisor-eq1 : goal.returns-then-divisor-eq1
returns-then-divisor-eq1 c =
    sym (force-unit c.args.i (let a = c.args in marks a.sure.now a.never.now (queue a.node_queue.now a.ring)) (term c.args.node c.args.weight) c.args.divisor c.if-divisor-eq1.true)

pub returns-then-on : goal.returns-then-on
returns-then-on c =
    sym
    (force-none c.args.i (let a = c.args in marks a.sure.now a.never.now (queue a.node_queue.now a.ring)) (term c.args.node c.args.weight) c.args.divisor c.if-divisor-eq1.false
    (sym c.off_misses-off.ensures ∙ c.if-off.true)
    (sym c.on_misses-on.ensures ∙ c.if-on.true))

pub returns-then-off : goal.returns-then-off
returns-then-off c =
    let a = c.args in
    c.decide.ensures
    ∙ ap (decide true (marks a.sure.now a.never.now (queue a.node_queue.now a.ring))) c.from.ensures
    ∙ sym
    (force_sure c.args.i (let a = c.args in marks a.sure.now a.never.now (queue a.node_queue.now a.ring)) (term c.args.node c.args.weight) c.args.divisor c.if-divisor-eq1.false
    (sym c.off_misses-off.ensures ∙ c.if-off.true)
    (sym c.on_misses-on.ensures ∙ c.if-on.false))

pub returns-then-on-2 : goal.returns-then-on-2
returns-then-on-2 c =
    let a = c.args in
    c.decide-then-on-2.ensures
    ∙ ap (decide false (marks a.sure.now a.never.now (queue a.node_queue.now a.ring))) c.from-then-on-2.ensures
    ∙ sym
    (force_never c.args.i (let a = c.args in marks a.sure.now a.never.now (queue a.node_queue.now a.ring)) (term c.args.node c.args.weight) c.args.divisor c.if-divisor-eq1.false
    (sym c.off_misses-off.ensures ∙ c.if-off.false)
    (sym c.on_misses-on.ensures ∙ c.if-on-2.true))

pub returns : goal.returns
returns c =
    sym
    (force_free c.args.i (let a = c.args in marks a.sure.now a.never.now (queue a.node_queue.now a.ring)) (term c.args.node c.args.weight) c.args.divisor c.if-divisor-eq1.false
    (sym c.off_misses-off.ensures ∙ c.if-off.false)
    (sym c.on_misses-on.ensures ∙ c.if-on-2.false))
