-- `residual::threshold_residual` meets its contract: the check, the scan, the suffixes and the forcing in turn.
use mathlib.Core.Path.{sym, ap, ◌∙◌}
use Rattle.numeric.specs.Slices.{terms}
use Rattle.state.specs.Step.{contradicts}
use Rattle.state.specs.declared.Step.TheVariants.{Unchanged}
use Rattle.queues.specs.Queue.{queue}
use Rattle.queues.specs.Marks.{marks, decided}
use Rattle.intervals.specs.declared.Interval.{Interval}
use Rattle.intervals.specs.Residual.{placed, force_from}
use Rattle.intervals.proofs.ForceLaws.{residual-none, residual_rest, residual-forced}
use Rattle.residual.proofs.threshold_residual.Goals as goal

pub returns-then-contradicts : goal.returns-then-contradicts
returns-then-contradicts c =
    let g = c.args in
    sym
    (residual-none (terms g.terms.conditions.now g.terms.weights.now) g.state (marks g.sure.now g.never.now (queue g.node_queue.now g.ring)) g.gcds.now
    (sym (c.contradicts.ensures ∙ ap contradicts c.threshold_residual_check-checked.ensures) ∙ c.if-contradicts.true))

pub returns-then-nothing_forced : goal.returns-then-nothing_forced
returns-then-nothing_forced c =
    let g = c.args in
    sym
    (residual_rest (terms g.terms.conditions.now g.terms.weights.now) g.state (marks g.sure.now g.never.now (queue g.node_queue.now g.ring)) g.gcds.now
    (sym (c.contradicts.ensures ∙ ap contradicts c.threshold_residual_check-checked.ensures) ∙ c.if-contradicts.false)
    (sym c.nothing_forced.ensures ∙ c.if-nothing_forced.true))

pub returns : goal.returns
returns c =
    let g = c.args in
    let f = c.force_from in
    let s = c.prepare_suffix in
    residual-forced (terms g.terms.conditions.now g.terms.weights.now) g.state (marks g.sure.now g.never.now (queue g.node_queue.now g.ring)) g.gcds.now
    (sym (c.contradicts.ensures ∙ ap contradicts c.threshold_residual_check-checked.ensures) ∙ c.if-contradicts.false)
    (sym c.nothing_forced.ensures ∙ c.if-nothing_forced.false)
    (decided (marks f.new.sure f.new.never (queue f.new.node_queue f.result.ring)) f.result.step) s.new.gcds s.ensures
    (f.ensures
    ∙ ap (λ (i : Interval). force_from i (placed s.new.gcds) (terms g.terms.conditions.now g.terms.weights.now) 0 (marks g.sure.now g.never.now (queue g.node_queue.now g.ring)) Unchanged)
    c.interval_of.ensures)
