-- `propagate::threshold_terms` meets its contract: true terms, and false ones where they did not contradict.
use mathlib.Core.Path.{◌≡◌, ap, ◌∙◌}
use Rattle.numeric.specs.Slices.{terms}
use Rattle.state.specs.declared.State.{State}
use Rattle.queues.specs.Queue.{queue}
use Rattle.queues.specs.Marks.{marks}
use Rattle.row_runs.specs.GuardsLaws.{all_terms_lem}
use Rattle.row_runs.specs.Row.{ran, true_terms}
use Rattle.row_runs.proofs.RowLaws.{kept-true, kept_by_lem, figures-moved}
use Rattle.propagate.proofs.threshold_terms.Goals as goal
use Rattle.propagate.proofs.threshold_terms.Goals.{After-with_terms-state}

first_made : (c : After-with_terms-state) → (ran c.with_terms-state.result ((let f = c.true_terms-first in marks f.new.sure f.new.never (queue f.new.node_queue f.result.ring))) c.true_terms-first.result.step) ≡ true_terms ((terms c.args.terms.conditions.now c.args.terms.weights.now)) c.args.before.state ((marks c.args.sure.now c.args.never.now (queue c.args.node_queue.now c.args.before.ring)))
first_made c =
    let f = c.true_terms-first in
    ap (λ (y : State). ran y ((let f = c.true_terms-first in marks f.new.sure f.new.never (queue f.new.node_queue f.result.ring))) f.result.step) c.with_terms-state.ensures ∙ f.ensures.0

pub false_terms-second-requires : goal.false_terms-second-requires
false_terms-second-requires c =
    let a = c.args in
    let p = c.requires in
    let s = a.before.state in
    let k = kept_by_lem s ((ran c.with_terms-state.result ((let f = c.true_terms-first in marks f.new.sure f.new.never (queue f.new.node_queue f.result.ring))) c.true_terms-first.result.step)) (true_terms ((terms c.args.terms.conditions.now c.args.terms.weights.now)) s ((marks c.args.sure.now c.args.never.now (queue c.args.node_queue.now c.args.before.ring)))) (first_made (goal.at.false_terms-second-requires c).After-with_terms-state) (kept-true ((terms c.args.terms.conditions.now c.args.terms.weights.now)) s ((marks c.args.sure.now c.args.never.now (queue c.args.node_queue.now c.args.before.ring))) (all_terms_lem a.terms.conditions.now a.terms.weights.now p.0.below) p.2) in
    (p.0, figures-moved s c.with_terms-state.result k.moved p.1, k.waits)
