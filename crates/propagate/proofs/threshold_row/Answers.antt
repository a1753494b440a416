-- `propagate::threshold_row` meets its contract: a conflict, a contradiction of the guards, or the terms after them.
use mathlib.Core.Path.{sym, ◌∙◌}
use Rattle.numeric.specs.Slices.{terms}
use Rattle.queues.specs.Queue.{queue}
use Rattle.queues.specs.Marks.{marks}
use Rattle.rows.specs.Rows.{row_of}
use Rattle.row_runs.specs.GuardsLaws.{all_guards}
use Rattle.row_runs.specs.Guards.{guards}
use Rattle.row_runs.specs.Row.{ran, threshold_guards}
use Rattle.row_runs.proofs.RowLaws.{kept-guards, kept_by_lem, figures-moved, row-conflict, row-guards, row-terms}
use Rattle.propagate.proofs.threshold_row.Goals as goal

pub returns-then-conflict : goal.returns-then-conflict
returns-then-conflict c =
    let a = c.args in
    λ raw. row-conflict (row_of raw (terms a.row.terms.conditions.now a.row.terms.weights.now) (guards a.row.guards.bounds.now a.row.guards.nodes.now)) a.state
    (marks a.sure.now a.never.now (queue a.node_queue.now a.ring)) (sym c.conflict.ensures ∙ c.if-conflict.true)

pub returns-then-contradicts : goal.returns-then-contradicts
returns-then-contradicts c =
    let a = c.args in
    let f = c.threshold_guards-first in
    λ raw. row-guards (row_of raw (terms a.row.terms.conditions.now a.row.terms.weights.now) (guards a.row.guards.bounds.now a.row.guards.nodes.now)) a.state
    (marks a.sure.now a.never.now (queue a.node_queue.now a.ring)) (sym c.conflict.ensures ∙ c.if-conflict.false)
    (ran f.result.state (marks f.new.sure f.new.never (queue f.new.node_queue f.result.ring)) f.result.step)
    f.ensures (sym c.contradicts.ensures ∙ c.if-contradicts.true)

pub threshold_terms-requires : goal.threshold_terms-requires
threshold_terms-requires c =
    let a = c.args in
    let p = c.requires in
    let f = c.threshold_guards-first in
    let m = marks a.sure.now a.never.now (queue a.node_queue.now a.ring) in
    let gs = guards a.row.guards.bounds.now a.row.guards.nodes.now in
    let k = kept_by_lem a.state (ran f.result.state (marks f.new.sure f.new.never (queue f.new.node_queue f.result.ring)) f.result.step)
    (threshold_guards gs a.state m) f.ensures (kept-guards gs a.state m (all_guards a.row.guards.bounds.now a.row.guards.nodes.now p.1.below) p.4) in
    (p.0, figures-moved a.state f.result.state k.moved p.2, k.waits)

pub returns : goal.returns
returns c =
    let a = c.args in
    let f = c.threshold_guards-first in
    let t = c.threshold_terms in
    λ raw. row-terms (row_of raw (terms a.row.terms.conditions.now a.row.terms.weights.now) (guards a.row.guards.bounds.now a.row.guards.nodes.now)) a.state
    (marks a.sure.now a.never.now (queue a.node_queue.now a.ring)) (sym c.conflict.ensures ∙ c.if-conflict.false)
    (ran f.result.state (marks f.new.sure f.new.never (queue f.new.node_queue f.result.ring)) f.result.step)
    f.ensures (sym c.contradicts.ensures ∙ c.if-contradicts.false)
    (ran t.result.state (marks t.new.sure t.new.never (queue t.new.node_queue t.result.ring)) t.result.step) t.ensures
