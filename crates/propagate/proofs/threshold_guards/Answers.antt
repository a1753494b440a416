-- `propagate::threshold_guards` meets its contract: the scan up, and the scan down where it did not contradict.
use native.Mathlib.Omega.{arith}
use mathlib.Core.Path.{◌≡◌, sym, ap, ◌∙◌}
use Rattle.queues.specs.Queue.{queue}
use Rattle.queues.specs.Marks.{marks}
use Rattle.row_runs.specs.Scan.{Scanned, scanned}
use Rattle.row_runs.specs.GuardsLaws.{length-guards, all_guards}
use Rattle.row_runs.specs.Guards.{guards}
use Rattle.row_runs.proofs.RowLaws.{sure_within, never_within, sure_keeps, guards_stop, guards_more}
use Rattle.propagate.proofs.threshold_guards.Goals as goal

pub overflow_add-up : goal.overflow_add-up
overflow_add-up c =
    let a = c.args in
    let gs = guards a.guards.bounds.now a.guards.nodes.now in
    let m = marks a.sure.now a.never.now (queue a.node_queue.now a.ring) in
    omega (arith, sure_within gs a.state m, ap (λ (x : Scanned). x.passed) c.sure_guards-first.ensures, length-guards a.guards.bounds.now a.guards.nodes.now)

pub returns-then-contradicts : goal.returns-then-contradicts
returns-then-contradicts c =
    let a = c.args in
    let f = c.sure_guards-first in
    let gs = guards a.guards.bounds.now a.guards.nodes.now in
    let m = marks a.sure.now a.never.now (queue a.node_queue.now a.ring) in
    guards_stop gs a.state m (scanned f.result.passed (marks f.new.sure f.new.never (queue f.new.node_queue f.result.ring)) f.result.step) f.ensures
    c.with_guards.result (sym c.contradicts.ensures ∙ c.if-contradicts.true) c.with_guards.ensures

pub never_guards-second-requires : goal.never_guards-second-requires
never_guards-second-requires c =
    let a = c.args in
    let p = c.requires in
    let f = c.sure_guards-first in
    let gs = guards a.guards.bounds.now a.guards.nodes.now in
    let m = marks a.sure.now a.never.now (queue a.node_queue.now a.ring) in
    let e : marks f.new.sure f.new.never (queue f.new.node_queue f.result.ring) ≡ _ = ap (λ (x : Scanned). x.marks) f.ensures in
    (p.0, p.1, rw e (sure_keeps gs a.state m (all_guards a.guards.bounds.now a.guards.nodes.now p.0.below) p.2))

pub overflow_sub-low : goal.overflow_sub-low
overflow_sub-low c =
    let a = c.args in
    let f = c.sure_guards-first in
    let n = c.never_guards-second in
    let gs = guards a.guards.bounds.now a.guards.nodes.now in
    let m = marks f.new.sure f.new.never (queue f.new.node_queue f.result.ring) in
    omega (arith, never_within gs a.state m f.result.step, ap (λ (x : Scanned). x.passed) n.ensures)

pub returns : goal.returns
returns c =
    let a = c.args in
    let f = c.sure_guards-first in
    let n = c.never_guards-second in
    let gs = guards a.guards.bounds.now a.guards.nodes.now in
    let m = marks a.sure.now a.never.now (queue a.node_queue.now a.ring) in
    guards_more gs a.state m (scanned f.result.passed (marks f.new.sure f.new.never (queue f.new.node_queue f.result.ring)) f.result.step) f.ensures
    c.with_guards-2.result (sym c.contradicts.ensures ∙ c.if-contradicts.false)
    (scanned n.result.passed (marks n.new.sure n.new.never (queue n.new.node_queue n.result.ring)) n.result.step) n.ensures
    c.with_guards-2.ensures
