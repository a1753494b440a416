-- `Raw::add_term` meets its contract: the term is the last of the open threshold.
use mathlib.Core.Path.{sym, subst}
use mathlib.Core.List.{List}
use Prim.Native.Nat.{ℕ, ◌+◌}
use native.Mathlib.Omega.{arith}
use lib.ListN.{set}
use Rattle.job.specs.Taken.{added_to}
use Rattle.job.specs.Gathered.{Added}
use Rattle.gather.specs.TakenLaws.{term_room, term_open, counts-left, added}
use Rattle.gather.proofs.Raw.add_term.Goals as goal

pub bounds-self-at : goal.bounds-self-at
bounds-self-at c =
    let g = c.args in
    let q = c.requires in
    omega (arith, term_room g.standing g.condition g.weight _ _ _ q.0.0 q.0.1 q.2, q.0.1.conditions)

pub bounds-self-at-2 : goal.bounds-self-at-2
bounds-self-at-2 c =
    let g = c.args in
    let q = c.requires in
    omega (arith, term_room g.standing g.condition g.weight _ _ _ q.0.0 q.0.1 q.2, q.0.1.weights)

pub overflow_sub-count : goal.overflow_sub-count
overflow_sub-count c =
    let g = c.args in
    let q = c.requires in
    omega (arith, term_open g.standing g.condition g.weight _ _ _ q.0.0 q.0.1 q.2)

pub overflow_add-result : goal.overflow_add-result
overflow_add-result c =
    let g = c.args in
    let q = c.requires in
    record { fits = omega (arith, (counts-left g.standing g.condition g.weight _ _ _ q.0.0 q.0.1 q.2).0) }

pub overflow_add-result-2 : goal.overflow_add-result-2
overflow_add-result-2 c =
    let g = c.args in
    let q = c.requires in
    record { fits = omega (arith, (counts-left g.standing g.condition g.weight _ _ _ q.0.0 q.0.1 q.2).1) }

pub returns-clause-added : goal.returns-clause-added
returns-clause-added c =
    let g = c.args in
    let q = c.requires in
    let w = g.self.now in
    let at = g.standing.raw_terms in
    subst
    (λ (l : List (List ℕ)). Added g.standing g.condition g.weight w.raw_conditions.now w.raw_weights.now w.thresholds.now (added_to g.standing (at + 1)) (set w.raw_conditions.now at g.condition) (set w.raw_weights.now at g.weight) l)
    (sym c.set_end.ensures) (added g.standing g.condition g.weight w.raw_conditions.now w.raw_weights.now w.thresholds.now q.0.0 q.0.1 q.2 q.1)
