-- `resting::term_rests` meets its contract: the term at the cursor is undecided and light, or there is none.
use native.Mathlib.Omega.{arith}
use mathlib.Core.Path.{sym, ◌∙◌}
use Rattle.queues.specs.Marks.{marks}
use Rattle.resting.specs.RestLaws.{term-place, term-none}
use Rattle.resting.proofs.term_rests.Goals as goal

pub returns-then-at-terms : goal.returns-then-at-terms
returns-then-at-terms c =
    let a = c.args in
    (λ h q. term-none a.cutoff a.terms.conditions.now a.terms.weights.now a.at (marks a.sure.now a.never.now q) (omega (arith, c.if-at-terms.true)))

pub returns-then-not-decided : goal.returns-then-not-decided
returns-then-not-decided c =
    let a = c.args in
    let free = sym c.decided.ensures ∙ c.if-not-decided.true in
    (λ h q. term-place a.cutoff a.terms.conditions.now a.terms.weights.now a.at (marks a.sure.now a.never.now q) (omega (arith, c.if-at-terms.false)) c.requires.0.same free (sym c.waits.ensures ∙ h))
