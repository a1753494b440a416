-- `misses::gcd` meets its contract: the table, what is nothing to divide, and the loop, which keeps the gcd of its two numbers while the
-- right one falls.
use Prim.Native.Nat.{ℕ}
use native.Mathlib.Omega.{arith}
use mathlib.Core.Path.{sym, ap, ◌∙◌}
use Rattle.divisors.specs.Gcd.{gcd}
use Rattle.divisors.specs.GcdLaws.{gcd-none, gcd-zero, gcd_step, gcd_multiple}
use Rattle.misses.proofs.gcd.Goals as goal

pub returns-then-left-eq0 : goal.returns-then-left-eq0
returns-then-left-eq0 c =
    let g = c.args in
    sym (ap (λ (x : ℕ). gcd x g.right) c.if-left-eq0.true ∙ gcd-none g.right)

pub returns-then-left-eq1 : goal.returns-then-left-eq1
returns-then-left-eq1 c =
    let g = c.args in
    sym (ap (λ (x : ℕ). gcd x g.right) c.if-left-eq1.true ∙ gcd_multiple 1 g.right (omega arith))

pub returns-then-right-left-eq0 : goal.returns-then-right-left-eq0
returns-then-right-left-eq0 c =
    let g = c.args in
    sym (gcd_multiple g.left g.right c.if-right-left-eq0.true)

pub loop-b-preserved : goal.loop-b-preserved
loop-b-preserved c =
    let w = c.loop-b in
    sym (gcd_step w.a w.b (omega arith)) ∙ w.invariant

pub returns : goal.returns
returns c =
    let w = c.loop-b in
    sym (gcd-zero w.a) ∙ ap (gcd w.a) (sym c.loop-b-test.false) ∙ w.invariant
