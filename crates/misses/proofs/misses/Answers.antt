-- `misses::misses` meets its contract: each answer rewrites the definition by the tests that led there.
use Prim.Native.Nat.{◌-◌, ◌%◌}
use native.Mathlib.Omega.{arith}
use borrow.Author.Tests.{lt-ltb, le-ltb, eq-eqb, ne_eqb}
use Rattle.misses.specs.Misses.{misses}
use Rattle.misses.proofs.misses.Goals as goal

pub returns-then-base-lower : goal.returns-then-base-lower
unfolding misses
returns-then-base-lower c =
    let g = c.args in
    simp (eq-eqb g.divisor 0 c.if-divisor-eq0.true, lt-ltb g.base g.lower c.if-base-lower.true)

pub returns-else-base-lower : goal.returns-else-base-lower
unfolding misses
returns-else-base-lower c =
    let g = c.args in
    simp (eq-eqb g.divisor 0 c.if-divisor-eq0.true, le-ltb g.base g.lower c.if-base-lower.false)

pub returns-then-remainder-eq0 : goal.returns-then-remainder-eq0
unfolding misses
returns-then-remainder-eq0 c =
    let g = c.args in
    simp (
      ne_eqb g.divisor 0 c.if-divisor-eq0.false,
      eq-eqb ((g.lower - g.base) % g.divisor) 0 c.if-remainder-eq0.true,
      le-ltb (g.upper - g.lower) 0 (omega arith),
    )

pub returns : goal.returns
unfolding misses
returns c =
    let g = c.args in
    simp (ne_eqb g.divisor 0 c.if-divisor-eq0.false, ne_eqb ((g.lower - g.base) % g.divisor) 0 c.if-remainder-eq0.false)
