-- `state::State::drained` meets its contract. Assumes nothing.
use mathlib.Core.Path.{◌≡◌}
use Prim.Native.Nat.{ℕ, ◌+◌, ◌-◌, ◌<◌, ◌^◌}
use native.Mathlib.Omega.{arith}
use lib.IntN.{ℤ, pos, ◌+ℤ◌, ◌-ℤ◌}
use lib.Signed.{mag}
use mir.Syntax.{w64}
use mir.Val.{SFits, to_z, of_z}
use mir.Facts.{to_z-of_z, to_z_pos}
use borrow.Author.Rules.{rules}
use Rattle.base.specs.SignedLaws.{add_sfits, sub_sfits}
use Rattle.state.specs.State.{drained, with_known, with_possible}
use Rattle.state.proofs.State.drained.Goals as goal

-- A figure moved by a weight, from the bits of both: the result fits, and it is the sum or the difference.
module _
    (op : ℤ → ℤ → ℤ)
    (fits : (a b : ℤ) → mag a + mag b < 2 ^ 63 - 2 → SFits w64 (op a b))
    (z : ℤ)
    (w : ℕ)
    (f : SFits w64 z)
    (small : mag z < 2 ^ 62)
    (light : w < 2 ^ 46) where
  moved-fits : SFits w64 (op (to_z w64 (of_z w64 z)) (to_z w64 w))
  moved-fits = rw (to_z-of_z f, to_z_pos w64 {n = w} (omega arith)) (fits z (pos w) (omega arith))

  moved : to_z w64 (of_z w64 (op (to_z w64 (of_z w64 z)) (to_z w64 w))) ≡ op z (pos w)
  moved = rw (to_z-of_z moved-fits, to_z-of_z f, to_z_pos w64 {n = w} (omega arith))

up : (a b : ℤ) → mag a + mag b < 2 ^ 63 - 2 → SFits w64 (a +ℤ b)
up a b h = add_sfits a b (omega arith)

pub overflow_add-result : goal.overflow_add-result
overflow_add-result c =
    moved-fits ◌+ℤ◌ up c.args.self.known c.args.weight (search rules) c.requires.known c.requires.light

pub returns-then-value : goal.returns-then-value
unfolding drained with_known
returns-then-value c =
    let s = c.args.self in
    let hp : to_z w64 (of_z w64 s.possible) ≡ s.possible = search rules in
    let hl : to_z w64 (of_z w64 s.lower) ≡ s.lower = search rules in
    simp (moved ◌+ℤ◌ up s.known c.args.weight (search rules) c.requires.known c.requires.light, hp, hl, c.if-value.true)

pub overflow_sub-result : goal.overflow_sub-result
overflow_sub-result c =
    moved-fits ◌-ℤ◌ sub_sfits c.args.self.possible c.args.weight (search rules) c.requires.possible c.requires.light

pub returns-else-value : goal.returns-else-value
unfolding drained with_possible
returns-else-value c =
    let s = c.args.self in
    let hk : to_z w64 (of_z w64 s.known) ≡ s.known = search rules in
    let hl : to_z w64 (of_z w64 s.lower) ≡ s.lower = search rules in
    simp (moved ◌-ℤ◌ sub_sfits s.possible c.args.weight (search rules) c.requires.possible c.requires.light, hk, hl, c.if-value.false)
