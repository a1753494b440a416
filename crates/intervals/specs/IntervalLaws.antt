-- A figure as a natural number, and the window that a state's interval gives where the check reaches the terms.
use Rattle.std.specs.Prelude.{◌-◌, ◌^◌, ◌<◌, ◌≤◌, ◌≡◌, true, false, ℤ, pos, negsuc, Option, None, Some}
use Rattle.std.proofs.Common.{arith, sym, ltb-true, leb-true, SFits}
use Rattle.std.specs.Int.Signed.{le_z, lt_z}
use Rattle.std.specs.Int.{w64}
use Rattle.base.specs.TestLaws.{and_left, and_right}
use Rattle.base.specs.SignedLaws.{le_z_trans, nlt-le_z, lt_z_weaken, nle-lt_z, le_z-lt_z, max_right}
use Rattle.base.specs.Signed.{natural}
use Rattle.state.specs.declared.State.{State}
use Rattle.state.specs.State.{limit, reached, upper_at_most, has_residual_interval}
use Rattle.misses.specs.MissesLaws.{clash}
use Rattle.intervals.specs.Residual.{interval}
use Rattle.intervals.specs.Shape.{Window}

pub natural_small : (z : ℤ) → SFits w64 z → natural z < 2 ^ 63
natural_small (pos n) f = omega (arith, f.sfits)
natural_small (negsuc n) f = omega arith

pub natural_mono : (a b : ℤ) → le_z a b ≡ true → natural a ≤ natural b
natural_mono (pos a) (pos b) h = leb-true a b h
natural_mono (pos a) (negsuc b) h = absurd (clash (sym h))
natural_mono (negsuc a) b h = omega arith

-- Below a limit: at most the last number before it.
pub natural_last : (a b : ℤ) → lt_z a b ≡ true → natural a ≤ natural b - 1
natural_last (pos a) (pos b) h = omega (arith, ltb-true a b h)
natural_last (pos a) (negsuc b) h = absurd (clash (sym h))
natural_last (negsuc a) b h = omega arith

-- A limit that there is, and that is not at most z, is above z.
pub limit_above : (u : Option ℤ) (y z : ℤ) → upper_at_most u y ≡ true → upper_at_most u z ≡ false → lt_z z (limit u) ≡ true
limit_above None y z h k = absurd (clash (sym h))
limit_above (Some u) y z h k = nle-lt_z z u k

pub window : (s : State) → has_residual_interval s ≡ true → upper_at_most s.upper (reached s) ≡ false → lt_z s.possible (reached s) ≡ false
    → Window (interval s)
unfolding has_residual_interval
window s h u p =
    let r = max_right s.known s.lower in
    let l = limit_above s.upper s.possible (reached s) (and_right (lt_z s.known s.lower) (upper_at_most s.upper s.possible) h) u in
    let a = natural_mono s.known s.lower (lt_z_weaken s.known s.lower (and_left (lt_z s.known s.lower) (upper_at_most s.upper s.possible) h)) in
    let b = natural_mono s.lower s.possible (le_z_trans s.lower (reached s) s.possible r (nlt-le_z s.possible (reached s) p)) in
    let e = natural_last s.lower (limit s.upper) (le_z-lt_z s.lower (reached s) (limit s.upper) r l) in
    record { above = a; inside = omega arith }
