-- Sums of terms under a layout, as natural numbers; and WHAT A THRESHOLD ASKS RISES WITH THE LAYOUT: weights are never negative.
use Rattle.std.specs.Prelude.{ℕ, ◌+◌, ◌≤◌, ◌≡◌, refl, Bool, true, false, cond, ℤ, pos, ◌+ℤ◌}
use Rattle.std.proofs.Common.{le_refl, sym, ap, ◌∙◌, subst, le-leb}
use native.Mathlib.Omega.{arith}
use mathlib.Core.List.{List, [], ◌∷◌, map}
use Rattle.std.specs.Int.Signed.{le_z}
use Rattle.base.specs.SignedLaws.{le_z_trans}
use Rattle.numeric.specs.Threshold.{Term, Threshold}
use Rattle.numeric.specs.Layout.{Layout, value, weighted, asked}

-- The sum of the weights whose condition a layout makes true.
unfoldable pub sum_of : (ℕ → Bool) → List Term → ℕ
sum_of v [] = 0
sum_of v (t ∷ ts) = cond (v t.condition) t.weight 0 + sum_of v ts

-- It is the value of their line in OPB.
pub value-sum : (v : ℕ → Bool) (ts : List Term) → value v (map weighted ts) ≡ pos (sum_of v ts)
unfolding value sum_of
value-sum v [] = refl
value-sum v (t ∷ ts) = ap (λ (z : ℤ). cond (v t.condition) (pos t.weight) (pos 0) +ℤ z) (value-sum v ts) ∙ by (v t.condition)
  where
    by : (x : Bool) → cond x (pos t.weight) (pos 0) +ℤ pos (sum_of v ts) ≡ pos (cond x t.weight 0 + sum_of v ts)
    by true = refl
    by false = refl

-- What is true in one layout is true in the other.
abbrev pub Included : Layout → Layout → Type 0
Included v w = (n : ℕ) → v n ≡ true → w n ≡ true

pub one_rises : (a b : Bool) (w : ℕ) → (a ≡ true → b ≡ true) → cond a w 0 ≤ cond b w 0
one_rises true b w h = subst (λ (c : Bool). w ≤ cond c w 0) (sym (h refl)) (le_refl w)
one_rises false b w h = omega arith

pub sum_rises : (v w : Layout) (i : Included v w) (ts : List Term) → sum_of v ts ≤ sum_of w ts
unfolding sum_of
sum_rises v w i [] = omega arith
sum_rises v w i (t ∷ ts) = omega (arith, one_rises (v t.condition) (w t.condition) t.weight (i t.condition), sum_rises v w i ts)

module _ (v w : Layout) (i : Included v w) where
  -- THE LAW: with more nodes true, a threshold that asks for true goes on asking
  pub asked_rises : (t : Threshold) → asked v t ≡ true → asked w t ≡ true
  asked_rises t h =
      let ts = t.terms in
      ap (le_z t.bound) (value-sum w ts)
      ∙ le_z_trans t.bound (pos (sum_of v ts)) (pos (sum_of w ts)) (sym (ap (le_z t.bound) (value-sum v ts)) ∙ h) (le-leb (sum_of v ts) (sum_of w ts) (sum_rises v w i ts))
