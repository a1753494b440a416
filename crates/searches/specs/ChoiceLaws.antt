-- Sums of chosen terms: term by term, with one choice changed, and in any order.
use Rattle.std.specs.Prelude.{ℕ, ◌+◌, ◌<◌, ◌≡◌, Bool, ◌≢◌, ◌⊎◌, eqb}
use native.Mathlib.Omega.{arith}
use Rattle.std.proofs.Math.Path.{refl, ap₂}
use Rattle.std.proofs.Common.{◌∙◌, inl, inr, eq-eqb, ne_eqb}
use Rattle.std.proofs.Math.Bool.{true, false, cond}
use mathlib.Core.List.{List, [], ◌∷◌, reverse, reverse_aux}
use Rattle.base.specs.All.{All}
use Rattle.numeric.specs.Threshold.{Term}
use Rattle.searches.specs.Search.{chosen}
use Rattle.searches.specs.RowLaws.{Fresh}

-- One choice changed.
abbrev pub changed : (ℕ → Bool) → ℕ → Bool → ℕ → Bool
changed choice c b n = cond (eqb n c) b (choice n)

pub changed_here : (choice : ℕ → Bool) (c : ℕ) (b : Bool) → changed choice c b c ≡ b
changed_here choice c b = rw (eq-eqb c c refl)

pub changed_there : (choice : ℕ → Bool) (c : ℕ) (b : Bool) (n : ℕ) → n ≢ c → changed choice c b n ≡ choice n
changed_there choice c b n h = rw (ne_eqb n c h)

module _ (d : ℕ → Bool) where
  pub chosen_none : (choice : ℕ → Bool) → chosen d choice [] ≡ 0
  unfolding chosen
  chosen_none choice = refl

  module _ (choice : ℕ → Bool) (t : Term) (ts : List Term) where
    pub chosen-decided : d t.condition ≡ true → chosen d choice (t ∷ ts) ≡ chosen d choice ts
    unfolding chosen
    chosen-decided h = rw (h, chosen) (omega arith)

    module _ (h : d t.condition ≡ false) where
      pub chosen_taken : choice t.condition ≡ true → chosen d choice (t ∷ ts) ≡ t.weight + chosen d choice ts
      unfolding chosen
      chosen_taken k = rw (h, k, chosen)

      pub chosen-left : choice t.condition ≡ false → chosen d choice (t ∷ ts) ≡ chosen d choice ts
      unfolding chosen
      chosen-left k = rw (h, k, chosen) (omega arith)

    -- A term that goes from one list to another.
    pub chosen_moves : (us : List Term) → chosen d choice (t ∷ us) + chosen d choice ts ≡ chosen d choice us + chosen d choice (t ∷ ts)
    unfolding chosen
    chosen_moves us = omega arith

  -- A choice of a condition that no term has changes nothing.
  pub chosen-changed : (choice : ℕ → Bool) (c : ℕ) (b : Bool) (ts : List Term) → Fresh c ts → chosen d (changed choice c b) ts ≡ chosen d choice ts
  unfolding chosen
  chosen-changed choice c b [] f = refl
  chosen-changed choice c b (t ∷ ts) f =
      ap₂ (λ (x : Bool) (n : ℕ). cond (d t.condition) 0 (cond x t.weight 0) + n)
      (changed_there choice c b t.condition f.0) (chosen-changed choice c b ts f.1)

  -- With no choice the sum is 0.
  pub chosen-nothing : (ts : List Term) → chosen d (λ (n : ℕ). false) ts ≡ 0
  unfolding chosen
  chosen-nothing [] = refl
  chosen-nothing (t ∷ ts) = by (d t.condition) (chosen-nothing ts)
    where
      by : (x : Bool) → chosen d (λ (n : ℕ). false) ts ≡ 0 → cond x 0 0 + chosen d (λ (n : ℕ). false) ts ≡ 0
      by true e = omega arith
      by false e = omega arith

  -- Terms that are all heavier than m: none of them is chosen, or more than m.
  pub chosen_heavy : (choice : ℕ → Bool) (m : ℕ) (ts : List Term) → All (λ (t : Term). m < t.weight) ts
      → (chosen d choice ts ≡ 0) ⊎ (m < chosen d choice ts)
  chosen_heavy choice m [] h = inl (chosen_none choice)
  chosen_heavy choice m (t ∷ ts) h = by (d t.condition) refl (choice t.condition) refl (chosen_heavy choice m ts h.1)
    where
      by : (x : Bool) → d t.condition ≡ x → (y : Bool) → choice t.condition ≡ y → (chosen d choice ts ≡ 0) ⊎ (m < chosen d choice ts)
          → (chosen d choice (t ∷ ts) ≡ 0) ⊎ (m < chosen d choice (t ∷ ts))
      by true e y f (inl z) = inl (chosen-decided choice t ts e ∙ z)
      by true e y f (inr z) = inr (rw (chosen-decided choice t ts e) z)
      by false e true f z = let k = h.0 in inr (rw (chosen_taken choice t ts e f) (omega arith))
      by false e false f (inl z) = inl (chosen-left choice t ts e f ∙ z)
      by false e false f (inr z) = inr (rw (chosen-left choice t ts e f) z)

  -- The order of the terms does not matter.
  chosen-onto : (choice : ℕ → Bool) (ts acc : List Term) → chosen d choice (reverse_aux ts acc) ≡ chosen d choice ts + chosen d choice acc
  unfolding chosen
  chosen-onto choice [] acc = omega arith
  chosen-onto choice (t ∷ ts) acc = chosen-onto choice ts (t ∷ acc) ∙ omega arith

  pub chosen-reverse : (choice : ℕ → Bool) (ts : List Term) → chosen d choice (reverse ts) ≡ chosen d choice ts
  chosen-reverse choice ts = chosen-onto choice ts [] ∙ omega (arith, chosen_none choice)
