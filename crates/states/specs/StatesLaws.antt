-- Writing the states out, place by place. Assumes nothing.
use Prim.Native.Nat.{ℕ, zero, suc, ◌<◌, ◌≤◌}
use Rattle.std.proofs.Common.{arith, sym, ◌∙◌, length-append, length-drop, length-take-le, take-suc, drop-cons}
use Rattle.std.specs.Prelude.{◌≡◌, length, get_or, set, take, drop}
use Rattle.std.proofs.Math.Path.{refl, ap}
use mathlib.Core.List.{List, [], ◌∷◌, ◌++◌}
use Rattle.std.proofs.Math.Seq.{append_snoc, take-length, drop-length}
use Rattle.std.proofs.lemmas.List.{set_at}
use Rattle.memory.specs.Limits.{max_thresholds}
use Rattle.memory.specs.Buffers.{zeros}
use Rattle.state.specs.declared.State.{State}
use Rattle.state.specs.State.{no_state}
use Rattle.states.specs.States.{shown}

-- ---- a list in front of a cleared buffer

module _ {X : Type 0} (z : X) where
  pub zeros_long : (b : List X) → length (zeros z b) ≡ length b
  unfolding zeros
  zeros_long [] = refl
  zeros_long (x ∷ b) = ap suc (zeros_long b)

  cleared_at : (k : ℕ) (b : List X) (n : ℕ) → get_or (drop k (zeros z b)) n z ≡ z
  unfolding zeros
  cleared_at zero [] n = refl
  cleared_at zero (x ∷ b) zero = refl
  cleared_at zero (x ∷ b) (suc n) = cleared_at zero b n
  cleared_at (suc k) [] n = refl
  cleared_at (suc k) (x ∷ b) n = cleared_at k b n

  behind-cleared : (l : List X) (k : ℕ) (b : List X) (n : ℕ) → get_or (l ++ drop k (zeros z b)) n z ≡ get_or l n z
  behind-cleared [] k b n = cleared_at k b n
  behind-cleared (x ∷ l) k b zero = refl
  behind-cleared (x ∷ l) k b (suc n) = behind-cleared l k b n

-- ---- place by place

-- The first n places written.
abbrev pub showing : List State → List State → ℕ → List State
showing states lent n = take n (shown states lent) ++ drop n lent

module _ (states lent : List State) (many : max_thresholds ≤ length states) (room : max_thresholds ≤ length lent) where
  pub shown_long : length (shown states lent) ≡ length lent
  shown_long =
      let k = length-take-le max_thresholds states many in
      let d = length-drop (length (take max_thresholds states)) (zeros no_state lent) in
      omega (arith, k, d, length-append (take max_thresholds states) (drop (length (take max_thresholds states)) (zeros no_state lent)), zeros_long no_state lent)

  pub shown-at : (n : ℕ) → get_or (shown states lent) n no_state ≡ get_or (take max_thresholds states) n no_state
  shown-at n = behind-cleared no_state (take max_thresholds states) (length (take max_thresholds states)) lent n

  pub showing_long : (n : ℕ) → n ≤ length lent → length (showing states lent n) ≡ length lent
  showing_long n h =
      omega (arith, length-append (take n (shown states lent)) (drop n lent), length-drop n lent, length-take-le n (shown states lent) (omega (arith, shown_long)))

  pub showing_next : (n : ℕ) (s : State) → n < length lent → s ≡ get_or (take max_thresholds states) n no_state → set (showing states lent n) n s ≡ showing states lent (suc n)
  showing_next n s h e =
      let all = shown states lent in
      let v : get_or all n no_state ≡ s = shown-at n ∙ sym e in
      ap (λ (l : List State). set (take n all ++ l) n s) (drop-cons lent n no_state h)
      ∙ set_at (take n all) (get_or lent n no_state) (drop (suc n) lent) s n (length-take-le n all (omega (arith, shown_long)))
      ∙ sym (append_snoc (take n all) s (drop (suc n) lent))
      ∙ ap (λ (x : State). (take n all ++ (x ∷ [])) ++ drop (suc n) lent) (sym v)
      ∙ sym (ap (λ (l : List State). l ++ drop (suc n) lent) (take-suc all n no_state (omega (arith, shown_long))))

  pub showing_all : (n : ℕ) → n ≡ length lent → showing states lent n ≡ shown states lent
  showing_all n e = ap (showing states lent) (e ∙ sym shown_long) ∙ ends (shown states lent) lent shown_long
    where
      ends : (all l : List State) → length all ≡ length l → take (length all) all ++ drop (length all) l ≡ all
      ends all l h = ap (λ (t : List State). t ++ drop (length all) l) (take-length all) ∙ ap (λ (k : ℕ). all ++ drop k l) h ∙ ap (λ (t : List State). all ++ t) (drop-length l) ∙ none all
        where
          none : (t : List State) → t ++ [] ≡ t
          none [] = refl
          none (x ∷ t) = ap (λ (u : List State). x ∷ u) (none t)
