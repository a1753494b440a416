-- The search one term a turn from the light end, at places of the two slices, and when a row is planned.
use Rattle.std.specs.Prelude.{ℕ, suc, ◌+◌, ◌-◌, ◌*◌, ◌/◌, ◌^◌, ◌<◌, ◌≤◌, min, ◌≡◌, Bool, true, false, cond, ◌&&◌, length, get_or, set, replicate, leb, ltb, ℤ, pos, ◌-ℤ◌, None, Some}
use Rattle.std.proofs.Common.{arith, sym, ap₂, ◌∙◌, subst, SFits}
use Rattle.std.proofs.Math.Path.{refl, ap}
use mathlib.Core.List.{List, ◌∷◌, reverse}
use Rattle.std.specs.Int.Signed.{mag, lt_z}
use Rattle.std.specs.Int.{w64}
use borrow.Author.Tests.{le-leb, lt-leb, leb-true}
use Rattle.base.specs.TestLaws.{unequal}
use Rattle.memory.specs.Limits.{list_terms}
use Rattle.numeric.specs.Threshold.{Term, term}
use Rattle.base.specs.SignedLaws.{mag_minus, sub_sfits}
use Rattle.base.specs.Signed.{natural}
use Rattle.state.specs.declared.State.{State}
use Rattle.state.specs.State.{limit, upper_at_most, has_residual_interval}
use Rattle.state.specs.Shape.{Figures}
use Rattle.words.specs.declared.Ended.TheVariants.{Hit, Complete, Stopped}
use Rattle.words.specs.Shift.{Shifted, union_shifted}
use Rattle.words.specs.ShiftLaws.{Outcome, completes, hits, stops, outcome, readable}
use Rattle.rows.specs.Rows.{has_nonunit}
use Rattle.searches.specs.declared.Window.{Window}
use Rattle.searches.specs.declared.Search.TheVariants.{Skipped, Fits, Nothing, Cut}
use Rattle.searches.specs.Search.{window, plan, search_from, search}
use Rattle.searches.specs.Shape.{Prepared}
use Rattle.numeric.specs.TermsLaws.{last_terms_of, last_next, last_none}

-- ---- one turn

module _ (w : Window) (d : ℕ → Bool) (t : Term) (ts : List Term) (sums : List ℕ) (maximum : ℕ) where
  pub from_cut : search_from w d (t ∷ ts) sums maximum 0 ≡ Cut w.visits
  unfolding search_from
  from_cut = refl

  module _ (left : ℕ) where
    pub from_heavy : ltb w.maximum t.weight ≡ true → search_from w d (t ∷ ts) sums maximum (suc left) ≡ Nothing (w.visits - left)
    unfolding search_from
    from_heavy h = rw (h, search_from)

    module _ (h : ltb w.maximum t.weight ≡ false) where
      pub from_skip : d t.condition ≡ true → search_from w d (t ∷ ts) sums maximum (suc left) ≡ search_from w d ts sums maximum left
      unfolding search_from
      from_skip k = rw (h, k, search_from)

      module _ (k : d t.condition ≡ false) where
        pub from_fits : (after : ℕ) → (union_shifted sums (maximum / 64 + 1) t.weight w.lower w.maximum left).ended ≡ Hit after
            → search_from w d (t ∷ ts) sums maximum (suc left) ≡ Fits (w.visits - after)
        unfolding search_from
        from_fits after e = rw (h, k, e, search_from)

        pub from_stopped : (union_shifted sums (maximum / 64 + 1) t.weight w.lower w.maximum left).ended ≡ Stopped
            → search_from w d (t ∷ ts) sums maximum (suc left) ≡ Cut w.visits
        unfolding search_from
        from_stopped e = rw (h, k, e, search_from)

        pub from_more : (after : ℕ) → (union_shifted sums (maximum / 64 + 1) t.weight w.lower w.maximum left).ended ≡ Complete after
            → search_from w d (t ∷ ts) sums maximum (suc left)
            ≡ search_from w d ts (union_shifted sums (maximum / 64 + 1) t.weight w.lower w.maximum left).words
            (min (maximum + t.weight) w.maximum) after
        unfolding search_from
        from_more after e = rw (h, k, e, search_from)

-- ---- the same at a place of the two slices

-- The lightest of the first terms.
abbrev pub last_term : List ℕ → List ℕ → ℕ → Term
last_term cs ws count = term (get_or cs (count - 1) 0) (get_or ws (count - 1) 0)

module _ (w : Window) (d : ℕ → Bool) (cs ws : List ℕ) (sums : List ℕ) (count maximum left : ℕ) where
  pub turn-none : count ≡ 0 → search_from w d (last_terms_of cs ws count) sums maximum left ≡ Nothing (w.visits - left)
  unfolding search_from
  turn-none e = ap (λ (x : List Term). search_from w d x sums maximum left) (last_none cs ws count e)

  module _ (h : 0 < count) (f : count ≤ length cs) (g : count ≤ length ws) where
    pub turn-cut : left ≡ 0 → search_from w d (last_terms_of cs ws count) sums maximum left ≡ Cut w.visits
    turn-cut e =
        ap₂ (λ (x : List Term) (n : ℕ). search_from w d x sums maximum n) (last_next cs ws count h f g) e
        ∙ from_cut w d (last_term cs ws count) (last_terms_of cs ws (count - 1)) sums maximum

    pub turn : (left ≡ 0 → ⊥) → search_from w d (last_terms_of cs ws count) sums maximum left
        ≡ search_from w d (last_term cs ws count ∷ last_terms_of cs ws (count - 1)) sums maximum (suc (left - 1))
    turn n =
        let e : left ≡ suc (left - 1) = omega arith in
        ap₂ (λ (x : List Term) (n : ℕ). search_from w d x sums maximum n) (last_next cs ws count h f g) e

-- ---- plans

module _ (ts : List Term) (s : State) where
  pub plan-unit : has_nonunit ts ≡ false → plan ts s ≡ None
  unfolding plan
  plan-unit a = rw a

  module _ (a : has_nonunit ts ≡ true) where
    pub plan_wide : has_residual_interval s ≡ false → plan ts s ≡ None
    unfolding plan
    plan_wide b = rw (a, b)

    module _ (b : has_residual_interval s ≡ true) where
      pub plan-reached : lt_z s.known (limit s.upper) ≡ false → plan ts s ≡ None
      unfolding plan
      plan-reached e = rw (a, b, e)

      module _ (e : lt_z s.known (limit s.upper) ≡ true) where
        pub plan_long : (window ts s).visits < (window ts s).words + 5 → plan ts s ≡ None
        unfolding plan
        plan_long h = rw (a, b, e, lt-leb ((window ts s).words + 5) (window ts s).visits h)

        pub plan-window : (window ts s).words + 5 ≤ (window ts s).visits → plan ts s ≡ Some (window ts s)
        unfolding plan
        plan-window h = rw (a, b, e, le-leb ((window ts s).words + 5) (window ts s).visits h)

        -- The same at the numbers of the code.
        module _ (lower maximum n : ℕ) (p : lower ≡ natural (s.lower -ℤ s.known))
            (q : maximum ≡ natural (limit s.upper -ℤ s.known -ℤ pos 1)) (r : n ≡ length ts) where
          pub not-planned : 4 * n < maximum / 64 + 1 + 5 → plan ts s ≡ None
          not-planned h = plan_long (rw (q, r) at h)

          pub is_planned : maximum / 64 + 1 + 5 ≤ 4 * n
              → plan ts s ≡ Some (record { lower = lower; maximum = maximum; words = maximum / 64 + 1; visits = 4 * n })
          is_planned h =
              plan-window (rw (q, r) at h)
              ∙ sym (ap Some (λ i. record { lower = p i; maximum = q i; words = q i / 64 + 1; visits = 4 * r i }))

-- What a plan says of its row, and of its window.
pub record Searched (ts : List Term) (s : State) (w : Window) : Type 0 where
  pub same : window ts s ≡ w
  pub cut : has_residual_interval s ≡ true
  pub room : (window ts s).words + 5 ≤ (window ts s).visits

pub plan_is : (ts : List Term) (s : State) (w : Window) → plan ts s ≡ Some w → Searched ts s w
unfolding plan
plan_is ts s w e = by (tests (has_nonunit ts)) refl e
  where
    tests : Bool → Bool
    tests a = a && has_residual_interval s && lt_z s.known (limit s.upper) && leb ((window ts s).words + 5) (window ts s).visits

    met : (a b c d : Bool) → (a && b && c && d) ≡ true → (b ≡ true) × (d ≡ true)
    met true true true d h = (refl, h)
    met true true false d h = absurd (unequal cc)
    met true false c d h = absurd (unequal cc)
    met false b c d h = absurd (unequal cc)

    by : (x : Bool) → tests (has_nonunit ts) ≡ x → cond x (Some (window ts s)) None ≡ Some w → Searched ts s w
    by true h q =
        let m = met (has_nonunit ts) (has_residual_interval s) (lt_z s.known (limit s.upper)) (leb ((window ts s).words + 5) (window ts s).visits) h in
        record { same = cc; cut = m.0; room = leb-true ((window ts s).words + 5) (window ts s).visits m.1 }
    by false h q = absurd (unequal cc)

pub plan_prepared : (ts : List Term) (s : State) (w : Window) → length ts ≤ list_terms → plan ts s ≡ Some w → Prepared w
plan_prepared ts s w n e =
    let p = plan_is ts s w e in
    subst Prepared p.same (record { words = refl; enough = p.room; visits = omega arith })

-- Where there is no limit both limits do not cut.
pub open_wide : (s : State) → s.upper ≡ None → has_residual_interval s ≡ false
unfolding has_residual_interval
open_wide s e = by (lt_z s.known s.lower)
  where
    by : (x : Bool) → (x && upper_at_most s.upper s.possible) ≡ false
    by true = rw e
    by false = refl

-- The differences that a plan takes stay inside 64 bits.
module _ (s : State) (b : ℤ) (f : Figures s) (e : s.upper ≡ Some b) where
  small : mag b < 2 ^ 61
  small = rw e at f.upper

  pub lower_known : SFits w64 (s.lower -ℤ s.known)
  lower_known = sub_sfits s.lower s.known (omega (arith, f.lower, f.known))

  pub limit-known : SFits w64 (b -ℤ s.known)
  limit-known = sub_sfits b s.known (omega (arith, small, f.known))

  pub last_known : SFits w64 (b -ℤ s.known -ℤ pos 1)
  last_known = sub_sfits (b -ℤ s.known) (pos 1) (omega (arith, mag_minus b s.known, small, f.known))

-- ---- where a search begins

module _ (ts : List Term) (s : State) (d : ℕ → Bool) where
  pub search-none : plan ts s ≡ None → search ts s d ≡ Skipped
  unfolding search
  search-none e = rw (e, search)

  pub search-begins : (w : Window) → plan ts s ≡ Some w
      → search ts s d ≡ search_from w d (reverse ts) (set (replicate w.words 0) 0 1) 0 (w.visits - (w.words + 2))
  unfolding search
  search-begins w e = rw (e, search)

-- ---- visits that a shift leaves

pub hit_left : (l : List ℕ) (sources shift start end allowance k : ℕ) → (union_shifted l sources shift start end allowance).ended ≡ Hit k → k ≤ allowance
unfolding union_shifted
hit_left l sources shift start end allowance k e = by (outcome shift start end (readable l sources shift) l allowance) e
  where
    by : {r : Shifted} → Outcome shift start end (readable l sources shift) l allowance r → r.ended ≡ Hit k → k ≤ allowance
    by (completes j q f) e = absurd (unequal cc)
    by (hits j s i q w f) e = let z : j ≡ k = cc in omega arith
    by (stops i f) e = absurd (unequal cc)
