-- The scan for a fitting weight and another one beside it, one term a turn from the light end.
use Rattle.std.specs.Prelude.{ℕ, ◌-◌, ◌<◌, ◌≤◌, ◌≡◌, Bool, true, false, List, ◌∷◌, reverse, length, get_or}
use Rattle.std.proofs.Common.{sym, ap, ◌∙◌}
use Rattle.numeric.specs.Threshold.{Term, term}
use Rattle.state.specs.declared.State.{State}
use Rattle.state.specs.State.{has_residual_interval}
use Rattle.rows.specs.Rows.{has_nonunit}
use Rattle.intervals.specs.declared.Interval.{Interval}
use Rattle.divisors.specs.Gcd.{gcd}
use Rattle.intervals.specs.Residual.{interval, too_wide, both_fit, fits_from, nothing_forced}
use Rattle.numeric.specs.TermsLaws.{last_terms_of, last_next, last_none}

module _ (i : Interval) (d : ℕ → Bool) (t : Term) (ts : List Term) (fitting : Bool) (complement : ℕ) where
  wide : too_wide i fitting t.weight ≡ true → fits_from i d (t ∷ ts) fitting complement ≡ false
  unfolding fits_from
  wide h = rw (h, fits_from)

  module _ (h : too_wide i fitting t.weight ≡ false) where
    skip : d t.condition ≡ true → fits_from i d (t ∷ ts) fitting complement ≡ fits_from i d ts fitting complement
    unfolding fits_from
    skip k = rw (h, k, fits_from)

    module _ (k : d t.condition ≡ false) where
      first : fitting ≡ false → fits_from i d (t ∷ ts) fitting complement ≡ fits_from i d ts true complement
      unfolding fits_from
      first e = rw (h, k, e, fits_from)

      both : fitting ≡ true → both_fit i t.weight (gcd complement t.weight) ≡ true → fits_from i d (t ∷ ts) fitting complement ≡ true
      unfolding fits_from
      both e m = rw (h, k, e, m, fits_from)

      more : fitting ≡ true → both_fit i t.weight (gcd complement t.weight) ≡ false
          → fits_from i d (t ∷ ts) fitting complement ≡ fits_from i d ts true (gcd complement t.weight)
      unfolding fits_from
      more e m = rw (h, k, e, m, fits_from)

-- The same at a place of the two slices.
module _ (i : Interval) (d : ℕ → Bool) (cs ws : List ℕ) (left : ℕ) (fitting : Bool) (complement : ℕ) (l : 0 < left) (f : left ≤ length cs) (g : left ≤ length ws) where
  here : fits_from i d (last_terms_of cs ws left) fitting complement
      ≡ fits_from i d (term (get_or cs (left - 1) 0) (get_or ws (left - 1) 0) ∷ last_terms_of cs ws (left - 1)) fitting complement
  here = ap (λ (x : List Term). fits_from i d x fitting complement) (last_next cs ws left l f g)

  pub fits_wide : too_wide i fitting (get_or ws (left - 1) 0) ≡ true → fits_from i d (last_terms_of cs ws left) fitting complement ≡ false
  fits_wide h = here ∙ wide i d (term (get_or cs (left - 1) 0) (get_or ws (left - 1) 0)) (last_terms_of cs ws (left - 1)) fitting complement h

  module _ (h : too_wide i fitting (get_or ws (left - 1) 0) ≡ false) where
    pub fits_skip : d (get_or cs (left - 1) 0) ≡ true
        → fits_from i d (last_terms_of cs ws left) fitting complement ≡ fits_from i d (last_terms_of cs ws (left - 1)) fitting complement
    fits_skip k = here ∙ skip i d (term (get_or cs (left - 1) 0) (get_or ws (left - 1) 0)) (last_terms_of cs ws (left - 1)) fitting complement h k

    module _ (k : d (get_or cs (left - 1) 0) ≡ false) where
      pub fits-first : fitting ≡ false → fits_from i d (last_terms_of cs ws left) fitting complement ≡ fits_from i d (last_terms_of cs ws (left - 1)) true complement
      fits-first e = here ∙ first i d (term (get_or cs (left - 1) 0) (get_or ws (left - 1) 0)) (last_terms_of cs ws (left - 1)) fitting complement h k e

      module _ (e : fitting ≡ true) (next : ℕ) (n : next ≡ gcd complement (get_or ws (left - 1) 0)) where
        pub fits_both : both_fit i (get_or ws (left - 1) 0) next ≡ true → fits_from i d (last_terms_of cs ws left) fitting complement ≡ true
        fits_both m =
            here ∙ both i d (term (get_or cs (left - 1) 0) (get_or ws (left - 1) 0)) (last_terms_of cs ws (left - 1)) fitting complement h k e
            (ap (both_fit i (get_or ws (left - 1) 0)) (sym n) ∙ m)

        pub fits_more : both_fit i (get_or ws (left - 1) 0) next ≡ false
            → fits_from i d (last_terms_of cs ws left) fitting complement ≡ fits_from i d (last_terms_of cs ws (left - 1)) fitting next
        fits_more m =
            here ∙ more i d (term (get_or cs (left - 1) 0) (get_or ws (left - 1) 0)) (last_terms_of cs ws (left - 1)) fitting complement h k e
            (ap (both_fit i (get_or ws (left - 1) 0)) (sym n) ∙ m)
            ∙ ap (fits_from i d (last_terms_of cs ws (left - 1)) true) (sym n)
            ∙ ap (λ (b : Bool). fits_from i d (last_terms_of cs ws (left - 1)) b next) (sym e)

pub fits-none : (i : Interval) (d : ℕ → Bool) (cs ws : List ℕ) (left : ℕ) (fitting : Bool) (complement : ℕ) → left ≡ 0
    → fits_from i d (last_terms_of cs ws left) fitting complement ≡ false
unfolding fits_from
fits-none i d cs ws left fitting complement e = ap (λ (x : List Term). fits_from i d x fitting complement) (last_none cs ws left e)

-- What there is to force, by the three tests.
module _ (ts : List Term) (s : State) (d : ℕ → Bool) where
  pub nothing-unit : has_nonunit ts ≡ false → nothing_forced ts s d ≡ true
  nothing-unit h = simp h

  pub nothing_wide : has_nonunit ts ≡ true → has_residual_interval s ≡ false → nothing_forced ts s d ≡ true
  nothing_wide h k = simp (h, k)

  pub nothing-fits : has_nonunit ts ≡ true → has_residual_interval s ≡ true → nothing_forced ts s d ≡ fits_from (interval s) d (reverse ts) false 0
  nothing-fits h k = simp (h, k)
