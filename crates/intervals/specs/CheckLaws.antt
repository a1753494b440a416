-- The whole-row check and the scan for fitting weights, one term a turn from the light end.
use Rattle.std.specs.Prelude.{ℕ, ◌-◌, ◌<◌, ◌≤◌, min, ◌≡◌, Bool, true, false, ◌&&◌, not, List, [], ◌∷◌, reverse, ◌≢◌, length, get_or, eqb, leb}
use Rattle.std.proofs.Common.{sym, ap, ◌∙◌, eq-eqb, ne_eqb}
use Rattle.std.specs.Int.Signed.{lt_z}
use Rattle.numeric.specs.Threshold.{Term, term}
use Rattle.numeric.specs.TermsLaws.{last_terms_of, last_next}
use Rattle.state.specs.declared.Step.TheVariants.{Unchanged, Contradiction}
use Rattle.state.specs.declared.State.{State}
use Rattle.state.specs.State.{reached, upper_at_most, has_residual_interval}
use Rattle.rows.specs.Rows.{has_nonunit}
use Rattle.intervals.specs.declared.Interval.{Interval}
use Rattle.divisors.specs.Gcd.{gcd}
use Rattle.misses.specs.Misses.{misses}
use Rattle.intervals.specs.Residual.{interval, stops_at, check_from, residual_check}

module _ (i : Interval) (d : ℕ → Bool) (t : Term) (ts : List Term) (divisor : ℕ) where
  pub check_skip : d t.condition ≡ true → check_from i d (t ∷ ts) divisor ≡ check_from i d ts divisor
  unfolding check_from
  check_skip h = rw (h, check_from)

  pub check_stop : d t.condition ≡ false → stops_at i divisor t.weight (gcd divisor t.weight) ≡ true
      → check_from i d (t ∷ ts) divisor ≡ Unchanged
  unfolding check_from
  check_stop h k = rw (h, k, check_from)

  pub check_more : d t.condition ≡ false → stops_at i divisor t.weight (gcd divisor t.weight) ≡ false
      → check_from i d (t ∷ ts) divisor ≡ check_from i d ts (gcd divisor t.weight)
  unfolding check_from
  check_more h k = rw (h, k, check_from)

-- The same at a place of the two slices.
module _ (i : Interval) (d : ℕ → Bool) (cs ws : List ℕ) (left divisor : ℕ) (h : 0 < left) (f : left ≤ length cs) (g : left ≤ length ws) where
  next_here : check_from i d (last_terms_of cs ws left) divisor
      ≡ check_from i d (term (get_or cs (left - 1) 0) (get_or ws (left - 1) 0) ∷ last_terms_of cs ws (left - 1)) divisor
  next_here = ap (λ (l : List Term). check_from i d l divisor) (last_next cs ws left h f g)

  pub turn_skip : d (get_or cs (left - 1) 0) ≡ true → check_from i d (last_terms_of cs ws left) divisor ≡ check_from i d (last_terms_of cs ws (left - 1)) divisor
  turn_skip k = next_here ∙ check_skip i d (term (get_or cs (left - 1) 0) (get_or ws (left - 1) 0)) (last_terms_of cs ws (left - 1)) divisor k

  pub turn_stop : (next : ℕ) → d (get_or cs (left - 1) 0) ≡ false → next ≡ gcd divisor (get_or ws (left - 1) 0)
      → stops_at i divisor (get_or ws (left - 1) 0) next ≡ true → check_from i d (last_terms_of cs ws left) divisor ≡ Unchanged
  turn_stop next k e m =
      next_here ∙ check_stop i d (term (get_or cs (left - 1) 0) (get_or ws (left - 1) 0)) (last_terms_of cs ws (left - 1)) divisor k
      (ap (stops_at i divisor (get_or ws (left - 1) 0)) (sym e) ∙ m)

  pub turn_more : (next : ℕ) → d (get_or cs (left - 1) 0) ≡ false → next ≡ gcd divisor (get_or ws (left - 1) 0)
      → stops_at i divisor (get_or ws (left - 1) 0) next ≡ false → check_from i d (last_terms_of cs ws left) divisor ≡ check_from i d (last_terms_of cs ws (left - 1)) next
  turn_more next k e m =
      next_here ∙ check_more i d (term (get_or cs (left - 1) 0) (get_or ws (left - 1) 0)) (last_terms_of cs ws (left - 1)) divisor k
      (ap (stops_at i divisor (get_or ws (left - 1) 0)) (sym e) ∙ m)
      ∙ ap (check_from i d (last_terms_of cs ws (left - 1))) (sym e)

module _ (i : Interval) (divisor weight next : ℕ) where
  pub stops_first : (eqb divisor 0 && leb weight i.width) ≡ true → stops_at i divisor weight next ≡ true
  stops_first h = simp h

  module _ (h : (eqb divisor 0 && leb weight i.width) ≡ false) where
    pub stops_one : next ≡ 1 → stops_at i divisor weight next ≡ true
    stops_one k = simp (h, eq-eqb next 1 k)

    module _ (n : next ≢ 1) where
      pub stops_same : next ≡ divisor → stops_at i divisor weight next ≡ false
      stops_same k = simp (h, ne_eqb next 1 n, eq-eqb next divisor k)

      pub stops_new : next ≢ divisor → stops_at i divisor weight next ≡ not (misses i.known i.lower (min i.possible i.upper) next)
      stops_new k = simp (h, ne_eqb next 1 n, ne_eqb next divisor k)

-- At the end of the row.
module _ (i : Interval) (d : ℕ → Bool) (divisor : ℕ) where
  pub check_end_divisor : divisor ≢ 0 → check_from i d [] divisor ≡ Contradiction
  unfolding check_from
  check_end_divisor h = simp (ne_eqb divisor 0 h)

  pub check_end_misses : divisor ≡ 0 → misses i.known i.lower (min i.possible i.upper) 0 ≡ true → check_from i d [] divisor ≡ Contradiction
  unfolding check_from
  check_end_misses h k = simp (eq-eqb divisor 0 h, k)

  pub check_end_hits : divisor ≡ 0 → misses i.known i.lower (min i.possible i.upper) 0 ≡ false → check_from i d [] divisor ≡ Unchanged
  unfolding check_from
  check_end_hits h k = simp (eq-eqb divisor 0 h, k)

-- What the check answers before it looks at the terms, and that it looks at them else.
module _ (ts : List Term) (s : State) (d : ℕ → Bool) where
  pub check-unit : has_nonunit ts ≡ false → residual_check ts s d ≡ Unchanged
  unfolding residual_check
  check-unit h = simp h

  module _ (h : has_nonunit ts ≡ true) where
    pub check_wide : has_residual_interval s ≡ false → residual_check ts s d ≡ Unchanged
    unfolding residual_check
    check_wide k = simp (h, k)

    module _ (k : has_residual_interval s ≡ true) where
      pub check-reached : upper_at_most s.upper (reached s) ≡ true → residual_check ts s d ≡ Contradiction
      unfolding residual_check
      check-reached u = simp (h, k, u)

      module _ (u : upper_at_most s.upper (reached s) ≡ false) where
        pub check_short : lt_z s.possible (reached s) ≡ true → residual_check ts s d ≡ Contradiction
        unfolding residual_check
        check_short p = simp (h, k, u, p)

        pub check-terms : lt_z s.possible (reached s) ≡ false → residual_check ts s d ≡ check_from (interval s) d (reverse ts) 0
        unfolding residual_check
        check-terms p = simp (h, k, u, p)
