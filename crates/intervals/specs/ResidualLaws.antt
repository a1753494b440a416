-- What a residual shows holds of every choice of the undecided weights: a contradiction is given only if no sum is allowed,
-- and a term is forced only if every allowed sum has it so.
use Prim.Native.Nat.{ℕ, ◌+◌, ◌-◌, ◌≤◌, ◌∣◌, min}
use Rattle.std.proofs.Math.Nat.{dvd-zero, dvd-add, dvd_trans}
use Rattle.std.proofs.Math.Decide.{ℕ_discrete}
use native.Mathlib.Omega.{arith}
use Rattle.std.specs.Prelude.{◌≡◌, Bool, ◌&&◌, ◌||◌, not, ◌≢◌, List, [], ◌∷◌, reverse, eqb, leb, ℤ, pos, Option, None, Some}
use Rattle.std.proofs.Math.Path.{refl}
use Rattle.std.proofs.Common.{sym, ap, ◌∙◌, subst, ne_eqb, le-leb}
use Rattle.std.proofs.Math.Bool.{true, false}
use Rattle.std.specs.Int.Signed.{le_z, lt_z}
use Rattle.base.specs.TestLaws.{and_right}
use Rattle.base.specs.SignedLaws.{le_z_trans, lt_z-nle, max_least}
use Rattle.base.specs.Signed.{natural}
use Rattle.numeric.specs.Threshold.{Term}
use Rattle.state.specs.declared.Step.TheVariants.{Unchanged, Contradiction}
use Rattle.state.specs.declared.State.{State}
use Rattle.state.specs.Step.{contradicts}
use Rattle.state.specs.State.{limit, reached, upper_at_most, has_residual_interval}
use Rattle.rows.specs.Rows.{has_nonunit}
use Rattle.intervals.specs.declared.Interval.{Interval}
use Rattle.divisors.specs.Gcd.{gcd}
use Rattle.misses.specs.Misses.{misses}
use Rattle.divisors.specs.GcdLaws.{chosen, gcd-left, gcd_right}
use Rattle.misses.specs.MissesLaws.{clash, misses-sum, branch_sum}
use Rattle.intervals.specs.Residual.{interval, stops_at, check_from, residual_check, off_misses, on_misses}
use Rattle.intervals.specs.Shape.{Window}
use Rattle.intervals.specs.IntervalLaws.{natural_mono, natural_last, limit_above, window}
use Rattle.intervals.specs.CheckLaws.{check_skip, check_stop, check_more, check-unit, check_wide, check-terms, check_end_hits}
use Rattle.intervals.specs.SumsLaws.{
  open_weights,
  sum,
  Divides,
  open_skip,
  open_more,
  chosen_none,
  chosen-le,
  divides_chosen,
  open_reverse,
  chosen-reverse,
}

pub unchanged_not : {A : Type 0} → Unchanged ≡ Contradiction → A
unchanged_not e = absurd (clash (sym (ap contradicts e)))

-- ---- the whole row

-- A test that does not stop leaves the divisor as it was, or one that misses.
stays : (i : Interval) (divisor weight next : ℕ) → stops_at i divisor weight next ≡ false
    → (divisor ≢ 0 → misses i.known i.lower (min i.possible i.upper) divisor ≡ true)
    → next ≢ 0 → misses i.known i.lower (min i.possible i.upper) next ≡ true
stays i divisor weight next s h n = by (ℕ_discrete next divisor) (misses i.known i.lower (min i.possible i.upper) next) refl
  where
    test : (a b c : Bool) → ((a || b) || c) ≡ false → c ≡ false
    test true b c q = absurd (clash q)
    test false true c q = absurd (clash q)
    test false false c q = q

    by : Dec (next ≡ divisor) → (m : Bool) → misses i.known i.lower (min i.possible i.upper) next ≡ m
        → misses i.known i.lower (min i.possible i.upper) next ≡ true
    by (yes e) m q = subst (λ (k : ℕ). misses i.known i.lower (min i.possible i.upper) k ≡ true) (sym e) (h (λ (z : divisor ≡ 0). n (e ∙ z)))
    by (no e) true q = q
    by (no e) false q =
        let l = test (eqb divisor 0 && leb weight i.width) (eqb next 1)
        (not (eqb next divisor) && not (misses i.known i.lower (min i.possible i.upper) next)) s in
        let f = ne_eqb next divisor e in
        absurd (clash (rw (f, q) at l))

module _ (i : Interval) (w : Window i) (d : ℕ → Bool) where
  -- No choice of these terms lands, behind any sum x of weights that were read: the divisor divides it.
  abbrev NoneLands : List Term → Type 0
  NoneLands ts = (divisor x : ℕ)
      → (divisor ≢ 0 → misses i.known i.lower (min i.possible i.upper) divisor ≡ true) → divisor ∣ x
      → check_from i d ts divisor ≡ Contradiction → (cs : List Bool)
      → i.lower ≤ i.known + (x + chosen cs (open_weights d ts)) → i.known + (x + chosen cs (open_weights d ts)) ≤ min i.possible i.upper → ⊥

  at-end : NoneLands []
  unfolding open_weights
  at-end divisor x h v e cs f t =
      let z = chosen_none cs in
      by (ℕ_discrete divisor 0) (misses i.known i.lower (min i.possible i.upper) 0) refl
      (let g : i.lower ≤ i.known + x = omega arith in g) (let g : i.known + x ≤ min i.possible i.upper = omega arith in g)
    where
      by : Dec (divisor ≡ 0) → (m : Bool) → misses i.known i.lower (min i.possible i.upper) 0 ≡ m
          → i.lower ≤ i.known + x → i.known + x ≤ min i.possible i.upper → ⊥
      by (yes z) true q a b =
          misses-sum i.known i.lower (min i.possible i.upper) 0 x w.above w.inside q (subst (λ (k : ℕ). k ∣ x) z v) a b
      by (yes z) false q a b = unchanged_not (sym (check_end_hits i d divisor z q) ∙ e)
      by (no n) m q a b = misses-sum i.known i.lower (min i.possible i.upper) divisor x w.above w.inside (h n) v a b

  at_turn : (u : Term) (ts : List Term) → NoneLands ts → NoneLands (u ∷ ts)
  unfolding chosen
  at_turn u ts ih divisor x h v e cs f t = by (d u.condition) refl
    where
      next : ℕ
      next = gcd divisor u.weight

      under : next ∣ x
      under = dvd_trans next (gcd-left divisor u.weight) v

      goes_on_lem : (bs : List Bool) → d u.condition ≡ false → stops_at i divisor u.weight next ≡ false
          → i.lower ≤ i.known + (x + chosen bs (u.weight ∷ open_weights d ts))
          → i.known + (x + chosen bs (u.weight ∷ open_weights d ts)) ≤ min i.possible i.upper → ⊥
      goes_on_lem [] k s a b =
          ih next x (stays i divisor u.weight next s h) under (sym (check_more i d u ts divisor k s) ∙ e) [] a b
      goes_on_lem (true ∷ bs) k s a b =
          ih next (x + u.weight) (stays i divisor u.weight next s h) (dvd-add next under (gcd_right divisor u.weight))
          (sym (check_more i d u ts divisor k s) ∙ e) bs (omega arith) (omega arith)
      goes_on_lem (false ∷ bs) k s a b =
          ih next x (stays i divisor u.weight next s h) under (sym (check_more i d u ts divisor k s) ∙ e) bs a b

      tried : d u.condition ≡ false → (s : Bool) → stops_at i divisor u.weight next ≡ s → ⊥
      tried k true q = unchanged_not (sym (check_stop i d u ts divisor k q) ∙ e)
      tried k false q =
          goes_on_lem cs k q (subst (λ (l : List ℕ). i.lower ≤ i.known + (x + chosen cs l)) (open_more d u ts k) f)
          (subst (λ (l : List ℕ). i.known + (x + chosen cs l) ≤ min i.possible i.upper) (open_more d u ts k) t)

      by : (b : Bool) → d u.condition ≡ b → ⊥
      by true k =
          ih divisor x h v (sym (check_skip i d u ts divisor k) ∙ e) cs (subst (λ (l : List ℕ). i.lower ≤ i.known + (x + chosen cs l)) (open_skip d u ts k) f)
          (subst (λ (l : List ℕ). i.known + (x + chosen cs l) ≤ min i.possible i.upper) (open_skip d u ts k) t)
      by false k = tried k (stops_at i divisor u.weight next) refl

  none-lands : (ts : List Term) → NoneLands ts
  none-lands [] = at-end
  none-lands (u ∷ ts) = at_turn u ts (none-lands ts)

  -- The check of all terms contradicts only if no choice of the undecided weights lands.
  pub check_sound : (ts : List Term) → check_from i d (reverse ts) 0 ≡ Contradiction → (cs : List Bool)
      → i.lower ≤ i.known + chosen cs (open_weights d ts) → i.known + chosen cs (open_weights d ts) ≤ i.possible
      → i.known + chosen cs (open_weights d ts) ≤ i.upper → ⊥
  check_sound ts e cs f p u =
      let r = chosen-reverse cs (open_weights d ts) in
      let q : chosen r.0 (open_weights d (reverse ts)) ≡ chosen cs (open_weights d ts) = ap (chosen r.0) (open_reverse d ts) ∙ r.1 in
      none-lands (reverse ts) 0 0 (λ n. absurd (n refl)) (dvd-zero 0) e r.0 (omega arith) (omega arith)

-- The same of a row's state: a drained sum of known and chosen weights, not above possible, is below lower or not below upper.
pub residual-check_sound : (ts : List Term) (s : State) (d : ℕ → Bool) → residual_check ts s d ≡ Contradiction → (k : ℕ) → s.known ≡ pos k → (cs : List Bool)
    → le_z (pos (k + chosen cs (open_weights d ts))) s.possible ≡ true → le_z s.lower (pos (k + chosen cs (open_weights d ts))) ≡ true
    → upper_at_most s.upper (pos (k + chosen cs (open_weights d ts))) ≡ false → ⊥
unfolding has_residual_interval
residual-check_sound ts s d e k q cs p l u = units (has_nonunit ts) refl
  where
    σ : ℤ
    σ = pos (k + chosen cs (open_weights d ts))

    at_least : le_z (reached s) σ ≡ true
    at_least = max_least s.known s.lower σ (ap (λ (z : ℤ). le_z z σ) q ∙ le-leb k (k + chosen cs (open_weights d ts)) (omega arith)) l

    above : (x : Option ℤ) → upper_at_most x (reached s) ≡ true → upper_at_most x σ ≡ false → ⊥
    above None a b = clash (sym a)
    above (Some x) a b = clash (sym (le_z_trans x (reached s) σ a at_least) ∙ b)

    inside : has_nonunit ts ≡ true → has_residual_interval s ≡ true → upper_at_most s.upper (reached s) ≡ false → lt_z s.possible (reached s) ≡ false → ⊥
    inside h r a b =
        let n : natural s.known ≡ k = ap natural q in
        let y = natural_mono s.lower σ l in
        let x = natural_mono σ s.possible p in
        let z = natural_last σ (limit s.upper) (limit_above s.upper s.possible σ (and_right (lt_z s.known s.lower) (upper_at_most s.upper s.possible) r) u) in
        check_sound (interval s) (window s r a b) d ts (sym (check-terms ts s d h r a b) ∙ e) cs (omega arith) (omega arith) (omega arith)

    bounds : has_nonunit ts ≡ true → has_residual_interval s ≡ true → (a : Bool) → upper_at_most s.upper (reached s) ≡ a
        → (b : Bool) → lt_z s.possible (reached s) ≡ b → ⊥
    bounds h r true a b c = above s.upper a u
    bounds h r false a true c = clash (sym (le_z_trans (reached s) σ s.possible at_least p) ∙ lt_z-nle s.possible (reached s) c)
    bounds h r false a false c = inside h r a c

    limits : has_nonunit ts ≡ true → (r : Bool) → has_residual_interval s ≡ r → ⊥
    limits h true r = bounds h r (upper_at_most s.upper (reached s)) refl (lt_z s.possible (reached s)) refl
    limits h false r = unchanged_not (sym (check_wide ts s d h r) ∙ e)

    units : (h : Bool) → has_nonunit ts ≡ h → ⊥
    units true h = limits h (has_residual_interval s) refl
    units false h = unchanged_not (sym (check-unit ts s d h) ∙ e)

-- ---- one term

-- The undecided weights are xs, this one, and ys; the divisor divides all the others.
module _ (i : Interval) (weight divisor : ℕ) (xs ys : List ℕ) (a : Divides divisor xs) (b : Divides divisor ys)
    (drained : i.possible ≡ i.known + (sum xs + weight + sum ys)) where
  -- Where leaving it out misses, every choice that lands takes it.
  pub off_sound : off_misses i weight divisor ≡ true → (cs es : List Bool)
      → i.lower ≤ i.known + (chosen cs xs + chosen es ys) → i.known + (chosen cs xs + chosen es ys) ≤ i.upper → ⊥
  off_sound m cs es f t =
      branch_sum i.known (i.possible - weight) i.lower i.upper divisor (chosen cs xs + chosen es ys) m
      (dvd-add divisor (divides_chosen divisor cs xs a) (divides_chosen divisor es ys b)) f t
      (omega (arith, chosen-le cs xs, chosen-le es ys))

  -- Where taking it misses, every choice that lands leaves it out.
  pub on_sound : on_misses i weight divisor ≡ true → (cs es : List Bool)
      → i.lower ≤ i.known + (chosen cs xs + weight + chosen es ys) → i.known + (chosen cs xs + weight + chosen es ys) ≤ i.upper → ⊥
  on_sound m cs es f t =
      branch_sum (i.known + weight) i.possible i.lower i.upper divisor (chosen cs xs + chosen es ys) m
      (dvd-add divisor (divides_chosen divisor cs xs a) (divides_chosen divisor es ys b)) (omega arith) (omega arith)
      (omega (arith, chosen-le cs xs, chosen-le es ys))
