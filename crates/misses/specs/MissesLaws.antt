-- misses and branch_misses are exact: they are true exactly if no number of the lattice lies in the window.
use Rattle.std.specs.Prelude.{ℕ, zero, suc, ◌+◌, ◌-◌, ◌*◌, ◌/◌, ◌%◌, ◌<◌, ◌≤◌, min, max, ◌≡◌, refl, Bool, true, false, ◌||◌, ◌↔◌, ◌≢◌, ltb}
use Rattle.std.specs.Int.{◌∣◌}
use Rattle.std.proofs.Common.{mod-lt, suc-mul, mul-zero, zero-mul, lt_of_not-le, lt_of_mul-lt-mul_right, mul-le-mul_right, div-add-mod', arith, sym, ap, ◌∙◌, lt-ltb, le-ltb, ltb-true, ltb-false, eq-eqb, ne_eqb}
use Rattle.std.proofs.Math.Nat.{mod-eq-zero_of_dvd}
use Rattle.std.proofs.Math.Decide.{dec_lt}
use Rattle.base.specs.TestLaws.{unequal}
use Rattle.misses.specs.Misses.{distance, misses, branch_misses}

pub clash : true ≡ false → ⊥
clash q = unequal cc

pub unless : (b : Bool) → (b ≡ false → ⊥) → b ≡ true
unless true n = refl
unless false n = absurd (n refl)

-- A branch whose cut window is empty, and one whose window is not.
pub branch_empty : (base maximum lower upper divisor : ℕ) → min maximum upper < max base lower
    → branch_misses base maximum lower upper divisor ≡ true
unfolding branch_misses
branch_empty base maximum lower upper divisor h = simp (lt-ltb (min maximum upper) (max base lower) h)

pub branch_open : (base maximum lower upper divisor : ℕ) → max base lower ≤ min maximum upper
    → branch_misses base maximum lower upper divisor ≡ misses base (max base lower) (min maximum upper) divisor
unfolding branch_misses
branch_open base maximum lower upper divisor h = simp (le-ltb (min maximum upper) (max base lower) h)

-- The distance leads to the least multiple that is not below the offset.
module _ (o d : ℕ) (h : 0 < d) where
  far : o % d ≢ 0 → distance o d ≡ d - o % d
  far n = simp (ne_eqb (o % d) 0 n)

  reaches : (k : ℕ) × (o + distance o d ≡ k * d)
  reaches = by (o % d) refl
    where
      by : (r : ℕ) → o % d ≡ r → (k : ℕ) × (o + distance o d ≡ k * d)
      by zero e = (o / d, rw e (omega (arith, div-add-mod' o d)))
      by (suc r) e = (suc (o / d), rw (far (λ (z : o % d ≡ 0). omega arith), suc-mul) (omega (arith, div-add-mod' o d, mod-lt o h)))

  least : (k : ℕ) → o ≤ k * d → o + distance o d ≤ k * d
  least k g = by (o % d) refl
    where
      by : (r : ℕ) → o % d ≡ r → o + distance o d ≤ k * d
      by zero e = rw e (omega arith)
      by (suc r) e =
          let l : o / d < k = lt_of_mul-lt-mul_right d (omega (arith, div-add-mod' o d)) in
          let f = far (λ (z : o % d ≡ 0). omega arith) in
          rw f (omega (arith, div-add-mod' o d, mod-lt o h, suc-mul (o / d) d, mul-le-mul_right {m = suc (o / d)} {n = k} d l))

-- A number base + k * divisor lies from lower to upper.
abbrev pub Lands : ℕ → ℕ → ℕ → ℕ → Type 0
Lands base lower upper divisor = (k : ℕ) × ((lower ≤ base + k * divisor) × (base + k * divisor ≤ upper))

module _ (base lower upper divisor : ℕ) (b : base ≤ lower) (l : lower ≤ upper) where
  misses-zero : divisor ≡ 0 → misses base lower upper divisor ≡ (ltb base lower || ltb upper base)
  unfolding misses
  misses-zero e = simp (eq-eqb divisor 0 e)

  misses_more : 0 < divisor → misses base lower upper divisor ≡ ltb (upper - lower) (distance (lower - base) divisor)
  unfolding misses
  misses_more h = simp (ne_eqb divisor 0 (λ (e : divisor ≡ 0). omega arith))

  pub misses-none : misses base lower upper divisor ≡ true → Lands base lower upper divisor → ⊥
  misses-none m (k, (f, t)) = by divisor refl
    where
      by : (d : ℕ) → divisor ≡ d → ⊥
      by zero e =
          let z : k * divisor ≡ 0 = ap (λ (x : ℕ). k * x) e ∙ mul-zero k in
          let n = le-ltb base lower (omega arith) in
          let u = le-ltb upper base (omega arith) in
          clash (sym m ∙ misses-zero e ∙ simp (n, u))
      by (suc d) e =
          let p : 0 < divisor = omega arith in
          let n = ltb-true (upper - lower) (distance (lower - base) divisor) (sym (misses_more p) ∙ m) in
          omega (arith, least (lower - base) divisor p k (omega arith))

  pub misses_some : misses base lower upper divisor ≡ false → Lands base lower upper divisor
  misses_some m = by divisor refl
    where
      near : Dec (base < lower) → (ltb base lower || ltb upper base) ≡ false → lower ≤ base
      near (no h) q = omega (arith, lt_of_not-le (λ (x : suc base ≤ lower). h x))
      near (yes h) q = let x = lt-ltb base lower h in absurd (clash (rw x at q))

      by : (d : ℕ) → divisor ≡ d → Lands base lower upper divisor
      by zero e =
          let q = sym (misses-zero e) ∙ m in
          (0, (omega (arith, zero-mul divisor, near (dec_lt base lower) q), omega (arith, zero-mul divisor)))
      by (suc d) e =
          let p : 0 < divisor = omega arith in
          let n = ltb-false (upper - lower) (distance (lower - base) divisor) (sym (misses_more p) ∙ m) in
          let r = reaches (lower - base) divisor p in
          (r.0, (omega (arith, r.1), omega (arith, r.1)))

  pub misses_exact : (misses base lower upper divisor ≡ true) ↔ (Lands base lower upper divisor → ⊥)
  misses_exact = (misses-none, λ n. unless (misses base lower upper divisor) (λ e. n (misses_some e)))

-- A multiple x of the divisor, added to the base, is not in a window that is missed.
pub multiple_of : (d x : ℕ) → d ∣ x → x ≡ x / d * d
multiple_of d x h = omega (arith, div-add-mod' x d, mod-eq-zero_of_dvd d h)

pub misses-sum : (base lower upper divisor x : ℕ) → base ≤ lower → lower ≤ upper → misses base lower upper divisor ≡ true → divisor ∣ x
    → lower ≤ base + x → base + x ≤ upper → ⊥
misses-sum base lower upper divisor x b l m h f t =
    let e = multiple_of divisor x h in
    misses-none base lower upper divisor b l m (x / divisor, (omega arith, omega arith))

-- The same for the sums from base to maximum.
abbrev pub BranchLands : ℕ → ℕ → ℕ → ℕ → ℕ → Type 0
BranchLands base maximum lower upper divisor = (k : ℕ) × ((lower ≤ base + k * divisor) × (base + k * divisor ≤ upper) × (base + k * divisor ≤ maximum))

module _ (base maximum lower upper divisor : ℕ) where
  pub branch_none : branch_misses base maximum lower upper divisor ≡ true → BranchLands base maximum lower upper divisor → ⊥
  branch_none m (k, (f, t, u)) =
      let o : max base lower ≤ min maximum upper = omega arith in
      misses-none base (max base lower) (min maximum upper) divisor (omega arith) o
      (sym (branch_open base maximum lower upper divisor o) ∙ m) (k, (omega arith, omega arith))

  pub branch_some : branch_misses base maximum lower upper divisor ≡ false → BranchLands base maximum lower upper divisor
  branch_some m = by (dec_lt (min maximum upper) (max base lower))
    where
      by : Dec (min maximum upper < max base lower) → BranchLands base maximum lower upper divisor
      by (yes h) =
          absurd (clash (sym (branch_empty base maximum lower upper divisor h) ∙ m))
      by (no h) =
          let o : max base lower ≤ min maximum upper = omega (arith, lt_of_not-le (λ (x : suc (min maximum upper) ≤ max base lower). h x)) in
          let r = misses_some base (max base lower) (min maximum upper) divisor (omega arith) o
          (sym (branch_open base maximum lower upper divisor o) ∙ m) in
          (r.0, (omega (arith, r.1), omega (arith, r.1), omega (arith, r.1)))

  pub branch_exact : (branch_misses base maximum lower upper divisor ≡ true) ↔ (BranchLands base maximum lower upper divisor → ⊥)
  branch_exact = (branch_none, λ n. unless (branch_misses base maximum lower upper divisor) (λ e. n (branch_some e)))

  pub branch_sum : (x : ℕ) → branch_misses base maximum lower upper divisor ≡ true → divisor ∣ x
      → lower ≤ base + x → base + x ≤ upper → base + x ≤ maximum → ⊥
  branch_sum x m h f t u =
      let e = multiple_of divisor x h in
      branch_none m (x / divisor, (omega arith, omega arith, omega arith))
