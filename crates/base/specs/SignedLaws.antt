-- Signed numbers: their order as the tests `le_z` and `lt_z` tell it, the larger of two, and sums and differences that fit 64 bits.
-- A range is a bound on `mag z`, which is n same_bool for n and for -(n + 1). Assumes nothing.
use Rattle.std.specs.Prelude.{ℕ, zero, suc, ◌+◌, ◌-◌, ◌≤◌, ◌<◌, ◌^◌, ◌≡◌, refl, Bool, true, false, cond, not, leb, ltb, T, ℤ, pos, negsuc, nat_abs, neg_ℤ, ◌+ℤ◌, ◌-ℤ◌}
use Rattle.std.proofs.Common.{le_refl, le_antisymm, arith, sym, ap, ap₂, ◌∙◌, leb-true, leb-false, ltb-true, le-leb, lt-ltb, le-ltb, SFits, Fits}
use Rattle.std.proofs.Math.IntN.{sub_ℕ, +ℤ_assoc, +ℤ_comm, +ℤ-neg_ℤ_cancel, -ℤ-+ℤ_cancel}
use Rattle.std.specs.Int.Signed.{mag, non_neg, le_z, lt_z}
use Rattle.std.proofs.lemmas.Bool.{not-true, not-false}
use Rattle.std.specs.Int.{w64}
use Rattle.base.specs.TestLaws.{same_bool, unequal}
use Rattle.base.specs.Signed.{max_z, natural}

-- ---- the order

apart : {A : Type 0} → true ≡ false → A
apart h = absurd (unequal cc)

pub le_z_refl : (a : ℤ) → le_z a a ≡ true
le_z_refl (pos a) = le-leb a a (le_refl a)
le_z_refl (negsuc a) = le-leb a a (le_refl a)

-- Of two numbers one is at most the other, or above it, and never same_bool.
ltb-not : (a b : ℕ) → ltb a b ≡ not (leb b a)
ltb-not a b = by (leb b a) refl
  where
    by : (t : Bool) → leb b a ≡ t → ltb a b ≡ not t
    by true e = le-ltb a b (leb-true b a e)
    by false e = lt-ltb a b (leb-false b a e)

pub lt_z-not : (a b : ℤ) → lt_z a b ≡ not (le_z b a)
lt_z-not (pos a) (pos b) = ltb-not a b
lt_z-not (pos a) (negsuc b) = refl
lt_z-not (negsuc a) (pos b) = refl
lt_z-not (negsuc a) (negsuc b) = ltb-not b a

pub le_z-nlt : (a b : ℤ) → le_z b a ≡ true → lt_z a b ≡ false
le_z-nlt a b h = lt_z-not a b ∙ ap not h

pub nle-lt_z : (a b : ℤ) → le_z b a ≡ false → lt_z a b ≡ true
nle-lt_z a b h = lt_z-not a b ∙ ap not h

pub lt_z-nle : (a b : ℤ) → lt_z a b ≡ true → le_z b a ≡ false
lt_z-nle a b h = not-true (le_z b a) (sym (lt_z-not a b) ∙ h)

pub nlt-le_z : (a b : ℤ) → lt_z a b ≡ false → le_z b a ≡ true
nlt-le_z a b h = not-false (le_z b a) (sym (lt_z-not a b) ∙ h)

pub le_z_trans : (a b c : ℤ) → le_z a b ≡ true → le_z b c ≡ true → le_z a c ≡ true
le_z_trans (pos a) (pos b) (pos c) h k = le-leb a c (omega (arith, leb-true a b h, leb-true b c k))
le_z_trans (pos a) (pos b) (negsuc c) h k = k
le_z_trans (pos a) (negsuc b) c h k = apart (sym h)
le_z_trans (negsuc a) b (pos c) h k = refl
le_z_trans (negsuc a) (pos b) (negsuc c) h k = apart (sym k)
le_z_trans (negsuc a) (negsuc b) (negsuc c) h k = le-leb c a (omega (arith, leb-true b a h, leb-true c b k))

pub lt_z_weaken : (a b : ℤ) → lt_z a b ≡ true → le_z a b ≡ true
lt_z_weaken (pos a) (pos b) h = le-leb a b (omega (arith, ltb-true a b h))
lt_z_weaken (pos a) (negsuc b) h = h
lt_z_weaken (negsuc a) (pos b) h = refl
lt_z_weaken (negsuc a) (negsuc b) h = le-leb b a (omega (arith, ltb-true b a h))

-- If c were at most a, then c were at most b.
pub lt_z-le_z : (a b c : ℤ) → lt_z a b ≡ true → le_z b c ≡ true → lt_z a c ≡ true
lt_z-le_z a b c h k = by (le_z c a) refl
  where
    by : (t : Bool) → le_z c a ≡ t → lt_z a c ≡ true
    by true e = apart (sym (le_z_trans b c a k e) ∙ lt_z-nle a b h)
    by false e = nle-lt_z a c e

pub le_z-lt_z : (a b c : ℤ) → le_z a b ≡ true → lt_z b c ≡ true → lt_z a c ≡ true
le_z-lt_z a b c h k = by (le_z c a) refl
  where
    by : (t : Bool) → le_z c a ≡ t → lt_z a c ≡ true
    by true e = apart (sym (le_z_trans c a b e h) ∙ lt_z-nle b c k)
    by false e = nle-lt_z a c e

pub lt_z_trans : (a b c : ℤ) → lt_z a b ≡ true → lt_z b c ≡ true → lt_z a c ≡ true
lt_z_trans a b c h k = lt_z-le_z a b c h (lt_z_weaken b c k)

pub le_z_antisymm : (a b : ℤ) → le_z a b ≡ true → le_z b a ≡ true → a ≡ b
le_z_antisymm (pos a) (pos b) h k = ap pos (le_antisymm (leb-true a b h) (leb-true b a k))
le_z_antisymm (pos a) (negsuc b) h k = apart (sym h)
le_z_antisymm (negsuc a) (pos b) h k = apart (sym k)
le_z_antisymm (negsuc a) (negsuc b) h k = ap negsuc (le_antisymm (leb-true a b k) (leb-true b a h))

-- ---- natural numbers among them

pub le_z-pos : (a b : ℕ) → le_z (pos a) (pos b) ≡ leb a b
le_z-pos a b = refl

pub lt_z-pos : (a b : ℕ) → lt_z (pos a) (pos b) ≡ ltb a b
lt_z-pos a b = refl

pub natural-pos : (z : ℤ) → le_z (pos 0) z ≡ true → pos (natural z) ≡ z
natural-pos (pos n) h = refl
natural-pos (negsuc n) h = apart (sym h)

pub natural-below : (z : ℤ) → lt_z z (pos 0) ≡ true → 0 ≡ natural z
natural-below (pos n) h = omega (arith, ltb-true n 0 h)
natural-below (negsuc n) h = refl

pub natural_cast : (z : ℤ) → lt_z z (pos 0) ≡ false → SFits w64 z → T (non_neg z) × Fits w64 (nat_abs z)
natural_cast (pos n) h f = (tt, record { fits = omega (arith, f.sfits) })
natural_cast (negsuc n) h f = apart h

pub natural_same : (z : ℤ) → lt_z z (pos 0) ≡ false → nat_abs z ≡ natural z
natural_same (pos n) h = refl
natural_same (negsuc n) h = apart h

-- ---- the larger of two

pub max-left : (a b : ℤ) → le_z a (max_z a b) ≡ true
max-left a b = by (lt_z a b) refl
  where
    by : (t : Bool) → lt_z a b ≡ t → le_z a (cond t b a) ≡ true
    by true e = lt_z_weaken a b e
    by false e = le_z_refl a

pub max_right : (a b : ℤ) → le_z b (max_z a b) ≡ true
max_right a b = by (lt_z a b) refl
  where
    by : (t : Bool) → lt_z a b ≡ t → le_z b (cond t b a) ≡ true
    by true e = le_z_refl b
    by false e = nlt-le_z a b e

pub max_least : (a b c : ℤ) → le_z a c ≡ true → le_z b c ≡ true → le_z (max_z a b) c ≡ true
max_least a b c h k = by (lt_z a b)
  where
    by : (t : Bool) → le_z (cond t b a) c ≡ true
    by true = k
    by false = h

-- ---- sums and differences: how large they are

mag_sub : (a b : ℕ) (t : Bool) → ltb a b ≡ t → mag (sub_ℕ a b) ≤ a + b
mag_sub a b true h = rw h (omega arith)
mag_sub a b false h = rw h (omega arith)

pub mag_add : (a b : ℤ) → mag (a +ℤ b) ≤ suc (mag a + mag b)
mag_add (pos a) (pos b) = omega arith
mag_add (pos a) (negsuc b) = omega (arith, mag_sub a (suc b) (ltb a (suc b)) refl)
mag_add (negsuc a) (pos b) = omega (arith, mag_sub b (suc a) (ltb b (suc a)) refl)
mag_add (negsuc a) (negsuc b) = omega arith

mag_neg : (n : ℕ) → mag (neg_ℤ (pos n)) ≤ n
mag_neg zero = omega arith
mag_neg (suc n) = omega arith

pub mag_minus : (a b : ℤ) → mag (a -ℤ b) ≤ suc (suc (mag a + mag b))
mag_minus a (pos b) = omega (arith, mag_add a (neg_ℤ (pos b)), mag_neg b)
mag_minus a (negsuc b) = omega (arith, mag_add a (pos (suc b)))

pub add_sfits : (a b : ℤ) → mag a + mag b < 2 ^ 63 - 1 → SFits w64 (a +ℤ b)
add_sfits a b h = record { sfits = omega (arith, mag_add a b) }

pub sub_sfits : (a b : ℤ) → mag a + mag b < 2 ^ 63 - 2 → SFits w64 (a -ℤ b)
sub_sfits a b h = record { sfits = omega (arith, mag_minus a b) }

pub pos_sfits : (n : ℕ) → n < 2 ^ 63 → SFits w64 (pos n)
pos_sfits n h = record { sfits = h }

-- ---- and where they stand

sub-pos : (a b : ℕ) → b ≤ a → sub_ℕ a b ≡ pos (a - b)
sub-pos a b h = rw (le-ltb a b h)

sub-neg : (a b : ℕ) → a < b → sub_ℕ a b ≡ negsuc (b - suc a)
sub-neg a b h = rw (lt-ltb a b h)

pub pos_minus : (a b : ℕ) → b ≤ a → pos a -ℤ pos b ≡ pos (a - b)
pos_minus a zero h = ap pos (omega arith)
pos_minus a (suc b) h = sub-pos a (suc b) h

-- A difference of natural numbers, cut at 0.
pub natural_minus : (a b : ℕ) → natural (pos a -ℤ pos b) ≡ a - b
natural_minus a zero = omega arith
natural_minus a (suc b) = by (ltb a (suc b)) refl
  where
    by : (t : Bool) → ltb a (suc b) ≡ t → natural (sub_ℕ a (suc b)) ≡ a - suc b
    by true e = rw e (omega (arith, ltb-true a (suc b) e))
    by false e = rw e

up : (a n : ℕ) → le_z (negsuc a) (sub_ℕ n (suc a)) ≡ true
up a n = by (ltb n (suc a)) refl
  where
    by : (t : Bool) → ltb n (suc a) ≡ t → le_z (negsuc a) (cond t (negsuc (suc a - suc n)) (pos (n - suc a))) ≡ true
    by true e = le-leb (suc a - suc n) a (omega arith)
    by false e = refl

pub add_up : (a : ℤ) (n : ℕ) → le_z a (a +ℤ pos n) ≡ true
add_up (pos a) n = le-leb a (a + n) (omega arith)
add_up (negsuc a) n = up a n

-- What lies between a number and one that is not below it.
pub gap : (a b : ℤ) → le_z a b ≡ true → (n : ℕ) × (b ≡ a +ℤ pos n)
gap (pos a) (pos b) h = (b - a, ap pos (omega (arith, leb-true a b h)))
gap (pos a) (negsuc b) h = apart (sym h)
gap (negsuc a) (pos b) h = (suc (a + b), sym (sub-pos (suc (a + b)) (suc a) (omega arith) ∙ ap pos (omega arith)))
gap (negsuc a) (negsuc b) h =
    let k = leb-true b a h in
    (a - b, sym (sub-neg (a - b) (suc a) (omega arith) ∙ ap negsuc (omega arith)))

-- The same added to same_bool, or taken from same_bool, changes no test.
add_mono : (a b c : ℤ) → le_z a b ≡ true → le_z (a +ℤ c) (b +ℤ c) ≡ true
add_mono a b c h = by (gap a b h)
  where
    by : (n : ℕ) × (b ≡ a +ℤ pos n) → le_z (a +ℤ c) (b +ℤ c) ≡ true
    by (n, e) =
        ap (le_z (a +ℤ c))
        (ap (λ (z : ℤ). z +ℤ c) e ∙ +ℤ_assoc a (pos n) c ∙ ap (λ (z : ℤ). a +ℤ z) (+ℤ_comm (pos n) c) ∙ sym (+ℤ_assoc a c (pos n)))
        ∙ add_up (a +ℤ c) n

pub le_z-add : (a b c : ℤ) → le_z (a +ℤ c) (b +ℤ c) ≡ le_z a b
le_z-add a b c =
    same_bool (le_z (a +ℤ c) (b +ℤ c)) (le_z a b)
    (λ h. ap₂ le_z (sym (+ℤ-neg_ℤ_cancel a c)) (sym (+ℤ-neg_ℤ_cancel b c)) ∙ add_mono (a +ℤ c) (b +ℤ c) (neg_ℤ c) h)
    (add_mono a b c)

pub lt_z-add : (a b c : ℤ) → lt_z (a +ℤ c) (b +ℤ c) ≡ lt_z a b
lt_z-add a b c = lt_z-not (a +ℤ c) (b +ℤ c) ∙ ap not (le_z-add b a c) ∙ sym (lt_z-not a b)

pub le_z-sub : (a b c : ℤ) → le_z (a -ℤ c) (b -ℤ c) ≡ le_z a b
le_z-sub a b c = le_z-add a b (neg_ℤ c)

pub lt_z-sub : (a b c : ℤ) → lt_z (a -ℤ c) (b -ℤ c) ≡ lt_z a b
lt_z-sub a b c = lt_z-add a b (neg_ℤ c)

-- What is taken away on one side is added on the other.
pub le_z_minus : (a b c : ℤ) → le_z a (b -ℤ c) ≡ le_z (a +ℤ c) b
le_z_minus a b c = sym (le_z-add a (b -ℤ c) c) ∙ ap (le_z (a +ℤ c)) (-ℤ-+ℤ_cancel b c)

pub lt_z_minus : (a b c : ℤ) → lt_z a (b -ℤ c) ≡ lt_z (a +ℤ c) b
lt_z_minus a b c = sym (lt_z-add a (b -ℤ c) c) ∙ ap (lt_z (a +ℤ c)) (-ℤ-+ℤ_cancel b c)

pub minus_down : (a : ℤ) (n : ℕ) → le_z (a -ℤ pos n) a ≡ true
minus_down a n = ap (le_z (a -ℤ pos n)) (sym (-ℤ-+ℤ_cancel a (pos n))) ∙ add_up (a -ℤ pos n) n
