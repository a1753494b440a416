-- Numbers in decimal: their digits written from the last one, and how many bytes they take. Assumes nothing.
use Rattle.std.specs.Prelude.{ℕ, zero, suc, ◌+◌, ◌-◌, ◌/◌, ◌%◌, ◌^◌, ◌<◌, ◌≤◌, ◌≡◌, refl, Bool, true, false, List, [], ◌∷◌, ◌++◌, length, get_or, drop, set, ltb, leb, T, ℤ, pos, negsuc, ◌-ℤ◌, nat_abs}
use Rattle.std.proofs.Common.{pow-suc, arith, sym, ap, ap₂, ◌∙◌, subst, length-set, drop_of_length-le, drop-cons, drop-set-lt, get_or-set_same, to_z, of_z, Fits, SFits, to_z-of_z, lt-ltb, le-ltb, ltb-true, leb-true, leb-false}
use Rattle.std.specs.Int.Signed.{lt_z, non_neg}
use Rattle.std.specs.Int.{w64}
use Rattle.base.specs.TestLaws.{unequal}
use Rattle.text.specs.Decimal.{digits, decimal, decimal_z}
use Rattle.text.specs.Numbers.{unit, four}

-- ---- digits

more : (k n : ℕ) (after : List ℕ) → 10 ≤ n → digits (suc k) n after ≡ digits k (n / 10) ((48 + n % 10) ∷ after)
unfolding digits
more k n after h = rw (le-ltb n 10 h, digits)

last : (k n : ℕ) (after : List ℕ) → n < 10 → digits (suc k) n after ≡ (48 + n) ∷ after
unfolding digits
last k n after h = rw (lt-ltb n 10 h, digits)

-- The digits of n from place first on; what is left, down to its last digit, stands there.
pub record Digits (n : ℕ) (l : List ℕ) (first rest : ℕ) : Type 0 where
  pub inside : first < 20
  pub long : length l ≡ 20
  pub small : rest < 10 ^ suc first
  pub here : get_or l first 0 ≡ 48 + rest % 10
  pub same : digits (suc first) rest (drop (suc first) l) ≡ decimal n

pub digits-first : (n : ℕ) (l : List ℕ) → length l ≡ 20 → n < 2 ^ 64 → Digits n (set l 19 (48 + n % 10)) 19 n
digits-first n l h k =
    let e = length-set l 19 (48 + n % 10) in record {
      inside = omega arith;
      long = e ∙ h;
      small = omega arith;
      here = get_or-set_same l 19 (48 + n % 10) 0 (omega arith);
      same = ap (digits 20 n) (drop_of_length-le (set l 19 (48 + n % 10)) {i = 20} (omega arith));
    }

next : (n : ℕ) (l : List ℕ) (k rest : ℕ) → Digits n l (suc k) rest → 10 ≤ rest → Digits n (set l k (48 + rest / 10 % 10)) k (rest / 10)
next n l k rest d h =
    let v = 48 + rest / 10 % 10 in
    let p = pow-suc 10 (suc k) in
    let s = d.small in
    let i = d.inside in
    let g = d.long in record {
      inside = omega arith;
      long = length-set l k v ∙ g;
      small = omega arith;
      here = get_or-set_same l k v 0 (omega arith);
      same =
          ap (digits (suc k) (rest / 10)) (drop-set-lt (suc k) l k v (omega arith) ∙ drop-cons l (suc k) 0 (omega arith) ∙ ap (λ (x : ℕ). x ∷ drop (suc (suc k)) l) d.here)
          ∙ sym (more (suc k) rest (drop (suc (suc k)) l) h) ∙ d.same;
    }

pub digits_next : (n : ℕ) (l : List ℕ) (first rest : ℕ) → Digits n l first rest → 10 ≤ rest → (1 ≤ first) × Digits n (set l (first - 1) (48 + rest / 10 % 10)) (first - 1) (rest / 10)
digits_next n l zero rest d h = absurd (let s = d.small in omega arith)
digits_next n l (suc k) rest d h = let e : suc k - 1 ≡ k = omega arith in (omega arith, rw e (next n l k rest d h))

pub digits_last : (n : ℕ) (l : List ℕ) (first rest : ℕ) → Digits n l first rest → rest < 10 → drop first l ≡ decimal n
digits_last n l first rest d h =
    let e : rest % 10 ≡ rest = omega arith in
    let i = d.inside in
    let g = d.long in
    drop-cons l first 0 (omega arith) ∙ ap (λ (x : ℕ). x ∷ drop (suc first) l) (d.here ∙ ap (λ (x : ℕ). 48 + x) e)
    ∙ sym (last first rest (drop (suc first) l) h) ∙ d.same

-- ---- short numbers, digit by digit

module _ (k n : ℕ) (after : List ℕ) where
  pub one-digit : n < 10 → digits (suc k) n after ≡ unit n ∷ after
  one-digit h =
      let e : n ≡ n % 10 = omega arith in
      last k n after h ∙ ap (λ (x : ℕ). (48 + x) ∷ after) e

pub two_digits : (k n : ℕ) (after : List ℕ) → 10 ≤ n → n < 100 → digits (suc (suc k)) n after ≡ unit (n / 10) ∷ unit n ∷ after
two_digits k n after l h = more (suc k) n after l ∙ one-digit k (n / 10) (unit n ∷ after) (omega arith)

pub three_digits : (k n : ℕ) (after : List ℕ) → 100 ≤ n → n < 1000 → digits (suc (suc (suc k))) n after ≡ unit (n / 100) ∷ unit (n / 10) ∷ unit n ∷ after
three_digits k n after l h =
    let e : n / 10 / 10 ≡ n / 100 = omega arith in
    more (suc (suc k)) n after (omega arith) ∙ two_digits k (n / 10) (unit n ∷ after) (omega arith) (omega arith)
    ∙ ap (λ (x : ℕ). unit x ∷ unit (n / 10) ∷ unit n ∷ after) e

pub four-digits : (k n : ℕ) (after : List ℕ) → 1000 ≤ n → n < 10000
    → digits (suc (suc (suc (suc k)))) n after ≡ unit (n / 100 / 10) ∷ unit (n / 100) ∷ unit (n / 10) ∷ unit n ∷ after
four-digits k n after l h =
    let e : n / 10 / 100 ≡ n / 100 / 10 = omega arith in
    let f : n / 10 / 10 ≡ n / 100 = omega arith in
    more (suc (suc (suc k))) n after (omega arith) ∙ three_digits k (n / 10) (unit n ∷ after) (omega arith) (omega arith)
    ∙ ap₂ (λ (x y : ℕ). unit x ∷ unit y ∷ unit (n / 10) ∷ unit n ∷ after) e f

-- Of a longer number the last four, behind the others.
front : (k n : ℕ) (after : List ℕ) → 10000 ≤ n
    → digits (suc (suc (suc (suc k)))) n after ≡ digits k (n / 10000) (unit (n / 100 / 10) ∷ unit (n / 100) ∷ unit (n / 10) ∷ unit n ∷ after)
front k n after l =
    let a : n / 10 / 10 ≡ n / 100 = omega arith in
    let b : n / 10 / 10 / 10 ≡ n / 100 / 10 = omega arith in
    let c : n / 10 / 10 / 10 / 10 ≡ n / 10000 = omega arith in
    more (suc (suc (suc k))) n after (omega arith) ∙ more (suc (suc k)) (n / 10) (unit n ∷ after) (omega arith)
    ∙ more (suc k) (n / 10 / 10) (unit (n / 10) ∷ unit n ∷ after) (omega arith)
    ∙ more k (n / 10 / 10 / 10) (unit (n / 10 / 10) ∷ unit (n / 10) ∷ unit n ∷ after) (omega arith)
    ∙ ap (λ (x : ℕ). digits k x (unit (n / 10 / 10 / 10) ∷ unit (n / 10 / 10) ∷ unit (n / 10) ∷ unit n ∷ after)) c
    ∙ ap₂ (λ (x y : ℕ). digits k (n / 10000) (unit x ∷ unit y ∷ unit (n / 10) ∷ unit n ∷ after)) b a

-- A short number is written the same whatever stands behind it.
behind : (k j m : ℕ) (after : List ℕ) → m < 10000 → digits (suc (suc (suc (suc k)))) m after ≡ digits (suc (suc (suc (suc j)))) m [] ++ after
behind k j m after h = by (leb 10 m) refl (leb 100 m) refl (leb 1000 m) refl
  where
    by : (a : Bool) → leb 10 m ≡ a → (b : Bool) → leb 100 m ≡ b → (c : Bool) → leb 1000 m ≡ c
        → digits (suc (suc (suc (suc k)))) m after ≡ digits (suc (suc (suc (suc j)))) m [] ++ after
    by false e b f c g =
        let l = leb-false 10 m e in
        one-digit (suc (suc (suc k))) m after (omega arith) ∙ ap (λ (t : List ℕ). t ++ after) (sym (one-digit (suc (suc (suc j))) m [] (omega arith)))
    by true e false f c g =
        let l = leb-true 10 m e in
        let u = leb-false 100 m f in
        two_digits (suc (suc k)) m after (omega arith) (omega arith) ∙ ap (λ (t : List ℕ). t ++ after) (sym (two_digits (suc (suc j)) m [] (omega arith) (omega arith)))
    by true e true f false g =
        let l = leb-true 100 m f in
        let u = leb-false 1000 m g in
        three_digits (suc k) m after (omega arith) (omega arith) ∙ ap (λ (t : List ℕ). t ++ after) (sym (three_digits (suc j) m [] (omega arith) (omega arith)))
    by true e true f true g =
        let l = leb-true 1000 m g in
        four-digits k m after (omega arith) h ∙ ap (λ (t : List ℕ). t ++ after) (sym (four-digits j m [] (omega arith) h))

pub in_two_parts : (n : ℕ) → 10000 ≤ n → n < 100000000 → decimal n ≡ decimal (n / 10000) ++ four n
in_two_parts n l h = front 16 n [] l ∙ behind 12 16 (n / 10000) (four n) (omega arith)

-- ---- how long

digits_short : (k n : ℕ) (after : List ℕ) → length (digits k n after) ≤ k + length after
unfolding digits
digits_short zero n after = omega arith
digits_short (suc k) n after = by (ltb n 10) (digits_short k (n / 10) ((48 + n % 10) ∷ after))
  where
    by : (b : Bool) → length (digits k (n / 10) ((48 + n % 10) ∷ after)) ≤ k + suc (length after)
        → let l : List ℕ = elim b [ true ↦ (48 + n) ∷ after | false ↦ digits k (n / 10) ((48 + n % 10) ∷ after) ] in length l ≤ suc k + length after
    by true h = omega arith
    by false h = omega arith

pub decimal_short : (n : ℕ) → length (decimal n) ≤ 20
decimal_short n = omega (arith, digits_short 20 n [])

-- ---- signed numbers

minus_one : (n : ℕ) → negsuc 0 -ℤ negsuc n ≡ pos n
minus_one n = rw (le-ltb (suc n) 1 (omega arith)) (ap pos {x = suc n - 1} {y = n} (omega arith))

-- A number as a local of the code holds it.
abbrev pub held : ℤ → ℤ
held z = to_z w64 (of_z w64 z)

-- What the size of a number below zero is found by: -1 less it fits, is not negative, and one more is its size.
pub record Below (z : ℤ) : Type 0 where
  pub fits : SFits w64 (negsuc 0 -ℤ held z)
  pub natural : T (non_neg (held (negsuc 0 -ℤ held z))) × Fits w64 (nat_abs (held (negsuc 0 -ℤ held z)))
  pub more : Fits w64 (nat_abs (held (negsuc 0 -ℤ held z)) + 1)
  pub size : nat_abs (held (negsuc 0 -ℤ held z)) + 1 ≡ nat_abs z

pub below-zero : (z : ℤ) → SFits w64 z → lt_z (held z) (pos 0) ≡ true → Below z
below-zero (pos n) f h = absurd (let q = ltb-true n 0 (ap (λ (y : ℤ). lt_z y (pos 0)) (sym (to_z-of_z {w = w64} f)) ∙ h) in omega (arith, q))
below-zero (negsuc n) f h =
    let q : n < 9223372036854775808 = f.sfits in
    let s : SFits w64 (pos n) = record { sfits = q } in
    let less : negsuc 0 -ℤ held (negsuc n) ≡ pos n = ap (λ (y : ℤ). negsuc 0 -ℤ y) (to_z-of_z {w = w64} f) ∙ minus_one n in
    let back : held (negsuc 0 -ℤ held (negsuc n)) ≡ pos n = ap held less ∙ to_z-of_z {w = w64} s in record {
      fits = subst (SFits w64) (sym less) s;
      natural = subst (λ (y : ℤ). T (non_neg y) × Fits w64 (nat_abs y)) (sym back) (tt, record { fits = omega arith });
      more = subst (λ (y : ℤ). Fits w64 (nat_abs y + 1)) (sym back) (record { fits = omega arith });
      size = ap (λ (y : ℤ). nat_abs y + 1) back ∙ omega arith;
    }

pub signed_below : (z : ℤ) → lt_z z (pos 0) ≡ true → decimal_z z ≡ 45 ∷ decimal (nat_abs z)
signed_below (pos n) h = absurd (let q = ltb-true n 0 h in omega (arith, q))
signed_below (negsuc n) h = refl

pub signed_from : (z : ℤ) → lt_z z (pos 0) ≡ false → decimal_z z ≡ decimal (nat_abs z)
signed_from (pos n) h = refl
signed_from (negsuc n) h = absurd (unequal cc)
