-- Single places of words as numbers 0 and 1: what joining, moving and cutting a word does to each, and a word that changes in a list.
use Rattle.std.specs.Prelude.{◌≡◌, ◌≢◌, List, ℕ, ◌+◌, ◌*◌, ◌-◌, ◌/◌, ◌%◌, ◌^◌, ◌<◌, max, length, get_or}
use Rattle.std.proofs.Common.{sym, ap, ◌∙◌, subst, mod-lt, mod-eq_of_lt, mul_assoc, one-mul, lt_of_not-le, arith, lit<, pow_pos, pow-add, shr-shr, get_or-set_same, get_or-set_other}
use Rattle.std.proofs.Math.Nat.{mul-add-mod_self_right, zero-mod, div-eq_of_lt, div_self, mul-mod_left}
use native.Nat.{ℕᴺ_discrete as dec_eq}
use Rattle.std.proofs.Math.Decide.{dec_lt}
use Rattle.std.proofs.Math.Pow.{pow-lt, field, mod-mod-pow}
use Rattle.std.proofs.lemmas.Nat.{shl-shr, or_shr, or_lt}
use Rattle.std.specs.Int.Bits.{bit_or, or_step}
use Rattle.std.proofs.Math.Seq.{set_out}
use Rattle.words.specs.Mask.{digit, digit_at}
use Rattle.words.specs.Shift.{or_into}

pub digit_small : (w k : ℕ) → digit w k < 2
digit_small w k = mod-lt (w / 2 ^ k) (lit< tt)

-- Joining.
or_odd : (a b : ℕ) → bit_or a b % 2 ≡ max (a % 2) (b % 2)
or_odd a b =
    ap (λ (x : ℕ). x % 2) (or_step a b) ∙ mul-add-mod_self_right (bit_or (a / 2) (b / 2)) 2 (max (a % 2) (b % 2))
    ∙ mod-eq_of_lt (let x = mod-lt a {m = 2} (lit< tt) in let y = mod-lt b {m = 2} (lit< tt) in omega arith)

pub or-digit : (a b k : ℕ) → digit (bit_or a b) k ≡ max (digit a k) (digit b k)
or-digit a b k = ap (λ (x : ℕ). x % 2) (or_shr a b k) ∙ or_odd (a / 2 ^ k) (b / 2 ^ k)

-- Places above a small number are empty.
pub digit_high : (w k : ℕ) → w < 2 ^ k → digit w k ≡ 0
digit_high w k h = ap (λ (x : ℕ). x % 2) (div-eq_of_lt h) ∙ zero-mod 2

-- Moving down, cutting, moving up.
pub shr_digit : (w s k : ℕ) → digit (w / 2 ^ s) k ≡ digit w (s + k)
shr_digit w s k = ap (λ (x : ℕ). x % 2) (shr-shr w s k)

pub mod-digit : (w j k : ℕ) → k < j → digit (w % 2 ^ j) k ≡ digit w k
mod-digit w j k h =
    let i = j - k - 1 in
    let e : j ≡ i + 1 + k = omega arith in
    subst (λ (n : ℕ). digit (w % 2 ^ n) k ≡ digit w k) (sym e)
    (ap (λ (x : ℕ). x % 2) (field w (i + 1) k) ∙ mod-mod-pow (w / 2 ^ k) i 1)

pub up_digit : (w s k : ℕ) → digit (w * 2 ^ s) (s + k) ≡ digit w k
up_digit w s k = sym (shr_digit (w * 2 ^ s) s k) ∙ ap (λ (x : ℕ). digit x k) (shl-shr w s)

pub up_low : (w s k : ℕ) → k < s → digit (w * 2 ^ s) k ≡ 0
up_low w s k h =
    let i = s - k - 1 in
    let e : s ≡ i + 1 + k = omega arith in
    subst (λ (n : ℕ). digit (w * 2 ^ n) k ≡ 0) (sym e)
    (ap (λ (x : ℕ). w * x / 2 ^ k % 2) (pow-add 2 (i + 1) k) ∙ ap (λ (x : ℕ). x / 2 ^ k % 2) (sym (mul_assoc w (2 ^ (i + 1)) (2 ^ k)))
    ∙ ap (λ (x : ℕ). x % 2) (shl-shr (w * 2 ^ (i + 1)) k) ∙ ap (λ (x : ℕ). w * x % 2) (pow-add 2 i 1)
    ∙ ap (λ (x : ℕ). x % 2) (sym (mul_assoc w (2 ^ i) 2)) ∙ mul-mod_left (w * 2 ^ i) 2)

-- One bit alone.
pub pow_digit : (j k : ℕ) → j ≢ k → digit (2 ^ j) k ≡ 0
pow_digit j k n = by (dec_lt k j)
  where
    by : Dec (k < j) → digit (2 ^ j) k ≡ 0
    by (yes h) = ap (λ (x : ℕ). digit x k) (sym (one-mul (2 ^ j))) ∙ up_low 1 j k h
    by (no h) = digit_high (2 ^ j) k (pow-lt {i = j} {j = k} (let g = lt_of_not-le h in omega arith))

pub pow_digit_same : (k : ℕ) → digit (2 ^ k) k ≡ 1
pow_digit_same k = ap (λ (x : ℕ). x % 2) (div_self (pow_pos k))

-- Bits joined to the word at i: the places of that word, and all others.
pub or_same : (l : List ℕ) (i bits p : ℕ) → i < length l → p / 64 ≡ i → digit_at (or_into l i bits) p ≡ max (digit_at l p) (digit bits (p % 64))
or_same l i bits p h e =
    ap (λ (x : ℕ). digit x (p % 64)) (rw e (get_or-set_same l i (bit_or (get_or l i 0) bits) 0 h))
    ∙ or-digit (get_or l i 0) bits (p % 64) ∙ ap (λ (j : ℕ). max (digit (get_or l j 0) (p % 64)) (digit bits (p % 64))) (sym e)

pub or_other : (l : List ℕ) (i bits p : ℕ) → p / 64 ≢ i → digit_at (or_into l i bits) p ≡ digit_at l p
or_other l i bits p n = ap (λ (x : ℕ). digit x (p % 64)) (get_or-set_other l i (p / 64) (bit_or (get_or l i 0) bits) 0 n)

-- Where nothing is joined to a place, it stays, also where the list has no such word.
pub or-none : (l : List ℕ) (i bits p : ℕ) → (p / 64 ≡ i → digit bits (p % 64) ≡ 0) → digit_at (or_into l i bits) p ≡ digit_at l p
or-none l i bits p z = by (dec_lt i (length l)) (dec_eq (p / 64) i)
  where
    by : Dec (i < length l) → Dec (p / 64 ≡ i) → digit_at (or_into l i bits) p ≡ digit_at l p
    by (yes h) (yes e) = or_same l i bits p h e ∙ (let q = z e in omega arith)
    by (no h) d = ap (λ (x : List ℕ). digit_at x p) (set_out l i (bit_or (get_or l i 0) bits) (let g = lt_of_not-le h in omega arith))
    by (yes h) (no e) = or_other l i bits p e

-- Words of 64 bits.
abbrev pub Words : List ℕ → Type 0
Words l = (i : ℕ) → get_or l i 0 < 2 ^ 64

pub or_words : (l : List ℕ) (i bits : ℕ) → Words l → bits < 2 ^ 64 → Words (or_into l i bits)
or_words l i bits w h j = by (dec_eq j i) (dec_lt i (length l))
  where
    new : bit_or (get_or l i 0) bits < 2 ^ 64
    new = or_lt 64 (get_or l i 0) bits (w i) h

    by : Dec (j ≡ i) → Dec (i < length l) → get_or (or_into l i bits) j 0 < 2 ^ 64
    by (yes e) (yes g) = rw (e, get_or-set_same l i (bit_or (get_or l i 0) bits) 0 g) new
    by (yes e) (no g) = rw (set_out l i (bit_or (get_or l i 0) bits) (let u = lt_of_not-le g in omega arith)) (w j)
    by (no e) g = rw (get_or-set_other l i j (bit_or (get_or l i 0) bits) 0 e) (w j)
