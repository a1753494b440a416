-- Which nodes a mask has after `set_bit` and `learn`, and what `learn` answers.
use Rattle.std.specs.Prelude.{◌≡◌, ◌≢◌, Bool, List, ℕ, ◌*◌, ◌/◌, ◌%◌, ◌^◌, ◌<◌, ◌≤◌, eqb, length, get_or, set, replicate}
use Rattle.std.proofs.Math.Path.{refl}
use Rattle.std.proofs.Common.{ap, ◌∙◌, mod-lt, mod-eq_of_lt, one-mul, arith, lit<, length-set, pow_pos, eq-eqb}
use Rattle.std.proofs.Math.Bool.{true, false}
use Rattle.std.proofs.Math.ListN.{get_or-eq_default}
use Rattle.std.specs.Int.Bits.{bit_or}
use Rattle.std.proofs.Math.Pow.{pow-lt}
use Rattle.base.specs.TallyLaws.{zeros-at}
use Rattle.words.specs.Mask.{bit, digit, set_bit, learn, learned, Learned}
use Rattle.words.specs.DigitsLaws.{Words, or_words, digit_small, digit_high, or_same, or-none, pow_digit, pow_digit_same}
use Rattle.state.specs.declared.Step.TheVariants.{Unchanged, Changed, Contradiction}

-- The node is in the mask after it was put in; every other node is as it was.
pub set-bit_same : (mask : List ℕ) (n : ℕ) → n / 64 < length mask → bit (set_bit mask n) n ≡ true
unfolding set_bit
set-bit_same mask n h =
    eq-eqb _ 1 (or_same mask (n / 64) (2 ^ (n % 64)) n h refl
    ∙ (let a = digit_small (get_or mask (n / 64) 0) (n % 64) in let b = pow_digit_same (n % 64) in omega arith))

pub set-bit_other : (mask : List ℕ) (n k : ℕ) → k ≢ n → bit (set_bit mask n) k ≡ bit mask k
unfolding set_bit
set-bit_other mask n k d =
    ap (λ (x : ℕ). eqb x 1) (or-none mask (n / 64) (2 ^ (n % 64)) k (λ e. pow_digit (n % 64) (k % 64) (λ f. d (omega arith))))

pub length-set-bit : (mask : List ℕ) (n : ℕ) → length (set_bit mask n) ≡ length mask
unfolding set_bit
length-set-bit mask n = length-set mask (n / 64) (bit_or (get_or mask (n / 64) 0) (2 ^ (n % 64)))

pub set-bit_words : (mask : List ℕ) (n : ℕ) → Words mask → Words (set_bit mask n)
unfolding set_bit
set-bit_words mask n w = or_words mask (n / 64) (2 ^ (n % 64)) w (pow-lt {i = n % 64} {j = 64} (mod-lt n (lit< tt)))

-- No node lies beyond the last word of a mask, and none is in words that are zero.
bit-zero : (l : List ℕ) (n : ℕ) → get_or l (n / 64) 0 ≡ 0 → bit l n ≡ false
bit-zero l n e = ap (λ (w : ℕ). eqb (digit w (n % 64)) 1) e ∙ ap (λ (d : ℕ). eqb d 1) (digit_high 0 (n % 64) (pow_pos (n % 64)))

pub bit-behind : (l : List ℕ) (n : ℕ) → length l ≤ n / 64 → bit l n ≡ false
bit-behind l n h = bit-zero l n (get_or-eq_default l 0 h)

pub bit-none : (k n : ℕ) → bit (replicate k 0) n ≡ false
bit-none k n = bit-zero (replicate k 0) n (zeros-at k (n / 64))

-- The three answers.
pub learn_there : (mask opposite : List ℕ) (n : ℕ) → bit mask n ≡ true → learn mask opposite n ≡ learned mask Unchanged
unfolding learn
learn_there mask opposite n h = rw h

pub learn_opposite : (mask opposite : List ℕ) (n : ℕ) → bit mask n ≡ false → bit opposite n ≡ true
    → learn mask opposite n ≡ learned mask Contradiction
unfolding learn
learn_opposite mask opposite n h k = rw (h, k)

pub learn_new : (mask opposite : List ℕ) (n : ℕ) → bit mask n ≡ false → bit opposite n ≡ false
    → learn mask opposite n ≡ learned (set_bit mask n) Changed
unfolding learn
learn_new mask opposite n h k = rw (h, k)

-- Whatever the answer, no other node changes, and the mask keeps its length.
module _ (mask opposite : List ℕ) (n : ℕ) where
  by-case : (P : List ℕ → Type 0) → P mask → P (set_bit mask n) → P (learn mask opposite n).mask
  unfolding learn
  by-case P old new = one (bit mask n) refl (bit opposite n) refl
    where
      one : (b : Bool) → bit mask n ≡ b → (c : Bool) → bit opposite n ≡ c → P (learn mask opposite n).mask
      one true e c f = rw (learn_there mask opposite n e) old
      one false e true f = rw (learn_opposite mask opposite n e f) old
      one false e false f = rw (learn_new mask opposite n e f) new

  pub learn_other : (k : ℕ) → k ≢ n → bit (learn mask opposite n).mask k ≡ bit mask k
  learn_other k d = by-case (λ l. bit l k ≡ bit mask k) refl (set-bit_other mask n k d)

  pub length-learn : length (learn mask opposite n).mask ≡ length mask
  length-learn = by-case (λ l. length l ≡ length mask) refl (length-set-bit mask n)

  pub learn_words : Words mask → Words (learn mask opposite n).mask
  learn_words w = by-case Words w (set-bit_words mask n w)

-- After an answer other than a contradiction the mask has the node.
pub learn_has : (mask opposite : List ℕ) (n : ℕ) → n / 64 < length mask → ((learn mask opposite n).step ≡ Contradiction → ⊥)
    → bit (learn mask opposite n).mask n ≡ true
learn_has mask opposite n h d = one (bit mask n) refl (bit opposite n) refl
  where
    one : (b : Bool) → bit mask n ≡ b → (c : Bool) → bit opposite n ≡ c → bit (learn mask opposite n).mask n ≡ true
    one true e c f = rw (learn_there mask opposite n e) e
    one false e true f = absurd (d (ap (λ (x : Learned). x.step) (learn_opposite mask opposite n e f)))
    one false e false f = rw (learn_new mask opposite n e f) (set-bit_same mask n h)

-- One bit moved up inside a word, as the code makes it.
pub one_shl : (k : ℕ) → k < 64 → (1 * 2 ^ k) % 18446744073709551616 ≡ 2 ^ k
one_shl k h = ap (λ (x : ℕ). x % 18446744073709551616) (one-mul (2 ^ k)) ∙ mod-eq_of_lt (pow-lt {i = k} {j = 64} h)

pub set-bit : (mask : List ℕ) (n : ℕ)
    → set mask (n / 64) (bit_or (get_or mask (n / 64) 0) ((1 * 2 ^ (n % 64)) % 18446744073709551616)) ≡ set_bit mask n
unfolding set_bit
set-bit mask n = rw (one_shl (n % 64) (mod-lt n (lit< tt)))
