-- One source word, place by place: where its bits go, and that every other place stays.
use Rattle.std.specs.Prelude.{◌≡◌, refl, Bool, true, false, List, ℕ, ◌+◌, ◌*◌, ◌-◌, ◌/◌, ◌%◌, ◌^◌, ◌<◌, ◌≤◌, max, length, get_or}
use Rattle.std.proofs.Common.{sym, ap, ap₂, ◌∙◌, subst, lt_of_not-le, lt_of_lt_of_le, lt_of_le_of_lt, mod-lt, arith, pow_mono, pow_pos, length-set, get_or-set_other}
use Rattle.std.proofs.Math.Decide.{dec_le, dec_lt}
use Rattle.std.proofs.lemmas.Nat.{shr_le}
use Rattle.std.specs.Int.Bits.{bit_or}
use Rattle.words.specs.Mask.{digit, digit_at}
use Rattle.words.specs.DigitsLaws.{Words, or_words, shr_digit, mod-digit, up_digit, up_low, digit_high, or_same, or_other, or-none}
use Rattle.words.specs.Shift.{low_part, high_part, or_into, spills, shift_word, word_hits}
use Rattle.words.specs.ShiftStepsLaws.{target, low_of, high_of, shift_one, shift_two, spills-over, length_shift}

-- The two parts of a moved word, place by place.
pub low_up : (w o k : ℕ) → k < 64 → o ≤ k → digit (low_part w o) k ≡ digit w (k - o)
low_up w o k h g =
    let e : k ≡ o + (k - o) = omega arith in
    mod-digit (w * 2 ^ o) 64 k h ∙ ap (digit (w * 2 ^ o)) e ∙ up_digit w o (k - o)

pub low_none : (w o k : ℕ) → k < 64 → k < o → digit (low_part w o) k ≡ 0
low_none w o k h g = mod-digit (w * 2 ^ o) 64 k h ∙ up_low w o k g

pub high_at : (w o k : ℕ) → digit (high_part w o) k ≡ digit w (64 - o + k)
high_at w o k = shr_digit w (64 - o) k

pub high_none : (w o k : ℕ) → w < 2 ^ 64 → o ≤ k → digit (high_part w o) k ≡ 0
high_none w o k h g =
    high_at w o k ∙ digit_high w (64 - o + k) (lt_of_lt_of_le h (pow_mono {i = 64} {j = 64 - o + k} (omega arith)))

-- A place of a source word, by the word's number.
pub source_digit : (l : List ℕ) (s q k : ℕ) → q / 64 ≡ s → q % 64 ≡ k → digit (get_or l s 0) k ≡ digit_at l q
source_digit l s q k e f = ap₂ (λ (i : ℕ) (j : ℕ). digit (get_or l i 0) j) (sym e) (sym f)

module _ (l : List ℕ) (s d : ℕ) where
  -- What is done to a property by both joins, whether or not the upper part has a word.
  by_parts : (P : List ℕ → Type 0) → P (or_into l (target l s d) (low_of l s d))
      → P (or_into (or_into l (target l s d) (low_of l s d)) (target l s d + 1) (high_of l s d)) → P (shift_word l s d)
  by_parts P one two = by (spills l (target l s d) (d % 64)) refl
    where
      by : (b : Bool) → spills l (target l s d) (d % 64) ≡ b → P (shift_word l s d)
      by true e = subst P (shift_two l s d e) two
      by false e = subst P (shift_one l s d e) one

  -- A PLACE THAT A BIT OF THIS WORD MOVES TO
  pub shift_moved : (p : ℕ) → d ≤ p → (p - d) / 64 ≡ s → p / 64 < length l
      → digit_at (shift_word l s d) p ≡ max (digit_at l p) (digit_at l (p - d))
  shift_moved p g e q = by (dec_le (d % 64) (p % 64))
    where
      by : Dec (d % 64 ≤ p % 64) → digit_at (shift_word l s d) p ≡ max (digit_at l p) (digit_at l (p - d))
      by (yes o) =
          let t : p / 64 ≡ s + d / 64 = omega arith in
          let r : (p - d) % 64 ≡ p % 64 - d % 64 = omega arith in
          let m = mod-lt p {m = 64} (omega arith) in
          let one : digit_at (or_into l (target l s d) (low_of l s d)) p ≡ max (digit_at l p) (digit_at l (p - d)) =
          or_same l (s + d / 64) (low_of l s d) p (rw t at q) t
          ∙ ap (max (digit_at l p)) (low_up (get_or l s 0) (d % 64) (p % 64) m o ∙ source_digit l s (p - d) (p % 64 - d % 64) e r)
          in
          by_parts (λ x. digit_at x p ≡ max (digit_at l p) (digit_at l (p - d))) one
          (or_other (or_into l (target l s d) (low_of l s d)) (s + d / 64 + 1) (high_of l s d) p (λ x. omega arith) ∙ one)
      by (no n) =
          let o = lt_of_not-le n in
          let t : p / 64 ≡ s + d / 64 + 1 = omega arith in
          let r : (p - d) % 64 ≡ 64 - d % 64 + p % 64 = omega arith in
          let low = or_into l (target l s d) (low_of l s d) in
          let w : s + d / 64 + 1 < length low = rw length-set (omega arith) in
          subst (λ x. digit_at x p ≡ max (digit_at l p) (digit_at l (p - d))) (shift_two l s d (spills-over l (s + d / 64) (d % 64) (λ z. omega arith) (omega arith)))
          (or_same low (s + d / 64 + 1) (high_of l s d) p w t
          ∙ ap₂ max (or_other l (s + d / 64) (low_of l s d) p (λ x. omega arith))
          (high_at (get_or l s 0) (d % 64) (p % 64) ∙ source_digit l s (p - d) (64 - d % 64 + p % 64) e r))

  -- EVERY OTHER PLACE STAYS
  pub shift_kept : (p : ℕ) → get_or l s 0 < 2 ^ 64 → (d ≤ p → (p - d) / 64 ≡ s → ⊥) → digit_at (shift_word l s d) p ≡ digit_at l p
  shift_kept p w n =
      let one = or-none l (target l s d) (low_of l s d) p low in
      by_parts (λ x. digit_at x p ≡ digit_at l p) one (or-none (or_into l (target l s d) (low_of l s d)) (target l s d + 1) (high_of l s d) p high ∙ one)
    where
      low : p / 64 ≡ s + d / 64 → digit (low_of l s d) (p % 64) ≡ 0
      low t = by (dec_lt (p % 64) (d % 64))
        where
          by : Dec (p % 64 < d % 64) → digit (low_of l s d) (p % 64) ≡ 0
          by (yes o) = low_none (get_or l s 0) (d % 64) (p % 64) (mod-lt p (omega arith)) o
          by (no o) = let u = lt_of_not-le o in absurd (n (omega arith) (omega arith))

      high : p / 64 ≡ s + d / 64 + 1 → digit (high_of l s d) (p % 64) ≡ 0
      high t = by (dec_lt (p % 64) (d % 64))
        where
          by : Dec (p % 64 < d % 64) → digit (high_of l s d) (p % 64) ≡ 0
          by (yes o) = absurd (n (omega arith) (omega arith))
          by (no o) = let u = lt_of_not-le o in high_none (get_or l s 0) (d % 64) (p % 64) w (omega arith)

  -- The words below are not touched, and words stay words.
  pub source_kept : (j : ℕ) → j < s → get_or (shift_word l s d) j 0 ≡ get_or l j 0
  source_kept j h =
      let one : get_or (or_into l (target l s d) (low_of l s d)) j 0 ≡ get_or l j 0 =
      get_or-set_other l (s + d / 64) j (bit_or (get_or l (s + d / 64) 0) (low_of l s d)) 0 (λ x. omega arith)
      in
      by_parts (λ x. get_or x j 0 ≡ get_or l j 0) one
      (get_or-set_other (or_into l (target l s d) (low_of l s d)) (s + d / 64 + 1) j
      (bit_or (get_or (or_into l (target l s d) (low_of l s d)) (s + d / 64 + 1) 0) (high_of l s d)) 0 (λ x. omega arith) ∙ one)

  pub hits_kept : (j a b : ℕ) → j < s → word_hits (shift_word l s d) j d a b ≡ word_hits l j d a b
  unfolding word_hits
  hits_kept j a b h = rw (source_kept j h, length_shift l s d)

pub shift_words : (l : List ℕ) (s d : ℕ) → Words l → Words (shift_word l s d)
shift_words l s d w =
    let one = or_words l (target l s d) (low_of l s d) w (mod-lt (get_or l s 0 * 2 ^ (d % 64)) (pow_pos 64)) in
    by_parts l s d Words one
    (or_words (or_into l (target l s d) (low_of l s d)) (target l s d + 1) (high_of l s d) one (lt_of_le_of_lt (shr_le (get_or l s 0) (64 - d % 64)) (w s)))
