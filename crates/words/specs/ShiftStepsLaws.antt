-- The shift's definitions at the values that the code has in its hands.
use Rattle.std.specs.Prelude.{◌≡◌, Bool, not, ◌&&◌, List, eqb, ltb, length, get_or}
use Rattle.std.proofs.Math.Path.{refl}
use Rattle.std.proofs.Common.{sym, ap, ◌∙◌, subst, not-suc-le-zero, lt_of_le_of_lt, length-set, eq-eqb, ne_eqb, lt-ltb, le-ltb}
use Rattle.std.proofs.Math.Bool.{true, false, cond, or-false}
use Prim.Native.Nat.{ℕ, zero, suc, ◌+◌, ◌-◌, ◌*◌, ◌/◌, ◌%◌, ◌^◌, ◌<◌, ◌≤◌, min}
use Rattle.std.proofs.Math.Nat.{div-eq_of_lt, zero-div, mod-le}
use native.Mathlib.Omega.{arith}
use Rattle.std.proofs.Math.Pow.{field}
use Rattle.std.proofs.lemmas.Nat.{shl-shr}
use Rattle.words.specs.Shift.{shifted, before, up_to, meets, low_part, high_part, or_into, spills, shift_word, word_hits, shift_from, union_shifted}
use Rattle.words.specs.declared.Ended.TheVariants.{Hit, Complete, Stopped}

-- A window that lies behind the word, before it, or over some of it.
pub meets-behind : (position bits start end : ℕ) → bits < 2 ^ 64 → position < start / 64 → false ≡ meets position bits start end
meets-behind position bits start end h g =
    let f : before position start ≡ 64 = omega arith in
    let m : bits % 2 ^ up_to position end < 2 ^ 64 = lt_of_le_of_lt (mod-le bits (2 ^ up_to position end)) h in
    rw (f, div-eq_of_lt m)

pub meets-before : (position bits start end : ℕ) → end / 64 < position → false ≡ meets position bits start end
meets-before position bits start end g =
    let f : up_to position end ≡ 0 = omega arith in
    let m : bits % 1 ≡ 0 = omega arith in
    rw (f, m, zero-div)

-- What is moved out at the top of a word and back is lost.
pub top_lost : (bits above : ℕ) → above ≤ 64 → (bits * 2 ^ above) % 2 ^ 64 / 2 ^ above ≡ bits % 2 ^ (64 - above)
top_lost bits above h =
    let e : 64 ≡ 64 - above + above = omega arith in
    subst (λ (n : ℕ). (bits * 2 ^ above) % 2 ^ n / 2 ^ above ≡ bits % 2 ^ (64 - above)) (sym e)
    (field (bits * 2 ^ above) (64 - above) above ∙ ap (λ (x : ℕ). x % 2 ^ (64 - above)) (shl-shr bits above))

places_up : (position end above : ℕ) → position ≤ end / 64 → above ≡ 63 - (end - position * 64) → up_to position end ≡ 64 - above
places_up position end above g a = omega arith

places_from : (position start below : ℕ) → start / 64 ≤ position → below ≡ start - position * 64 → before position start ≡ below
places_from position start below h b = omega arith

pub meets-over : (position bits start end above below : ℕ) → start / 64 ≤ position → position ≤ end / 64
    → above ≡ 63 - (end - position * 64) → below ≡ start - position * 64
    → not (eqb ((bits * 2 ^ above) % 18446744073709551616 / 2 ^ above / 2 ^ below) 0) ≡ meets position bits start end
meets-over position bits start end above below h g a b =
    rw (places_up position end above g a, places_from position start below h b)
    (ap (λ (x : ℕ). not (eqb (x / 2 ^ below) 0)) (top_lost bits above (omega arith)))

-- One source word: whether its upper part has a word of its own, and what is then moved and asked.
pub spills-whole : (l : List ℕ) (target offset : ℕ) → offset ≡ 0 → spills l target offset ≡ false
spills-whole l target offset h = ap (λ (x : Bool). not x && ltb target (length l - 1)) (eq-eqb offset 0 h)

pub spills_last : (l : List ℕ) (target offset : ℕ) → length l - 1 ≤ target → spills l target offset ≡ false
spills_last l target offset h = by (eqb offset 0)
  where
    by : (b : Bool) → (not b && ltb target (length l - 1)) ≡ false
    by true = refl
    by false = le-ltb target (length l - 1) h

pub spills-over : (l : List ℕ) (target offset : ℕ) → (offset ≡ 0 → ⊥) → target < length l - 1 → spills l target offset ≡ true
spills-over l target offset n h = rw (ne_eqb offset 0 n) (lt-ltb target (length l - 1) h)

module _ (l : List ℕ) (source shift : ℕ) where
  abbrev pub target : ℕ
  target = source + shift / 64

  abbrev pub low_of : ℕ
  low_of = low_part (get_or l source 0) (shift % 64)

  abbrev pub high_of : ℕ
  high_of = high_part (get_or l source 0) (shift % 64)

  pub shift_one : spills l target (shift % 64) ≡ false → or_into l target low_of ≡ shift_word l source shift
  unfolding shift_word
  shift_one e = rw e

  pub shift_two : spills l target (shift % 64) ≡ true → or_into (or_into l target low_of) (target + 1) high_of ≡ shift_word l source shift
  unfolding shift_word
  shift_two e = rw e

  module _ (start end : ℕ) where
    pub hits_one : spills l target (shift % 64) ≡ false → meets target low_of start end ≡ word_hits l source shift start end
    unfolding word_hits
    hits_one e = rw e (sym (or-false (meets target low_of start end)))

    pub hits_low : meets target low_of start end ≡ true → true ≡ word_hits l source shift start end
    unfolding word_hits
    hits_low e = rw e

    pub hits_high : spills l target (shift % 64) ≡ true → meets target low_of start end ≡ false
        → meets (target + 1) high_of start end ≡ word_hits l source shift start end
    unfolding word_hits
    hits_high e f = rw (e, f)

-- Lengths stay.
pub length_shift : (l : List ℕ) (source shift : ℕ) → length (shift_word l source shift) ≡ length l
unfolding shift_word
length_shift l source shift = by (spills l (source + shift / 64) (shift % 64)) refl
  where
    by : (b : Bool) → spills l (source + shift / 64) (shift % 64) ≡ b → length (shift_word l source shift) ≡ length l
    by true e = rw (e, shift_word) (simp length-set)
    by false e = rw (e, shift_word) (simp length-set)

-- The turns of the walk, at numbers that are not taken apart.
module _ (shift start end : ℕ) (l : List ℕ) where
  pub from_none : (source left : ℕ) → source ≡ 0 → shift_from shift start end source l left ≡ shifted l (Complete left)
  unfolding shift_from
  from_none source left e = rw e

  pub from_stopped : (source left : ℕ) → 0 < source → left ≡ 0 → shift_from shift start end source l left ≡ shifted l Stopped
  unfolding shift_from
  from_stopped zero left h e = absurd (not-suc-le-zero h)
  from_stopped (suc source) left h e = rw e

  from-turn : (source left : ℕ) → 0 < source → (left ≡ 0 → ⊥)
      → shift_from shift start end source l left
      ≡ cond (word_hits l (source - 1) shift start end) (shifted (shift_word l (source - 1) shift) (Hit (left - 1)))
      (shift_from shift start end (source - 1) (shift_word l (source - 1) shift) (left - 1))
  unfolding shift_from
  from-turn zero left h n = absurd (not-suc-le-zero h)
  from-turn (suc source) zero h n = absurd (n refl)
  from-turn (suc source) (suc left) h n =
      let e : suc source - 1 ≡ source = omega arith in
      let d : suc left - 1 ≡ left = omega arith in
      rw (e, d, shift_from) (by (word_hits l source shift start end))
    where
      by : (found : Bool)
          → elim found [ true ↦ shifted (shift_word l source shift) (Hit left) | false ↦ shift_from shift start end source (shift_word l source shift) left ]
          ≡ cond found (shifted (shift_word l source shift) (Hit left)) (shift_from shift start end source (shift_word l source shift) left)
      by true = refl
      by false = refl

  pub from_hit : (source left : ℕ) (found : Bool) → 0 < source → (left ≡ 0 → ⊥) → found ≡ word_hits l (source - 1) shift start end → found ≡ true
      → shift_from shift start end source l left ≡ shifted (shift_word l (source - 1) shift) (Hit (left - 1))
  from_hit source left found h n w f = let v = sym w ∙ f in from-turn source left h n ∙ rw v

  pub from_next : (source left : ℕ) (found : Bool) → 0 < source → (left ≡ 0 → ⊥) → found ≡ word_hits l (source - 1) shift start end → found ≡ false
      → shift_from shift start end source l left ≡ shift_from shift start end (source - 1) (shift_word l (source - 1) shift) (left - 1)
  from_next source left found h n w f = let v = sym w ∙ f in from-turn source left h n ∙ rw v

  pub from_start : (sources allowance readable : ℕ) → readable ≡ min sources (length l - shift / 64)
      → shift_from shift start end readable l allowance ≡ union_shifted l sources shift start end allowance
  unfolding union_shifted
  from_start sources allowance readable e = rw e
