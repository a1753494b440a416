-- A set of sums shifted up by one weight and joined to itself: `union_shifted_until_hit` of words.rs on values.
use Rattle.std.specs.Prelude.{ℕ, zero, suc, ◌+◌, ◌-◌, ◌*◌, ◌/◌, ◌%◌, ◌^◌, min, Bool, true, false, cond, ◌&&◌, ◌||◌, not, List, length, get_or, set, eqb, ltb}
use Rattle.std.specs.Int.Bits.{bit_or}
use Rattle.words.specs.declared.Ended.{Ended}
use Rattle.words.specs.declared.Ended.TheVariants.{Hit, Complete, Stopped}

pub record Shifted : Type 0 where
  pub words : List ℕ
  pub ended : Ended

abbrev pub shifted : List ℕ → Ended → Shifted
shifted l e = record { words = l; ended = e }

-- How many places of the word that stands at a position are before the window's start, and how many up to its end.
abbrev pub before : ℕ → ℕ → ℕ
before position start = min (start - 64 * position) 64

abbrev pub up_to : ℕ → ℕ → ℕ
up_to position end = min (end + 1 - 64 * position) 64

-- The bits of the word that stands at a position, those outside the places from start to end left out.
abbrev pub in_window : ℕ → ℕ → ℕ → ℕ → ℕ
in_window position bits start end = bits % 2 ^ up_to position end / 2 ^ before position start

-- Some bit of the word lies in the window.
abbrev pub meets : ℕ → ℕ → ℕ → ℕ → Bool
meets position bits start end = not (eqb (in_window position bits start end) 0)

-- The two parts of a word moved up by an offset below 64.
abbrev pub low_part : ℕ → ℕ → ℕ
low_part w offset = (w * 2 ^ offset) % 2 ^ 64

abbrev pub high_part : ℕ → ℕ → ℕ
high_part w offset = w / 2 ^ (64 - offset)

abbrev pub or_into : List ℕ → ℕ → ℕ → List ℕ
or_into l i bits = set l i (bit_or (get_or l i 0) bits)

-- The upper part of a moved word has a word of its own.
abbrev pub spills : List ℕ → ℕ → ℕ → Bool
spills l target offset = not (eqb offset 0) && ltb target (length l - 1)

-- One source word, moved and joined to what stands there.
unfoldable pub shift_word : List ℕ → ℕ → ℕ → List ℕ
shift_word l source shift =
    let target = source + shift / 64 in
    let low = or_into l target (low_part (get_or l source 0) (shift % 64)) in
    cond (spills l target (shift % 64)) (or_into low (target + 1) (high_part (get_or l source 0) (shift % 64))) low

-- One of the bits just moved lies in the window.
unfoldable pub word_hits : List ℕ → ℕ → ℕ → ℕ → ℕ → Bool
word_hits l source shift start end =
    let target = source + shift / 64 in
    meets target (low_part (get_or l source 0) (shift % 64)) start end
    || (spills l target (shift % 64) && meets (target + 1) (high_part (get_or l source 0) (shift % 64)) start end)

-- The source words below `source`, the highest first, one visit for each.
unfoldable pub shift_from : ℕ → ℕ → ℕ → ℕ → List ℕ → ℕ → Shifted
shift_from shift start end zero l left = shifted l (Complete left)
shift_from shift start end (suc source) l zero = shifted l Stopped
shift_from shift start end (suc source) l (suc left) =
    elim (word_hits l source shift start end)
    [ true ↦ shifted (shift_word l source shift) (Hit left) | false ↦ shift_from shift start end source (shift_word l source shift) left ]

-- The first `sources` words of l, as far as they stay inside it.
unfoldable pub union_shifted : List ℕ → ℕ → ℕ → ℕ → ℕ → ℕ → Shifted
union_shifted l sources shift start end allowance = shift_from shift start end (min sources (length l - shift / 64)) l allowance
