-- Sets of numbers as bits of 64-bit words: `bit` and `learn` of regions.rs on values.
use Rattle.std.specs.Prelude.{ℕ, zero, suc, ◌+◌, ◌/◌, ◌%◌, ◌^◌, Bool, cond, ◌||◌, List, get_or, set, eqb}
use Rattle.std.specs.Int.Bits.{bit_or}
use Rattle.state.specs.declared.Step.{Step}
use Rattle.state.specs.declared.Step.TheVariants.{Unchanged, Changed, Contradiction}

-- Place k of a word, 0 or 1.
abbrev pub digit : ℕ → ℕ → ℕ
digit w k = w / 2 ^ k % 2

-- Place n of a list of words; 0 behind its end.
abbrev pub digit_at : List ℕ → ℕ → ℕ
digit_at l n = digit (get_or l (n / 64) 0) (n % 64)

abbrev pub bit : List ℕ → ℕ → Bool
bit mask n = eqb (digit_at mask n) 1

-- In one mask or the other: decided.
abbrev pub in_either : List ℕ → List ℕ → ℕ → Bool
in_either sure never n = bit sure n || bit never n

unfoldable pub set_bit : List ℕ → ℕ → List ℕ
set_bit mask n = set mask (n / 64) (bit_or (get_or mask (n / 64) 0) (2 ^ (n % 64)))

-- How many of the first n nodes the mask has.
unfoldable pub count : List ℕ → ℕ → ℕ
count mask zero = 0
count mask (suc n) = count mask n + cond (bit mask n) 1 0

-- What deciding a node did to its mask, and the answer.
pub record Learned : Type 0 where
  pub mask : List ℕ
  pub step : Step

abbrev pub learned : List ℕ → Step → Learned
learned l s = record { mask = l; step = s }

-- A node that the mask has already is nothing new; one that the opposite mask has is a contradiction; else it is put in.
unfoldable pub learn : List ℕ → List ℕ → ℕ → Learned
learn mask opposite n =
    cond (bit mask n) (learned mask Unchanged) (cond (bit opposite n) (learned mask Contradiction) (learned (set_bit mask n) Changed))
