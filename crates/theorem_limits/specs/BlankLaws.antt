-- CLEARED MEMORY, with which a file begins: no row has a state and no node is decided.
use Rattle.std.specs.Prelude.{ℕ, zero, suc, ◌≡◌, refl, Bool, true, false, get_or, replicate}
use Rattle.memory.specs.Limits.{max_thresholds}
use Rattle.state.specs.State.{no_state}
use Rattle.words.specs.Mask.{bit}
use Rattle.words.specs.MaskLaws.{bit-none}
use Rattle.queues.specs.Marks.{mask}
use Rattle.row_moves.specs.Between.{Live, state_at}
use Rattle.files.specs.File.{begun}

pub record Blank (v : Live) : Type 0 where
  pub states : (r : ℕ) → state_at v r ≡ no_state
  pub bits : (b : Bool) (n : ℕ) → bit (mask b v.marks) n ≡ false

-- ---- lists of one value

pub same_at : {X : Type 0} (n i : ℕ) (a : X) → get_or (replicate n a) i a ≡ a
same_at zero i a = refl
same_at (suc n) zero a = refl
same_at (suc n) (suc i) a = same_at n i a

-- A FILE BEGINS with blank memory
pub blank-begun : Blank begun.live
unfolding begun
blank-begun = record { states = λ r. same_at max_thresholds r no_state; bits = bits }
  where
    bits : (b : Bool) (n : ℕ) → bit (mask b begun.live.marks) n ≡ false
    bits true n = bit-none 64 n
    bits false n = bit-none 64 n
