-- What writing into a lent buffer does: bytes at a place, one behind the other.
use Rattle.std.specs.Prelude.{ℕ, zero, suc, ◌+◌, ◌*◌, ◌≤◌, ◌≡◌, List, [], ◌++◌, length, take, drop}

-- A text at a place of a buffer; before and behind it the buffer stays as it was.
abbrev pub placed : List ℕ → ℕ → List ℕ → List ℕ
placed d at s = take at d ++ s ++ drop (at + length s) d

-- A buffer d became e: a text of at most so many bytes was written at a place, and it ends at r.
pub record Wrote (size : ℕ) (d e : List ℕ) (at r : ℕ) (s : List ℕ) : Type 0 where
  pub ended : r ≡ at + length s
  pub bytes : e ≡ placed d at s
  pub within : r ≤ at + size

-- The texts of 0, 1 .. below n, one behind the other.
unfoldable pub joined : (ℕ → List ℕ) → ℕ → List ℕ
joined f zero = []
joined f (suc n) = joined f n ++ f n

-- How far a loop is that writes these texts, each of at most so many bytes: the first i of n are written.
pub record Joins (size : ℕ) (d e : List ℕ) (at r : ℕ) (f : ℕ → List ℕ) (n i : ℕ) : Type 0 where
  pub passed : i ≤ n
  pub long : length e ≡ length d
  pub wrote : Wrote (size * i) d e at r (joined f i)
