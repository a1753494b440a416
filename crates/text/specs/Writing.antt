-- What writing behind a text does, in the words of the lent buffer.
use Rattle.std.specs.Prelude.{ℕ, ◌+◌, ◌≤◌, ◌≡◌, List, length}
use Rattle.text.specs.Text.{Wrote, Joins}
use Rattle.text.specs.declared.Writer.{Writer}

-- There is room for so many bytes behind the text.
abbrev pub HasRoom : ℕ → Writer → Type 0
HasRoom size w = w.at + size ≤ length w.out.now

-- A text of at most so many bytes was written behind what stood there.
abbrev pub Writes : ℕ → Writer → Writer → List ℕ → Type 0
Writes size before after text = Wrote size before.out.now after.out.now before.at after.at text

-- How far a loop is that writes texts, each of at most so many bytes, into the one buffer: the first i of n are written.
abbrev pub WritesFirst : ℕ → Writer → Writer → (ℕ → List ℕ) → ℕ → ℕ → Type 0
WritesFirst size before after f n i =
    (after.out.ghost_name ≡ before.out.ghost_name) × Joins size before.out.now after.out.now before.at after.at f n i
