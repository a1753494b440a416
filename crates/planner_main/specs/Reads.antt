-- How reading standard input goes, what the input can be by what was read of it, and what is written then.
use Rattle.std.specs.Prelude.{ℕ, ◌<◌, ◌≤◌, ◌≡◌, Bool, true, false, List, ◌++◌, length, Option, Some, None, Result, Ok, Err}
use Rattle.files.specs.File.{planned}
use Rattle.files.specs.Contents.{given_of}
use Rattle.files.specs.Listing.{listing}
use Rattle.notice.specs.Notice.{notice}
use Rattle.std.specs.declared.io.Error.{Error}
use Rattle.planner_main.specs.declared.Input.{Input}

-- Bytes were read, and there was room for them.
abbrev pub Got : ℕ → Result (Option ℕ) Error → Type 0
Got room (Ok (Some n)) = (0 < n) × (n ≤ room)
Got room (Ok None) = Unit {0}
Got room (Err e) = Unit {0}

-- So many bytes were read: fewer than there was room for, if the input ended behind them; else as many.
abbrev pub ReadTo : (room : ℕ) (ended : Bool) → ℕ → Type 0
ReadTo room true n = n < room
ReadTo room false n = n ≡ room

-- Reading ends where the input does, or where no room is left.
abbrev pub Reads : ℕ → Result Input Error → Type 0
Reads room (Ok input) = ReadTo room input.ended (length input.read.now)
Reads room (Err e) = Unit {0}

-- THE INPUT, by the bytes that were read of it: those, if it ended; else it begins with them.
abbrev pub CanBe : (ended : Bool) (read input : List ℕ) → Type 0
CanBe true read input = input ≡ read
CanBe false read input = (rest : List ℕ) × (input ≡ read ++ rest)

-- A TEXT IS THE LISTING, or the notice, of every input that can be.
abbrev pub Prints : (ended : Bool) (read text : List ℕ) → Type 0
Prints ended read text = (input : List ℕ) → CanBe ended read input → text ≡ listing (planned input)

abbrev pub Tells : (ended : Bool) (read text : List ℕ) → Type 0
Tells ended read text = (input : List ℕ) → CanBe ended read input → text ≡ notice (given_of (planned input))
