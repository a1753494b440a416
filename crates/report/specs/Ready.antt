-- What the inner part of the plan asks: bytes, room for the listing, and buffers of numbers of the listed lengths.
use Rattle.std.specs.Prelude.{ℕ, ◌≤◌, ◌<◌, ◌≡◌, List, length}
use Rattle.base.specs.All.{All}
use Rattle.memory.specs.Buffers.{Work, needed, lengths}
use Rattle.files.specs.Listing.{max_listing}

abbrev pub IsByte : ℕ → Type 0
IsByte b = b < 256

pub record Ready (input out : List ℕ) (w : Work) : Type 0 where
  pub bytes : All IsByte input
  pub room : max_listing ≤ length out
  pub long : lengths w ≡ needed
