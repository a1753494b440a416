-- What the slice of a queue must be like.
use Rattle.std.specs.Prelude.{ℕ, ◌<◌, ◌≤◌, length}
use Rattle.queues.specs.Queue.{Queue}

-- The slice has room for all places, the oldest entry stands at one of them, and no more wait than there are.
pub record Held (places : ℕ) (q : Queue) : Type 0 where
  pub head : q.ring.head < places
  pub count : q.ring.count ≤ places
  pub long : places ≤ length q.items
