-- Queues, oldest first, in a buffer that wraps at its end; a row waits at most once.
use Rattle.std.specs.Prelude.{ℕ, ◌+◌, ◌-◌, ◌%◌, Bool, cond, List, get_or, set, eqb}
use Rattle.memory.specs.Limits.{max_thresholds}
use Rattle.queues.specs.declared.Ring.{Ring}

abbrev pub ring : ℕ → ℕ → Ring
ring h c = record { head = h; count = c }

pub record Queue : Type 0 where
  pub items : List ℕ
  pub ring : Ring

abbrev pub queue : List ℕ → Ring → Queue
queue l r = record { items = l; ring = r }

abbrev pub is_empty : Queue → Bool
is_empty q = eqb q.ring.count 0

-- The entry that has waited longest.
abbrev pub oldest : Queue → ℕ
oldest q = get_or q.items q.ring.head 0

-- The place behind all that wait; the first argument is the number of places, at which the queue wraps.
abbrev pub behind : ℕ → Ring → ℕ
behind places r = (r.head + r.count) % places

abbrev pub longer_ring : Ring → Ring
longer_ring r = ring r.head (r.count + 1)

unfoldable pub push : ℕ → Queue → ℕ → Queue
push places q x = queue (set q.items (behind places q.ring) x) (longer_ring q.ring)

-- The queue without its oldest entry; its place keeps what stood there.
abbrev pub popped_ring : ℕ → Ring → Ring
popped_ring places r = ring ((r.head + 1) % places) (r.count - 1)

unfoldable pub popped : ℕ → Queue → Queue
popped places q = queue q.items (popped_ring places q.ring)

-- A queue of at most 1,024 rows, with a flag for each row that waits.
pub record Rows : Type 0 where
  pub queue : Queue
  pub pending : List ℕ

abbrev pub rows : Queue → List ℕ → Rows
rows q p = record { queue = q; pending = p }

-- `queue_row`: a row that waits already is not queued again.
unfoldable pub queue_row : Rows → ℕ → Rows
queue_row q r = cond (eqb (get_or q.pending r 0) 1) q (rows (push max_thresholds q.queue r) (set q.pending r 1))

-- `next_row`: the flag falls when the row is taken.
unfoldable pub next_row : Rows → Rows
next_row q = rows (popped max_thresholds q.queue) (set q.pending (oldest q.queue) 0)

-- ---- two queues of rows in one buffer of slots
