-- Who waits, and how often: each node at most once and only when it is decided, each row as its flag says.
use Rattle.std.specs.Prelude.{List, [], ◌∷◌, cond, false, Bool, true, ℕ, ◌+◌, zero, suc, ◌%◌, ◌≤◌, eqb, get_or, length, ◌≡◌}
use Rattle.queues.specs.Queue.{Queue, Rows}
use Rattle.memory.specs.Limits.{max_nodes, max_thresholds}
use Rattle.queues.specs.Shape.{Held}
use Rattle.queues.specs.Marks.{Marks, is_decided}

unfoldable pub times : ℕ → List ℕ → ℕ
times r [] = 0
times r (x ∷ xs) = cond (eqb x r) 1 0 + times r xs

-- The n entries from place h on; a place counts modulo the number of places.
unfoldable pub entries : ℕ → List ℕ → ℕ → ℕ → List ℕ
entries places l h zero = []
entries places l h (suc n) = get_or l (h % places) 0 ∷ entries places l (h + 1) n

abbrev pub waiting_list : ℕ → Queue → List ℕ
waiting_list places q = entries places q.items q.ring.head q.ring.count

-- Each node waits at most once, and only a decided one.
pub record Waits (m : Marks) : Type 0 where
  pub held : Held max_nodes m.nodes
  pub sures : length m.sure ≡ 64
  pub nevers : length m.never ≡ 64
  pub once : (n : ℕ) → times n (waiting_list max_nodes m.nodes) ≤ 1
  pub idle : (n : ℕ) → is_decided m n ≡ false → times n (waiting_list max_nodes m.nodes) ≡ 0

-- A row waits as often as its flag says, which is once or not at all.
pub record Flags (q : Rows) : Type 0 where
  pub held : Held max_thresholds q.queue
  pub long : length q.pending ≡ max_thresholds
  pub flag : (r : ℕ) → times r (waiting_list max_thresholds q.queue) ≡ get_or q.pending r 0
  pub once : (r : ℕ) → get_or q.pending r 0 ≤ 1

-- How often a node waits.
abbrev pub waits : Marks → ℕ → ℕ
waits m n = times n (waiting_list max_nodes m.nodes)

pub record Queued (drained : ℕ → Bool) (m : Marks) : Type 0 where
  pub queue : Waits m
  pub decided : (n : ℕ) → drained n ≡ true → is_decided m n ≡ true
  pub gone : (n : ℕ) → drained n ≡ true → waits m n ≡ 0
  pub left : (n : ℕ) → is_decided m n ≡ true → drained n ≡ false → waits m n ≡ 1
