-- What shared buffers and a live state must be like so that what waits can be drained.
use Rattle.std.specs.Prelude.{ℕ, zero, suc, ◌+◌, ◌-◌, ◌*◌, ◌<◌, ◌≤◌, ◌≡◌, Bool, true, cond, false, List, length, get_or, ℤ}
use Rattle.memory.specs.Ranges.{drain_limit, room_limit}
use Rattle.memory.specs.Buffers.{HeldRows, Built}
use Rattle.queues.specs.Queue.{Rows}
use Rattle.rows.specs.Rows.{no_row}
use Rattle.row_moves.specs.Between.{Index, Live}
use Rattle.row_moves.specs.Held.{start_by, end_by, Shaped, EdgesShaped, LinksShaped, GuardsShaped, Holds, HoldsEdges, HoldsLinks, HoldsGuards}
use Rattle.row_moves.specs.Ready.{Runnable, Names}
use Rattle.theorem_ends.specs.Sound.{Indexed, Sound}
use Rattle.queues.specs.Marks.{Marks, is_decided}
use Rattle.theorem_follows.specs.Ordered.{Ordered}
use Rattle.queues.specs.Waiting.{Queued}

-- What the seal built, with the bounds of the thresholds, holds the index, whose rows are such as a job gives. Each buffer is lent cut to what is filled of it: `nodes` has an entry for
-- each node of the job and no other, and the rows name no node behind them.
pub record Serves (x : Index) (bounds : List ℤ) (b : Built) : Type 0 where
  pub shaped : Shaped b.held
  pub edged : EdgesShaped b.held b.nodes b.edges
  pub guarded : GuardsShaped b.held b.nodes bounds
  pub linked : LinksShaped b.held b.links
  pub holds : Holds x b.held
  pub holds_edges : HoldsEdges x b.nodes b.edges
  pub holds_guards : HoldsGuards x b.nodes bounds
  pub holds_links : HoldsLinks x b.held b.links
  pub indexed : Indexed x
  pub ordered : (r : ℕ) → r < length x.rows → Ordered (get_or x.rows r no_row)
  pub names : (r : ℕ) → r < length x.rows → Names (λ (n : ℕ). n < length b.nodes) (get_or x.rows r no_row)

-- Only the first n rows wait.
abbrev pub Among : ℕ → Rows → Type 0
Among n q = (r : ℕ) → n ≤ r → get_or q.pending r 0 ≡ 0

-- Only the first n nodes are decided.
abbrev pub Low : ℕ → Marks → Type 0
Low n m = (i : ℕ) → is_decided m i ≡ true → i < n

-- How many edges the first n nodes have that were not taken yet.
unfoldable pub owed : List (List ℕ) → (ℕ → Bool) → ℕ → ℕ
owed nodes taken zero = 0
owed nodes taken (suc n) = cond (taken n) 0 (end_by 2 nodes n - start_by 2 nodes n) + owed nodes taken n

-- Nodes wait until they are taken, only the first `count` are decided, and only the first n rows wait.
pub record Tracked (count n : ℕ) (taken : ℕ → Bool) (v : Live) : Type 0 where
  pub queued : Queued taken v.marks
  pub low : Low count v.marks
  pub dirty : Among n v.dirty
  pub residuals : Among n v.residuals

-- Every row can be run, and its figures have room for the weights of all edges that are still to be drained: each moves a figure by
-- less than drain_limit.
pub record Within (h : HeldRows) (nodes : List (List ℕ)) (v : Live) : Type 0 where
  pub taken : ℕ → Bool
  pub tracked : Tracked (length nodes) (length h.rows) taken v
  pub range : ℕ
  pub runnable : Runnable h range v
  pub room : range + owed nodes taken (length nodes) * drain_limit ≤ room_limit

pub record Going (h : HeldRows) (nodes : List (List ℕ)) (v : Live) : Type 0 where
  pub sound : Sound v
  pub within : Within h nodes v

-- Memory that can be sealed: every decided node waits once, and none was drained.
pub record Fresh (b : Built) (v : Live) : Type 0 where
  pub sound : Sound v
  pub tracked : Tracked (length b.nodes) (length b.held.rows) (λ (n : ℕ). false) v
