-- What a row that is run, a state that is stored and a row that is queued keep, a guard, a condition and a row's prefixes keep too.
-- Assumes nothing.
use Rattle.std.specs.Prelude.{ℕ, ◌<◌, ◌≡◌, Bool, true, false, cond, ◌||◌, List, length, get_or, set, ℤ}
use native.Mathlib.Decide.{ℕ_discrete}
use Rattle.std.proofs.Common.{arith, sym, ap, ap₂, ◌∙◌, get_or-set_same, get_or-set_other}
use Rattle.base.specs.All.{All}
use Rattle.base.specs.AllLaws.{all_each}
use Rattle.memory.specs.Buffers.{HeldRows}
use Rattle.state.specs.declared.State.{State}
use Rattle.queues.specs.Queue.{Rows, oldest, queue_row, next_row}
use Rattle.queues.specs.QueueLaws.{row-waits, row_new}
use Rattle.queues.specs.RowsLaws.{flags_oldest, oldest-row}
use Rattle.queues.specs.Waiting.{Flags, Queued}
use Rattle.queues.specs.Marks.{Marks, decide}
use Rattle.queues.proofs.MarksLaws.{decide_other}
use Rattle.rows.specs.Rows.{Row, no_row, edges_of}
use Rattle.links.specs.Links.{neighbours}
use Rattle.row_runs.specs.Row.{wants_residual}
use Rattle.row_moves.specs.Between.{Index, Live, Did, state_at, residual_queued, run_with, run_row, guard_of, threshold_condition, threshold_prefixes}
use Rattle.row_moves.specs.Held.{GuardsShaped, LinksShaped, HoldsGuards, HoldsLinks}
use Rattle.row_moves.specs.GuardLaws.{guard_held}
use Rattle.row_moves.specs.WalkLaws.{Moves, keep_guard, keep_condition, keep_prefixes}
use Rattle.row_moves.specs.KeptLaws.{Light}
use Rattle.row_moves.specs.KeptHeldLaws.{links_inside}
use Rattle.theorem_follows.specs.WaitingLaws.{queued_decide}
use Rattle.row_moves.specs.KeepsLaws.{run_named}
use Rattle.row_moves.specs.Ready.{Names}
use Rattle.theorem_follows.specs.KeepsLaws.{run_keeps}
use Rattle.theorem_follows.specs.Ordered.{Ordered}
use Rattle.theorem_keeps.specs.Serves.{Among, Low, Tracked}

-- Of rows that the buffers hold.
abbrev pub Inside : HeldRows → ℕ → Type 0
Inside h r = r < length h.rows

module _ (x : Index) (h : HeldRows) (Q : Live → Type 0) (m : Moves x (Inside h) Q) where
  pub keep_guard_of : (nodes : List (List ℕ)) (bounds : List ℤ) → GuardsShaped h nodes bounds → HoldsGuards x nodes bounds → (n : ℕ) → n < length nodes
      → (v : Live) → Q v → Q (guard_of x v x.thresholds n).live
  keep_guard_of nodes bounds y z n k v q = guard_held x h nodes bounds y z n k v (λ (d : Did). Q d.live) q (λ t r c. keep_guard x (Inside h) Q m v t r q)

  pub keep_edges : (v : Live) (n : ℕ) → All (Light h) (edges_of x.rows n) → Q v → Q (threshold_condition x v n).live
  keep_edges v n l q = keep_condition x (Inside h) Q m v n (λ e i. (all_each (Light h) (edges_of x.rows n) l e i).row) q

  pub keep_links : (links : List ℕ) → LinksShaped h links → HoldsLinks x h links → (r : ℕ) → r < length h.rows → (v : Live) → Q v → Q (threshold_prefixes x v r).live
  keep_links links y z r k v q = keep_prefixes x (Inside h) Q m v r (all_each (Inside h) (neighbours r x.links) (links_inside x h links y z r k)) q

-- ---- rows that wait

pub among-queue : (n : ℕ) (q : Rows) (r : ℕ) → r < n → Among n q → Among n (queue_row q r)
among-queue n q r k a i l = by (ℕ_discrete (get_or q.pending r 0) 1)
  where
    by : Dec (get_or q.pending r 0 ≡ 1) → get_or (queue_row q r).pending i 0 ≡ 0
    by (yes e) = rw (row-waits q r e) (a i l)
    by (no e) = rw (row_new q r e) (get_or-set_other q.pending r i 1 0 (λ (f : i ≡ r). omega arith) ∙ a i l)

pub among_next : (n : ℕ) (q : Rows) → Flags q → 0 < q.queue.ring.count → Among n q → Among n (next_row q)
unfolding next_row
among_next n q f some a i l = by (ℕ_discrete i (oldest q.queue))
  where
    o : ℕ
    o = oldest q.queue

    by : Dec (i ≡ o) → get_or (set q.pending o 0) i 0 ≡ 0
    by (yes e) = ap (λ (j : ℕ). get_or (set q.pending o 0) j 0) e ∙ get_or-set_same q.pending o 0 0 (oldest-row q f some)
    by (no e) = get_or-set_other q.pending o i 0 0 e ∙ a i l

-- The oldest is one of them.
pub oldest-among : (n : ℕ) (q : Rows) → Flags q → 0 < q.queue.ring.count → Among n q → oldest q.queue < n
oldest-among n q f some a = by (native.Mathlib.Decide.dec_lt (oldest q.queue) n)
  where
    by : Dec (oldest q.queue < n) → oldest q.queue < n
    by (yes k) = k
    by (no k) = absurd (omega (arith, flags_oldest q f some, a (oldest q.queue) (omega arith)))

among-residual : (n : ℕ) (row : Row) (s : State) (q : Rows) (r : ℕ) → r < n → Among n q → Among n (residual_queued row s q r)
among-residual n row s q r k a = by (wants_residual row s)
  where
    by : (b : Bool) → Among n (cond b (queue_row q r) q)
    by true = among-queue n q r k a
    by false = a

-- ---- which nodes are decided

pub low_decide : (count : ℕ) (value : Bool) (m : Marks) (n : ℕ) → n < count → Low count m → Low count (decide value m n).marks
low_decide count value m n k l i d = by (ℕ_discrete i n)
  where
    by : Dec (i ≡ n) → i < count
    by (yes e) = omega arith
    by (no e) = l i (sym (ap₂ (λ (a b : Bool). a || b) (decide_other value m n true i e) (decide_other value m n false i e)) ∙ d)

-- ---- what is tracked stays so

module _ (x : Index) (count n : ℕ) (taken : ℕ → Bool) (ordered : (r : ℕ) → r < length x.rows → Ordered (get_or x.rows r no_row))
    (names : (r : ℕ) → r < length x.rows → Names (λ (i : ℕ). i < count) (get_or x.rows r no_row)) where
  pub tracked_run : (v : Live) (r : ℕ) → r < n → Tracked count n taken v → Tracked count n taken (run_row x v r).live
  unfolding run_row run_with
  tracked_run v r k t = record {
    queued = run_keeps (Queued taken) (queued_decide taken) x ordered v r t.queued;
    low = run_named (Low count) (λ (i : ℕ). i < count) (low_decide count) x names v r t.low;
    dirty = t.dirty;
    residuals = among-residual n (get_or x.rows r no_row) (state_at v r) v.residuals r k t.residuals;
  }

  pub tracked_moves : Moves x (λ (r : ℕ). r < n) (Tracked count n taken)
  tracked_moves = record {
    run = tracked_run;
    put = λ v r s t. record { queued = t.queued; low = t.low; dirty = t.dirty; residuals = t.residuals };
    wait = λ v r k t. record { queued = t.queued; low = t.low; dirty = among-queue n v.dirty r k t.dirty; residuals = t.residuals };
  }
