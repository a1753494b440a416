-- For callers: what is ready stays so through a row that is run, a guard, a condition and a row's prefixes, on values. Assumes nothing.
use Rattle.std.specs.Prelude.{ℕ, ◌+◌, ◌*◌, ◌<◌, ◌≤◌, ◌≡◌, Bool, true, false, cond, eqb}
use Rattle.std.proofs.Common.{arith, sym}
use mathlib.Core.List.{List, Memᴰ}
use Rattle.std.proofs.Math.ListN.{length}
use Rattle.std.specs.Int.Signed.{mag}
use Rattle.base.specs.All.{All}
use Rattle.base.specs.AllLaws.{all_each}
use Rattle.memory.specs.Buffers.{HeldRows}
use Rattle.numeric.specs.Threshold.{Threshold}
use Rattle.state.specs.declared.State.{State}
use Rattle.state.specs.State.{drained}
use Rattle.words.specs.Mask.{bit}
use Rattle.queues.specs.Queue.{Rows, queue_row}
use Rattle.queues.specs.RowsLaws.{flags_queue}
use Rattle.queues.specs.Waiting.{Flags}
use Rattle.rows.specs.Rows.{Edge, row_number}
use Rattle.links.specs.Links.{neighbours}
use Rattle.memory.specs.Limits.{max_thresholds}
use Rattle.memory.specs.Ranges.{figure_limit, weight_limit, drain_limit}
use Rattle.row_moves.specs.Between.{Index, Live, Did, state_at, with_state, linked_queued, run_with, run_row, threshold_guard, condition_from, term_count, threshold_prefixes, with_dirty_rows}
use Rattle.row_moves.specs.Held.{Shaped, Holds}
use Rattle.row_moves.specs.HeldLaws.{run_held}
use Rattle.row_moves.specs.Ready.{Fit, Runnable}
use Rattle.row_moves.specs.ReadyLaws.{ready_more, ready_set, ready_run, ready_by, fit_drained, fit_guard, fit_prefix}
use Rattle.row_moves.specs.LoopLaws.{condition_walk}
use Rattle.row_moves.specs.Handing.{edge_run, guard_row, guard_told}
use Rattle.row_moves.specs.WalkLaws.{walks, guard-ends, prefix_keeps}

pub runnable_by : (h : HeldRows) (n : ℕ) (c d : Did) → c ≡ d → Runnable h n d.live → Runnable h n c.live
runnable_by h n c d e a = rw e a

pub runnable_more : (h : HeldRows) (n k : ℕ) (v : Live) → n ≤ k → Runnable h n v → Runnable h k v
runnable_more h n k v l a = record { ready = ready_more h n k v.states v.marks v.residuals l a.ready; dirty = a.dirty }

-- An edge to a row, light enough to be drained.
pub record Light (h : HeldRows) (e : Edge) : Type 0 where
  pub row : e.row < length h.rows
  pub weight : e.weight < weight_limit

module _ (x : Index) (h : HeldRows) (z : Holds x h) (y : Shaped h) where
  -- A row is run.
  pub kept_run : (n : ℕ) (v : Live) (r : ℕ) → r < length h.rows → Runnable h n v → Runnable h n (run_row x v r).live
  unfolding run_with run_row
  kept_run n v r k a = record { ready = ready_by h n (run_row x v r) (run_with _ v r) (sym (run_held x h z v r k)) (ready_run h n y v a.ready r k); dirty = a.dirty }

  -- A state of a row is stored.
  kept_store : (n : ℕ) (v : Live) (r : ℕ) (s : State) → Fit h n r s → Runnable h n v → Runnable h n (with_state v r s)
  kept_store n v r s f a = record { ready = ready_set h n v.states v.marks v.residuals a.ready r s f; dirty = a.dirty }

  -- A condition: the range grows by a step for each edge.
  pub kept_condition : (value : Bool) (es : List Edge) (n : ℕ) (v : Live) → All (Light h) es → Runnable h n v
      → Runnable h (n + length es * drain_limit) (condition_from x value es v).live
  kept_condition value es n v l a =
      walks (condition_walk x value) es Left (λ (d : Did). Runnable h (n + length es * drain_limit) d.live) (λ u k c p. up p.0 u (omega (arith, p.1)) p.2)
      (λ e fs u m p c. let o = one e m p.0 u p.2 in up (p.0 + drain_limit) (edge_run x value e u).live (omega (arith, p.1)) o)
      (λ e fs u m p c. (p.0 + drain_limit, omega (arith, p.1), one e m p.0 u p.2)) v (n, omega arith, a)
    where
      -- so far the range is such that the edges that are left fit too
      Left : List Edge → Live → Type 0
      Left fs u = (k : ℕ) × (k + length fs * drain_limit ≤ n + length es * drain_limit) × Runnable h k u

      up : (k : ℕ) (u : Live) → k ≤ n + length es * drain_limit → Runnable h k u → Runnable h (n + length es * drain_limit) u
      up k u i b = runnable_more h k (n + length es * drain_limit) u i b

      one : (e : Edge) → Memᴰ e es → (k : ℕ) (u : Live) → Runnable h k u → Runnable h (k + drain_limit) (edge_run x value e u).live
      one e m k u b =
          let i = all_each (Light h) es l e m in
          let s = drained value e.weight (state_at u e.row) in
          let f = fit_drained h k e.row (state_at u e.row) value e.weight i.weight (b.ready.fit e.row i.row) in
          kept_run (k + drain_limit) (with_state u e.row s) e.row i.row (kept_store (k + drain_limit) u e.row s f (runnable_more h k (k + drain_limit) u (omega arith) b))

  -- A row is told something, and waits to hand it on.
  kept-told : (n : ℕ) (v : Live) (r : ℕ) (s : State) (q : Rows) → r < length h.rows → Fit h n r s → Flags q → Runnable h n v
      → Runnable h n (run_row x (with_dirty_rows (with_state v r s) q) r).live
  kept-told n v r s q k f g a =
      kept_run n (with_dirty_rows (with_state v r s) q) r k (record { ready = ready_set h n v.states v.marks v.residuals a.ready r s f; dirty = g })

  flags-linked : (n : ℕ) (q : Rows) (r : ℕ) → r < max_thresholds → Flags q → Flags (linked_queued n q r)
  flags-linked n q r k f = by (eqb n 0)
    where
      by : (b : Bool) → Flags (cond b q (queue_row q r))
      by true = f
      by false = flags_queue q f r k

  -- A guard.
  pub kept-guard : (n : ℕ) (v : Live) (t : Threshold) → row_number x.rows t.terms < length h.rows → mag t.bound < figure_limit → Runnable h n v
      → Runnable h n (threshold_guard x v t).live
  kept-guard n v t k m a =
      let r = guard_row x t in
      let f = fit_guard h n r (state_at v r) (bit v.marks.sure t.node) t.bound m (a.ready.fit r k) in
      guard-ends x v t (λ (d : Did). Runnable h n d.live) (λ e. a)
      (λ e. kept-told n v r (guard_told x v t).state _ k f (flags-linked (length (neighbours r x.links)) v.dirty r (omega (arith, y.few)) a.dirty) a)

  -- The neighbours of a row: the source's bounds are in range as any row's are.
  pub kept-row_prefixes : (n : ℕ) (v : Live) (row : ℕ) → row < length h.rows → All (λ (r : ℕ). r < length h.rows) (neighbours row x.links) → Runnable h n v
      → Runnable h n (threshold_prefixes x v row).live
  unfolding threshold_prefixes
  kept-row_prefixes n v row k l a =
      prefix_keeps x (Runnable h n) row (state_at v row) (neighbours row x.links)
      (λ r u m e b.
      let i = all_each (λ (q : ℕ). q < length h.rows) (neighbours row x.links) l r m in
      let f = fit_prefix h n r (state_at v row) (state_at u r) (term_count x row) (term_count x r) (a.ready.fit row k).lower (a.ready.fit row k).upper (b.ready.fit r i) in
      kept-told n u r _ (queue_row u.dirty r) i f (flags_queue u.dirty b.dirty r (omega (arith, y.few))) b) v a
