-- A row that is run, a drained guard, a drained condition and bounds that a row hands on leave no more to do than before.
-- Assumes nothing.
use Rattle.std.specs.Prelude.{ℕ, ◌+◌, ◌≤◌, ◌<◌, ◌≡◌, Bool, true, false, cond, length, set, eqb}
use Rattle.std.proofs.Math.Nat.{le_refl}
use Rattle.std.proofs.Math.Decide.{ℕ_discrete}
use Rattle.std.proofs.Common.{arith, ◌∙◌}
use mathlib.Core.List.{List, Memᴰ}
use Rattle.std.proofs.Math.ListN.{get_or, length-set}
use Rattle.base.specs.AllLaws.{all_each}
use Rattle.memory.specs.Limits.{max_nodes, max_thresholds}
use Rattle.numeric.specs.Threshold.{Threshold}
use Rattle.state.specs.declared.State.{State}
use Rattle.state.specs.State.{no_state, drained}
use Rattle.words.specs.Mask.{bit}
use Rattle.queues.specs.Queue.{Rows, push, queue_row}
use Rattle.queues.specs.QueueLaws.{row-waits, row_new}
use Rattle.queues.specs.RowsLaws.{flags_queue}
use Rattle.queues.specs.Marks.{Marks, decide}
use Rattle.queues.proofs.MarksLaws.{waits-decide}
use Rattle.queues.specs.Waiting.{Waits, Flags}
use Rattle.rows.specs.Guards.{Bound}
use Rattle.rows.specs.Rows.{Row, no_row, Edge, edges_of, row_number}
use Rattle.links.specs.Links.{neighbours}
use Rattle.row_runs.specs.Row.{Ran, threshold_row, wants_residual}
use Rattle.row_runs.proofs.RowLaws.{Kept, kept_row}
use Rattle.row_moves.specs.Between.{Index, Live, Did, state_at, with_state, residual_queued, run_with, run_row, linked_queued, threshold_guard, guard_of, threshold_condition, term_count, threshold_prefixes, with_dirty_rows}
use Rattle.row_moves.specs.LoopLaws.{drained_lower, drained_upper}
use Rattle.row_moves.specs.Handing.{edge_run, moved, moved_run, guard_row, guard_told}
use Rattle.row_moves.specs.WalkLaws.{guard-ends, guard_of_ends, condition_keeps, prefix_keeps}
use Rattle.row_moves.specs.KeepsLaws.{Small, names_all, row_named_lem}
use Rattle.theorem_ends.specs.LeftLaws.{load, load_decide}
use Rattle.theorem_ends.specs.RoomsLaws.{room, rooms, rooms_set, set-bounded, bounded_same, room_same, tells_guard, tells_moved}
use Rattle.theorem_ends.specs.Sound.{Bounded, Indexed, Sound}
use Rattle.theorem_ends.specs.TurnsLaws.{core, left}

-- One came of the other, and has no more left to do.
pub record Then (v w : Live) : Type 0 where
  pub sound : Sound w
  pub core : core w ≤ core v

pub same : (v : Live) → Sound v → Then v v
same v s = record { sound = s; core = le_refl (core v) }

pub then : (u v w : Live) → Then u v → Then v w → Then u w
then u v w a b = record { sound = b.sound; core = omega (arith, a.core, b.core) }

-- ---- queues

pub count-queue : (q : Rows) (r : ℕ) → (queue_row q r).queue.ring.count ≤ q.queue.ring.count + 1
unfolding push
count-queue q r = by (ℕ_discrete (get_or q.pending r 0) 1)
  where
    by : Dec (get_or q.pending r 0 ≡ 1) → (queue_row q r).queue.ring.count ≤ q.queue.ring.count + 1
    by (yes e) = rw (row-waits q r e) (omega arith)
    by (no n) = rw (row_new q r n) (omega arith)

-- A row that is queued or not.
pub record Queued (q p : Rows) : Type 0 where
  pub flags : Flags p
  pub count : p.queue.ring.count ≤ q.queue.ring.count + 1

queued : (q : Rows) (r : ℕ) → Flags q → r < max_thresholds → Queued q (queue_row q r)
queued q r f h = record { flags = flags_queue q f r h; count = count-queue q r }

queued_not : (q : Rows) → Flags q → Queued q q
queued_not q f = record { flags = f; count = omega arith }

queued_residual : (row : Row) (s : State) (q : Rows) (r : ℕ) → Flags q → r < max_thresholds → Queued q (residual_queued row s q r)
queued_residual row s q r f h = by (wants_residual row s)
  where
    by : (b : Bool) → Queued q (cond b (queue_row q r) q)
    by true = queued q r f h
    by false = queued_not q f

queued_linked : (n : ℕ) (q : Rows) (r : ℕ) → Flags q → r < max_thresholds → Queued q (linked_queued n q r)
queued_linked n q r f h = by (eqb n 0)
  where
    by : (b : Bool) → Queued q (cond b q (queue_row q r))
    by true = queued_not q f
    by false = queued q r f h

-- ---- a row

-- Marks that came of others.
abbrev Less : Marks → Marks → Type 0
Less m k = Waits k × (load k ≤ load m)

pub less_decide : (m : Marks) (value : Bool) (k : Marks) (n : ℕ) → n < max_nodes → Less m k → Less m (decide value k n).marks
less_decide m value k n h p = (waits-decide k p.0 value n h, omega (arith, load_decide k p.0 value n h, p.1))

-- A state that is put anew with the bounds that it had.
put_same : (ss : List State) (r : ℕ) (s : State) → length ss ≡ max_thresholds → r < max_thresholds → s.lower ≡ (get_or ss r no_state).lower → s.upper ≡ (get_or ss r no_state).upper
    → rooms (set ss r s) ≡ rooms ss
put_same ss r s l h e f = omega (arith, rooms_set ss r s (omega arith), room_same (get_or ss r no_state) s e f)

-- A row that is run leaves no more to do, but may wait for a residual.
pub record Run (v w : Live) : Type 0 where
  pub go : Then v w
  pub more : w.residuals.queue.ring.count ≤ v.residuals.queue.ring.count + 1

module _ (x : Index) (ix : Indexed x) where
  pub run_row_lem : (v : Live) (r : ℕ) → Sound v → r < max_thresholds → Run v (run_row x v r).live
  unfolding run_with run_row
  run_row_lem v r s h = record {
    go = record {
      sound = record {
        long = length-set v.states r a.state ∙ s.long;
        states = set-bounded v.states r a.state s.states
            (bounded_same (state_at v r) a.state kept.moved.lower kept.moved.upper (s.states r));
        waits = marked.0;
        dirty = s.dirty;
        residuals = queue.flags;
      };
      core = omega (arith, marked.1, put_same v.states r a.state s.long h kept.moved.lower kept.moved.upper);
    };
    more = queue.count;
  }
    where
      row : Row
      row = get_or x.rows r no_row

      a : Ran
      a = threshold_row row (state_at v r) v.marks

      kept : Kept (state_at v r) a
      kept = kept_row row (state_at v r) v.marks (ix.nodes r) (ix.conditions r) s.waits

      marked : Less v.marks a.marks
      marked =
          row_named_lem (Less v.marks) Small (less_decide v.marks) row
          (names_all Small row (ix.nodes r) (ix.conditions r)) (state_at v r) v.marks (s.waits, le_refl (load v.marks))

      queue : Queued v.residuals (residual_queued row (state_at v r) v.residuals r)
      queue = queued_residual row (state_at v r) v.residuals r s.residuals h

  -- A bound that moves, and its row that may wait to hand it on.
  told : (v : Live) (r : ℕ) (t : State) (q : Rows) → Sound v → r < max_thresholds → Bounded t → room t < room (state_at v r) → Queued v.dirty q
      → let w = with_dirty_rows (with_state v r t) q in Sound w × (core w + 3 ≤ core v)
  told v r t q s h b less k = (
    record {
      long = length-set v.states r t ∙ s.long;
      states = set-bounded v.states r t s.states b;
      waits = s.waits;
      dirty = k.flags;
      residuals = s.residuals;
    },
    omega (arith, rooms_set v.states r t (omega (arith, s.long)), k.count),
  )

  -- With it the row is run.
  told-run : (v : Live) (r : ℕ) (t : State) (q : Rows) → Sound v → r < max_thresholds → Bounded t → room t < room (state_at v r) → Queued v.dirty q
      → let w = (run_row x (with_dirty_rows (with_state v r t) q) r).live in Then v w × (left w ≤ left v)
  told-run v r t q s h b less k =
      let a = told v r t q s h b less k in
      let c = run_row_lem (with_dirty_rows (with_state v r t) q) r a.0 h in (
        record { sound = c.go.sound; core = omega (arith, a.1, c.go.core) },
        omega (arith, a.1, c.go.core, c.more),
      )

  -- ---- a drained guard

  run-guard : (v : Live) (t : Threshold) → Sound v → Bound t.bound × (row_number x.rows t.terms < max_thresholds) → Then v (threshold_guard x v t).live
  run-guard v t s b =
      let r = guard_row x t in
      let n = length (neighbours r x.links) in
      let tells = tells_guard (state_at v r) (bit v.marks.sure t.node) t.bound (s.states r) b.0 in
      guard-ends x v t (λ (d : Did). Then v d.live) (λ e. same v s)
      (λ e. (told-run v r (guard_told x v t).state (linked_queued n v.dirty r) s b.1 tells.bounded (tells.less e) (queued_linked n v.dirty r s.dirty b.1)).0)

  pub run_guards : (v : Live) (n : ℕ) → Sound v → Then v (guard_of x v x.thresholds n).live
  run_guards v n s =
      guard_of_ends x v n (λ (d : Did). Then v d.live) x.thresholds
      (λ t m e. run-guard v t s (all_each (λ (u : Threshold). Bound u.bound × (row_number x.rows u.terms < max_thresholds)) x.thresholds ix.thresholds t m)) (λ f. same v s)

  -- ---- a drained condition

  drain-term : (v : Live) (value : Bool) (e : Edge) → Sound v → e.row < max_thresholds → Then v (with_state v e.row (drained value e.weight (state_at v e.row)))
  drain-term v value e s h =
      let t = drained value e.weight (state_at v e.row) in
      let a = drained_lower value e.weight (state_at v e.row) in
      let b = drained_upper value e.weight (state_at v e.row) in
      record {
        sound = record {
          long = length-set v.states e.row t ∙ s.long;
          states = set-bounded v.states e.row t s.states (bounded_same (state_at v e.row) t a b (s.states e.row));
          waits = s.waits;
          dirty = s.dirty;
          residuals = s.residuals;
        };
        core = omega (arith, put_same v.states e.row t s.long h a b);
      }

  run-edge : (v : Live) (value : Bool) (e : Edge) → Sound v → e.row < max_thresholds → Then v (edge_run x value e v).live
  run-edge v value e s h =
      let w = with_state v e.row (drained value e.weight (state_at v e.row)) in
      let first = drain-term v value e s h in
      then v w (edge_run x value e v).live first (run_row_lem w e.row first.sound h).go

  pub run_condition : (v : Live) (node : ℕ) → Sound v → Then v (threshold_condition x v node).live
  unfolding threshold_condition
  run_condition v node s =
      let value = bit v.marks.sure node in
      condition_keeps x (Then v) value (edges_of x.rows node)
      (λ e u m p. then v u (edge_run x value e u).live p (run-edge u value e p.sound (all_each (λ (f : Edge). f.row < max_thresholds) (edges_of x.rows node) (ix.edges node) e m))) v (same v s)

  -- ---- bounds that a row hands on

  pub run_prefixes : (v : Live) (row : ℕ) → Sound v → Sound (threshold_prefixes x v row).live × (left (threshold_prefixes x v row).live ≤ left v)
  unfolding threshold_prefixes
  run_prefixes v row s = prefix_keeps x (λ (w : Live). Sound w × (left w ≤ left v)) row source (neighbours row x.links) one v (s, le_refl (left v))
    where
      source : State
      source = state_at v row

      one : (r : ℕ) (u : Live) → Memᴰ r (neighbours row x.links) → (moved x row source r u).changed ≡ true → Sound u × (left u ≤ left v)
          → let w = (moved_run x row source r u).live in Sound w × (left w ≤ left v)
      one r u m e p =
          let h = all_each (λ (q : ℕ). q < max_thresholds) (neighbours row x.links) (ix.linked row) r m in
          let tells = tells_moved source (state_at u r) (term_count x row) (term_count x r) (s.states row) (p.0.states r) in
          let a = told-run u r (moved x row source r u).state (queue_row u.dirty r) p.0 h tells.bounded (tells.less e) (queued u.dirty r p.0.dirty h) in
          (a.0.sound, omega (arith, a.1, p.1))
