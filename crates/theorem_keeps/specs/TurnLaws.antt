-- One turn: what a taken node and a taken row come to, and that all stays such that the next can be taken. Assumes nothing.
use Rattle.std.specs.Prelude.{ℕ, zero, suc, ◌+◌, ◌-◌, ◌*◌, ◌<◌, ◌≤◌, ◌≡◌, refl, Bool, true, false, cond, ◌||◌, List, length, get_or, ℤ}
use Rattle.std.proofs.Common.{not-suc-le-zero, arith, sym, subst, ◌∙◌}
use Rattle.std.proofs.Math.Decide.{ℕ_discrete, dec_lt}
use Rattle.std.proofs.Math.Path.{ap}
use Rattle.base.specs.TestLaws.{clash}
use Rattle.memory.specs.Limits.{max_nodes}
use Rattle.memory.specs.Ranges.{drain_limit, room_limit, figure_limit}
use Rattle.memory.specs.Buffers.{HeldRows, Built}
use Rattle.base.specs.Columns.{column}
use Rattle.base.specs.ColumnsLaws.{length-column}
use Rattle.state.specs.declared.Step.{Step}
use Rattle.state.specs.Step.{joined, contradicts}
use Rattle.words.specs.Mask.{bit}
use Rattle.words.specs.MaskLaws.{bit-behind}
use Rattle.queues.specs.declared.Ring.{Ring}
use Rattle.queues.specs.Queue.{Rows, queue, is_empty, oldest, popped_ring, popped, next_row}
use Rattle.queues.specs.Slot.{rows_in}
use Rattle.queues.specs.RowsLaws.{flags_next, oldest-row}
use Rattle.queues.specs.Marks.{Marks, marks, is_decided}
use Rattle.queues.proofs.MarksLaws.{waits-popped}
use Rattle.queues.specs.Waiting.{Waits, Flags}
use Rattle.row_moves.specs.Between.{Index, Live, Did, did, guard_of, threshold_condition, threshold_prefixes, with_dirty_rows, with_marks, with_residuals}
use Rattle.row_moves.specs.Handing.{after}
use Rattle.row_moves.specs.Held.{start_by, end_by}
use Rattle.row_moves.specs.WalkLaws.{Moves}
use Rattle.row_moves.specs.Ready.{Ready, Runnable}
use Rattle.row_moves.specs.KeptLaws.{runnable_more, runnable_by}
use Rattle.row_moves.specs.KeptHeldLaws.{edges_light, edges_many, kept_node, kept-links, kept-guard_of}
use Rattle.drain.specs.Drain.{take_node, take_row, turn, at_rest}
use Rattle.drain.proofs.DrainLaws.{node_ends, row_ends_lem, turn-ends}
use Rattle.drain.specs.Steps.{untaken, unrowed, node_told, node_drained}
use Rattle.theorem_ends.proofs.SettlesLaws.{fall_turn}
use Rattle.theorem_follows.specs.StandsLaws.{also, also_other, also_this}
use Rattle.theorem_follows.specs.WaitingLaws.{first-decided, first-fresh, queued_taken}
use Rattle.theorem_keeps.specs.Serves.{Serves, Among, owed, Tracked, Within, Going}
use Rattle.theorem_keeps.specs.KeepingLaws.{Inside, keep_guard_of, keep_edges, keep_links, among_next, oldest-among, tracked_moves}

-- ---- edges that are not drained yet

owed_same : (nodes : List (List ℕ)) (f g : ℕ → Bool) (n : ℕ) → ((k : ℕ) → k < n → g k ≡ f k) → owed nodes g n ≡ owed nodes f n
unfolding owed
owed_same nodes f g zero h = refl
owed_same nodes f g (suc n) h =
    let a : ◌≡◌ {A = ℕ} (cond (g n) 0 (end_by 2 nodes n - start_by 2 nodes n)) (cond (f n) 0 (end_by 2 nodes n - start_by 2 nodes n)) = ap (λ (b : Bool). cond b 0 (end_by 2 nodes n - start_by 2 nodes n)) (h n (omega arith)) in
    let b = owed_same nodes f g n (λ k l. h k (omega arith)) in
    omega arith

-- A node that is taken owes its edges no more.
pub owed_also : (nodes : List (List ℕ)) (taken : ℕ → Bool) (at : ℕ) → taken at ≡ false → (n : ℕ) → at < n
    → owed nodes taken n ≡ (end_by 2 nodes at - start_by 2 nodes at) + owed nodes (also at taken) n
unfolding owed
owed_also nodes taken at e zero h = absurd (not-suc-le-zero h)
owed_also nodes taken at e (suc n) h = by (λ l. owed_also nodes taken at e n l) (ℕ_discrete at n)
  where
    many : ℕ → ℕ
    many k = end_by 2 nodes k - start_by 2 nodes k

    by : (at < n → owed nodes taken n ≡ many at + owed nodes (also at taken) n) → Dec (at ≡ n)
        → cond (taken n) 0 (many n) + owed nodes taken n ≡ many at + (cond (also at taken n) 0 (many n) + owed nodes (also at taken) n)
    by ih (yes q) =
        let a : ◌≡◌ {A = ℕ} (cond (taken n) 0 (many n)) (many at) = ap (λ (b : Bool). cond b 0 (many n)) (ap taken (sym q) ∙ e) ∙ ap many (sym q) in
        let b : ◌≡◌ {A = ℕ} (cond (also at taken n) 0 (many n)) 0 = ap (λ (b : Bool). cond b 0 (many n)) (also_this at taken n (sym q)) in
        let c = owed_same nodes taken (also at taken) n (λ k l. also_other at taken k (λ (z : k ≡ at). omega arith)) in
        omega arith
    by ih (no q) =
        let b : ◌≡◌ {A = ℕ} (cond (also at taken n) 0 (many n)) (cond (taken n) 0 (many n)) = ap (λ (b : Bool). cond b 0 (many n)) (also_other at taken n (λ (z : n ≡ at). q (sym z))) in
        let c = ih (omega arith) in
        omega arith

-- ---- a node is taken

-- No other node has a place in the masks.
decided_small : (m : Marks) → Waits m → (n : ℕ) → is_decided m n ≡ true → n < max_nodes
decided_small m w n d = by (dec_lt n max_nodes)
  where
    by : Dec (n < max_nodes) → n < max_nodes
    by (yes k) = k
    by (no k) =
        let l : max_nodes ≤ n = omega arith in
        absurd (clash (is_decided m n) d (ap (λ (b : Bool). b || bit m.never n) (bit-behind m.sure n (omega (arith, w.sures))) ∙ bit-behind m.never n (omega (arith, w.nevers))))

-- One of so many nodes is taken, and rows can be run.
pub record NodeTaken (h : HeldRows) (count n : ℕ) (v : Live) : Type 0 where
  pub there : n < count
  pub small : n < max_nodes
  pub run : Runnable h figure_limit v

module _ (x : Index) (bounds : List ℤ) (b : Built) (s : Serves x bounds b) (v : Live) (g : Going b.held b.nodes v) (some : 0 < v.marks.nodes.ring.count) where
  abbrev n : ℕ
  n = oldest v.marks.nodes

  abbrev w : Within b.held b.nodes v
  w = g.within

  abbrev now : ℕ → Bool
  now = also n w.taken

  small : n < max_nodes
  small = decided_small v.marks g.sound.waits n (first-decided w.taken v.marks w.tracked.queued some)

  there : n < length b.nodes
  there = w.tracked.low n (first-decided w.taken v.marks w.tracked.queued some)

  first_run : Runnable b.held w.range (untaken v)
  first_run =
      let y = w.runnable.ready in
      record {
        ready = record { long = y.long; fit = y.fit; waits = waits-popped v.marks y.waits some; flags = y.flags };
        dirty = w.runnable.dirty;
      }

  first-tracked : Tracked (length b.nodes) (length b.held.rows) now (untaken v)
  first-tracked = record {
    queued = queued_taken w.taken v.marks w.tracked.queued some;
    low = w.tracked.low;
    dirty = w.tracked.dirty;
    residuals = w.tracked.residuals;
  }

  abbrev told : Did
  told = node_told x v

  told-run : Runnable b.held w.range told.live
  told-run = kept-guard_of x b.held b.nodes bounds s.guarded s.holds_guards n there s.holds s.shaped w.range (untaken v) first_run

  moves : Moves x (Inside b.held) (Tracked (length b.nodes) (length b.held.rows) now)
  moves = tracked_moves x (length b.nodes) (length b.held.rows) now s.ordered s.names

  told-tracked : Tracked (length b.nodes) (length b.held.rows) now told.live
  told-tracked =
      keep_guard_of x b.held (Tracked (length b.nodes) (length b.held.rows) now) moves b.nodes bounds s.guarded s.holds_guards n there (untaken v) first-tracked

  abbrev then : Did
  then = node_drained x v

  then-run : Runnable b.held (w.range + (end_by 2 b.nodes n - start_by 2 b.nodes n) * drain_limit) then.live
  then-run =
      subst (λ (i : ℕ). Runnable b.held (w.range + i * drain_limit) then.live) (edges_many x b.held b.nodes b.edges s.edged s.holds_edges n there)
      (kept_node x b.held b.nodes b.edges s.edged s.holds_edges n there s.holds s.shaped w.range told.live told-run)

  then-tracked : Tracked (length b.nodes) (length b.held.rows) now then.live
  then-tracked =
      keep_edges x b.held (Tracked (length b.nodes) (length b.held.rows) now) moves told.live n
      (edges_light x b.held b.nodes b.edges s.edged s.holds_edges n there) told-tracked

  less : owed b.nodes w.taken (length b.nodes) ≡ (end_by 2 b.nodes n - start_by 2 b.nodes n) + owed b.nodes now (length b.nodes)
  less = owed_also b.nodes w.taken n (first-fresh w.taken v.marks w.tracked.queued some) (length b.nodes) there

  within-node : Within b.held b.nodes (take_node x v).live
  within-node =
      node_ends x v (λ (d : Did). Within b.held b.nodes d.live)
      (λ e. record { taken = now; tracked = told-tracked; range = w.range; runnable = told-run; room = omega (arith, w.room, less) })
      (λ e. record {
        taken = now;
        tracked = then-tracked;
        range = w.range + (end_by 2 b.nodes n - start_by 2 b.nodes n) * drain_limit;
        runnable = then-run;
        room = omega (arith, w.room, less);
      })

  -- The node and the ring as the code has them.
  module _ (i : ℕ) (e : i ≡ n) (next : Ring) (f : next ≡ popped_ring max_nodes v.marks.nodes.ring) where
    abbrev pub rest : Live
    rest = with_marks v (marks v.marks.sure v.marks.never (queue v.marks.nodes.items next))

    rest-is : rest ≡ untaken v
    unfolding popped
    rest-is = ap (λ (r : Ring). with_marks v (marks v.marks.sure v.marks.never (queue v.marks.nodes.items r))) f

    pub node_taken : NodeTaken b.held (length b.nodes) i rest
    node_taken = record {
      there = omega (arith, there);
      small = omega (arith, small);
      run = subst (Runnable b.held figure_limit) (sym rest-is) (runnable_more b.held w.range figure_limit (untaken v) (omega (arith, w.room)) first_run);
    }

    module _ (o : Did) (made : o ≡ guard_of x rest x.thresholds i) where
      guard_is : o ≡ told
      guard_is = made ∙ ap (λ (u : Live). guard_of x u x.thresholds i) rest-is ∙ ap (guard_of x (untaken v) x.thresholds) e

      pub node_next_run : Runnable b.held room_limit o.live
      node_next_run = runnable_by b.held room_limit o told guard_is (runnable_more b.held w.range room_limit told.live (omega (arith, w.room)) told-run)

      pub node_stop : contradicts o.step ≡ true → o ≡ take_node x v
      node_stop h = node_ends x v (λ (d : Did). o ≡ d) (λ e. guard_is) (λ e. absurd (clash (contradicts o.step) h (ap (λ (t : Did). contradicts t.step) guard_is ∙ e)))

      pub node_next : contradicts o.step ≡ false → (c : Did) → c ≡ threshold_condition x o.live i → (k : Step) → k ≡ joined o.step c.step → did c.live k ≡ take_node x v
      node_next h c q k j =
          node_ends x v (λ (d : Did). did c.live k ≡ d) (λ f. absurd (clash (contradicts o.step) (ap (λ (t : Did). contradicts t.step) guard_is ∙ f) h))
          (λ f. ap (did c.live) j ∙ ap (after o.step) (q ∙ ap (threshold_condition x o.live) e) ∙ ap (λ (t : Did). after t.step (threshold_condition x t.live n)) guard_is)

-- ---- a row is taken

module _ (x : Index) (bounds : List ℤ) (b : Built) (s : Serves x bounds b) (v : Live) (g : Going b.held b.nodes v) (some : 0 < v.dirty.queue.ring.count) where
  abbrev r : ℕ
  r = oldest v.dirty.queue

  abbrev y : Within b.held b.nodes v
  y = g.within

  is_row : r < length b.held.rows
  is_row = oldest-among (length b.held.rows) v.dirty g.sound.dirty some y.tracked.dirty

  left-run : Runnable b.held y.range (unrowed v)
  left-run = record { ready = y.runnable.ready; dirty = flags_next v.dirty y.runnable.dirty some }

  left-tracked : Tracked (length b.nodes) (length b.held.rows) y.taken (unrowed v)
  left-tracked = record {
    queued = y.tracked.queued;
    low = y.tracked.low;
    dirty = among_next (length b.held.rows) v.dirty g.sound.dirty some y.tracked.dirty;
    residuals = y.tracked.residuals;
  }

  row-moves : Moves x (Inside b.held) (Tracked (length b.nodes) (length b.held.rows) y.taken)
  row-moves = tracked_moves x (length b.nodes) (length b.held.rows) y.taken s.ordered s.names

  within-row : Within b.held b.nodes (take_row x v).live
  within-row = row_ends_lem x v (λ (d : Did). Within b.held b.nodes d.live) (record {
    taken = y.taken;
    tracked = keep_links x b.held (Tracked (length b.nodes) (length b.held.rows) y.taken) row-moves b.links s.linked s.holds_links r is_row (unrowed v) left-tracked;
    range = y.range;
    runnable = kept-links x b.held b.links s.linked s.holds_links r is_row s.holds s.shaped y.range (unrowed v) left-run;
    room = y.room;
  })

-- As slots hold them.
module _ (k : ℕ) (slots : List (List ℕ)) (r : Ring) (f : Flags (rows_in k slots r)) where
  pub slots_head : r.head < length slots
  slots_head = omega (arith, f.held.head, f.held.long, length-column k slots)

  pub slots_oldest : 0 < r.count → get_or (column k slots) r.head 0 < length slots
  slots_oldest some = omega (arith, oldest-row (rows_in k slots r) f some, length-column (k + 1) slots)

-- The row and the queues as the code has them.
pub row_there : (n : ℕ) (q : Rows) → Flags q → 0 < q.queue.ring.count → Among n q → (i : ℕ) → i ≡ oldest q.queue → i < n
row_there n q f some a i e = omega (arith, oldest-among n q f some a)

module _ (v : Live) (some : 0 < v.dirty.queue.ring.count) (rows residuals : Rows) (e : rows ≡ next_row v.dirty) (f : residuals ≡ v.residuals) where
  pub row_run : (h : HeldRows) (n : ℕ) → Runnable h n v → Runnable h n (with_residuals (with_dirty_rows v rows) residuals)
  row_run h n a = record { ready = subst (Ready h n v.states v.marks) (sym f) a.ready; dirty = subst Flags (sym e) (flags_next v.dirty a.dirty some) }

  pub row_is : (x : Index) (i : ℕ) → i ≡ oldest v.dirty.queue → (o : Did) → o ≡ threshold_prefixes x (with_residuals (with_dirty_rows v rows) residuals) i → o ≡ take_row x v
  row_is x i g o made =
      row_ends_lem x v (λ (d : Did). o ≡ d)
      (made
      ∙ ap (λ (q : Rows). threshold_prefixes x (with_residuals (with_dirty_rows v q) residuals) i) e
      ∙ ap (λ (q : Rows). threshold_prefixes x (with_residuals (with_dirty_rows v (next_row v.dirty)) q) i) f
      ∙ ap (threshold_prefixes x (unrowed v)) g)

-- ---- a turn

-- Every row can be run as it is.
pub going_run : (h : HeldRows) (nodes : List (List ℕ)) (v : Live) → Going h nodes v → Runnable h figure_limit v
going_run h nodes v g = let w = g.within in runnable_more h w.range figure_limit v (omega (arith, w.room)) w.runnable

-- A row's turn, or a node's.
abbrev turn_of : Index → Live → Bool → Did
turn_of x v row = elim row [ true ↦ take_row x v | false ↦ take_node x v ]

pub turn_is : (x : Index) (v : Live) (o : Did) (row : Bool) → is_empty v.marks.nodes ≡ row → o ≡ turn_of x v row → o ≡ turn x v
turn_is x v o row e h = h ∙ ap (turn_of x v) (sym e)

pub going_turn : (x : Index) (bounds : List ℤ) (b : Built) → Serves x bounds b → (v : Live) → Going b.held b.nodes v → at_rest v ≡ false → Going b.held b.nodes (turn x v).live
going_turn x bounds b s v g h = record {
  sound = (fall_turn x s.indexed v g.sound h).0;
  within = turn-ends x v (λ (d : Did). Within b.held b.nodes d.live) h (within-node x bounds b s v g) (within-row x bounds b s v g);
}
