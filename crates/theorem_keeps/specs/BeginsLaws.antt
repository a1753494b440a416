-- A mark and a seal: what the code puts together is the definition's, and with them all is such that draining can begin. Assumes nothing.
use Prim.Native.Nat.{ℕ, zero, suc, ◌-◌, ◌<◌, ◌≤◌}
use native.Mathlib.Omega.{arith}
use Rattle.std.specs.Prelude.{◌≡◌, Bool, true, false, cond, List, length, ℤ}
use Rattle.std.proofs.Common.{ap, ◌∙◌}
use Rattle.memory.specs.Limits.{max_nodes, max_terms}
use Rattle.memory.specs.Ranges.{total_limit, figure_limit}
use Rattle.memory.specs.Buffers.{HeldRows, Built}
use Rattle.state.specs.declared.State.{State}
use Rattle.state.specs.declared.Step.{Step}
use Rattle.state.specs.declared.Step.TheVariants.{Unchanged}
use Rattle.queues.specs.Queue.{Rows}
use Rattle.queues.specs.Marks.{Marks, Decided, decided, decide}
use Rattle.queues.proofs.MarksLaws.{waits-decide}
use Rattle.queues.specs.Waiting.{Waits, Flags}
use Rattle.row_moves.specs.Between.{Index, Live, Did, did, first_states, seed_from, with_states, with_marks}
use Rattle.row_moves.specs.Held.{start_by, end_by, EdgesShaped, Shaped, Holds}
use Rattle.row_moves.specs.Ready.{Ready, Runnable, Totals}
use Rattle.row_moves.specs.ReadyLaws.{ready_states}
use Rattle.row_moves.specs.FirstLaws.{ready_first}
use Rattle.row_moves.specs.KeptLaws.{kept_run}
use Rattle.drain.specs.Drain.{mark, seal}
use Rattle.drain.proofs.DrainLaws.{seal_keeps}
use Rattle.theorem_ends.proofs.SealsLaws.{seal_stays}
use Rattle.theorem_follows.specs.WaitingLaws.{queued_decide}
use Rattle.theorem_keeps.specs.Serves.{Serves, owed, Tracked, Going, Fresh}
use Rattle.theorem_keeps.specs.KeepingLaws.{low_decide, tracked_run}

-- ---- a mark

pub mark_is : (value : Bool) (v : Live) (n : ℕ) (m : Marks) (k : Step) → decided m k ≡ decide value v.marks n → did (with_marks v m) k ≡ mark v n value
unfolding mark
mark_is value v n m k e = ap (λ (d : Decided). did (with_marks v d.marks) d.step) e

pub going_mark : (b : Built) (v : Live) (value : Bool) (n : ℕ) → n < max_nodes → n < length b.nodes → Going b.held b.nodes v → Going b.held b.nodes (mark v n value).live
unfolding mark
going_mark b v value n h k g =
    let s = g.sound in
    let w = g.within in
    let a = waits-decide v.marks s.waits value n h in
    record {
      sound = record { long = s.long; states = s.states; waits = a; dirty = s.dirty; residuals = s.residuals };
      within = record {
        taken = w.taken;
        tracked = record { queued = queued_decide w.taken value v.marks n h w.tracked.queued; low = low_decide (length b.nodes) value v.marks n k w.tracked.low; dirty = w.tracked.dirty; residuals = w.tracked.residuals };
        range = w.range;
        runnable = record { ready = record { long = w.runnable.ready.long; fit = w.runnable.ready.fit; waits = a; flags = w.runnable.ready.flags }; dirty = w.runnable.dirty };
        room = w.room;
      };
    }

-- ---- a seal

-- Totals so far inside the range that all edges can be drained.
pub totals_more : (n k : ℕ) (cs ws : List ℕ) (rows : List (List ℕ)) → n ≤ k → Totals n cs ws rows → Totals k cs ws rows
totals_more n k cs ws rows l t r h = omega (arith, t r h)

pub seal_ready : (x : Index) (h : HeldRows) → Holds x h → Shaped h → Totals total_limit h.row-conditions h.row-weights h.rows → (ss ss' : List State) → length h.rows ≤ length ss
    → ss' ≡ first_states 0 x.rows ss → (m : Marks) → Waits m → (q : Rows) → Flags q → Ready h figure_limit ss' m q
seal_ready x h z y t ss ss' l e m w q f =
    ready_states h figure_limit (first_states 0 x.rows ss) ss' m q e
    (ready_first x h z y figure_limit (totals_more total_limit figure_limit h.row-conditions h.row-weights h.rows (omega arith) t) ss l m w q f)

pub seal_is : (x : Index) (v : Live) (ss : List State) → ss ≡ first_states 0 x.rows v.states → (o : Did)
    → o ≡ seed_from x 0 x.rows (with_states v ss) Unchanged → o ≡ seal x v
unfolding seal
seal_is x v ss e o made = made ∙ ap (λ (s : List State). seed_from x 0 x.rows (with_states v s) Unchanged) e

-- All edges together are no more than there are.
at_most : (b : Bool) (n : ℕ) → ◌≤◌ (cond b 0 n) n
at_most true n = omega arith
at_most false n = omega arith

module _ (h : HeldRows) (nodes edges : List (List ℕ)) (y : EdgesShaped h nodes edges) (taken : ℕ → Bool) where
  owed_start : (k : ℕ) → k ≤ length nodes → owed nodes taken k ≤ start_by 2 nodes k
  unfolding owed start_by
  owed_start zero l = omega arith
  owed_start (suc k) l = omega (arith, owed_start k (omega arith), at_most (taken k) (end_by 2 nodes k - start_by 2 nodes k), y.inside.rising k (omega arith))

  start-most : (k : ℕ) → k ≤ length nodes → start_by 2 nodes k ≤ max_terms
  unfolding start_by
  start-most zero l = omega arith
  start-most (suc k) l = omega (arith, y.inside.ends k (omega arith), y.few)

  pub owed-most : owed nodes taken (length nodes) ≤ max_terms
  owed-most = omega (arith, owed_start (length nodes) (omega arith), start-most (length nodes) (omega arith))

-- SEALING FRESH MEMORY, all is such that draining can begin.
pub going_seal : (x : Index) (bounds : List ℤ) (b : Built) → Serves x bounds b → Totals total_limit b.held.row-conditions b.held.row-weights b.held.rows → (v : Live) → Fresh b v
    → Going b.held b.nodes (seal x v).live
going_seal x bounds b s t v f = record {
  sound = seal_stays x s.indexed (omega (arith, s.holds.many, s.shaped.few)) v f.sound;
  within = record {
    taken = none;
    tracked = seal_keeps x (Tracked (length b.nodes) (length b.held.rows) none)
        (λ u r l p. tracked_run x (length b.nodes) (length b.held.rows) none s.ordered s.names u r (omega (arith, s.holds.many)) p) v
        (record { queued = f.tracked.queued; low = f.tracked.low; dirty = f.tracked.dirty; residuals = f.tracked.residuals });
    range = total_limit;
    runnable = seal_keeps x (Runnable b.held total_limit) (λ u r l p. kept_run x b.held s.holds s.shaped total_limit u r (omega (arith, s.holds.many)) p) v
        (record {
          ready = ready_first x b.held s.holds s.shaped total_limit t v.states (omega (arith, s.shaped.few, f.sound.long)) v.marks f.sound.waits
              v.residuals f.sound.residuals;
          dirty = f.sound.dirty;
        });
    room = omega (arith, owed-most b.held b.nodes b.edges s.edged none);
  };
}
  where
    none : ℕ → Bool
    none n = false
