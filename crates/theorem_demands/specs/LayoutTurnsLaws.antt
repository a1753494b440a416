-- NO TURN LOSES A LAYOUT: what a layout agrees with before a drained node, a row that hands on its bounds or a whole settling, it
-- agrees with after, and none of these contradicts where there is such a layout.
use Rattle.std.specs.Prelude.{ℕ, ◌<◌, ◌≡◌, refl, Bool, true, false, get_or}
use Rattle.std.proofs.Common.{ap, ◌∙◌}
use mathlib.Core.List.{Memᴰ}
use Rattle.base.specs.TestLaws.{clash, never_true}
use Rattle.state.specs.StepLaws.{joined_fine}
use Rattle.numeric.specs.Threshold.{Threshold, Job}
use Rattle.numeric.specs.Layout.{Layout, IsLayout}
use Rattle.state.specs.Step.{contradicts}
use Rattle.words.specs.Mask.{bit}
use Rattle.queues.specs.Queue.{Rows, oldest, next_row}
use Rattle.queues.specs.Marks.{Marks, is_decided, mask}
use Rattle.rows.specs.Rows.{no_row}
use Rattle.row_moves.specs.Between.{Index, Live, Did, run_row, threshold_guard, threshold_condition, threshold_prefixes, with_dirty_rows, with_marks, with_residuals}
use Rattle.row_moves.specs.WalkLaws.{guard_of_ends}
use Rattle.drain.specs.Drain.{take_node, take_row, turn, at_rest, settle}
use Rattle.drain.proofs.DrainLaws.{node_ends, row_ends_lem, turn-ends, settle_walks}
use Rattle.drain.specs.Steps.{untaken, unrowed, node_told, node_drained}
use Rattle.theorem_table.specs.Table.{IsRow}
use Rattle.theorem_table.proofs.TableLaws.{le_same, follows_start}
use Rattle.theorem_follows.specs.Ordered.{Ordered}
use Rattle.theorem_follows.specs.StandsLaws.{table_at, also, also_this, Apart, Stands, restart}
use Rattle.queues.proofs.StayLaws.{Stay}
use Rattle.theorem_follows.specs.MovesLaws.{Kept, run_stands, guard_stands, prefixes_stand}
use Rattle.theorem_follows.specs.DrainedLaws.{condition_stands}
use Rattle.theorem_follows.specs.BuiltLaws.{Built}
use Rattle.theorem_follows.specs.KeepsLaws.{run_keeps, guard_keeps, condition_keeps, prefixes_keeps}
use Rattle.theorem_follows.specs.WaitingLaws.{queued_decide, first-decided, first-fresh, queued_taken}
use Rattle.queues.specs.Waiting.{Queued}
use Rattle.theorem_follows.specs.StartLaws.{marked_stands, wide_of}
use Rattle.theorem_follows.specs.LayoutsLaws.{Agrees, agrees_le, broken_none, kept_stays}

-- A layout gives each node of the masks its value.
abbrev pub Fits : Layout → Marks → Type 0
Fits w m = (value : Bool) (n : ℕ) → bit (mask value m) n ≡ true → w n ≡ value

-- THE INVARIANT: a layout agrees with the live state; known and possible are the sums of the drained nodes; a decided node waits until
-- it is taken.
pub record Holds (x : Index) (w : Layout) (drained taken : ℕ → Bool) (v : Live) : Type 0 where
  pub stands : Stands x.rows (table_at v) (λ (r : ℕ). drained) v
  pub agrees : Agrees x.rows w v
  pub queued : Queued taken v.marks

-- Between two turns all taken nodes are drained.
abbrev pub Between : Index → Layout → Live → Type 0
Between x w v = (taken : ℕ → Bool) × Holds x w taken taken v

-- What a function does that loses no layout.
abbrev pub Fine : Index → Layout → (ℕ → Bool) → (ℕ → Bool) → Did → Type 0
Fine x w drained taken d = (contradicts d.step ≡ false) × Holds x w drained taken d.live

abbrev pub FineBetween : Index → Layout → Did → Type 0
FineBetween x w d = (contradicts d.step ≡ false) × Between x w d.live

pub agrees_fits : (x : Index) (w : Layout) (v : Live) → Agrees x.rows w v → Fits w v.marks
agrees_fits x w v a true n e = a.sure n e
agrees_fits x w v a false n e = a.never n e

-- MORE NODES DECIDED, or other queues, and all row states as they were
pub marked : (x : Index) (w : Layout) (drained taken now : ℕ → Bool) (v : Live) (m : Marks) (d q : Rows) → Holds x w drained taken v
    → Stay v.marks m → Apart m → Fits w m → Queued now m → Holds x w drained now (with_residuals (with_dirty_rows (with_marks v m) d) q)
marked x w drained taken now v m d q h stay apart fits queued = record {
  stands = marked_stands x v m d q stay (wide_of m queued.queue) (table_at v) (table_at (with_residuals (with_dirty_rows (with_marks v m) d) q)) (λ (r : ℕ). drained) apart (le_same (table_at (with_residuals (with_dirty_rows (with_marks v m) d) q)))
      (follows_start x.rows (table_at (with_residuals (with_dirty_rows (with_marks v m) d) q))) h.stands;
  agrees = record { sure = λ n e. fits true n e; never = λ n e. fits false n e; lower = h.agrees.lower; upper = h.agrees.upper };
  queued = queued;
}

module _ (j : Job) (x : Index) (b : Built j x) (ordered : (r : ℕ) → IsRow x.rows r → Ordered (get_or x.rows r no_row)) (w : Layout) (is : IsLayout j w) where
  -- WHAT STANDS loses no layout, where a contradiction means that a conflict follows
  kept_fine : (drained taken : ℕ → Bool) (v : Live) → Agrees x.rows w v → (d : Did) → Kept x (λ (q : ℕ). drained) (table_at v) d → Queued taken d.live.marks → Fine x w drained taken d
  kept_fine drained taken v a d k queued =
      let o = kept_stays j x b w is (λ (q : ℕ). drained) v a d k in
      (never_true _ o.1, record { stands = restart x.rows (table_at v) (λ (q : ℕ). drained) d.live k.0; agrees = o.0; queued = queued })

  -- A ROW RUN
  pub run_fine : (drained taken : ℕ → Bool) (v : Live) → Holds x w drained taken v → (r : ℕ) → IsRow x.rows r → Fine x w drained taken (run_row x v r)
  run_fine drained taken v h r i =
      kept_fine drained taken v h.agrees (run_row x v r) (run_stands x (λ (q : ℕ). drained) (table_at v) v r i h.stands) (run_keeps (Queued taken) (queued_decide taken) x ordered v r h.queued)

  -- A GUARD
  guard-fine : (drained taken : ℕ → Bool) (v : Live) → Holds x w drained taken v → (t : Threshold) → Memᴰ t x.thresholds → is_decided v.marks t.node ≡ true
      → Fine x w drained taken (threshold_guard x v t)
  guard-fine drained taken v h t m d =
      kept_fine drained taken v h.agrees (threshold_guard x v t) (guard_stands x (λ (q : ℕ). drained) (table_at v) v t (b.guards t m) d h.stands)
      (guard_keeps (Queued taken) (queued_decide taken) x ordered v t h.queued)

  -- A CONDITION
  condition-fine : (drained taken : ℕ → Bool) (v : Live) → Holds x w drained taken v → (n : ℕ) → is_decided v.marks n ≡ true → drained n ≡ false
      → Fine x w (also n drained) taken (threshold_condition x v n)
  condition-fine drained taken v h n d fresh =
      let k = condition_stands x (table_at v) (λ (q : ℕ). drained) n b.distinct v d (λ r. fresh) h.stands in
      let c = never_true _ (λ e. broken_none j x b w is (table_at v) (agrees_le x.rows w v h.agrees) (k.broken e)) in
      kept_fine (also n drained) taken v h.agrees (threshold_condition x v n) (k.everywhere c, k.broken) (condition_keeps (Queued taken) (queued_decide taken) x ordered v n h.queued)

  -- A NODE IS TAKEN
  node-fine : (v : Live) → Between x w v → 0 < v.marks.nodes.ring.count → FineBetween x w (take_node x v)
  node-fine v (taken, h) some =
      node_ends x v (FineBetween x w) (λ e. absurd (clash (contradicts g.step) e first.0))
      (λ e. (joined_fine g.step (node_drained x v).step first.0 second.0, (also n taken, second.1)))
    where
      n : ℕ
      n = oldest v.marks.nodes

      same : Stay v.marks (untaken v).marks
      same k d true = refl
      same k d false = refl

      fits : Fits w (untaken v).marks
      fits true k e = h.agrees.sure k e
      fits false k e = h.agrees.never k e

      popped-holds : Holds x w taken (also n taken) (untaken v)
      popped-holds = marked x w taken taken (also n taken) v (untaken v).marks v.dirty v.residuals h same h.stands.apart fits (queued_taken taken v.marks h.queued some)

      g : Did
      g = node_told x v

      first : Fine x w taken (also n taken) g
      first = guard_of_ends x (untaken v) n (Fine x w taken (also n taken)) x.thresholds
          (λ t m e. guard-fine taken (also n taken) (untaken v) popped-holds t m (ap (is_decided v.marks) e ∙ first-decided taken v.marks h.queued some)) (λ f. (refl, popped-holds))

      second : Fine x w (also n taken) (also n taken) (node_drained x v)
      second =
          condition-fine taken (also n taken) g.live first.1 n (first.1.queued.decided n (also_this n taken n refl)) (first-fresh taken v.marks h.queued some)

  -- A ROW IS TAKEN
  row_fine : (v : Live) → Between x w v → FineBetween x w (take_row x v)
  row_fine v (taken, h) =
      let u = unrowed v in
      let r = oldest v.dirty.queue in
      let k = marked x w taken taken taken v v.marks (next_row v.dirty) v.residuals h (λ n d value. refl) h.stands.apart (agrees_fits x w v h.agrees) h.queued in
      let o = kept_fine taken taken u k.agrees (threshold_prefixes x u r) (prefixes_stand x (λ (q : ℕ). taken) (table_at u) u r (b.linked r) k.stands)
      (prefixes_keeps (Queued taken) (queued_decide taken) x ordered u r k.queued) in
      row_ends_lem x v (FineBetween x w) (o.0, (taken, o.1))

  -- A TURN
  turn-fine : (v : Live) → at_rest v ≡ false → Between x w v → FineBetween x w (turn x v)
  turn-fine v e h = turn-ends x v (FineBetween x w) e (node-fine v h) (λ some. row_fine v h)

  -- SETTLING
  pub settle_fine : (v : Live) → Between x w v → FineBetween x w (settle x v)
  settle_fine v h =
      settle_walks x (λ (_ : ℕ). Between x w) (FineBetween x w) (λ u k c p. (c, p)) (λ n u k c p e. (c, p)) (λ n u p e f. turn-fine u e p) (λ n u p e f. (turn-fine u e p).1) v h
