-- One row, run once: its scans put together, what they keep and how far they come. Assumes nothing.
use Rattle.std.specs.Prelude.{ℕ, ◌+◌, ◌-◌, ◌≤◌, ◌<◌, ◌^◌, ◌≡◌, refl, Bool, true, false, cond, List, reverse, length, take, drop, ℤ, ◌-ℤ◌}
use Rattle.std.proofs.Common.{arith, sym, ◌∙◌, length-take, length-drop, to_z, of_z, to_z-of_z}
use Rattle.std.proofs.Math.Path.{ap}
use Rattle.std.proofs.lemmas.List.{length-reverse}
use Rattle.std.specs.Int.Signed.{le_z, mag}
use Rattle.std.specs.Int.{w64}
use Rattle.base.specs.All.{All}
use Rattle.numeric.specs.Threshold.{Term}
use Rattle.state.specs.declared.Step.{Step}
use Rattle.state.specs.declared.Step.TheVariants.{Unchanged, Contradiction}
use Rattle.state.specs.declared.State.{State}
use Rattle.state.specs.Step.{joined, contradicts}
use Rattle.state.specs.State.{limit, limited, conflict, has_residual_interval, with_guards, with_terms}
use Rattle.state.specs.Shape.{Figures}
use Rattle.queues.specs.Marks.{Marks, decided, decide}
use Rattle.queues.proofs.MarksLaws.{waits-decide}
use Rattle.queues.specs.Waiting.{Waits}
use Rattle.rows.specs.Rows.{Row, row_of, Guard, has_nonunit}
use Rattle.row_runs.specs.Scan.{Scanned}
use Rattle.row_runs.proofs.ScanLaws.{all_drop, all_take, all_reverse, scan_keeps, scan_within, force_keeps}
use Rattle.row_runs.specs.Guards.{Node, Condition}
use Rattle.row_runs.specs.Row.{Ran, ran, deciding, decides, sure_waits, sure_guards, never_waits, never_guards, threshold_guards, term_waits, forces, forced, true_terms, false_terms, row_terms, scans, threshold_row, wants_residual}
use Rattle.row_runs.specs.Turns.{light, cut}

-- What a decision of its node keeps, passing a guard keeps.
pub decides_keeps : (P : Marks → Type 0) (value : Bool) (g : Guard) (m : Marks) → P m → P (decide value m g.node).marks → P (decides value g m).marks
decides_keeps P value g m p q = by (deciding value g)
  where
    by : (b : Bool) → P (cond b (decide value m g.node) (decided m Unchanged)).marks
    by true = q
    by false = p

module _ (gs : List Guard) (s : State) (m : Marks) where
  -- The cursors stay within the list.
  pub sure_within : (sure_guards gs s m).passed ≤ length gs - s.sure_guard
  sure_within =
      omega (arith, scan_within (sure_waits s) (decides true) (drop s.sure_guard gs) 0 m Unchanged, length-drop s.sure_guard gs)

  pub never_within : (k : Step) → (never_guards gs s m k).passed ≤ s.never_guard
  never_within k =
      let l = reverse (take s.never_guard gs) in
      omega (arith, scan_within (never_waits s) (decides false) l 0 m k, length-reverse (take s.never_guard gs), length-take s.never_guard gs)

  module _ (nodes : All Node gs) (w : Waits m) where
    pub sure_keeps : Waits (sure_guards gs s m).marks
    sure_keeps =
        scan_keeps (sure_waits s) (decides true) Waits Node (λ (g : Guard) (k : Marks) h v. decides_keeps Waits true g k v (waits-decide k v true g.node h))
        (drop s.sure_guard gs) 0 m Unchanged (all_drop Node s.sure_guard gs nodes) w

    pub never_keeps : (k : Step) → Waits (never_guards gs s m k).marks
    never_keeps k =
        scan_keeps (never_waits s) (decides false) Waits Node (λ (g : Guard) (n : Marks) h v. decides_keeps Waits false g n v (waits-decide n v false g.node h))
        (reverse (take s.never_guard gs)) 0 m k (all_reverse Node (take s.never_guard gs) (all_take Node s.never_guard gs nodes)) w

  -- The scan up contradicts, or the scan down follows.
  module _ (a : Scanned) (e : a ≡ sure_guards gs s m) (t : State) where
    pub guards_stop : contradicts a.step ≡ true → t ≡ with_guards s (s.sure_guard + a.passed) s.never_guard → ran t a.marks Contradiction ≡ threshold_guards gs s m
    unfolding threshold_guards
    guards_stop h f =
        let k = rw e at h in
        rw (threshold_guards, k) (rw (f, e))

    pub guards_more : contradicts a.step ≡ false → (b : Scanned) → b ≡ never_guards gs s a.marks a.step
        → t ≡ with_guards s (s.sure_guard + a.passed) (s.never_guard - b.passed) → ran t b.marks b.step ≡ threshold_guards gs s m
    unfolding threshold_guards with_guards
    guards_more h b g f =
        let k = rw e at h in
        rw (threshold_guards, k) (rw (f, g, e))

pub forced_within : (value : Bool) (waits : ℕ → Bool) (ts : List Term) (from : ℕ) (m : Marks) → (forced value waits (drop from ts) m).passed ≤ length ts - from
forced_within value waits ts from m =
    omega (arith, scan_within (term_waits waits) (forces value) (drop from ts) 0 m Unchanged, length-drop from ts)

pub forced_keeps : (value : Bool) (waits : ℕ → Bool) (ts : List Term) (from : ℕ) (m : Marks) → All Condition ts → Waits m
    → Waits (forced value waits (drop from ts) m).marks
forced_keeps value waits ts from m conditions w =
    scan_keeps (term_waits waits) (forces value) Waits Condition (λ (t : Term) (k : Marks) h v. force_keeps value k t.condition h v)
    (drop from ts) 0 m Unchanged (all_drop Condition from ts conditions) w

-- A cursor that passes nothing stays.
pub stay_true : (s : State) → s ≡ with_terms s (s.true_term + 0) s.false_term
unfolding with_terms
stay_true s = let z : s.true_term ≡ s.true_term + 0 = omega arith in ap (λ (j : ℕ). with_terms s j s.false_term) z

pub stay_false : (s : State) → s ≡ with_terms s s.true_term (s.false_term + 0)
unfolding with_terms
stay_false s = let z : s.false_term ≡ s.false_term + 0 = omega arith in ap (λ (j : ℕ). with_terms s s.true_term j) z

-- Terms are forced only where something is required, and the cutoff is a difference of two figures.
module _ (ts : List Term) (s : State) (m : Marks) where
  pub true-none : le_z s.lower s.known ≡ true → ran s m Unchanged ≡ true_terms ts s m
  unfolding true_terms
  true-none h = rw h

  pub false-none : limited s.upper ≡ false → ran s m Unchanged ≡ false_terms ts s m
  unfolding false_terms
  false-none h = rw h

  module _ (z : ℤ) (a : Scanned) (t : State) where
    pub true-forced : le_z s.lower s.known ≡ false → z ≡ s.possible -ℤ s.lower → a ≡ forced true (light (cut true z)) (drop s.true_term ts) m
        → t ≡ with_terms s (s.true_term + a.passed) s.false_term → ran t a.marks a.step ≡ true_terms ts s m
    unfolding true_terms
    true-forced h c e f =
        let g = rw c at e in
        rw h (rw (f, g))

    pub false-forced : limited s.upper ≡ true → z ≡ limit s.upper -ℤ s.known → a ≡ forced false (light (cut false z)) (drop s.false_term ts) m
        → t ≡ with_terms s s.true_term (s.false_term + a.passed) → ran t a.marks a.step ≡ false_terms ts s m
    unfolding false_terms
    false-forced h c e f =
        let g = rw c at e in
        rw h (rw (f, g))

-- ---- what a run keeps

-- Only cursors move: the figures stay.
pub record Moved (s t : State) : Type 0 where
  pub known : t.known ≡ s.known
  pub possible : t.possible ≡ s.possible
  pub lower : t.lower ≡ s.lower
  pub upper : t.upper ≡ s.upper
  pub up : s.sure_guard ≤ t.sure_guard
  pub down : t.never_guard ≤ s.never_guard
  pub true_on : s.true_term ≤ t.true_term
  pub false_on : s.false_term ≤ t.false_term

moved-not : (s : State) → Moved s s
moved-not s = record { known = refl; possible = refl; lower = refl; upper = refl; up = omega arith; down = omega arith; true_on = omega arith; false_on = omega arith }

moved_then : (s t u : State) → Moved s t → Moved t u → Moved s u
moved_then s t u a b = record {
  known = b.known ∙ a.known;
  possible = b.possible ∙ a.possible;
  lower = b.lower ∙ a.lower;
  upper = b.upper ∙ a.upper;
  up = omega (arith, a.up, b.up);
  down = omega (arith, a.down, b.down);
  true_on = omega (arith, a.true_on, b.true_on);
  false_on = omega (arith, a.false_on, b.false_on);
}

moved-guards : (s : State) (x y : ℕ) → s.sure_guard ≤ x → y ≤ s.never_guard → Moved s (with_guards s x y)
unfolding with_guards
moved-guards s x y h k = record { known = refl; possible = refl; lower = refl; upper = refl; up = h; down = k; true_on = omega arith; false_on = omega arith }

moved-terms : (s : State) (x y : ℕ) → s.true_term ≤ x → s.false_term ≤ y → Moved s (with_terms s x y)
unfolding with_terms
moved-terms s x y h k = record { known = refl; possible = refl; lower = refl; upper = refl; up = omega arith; down = omega arith; true_on = h; false_on = k }

pub figures-moved : (s t : State) → Moved s t → Figures s → Figures t
figures-moved s t v f = record {
  known = rw v.known f.known;
  possible = rw v.possible f.possible;
  lower = rw v.lower f.lower;
  upper = rw v.upper f.upper;
}

-- A scan's state is the row's with cursors moved on, and its nodes wait at most once each.
pub record Kept (s : State) (a : Ran) : Type 0 where
  pub moved : Moved s a.state
  pub waits : Waits a.marks

kept_then : (s : State) (a b : Ran) → Kept s a → Kept a.state b → Kept s b
kept_then s a b f g = record { moved = moved_then s a.state b.state f.moved g.moved; waits = g.waits }

pub kept_by_lem : (s : State) (a b : Ran) → a ≡ b → Kept s b → Kept s a
kept_by_lem s a b e k = rw e k

kept_step : (s : State) (a : Ran) (k : Step) → Kept s a → Kept s (ran a.state a.marks k)
kept_step s a k f = record { moved = f.moved; waits = f.waits }

pub kept-guards : (gs : List Guard) (s : State) (m : Marks) → All Node gs → Waits m → Kept s (threshold_guards gs s m)
kept-guards gs s m nodes w = by (contradicts a.step) refl
  where
    a : Scanned
    a = sure_guards gs s m

    by : (c : Bool) → contradicts a.step ≡ c → Kept s (threshold_guards gs s m)
    by true e =
        rw (sym (guards_stop gs s m a refl (with_guards s (s.sure_guard + a.passed) s.never_guard) e refl))
        (record { moved = moved-guards s (s.sure_guard + a.passed) s.never_guard (omega arith) (omega arith); waits = sure_keeps gs s m nodes w })
    by false e =
        let b = never_guards gs s a.marks a.step in
        rw (sym (guards_more gs s m a refl (with_guards s (s.sure_guard + a.passed) (s.never_guard - b.passed)) e b refl refl))
        (record {
          moved = moved-guards s (s.sure_guard + a.passed) (s.never_guard - b.passed) (omega arith) (omega arith);
          waits = never_keeps gs s a.marks nodes (sure_keeps gs s m nodes w) a.step;
        })

module _ (ts : List Term) (s : State) (m : Marks) (conditions : All Condition ts) (w : Waits m) where
  pub kept-true : Kept s (true_terms ts s m)
  kept-true = by (le_z s.lower s.known) refl
    where
      by : (c : Bool) → le_z s.lower s.known ≡ c → Kept s (true_terms ts s m)
      by true e = rw (sym (true-none ts s m e)) (record { moved = moved-not s; waits = w })
      by false e =
          let z = s.possible -ℤ s.lower in
          let a = forced true (light (cut true z)) (drop s.true_term ts) m in
          rw (sym (true-forced ts s m z a (with_terms s (s.true_term + a.passed) s.false_term) e refl refl refl))
          (record {
            moved = moved-terms s (s.true_term + a.passed) s.false_term (omega arith) (omega arith);
            waits = forced_keeps true (light (cut true z)) ts s.true_term m conditions w;
          })

  pub kept-false : Kept s (false_terms ts s m)
  kept-false = by (limited s.upper) refl
    where
      by : (c : Bool) → limited s.upper ≡ c → Kept s (false_terms ts s m)
      by false e = rw (sym (false-none ts s m e)) (record { moved = moved-not s; waits = w })
      by true e =
          let z = limit s.upper -ℤ s.known in
          let a = forced false (light (cut false z)) (drop s.false_term ts) m in
          rw (sym (false-forced ts s m z a (with_terms s s.true_term (s.false_term + a.passed)) e refl refl refl))
          (record {
            moved = moved-terms s s.true_term (s.false_term + a.passed) (omega arith) (omega arith);
            waits = forced_keeps false (light (cut false z)) ts s.false_term m conditions w;
          })

-- Terms behind the guards.
module _ (ts : List Term) (a b : Ran) (e : b ≡ true_terms ts a.state a.marks) where
  pub terms_stop : contradicts b.step ≡ true → b ≡ row_terms ts a
  terms_stop h =
      let k = rw e at h in
      rw (row_terms, k) e

  pub terms_more : contradicts b.step ≡ false → (d : Ran) → d ≡ false_terms ts b.state b.marks
      → (k : Step) → k ≡ joined (joined a.step b.step) d.step → ran d.state d.marks k ≡ row_terms ts a
  terms_more h d f k g =
      let l = rw e at h in
      rw (row_terms, l) (rw (g, f, e))

pub kept-terms : (ts : List Term) (a : Ran) → All Condition ts → Waits a.marks → Kept a.state (row_terms ts a)
kept-terms ts a conditions w = by (contradicts b.step) refl
  where
    b : Ran
    b = true_terms ts a.state a.marks

    first : Kept a.state b
    first = kept-true ts a.state a.marks conditions w

    by : (c : Bool) → contradicts b.step ≡ c → Kept a.state (row_terms ts a)
    by true e = rw (sym (terms_stop ts a b refl e)) first
    by false e =
        let d = false_terms ts b.state b.marks in
        let k = joined (joined a.step b.step) d.step in
        rw (sym (terms_more ts a b refl e d refl k refl))
        (kept_step a.state d k (kept_then a.state b d first (kept-false ts b.state b.marks conditions first.waits)))

-- The row: a conflict, a contradiction of the guards, or its terms.
module _ (r : Row) (s : State) (m : Marks) where
  pub row-conflict : conflict s ≡ true → ran s m Contradiction ≡ threshold_row r s m
  unfolding threshold_row
  row-conflict h = rw (threshold_row, h)

  module _ (free : conflict s ≡ false) (a : Ran) (e : a ≡ threshold_guards r.guards s m) where
    pub row-guards : contradicts a.step ≡ true → a ≡ threshold_row r s m
    unfolding threshold_row scans
    row-guards h =
        let k = rw e at h in
        rw (threshold_row, free, scans, k) e

    pub row-terms : contradicts a.step ≡ false → (b : Ran) → b ≡ row_terms r.terms a → b ≡ threshold_row r s m
    unfolding threshold_row scans
    row-terms h b f =
        let k = rw e at h in
        rw (threshold_row, free, scans, k) (f ∙ ap (row_terms r.terms) e)

  -- A run moves cursors only forward, and each node waits at most once after it.
  pub kept_row : All Node r.guards → All Condition r.terms → Waits m → Kept s (threshold_row r s m)
  kept_row nodes conditions w = by (conflict s) refl
    where
      a : Ran
      a = threshold_guards r.guards s m

      first : Kept s a
      first = kept-guards r.guards s m nodes w

      then : conflict s ≡ false → (c : Bool) → contradicts a.step ≡ c → Kept s (threshold_row r s m)
      then f true e = rw (sym (row-guards f a refl e)) first
      then f false e =
          rw (sym (row-terms f a refl e (row_terms r.terms a) refl))
          (kept_then s a (row_terms r.terms a) first (kept-terms r.terms a conditions first.waits))

      by : (c : Bool) → conflict s ≡ c → Kept s (threshold_row r s m)
      by true e = rw (sym (row-conflict e)) (record { moved = moved-not s; waits = w })
      by false e = then e (contradicts a.step) refl

-- The list that the records gave is not read.
pub row-raw : (raw raw' : List Term) (ts : List Term) (gs : List Guard) (s : State) (m : Marks) → threshold_row (row_of raw ts gs) s m ≡ threshold_row (row_of raw' ts gs) s m
unfolding threshold_row scans
row-raw raw raw' ts gs s m = by (conflict s) refl
  where
    by : (c : Bool) → conflict s ≡ c → threshold_row (row_of raw ts gs) s m ≡ threshold_row (row_of raw' ts gs) s m
    by true e = rw (threshold_row, e)
    by false e = rw (threshold_row, e, scans)

-- Whether a row wants a residual, from its slices.
module _ (r : Row) (s : State) where
  pub wants_conflict : conflict s ≡ true → wants_residual r s ≡ false
  unfolding wants_residual
  wants_conflict h = rw h

  pub wants_unit : conflict s ≡ false → has_nonunit r.terms ≡ false → wants_residual r s ≡ false
  unfolding wants_residual
  wants_unit h k = rw (h, k)

  pub wants_interval : conflict s ≡ false → has_nonunit r.terms ≡ true → wants_residual r s ≡ has_residual_interval s
  unfolding wants_residual
  wants_interval h k = rw (h, k)

-- A number in this range is what its bits say.
pub signed : (z : ℤ) → mag z < 2 ^ 61 → to_z w64 (of_z w64 z) ≡ z
signed z h = to_z-of_z {w = w64} (record { sfits = omega arith })
