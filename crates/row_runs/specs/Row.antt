-- One row, run once: `threshold_row` of propagate.rs on values, with its guards, its terms and its four cursors.
use Rattle.std.specs.Prelude.{ℕ, ◌+◌, ◌-◌, Bool, true, false, cond, ◌&&◌, ◌||◌, not, List, reverse, take, drop, ℤ, pos, ◌-ℤ◌}
use Rattle.std.specs.Int.Signed.{le_z, lt_z}
use Rattle.numeric.specs.Threshold.{Term}
use Rattle.state.specs.declared.Step.{Step}
use Rattle.state.specs.declared.Step.TheVariants.{Unchanged, Contradiction}
use Rattle.state.specs.declared.State.{State}
use Rattle.state.specs.Step.{joined, contradicts}
use Rattle.state.specs.State.{reached, upper_at_most, limited, limit, conflict, has_residual_interval, with_guards, with_terms}
use Rattle.queues.specs.Marks.{Marks, is_decided, Decided, decided, decide}
use Rattle.rows.specs.Rows.{Row, Guard, is_alone, has_nonunit}
use Rattle.row_runs.specs.Scan.{scan, Scanned, force}

-- A row's state and the marks after some of its scans, and their answer.
pub record Ran : Type 0 where
  pub state : State
  pub marks : Marks
  pub step : Step

abbrev pub ran : State → Marks → Step → Ran
ran s m k = record { state = s; marks = m; step = k }

-- Passing a guard decides its node if it may; a sure one only if nothing else is asked of the node.
abbrev pub deciding : Bool → Guard → Bool
deciding value g = g.may && (is_alone g.other || not value)

abbrev pub decides : Bool → Guard → Marks → Decided
decides value g m = cond (deciding value g) (decide value m g.node) (decided m Unchanged)

-- Guards whose bound is reached are sure; they are passed from the lowest bound up.
abbrev pub sure_waits : State → Guard → Marks → Bool
sure_waits s g m = lt_z (reached s) g.bound

abbrev pub sure_guards : List Guard → State → Marks → Scanned
sure_guards gs s m = scan (sure_waits s) (decides true) (drop s.sure_guard gs) 0 m Unchanged

-- Guards whose bound can't be reached are never; they are passed from the highest bound down.
abbrev pub reachable : State → ℤ → Bool
reachable s b = le_z b s.possible && not (upper_at_most s.upper b)

abbrev pub never_waits : State → Guard → Marks → Bool
never_waits s g m = reachable s g.bound

abbrev pub never_guards : List Guard → State → Marks → Step → Scanned
never_guards gs s m k = scan (never_waits s) (decides false) (reverse (take s.never_guard gs)) 0 m k

-- `threshold_guards`
unfoldable pub threshold_guards : List Guard → State → Marks → Ran
threshold_guards gs s m =
    let a = sure_guards gs s m in
    let up = with_guards s (s.sure_guard + a.passed) s.never_guard in
    elim (contradicts a.step) [
      | true ↦ ran up a.marks Contradiction
      | false ↦
          let b = never_guards gs s a.marks a.step in
          ran (with_guards up up.sure_guard (s.never_guard - b.passed)) b.marks b.step
    ]

abbrev pub term_waits : (ℕ → Bool) → Term → Marks → Bool
term_waits waits t m = not (is_decided m t.condition) && waits t.weight

abbrev pub forces : Bool → Term → Marks → Decided
forces value t m = force value m t.condition

-- Terms from the heaviest down: decided ones are passed, and those that the cutoff forces.
abbrev pub forced : Bool → (ℕ → Bool) → List Term → Marks → Scanned
forced value waits ts m = scan (term_waits waits) (forces value) ts 0 m Unchanged

-- `threshold_terms` for true: a weight above possible - lower is needed.
unfoldable pub true_terms : List Term → State → Marks → Ran
true_terms ts s m =
    let a = forced true (λ (w : ℕ). le_z (pos w) (s.possible -ℤ s.lower)) (drop s.true_term ts) m in
    cond (le_z s.lower s.known) (ran s m Unchanged) (ran (with_terms s (s.true_term + a.passed) s.false_term) a.marks a.step)

-- `threshold_terms` for false: a weight of at least upper - known is too heavy.
unfoldable pub false_terms : List Term → State → Marks → Ran
false_terms ts s m =
    let a = forced false (λ (w : ℕ). lt_z (pos w) (limit s.upper -ℤ s.known)) (drop s.false_term ts) m in
    cond (limited s.upper) (ran (with_terms s s.true_term (s.false_term + a.passed)) a.marks a.step) (ran s m Unchanged)

-- Terms behind the guards, those to be sure first.
abbrev pub row_terms : List Term → Ran → Ran
row_terms ts a =
    let b = true_terms ts a.state a.marks in
    elim (contradicts b.step) [
      | true ↦ b
      | false ↦
          let c = false_terms ts b.state b.marks in
          ran c.state c.marks (joined (joined a.step b.step) c.step)
    ]

-- Scans of a row that is in no conflict, each only where the one before did not contradict.
unfoldable pub scans : Row → State → Marks → Ran
scans r s m =
    let a = threshold_guards r.guards s m in
    elim (contradicts a.step) [ true ↦ a | false ↦ row_terms r.terms a ]

-- `threshold_row`
unfoldable pub threshold_row : Row → State → Marks → Ran
threshold_row r s m = elim (conflict s) [ true ↦ ran s m Contradiction | false ↦ scans r s m ]

-- The row waits for a residual when it is run.
unfoldable pub wants_residual : Row → State → Bool
wants_residual r s = not (conflict s) && has_nonunit r.terms && has_residual_interval s
