-- What is ready stays so: when a state is stored, a row run, a weight drained or a bound told. Assumes nothing.
use Rattle.std.specs.Prelude.{ℕ, ◌+◌, ◌<◌, ◌≤◌, ◌≡◌, refl, Bool, true, false, cond, List, length, get_or, set, ℤ, pos, Option, Some}
use Rattle.std.proofs.Math.Decide.{ℕ_discrete}
use Rattle.std.proofs.Common.{arith, length-set, get_or-set_same, get_or-set_other}
use Rattle.std.specs.Int.Signed.{mag}
use Rattle.memory.specs.Buffers.{HeldRows}
use Rattle.base.specs.SignedLaws.{mag_add, mag_minus}
use Rattle.state.specs.declared.State.{State}
use Rattle.state.specs.State.{no_state, limit, with_lower, with_upper, drained, with_known, with_possible}
use Rattle.state.specs.Shape.{Drains}
use Rattle.queues.specs.Queue.{Rows, queue_row}
use Rattle.queues.specs.RowsLaws.{flags_queue}
use Rattle.queues.specs.Waiting.{Flags}
use Rattle.queues.specs.Marks.{Marks}
use Rattle.rows.specs.Rows.{Row}
use Rattle.base.specs.Parts.{stretch}
use Rattle.rows.specs.ListsLaws.{stretch-length}
use Rattle.row_runs.specs.GuardsLaws.{all_guards, all_terms_lem}
use Rattle.row_runs.specs.Row.{wants_residual, threshold_row}
use Rattle.row_runs.proofs.RowLaws.{Moved, kept_row}
use Rattle.tightening.specs.Told.{Tightened, guard_state, moved_lower, moved_state}
use Rattle.tightening.specs.ToldLaws.{guard-cases, lower_cases, upper_cases}
use Rattle.memory.specs.Limits.{max_thresholds}
use Rattle.memory.specs.Ranges.{figure_limit, weight_limit, drain_limit}
use Rattle.row_moves.specs.Between.{Live, Did, residual_queued, run_with}
use Rattle.row_moves.specs.Numbers.{Runs}
use Rattle.row_moves.specs.Held.{end_by, start_by, held_row, Shaped}
use Rattle.row_moves.specs.HeldLaws.{term_slices, guard_slices}
use Rattle.row_moves.specs.Ready.{Fit, Ready, ReadyLive}

module _ (h : HeldRows) (n : ℕ) where
  pub fit_more : (k r : ℕ) (s : State) → n ≤ k → Fit h n r s → Fit h k r s
  fit_more k r s m f = record {
    known = omega (arith, f.known);
    possible = omega (arith, f.possible);
    lower = f.lower;
    upper = f.upper;
    inside = f.inside;
  }

  pub ready_more : (k : ℕ) (ss : List State) (m : Marks) (q : Rows) → n ≤ k → Ready h n ss m q → Ready h k ss m q
  ready_more k ss m q l y = record {
    long = y.long;
    fit = λ r i. fit_more k r (get_or ss r no_state) l (y.fit r i);
    waits = y.waits;
    flags = y.flags;
  }

  -- A state of the row is stored.
  pub ready_set : (ss : List State) (m : Marks) (q : Rows) → Ready h n ss m q → (r : ℕ) (s : State) → Fit h n r s → Ready h n (set ss r s) m q
  ready_set ss m q y r s f = record {
    long = omega (arith, y.long, length-set ss r s);
    fit = λ i k. by i k (ℕ_discrete i r);
    waits = y.waits;
    flags = y.flags;
  }
    where
      by : (i : ℕ) → i < length h.rows → Dec (i ≡ r) → Fit h n i (get_or (set ss r s) i no_state)
      by i k (yes e) = rw (e, get_or-set_same ss r s no_state (omega (arith, y.long))) f
      by i k (no d) = rw (get_or-set_other ss r i s no_state d) (y.fit i k)

  -- A run moves cursors only, and from above only down.
  pub fit_moved : (r : ℕ) (s t : State) → Moved s t → Fit h n r s → Fit h n r t
  fit_moved r s t v f = record {
    known = rw v.known f.known;
    possible = rw v.possible f.possible;
    lower = rw v.lower f.lower;
    upper = rw v.upper f.upper;
    inside = omega (arith, v.down, f.inside);
  }

  -- What a row in range needs to be run with its own guards.
  pub fit_runs : (r : ℕ) (s : State) → n ≤ figure_limit → Shaped h → r < length h.rows → (a e : ℕ) → a ≡ start_by 1 h.rows r → e ≡ end_by 1 h.rows r
      → Fit h n r s → Runs s (stretch a e h.guard_bounds)
  fit_runs r s l y k a e p q f = record {
    figures = record { known = omega (arith, f.known); possible = omega (arith, f.possible); lower = f.lower; upper = f.upper };
    inside = omega (arith, f.inside, stretch-length a e h.guard_bounds (omega (arith, y.guards.ends r k)));
  }

flags_residual : (row : Row) (s : State) (q : Rows) (r : ℕ) → r < max_thresholds → Flags q → Flags (residual_queued row s q r)
flags_residual row s q r k f = by (wants_residual row s)
  where
    by : (b : Bool) → Flags (cond b (queue_row q r) q)
    by true = flags_queue q f r k
    by false = f

-- A row is run.
pub ready_run : (h : HeldRows) (n : ℕ) → Shaped h → (v : Live) → ReadyLive h n v → (r : ℕ) → r < length h.rows → ReadyLive h n (run_with (held_row h r) v r).live
unfolding run_with
ready_run h n y v w r k =
    let s = get_or v.states r no_state in
    let row = held_row h r in
    let g = all_guards _ _ (guard_slices h y r k _ _ refl refl).below in
    let t = all_terms_lem _ _ (term_slices h y r k _ _ refl refl).below in
    let a = kept_row row s v.marks g t w.waits in
    let b = ready_set h n v.states v.marks v.residuals w r (threshold_row row s v.marks).state (fit_moved h n r s (threshold_row row s v.marks).state a.moved (w.fit r k)) in
    record { long = b.long; fit = b.fit; waits = a.waits; flags = flags_residual row s v.residuals r (omega (arith, y.few)) w.flags }

-- ---- states

-- A weight is drained: the range grows by a step.
pub fit_drained : (h : HeldRows) (n r : ℕ) (s : State) (value : Bool) (w : ℕ) → w < weight_limit → Fit h n r s → Fit h (n + drain_limit) r (drained value w s)
unfolding drained with_known with_possible
fit_drained h n r s true w l f = record {
  known = omega (arith, f.known, mag_add s.known (pos w));
  possible = omega (arith, f.possible);
  lower = f.lower;
  upper = f.upper;
  inside = f.inside;
}
fit_drained h n r s false w l f = record {
  known = omega (arith, f.known);
  possible = omega (arith, f.possible, mag_minus s.possible (pos w));
  lower = f.lower;
  upper = f.upper;
  inside = f.inside;
}

pub fit_drains : (h : HeldRows) (n r : ℕ) (s : State) (w : ℕ) → n ≤ figure_limit → w < weight_limit → Fit h n r s → Drains s w
fit_drains h n r s w k l f = record { known = omega (arith, f.known); possible = omega (arith, f.possible); light = omega arith }

module _ (h : HeldRows) (n r : ℕ) where
  fit-lower : (s : State) (b : ℤ) → mag b < figure_limit → Fit h n r s → Fit h n r (with_lower s b)
  unfolding with_lower
  fit-lower s b l f = record { known = f.known; possible = f.possible; lower = l; upper = f.upper; inside = f.inside }

  fit-upper : (s : State) (u : Option ℤ) → mag (limit u) < figure_limit → Fit h n r s → Fit h n r (with_upper s u)
  unfolding with_upper
  fit-upper s u l f = record { known = f.known; possible = f.possible; lower = f.lower; upper = l; inside = f.inside }

  -- A guard's bound is told.
  pub fit_guard : (s : State) (value : Bool) (b : ℤ) → mag b < figure_limit → Fit h n r s → Fit h n r (guard_state s value b).state
  fit_guard s value b l f = guard-cases s value b (λ (t : Tightened). Fit h n r t.state) (λ e. f) (λ e g. fit-lower s b l f) (λ e g. fit-upper s (Some b) l f)

  -- Another row's bounds are told.
  pub fit_prefix : (source s : State) (i k : ℕ) → mag source.lower < figure_limit → mag (limit source.upper) < figure_limit → Fit h n r s
      → Fit h n r (moved_state source s i k).state
  fit_prefix source s i k a b f =
      let l = moved_lower source s i k in
      let g = lower_cases source i k (λ (t : Tightened). Fit h n r t.state) s (λ e. fit-lower s source.lower a f) (λ e. f) in
      upper_cases source i k (λ (t : Tightened). Fit h n r t.state) l (λ e. fit-upper l.state source.upper b g) (λ e. g)

-- ---- what follows an equation

pub ready_by : (h : HeldRows) (n : ℕ) (c d : Did) → c ≡ d → ReadyLive h n d.live → ReadyLive h n c.live
ready_by h n c d e y = rw e y

pub ready_states : (h : HeldRows) (n : ℕ) (ss ss' : List State) (m : Marks) (q : Rows) → ss' ≡ ss → Ready h n ss m q → Ready h n ss' m q
ready_states h n ss ss' m q e y = rw e y

pub fit_by : (h : HeldRows) (n r : ℕ) (s t : State) → s ≡ t → Fit h n r t → Fit h n r s
fit_by h n r s t e f = rw e f

pub drains_by : (s t : State) (w : ℕ) → s ≡ t → Drains t w → Drains s w
drains_by s t w e d = rw e d

-- Rows that wait to hand on their bounds need not be looked at; those that wait for a residual are as they were.
pub ready_queue : (h : HeldRows) (n : ℕ) (v : Live) (q : Rows) → q ≡ v.residuals → ReadyLive h n v → Ready h n v.states v.marks q
ready_queue h n v q e y = rw e y
