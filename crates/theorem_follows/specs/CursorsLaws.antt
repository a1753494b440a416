-- CURSORS only move forward and stay inside their lists, and a row that is run keeps its four figures, whether it contradicts or
-- not. What the cursors pass is decided: `row_complete` of RowCompleteLaws. Assumes nothing.
use Prim.Native.Nat.{ℕ, ◌+◌, ◌-◌, ◌≤◌}
use native.Mathlib.Omega.{arith}
use Rattle.std.specs.Prelude.{refl, false, cond, length, drop, pos, ◌-ℤ◌}
use Rattle.std.proofs.Common.{◌∙◌}
use Rattle.std.proofs.Math.Bool.{Bool, true}
use Rattle.std.specs.Int.Signed.{le_z, lt_z}
use Rattle.state.specs.declared.Step.TheVariants.{Unchanged, Contradiction}
use Rattle.state.specs.declared.State.{State}
use Rattle.state.specs.Step.{contradicts}
use Rattle.state.specs.State.{limited, limit, with_guards, with_terms}
use Rattle.queues.specs.Marks.{Marks}
use Rattle.rows.specs.Rows.{Row}
use Rattle.row_runs.specs.Scan.{Scanned}
use Rattle.row_runs.specs.Row.{Ran, ran, sure_guards, never_guards, threshold_guards, forced, true_terms, false_terms, threshold_row}
use Rattle.row_runs.proofs.RowLaws.{Moved, sure_within, forced_within}
use Rattle.row_runs.specs.RunsLaws.{run_ends}
use Rattle.row_runs.specs.Runs.{guards_run, true_run, false_run}

-- Every cursor stands in its list.
pub record Cursors (row : Row) (st : State) : Type 0 where
  pub sure : st.sure_guard ≤ length row.guards
  pub never : st.never_guard ≤ length row.guards
  pub true-term : st.true_term ≤ length row.terms
  pub false-term : st.false_term ≤ length row.terms

module _ (row : Row) where
  -- From one state to a later one: figures as they were, sure_guard, true_term and false_term up, never_guard down, all in range.
  abbrev pub Goes : State → State → Type 0
  Goes s t = Moved s t × (Cursors row s → Cursors row t)

  stays : (s : State) → Goes s s
  stays s = (record { known = refl; possible = refl; lower = refl; upper = refl; up = omega arith; down = omega arith; true_on = omega arith; false_on = omega arith }, λ h. h)

  goes_then : (s t u : State) → Goes s t → Goes t u → Goes s u
  goes_then s t u a b = (
    record {
      known = b.0.known ∙ a.0.known;
      possible = b.0.possible ∙ a.0.possible;
      lower = b.0.lower ∙ a.0.lower;
      upper = b.0.upper ∙ a.0.upper;
      up = omega (arith, a.0.up, b.0.up);
      down = omega (arith, a.0.down, b.0.down);
      true_on = omega (arith, a.0.true_on, b.0.true_on);
      false_on = omega (arith, a.0.false_on, b.0.false_on);
    },
    λ h. b.1 (a.1 h),
  )

  goes-guards : (s : State) (x y : ℕ) → s.sure_guard ≤ x → x ≤ s.sure_guard + (length row.guards - s.sure_guard) → y ≤ s.never_guard → Goes s (with_guards s x y)
  unfolding with_guards
  goes-guards s x y h k l = (
    record { known = refl; possible = refl; lower = refl; upper = refl; up = h; down = l; true_on = omega arith; false_on = omega arith },
    λ c. record { sure = let i = c.sure in omega arith; never = let i = c.never in omega arith; true-term = c.true-term; false-term = c.false-term },
  )

  goes-terms : (s : State) (x y : ℕ) → s.true_term ≤ x → x ≤ s.true_term + (length row.terms - s.true_term)
      → s.false_term ≤ y → y ≤ s.false_term + (length row.terms - s.false_term) → Goes s (with_terms s x y)
  unfolding with_terms
  goes-terms s x y h k i l = (
    record { known = refl; possible = refl; lower = refl; upper = refl; up = omega arith; down = omega arith; true_on = h; false_on = i },
    λ c. record { sure = c.sure; never = c.never; true-term = let z = c.true-term in omega arith; false-term = let z = c.false-term in omega arith },
  )

  guards-go : (s : State) (m : Marks) → Goes s (threshold_guards row.guards s m).state
  unfolding threshold_guards with_guards
  guards-go s m = by (contradicts a.step)
    where
      a : Scanned
      a = sure_guards row.guards s m

      b : Scanned
      b = never_guards row.guards s a.marks a.step

      ends : Bool → Ran
      ends t = elim t [
        | true ↦ ran (with_guards s (s.sure_guard + a.passed) s.never_guard) a.marks Contradiction
        | false ↦ ran (with_guards (with_guards s (s.sure_guard + a.passed) s.never_guard) (s.sure_guard + a.passed) (s.never_guard - b.passed)) b.marks b.step
      ]

      by : (t : Bool) → Goes s (ends t).state
      by true = goes-guards s (s.sure_guard + a.passed) s.never_guard (omega arith) (let w = sure_within row.guards s m in omega arith) (omega arith)
      by false = goes-guards s (s.sure_guard + a.passed) (s.never_guard - b.passed) (omega arith) (let w = sure_within row.guards s m in omega arith) (omega arith)

  true-goes : (s : State) (m : Marks) → Goes s (true_terms row.terms s m).state
  unfolding true_terms
  true-goes s m = by (le_z s.lower s.known)
    where
      a : Scanned
      a = forced true (λ (w : ℕ). le_z (pos w) (s.possible -ℤ s.lower)) (drop s.true_term row.terms) m

      by : (t : Bool) → Goes s (cond t (ran s m Unchanged) (ran (with_terms s (s.true_term + a.passed) s.false_term) a.marks a.step)).state
      by true = stays s
      by false =
          let w = forced_within true (λ (w : ℕ). le_z (pos w) (s.possible -ℤ s.lower)) row.terms s.true_term m in
          goes-terms s (s.true_term + a.passed) s.false_term (omega arith) (omega arith) (omega arith) (omega arith)

  false-goes : (s : State) (m : Marks) → Goes s (false_terms row.terms s m).state
  unfolding false_terms
  false-goes s m = by (limited s.upper)
    where
      light : ℕ → Bool
      light w = lt_z (pos w) (limit s.upper -ℤ s.known)

      a : Scanned
      a = forced false light (drop s.false_term row.terms) m

      by : (t : Bool) → Goes s (cond t (ran (with_terms s s.true_term (s.false_term + a.passed)) a.marks a.step) (ran s m Unchanged)).state
      by true =
          let w = forced_within false light row.terms s.false_term m in
          goes-terms s s.true_term (s.false_term + a.passed) (omega arith) (omega arith) (omega arith) (omega arith)
      by false = stays s

  -- A ROW RUN ONCE
  pub row_goes : (s : State) (m : Marks) → Goes s (threshold_row row s m).state
  row_goes s m =
      run_ends row s m (λ (r : Ran). Goes s r.state) (λ e. stays s) (λ e. guards-go s m) (λ e f. to-b)
      (λ e f. goes_then s (true_run row s m).state (false_run row s m).state to-b (false-goes (true_run row s m).state (true_run row s m).marks))
    where
      to-b : Goes s (true_run row s m).state
      to-b = goes_then s (guards_run row s m).state (true_run row s m).state (guards-go s m) (true-goes (guards_run row s m).state (guards_run row s m).marks)
