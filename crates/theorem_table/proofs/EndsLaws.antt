-- EVERY RUN OF A FINITE TABLE ENDS: it can go on to a conflict or to a rest, and none is longer than a number that the rows give.
use Rattle.std.specs.Prelude.{ℕ, zero, suc, ◌+◌, ◌≤◌, ◌<◌, ◌≡◌, refl, Bool, ◌⊎◌}
use Rattle.std.proofs.Common.{le_refl, arith, ◌∙◌, inr, ltb-true, ltb-false}
use Rattle.std.proofs.Math.Path.{sym}
use Rattle.std.proofs.Math.Bool.{true, false}
use mathlib.Core.List.{List, Memᴰ}
use Rattle.std.proofs.Math.Logic.{inl}
use Rattle.std.proofs.Math.Dec.{ltb}
use Rattle.base.specs.TestLaws.{unequal}
use Rattle.rows.specs.Rows.{Row}
use Rattle.theorem_table.specs.Table.{Table, start, Step, Conflict, Run, done, more, steps, Ended}
use Rattle.theorem_table.specs.Ends.{nodes_of, levels, Finite, most}
use Rattle.theorem_table.proofs.EndsCountLaws.{left, left-most, finite_step, finite_run, falls, finite_steps}
use Rattle.theorem_table.proofs.EndsDecideLaws.{SomeStep, step_or-none, conflict-or-none}

module _ (rows : List Row) where
  -- the start is finite, if its sure nodes end somewhere
  pub start_finite : (n : ℕ) (sure never : ℕ → Bool) → ((m : ℕ) → n ≤ m → sure m ≡ false) → Finite rows n (start sure never)
  unfolding levels
  start_finite n sure never h = record { sure = λ m e. by m e (ltb m n) refl; lower = λ r. Memᴰ.head refl; upper = λ r. tt }
    where
      by : (m : ℕ) → sure m ≡ true → (t : Bool) → ltb m n ≡ t → (m < n) ⊎ Memᴰ m (nodes_of rows)
      by m e true c = inl (ltb-true m n c)
      by m e false c = let f = sym e ∙ h m (ltb-false m n c) in absurd (unequal cc)

  module _ (n : ℕ) where
    -- one turn: the table is at its end, or goes on where a step leads
    turn : (s : Table) → Finite rows n s → ((t : Table) → Finite rows n t → left rows t + 1 ≤ left rows s → (u : Table) × Ended rows t u)
        → (u : Table) × Ended rows s u
    turn s f rec = by (conflict-or-none rows n s f) (step_or-none rows s)
      where
        by : Conflict rows s ⊎ (Conflict rows s → ⊥) → SomeStep rows s ⊎ ((u : Table) → Step rows s u → ⊥) → (u : Table) × Ended rows s u
        by (inl c) d = (s, (done, inl c))
        by (inr c) (inl a) =
            let e = rec a.0 (finite_step rows n s a.0 f a.1) (falls rows n s a.0 f a.1) in
            (e.0, (more c a.1 e.1.0, e.1.1))
        by (inr c) (inr d) = (s, (done, inr (c, d)))

    ending : (k : ℕ) (s : Table) → Finite rows n s → left rows s ≤ k → (u : Table) × Ended rows s u
    ending zero s f h = turn s f (λ t g l. absurd (omega arith))
    ending (suc k) s f h = turn s f (λ t g l. ending k t g (omega arith))

    -- every run can go on to its end
    pub some_end : (s : Table) → Finite rows n s → (t : Table) → Run rows s t → (u : Table) × Ended rows t u
    some_end s f t r = ending (left rows t) t (finite_run rows n f r) (le_refl (left rows t))

    -- and none is longer than some number
    pub bounded : (s : Table) → Finite rows n s → (k : ℕ) × ((t : Table) (r : Run rows s t) → steps rows r ≤ k)
    bounded s f = (most rows, λ t r. let a = finite_steps rows n f r in let b = left-most rows s in omega arith)
