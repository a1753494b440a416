-- WHAT FOLLOWS, FOLLOWS BY THE RULES: it lies below the end of a run of the table, or that run ends in a conflict; and where a
-- conflict follows, a run reaches one.
use Rattle.std.specs.Prelude.{ℕ, List, ◌⊎◌}
use Rattle.std.proofs.Common.{inl, inr, ⊎_elim}
use Rattle.rows.specs.Rows.{Row}
use Rattle.theorem_table.specs.Table.{Table, Conflict, Run, done, ReachesConflict, AtRest}
use Rattle.theorem_table.proofs.TableLaws.{Le, Follows, run_above, only_conflict}
use Rattle.theorem_table.specs.Ends.{Finite}
use Rattle.theorem_table.proofs.EndsLaws.{some_end}
use Rattle.theorem_follows.specs.DecideLaws.{Broken}

module _ (rows : List Row) (n : ℕ) (s : Table) (finite : Finite rows n s) where
  pub derived : (t : Table) → Follows rows s t → (w : Table) × Run rows s w × (Conflict rows w ⊎ Le t w)
  derived t f =
      let e = some_end rows n s finite s done in
      (e.0, e.1.0, ⊎_elim (λ (c : Conflict rows e.0). inl c) (λ (rest : AtRest rows e.0). inr (f e.0 (run_above rows e.1.0) rest)) e.1.1)

  pub reaches : Broken rows s → ReachesConflict rows s
  reaches b = let e = some_end rows n s finite s done in (e.0, e.1.0, only_conflict rows b.1 b.2 e.1)
