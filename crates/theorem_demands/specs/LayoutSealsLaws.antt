-- NO SEAL LOSES A LAYOUT: where every decided node waits and none was drained, the first states of all rows agree with every layout
-- that agrees with the decided nodes, and so does each row that is run once.
use Rattle.std.specs.Prelude.{ℕ, ◌≤◌, Bool, true, false, length, get_or}
use Rattle.std.proofs.Common.{arith}
use Rattle.memory.specs.Limits.{max_thresholds}
use Rattle.numeric.specs.Threshold.{Job}
use Rattle.numeric.specs.Layout.{Layout, IsLayout}
use Rattle.words.specs.Mask.{bit}
use Rattle.rows.specs.Rows.{no_row}
use Rattle.row_moves.specs.Between.{Index, Live, run_row}
use Rattle.drain.specs.Drain.{seal}
use Rattle.drain.proofs.DrainLaws.{seal_walks}
use Rattle.drain.specs.Steps.{begun}
use Rattle.theorem_table.specs.Table.{IsRow, start}
use Rattle.theorem_ends.specs.Sound.{Sound}
use Rattle.theorem_ends.proofs.SealsLaws.{first_long}
use Rattle.theorem_follows.specs.Ordered.{Ordered}
use Rattle.theorem_follows.specs.StandsLaws.{restart}
use Rattle.theorem_follows.specs.BuiltLaws.{Built}
use Rattle.theorem_follows.specs.LayoutsLaws.{nodes_agree, stands_agrees}
use Rattle.theorem_follows.specs.FirstLaws.{Undrained, first_undrained}
use Rattle.theorem_demands.specs.LayoutTurnsLaws.{Fits, Holds, Between, FineBetween, run_fine}

module _ (j : Job) (x : Index) (b : Built j x) (ordered : (r : ℕ) → IsRow x.rows r → Ordered (get_or x.rows r no_row)) (w : Layout) (is : IsLayout j w) where
  module _ (v : Live) (u : Undrained (length x.rows) v) (fits : Fits w v.marks) (s : Sound v) (few : length x.rows ≤ max_thresholds) where
    abbrev first : Live
    first = begun x v

    abbrev none : ℕ → Bool
    none n = false

    first_holds : Holds x w none none first
    first_holds =
        let o = first_undrained x v (omega (arith, s.long, few)) (omega (arith, s.dirty.long, few)) (first_long 0 x.rows v.states) u in
        record {
          stands = restart x.rows (start (bit v.marks.sure) (bit v.marks.never)) (λ (r : ℕ). none) first o.stands;
          agrees = stands_agrees j x b w is (start (bit v.marks.sure) (bit v.marks.never)) (λ (r : ℕ). none) first
              (nodes_agree j x b w is (bit v.marks.sure) (bit v.marks.never) (fits true) (fits false)) o.stands;
          queued = o.queued;
        }

  -- A SEAL: each row is run once
  pub seal_fine : (v : Live) → Undrained (length x.rows) v → Fits w v.marks → Sound v → length x.rows ≤ max_thresholds → FineBetween x w (seal x v)
  seal_fine v u fits s few =
      seal_walks x (λ (_ : ℕ). Between x w) (FineBetween x w) (λ y k c p. (c, p)) (λ r y l p c. one r y l p) (λ r y l p c. (one r y l p).1) v (none v u fits s few, first_holds v u fits s few)
    where
      one : (r : ℕ) (y : Live) → IsRow x.rows r → Between x w y → FineBetween x w (run_row x y r)
      one r y l (taken, h) = let o = run_fine j x b ordered w is taken taken y h r l in (o.0, (taken, o.1))
