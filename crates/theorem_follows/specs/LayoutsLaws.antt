-- NO LAYOUT IS LOST: every layout of the job that agrees with a live state agrees with what a run row, a drained guard, a drained
-- condition or handed-on bounds make of it, and where one of these contradicts there was no such layout.
use Rattle.std.specs.Prelude.{ℕ, suc, ◌≡◌, Bool, true, false, not, List, pos, ◌≤ℤ◌, Some}
use Rattle.std.proofs.Common.{arith, sym, ap, subst}
use Rattle.std.proofs.lemmas.Bool.{not-true}
use Rattle.numeric.specs.Threshold.{Job}
use Rattle.numeric.specs.Layout.{Layout, IsLayout}
use Rattle.numeric.specs.LayoutLaws.{sum_of}
use Rattle.state.specs.Step.{contradicts}
use Rattle.words.specs.Mask.{bit}
use Rattle.rows.specs.Rows.{Row}
use Rattle.row_moves.specs.Between.{Index, Live, state_at, Did}
use Rattle.theorem_table.specs.Table.{Table, start, terms_of}
use Rattle.theorem_table.specs.OrderLaws.{UpLe, pos_≤ℤ}
use Rattle.theorem_table.proofs.TableLaws.{Le, Follows}
use Rattle.theorem_table.proofs.LayoutLaws.{of_layout, layout_agrees, no_layout}
use Rattle.theorem_follows.specs.DecideLaws.{Broken}
use Rattle.theorem_follows.specs.StandsLaws.{table_at, Stands}
use Rattle.theorem_follows.specs.MovesLaws.{Kept}
use Rattle.theorem_follows.specs.BuiltLaws.{Built}

-- A layout agrees with a live state: with every decided node, and each row's sum is at least its lower and below its upper.
pub record Agrees (rows : List Row) (w : Layout) (v : Live) : Type 0 where
  pub sure : (n : ℕ) → bit v.marks.sure n ≡ true → w n ≡ true
  pub never : (n : ℕ) → bit v.marks.never n ≡ true → w n ≡ false
  pub lower : (r : ℕ) → (state_at v r).lower ≤ℤ pos (sum_of w (terms_of rows r))
  pub upper : (r : ℕ) → UpLe (Some (pos (suc (sum_of w (terms_of rows r))))) (state_at v r).upper

module _ (rows : List Row) (w : Layout) (v : Live) where
  pub agrees_le : Agrees rows w v → Le (table_at v) (of_layout rows w)
  agrees_le a = record { sure = a.sure; never = λ n e. ap not (a.never n e); lower = a.lower; upper = a.upper }

  pub le_agrees : Le (table_at v) (of_layout rows w) → Agrees rows w v
  le_agrees a = record { sure = a.sure; never = λ n e. not-true (w n) (a.never n e); lower = a.lower; upper = a.upper }

module _ (j : Job) (x : Index) (b : Built j x) (w : Layout) (is : IsLayout j w) where
  -- WHAT STANDS FROM A START, every layout agrees with that agrees with the start
  pub stands_agrees : (s : Table) (drained : ℕ → ℕ → Bool) (v : Live) → Le s (of_layout x.rows w) → Stands x.rows s drained v → Agrees x.rows w v
  stands_agrees s drained v l h =
      le_agrees x.rows w v (subst (λ (rs : List Row). Le s (of_layout rs w) → Follows rs s (table_at v) → Le (table_at v) (of_layout rs w)) (sym b.rows) (layout_agrees j w is s (table_at v)) l h.follows)

  -- the start may be nodes alone: marks, and no bounds
  pub nodes_agree : (sure never : ℕ → Bool) → ((n : ℕ) → sure n ≡ true → w n ≡ true) → ((n : ℕ) → never n ≡ true → w n ≡ false) → Le (start sure never) (of_layout x.rows w)
  nodes_agree sure never a c = record { sure = a; never = λ n e. ap not (c n e); lower = λ r. pos_≤ℤ {a = 0} {b = sum_of w (terms_of x.rows r)} (omega arith); upper = λ r. tt }

  -- and where a conflict follows there is none
  pub broken_none : (s : Table) → Le s (of_layout x.rows w) → Broken x.rows s → ⊥
  broken_none s l h =
      subst (λ (rs : List Row). Le s (of_layout rs w) → Broken rs s → ⊥) (sym b.rows) (λ k c. no_layout j w is s c.0 k c.1 c.2) l h

  -- What each function does to a layout that agrees before it.
  abbrev pub Stays : Did → Type 0
  Stays d = Agrees x.rows w d.live × (contradicts d.step ≡ true → ⊥)

  pub kept_stays : (drained : ℕ → ℕ → Bool) (v : Live) → Agrees x.rows w v → (d : Did) → Kept x drained (table_at v) d → Stays d
  kept_stays drained v a d k = (stands_agrees (table_at v) drained d.live (agrees_le x.rows w v a) k.0, λ c. broken_none (table_at v) (agrees_le x.rows w v a) (k.1 c))
