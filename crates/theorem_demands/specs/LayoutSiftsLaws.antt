-- NO SIFTING LOSES A LAYOUT: a settling that does not contradict ends with all decided nodes drained, so that a row can be tried.
use Rattle.std.specs.Prelude.{ℕ, ◌≡◌, false, List, get_or}
use Rattle.base.specs.TestLaws.{clash, and_left}
use Rattle.numeric.specs.Threshold.{Job}
use Rattle.numeric.specs.Layout.{Layout, IsLayout}
use Rattle.state.specs.Step.{contradicts}
use Rattle.rows.specs.Rows.{no_row}
use Rattle.row_moves.specs.Between.{Index, Live}
use Rattle.drain.specs.Drain.{settle}
use Rattle.drain.specs.Sift.{Sifted, try_row, sift}
use Rattle.drain.specs.SiftLaws.{sift_walks}
use Rattle.theorem_table.specs.Table.{IsRow}
use Rattle.theorem_ends.specs.Sound.{Indexed, Sound}
use Rattle.theorem_ends.proofs.SettlesLaws.{settle_stays, settle-ends, fall_try}
use Rattle.theorem_follows.specs.Ordered.{Ordered}
use Rattle.theorem_follows.specs.BuiltLaws.{Built}
use Rattle.theorem_demands.specs.LayoutTurnsLaws.{Between, FineBetween, settle_fine}
use Rattle.theorem_demands.specs.LayoutTriedLaws.{try_fine}

-- What a sifting does that loses no layout.
abbrev pub FineSifted : Index → Layout → Sifted → Type 0
FineSifted x w t = (contradicts t.step ≡ false) × Between x w t.live

module _ (j : Job) (x : Index) (b : Built j x) (ordered : (r : ℕ) → IsRow x.rows r → Ordered (get_or x.rows r no_row)) (ix : Indexed x) (w : Layout) (is : IsLayout j w) where
  -- A ROUND
  module _ (v : Live) (s : Sound v) (h : Between x w v) (gcds : List ℕ) (visits : ℕ) where
    settled : FineBetween x w (settle x v)
    settled = settle_fine j x b ordered w is v h

    tried : FineSifted x w (try_row x (settle x v).live gcds visits)
    tried =
        let t = try_fine j x b ix.conditions w settled.1.0 (settle x v).live settled.1.1 (and_left _ _ (settle-ends x ix v s settled.0)) gcds visits in
        (t.0, (settled.1.0, t.1))

  -- SIFTING
  pub sift_fine : (v : Live) (gcds : List ℕ) → Sound v → Between x w v → FineSifted x w (sift x v gcds)
  sift_fine v gcds s h =
      sift_walks x (λ (n : ℕ) (u : Live) (g : List ℕ) (m : ℕ). Sound u × Between x w u) (FineSifted x w) (λ u g m k c p. (c, p.1))
      (λ n u g m p e. absurd (clash (contradicts (settle x u).step) e (settled u p.0 p.1 g m).0)) (λ n u g m k c p e i. (c, (settled u p.0 p.1 g m).1))
      (λ n u g m p e i f. tried u p.0 p.1 g m)
      (λ n u g m p e i f. ((fall_try x ix (settle x u).live g m (settle_stays x ix u p.0).0 i).0, (tried u p.0 p.1 g m).1)) v gcds (s, h)
