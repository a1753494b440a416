-- Bounds of the live state come by rules 1 and 6 alone from the decided nodes: every table that has these nodes, and in which neither rule
-- has a step left, has bounds at least as tight. A run, a drained guard, a drained condition and bounds handed on keep that.
use Prim.Native.Nat.{ℕ, ◌≤◌, ◌<◌}
use Rattle.std.proofs.Common.{arith, sym, ap, ◌∙◌, inl, inr, ⊎_elim, length-set, leb-true}
use Rattle.std.specs.Prelude.{◌≡◌, refl, Bool, ◌||◌, ◌⊎◌, get_or, leb, ℤ, ◌≤ℤ◌}
use Rattle.std.proofs.Math.Path.{subst}
use Rattle.std.proofs.Math.Bool.{true, false}
use mathlib.Core.List.{List, [], ◌∷◌, Memᴰ}
use Rattle.std.proofs.Math.ListN.{length}
use Rattle.std.specs.Int.Signed.{≤ℤ_refl}
use Rattle.base.specs.TestLaws.{and_left}
use Rattle.numeric.specs.Threshold.{Threshold}
use Rattle.state.specs.declared.State.{State}
use Rattle.state.specs.State.{with_lower, with_upper, drained}
use Rattle.words.specs.Mask.{bit}
use Rattle.queues.specs.Marks.{Marks, is_decided, decide}
use Rattle.queues.specs.Queue.{Rows}
use Rattle.rows.specs.Rows.{Row, no_row, Guard, guard, alone, Edge, edges_of, row_number}
use Rattle.links.specs.Links.{neighbours}
use Rattle.row_runs.specs.Row.{threshold_row}
use Rattle.tightening.specs.Told.{Tightened, moved_lower, moved_upper, moved_state}
use Rattle.tightening.specs.ToldLaws.{guard-cases, lower_cases, upper_cases}
use Rattle.row_moves.specs.Between.{Index, Live, state_at, with_state, with_dirty, Did, run_row, run_with, threshold_guard, threshold_condition, term_count, threshold_prefixes, with_dirty_rows, with_residuals}
use Rattle.row_moves.specs.LoopLaws.{drained_lower, drained_upper}
use Rattle.row_moves.specs.Handing.{moved, moved_run, guard_row, guard_told}
use Rattle.row_moves.specs.WalkLaws.{guard-ends, condition_keeps, prefix_keeps}
use Rattle.theorem_table.specs.Table.{Table, IsRow, Guards, IsPrefix}
use Rattle.theorem_table.specs.OrderLaws.{≤ℤ_trans, UpLe, up_refl, up_trans}
use Rattle.theorem_table.proofs.TableLaws.{alone_reached}
use Rattle.theorem_table.specs.Judged.{Calm}
use Rattle.theorem_table.specs.JudgedLaws.{calm_sure, calm_never, calm_longer, calm_shorter}
use Rattle.theorem_follows.specs.Ordered.{Ordered}
use Rattle.theorem_follows.specs.CursorsLaws.{row_goes}
use Rattle.theorem_follows.specs.MovesLaws.{prefix_by}
use Rattle.theorem_follows.specs.StandsLaws.{put_state}
use Rattle.theorem_follows.specs.CompleteLaws.{Wide}
use Rattle.theorem_follows.specs.DoneLaws.{Grows, run_grows}

-- The table has all decided nodes.
abbrev pub Covers : Marks → Table → Type 0
Covers m u = ((n : ℕ) → bit m.sure n ≡ true → u.sure n ≡ true) × ((n : ℕ) → bit m.never n ≡ true → u.never n ≡ true)

module _ (x : Index) (ordered : (r : ℕ) → IsRow x.rows r → Ordered (get_or x.rows r no_row)) where
  pub record Leans (v : Live) : Type 0 where
    pub sized : length x.rows ≤ length v.states
    pub wide : Wide v.marks
    pub bounds : (u : Table) → Covers v.marks u → Calm x.rows u → (r : ℕ) → ((state_at v r).lower ≤ℤ u.lower r) × UpLe (u.upper r) (state_at v r).upper

  -- bounds put anew that every such table has
  put-leans : (v : Live) (r : ℕ) (st : State) (d q : Rows) → IsRow x.rows r → Leans v
      → ((u : Table) → Covers v.marks u → Calm x.rows u → (st.lower ≤ℤ u.lower r) × UpLe (u.upper r) st.upper) → Leans (with_residuals (with_dirty_rows (with_state v r st) d) q)
  put-leans v r st d q i h better = record {
    sized = subst (λ (n : ℕ). length x.rows ≤ n) (sym (length-set v.states r st)) h.sized;
    wide = h.wide;
    bounds = λ u c k. put_state (λ (p : ℕ) (t : State). (t.lower ≤ℤ u.lower p) × UpLe (u.upper p) t.upper) v.states r st (let z = h.sized in omega arith) (better u c k) (λ p e. h.bounds u c k p);
  }

  -- A ROW RUN: bounds stay, nodes are added
  pub run_leans : (v : Live) (r : ℕ) → IsRow x.rows r → Leans v → Leans (run_row x v r).live
  unfolding run_row run_with
  run_leans v r i h =
      let a = threshold_row (get_or x.rows r no_row) (state_at v r) v.marks in
      let goes = (row_goes (get_or x.rows r no_row) (state_at v r) v.marks).0 in
      let grown = run_grows x ordered v r h.wide in
      record {
        sized = subst (λ (n : ℕ). length x.rows ≤ n) (sym (length-set v.states r a.state)) h.sized;
        wide = grown.1;
        bounds = λ u c k.
            let o = h.bounds u ((λ n e. c.0 n (grown.0 true n e)), λ n e. c.1 n (grown.0 false n e)) k in
            put_state (λ (p : ℕ) (t : State). (t.lower ≤ℤ u.lower p) × UpLe (u.upper p) t.upper) v.states r a.state (let z = h.sized in omega arith)
            (subst (λ (z : ℤ). z ≤ℤ u.lower r) (sym goes.lower) (o r).0, subst (UpLe (u.upper r)) (sym goes.upper) (o r).1) (λ p e. o p);
      }

  -- A DRAINED GUARD: rule 1
  pub guard_leans : (v : Live) (t : Threshold) → Guards x.rows (row_number x.rows t.terms) (guard t.bound t.node) → is_decided v.marks t.node ≡ true
      → Leans v → Leans (threshold_guard x v t).live
  unfolding with_lower with_upper
  guard_leans v t i d h = guard-ends x v t (λ (o : Did). Leans o.live) (λ e. h) (λ e. run_leans _ r i.0 (put-leans v r (guard_told x v t).state _ _ i.0 h better))
    where
      r : ℕ
      r = guard_row x t

      is_never : bit v.marks.sure t.node ≡ false → bit v.marks.never t.node ≡ true
      is_never e = ap (λ (b : Bool). b || bit v.marks.never t.node) (sym e) ∙ d

      better : (u : Table) → Covers v.marks u → Calm x.rows u → ((guard_told x v t).state.lower ≤ℤ u.lower r) × UpLe (u.upper r) (guard_told x v t).state.upper
      better u c k = guard-cases (state_at v r) (bit v.marks.sure t.node) t.bound (λ (o : Tightened). (o.state.lower ≤ℤ u.lower r) × UpLe (u.upper r) o.state.upper)
          (λ e. h.bounds u c k r) (λ e f. (calm_sure x.rows u k r (guard t.bound t.node) i (c.0 t.node e), (h.bounds u c k r).1))
          (λ e f. ((h.bounds u c k r).0, calm_never x.rows u k r (guard t.bound t.node) i (c.1 t.node (is_never e), alone_reached x.rows u alone refl)))

  -- A DRAINED CONDITION: sums move, bounds stay
  pub condition_leans : (v : Live) (n : ℕ) → ((e : Edge) → Memᴰ e (edges_of x.rows n) → IsRow x.rows e.row) → Leans v → Leans (threshold_condition x v n).live
  unfolding threshold_condition
  condition_leans v n are h = condition_keeps x Leans (bit v.marks.sure n) (edges_of x.rows n) (λ e u m p.
      let st = drained (bit v.marks.sure n) e.weight (state_at u e.row) in
      run_leans _ e.row (are e m) (put-leans u e.row st u.dirty u.residuals (are e m) p (λ t c k. (
        subst (λ (z : ℤ). z ≤ℤ t.lower e.row) (sym (drained_lower (bit v.marks.sure n) e.weight (state_at u e.row))) (p.bounds t c k e.row).0,
        subst (UpLe (t.upper e.row)) (sym (drained_upper (bit v.marks.sure n) e.weight (state_at u e.row))) (p.bounds t c k e.row).1,
      )))) v h

  -- BOUNDS HANDED ON: rule 6
  pub prefixes_leans : (v : Live) (row : ℕ) → ((r : ℕ) → Memᴰ r (neighbours row x.links) → IsPrefix x.rows row r ⊎ IsPrefix x.rows r row)
      → Leans v → Leans (threshold_prefixes x v row).live
  unfolding threshold_prefixes with_lower with_upper
  prefixes_leans v row links h = (prefix_keeps x Q row source (neighbours row x.links) one v (h, λ b n e. e)).0
    where
      source : State
      source = state_at v row

      Q : Live → Type 0
      Q w = Leans w × Grows v.marks w.marks

      one : (r : ℕ) (w : Live) → Memᴰ r (neighbours row x.links) → (moved x row source r w).changed ≡ true → Q w → Q (moved_run x row source r w).live
      one r w m e (k, g) = (run_leans _ r is (put-leans w r _ _ _ is k better), λ b n d. (run_grows x ordered _ r k.wide).0 b n (g b n d))
        where
          link : IsPrefix x.rows row r ⊎ IsPrefix x.rows r row
          link = links r m

          turned : IsPrefix x.rows r row ⊎ IsPrefix x.rows row r
          turned = ⊎_elim (λ (i : IsPrefix x.rows row r). inr i) (λ (i : IsPrefix x.rows r row). inl i) link

          is : IsRow x.rows r
          is = ⊎_elim (λ (i : IsPrefix x.rows row r). i.1) (λ (i : IsPrefix x.rows r row). i.0) link

          better : (u : Table) → Covers w.marks u → Calm x.rows u
              → ((moved_state source (state_at w r) (term_count x row) (term_count x r)).state.lower ≤ℤ u.lower r) × UpLe (u.upper r) (moved_state source (state_at w r) (term_count x row) (term_count x r)).state.upper
          better u c q = upper_cases source (term_count x row) (term_count x r) Fine (moved_lower source (state_at w r) (term_count x row) (term_count x r))
              (λ d. (first.0, up_trans (u.upper r) (u.upper row) source.upper (calm_shorter x.rows u q r row (prefix_by x.rows r row turned (leb-true (term_count x r) (term_count x row) (and_left (leb (term_count x r) (term_count x row)) _ d)))) from.1)) (λ d. first)
            where
              Fine : Tightened → Type 0
              Fine o = (o.state.lower ≤ℤ u.lower r) × UpLe (u.upper r) o.state.upper

              from : (source.lower ≤ℤ u.lower row) × UpLe (u.upper row) source.upper
              from = h.bounds u ((λ n d. c.0 n (g true n d)), λ n d. c.1 n (g false n d)) q row

              first : Fine (moved_lower source (state_at w r) (term_count x row) (term_count x r))
              first = lower_cases source (term_count x row) (term_count x r) Fine (state_at w r)
                  (λ d. (≤ℤ_trans from.0 (calm_longer x.rows u q row r (prefix_by x.rows row r link (leb-true (term_count x row) (term_count x r) (and_left (leb (term_count x row) (term_count x r)) _ d)))), (k.bounds u c q r).1)) (λ d. k.bounds u c q r)
