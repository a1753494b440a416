-- WHAT MOVES BETWEEN ROWS FOLLOWS: a row that is run, a guard that is drained (rule 1) and bounds handed on over prefix links (rule 6)
-- keep the invariant of Stands, and where one of them contradicts, a conflict follows from the start.
use Prim.Native.Nat.{ℕ, ◌≤◌, ◌<◌}
use Rattle.std.proofs.Common.{arith, sym, ap, ◌∙◌, subst, inl, inr, ⊎_elim, length-append, leb-true}
use Rattle.std.specs.Prelude.{◌≡◌, Bool, true, false, not, ◌||◌, ◌⊎◌, length, get_or, leb, ◌≤ℤ◌, ◌<ℤ◌, Option, None, Some}
use Rattle.std.proofs.Math.Path.{refl}
use mathlib.Core.List.{List, [], ◌∷◌, ◌++◌, append-nil, Memᴰ}
use Rattle.std.proofs.Math.IntN.{ℤ}
use Rattle.std.specs.Int.Signed.{le_z, ≤ℤ_refl}
use Rattle.base.specs.TestLaws.{clash, and_left, and_right}
use Rattle.base.specs.SignedLaws.{nle-lt_z}
use Rattle.numeric.specs.Threshold.{Term, Threshold}
use Rattle.state.specs.declared.Step.TheVariants.{Unchanged}
use Rattle.state.specs.declared.State.{State}
use Rattle.state.specs.Step.{contradicts}
use Rattle.state.specs.State.{upper_at_most, with_lower, with_upper}
use Rattle.words.specs.Mask.{bit}
use Rattle.queues.specs.Marks.{Marks, is_decided, decide}
use Rattle.queues.specs.Queue.{Rows}
use Rattle.rows.specs.Rows.{Row, no_row, Guard, guard, alone, row_number}
use Rattle.links.specs.Links.{neighbours}
use Rattle.row_runs.specs.Row.{Ran, threshold_row}
use Rattle.tightening.specs.Told.{Tightened, guard_state, moved_lower, moved_upper, moved_state, under}
use Rattle.tightening.specs.ToldLaws.{guard-cases, lower_cases, upper_cases}
use Rattle.row_moves.specs.Between.{Index, Live, state_at, with_state, with_dirty, Did, run_row, run_with, threshold_guard, term_count, threshold_prefixes, with_dirty_rows, with_residuals}
use Rattle.row_moves.specs.Handing.{moved_run, guard_row, guard_told}
use Rattle.row_moves.specs.WalkLaws.{guard-ends, prefix_walks}
use Rattle.theorem_table.specs.Table.{Table, IsRow, terms_of, Guards, IsPrefix, AtRest}
use Rattle.theorem_table.specs.OrderLaws.{lt, ≤ℤ_trans, <ℤ_≤ℤ, UpLe, up_refl, up_trans}
use Rattle.theorem_table.proofs.TableLaws.{Le, alone_reached}
use Rattle.theorem_table.specs.JudgedLaws.{rest_calm, calm_sure, calm_never, calm_longer, calm_shorter}
use Rattle.theorem_follows.specs.DecideLaws.{table_of, Broken, follows_below}
use Rattle.theorem_follows.specs.RowLaws.{Fine, row_fine}
use Rattle.theorem_follows.specs.CursorsLaws.{row_goes}
use Rattle.theorem_follows.specs.StandsLaws.{table_at, Apart, Stands, stay_le, apart_decide, put_state, known_inside, possible_inside, restart, put_stands}
use Rattle.queues.proofs.StayLaws.{Stay, stay_same, stay_decide}

-- An upper bound that lies above a number says no more than the number as a bound would.
pub not_above : (z : ℤ) (y : Option ℤ) → upper_at_most y z ≡ false → UpLe (Some z) y
not_above z None f = tt
not_above z (Some b) f = <ℤ_≤ℤ (lt (nle-lt_z z b f))

-- A GUARD'S BOUND makes a row's bounds no wider.
pub guard_tightens : (st : State) (b : ℤ) (value : Bool) → (st.lower ≤ℤ (guard_state st value b).state.lower) × UpLe (guard_state st value b).state.upper st.upper
unfolding with_lower with_upper
guard_tightens st b value =
    guard-cases st value b (λ (o : Tightened). (st.lower ≤ℤ o.state.lower) × UpLe o.state.upper st.upper) (λ e. (≤ℤ_refl st.lower, up_refl st.upper))
    (λ e f. (<ℤ_≤ℤ (lt (nle-lt_z st.lower b f)), up_refl st.upper)) (λ e f. (≤ℤ_refl st.lower, not_above b st.upper f))

-- of two rows of which one starts the other, the shorter starts the longer; equal rows start each other
pub prefix_by : (rows : List Row) (r q : ℕ) → IsPrefix rows r q ⊎ IsPrefix rows q r → length (terms_of rows r) ≤ length (terms_of rows q) → IsPrefix rows r q
prefix_by rows r q (inl i) h = i
prefix_by rows r q (inr i) h = (i.1, i.0, ([], same i.2.0 i.2.1, i.2.3, i.2.2))
  where
    none : (xs : List Term) → length xs ≤ 0 → xs ≡ []
    none [] k = refl
    none (x ∷ xs) k = absurd (let z : length (x ∷ xs) ≤ 0 = k in omega arith)

    same : (rest : List Term) → terms_of rows r ≡ terms_of rows q ++ rest → terms_of rows q ≡ terms_of rows r ++ []
    same rest e =
        let l = length-append (terms_of rows q) rest in
        let k : length (terms_of rows r) ≡ length (terms_of rows q ++ rest) = ap length e in
        let n = none rest (omega arith) in
        sym (e ∙ ap (λ (xs : List Term). terms_of rows q ++ xs) n ∙ append-nil (terms_of rows q)) ∙ sym (append-nil (terms_of rows r))

no_contradiction : {A : Type 0} → contradicts Unchanged ≡ true → A
no_contradiction h = absurd (clash true refl (sym h))

module _ (x : Index) (drained : ℕ → ℕ → Bool) where
  -- What each function keeps: the invariant, and where it contradicts, a conflict follows.
  abbrev pub Kept : Table → Did → Type 0
  Kept s d = Stands x.rows s drained d.live × (contradicts d.step ≡ true → Broken x.rows s)

  -- A ROW RUN ONCE: rules 2 to 5
  pub run_stands : (s : Table) (v : Live) (r : ℕ) → IsRow x.rows r → Stands x.rows s drained v → Kept s (run_row x v r)
  unfolding run_row run_with
  run_stands s v r i h = (
    put_stands x.rows s drained v h r a.state a.marks v.dirty _ i goes.known goes.possible f.0.2.0 f.0.2.1
        (record {
          sure = (stay_le v.marks a.marks l u f.0.2.0).sure;
          never = (stay_le v.marks a.marks l u f.0.2.0).never;
          lower = put_state (λ (q : ℕ) (t : State). l q ≤ℤ t.lower) v.states r a.state room (subst (λ (z : ℤ). l r ≤ℤ z) (sym goes.lower) (≤ℤ_refl (l r))) (λ q e. ≤ℤ_refl (l q));
          upper = put_state (λ (q : ℕ) (t : State). UpLe t.upper (u q)) v.states r a.state room (subst (λ (z : Option ℤ). UpLe z (u r)) (sym goes.upper) (up_refl (u r))) (λ q e. up_refl (u q));
        })
        (follows_below x.rows s (table_at after) (table_of a.marks l u) f.0.0
        (record {
          sure = λ n e. e;
          never = λ n e. e;
          lower = put_state (λ (q : ℕ) (t : State). t.lower ≤ℤ l q) v.states r a.state room (subst (λ (z : ℤ). z ≤ℤ l r) (sym goes.lower) (≤ℤ_refl (l r))) (λ q e. ≤ℤ_refl (l q));
          upper = put_state (λ (q : ℕ) (t : State). UpLe (u q) t.upper) v.states r a.state room (subst (λ (z : Option ℤ). UpLe (u r) z) (sym goes.upper) (up_refl (u r))) (λ q e. up_refl (u q));
        })),
    f.1,
  )
    where
      l : ℕ → ℤ
      l q = (state_at v q).lower

      u : ℕ → Option ℤ
      u q = (state_at v q).upper

      row : Row
      row = get_or x.rows r no_row

      a : Ran
      a = threshold_row row (state_at v r) v.marks

      after : Live
      after = (run_row x v r).live

      room : r < length v.states
      room = let z = h.sized in omega arith

      goes : Rattle.row_runs.proofs.RowLaws.Moved (state_at v r) a.state
      goes = (row_goes row (state_at v r) v.marks).0

      More : Marks → Type 0
      More m = Stay v.marks m × Apart m

      keeps : (value : Bool) (m : Marks) (n : ℕ) → More m → More (decide value m n).marks
      keeps value m n k = (stay_decide v.marks value m n k.0, apart_decide value m n k.1)

      f : Fine x.rows s l u r i More keeps a
      f = row_fine x.rows s l u r i More keeps row.raw row.guards
          (λ y m. record { guard = y; there = (i, m); bound = refl; node = refl; may = refl; other = λ e k h. alone_reached x.rows (table_of k l u) y.other e })
          (state_at v r) v.marks (
            h.follows,
            record { known = known_inside x.rows s drained v h r i; possible = possible_inside x.rows s drained v h r i; lower = refl; upper = refl },
            (stay_same v.marks, h.apart),
          )

  -- A ROW'S BOUNDS PUT ANEW, as every rest has them
  abbrev pub Tighter : Table → ℕ → State → State → Type 0
  Tighter s r a b =
      (b.known ≡ a.known) × (b.possible ≡ a.possible) × (a.lower ≤ℤ b.lower) × UpLe b.upper a.upper
      × ((u : Table) → Le s u → AtRest x.rows u → (b.lower ≤ℤ u.lower r) × UpLe (u.upper r) b.upper)

  pub bound_stands : (s : Table) (v : Live) (r : ℕ) (st : State) (d q : Rows) → IsRow x.rows r → Stands x.rows s drained v
      → Tighter s r (state_at v r) st → Stands x.rows s drained (with_residuals (with_dirty_rows (with_state v r st) d) q)
  bound_stands s v r st d q i h t =
      put_stands x.rows s drained v h r st v.marks d q i t.0 t.1 (stay_same v.marks) h.apart
      (record {
        sure = λ n e. e;
        never = λ n e. e;
        lower = put_state (λ (k : ℕ) (b : State). (state_at v k).lower ≤ℤ b.lower) v.states r st room t.2 (λ k e. ≤ℤ_refl (state_at v k).lower);
        upper = put_state (λ (k : ℕ) (b : State). UpLe b.upper (state_at v k).upper) v.states r st room t.3 (λ k e. up_refl (state_at v k).upper);
      })
      (λ u a rest. let f = h.follows u a rest in record {
        sure = f.sure;
        never = f.never;
        lower = put_state (λ (k : ℕ) (b : State). b.lower ≤ℤ u.lower k) v.states r st room (t.4 u a rest).0 (λ k e. f.lower k);
        upper = put_state (λ (k : ℕ) (b : State). UpLe (u.upper k) b.upper) v.states r st room (t.4 u a rest).1 (λ k e. f.upper k);
      })
    where
      room : r < length v.states
      room = let z = h.sized in omega arith

  -- the bounds that a row has are as every rest has them
  tighter-same : (s : Table) (v : Live) (r : ℕ) → Stands x.rows s drained v → Tighter s r (state_at v r) (state_at v r)
  tighter-same s v r h = (refl, refl, ≤ℤ_refl (state_at v r).lower, up_refl (state_at v r).upper, λ u a rest. ((h.follows u a rest).lower r, (h.follows u a rest).upper r))

  -- A DRAINED GUARD: rule 1, and the row is run
  pub guard_stands : (s : Table) (v : Live) (t : Threshold) → Guards x.rows (row_number x.rows t.terms) (guard t.bound t.node)
      → is_decided v.marks t.node ≡ true → Stands x.rows s drained v → Kept s (threshold_guard x v t)
  unfolding with_lower with_upper
  guard_stands s v t i d h =
      guard-ends x v t (Kept s) (λ e. (h, λ c. no_contradiction c)) (λ e. run_stands s _ r i.0 (bound_stands s v r _ _ _ i.0 h better))
    where
      r : ℕ
      r = guard_row x t

      g : Guard
      g = guard t.bound t.node

      is_never : bit v.marks.sure t.node ≡ false → bit v.marks.never t.node ≡ true
      is_never e = ap (λ (b : Bool). b || bit v.marks.never t.node) (sym e) ∙ d

      better : Tighter s r (state_at v r) (guard_told x v t).state
      better = guard-cases (state_at v r) (bit v.marks.sure t.node) t.bound (λ (o : Tightened). Tighter s r (state_at v r) o.state) (λ e. tighter-same s v r h)
          (λ e f. (
            refl,
            refl,
            <ℤ_≤ℤ (lt (nle-lt_z (state_at v r).lower t.bound f)),
            up_refl (state_at v r).upper,
            λ u a rest. (calm_sure x.rows u (rest_calm x.rows u rest) r g i ((h.follows u a rest).sure t.node e), (h.follows u a rest).upper r),
          ))
          (λ e f. (
            refl,
            refl,
            ≤ℤ_refl (state_at v r).lower,
            not_above t.bound (state_at v r).upper f,
            λ u a rest. ((h.follows u a rest).lower r, calm_never x.rows u (rest_calm x.rows u rest) r g i ((h.follows u a rest).never t.node (is_never e), alone_reached x.rows u alone refl)),
          ))

  -- BOUNDS HANDED ON: rule 6, first the lower, then the upper
  module _ (s : Table) (v : Live) (row r : ℕ) (source : State) (link : IsPrefix x.rows row r ⊎ IsPrefix x.rows r row)
      (low : source.lower ≤ℤ (state_at v row).lower) (high : UpLe (state_at v row).upper source.upper) (h : Stands x.rows s drained v) where
    moved-lower : Tighter s r (state_at v r) (moved_lower source (state_at v r) (term_count x row) (term_count x r)).state
    unfolding with_lower
    moved-lower = lower_cases source (term_count x row) (term_count x r) (λ (o : Tightened). Tighter s r (state_at v r) o.state) (state_at v r)
        (λ e. (
          refl,
          refl,
          <ℤ_≤ℤ (lt (and_right (leb (term_count x row) (term_count x r)) _ e)),
          up_refl (state_at v r).upper,
          λ u a rest. (
            ≤ℤ_trans low (≤ℤ_trans ((h.follows u a rest).lower row)
                (calm_longer x.rows u (rest_calm x.rows u rest) row r (prefix_by x.rows row r link (leb-true (term_count x row) (term_count x r) (and_left (leb (term_count x row) (term_count x r)) _ e))))),
            (h.follows u a rest).upper r,
          ),
        )) (λ e. tighter-same s v r h)

    under-le : (a b : Option ℤ) → under a b ≡ true → UpLe a b
    under-le None b e = absurd (clash false e refl)
    under-le (Some a) None e = tt
    under-le (Some a) (Some b) e = by (le_z b a) refl e
      where
        by : (t : Bool) → le_z b a ≡ t → not t ≡ true → a ≤ℤ b
        by true f g = absurd (clash false g refl)
        by false f g = <ℤ_≤ℤ (lt (nle-lt_z a b f))

    turned : IsPrefix x.rows row r ⊎ IsPrefix x.rows r row → IsPrefix x.rows r row ⊎ IsPrefix x.rows row r
    turned (inl i) = inr i
    turned (inr i) = inl i

    moved-upper : (t : Tightened) → Tighter s r (state_at v r) t.state → Tighter s r (state_at v r) (moved_upper source t (term_count x row) (term_count x r)).state
    unfolding with_upper
    moved-upper t k = upper_cases source (term_count x row) (term_count x r) (λ (o : Tightened). Tighter s r (state_at v r) o.state) t
        (λ e. (
          k.0,
          k.1,
          k.2,
          up_trans source.upper t.state.upper (state_at v r).upper (under-le source.upper t.state.upper (and_right (leb (term_count x r) (term_count x row)) _ e)) k.3,
          λ u a rest. (
            (k.4 u a rest).0,
            up_trans (u.upper r) (u.upper row) source.upper
                (calm_shorter x.rows u (rest_calm x.rows u rest) r row (prefix_by x.rows r row (turned link) (leb-true (term_count x r) (term_count x row) (and_left (leb (term_count x r) (term_count x row)) _ e))))
                (up_trans (u.upper row) (state_at v row).upper source.upper ((h.follows u a rest).upper row) high),
          ),
        )) (λ e. k)

    pub moved_tighter : Tighter s r (state_at v r) (moved_state source (state_at v r) (term_count x row) (term_count x r)).state
    moved_tighter = moved-upper (moved_lower source (state_at v r) (term_count x row) (term_count x r)) moved-lower

    is_row : IsRow x.rows r
    is_row = ⊎_elim (λ (i : IsPrefix x.rows row r). i.1) (λ (i : IsPrefix x.rows r row). i.0) link

    -- one neighbour that takes a bound, and is run
    pub neighbour_stands : Kept s (run_row x (with_dirty (with_state v r (moved_state source (state_at v r) (term_count x row) (term_count x r)).state) r) r)
    neighbour_stands = run_stands s _ r is_row (bound_stands s v r _ _ _ is_row h moved_tighter)

  -- A ROW HANDS ON ITS BOUNDS to rows that it starts or that start it, and keeps them or betters them
  pub prefixes_stand : (s : Table) (v : Live) (row : ℕ) → ((r : ℕ) → Memᴰ r (neighbours row x.links) → IsPrefix x.rows row r ⊎ IsPrefix x.rows r row)
      → Stands x.rows s drained v → Kept s (threshold_prefixes x v row)
  unfolding threshold_prefixes
  prefixes_stand s v row links h =
      prefix_walks x row source (neighbours row x.links) (λ (_ : List ℕ). Gives) (Kept s) (λ u k c p. (p.2, λ q. absurd (clash (contradicts k) q c))) (λ r rs u m p e. p)
      (λ r rs u m p e c. let o = one r m u p in (o.0, λ _. o.1 c)) (λ r rs u m p e c. (
        ≤ℤ_trans p.0 ((grown r m u p).lower row),
        up_trans (state_at (moved_run x row source r u).live row).upper (state_at u row).upper source.upper ((grown r m u p).upper row) p.1,
        (one r m u p).0,
      )) v
      (≤ℤ_refl source.lower, up_refl source.upper, h)
    where
      source : State
      source = state_at v row

      Gives : Live → Type 0
      Gives u = (source.lower ≤ℤ (state_at u row).lower) × UpLe (state_at u row).upper source.upper × Stands x.rows s drained u

      one : (r : ℕ) → Memᴰ r (neighbours row x.links) → (u : Live) → Gives u → Kept s (moved_run x row source r u)
      one r m u p = neighbour_stands s u row r source (links r m) p.0 p.1 p.2

      -- the same from the live state itself: what stood there stands still
      grown : (r : ℕ) → Memᴰ r (neighbours row x.links) → (u : Live) → Gives u → Le (table_at u) (table_at (moved_run x row source r u).live)
      grown r m u p = (neighbour_stands (table_at u) u row r source (links r m) p.0 p.1 (restart x.rows s drained u p.2)).0.above
