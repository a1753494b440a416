-- ROWS STAY DONE: whenever a row's figures change, the row is run; so each row that was run once has nothing of the rules 2 to 5 left
-- that its figures give, its cursors passed only what is decided, and it is in no conflict, whatever is drained or handed on later.
use Rattle.std.specs.Prelude.{ℕ, zero, suc, ◌≤◌, ◌<◌, ◌≡◌, refl, Bool, false, not, cond, ◌&&◌, ◌||◌, ◌⊎◌, ◌≢◌, take, drop, eqb, leb, ℤ, pos, ◌-ℤ◌, ◌≤ℤ◌}
use Rattle.std.proofs.Common.{arith, sym, ap, ap₂, ◌∙◌, inl, inr, length-set, take-append-drop, eq-eqb}
use Rattle.std.proofs.Math.Path.{subst}
use Rattle.std.proofs.Math.Bool as B
use Rattle.std.proofs.Math.Bool.{true}
use mathlib.Core.List.Memᴰ
use mathlib.Core.List.{List, [], ◌∷◌, Memᴰ}
use Rattle.std.proofs.Math.Logic.{⊎_elim}
use Rattle.std.proofs.Math.ListN.{length, get_or}
use Rattle.std.specs.Int.Signed.{le_z, lt_z, ≤ℤ_refl}
use Rattle.base.specs.TestLaws.{clash, and_right, or-true}
use Rattle.base.specs.SignedLaws.{le_z_trans, nle-lt_z, add_up}
use Rattle.numeric.specs.Threshold.{Threshold}
use Rattle.state.specs.declared.Step.TheVariants.{Contradiction}
use Rattle.state.specs.declared.State.{State}
use Rattle.state.specs.Step.{contradicts}
use Rattle.state.specs.State.{max_z, reached, upper_at_most, conflict, with_lower, with_upper, drained, with_known, with_possible}
use Rattle.words.specs.Mask.{bit}
use Rattle.queues.specs.Marks.{Marks, is_decided}
use Rattle.queues.specs.Queue.{Rows}
use Rattle.rows.specs.Rows.{Row, no_row, Guard, Edge, edges_of, row_number}
use Rattle.links.specs.Links.{neighbours}
use Rattle.row_runs.specs.Row.{Ran, ran, scans, threshold_row}
use Rattle.tightening.specs.Told.{Tightened, guard_state, moved_lower, moved_state}
use Rattle.tightening.specs.ToldLaws.{guard-cases, lower_cases, upper_cases}
use Rattle.row_moves.specs.Between.{Index, Live, state_at, Did, run_row, run_with, threshold_guard, threshold_condition, term_count, threshold_prefixes, with_dirty_rows, with_residuals, with_state}
use Rattle.row_moves.specs.LoopLaws.{condition_walk}
use Rattle.row_moves.specs.WalkLaws.{walk_fine, prefix_fine, guard-ends}
use Rattle.row_moves.specs.Handing.{guard_row}
use Rattle.theorem_table.specs.Table.{IsRow}
use Rattle.theorem_table.specs.OrderLaws.{le, lt, of_le, <ℤ_≤ℤ, max_up}
use Rattle.theorem_follows.specs.CompleteLaws.{Wide, Has, Meets, wide_decide, has_stays}
use Rattle.theorem_follows.specs.RowCompleteLaws.{Passed, Complete, SameFigures, RowDone, row_complete}
use Rattle.theorem_follows.specs.Ordered.{Ordered}
use Rattle.theorem_follows.specs.StandsLaws.{also, also_before, also_other, put_state}
use Rattle.theorem_follows.specs.KeepsLaws.{run_keeps}
use Rattle.theorem_follows.specs.EdgesLaws.{edge-term}

-- Guards that a row's sure cursor passed are sure, if they decide.
abbrev MetBy : List Row → ℕ → State → Marks → Type 0
MetBy rows r st m = IsRow rows r → (g : Guard) → Memᴰ g (take st.sure_guard (get_or rows r no_row).guards) → Meets true g m

abbrev pub Met : List Row → Live → Type 0
Met rows v = (r : ℕ) → MetBy rows r (state_at v r) v.marks

-- a place before a cursor stood before it already, or was passed on the way
pub taken_cases : {X : Type 0} (n k : ℕ) (xs : List X) (x : X) → Memᴰ x (take k xs) → Memᴰ x (take n xs) ⊎ Memᴰ x (drop n (take k xs))
taken_cases {X} n k xs x m =
    ⊎_elim (λ j. inl (shorter n k xs j)) (λ j. inr j) (Memᴰ.append_cases (take n (take k xs)) (subst (λ (l : List X). Memᴰ x l) (sym (take-append-drop n (take k xs))) m))
  where
    shorter : (n k : ℕ) (xs : List X) → Memᴰ x (take n (take k xs)) → Memᴰ x (take n xs)
    shorter zero k xs j = j
    shorter (suc n) zero xs j = absurd (Memᴰ.not-nil j)
    shorter (suc n) (suc k) [] j = j
    shorter (suc n) (suc k) (y ∷ ys) j = ⊎_elim (λ (e : x ≡ y). Memᴰ.head e) (λ i. Memᴰ.tail (shorter n k ys i)) (Memᴰ.cases_cons j)

-- `ran` says which rows were run. What cursors say of figures, row by row, is `passed` and `complete`; what their passing decided is `met`.
pub record Done (rows : List Row) (ran : ℕ → Bool) (v : Live) : Type 0 where
  pub sized : length rows ≤ length v.states
  pub passed : (r : ℕ) → IsRow rows r → Passed (get_or rows r no_row) (state_at v r) v.marks
  pub complete : (r : ℕ) → IsRow rows r → ran r ≡ true → Complete (get_or rows r no_row) (state_at v r) v.marks
  pub free : (r : ℕ) → IsRow rows r → ran r ≡ true → conflict (state_at v r) ≡ false
  pub met : Met rows v

pub done_fewer : (rows : List Row) (ran fewer : ℕ → Bool) (v : Live) → ((r : ℕ) → fewer r ≡ true → ran r ≡ true) → Done rows ran v → Done rows fewer v
done_fewer rows ran fewer v f h = record { sized = h.sized; passed = h.passed; complete = λ r i e. h.complete r i (f r e); free = λ r i e. h.free r i (f r e); met = h.met }

-- MORE NODES DECIDED: what was passed and complete is so still
abbrev pub Grows : Marks → Marks → Type 0
Grows m m' = (b : Bool) (n : ℕ) → Has b n m → Has b n m'

grows_decided : (m m' : Marks) → Grows m m' → (n : ℕ) → is_decided m n ≡ true → is_decided m' n ≡ true
grows_decided m m' g n d =
    ⊎_elim (λ (e : bit m.sure n ≡ true). ap (λ (b : Bool). b || bit m'.never n) (g true n e))
    (λ (e : bit m.never n ≡ true). ap (λ (b : Bool). bit m'.sure n || b) (g false n e) ∙ B.or-true (bit m'.sure n)) (or-true (bit m.sure n) (bit m.never n) d)

pub passed_up : (row : Row) (st : State) (m m' : Marks) → Grows m m' → Wide m' → Passed row st m → Passed row st m'
passed_up row st m m' g w p = record {
  wide = w;
  inside = p.inside;
  sure = p.sure;
  never = λ y i d. g false y.node (p.never y i d);
  true-terms = λ t i. grows_decided m m' g t.condition (p.true-terms t i);
  false-terms = λ t i. grows_decided m m' g t.condition (p.false-terms t i);
}

pub complete_up : (row : Row) (st : State) (m m' : Marks) → Grows m m' → Complete row st m → Complete row st m'
complete_up row st m m' g c = record {
  all = c.all;
  out_of_reach = λ y i e d. g false y.node (c.out_of_reach y i e d);
  needed = λ f t i e. grows_decided m m' g t.condition (c.needed f t i e);
  too_heavy = λ b f t i e. grows_decided m m' g t.condition (c.too_heavy b f t i e);
}

-- THE SAME FIGURES: in conflict as well
reached_same : (a b : State) → SameFigures b a → reached a ≡ reached b
reached_same a b e = ap₂ max_z (sym e.known) (sym e.lower)

conflict_same : (a b : State) → SameFigures b a → conflict b ≡ conflict a
unfolding conflict
conflict_same a b e = ap₂ (λ (x y : Bool). x || y) (ap₂ lt_z e.possible e.lower) (ap₂ upper_at_most e.upper (sym (reached_same a b e)))

-- a row in conflict contradicts
ran_free : (row : Row) (st : State) (m : Marks) → contradicts (threshold_row row st m).step ≡ false → conflict st ≡ false
unfolding threshold_row
ran_free row st m h = by (conflict st) refl h
  where
    by : (b : Bool) → conflict st ≡ b → (let o : Ran = elim b [ true ↦ ran st m Contradiction | false ↦ scans row st m ] in contradicts o.step ≡ false) → conflict st ≡ false
    by true e k = absurd (clash true refl k)
    by false e k = e

-- Figures put anew leave the cursors.
pub record SameCursors (a b : State) : Type 0 where
  pub sure : a.sure_guard ≡ b.sure_guard
  pub never : a.never_guard ≡ b.never_guard
  pub true-term : a.true_term ≡ b.true_term
  pub false-term : a.false_term ≡ b.false_term

same : (a : State) → SameCursors a a
same a = record { sure = refl; never = refl; true-term = refl; false-term = refl }

-- Figures only rise.
abbrev Higher : State → State → Type 0
Higher a b = (a.known ≤ℤ b.known) × (a.lower ≤ℤ b.lower)

passed_cursors : (row : Row) (a b : State) (m : Marks) → SameCursors b a → Higher a b → Passed row a m → Passed row b m
passed_cursors row a b m e h p = record {
  wide = p.wide;
  inside = subst (λ (n : ℕ). n ≤ length row.guards) (sym e.never) p.inside;
  sure = λ y i. le_z_trans y.bound (reached a) (reached b) (p.sure y (subst (λ (n : ℕ). Memᴰ y (take n row.guards)) e.sure i))
      (of_le {a = reached a} {b = reached b} (max_up {a = a.known} {b = a.lower} {c = b.known} {d = b.lower} h.0 h.1));
  never = λ y i. p.never y (subst (λ (n : ℕ). Memᴰ y (drop n row.guards)) e.never i);
  true-terms = λ t i. p.true-terms t (subst (λ (n : ℕ). Memᴰ t (take n row.terms)) e.true-term i);
  false-terms = λ t i. p.false-terms t (subst (λ (n : ℕ). Memᴰ t (take n row.terms)) e.false-term i);
}

guard_cursors : (st : State) (value : Bool) (b : ℤ) → SameCursors (guard_state st value b).state st
unfolding with_lower with_upper
guard_cursors st value b = guard-cases st value b (λ (o : Tightened). SameCursors o.state st) (λ e. same st)
    (λ e f. record { sure = refl; never = refl; true-term = refl; false-term = refl }) (λ e f. record { sure = refl; never = refl; true-term = refl; false-term = refl })

guard_higher : (st : State) (value : Bool) (b : ℤ) → Higher st (guard_state st value b).state
unfolding with_lower with_upper
guard_higher st value b = guard-cases st value b (λ (o : Tightened). Higher st o.state) (λ e. (≤ℤ_refl st.known, ≤ℤ_refl st.lower))
    (λ e f. (≤ℤ_refl st.known, <ℤ_≤ℤ (lt (nle-lt_z st.lower b f)))) (λ e f. (≤ℤ_refl st.known, ≤ℤ_refl st.lower))

drained_higher : (value : Bool) (w : ℕ) (st : State) → Higher st (drained value w st)
unfolding drained with_known with_possible
drained_higher true w st = (le (add_up st.known w), ≤ℤ_refl st.lower)
drained_higher false w st = (≤ℤ_refl st.known, ≤ℤ_refl st.lower)

moved_higher : (source st : State) (n k : ℕ) → Higher st (moved_state source st n k).state
unfolding with_lower with_upper
moved_higher source st n k =
    let first = lower_cases source n k (λ (o : Tightened). Higher st o.state) st (λ e. (≤ℤ_refl st.known, <ℤ_≤ℤ (lt (and_right (leb n k) _ e)))) (λ e. (≤ℤ_refl st.known, ≤ℤ_refl st.lower)) in
    upper_cases source n k (λ (o : Tightened). Higher st o.state) (moved_lower source st n k) (λ e. (first.0, first.1)) (λ e. first)

drained_cursors : (value : Bool) (w : ℕ) (st : State) → SameCursors (drained value w st) st
unfolding drained with_known with_possible
drained_cursors true w st = record { sure = refl; never = refl; true-term = refl; false-term = refl }
drained_cursors false w st = record { sure = refl; never = refl; true-term = refl; false-term = refl }

moved_cursors : (source st : State) (n k : ℕ) → SameCursors (moved_state source st n k).state st
unfolding with_lower with_upper
moved_cursors source st n k =
    let first = lower_cases source n k (λ (o : Tightened). SameCursors o.state st) st (λ e. record { sure = refl; never = refl; true-term = refl; false-term = refl }) (λ e. same st) in
    upper_cases source n k (λ (o : Tightened). SameCursors o.state st) (moved_lower source st n k)
    (λ e. record { sure = first.sure; never = first.never; true-term = first.true-term; false-term = first.false-term }) (λ e. first)

module _ (x : Index) (ordered : (r : ℕ) → IsRow x.rows r → Ordered (get_or x.rows r no_row)) where
  -- what a run does to the marks: they grow
  pub run_grows : (v : Live) (r : ℕ) → Wide v.marks → Grows v.marks (run_row x v r).live.marks × Wide (run_row x v r).live.marks
  run_grows v r w =
      run_keeps (λ (m : Marks). Grows v.marks m × Wide m)
      (λ value m n h p. ((λ b k e. has_stays b k value m n (p.0 b k e)), wide_decide value m n p.1)) x ordered v r ((λ b k e. e), w)

  -- A ROW RUN
  pub run_done : (ran : ℕ → Bool) (v : Live) (r : ℕ) → IsRow x.rows r → Done x.rows ran v → contradicts (run_row x v r).step ≡ false → Done x.rows (also r ran) (run_row x v r).live
  unfolding run_row run_with
  run_done ran v r i h c = record {
    sized = subst (λ (n : ℕ). length x.rows ≤ n) (sym (length-set v.states r a.state)) h.sized;
    passed = put_state (λ (q : ℕ) (t : State). IsRow x.rows q → Passed (get_or x.rows q no_row) t a.marks) v.states r a.state room (λ _. k.passed)
        (λ q e j. passed_up (get_or x.rows q no_row) (state_at v q) v.marks a.marks g.0 g.1 (h.passed q j));
    complete = put_state (λ (q : ℕ) (t : State). IsRow x.rows q → also r ran q ≡ true → Complete (get_or x.rows q no_row) t a.marks) v.states r a.state room
        (λ _ _. k.complete)
        (λ q e j n. complete_up (get_or x.rows q no_row) (state_at v q) v.marks a.marks g.0 (h.complete q j (other q e n)));
    free = put_state (λ (q : ℕ) (t : State). IsRow x.rows q → also r ran q ≡ true → conflict t ≡ false) v.states r a.state room
        (λ _ _. conflict_same (state_at v r) a.state k.figures ∙ ran_free row (state_at v r) v.marks c) (λ q e j n. h.free q j (other q e n));
    met = put_state (λ (q : ℕ) (t : State). MetBy x.rows q t a.marks) v.states r a.state room
        (λ j y m. ⊎_elim (λ o d. g.0 true y.node (h.met r j y o d)) (k.fresh y) (taken_cases (state_at v r).sure_guard a.state.sure_guard row.guards y m))
        (λ q e j y m d. g.0 true y.node (h.met q j y m d));
  }
    where
      row : Row
      row = get_or x.rows r no_row

      a : Ran
      a = threshold_row row (state_at v r) v.marks

      room : r < length v.states
      room = let z = h.sized in omega arith

      k : RowDone row (state_at v r) a
      k = row_complete row (ordered r i) (state_at v r) v.marks (h.passed r i) c

      g : Grows v.marks a.marks × Wide a.marks
      g = run_grows v r (h.passed r i).wide

      other : (q : ℕ) → q ≢ r → also r ran q ≡ true → ran q ≡ true
      other q e n = sym (also_other r ran q e) ∙ n

  -- FIGURES PUT ANEW, AND THE ROW RUN
  pub put_run_done : (ran : ℕ → Bool) (v : Live) (r : ℕ) (st : State) (d q : Rows) → IsRow x.rows r → SameCursors st (state_at v r) → Higher (state_at v r) st → Done x.rows ran v
      → let w = with_residuals (with_dirty_rows (with_state v r st) d) q in contradicts (run_row x w r).step ≡ false → Done x.rows (also r ran) (run_row x w r).live
  put_run_done ran v r st d q i e up h c =
      done_fewer x.rows (also r but) (also r ran) (run_row x w r).live (λ k n. more k (eqb k r) refl n) (run_done but w r i put c)
    where
      w : Live
      w = with_residuals (with_dirty_rows (with_state v r st) d) q

      but : ℕ → Bool
      but k = not (eqb k r) && ran k

      room : r < length v.states
      room = let z = h.sized in omega arith

      never : but r ≡ true → ⊥
      never n = clash false (sym (ap (λ (b : Bool). not b && ran r) (eq-eqb r r refl)) ∙ n) refl

      put : Done x.rows but w
      put = record {
        sized = subst (λ (n : ℕ). length x.rows ≤ n) (sym (length-set v.states r st)) h.sized;
        passed = put_state (λ (k : ℕ) (t : State). IsRow x.rows k → Passed (get_or x.rows k no_row) t v.marks) v.states r st room
            (λ j. passed_cursors (get_or x.rows r no_row) (state_at v r) st v.marks e up (h.passed r j)) (λ k f j. h.passed k j);
        complete = put_state (λ (k : ℕ) (t : State). IsRow x.rows k → but k ≡ true → Complete (get_or x.rows k no_row) t v.marks) v.states r st room
            (λ j n. absurd (never n)) (λ k f j n. h.complete k j (and_right (not (eqb k r)) (ran k) n));
        free = put_state (λ (k : ℕ) (t : State). IsRow x.rows k → but k ≡ true → conflict t ≡ false) v.states r st room
            (λ j n. absurd (never n)) (λ k f j n. h.free k j (and_right (not (eqb k r)) (ran k) n));
        met = put_state (λ (k : ℕ) (t : State). MetBy x.rows k t v.marks) v.states r st room
            (λ j y m. h.met r j y (subst (λ (n : ℕ). Memᴰ y (take n (get_or x.rows r no_row).guards)) e.sure m)) (λ k f. h.met k);
      }

      more : (k : ℕ) (b : Bool) → eqb k r ≡ b → cond b true (ran k) ≡ true → cond (eqb k r) true (not (eqb k r) && ran k) ≡ true
      more k true f n = ap (λ (b : Bool). cond b true (not b && ran k)) f
      more k false f n = ap (λ (b : Bool). cond b true (not b && ran k)) f ∙ n

  -- What each function keeps where it does not contradict.
  abbrev pub StillDone : (ℕ → Bool) → Did → Type 0
  StillDone ran d = contradicts d.step ≡ false → Done x.rows ran d.live

  one-done : (ran : ℕ → Bool) (v : Live) (r : ℕ) (st : State) (d q : Rows) → IsRow x.rows r → SameCursors st (state_at v r) → Higher (state_at v r) st → Done x.rows ran v
      → StillDone ran (run_row x (with_residuals (with_dirty_rows (with_state v r st) d) q) r)
  one-done ran v r st d q i e up h c = done_fewer x.rows (also r ran) ran _ (λ k n. also_before r ran k n) (put_run_done ran v r st d q i e up h c)

  -- A DRAINED GUARD
  pub guard_done : (ran : ℕ → Bool) (v : Live) (t : Threshold) → IsRow x.rows (row_number x.rows t.terms) → Done x.rows ran v → StillDone ran (threshold_guard x v t)
  guard_done ran v t i h =
      guard-ends x v t (StillDone ran) (λ e _. h)
      (λ e. one-done ran v (guard_row x t) _ _ _ i (guard_cursors (state_at v (guard_row x t)) (bit v.marks.sure t.node) t.bound) (guard_higher (state_at v (guard_row x t)) (bit v.marks.sure t.node) t.bound) h)

  -- A DRAINED CONDITION
  pub condition_done : (ran : ℕ → Bool) (v : Live) (n : ℕ) → Done x.rows ran v → StillDone ran (threshold_condition x v n)
  unfolding threshold_condition
  condition_done ran v n h =
      walk_fine (condition_walk x (bit v.marks.sure n)) (edges_of x.rows n) (λ (_ : List Edge). Done x.rows ran)
      (λ e es u m k c. one-done ran u e.row _ _ _ (edge-term x.rows n e m).0 (drained_cursors (bit v.marks.sure n) e.weight (state_at u e.row)) (drained_higher (bit v.marks.sure n) e.weight (state_at u e.row)) k c) v h

  -- BOUNDS HANDED ON
  pub prefixes_done : (ran : ℕ → Bool) (v : Live) (row : ℕ) → ((r : ℕ) → Memᴰ r (neighbours row x.links) → IsRow x.rows r) → Done x.rows ran v → StillDone ran (threshold_prefixes x v row)
  unfolding threshold_prefixes
  prefixes_done ran v row are h =
      prefix_fine x row (state_at v row) (neighbours row x.links) (λ (_ : List ℕ). Done x.rows ran) (λ r rs u m k e. k)
      (λ r rs u m k c. one-done ran u r _ _ _ (are r m) (moved_cursors (state_at v row) (state_at u r) (term_count x row) (term_count x r)) (moved_higher (state_at v row) (state_at u r) (term_count x row) (term_count x r)) k c) v h
