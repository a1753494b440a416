-- TWO MEASURES: the node of two guards that stand beside each other is sure once both rows' sure cursors passed them. A run of one row
-- keeps that, if a guard that it passes decides where the other row's figures reach the other bound; and at rest it leaves nothing of rule 2.
use Rattle.std.specs.Prelude.{ℕ, zero, suc, ◌<◌, ◌≡◌, Bool, true, false, cond, ◌&&◌, ◌||◌, ◌⊎◌, ◌≢◌, length, get_or, take, drop, ℤ, ◌≤ℤ◌, Option, Some}
use Rattle.std.proofs.Math.Decide.{ℕ_discrete}
use Rattle.std.proofs.Math.Path.{refl, ap}
use Rattle.std.proofs.Common.{sym, ap₂, ◌∙◌, subst, inl, inr, take-append-drop, get_or-set_same, get_or-set_other}
use mathlib.Core.List.Memᴰ
use mathlib.Core.List.{List, [], ◌∷◌, map, Memᴰ}
use Rattle.std.proofs.Math.Logic.{⊎_elim}
use Rattle.std.specs.Int.Signed.{le_z, ≤ℤ_refl}
use Rattle.base.specs.TestLaws.{clash}
use Rattle.base.specs.SignedLaws.{le_z_trans}
use Rattle.state.specs.declared.State.{State}
use Rattle.words.specs.Mask.{bit}
use Rattle.state.specs.State.{no_state, max_z, reached}
use Rattle.rows.specs.Rows.{Row, row_of, no_row, Guard, Other, alone, beside, is_alone, MayDecide}
use Rattle.queues.specs.Queue.{Rows}
use Rattle.queues.specs.Marks.{Marks, decide}
use Rattle.theorem_table.proofs.TableLaws.{other_up}
use Rattle.row_runs.specs.Row.{Ran, deciding, threshold_row}
use Rattle.row_moves.specs.Between.{Live, state_at, with_dirty_rows, with_marks, with_residuals, with_state}
use Rattle.theorem_table.specs.Table.{Table, IsRow, Guards, known_of, reached_of, OtherReached}
use Rattle.theorem_table.specs.OrderLaws.{le, of_le, ≤ℤ_trans, max_up, UpLe, up_trans}
use Rattle.theorem_follows.specs.Ordered.{Each}
use Rattle.theorem_follows.specs.RowLaws.{StandsFor, Fine, row_fine}
use Rattle.base.specs.MembersLaws.{mem_take}
use Rattle.theorem_follows.specs.DecideLaws.{table_of}
use Rattle.theorem_follows.specs.CompleteLaws.{Has}
use Rattle.theorem_follows.specs.DoneLaws.{Grows, taken_cases}
use Rattle.theorem_follows.specs.RowCompleteLaws.{SameFigures, RowDone}
use Rattle.theorem_follows.specs.StandsLaws.{table_at, Stands, known_inside, possible_inside, stay_le, Apart, apart_decide}
use Rattle.queues.proofs.StayLaws.{Stay, stay_same, stay_decide}

-- The figures of a row reach a bound; those of the other row, if a guard asks for one.
abbrev pub Reaches : Live → ℕ → ℤ → Type 0
Reaches v r b = le_z b (reached (state_at v r)) ≡ true

abbrev pub OtherHeld : Live → Other → Type 0
OtherHeld v alone = Unit {0}
OtherHeld v (beside q b) = Reaches v q b

-- The other guard of a pair: each names the row and the bound of the other.
abbrev pub twin : ℕ → Guard → ℤ → Guard
twin r g b = record { bound = b; node = g.node; may = g.may; linked = g.linked; other = beside r g.bound }

abbrev pub Paired : List Row → Type 0
Paired rows = (r : ℕ) (g : Guard) (q : ℕ) (b : ℤ) → Guards rows r g → g.other ≡ beside q b → Guards rows q (twin r g b)

module _ (rows : List Row) where
  abbrev pub guards_at : ℕ → List Guard
  guards_at r = (get_or rows r no_row).guards

  -- A guard stands before its row's sure cursor, and so does the other one.
  abbrev pub PassedIn : Live → ℕ → Guard → Type 0
  PassedIn v r g = Memᴰ g (take (state_at v r).sure_guard (guards_at r))

  abbrev pub OtherPassed : Live → ℕ → Guard → Other → Type 0
  OtherPassed v r g alone = Unit {0}
  OtherPassed v r g (beside q b) = PassedIn v q (twin r g b)

  -- Cursors passed only what figures reach, row by row; every node whose guards are all passed is sure, over rows.
  pub record PairsMet (v : Live) : Type 0 where
    pub inside : (r : ℕ) → IsRow rows r → Each (λ (g : Guard). Reaches v r g.bound) (take (state_at v r).sure_guard (guards_at r))
    pub met : (r : ℕ) → IsRow rows r → (g : Guard) → PassedIn v r g → MayDecide g → OtherPassed v r g g.other → Has true g.node v.marks

  -- WHAT A RUN OF ROW r DOES: marks grow, other rows stand, figures stay, cursors pass only what is reached, and a guard that is passed
  -- now decides where the other row's figures reach the other bound.
  pub record RowRun (v w : Live) (r : ℕ) : Type 0 where
    pub grows : Grows v.marks w.marks
    pub others : (q : ℕ) → q ≢ r → state_at w q ≡ state_at v q
    pub figures : reached (state_at w r) ≡ reached (state_at v r)
    pub inside : Each (λ (g : Guard). Reaches w r g.bound) (take (state_at w r).sure_guard (guards_at r))
    pub fresh : Each (λ (g : Guard). MayDecide g → OtherHeld v g.other → Has true g.node w.marks) (drop (state_at v r).sure_guard (take (state_at w r).sure_guard (guards_at r)))

  module _ (paired : Paired rows) (v w : Live) (r : ℕ) (is : IsRow rows r) (run : RowRun v w r) (h : PairsMet v) where
    -- every row's figures are as before, and reach what its cursor passed
    same : (k : ℕ) → reached (state_at w k) ≡ reached (state_at v k)
    same k = by (ℕ_discrete k r)
      where
        by : Dec (k ≡ r) → reached (state_at w k) ≡ reached (state_at v k)
        by (yes e) = subst (λ (i : ℕ). reached (state_at w i) ≡ reached (state_at v i)) (sym e) run.figures
        by (no e) = ap reached (run.others k e)

    stands : (k : ℕ) → IsRow rows k → Each (λ (g : Guard). Reaches w k g.bound) (take (state_at w k).sure_guard (guards_at k))
    stands k i = by (ℕ_discrete k r)
      where
        by : Dec (k ≡ r) → Each (λ (g : Guard). Reaches w k g.bound) (take (state_at w k).sure_guard (guards_at k))
        by (yes e) = subst (λ (j : ℕ). Each (λ (g : Guard). Reaches w j g.bound) (take (state_at w j).sure_guard (guards_at j))) (sym e) run.inside
        by (no e) = subst (λ (t : State). Each (λ (g : Guard). le_z g.bound (reached t) ≡ true) (take t.sure_guard (guards_at k))) (sym (run.others k e)) (h.inside k i)

    held : (k : ℕ) → IsRow rows k → (g : Guard) → PassedIn w k g → Reaches v k g.bound
    held k i g m = ap (le_z g.bound) (sym (same k)) ∙ stands k i g m

    -- passed before, or now
    came : (k : ℕ) (g : Guard) → PassedIn w k g → PassedIn v k g ⊎ (MayDecide g → OtherHeld v g.other → Has true g.node w.marks)
    came k = by (ℕ_discrete k r)
      where
        by : Dec (k ≡ r) → (g : Guard) → PassedIn w k g → PassedIn v k g ⊎ (MayDecide g → OtherHeld v g.other → Has true g.node w.marks)
        by (yes e) = subst (λ (i : ℕ). (g : Guard) → PassedIn w i g → PassedIn v i g ⊎ (MayDecide g → OtherHeld v g.other → Has true g.node w.marks)) (sym e)
            (λ g m. ⊎_elim (λ o. inl o) (λ o. inr (run.fresh g o)) (taken_cases (state_at v r).sure_guard (state_at w r).sure_guard (guards_at r) g m))
        by (no e) = λ g m. inl (subst (λ (t : State). Memᴰ g (take t.sure_guard (guards_at k))) (run.others k e) m)

    -- A RUN KEEPS IT
    pub pairs_run : PairsMet w
    pairs_run = record { inside = stands; met = λ k i g m p o. one k i g m p g.other refl o }
      where
        one : (k : ℕ) → IsRow rows k → (g : Guard) → PassedIn w k g → MayDecide g → (o : Other) → g.other ≡ o → OtherPassed w k g o → Has true g.node w.marks
        one k i g m p alone e o =
            ⊎_elim (λ (old : PassedIn v k g). run.grows true g.node (h.met k i g old p (subst (OtherPassed v k g) (sym e) tt)))
            (λ new. new p (subst (OtherHeld v) (sym e) tt)) (came k g m)
        one k i g m p (beside q b) e o =
            let there : IsRow rows q = (paired k g q b (i, mem_take (state_at w k).sure_guard (guards_at k) g m) e).0 in
            ⊎_elim
            (λ (old : PassedIn v k g).
            ⊎_elim (λ (too : PassedIn v q (twin k g b)). run.grows true g.node (h.met k i g old p (subst (OtherPassed v k g) (sym e) too)))
            (λ new. new p (held k i g m)) (came q (twin k g b) o))
            (λ new. new p (subst (OtherHeld v) (sym e) (held q there (twin k g b) o))) (came k g m)

  -- FIGURES PUT ANEW, and more nodes decided: figures rise, cursors stand
  pub pairs-put : (v w : Live) → Grows v.marks w.marks → ((k : ℕ) → (state_at w k).sure_guard ≡ (state_at v k).sure_guard)
      → ((k : ℕ) → le_z (reached (state_at v k)) (reached (state_at w k)) ≡ true) → PairsMet v → PairsMet w
  pairs-put v w grows cursors rise h = record {
    inside = λ k i g m. le_z_trans g.bound (reached (state_at v k)) (reached (state_at w k)) (h.inside k i g (back k g m)) (rise k);
    met = λ k i g m p o. grows true g.node (h.met k i g (back k g m) p (other k g g.other o));
  }
    where
      back : (k : ℕ) (g : Guard) → PassedIn w k g → PassedIn v k g
      back k g m = subst (λ (n : ℕ). Memᴰ g (take n (guards_at k))) (cursors k) m

      other : (k : ℕ) (g : Guard) (o : Other) → OtherPassed w k g o → OtherPassed v k g o
      other k g alone z = tt
      other k g (beside q b) z = back q (twin k g b) z

  -- NOTHING OF RULE 2 IS LEFT where the figures are those of the masks and every guard that they reach is passed
  pub pairs_rest : Paired rows → (v : Live) → PairsMet v
      → ((r : ℕ) → IsRow rows r → reached (state_at v r) ≡ reached_of rows (table_at v) r)
      → ((r : ℕ) → IsRow rows r → Each (λ (g : Guard). le_z g.bound (reached (state_at v r)) ≡ false) (drop (state_at v r).sure_guard (guards_at r)))
      → (r : ℕ) (g : Guard) → Guards rows r g → MayDecide g → g.bound ≤ℤ reached_of rows (table_at v) r → OtherReached rows (table_at v) g.other → Has true g.node v.marks
  unfolding OtherReached
  pairs_rest paired v h exact all r g i p k o = by g.other refl o
    where
      reaches : (q : ℕ) (y : Guard) → Guards rows q y → y.bound ≤ℤ reached_of rows (table_at v) q → PassedIn v q y
      reaches q y j z =
          ⊎_elim (λ m. m) (λ m. absurd (clash (le_z y.bound (reached (state_at v q))) (ap (le_z y.bound) (exact q j.0) ∙ of_le z) (all q j.0 y m)))
          (Memᴰ.append_cases (take (state_at v q).sure_guard (guards_at q)) (subst (λ (l : List Guard). Memᴰ y l) (sym (take-append-drop (state_at v q).sure_guard (guards_at q))) j.1))

      by : (o : Other) → g.other ≡ o → OtherReached rows (table_at v) o → Has true g.node v.marks
      by alone e z = h.met r i.0 g (reaches r g i k) p (subst (OtherPassed v r g) (sym e) tt)
      by (beside q b) e z = h.met r i.0 g (reaches r g i k) p (subst (OtherPassed v r g) (sym e) (reaches q (twin r g b) (paired r g q b i e) z))

  -- ---- WHAT NEVER NODES TOLD: where the cursor passed the other guard, the row has the upper
  abbrev pub NeverTold : (ℕ → Bool) → Live → Type 0
  NeverTold told v =
      (r : ℕ) (g : Guard) → Guards rows r g → told g.node ≡ true → bit v.marks.never g.node ≡ true → OtherPassed v r g g.other → UpLe (state_at v r).upper (Some g.bound)

  -- A RUN KEEPS IT if every never node whose guard is passed now waits again, and so is told no more
  pub never_told_run : (v w : Live) (r : ℕ) (told after : ℕ → Bool) → ((q : ℕ) → q ≢ r → state_at w q ≡ state_at v q) → ((q : ℕ) → UpLe (state_at w q).upper (state_at v q).upper)
      → ((n : ℕ) → after n ≡ true → told n ≡ true) → ((n : ℕ) → after n ≡ true → bit w.marks.never n ≡ true → bit v.marks.never n ≡ true)
      → Each (λ (h : Guard). after h.node ≡ true → bit w.marks.never h.node ≡ true → ⊥) (drop (state_at v r).sure_guard (take (state_at w r).sure_guard (guards_at r)))
      → NeverTold told v → NeverTold after w
  never_told_run v w r told after others sinks fewer stay again h k g i e n o =
      up_trans (state_at w k).upper (state_at v k).upper (Some g.bound) (sinks k) (h k g i (fewer g.node e) (stay g.node e n) (by g.other o))
    where
      before : (q : ℕ) (y : Guard) → y.node ≡ g.node → PassedIn w q y → PassedIn v q y
      before q y same m = at (ℕ_discrete q r) m
        where
          at : Dec (q ≡ r) → PassedIn w q y → PassedIn v q y
          at (yes f) z = subst (λ (j : ℕ). PassedIn v j y) (sym f)
              (⊎_elim (λ x. x) (λ x. absurd (again y x (ap after same ∙ e) (ap (bit w.marks.never) same ∙ n)))
              (taken_cases (state_at v r).sure_guard (state_at w r).sure_guard (guards_at r) y (subst (λ (j : ℕ). PassedIn w j y) f z)))
          at (no f) z = subst (λ (t : State). Memᴰ y (take t.sure_guard (guards_at q))) (others q f) z

      by : (x : Other) → OtherPassed w k g x → OtherPassed v k g x
      by alone z = tt
      by (beside q b) z = before q (twin k g b) refl z

  -- NOTHING OF RULE 1 FOR NEVER NODES IS LEFT where all are told
  pub never_told_rest : Paired rows → (v : Live) (told : ℕ → Bool) → NeverTold told v → ((n : ℕ) → bit v.marks.never n ≡ true → told n ≡ true)
      → ((r : ℕ) → IsRow rows r → reached (state_at v r) ≡ reached_of rows (table_at v) r)
      → ((r : ℕ) → IsRow rows r → Each (λ (g : Guard). le_z g.bound (reached (state_at v r)) ≡ false) (drop (state_at v r).sure_guard (guards_at r)))
      → (r : ℕ) (g : Guard) → Guards rows r g → bit v.marks.never g.node ≡ true → OtherReached rows (table_at v) g.other → UpLe (state_at v r).upper (Some g.bound)
  unfolding OtherReached
  never_told_rest paired v told h all_told exact all r g i n o = h r g i (all_told g.node n) n (by g.other refl o)
    where
      by : (x : Other) → g.other ≡ x → OtherReached rows (table_at v) x → OtherPassed v r g x
      by alone e z = tt
      by (beside q b) e z =
          let j = paired r g q b i e in
          ⊎_elim (λ m. m) (λ m. absurd (clash (le_z b (reached (state_at v q))) (ap (le_z b) (exact q j.0) ∙ of_le z) (all q j.0 (twin r g b) m)))
          (Memᴰ.append_cases (take (state_at v q).sure_guard (guards_at q)) (subst (λ (l : List Guard). Memᴰ (twin r g b) l) (sym (take-append-drop (state_at v q).sure_guard (guards_at q))) j.1))

  -- WHAT THE FIGURES OF THE OTHER ROW REACH, the table reaches: rule 2's premise
  pub other_sound : (s : Table) (drained : ℕ → ℕ → Bool) (v : Live) → Stands rows s drained v → Paired rows → (r : ℕ) (g : Guard) → Guards rows r g
      → OtherHeld v g.other → OtherReached rows (table_at v) g.other
  unfolding OtherReached
  other_sound s drained v h paired r g i held = by g.other refl held
    where
      by : (o : Other) → g.other ≡ o → OtherHeld v o → OtherReached rows (table_at v) o
      by alone e z = tt
      by (beside q b) e z =
          ≤ℤ_trans (le z) (max_up {a = (state_at v q).known} {b = (state_at v q).lower} {c = known_of rows (table_at v) q} {d = (state_at v q).lower}
          (known_inside rows s drained v h q (paired r g q b i e).0) (≤ℤ_refl (state_at v q).lower))

-- ---- a row as it stands: a guard whose other row reaches its bound asks nothing more

abbrev pub other_now : Live → Other → Other
other_now v alone = alone
other_now v (beside q b) = cond (le_z b (reached (state_at v q))) alone (beside q b)

abbrev pub standing : Live → Guard → Guard
standing v g = record { bound = g.bound; node = g.node; may = g.may; linked = g.linked; other = other_now v g.other }

abbrev pub row_now : Live → Row → Row
row_now v row = row_of row.raw row.terms (map (standing v) row.guards)

map-take : {X Y : Type 0} (f : X → Y) (n : ℕ) (xs : List X) → take n (map f xs) ≡ map f (take n xs)
map-take f zero xs = refl
map-take f (suc n) [] = refl
map-take {Y = Y} f (suc n) (x ∷ xs) = ap (λ (l : List Y). f x ∷ l) (map-take f n xs)

map-drop : {X Y : Type 0} (f : X → Y) (n : ℕ) (xs : List X) → drop n (map f xs) ≡ map f (drop n xs)
map-drop f zero xs = refl
map-drop f (suc n) [] = refl
map-drop f (suc n) (x ∷ xs) = map-drop f n xs

standing-decides : (v : Live) (g : Guard) → MayDecide g → OtherHeld v g.other → deciding true (standing v g) ≡ true
standing-decides v g p h = ap₂ (λ (x y : Bool). x && (y || false)) p (by g.other h)
  where
    by : (o : Other) → OtherHeld v o → is_alone (other_now v o) ≡ true
    by alone k = refl
    by (beside q b) k = ap (λ (c : Bool). is_alone (cond c alone (beside q b))) k

-- A ROW RUN AS IT STANDS is a run as pairs ask for it, by the laws of one row alone
module _ (rows : List Row) (v : Live) (r : ℕ) (room : r < length v.states) (d q : Rows) where
  abbrev ran : Ran
  ran = threshold_row (row_now v (get_or rows r no_row)) (state_at v r) v.marks

  abbrev after : Live
  after = with_residuals (with_dirty_rows (with_marks (with_state v r ran.state) ran.marks) d) q

  pub standing_run : Grows v.marks ran.marks → RowDone (row_now v (get_or rows r no_row)) (state_at v r) ran → RowRun rows v after r
  standing_run grows k = record {
    grows = grows;
    others = λ n e. get_or-set_other v.states r n ran.state no_state e;
    figures = ap reached here ∙ ap₂ max_z k.figures.known k.figures.lower;
    inside = subst (λ (t : State). Each (λ (g : Guard). le_z g.bound (reached t) ≡ true) (take t.sure_guard gs)) (sym here)
        (λ g m. k.passed.sure (standing v g) (subst (λ (l : List Guard). Memᴰ (standing v g) l) (sym (map-take (standing v) ran.state.sure_guard gs)) (Memᴰ.map (standing v) m)));
    fresh = subst (λ (t : State). Each (λ (g : Guard). MayDecide g → OtherHeld v g.other → Has true g.node ran.marks) (drop (state_at v r).sure_guard (take t.sure_guard gs))) (sym here)
        (λ g m p h. k.fresh (standing v g)
        (subst (λ (l : List Guard). Memᴰ (standing v g) l)
        (sym (ap (drop (state_at v r).sure_guard) (map-take (standing v) ran.state.sure_guard gs) ∙ map-drop (standing v) (state_at v r).sure_guard (take ran.state.sure_guard gs)))
        (Memᴰ.map (standing v) m)) (standing-decides v g p h));
  }
    where
      gs : List Guard
      gs = (get_or rows r no_row).guards

      here : state_at after r ≡ ran.state
      here = get_or-set_same v.states r ran.state no_state room

-- AND WHAT IT DECIDES FOLLOWS: a guard that stands alone for a pair's has the other measure reached
module _ (rows : List Row) (s : Table) (drained : ℕ → ℕ → Bool) (v : Live) (h : Stands rows s drained v) (paired : Paired rows) (r : ℕ) (is : IsRow rows r) where
  pub lows : ℕ → ℤ
  lows q = (state_at v q).lower

  pub highs : ℕ → Option ℤ
  highs q = (state_at v q).upper

  pub More : Marks → Type 0
  More m = Stay v.marks m × Apart m

  pub keeps : (value : Bool) (m : Marks) (n : ℕ) → More m → More (decide value m n).marks
  unfolding More
  keeps value m n k = (stay_decide v.marks value m n k.0, apart_decide value m n k.1)

  held-alone : (o : Other) → is_alone (other_now v o) ≡ true → OtherHeld v o
  held-alone alone e = tt
  held-alone (beside q b) e = by (le_z b (reached (state_at v q))) refl e
    where
      by : (c : Bool) → le_z b (reached (state_at v q)) ≡ c → is_alone (cond c alone (beside q b)) ≡ true → le_z b (reached (state_at v q)) ≡ true
      by true f k = f
      by false f k = absurd (clash false k refl)

  stands-for : Each (StandsFor rows s lows highs r is More keeps) (map (standing v) (get_or rows r no_row).guards)
  unfolding More lows highs
  stands-for y m =
      let o = Memᴰ.of_map (standing v) (get_or rows r no_row).guards m in
      let g = o.0 in
      record {
        guard = g;
        there = (is, o.1);
        bound = ap (λ (z : Guard). z.bound) o.2;
        node = ap (λ (z : Guard). z.node) o.2;
        may = ap (λ (z : Guard). z.may) o.2;
        other = λ e k x. other_up rows (table_at v) (table_of k lows highs) g.other (stay_le v.marks k lows highs x.0)
            (other_sound rows s drained v h paired r g (is, o.1) (held-alone g.other (ap (λ (z : Guard). is_alone z.other) o.2 ∙ e)));
      }

  pub standing_fine : Fine rows s lows highs r is More keeps (threshold_row (row_now v (get_or rows r no_row)) (state_at v r) v.marks)
  unfolding More lows highs
  standing_fine =
      row_fine rows s lows highs r is More keeps (get_or rows r no_row).raw (map (standing v) (get_or rows r no_row).guards) stands-for (state_at v r) v.marks (
        h.follows,
        record { known = known_inside rows s drained v h r is; possible = possible_inside rows s drained v h r is; lower = refl; upper = refl },
        (stay_same v.marks, h.apart),
      )
