-- A ROW RUN ONCE leaves none of the rules 2 to 5 undone that its drained figures give, and its cursors pass only what is decided.
use Prim.Native.Nat.{ℕ, ◌+◌, ◌-◌, ◌≤◌}
use Rattle.std.proofs.Common.{arith, sym, ap, ap₂, ◌∙◌, subst, le-leb}
use Rattle.std.specs.Prelude.{◌≡◌, true, false, not, cond, ◌&&◌, length, take, drop, ℤ, pos, ◌-ℤ◌, Option, None, Some}
use Rattle.std.proofs.Math.Path.{refl}
use Rattle.std.proofs.Math.Bool.{Bool}
use mathlib.Core.List.{List, Memᴰ, reverse}
use Rattle.std.specs.Int.Signed.{le_z, lt_z}
use Rattle.state.specs.StepLaws.{joined_right}
use Rattle.base.specs.TestLaws.{clash, unequal}
use Rattle.base.specs.SignedLaws.{le_z_trans, le_z-lt_z, le_z-pos}
use Rattle.numeric.specs.Threshold.{Term}
use Rattle.state.specs.declared.Step.{Step}
use Rattle.state.specs.declared.Step.TheVariants.{Unchanged, Contradiction}
use Rattle.state.specs.declared.State.{State}
use Rattle.state.specs.Step.{joined, contradicts}
use Rattle.state.specs.State.{max_z, reached, upper_at_most, limited, limit, with_guards, with_terms}
use Rattle.queues.specs.Marks.{Marks, is_decided, Decided}
use Rattle.rows.specs.Rows.{Row, Guard}
use Rattle.row_runs.specs.Scan.{Scanned, scan}
use Rattle.row_runs.specs.Row.{Ran, ran, decides, sure_waits, sure_guards, reachable, never_waits, never_guards, threshold_guards, term_waits, forces, forced, true_terms, false_terms, threshold_row}
use Rattle.row_runs.proofs.RowLaws.{decides_keeps}
use Rattle.row_runs.specs.RunsLaws.{run_ends}
use Rattle.row_runs.specs.Runs.{guards_run, true_run, false_run, whole_run}
use Rattle.theorem_follows.specs.DecideLaws.{scan_keeps}
use Rattle.theorem_follows.specs.CompleteLaws.{Wide, Has, Meets, wide_decides, wide_force, decides_stays, decided_stays, force_stays, force_has, sure_complete, never_complete, forced_complete}
use Rattle.theorem_follows.specs.Ordered.{Each, Ordered}

-- The sure cursor passed only guards that the figures reach; what the others passed is decided.
pub record Passed (row : Row) (st : State) (m : Marks) : Type 0 where
  pub wide : Wide m
  pub inside : st.never_guard ≤ length row.guards
  pub sure : Each (λ (g : Guard). le_z g.bound (reached st) ≡ true) (take st.sure_guard row.guards)
  pub never : Each (λ (g : Guard). Meets false g m) (drop st.never_guard row.guards)
  pub true-terms : Each (λ (t : Term). is_decided m t.condition ≡ true) (take st.true_term row.terms)
  pub false-terms : Each (λ (t : Term). is_decided m t.condition ≡ true) (take st.false_term row.terms)

-- Nothing that the figures decide is left: they reach no guard behind the sure cursor, all else is decided.
pub record Complete (row : Row) (st : State) (m : Marks) : Type 0 where
  pub all : Each (λ (g : Guard). le_z g.bound (reached st) ≡ false) (drop st.sure_guard row.guards)
  pub out_of_reach : Each (λ (g : Guard). reachable st g.bound ≡ false → Meets false g m) row.guards
  pub needed : le_z st.lower st.known ≡ false → Each (λ (t : Term). le_z (pos t.weight) (st.possible -ℤ st.lower) ≡ false → is_decided m t.condition ≡ true) row.terms
  pub too_heavy : (b : ℤ) → st.upper ≡ Some b → Each (λ (t : Term). lt_z (pos t.weight) (b -ℤ st.known) ≡ false → is_decided m t.condition ≡ true) row.terms

-- A guard that the sure cursor passed on its way from one state to another, and that decides, is sure.
abbrev pub Fresh : Row → State → State → Marks → Type 0
Fresh row a b m = Each (λ (g : Guard). Meets true g m) (drop a.sure_guard (take b.sure_guard row.guards))

-- A scan keeps what its places keep, whether it contradicts or not.
scan_stays : {X : Type 0} (P : Marks → Type 0) (waits : X → Marks → Bool) (act : X → Marks → Decided) → ((x : X) (m : Marks) → P m → P (act x m).marks)
    → (xs : List X) (n : ℕ) (m : Marks) (k : Step) → contradicts k ≡ false → P m → P (scan waits act xs n m k).marks
scan_stays P waits act h xs n m k c p = (scan_keeps P (Unit {0}) waits act xs (λ x a i q v. (h x a q, λ _. tt)) n m k p c).0

light-true : (st : State) (a b : ℕ) → a ≤ b → le_z (pos b) (st.possible -ℤ st.lower) ≡ true → le_z (pos a) (st.possible -ℤ st.lower) ≡ true
light-true st a b h k = le_z_trans (pos a) (pos b) (st.possible -ℤ st.lower) (le_z-pos a b ∙ le-leb a b h) k

light-false : (z : ℤ) (a b : ℕ) → a ≤ b → lt_z (pos b) z ≡ true → lt_z (pos a) z ≡ true
light-false z a b h k = le_z-lt_z (pos a) (pos b) z (le_z-pos a b ∙ le-leb a b h) k

module _ (row : Row) (o : Ordered row) where
  -- THE GUARDS
  pub record GuardsDone (st : State) (r : Ran) : Type 0 where
    pub passed : Passed row r.state r.marks
    pub all : Each (λ (g : Guard). le_z g.bound (reached st) ≡ false) (drop r.state.sure_guard row.guards)
    pub fresh : Fresh row st r.state r.marks
    pub out_of_reach : Each (λ (g : Guard). reachable st g.bound ≡ false → Meets false g r.marks) row.guards

  guards-done : (st : State) (m : Marks) → Passed row st m → contradicts (threshold_guards row.guards st m).step ≡ false → GuardsDone st (threshold_guards row.guards st m)
  unfolding threshold_guards with_guards
  guards-done st m p h = by (contradicts a.step) refl h
    where
      gs : List Guard
      gs = row.guards

      a : Scanned
      a = sure_guards gs st m

      b : Scanned
      b = never_guards gs st a.marks a.step

      up : State
      up = with_guards st (st.sure_guard + a.passed) st.never_guard

      ends : Bool → Ran
      ends t = elim t [ true ↦ ran up a.marks Contradiction | false ↦ ran (with_guards up up.sure_guard (st.never_guard - b.passed)) b.marks b.step ]

      by : (t : Bool) → contradicts a.step ≡ t → contradicts (ends t).step ≡ false → GuardsDone st (ends t)
      by true e d = absurd (unequal cc)
      by false e d =
          let s = sure_complete gs st m o.rising o.guards p.wide e in
          let w : Wide a.marks = scan_stays Wide (sure_waits st) (decides true) (λ g k q. wide_decides true g k q) (drop st.sure_guard gs) 0 m Unchanged refl p.wide in
          let old : Each (λ (g : Guard). Meets false g a.marks) (drop st.never_guard gs) =
          λ g i d. scan_stays (Has false g.node) (sure_waits st) (decides true) (λ x k q. decides_stays false g.node true x k q) (drop st.sure_guard gs) 0 m Unchanged refl (p.never g i d) in
          let n = never_complete gs st a.marks a.step o.rising o.guards w p.inside old e d in
          let later : (P : Marks → Type 0) → ((x : Guard) (k : Marks) → P k → P (decides false x k).marks) → P a.marks → P b.marks =
          λ P q x. scan_stays P (never_waits st) (decides false) q (reverse (take st.never_guard gs)) 0 a.marks a.step e x in
          let terms : (t : ℕ) → is_decided m t ≡ true → is_decided b.marks t ≡ true =
          λ t q. later (λ (k : Marks). is_decided k t ≡ true) (λ x k y. decides_keeps (λ (n : Marks). is_decided n t ≡ true) false x k y (decided_stays t false k x.node y))
          (scan_stays (λ (k : Marks). is_decided k t ≡ true) (sure_waits st) (decides true) (λ x k y. decides_keeps (λ (n : Marks). is_decided n t ≡ true) true x k y (decided_stays t true k x.node y)) (drop st.sure_guard gs) 0 m Unchanged refl q) in
          record {
            passed = record {
              wide = later Wide (λ g k q. wide_decides false g k q) w;
              inside = let i = p.inside in omega arith;
              sure = s.inside p.sure;
              never = n.0;
              true-terms = λ t i. terms t.condition (p.true-terms t i);
              false-terms = λ t i. terms t.condition (p.false-terms t i);
            };
            all = s.all;
            fresh = λ g i d. later (Has true g.node) (λ x k y. decides_stays true g.node false x k y) (s.fresh g i d);
            out_of_reach = n.1;
          }

  -- THE TERMS of one value: what holds before holds after, what the cutoff forces is decided
  module _ (value : Bool) (light : ℕ → Bool) (down : (a b : ℕ) → a ≤ b → light b ≡ true → light a ≡ true) (n : ℕ) (m : Marks) where
    terms-stay : (P : Marks → Type 0) → ((t : Term) (k : Marks) → P k → P (forces value t k).marks) → P m → P (forced value light (drop n row.terms) m).marks
    terms-stay P h p = scan_stays P (term_waits light) (forces value) h (drop n row.terms) 0 m Unchanged refl p

    stays-has : (v : Bool) (k : ℕ) → Has v k m → Has v k (forced value light (drop n row.terms) m).marks
    stays-has v k h = terms-stay (Has v k) (λ t a q. force_has v k value a t.condition q) h

    stays-decided : (k : ℕ) → is_decided m k ≡ true → is_decided (forced value light (drop n row.terms) m).marks k ≡ true
    stays-decided k h = terms-stay (λ (a : Marks). is_decided a k ≡ true) (λ t a q. force_stays k value a t.condition q) h

    stays_wide : Wide m → Wide (forced value light (drop n row.terms) m).marks
    stays_wide h = terms-stay Wide (λ t a q. wide_force value a t.condition q) h

    stays-passed : (st st' : State) → Passed row st m
        → st'.sure_guard ≡ st.sure_guard → st'.never_guard ≡ st.never_guard → reached st' ≡ reached st
        → Each (λ (t : Term). is_decided (forced value light (drop n row.terms) m).marks t.condition ≡ true) (take st'.true_term row.terms)
        → Each (λ (t : Term). is_decided (forced value light (drop n row.terms) m).marks t.condition ≡ true) (take st'.false_term row.terms)
        → Passed row st' (forced value light (drop n row.terms) m).marks
    stays-passed st st' p e f same a b = record {
      wide = stays_wide p.wide;
      inside = let i = p.inside in omega arith;
      sure = λ g i. ap (le_z g.bound) same ∙ p.sure g (subst (λ (c : ℕ). Memᴰ g (take c row.guards)) e i);
      never = λ g i d. stays-has false g.node (p.never g (subst (λ (c : ℕ). Memᴰ g (drop c row.guards)) f i) d);
      true-terms = a;
      false-terms = b;
    }

  -- what a run over terms keeps of what was decided
  abbrev Stays : Marks → Marks → Type 0
  Stays m m' = ((v : Bool) (k : ℕ) → Has v k m → Has v k m') × ((k : ℕ) → is_decided m k ≡ true → is_decided m' k ≡ true)

  true-done : (st : State) (m : Marks) → Passed row st m → contradicts (true_terms row.terms st m).step ≡ false
      → let r = true_terms row.terms st m in
      Passed row r.state r.marks × Stays m r.marks
      × (le_z st.lower st.known ≡ false → Each (λ (t : Term). le_z (pos t.weight) (st.possible -ℤ st.lower) ≡ false → is_decided r.marks t.condition ≡ true) row.terms)
  unfolding true_terms with_terms
  true-done st m p h = by (le_z st.lower st.known) refl h
    where
      light : ℕ → Bool
      light w = le_z (pos w) (st.possible -ℤ st.lower)

      a : Scanned
      a = forced true light (drop st.true_term row.terms) m

      ends : Bool → Ran
      ends b = cond b (ran st m Unchanged) (ran (with_terms st (st.true_term + a.passed) st.false_term) a.marks a.step)

      by : (b : Bool) → le_z st.lower st.known ≡ b → contradicts (ends b).step ≡ false
          → Passed row (ends b).state (ends b).marks × Stays m (ends b).marks
          × (le_z st.lower st.known ≡ false → Each (λ (t : Term). light t.weight ≡ false → is_decided (ends b).marks t.condition ≡ true) row.terms)
      by true e d = (p, ((λ v k q. q), (λ k q. q)), λ f. absurd (unequal cc))
      by false e d =
          let c = forced_complete true light (light-true st) row.terms st.true_term m o.falling o.terms p.wide p.true-terms d in (
            stays-passed true light (light-true st) st.true_term m st (with_terms st (st.true_term + a.passed) st.false_term) p refl refl refl c.0
                (λ t i. stays-decided true light (light-true st) st.true_term m t.condition (p.false-terms t i)),
            (stays-has true light (light-true st) st.true_term m, stays-decided true light (light-true st) st.true_term m),
            λ f. c.1,
          )

  false-done : (st : State) (m : Marks) → Passed row st m → contradicts (false_terms row.terms st m).step ≡ false
      → let r = false_terms row.terms st m in
      Passed row r.state r.marks × Stays m r.marks
      × ((b : ℤ) → st.upper ≡ Some b → Each (λ (t : Term). lt_z (pos t.weight) (b -ℤ st.known) ≡ false → is_decided r.marks t.condition ≡ true) row.terms)
  unfolding false_terms with_terms
  false-done st m p h = by st.upper refl h
    where
      light : Option ℤ → ℕ → Bool
      light x w = lt_z (pos w) (limit x -ℤ st.known)

      a : Option ℤ → Scanned
      a x = forced false (light x) (drop st.false_term row.terms) m

      ends : Option ℤ → Ran
      ends x = cond (limited x) (ran (with_terms st st.true_term (st.false_term + (a x).passed)) (a x).marks (a x).step) (ran st m Unchanged)

      by : (x : Option ℤ) → st.upper ≡ x → contradicts (ends x).step ≡ false
          → Passed row (ends x).state (ends x).marks × Stays m (ends x).marks
          × ((b : ℤ) → st.upper ≡ Some b → Each (λ (t : Term). lt_z (pos t.weight) (b -ℤ st.known) ≡ false → is_decided (ends x).marks t.condition ≡ true) row.terms)
      by None e d = (p, ((λ v k q. q), (λ k q. q)), λ b f. absurd (let g : None ≡ Some b = sym e ∙ f in unequal cc))
      by (Some b) e d =
          let c = forced_complete false (light (Some b)) (light-false (b -ℤ st.known)) row.terms st.false_term m o.falling o.terms p.wide p.false-terms d in (
            stays-passed false (light (Some b)) (light-false (b -ℤ st.known)) st.false_term m st (with_terms st st.true_term (st.false_term + (a (Some b)).passed)) p refl refl refl
                (λ t i. stays-decided false (light (Some b)) (light-false (b -ℤ st.known)) st.false_term m t.condition (p.true-terms t i)) c.0,
            (stays-has false (light (Some b)) (light-false (b -ℤ st.known)) st.false_term m, stays-decided false (light (Some b)) (light-false (b -ℤ st.known)) st.false_term m),
            λ b' f. let g : b ≡ b' = (let q : Some b ≡ Some b' = sym e ∙ f in cc) in
                λ t i q. c.1 t i (subst (λ (z : ℤ). lt_z (pos t.weight) (z -ℤ st.known) ≡ false) (sym g) q),
          )

-- Scans move cursors and no figure.
pub record SameFigures (a b : State) : Type 0 where
  pub known : a.known ≡ b.known
  pub possible : a.possible ≡ b.possible
  pub lower : a.lower ≡ b.lower
  pub upper : a.upper ≡ b.upper

same_then : (a b c : State) → SameFigures a b → SameFigures b c → SameFigures a c
same_then a b c e f = record { known = e.known ∙ f.known; possible = e.possible ∙ f.possible; lower = e.lower ∙ f.lower; upper = e.upper ∙ f.upper }

same : (a : State) → SameFigures a a
same a = record { known = refl; possible = refl; lower = refl; upper = refl }

pub guards-figures : (gs : List Guard) (st : State) (m : Marks) → SameFigures (threshold_guards gs st m).state st
unfolding threshold_guards with_guards
guards-figures gs st m = by (contradicts (sure_guards gs st m).step)
  where
    a : Scanned
    a = sure_guards gs st m

    b : Scanned
    b = never_guards gs st a.marks a.step

    ends : Bool → Ran
    ends t = elim t [
      | true ↦ ran (with_guards st (st.sure_guard + a.passed) st.never_guard) a.marks Contradiction
      | false ↦ ran (with_guards (with_guards st (st.sure_guard + a.passed) st.never_guard) (st.sure_guard + a.passed) (st.never_guard - b.passed)) b.marks b.step
    ]

    by : (t : Bool) → SameFigures (ends t).state st
    by true = record { known = refl; possible = refl; lower = refl; upper = refl }
    by false = record { known = refl; possible = refl; lower = refl; upper = refl }

pub true-figures : (ts : List Term) (st : State) (m : Marks) → SameFigures (true_terms ts st m).state st
unfolding true_terms with_terms
true-figures ts st m = by (le_z st.lower st.known) _ _ _
  where
    by : (t : Bool) (n : ℕ) (k : Marks) (s : Step) → SameFigures (cond t (ran st m Unchanged) (ran (with_terms st n st.false_term) k s)).state st
    by true n k s = same st
    by false n k s = record { known = refl; possible = refl; lower = refl; upper = refl }

pub false-figures : (ts : List Term) (st : State) (m : Marks) → SameFigures (false_terms ts st m).state st
unfolding false_terms with_terms
false-figures ts st m = by (limited st.upper) _ _ _
  where
    by : (t : Bool) (n : ℕ) (k : Marks) (s : Step) → SameFigures (cond t (ran (with_terms st st.true_term n) k s) (ran st m Unchanged)).state st
    by true n k s = record { known = refl; possible = refl; lower = refl; upper = refl }
    by false n k s = same st

pub true_cursor : (ts : List Term) (st : State) (m : Marks) → (true_terms ts st m).state.sure_guard ≡ st.sure_guard
unfolding true_terms with_terms
true_cursor ts st m = by (le_z st.lower st.known) _ _ _
  where
    by : (t : Bool) (n : ℕ) (k : Marks) (s : Step) → (cond t (ran st m Unchanged) (ran (with_terms st n st.false_term) k s)).state.sure_guard ≡ st.sure_guard
    by true n k s = refl
    by false n k s = refl

pub false_cursor : (ts : List Term) (st : State) (m : Marks) → (false_terms ts st m).state.sure_guard ≡ st.sure_guard
unfolding false_terms with_terms
false_cursor ts st m = by (limited st.upper) _ _ _
  where
    by : (t : Bool) (n : ℕ) (k : Marks) (s : Step) → (cond t (ran (with_terms st st.true_term n) k s) (ran st m Unchanged)).state.sure_guard ≡ st.sure_guard
    by true n k s = refl
    by false n k s = refl

-- THE SAME FIGURES AND THE SAME SURE CURSOR: complete as well
reached_same : (a b : State) → SameFigures b a → reached a ≡ reached b
reached_same a b e = ap₂ max_z (sym e.known) (sym e.lower)

-- A ROW RUN ONCE without a contradiction: none of rules 2 to 5 is left that its figures give, the cursors passed only what they may,
-- each guard passed now is sure if it decides, and the figures are as they were.
pub record RowDone (row : Row) (st : State) (r : Ran) : Type 0 where
  pub passed : Passed row r.state r.marks
  pub complete : Complete row r.state r.marks
  pub figures : SameFigures r.state st
  pub fresh : Fresh row st r.state r.marks

pub row_complete : (row : Row) → Ordered row → (st : State) (m : Marks) → Passed row st m → contradicts (threshold_row row st m).step ≡ false → RowDone row st (threshold_row row st m)
row_complete row o st m p h =
    run_ends row st m (λ (r : Ran). contradicts r.step ≡ false → Goal r) (λ e d. absurd (clash true refl d)) (λ e d. absurd (clash (contradicts a.step) e d))
    (λ e f d. absurd (clash (contradicts b.step) f d)) (λ e f d. done e f (joined_right (joined a.step b.step) c.step d)) h
  where
    a : Ran
    a = guards_run row st m

    b : Ran
    b = true_run row st m

    c : Ran
    c = false_run row st m

    Goal : Ran → Type 0
    Goal r = RowDone row st r

    fa : SameFigures a.state st
    fa = guards-figures row.guards st m

    fb : SameFigures b.state st
    fb = same_then b.state a.state st (true-figures row.terms a.state a.marks) fa

    done : contradicts a.step ≡ false → contradicts b.step ≡ false → contradicts c.step ≡ false → Goal (whole_run row st m)
    done ea eb ec =
        let ga = guards-done row o st m p ea in
        let gb = true-done row o a.state a.marks ga.passed eb in
        let gc = false-done row o b.state b.marks gb.0 ec in
        let fc = same_then c.state b.state st (false-figures row.terms b.state b.marks) fb in
        let at : c.state.sure_guard ≡ a.state.sure_guard = false_cursor row.terms b.state b.marks ∙ true_cursor row.terms a.state a.marks in
        record {
          passed = gc.0;
          complete = record {
            all = λ g i. ap (le_z g.bound) (sym (reached_same st c.state fc)) ∙ ga.all g (subst (λ (n : ℕ). Memᴰ g (drop n row.guards)) at i);
            out_of_reach = λ g i q d. gc.1.0 false g.node (gb.1.0 false g.node (ga.out_of_reach g i
                (ap₂ (λ (p : ℤ) (u : Option ℤ). le_z g.bound p && not (upper_at_most u g.bound)) (sym fc.possible) (sym fc.upper) ∙ q) d));
            needed = λ f t i q. gc.1.1 t.condition (gb.2 (ap₂ le_z (fa.lower ∙ sym fc.lower) (fa.known ∙ sym fc.known) ∙ f) t i
                (ap (le_z (pos t.weight)) (ap₂ (λ (x y : ℤ). x -ℤ y) (fa.possible ∙ sym fc.possible) (fa.lower ∙ sym fc.lower)) ∙ q));
            too_heavy = λ z f t i q. gc.2 z (fb.upper ∙ sym fc.upper ∙ f) t i (ap (λ (x : ℤ). lt_z (pos t.weight) (z -ℤ x)) (fb.known ∙ sym fc.known) ∙ q);
          };
          figures = fc;
          fresh = λ g i d. gc.1.0 true g.node (gb.1.0 true g.node (ga.fresh g (subst (λ (n : ℕ). Memᴰ g (drop st.sure_guard (take n row.guards))) at i) d));
        }
