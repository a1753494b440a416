-- ONE ROW RUN ONCE: whatever `threshold_row` decides follows by rules 2 to 5 of the table, from drained figures that lie inside
-- those of the masks; where it contradicts, a conflict follows.
use Prim.Native.Nat.{ℕ, ◌+◌, ◌-◌}
use Rattle.std.proofs.Math.Decide.{ℕ_discrete}
use Rattle.std.specs.Prelude.{◌≡◌, true, not, cond, ◌&&◌, ◌||◌, ◌⊎◌, get_or, take, drop, ℤ, pos, ◌-ℤ◌, ◌≤ℤ◌, ◌<ℤ◌, Option, None, Some}
use Rattle.std.proofs.Math.Path.{refl}
use Rattle.std.proofs.Common.{sym, ap, ◌∙◌, subst, inl, inr, ⊎_elim}
use Rattle.std.proofs.Math.Bool as B
use Rattle.std.proofs.Math.Bool.{Bool, false}
use mathlib.Core.List.{List, reverse, Memᴰ}
use Rattle.std.specs.Int.Signed.{le_z, lt_z, ≤ℤ_refl}
use Rattle.std.proofs.lemmas.Bool.{not-false}
use Rattle.base.specs.MembersLaws.{mem_drop, mem_take, mem_reverse}
use Rattle.base.specs.TestLaws.{and_left, and_right, and-false, or-true, or-false, unequal}
use Rattle.state.specs.StepLaws.{joined_fine, joined_which}
use Rattle.base.specs.SignedLaws.{nlt-le_z, nle-lt_z}
use Rattle.numeric.specs.Threshold.{Term}
use Rattle.state.specs.declared.Step.{Step}
use Rattle.state.specs.declared.Step.TheVariants.{Unchanged, Contradiction}
use Rattle.state.specs.declared.State.{State}
use Rattle.state.specs.Step.{joined, contradicts}
use Rattle.state.specs.State.{reached, upper_at_most, limited, limit, conflict, with_guards, with_terms}
use Rattle.words.specs.Mask.{bit, learn, Learned}
use Rattle.words.specs.MaskLaws.{learn_there, learn_other}
use Rattle.queues.specs.Marks.{Marks, is_decided, decided, decide}
use Rattle.rows.specs.Rows.{Row, row_of, Guard, Other, alone, beside, is_alone, MayDecide, no_row}
use Rattle.row_runs.specs.Scan.{Scanned}
use Rattle.row_runs.specs.Row.{Ran, ran, deciding, decides, sure_guards, never_guards, threshold_guards, forced, true_terms, false_terms, threshold_row}
use Rattle.theorem_table.specs.Table as T
use Rattle.theorem_table.specs.Table.{Table, decide_sure, decide_never, IsRow, Guards, terms_of, known_of, possible_of, reached_of, OtherReached, AtMost, Conflict, lower-above, upper-reached, bound-reached, bound-out-of-reach, term-needed, term-too-heavy}
use Rattle.theorem_table.specs.OrderLaws.{le, lt, ≤ℤ_trans, ≤ℤ_<ℤ_trans, pos_≤ℤ, max_up, sub_up, up_refl, at_most, at-most_up}
use Rattle.theorem_table.proofs.TableLaws.{Le, known_up, possible_down}
use Rattle.row_runs.specs.RunsLaws.{run_ends}
use Rattle.row_runs.specs.Runs.{guards_run, true_run, false_run}
use Rattle.theorem_follows.specs.Ordered.{Each}
use Rattle.theorem_follows.specs.DecideLaws.{table_of, Broken, Kept, decide_follows, scan_keeps}

-- WHAT A GUARD THAT DECIDES IS LIKE: it may, and to be sure it is alone
pub deciding_may : (value : Bool) (g : Guard) → deciding value g ≡ true → MayDecide g
deciding_may value g d = and_left g.may (is_alone g.other || not value) d

pub deciding_alone : (g : Guard) → deciding true g ≡ true → is_alone g.other ≡ true
deciding_alone g d = sym (B.or-false (is_alone g.other)) ∙ and_right g.may (is_alone g.other || false) d

-- DECIDING only adds
learn_grows : (mask opposite : List ℕ) (n k : ℕ) → bit mask k ≡ true → bit (learn mask opposite n).mask k ≡ true
learn_grows mask opposite n k h = by (ℕ_discrete k n)
  where
    by : Dec (k ≡ n) → bit (learn mask opposite n).mask k ≡ true
    by (yes e) = ap (λ (x : Learned). bit x.mask k) (learn_there mask opposite n (subst (λ (i : ℕ). bit mask i ≡ true) e h)) ∙ h
    by (no d) = learn_other mask opposite n k d ∙ h

pub decide_grows : (value : Bool) (m : Marks) (n : ℕ) (l : ℕ → ℤ) (u : ℕ → Option ℤ) → Le (table_of m l u) (table_of (decide value m n).marks l u)
unfolding decide
decide_grows true m n l u = record {
  sure = λ k h. learn_grows m.sure m.never n k h;
  never = λ k h. h;
  lower = λ r. ≤ℤ_refl (l r);
  upper = λ r. up_refl (u r);
}
decide_grows false m n l u = record {
  sure = λ k h. h;
  never = λ k h. learn_grows m.never m.sure n k h;
  lower = λ r. ≤ℤ_refl (l r);
  upper = λ r. up_refl (u r);
}

-- A row state's figures lie inside those of the masks; its bounds are the table's.
pub record Inside (rows : List Row) (l : ℕ → ℤ) (u : ℕ → Option ℤ) (r : ℕ) (st : State) (m : Marks) : Type 0 where
  pub known : st.known ≤ℤ known_of rows (table_of m l u) r
  pub possible : possible_of rows (table_of m l u) r ≤ℤ st.possible
  pub lower : st.lower ≡ l r
  pub upper : st.upper ≡ u r

pub inside_up : (rows : List Row) (l : ℕ → ℤ) (u : ℕ → Option ℤ) (r : ℕ) (st : State) (m m' : Marks) → Le (table_of m l u) (table_of m' l u)
    → Inside rows l u r st m → Inside rows l u r st m'
inside_up rows l u r st m m' g i = record {
  known = ≤ℤ_trans i.known (pos_≤ℤ (known_up (bit m.sure) (bit m'.sure) (terms_of rows r) g.sure));
  possible = ≤ℤ_trans (pos_≤ℤ (possible_down (bit m.never) (bit m'.never) (terms_of rows r) g.never)) i.possible;
  lower = i.lower;
  upper = i.upper;
}

-- `More` is whatever else each decision keeps.
module _ (rows : List Row) (s : Table) (l : ℕ → ℤ) (u : ℕ → Option ℤ) (r : ℕ) (is : IsRow rows r)
    (More : Marks → Type 0) (keeps : (value : Bool) (m : Marks) (n : ℕ) → More m → More (decide value m n).marks) where
  pub inside_guards : (st : State) (m : Marks) (a b : ℕ) → Inside rows l u r st m → Inside rows l u r (with_guards st a b) m
  unfolding with_guards
  inside_guards st m a b i = record { known = i.known; possible = i.possible; lower = i.lower; upper = i.upper }

  pub inside_terms : (st : State) (m : Marks) (a b : ℕ) → Inside rows l u r st m → Inside rows l u r (with_terms st a b) m
  unfolding with_terms
  inside_terms st m a b i = record { known = i.known; possible = i.possible; lower = i.lower; upper = i.upper }

  reached-inside : (st : State) (m : Marks) → Inside rows l u r st m → reached st ≤ℤ reached_of rows (table_of m l u) r
  reached-inside st m i =
      max_up {a = st.known} {b = st.lower} {c = known_of rows (table_of m l u) r} {d = l r} i.known (subst (λ (z : ℤ). z ≤ℤ l r) (sym i.lower) (≤ℤ_refl (l r)))

  -- what is kept along a scan of the row
  abbrev pub Along : State → Marks → Type 0
  Along st m = Kept rows s l u m × Inside rows l u r st m × More m

  along-decide : (value : Bool) (st : State) (m : Marks) (n : ℕ) → Along st m
      → Kept rows s l u (decide value m n).marks × (contradicts (decide value m n).step ≡ true → Broken rows s)
      → Along st (decide value m n).marks × (contradicts (decide value m n).step ≡ true → Broken rows s)
  along-decide value st m n h k = ((k.0, inside_up rows l u r st m (decide value m n).marks (decide_grows value m n l u) h.1, keeps value m n h.2), k.1)

  -- passing a guard: its decision follows, where it decides
  along-decides : (value : Bool) (st : State) (m : Marks) (g : Guard) → Along st m
      → (deciding value g ≡ true → Kept rows s l u (decide value m g.node).marks × (contradicts (decide value m g.node).step ≡ true → Broken rows s))
      → Along st (decides value g m).marks × (contradicts (decides value g m).step ≡ true → Broken rows s)
  along-decides value st m g h k = by (deciding value g) refl
    where
      by : (b : Bool) → deciding value g ≡ b
          → let a = cond b (decide value m g.node) (decided m Unchanged) in Along st a.marks × (contradicts a.step ≡ true → Broken rows s)
      by true e = along-decide value st m g.node h (k e)
      by false e = (h, λ c. absurd (unequal cc))

  -- A guard that stands for one of the row: its bound, its node and its leave, and alone only where the other measure is reached.
  pub record StandsFor (y : Guard) : Type 0 where
    pub guard : Guard
    pub there : Guards rows r guard
    pub bound : guard.bound ≡ y.bound
    pub node : guard.node ≡ y.node
    pub may : guard.may ≡ y.may
    pub other : is_alone y.other ≡ true → (k : Marks) → More k → OtherReached rows (table_of k l u) guard.other

  -- RULE 2
  sure-along : (gs : List Guard) → Each StandsFor gs → (st : State) (m : Marks) → Along st m → let a = sure_guards gs st m in Along st a.marks × (contradicts a.step ≡ true → Broken rows s)
  sure-along gs are st m h =
      scan_keeps (Along st) (Broken rows s) _ _ (drop st.sure_guard gs)
      (λ (y : Guard) k x p w. along-decides true st k y p (λ d.
      let o = are y (mem_drop st.sure_guard gs y x) in
      decide_follows rows s l u true k y.node p.0
      (λ e. subst (λ (n : ℕ). T.Step rows (table_of k l u) (decide_sure (table_of k l u) n)) o.node
      (bound-reached r o.guard o.there (
        o.may ∙ deciding_may true y d,
        subst (λ (z : ℤ). z ≤ℤ reached_of rows (table_of k l u) r) (sym o.bound) (≤ℤ_trans (le (nlt-le_z (reached st) y.bound w)) (reached-inside st k p.1)),
        o.other (deciding_alone y d) k p.2,
      ) (ap (bit k.sure) o.node ∙ e)))))
      0 m Unchanged h refl

  -- RULE 3
  out_of_reach : (st : State) (m : Marks) (b : ℤ) → Inside rows l u r st m → (le_z b st.possible && not (upper_at_most st.upper b)) ≡ false
      → (possible_of rows (table_of m l u) r <ℤ b) ⊎ AtMost (u r) b
  out_of_reach st m b i w =
      ⊎_elim (λ (e : le_z b st.possible ≡ false). inl (≤ℤ_<ℤ_trans i.possible (lt (nle-lt_z st.possible b e))))
      (λ (e : not (upper_at_most st.upper b) ≡ false). inr (subst (λ (x : Option ℤ). AtMost x b) i.upper (at_most st.upper b (not-false (upper_at_most st.upper b) e))))
      (and-false (le_z b st.possible) (not (upper_at_most st.upper b)) w)

  never-along : (gs : List Guard) → Each StandsFor gs → (st : State) (m : Marks) (k : Step) → Along st m → contradicts k ≡ false
      → let a = never_guards gs st m k in Along st a.marks × (contradicts a.step ≡ true → Broken rows s)
  never-along gs are st m k h c =
      scan_keeps (Along st) (Broken rows s) _ _ (reverse (take st.never_guard gs))
      (λ (y : Guard) n x p w. along-decides false st n y p (λ d.
      let o = are y (mem_take st.never_guard gs y (mem_reverse (take st.never_guard gs) y x)) in
      decide_follows rows s l u false n y.node p.0
      (λ e. subst (λ (i : ℕ). T.Step rows (table_of n l u) (decide_never (table_of n l u) i)) o.node
      (bound-out-of-reach r o.guard o.there (
        o.may ∙ deciding_may false y d,
        subst (λ (z : ℤ). (possible_of rows (table_of n l u) r <ℤ z) ⊎ AtMost (u r) z) (sym o.bound) (out_of_reach st n y.bound p.1 w),
      ) (ap (bit n.never) o.node ∙ e)))))
      0 m k h c

  -- RULES 4 AND 5: a term that is decided is passed; an undecided one is forced
  force-along : (value : Bool) (st : State) (ts : List Term) (waits : ℕ → Bool) (m : Marks) → Along st m
      → ((t : Term) (k : Marks) → Memᴰ t ts → Along st k → is_decided k t.condition ≡ false → waits t.weight ≡ false
      → Kept rows s l u (decide value k t.condition).marks × (contradicts (decide value k t.condition).step ≡ true → Broken rows s))
      → Along st (forced value waits ts m).marks × (contradicts (forced value waits ts m).step ≡ true → Broken rows s)
  force-along value st ts waits m h gives =
      scan_keeps (Along st) (Broken rows s) _ _ ts
      (λ (t : Term) k x p w. place t k x p w (is_decided k t.condition) refl)
      0 m Unchanged h refl
    where
      place : (t : Term) (k : Marks) → Memᴰ t ts → Along st k → (not (is_decided k t.condition) && waits t.weight) ≡ false
          → (b : Bool) → is_decided k t.condition ≡ b
          → let a = cond (is_decided k t.condition) (decided k Unchanged) (decide value k t.condition) in Along st a.marks × (contradicts a.step ≡ true → Broken rows s)
      place t k x p w true e =
          subst (λ (b : Bool). let a = cond b (decided k Unchanged) (decide value k t.condition) in Along st a.marks × (contradicts a.step ≡ true → Broken rows s)) (sym e)
          (p, λ c. absurd (unequal cc))
      place t k x p w false e =
          subst (λ (b : Bool). let a = cond b (decided k Unchanged) (decide value k t.condition) in Along st a.marks × (contradicts a.step ≡ true → Broken rows s)) (sym e)
          (along-decide value st k t.condition p (gives t k x p e
          (⊎_elim (λ (y : not (is_decided k t.condition) ≡ false). absurd (let q = not-false (is_decided k t.condition) y in unequal cc))
          (λ y. y) (and-false (not (is_decided k t.condition)) (waits t.weight) w))))

  abbrev pub Fine : Ran → Type 0
  Fine a = Along a.state a.marks × (contradicts a.step ≡ true → Broken rows s)

  pub true_fine : (st : State) (m : Marks) → Along st m → Fine (true_terms (terms_of rows r) st m)
  unfolding true_terms
  true_fine st m h = by (le_z st.lower st.known)
    where
      waits : ℕ → Bool
      waits w = le_z (pos w) (st.possible -ℤ st.lower)

      a : Along st (forced true waits (drop st.true_term (terms_of rows r)) m).marks
          × (contradicts (forced true waits (drop st.true_term (terms_of rows r)) m).step ≡ true → Broken rows s)
      a = force-along true st (drop st.true_term (terms_of rows r)) waits m h
          (λ t k x p e w. decide_follows rows s l u true k t.condition p.0
          (λ q. term-needed r t (is, mem_drop st.true_term (terms_of rows r) t x) (or-false (bit k.sure t.condition) (bit k.never t.condition) e)
          (≤ℤ_<ℤ_trans (subst (λ (z : ℤ). (possible_of rows (table_of k l u) r -ℤ z) ≤ℤ (st.possible -ℤ st.lower)) p.1.lower (sub_up p.1.possible (≤ℤ_refl st.lower)))
          (lt (nle-lt_z (st.possible -ℤ st.lower) (pos t.weight) w)))))

      by : (b : Bool) → Fine (cond b (ran st m Unchanged) (ran (with_terms st (st.true_term + (forced true waits (drop st.true_term (terms_of rows r)) m).passed) st.false_term)
          (forced true waits (drop st.true_term (terms_of rows r)) m).marks (forced true waits (drop st.true_term (terms_of rows r)) m).step))
      by true = (h, λ c. absurd (unequal cc))
      by false = ((a.0.0, inside_terms st _ _ _ a.0.1, a.0.2), a.1)

  pub false_fine : (st : State) (m : Marks) → Along st m → Fine (false_terms (terms_of rows r) st m)
  unfolding false_terms
  false_fine st m h = by st.upper refl
    where
      by : (x : Option ℤ) → st.upper ≡ x
          → Fine (cond (limited x)
          (ran (with_terms st st.true_term (st.false_term + (forced false (λ (w : ℕ). lt_z (pos w) (limit x -ℤ st.known)) (drop st.false_term (terms_of rows r)) m).passed))
          (forced false (λ (w : ℕ). lt_z (pos w) (limit x -ℤ st.known)) (drop st.false_term (terms_of rows r)) m).marks
          (forced false (λ (w : ℕ). lt_z (pos w) (limit x -ℤ st.known)) (drop st.false_term (terms_of rows r)) m).step)
          (ran st m Unchanged))
      by None e = (h, λ c. absurd (unequal cc))
      by (Some b) e =
          let a = force-along false st (drop st.false_term (terms_of rows r)) (λ (w : ℕ). lt_z (pos w) (b -ℤ st.known)) m h
          (λ t k x p d w. decide_follows rows s l u false k t.condition p.0
          (λ q. term-too-heavy r t b (is, mem_drop st.false_term (terms_of rows r) t x) (or-false (bit k.sure t.condition) (bit k.never t.condition) d)
          (sym p.1.upper ∙ e) (≤ℤ_trans (sub_up (≤ℤ_refl b) p.1.known) (le (nlt-le_z (pos t.weight) (b -ℤ st.known) w))))) in
          ((a.0.0, inside_terms st _ _ _ a.0.1, a.0.2), a.1)

  pub guards_fine : (gs : List Guard) → Each StandsFor gs → (st : State) (m : Marks) → Along st m → Fine (threshold_guards gs st m)
  unfolding threshold_guards
  guards_fine gs are st m h = by (contradicts a.step) refl
    where
      a : Scanned
      a = sure_guards gs st m

      f : Along st a.marks × (contradicts a.step ≡ true → Broken rows s)
      f = sure-along gs are st m h

      up : State
      up = with_guards st (st.sure_guard + a.passed) st.never_guard

      by : (b : Bool) → contradicts a.step ≡ b
          → Fine (elim b [
            | true ↦ ran up a.marks Contradiction
            | false ↦ ran (with_guards up up.sure_guard (st.never_guard - (never_guards gs st a.marks a.step).passed)) (never_guards gs st a.marks a.step).marks (never_guards gs st a.marks a.step).step
          ])
      by true e = ((f.0.0, inside_guards st _ _ _ f.0.1, f.0.2), λ c. f.1 e)
      by false e =
          let n = never-along gs are st a.marks a.step f.0 e in
          ((n.0.0, inside_guards up _ _ _ (inside_guards st _ _ _ n.0.1), n.0.2), n.1)

  -- A ROW RUN ONCE
  pub row_fine : (raw : List Term) (gs : List Guard) → Each StandsFor gs → (st : State) (m : Marks) → Along st m → Fine (threshold_row (row_of raw (terms_of rows r) gs) st m)
  unfolding conflict
  row_fine raw gs are st m h =
      run_ends row st m Fine (λ e. (h, λ x. (table_of m l u, h.0, broken e))) (λ e. fa) (λ e f. fb)
      (λ e f. (fc.0, λ x. fc.1 (joined_which (joined a.step b.step) c.step (joined_fine a.step b.step e f) x)))
    where
      row : Row
      row = row_of raw (terms_of rows r) gs

      a : Ran
      a = guards_run row st m

      b : Ran
      b = true_run row st m

      c : Ran
      c = false_run row st m

      fa : Fine a
      fa = guards_fine gs are st m h

      fb : Fine b
      fb = true_fine a.state a.marks fa.0

      fc : Fine c
      fc = false_fine b.state b.marks fb.0

      broken : conflict st ≡ true → Conflict rows (table_of m l u)
      broken e =
          ⊎_elim
          (λ (x : lt_z st.possible st.lower ≡ true). lower-above r is (≤ℤ_<ℤ_trans h.1.possible (subst (λ (z : ℤ). st.possible <ℤ z) h.1.lower (lt x))))
          (λ (x : upper_at_most st.upper (reached st) ≡ true).
          upper-reached r is (T-up (subst (λ (y : Option ℤ). AtMost y (reached st)) h.1.upper (at_most st.upper (reached st) x))))
          (or-true (lt_z st.possible st.lower) (upper_at_most st.upper (reached st)) e)
        where
          T-up : AtMost (u r) (reached st) → AtMost (u r) (reached_of rows (table_of m l u) r)
          T-up x = at-most_up (u r) (u r) (up_refl (u r)) (reached-inside st m h.1) x
