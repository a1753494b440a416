-- DEMANDS 2 AND 3 OF THE CALL: the words that it leaves say what the file's masks and row states say.
use Rattle.std.specs.Prelude.{ℕ, zero, suc, ◌+◌, ◌-◌, ◌/◌, ◌%◌, ◌≤◌, ◌<◌, ◌≡◌, Bool, true, false, cond, ◌⊎◌, ◌≢◌, length, drop, eqb, ℤ, Option}
use Rattle.std.proofs.Math.Decide.{dec_lt}
use Rattle.std.proofs.Common.{not-suc-le-zero, le_of_suc-le-suc, arith, sym, ◌∙◌, subst, inl, inr, ⊎_elim, get_or-append-add, get_or-drop}
use Rattle.std.proofs.Math.Path.{refl, ap}
use mathlib.Core.List.{List, [], ◌∷◌, ◌++◌, map}
use Rattle.std.proofs.Math.ListN.{get_or, get_or-append, get_or-eq_default}
use Rattle.std.proofs.lemmas.List.{length-map}
use Rattle.base.specs.TestLaws.{true-false}
use Rattle.state.specs.StepLaws.{contradiction_is}
use Rattle.base.specs.Laid.{over}
use Rattle.numeric.specs.Layout.{Layout, IsLayout}
use Rattle.numeric.specs.Area.{job_of}
use Rattle.state.specs.declared.Step.{Step}
use Rattle.state.specs.declared.Step.TheVariants.{Unchanged, Changed, Contradiction}
use Rattle.state.specs.declared.State.{State}
use Rattle.state.specs.Step.{contradicts}
use Rattle.state.specs.State.{no_state, limit, limited, figures_of, cursors_of}
use Rattle.words.specs.Mask.{bit, digit}
use Rattle.rows.specs.Rows.{Row, rows_of}
use Rattle.memory.specs.Buffers.{Work, fits, zeros, cleared, clear_kept}
use Rattle.records.specs.declared.Record.{Record}
use Rattle.records.specs.declared.Record.TheVariants.{Seal, Mark, Settle}
use Rattle.files.specs.File.{File, contradicted, begun, settled_file, act, apply, after, planned}
use Rattle.files.specs.FileLaws.{after_snoc}
use Rattle.files.specs.Contents.{Out, served, whole, laid, kept_of}
use Rattle.theorem_table.specs.Table.{Table, ReachesConflict}
use Rattle.theorem_limits.specs.BuiltLaws.{rows_few}
use Rattle.theorem_limits.specs.FilesLaws.{both}
use Rattle.theorem_demands.specs.Reading.{Agrees, SameMarks, NoSift, decided_in, decided_and, marks_only, SameEnd, SameFigures, records, decoded, plainly_all, Passes}
use Rattle.theorem_demands.specs.Demands.{ExactlyTheTable, SaysTable, SaysSame, CallIsTheTable}
use Rattle.theorem_demands.specs.RefusalLaws.{taken, good, untouched_when, files}
use Rattle.theorem_demands.specs.ForcedLaws as Forced
use Rattle.theorem_demands.specs.SettleLaws as Settles
use Rattle.theorem_demands.specs.MarksLaws as Marks
use Rattle.theorem_demands.specs.OrderLaws as Order

-- ---- lists laid into cleared buffers

zeros-at : {X : Type 0} (z : X) (b : List X) (i : ℕ) → get_or (zeros z b) i z ≡ z
unfolding zeros
zeros-at z [] i = refl
zeros-at z (x ∷ b) zero = refl
zeros-at z (x ∷ b) (suc i) = zeros-at z b i

over_zeros : (l b : List ℕ) (i : ℕ) → get_or (over l (zeros 0 b)) i 0 ≡ get_or l i 0
over_zeros l b i = by (dec_lt i (length l))
  where
    by : Dec (i < length l) → get_or (over l (zeros 0 b)) i 0 ≡ get_or l i 0
    by (yes h) = get_or-append l (drop (length l) (zeros 0 b)) 0 i h
    by (no h) =
        let k : length l ≤ i = omega arith in
        let e : length l + (i - length l) ≡ i = omega arith in
        ap (λ (n : ℕ). get_or (over l (zeros 0 b)) n 0) (sym e)
        ∙ get_or-append-add l (drop (length l) (zeros 0 b)) (i - length l) 0 ∙ get_or-drop (length l) (zeros 0 b) (i - length l) 0
        ∙ zeros-at 0 b (length l + (i - length l)) ∙ sym (get_or-eq_default l 0 k)

over-bit : (l b : List ℕ) (n : ℕ) → bit (over l (zeros 0 b)) n ≡ bit l n
over-bit l b n = ap (λ (w : ℕ). eqb (digit w (n % 64)) 1) (over_zeros l b (n / 64))

map_at : {X Y : Type 0} (f : X → Y) (xs : List X) (i : ℕ) (x : X) (y : Y) → i < length xs → get_or (map f xs) i y ≡ f (get_or xs i x)
map_at f [] i x y h = absurd (not-suc-le-zero h)
map_at f (z ∷ xs) zero x y h = refl
map_at f (z ∷ xs) (suc i) x y h = map_at f xs i x y (le_of_suc-le-suc h)

pub over-map : {X Y : Type 0} (f : X → Y) (xs : List X) (b : List Y) (i : ℕ) (x : X) (y : Y) → i < length xs → get_or (over (map f xs) b) i y ≡ f (get_or xs i x)
over-map f xs b i x y h =
    get_or-append (map f xs) (drop (length (map f xs)) b) y i (let e = length-map xs f in omega arith) ∙ map_at f xs i x y h

-- ---- what the call leaves of a file

module _ (input : List ℕ) (w : Work) (fit : fits input w ≡ true) where
  abbrev o : Out
  o = whole input w

  abbrev f : File
  f = (planned input).file

  gives : o ≡ served (planned input) w
  gives = files input w fit

  pub last_is : o.given.last ≡ f.last
  last_is = ap (λ (y : Out). y.given.last) gives

  pub sure_is : (n : ℕ) → bit o.work.kept.sure n ≡ bit f.live.marks.sure n
  unfolding laid cleared clear_kept kept_of
  sure_is n = ap (λ (y : Out). bit y.work.kept.sure n) gives ∙ over-bit f.live.marks.sure w.kept.sure n

  pub never_is : (n : ℕ) → bit o.work.kept.never n ≡ bit f.live.marks.never n
  unfolding laid cleared clear_kept kept_of
  never_is n = ap (λ (y : Out). bit y.work.kept.never n) gives ∙ over-bit f.live.marks.never w.kept.never n

  pub figures_are : (r : ℕ) → r < length f.live.states → get_or o.work.kept.figures r [] ≡ figures_of (get_or f.live.states r no_state)
  unfolding laid cleared clear_kept kept_of
  figures_are r h = ap (λ (y : Out). get_or y.work.kept.figures r []) gives ∙ over-map figures_of f.live.states _ r no_state [] h

  pub flag_is : (r : ℕ) → r < length f.live.states → get_or (get_or o.work.kept.cursors r []) 4 0 ≡ cond (limited (get_or f.live.states r no_state).upper) 1 0
  unfolding laid cleared clear_kept kept_of
  flag_is r h =
      ap (λ (y : Out). get_or (get_or y.work.kept.cursors r []) 4 0) gives
      ∙ ap (λ (l : List ℕ). get_or l 4 0) (over-map cursors_of f.live.states _ r no_state [] h)

  pub rows_are : o.given.rows ≡ cond f.sealed (length (rows_of f.closed)) 0
  rows_are = ap (λ (y : Out). y.given.rows) gives

  -- every row has a state
  pub row_held : (r : ℕ) → r < o.given.rows → (r < length (rows_of f.closed)) × (r < length f.live.states)
  row_held r h = by f.sealed (subst (λ (n : ℕ). r < n) rows_are h)
    where
      by : (b : Bool) → r < cond b (length (rows_of f.closed)) 0 → (r < length (rows_of f.closed)) × (r < length f.live.states)
      by true k = (k, omega (arith, rows_few f.closed (good input).closed, (good input).live.long))
      by false k = absurd (not-suc-le-zero k)

-- ---- a step that contradicts

is_step : (k : Step) → k ≡ Contradiction → contradicts k ≡ true
is_step k e = ap contradicts e

step_not : (k : Step) → k ≢ Contradiction → contradicts k ≡ false
step_not Unchanged h = refl
step_not Changed h = refl
step_not Contradiction h = absurd (h refl)

-- where the call contradicts, its memory fits and the file contradicted
broke : (input : List ℕ) (w : Work) → (whole input w).given.last ≡ Contradiction → contradicted (planned input).file ≡ true
broke input w e =
    ⊎_elim (λ (h : fits input w ≡ true). is_step (planned input).file.last (sym (last_is input w h) ∙ e))
    (λ (h : fits input w ≡ false). absurd (let q : Unchanged ≡ Contradiction = sym (ap (λ (y : Out). y.given.last) (untouched_when input w h)) ∙ e in both refl (ap contradicts (sym q))))
    (true-false (fits input w))

-- ---- DEMAND 2

module _ (input : List ℕ) (w : Work) where
  pub forced_sure : fits input w ≡ true → (v : Layout) → IsLayout (planned input).file.closed v → Agrees (planned input).records v
      → (n : ℕ) → bit (whole input w).work.kept.sure n ≡ true → v n ≡ true
  forced_sure h v is a n e = Forced.forced_sure input v is a n (sym (sure_is input w h n) ∙ e)

  pub forced_never : fits input w ≡ true → (v : Layout) → IsLayout (planned input).file.closed v → Agrees (planned input).records v
      → (n : ℕ) → bit (whole input w).work.kept.never n ≡ true → v n ≡ false
  forced_never h v is a n e = Forced.forced_never input v is a n (sym (never_is input w h n) ∙ e)

  pub no_layout : (whole input w).given.last ≡ Contradiction → (v : Layout) → IsLayout (planned input).file.closed v → Agrees (planned input).records v → ⊥
  no_layout e v is a = Forced.no_layout input (broke input w e) v is a

-- ---- DEMAND 3

-- what the records left, the last of them apart
ended_in : (input : List ℕ) (before : List Record) (r : Record) → (planned input).records ≡ before ++ (r ∷ []) → (planned input).file ≡ apply (after begun before) r
ended_in input before r e = taken input ∙ ap (after begun) e ∙ after_snoc begun before r

module _ (input : List ℕ) (w : Work) (before : List Record) where
  pub seals : (planned input).records ≡ before ++ (Seal ∷ []) → (whole input w).given.last ≡ Contradiction
      → let f = after begun before in ReachesConflict (rows_of (job_of f.draft)) (decided_in f)
  seals e c = Settles.seals input before [] e (ap (λ (f : File). contradicted f) (sym (ended_in input before Seal e)) ∙ broke input w c)

  pub marks : (n v : ℕ) → (planned input).records ≡ before ++ (Mark n v ∷ []) → (whole input w).given.last ≡ Contradiction
      → let f = after begun before in ReachesConflict (rows_of f.closed) (decided_and f n (eqb v 1))
  marks n v e c = Settles.marks input before [] n v e (ap (λ (f : File). contradicted f) (sym (ended_in input before (Mark n v) e)) ∙ broke input w c)

-- the words of a call whose file ends as the table does
says : (input : List ℕ) (w : Work) → fits input w ≡ true → (planned input).file.sealed ≡ true → (t : Table) → SameEnd (planned input).file t
    → SaysTable (whole input w) (rows_of (planned input).file.closed) t
says input w h e t s = record {
  many = rows_are input w h ∙ ap (λ (b : Bool). cond b (length (rows_of (planned input).file.closed)) 0) e;
  sure = λ n. sure_is input w h n ∙ s.sure n;
  never = λ n. never_is input w h n ∙ s.never n;
  row = λ r k.
      let i = row_held input w h r k in record {
        figures = figures_are input w h r i.1
            ∙ figures-by (get_or (planned input).file.live.states r no_state) _ _ _ _ (s.known r i.0) (s.possible r i.0) (s.lower r i.0) (s.upper r i.0);
        flag = flag_is input w h r i.1 ∙ ap (λ (u : Option ℤ). cond (limited u) 1 0) (s.upper r i.0);
      };
}
  where
    figures-by : (st : State) (a b c : ℤ) (u : Option ℤ) → st.known ≡ a → st.possible ≡ b → st.lower ≡ c → st.upper ≡ u → figures_of st ≡ a ∷ b ∷ c ∷ limit u ∷ []
    figures-by st a b c u p q r k = λ i. p i ∷ q i ∷ r i ∷ limit (k i) ∷ []

-- a settling that is exactly the table
exactly : (input : List ℕ) (w : Work) → fits input w ≡ true → (g : File) → (planned input).file ≡ g → g.sealed ≡ true → (rows : List Row) → rows_of g.closed ≡ rows
    → (s : Table) → ExactlyTheTable rows s g → CallIsTheTable rows s (whole input w)
exactly input w h g e k rows q s x = record {
  contradicts = λ c. x.contradicts (ap (λ (f : File). contradicted f) (sym e) ∙ broke input w c);
  only_then = λ r. last_is input w h ∙ ap (λ (f : File). f.last) e ∙ contradiction_is g.last (x.only_then r);
  every_end = λ c t n.
      let a = x.every_end (step_not g.last (λ z. c (last_is input w h ∙ ap (λ (f : File). f.last) e ∙ z))) t n in
      (a.0, subst (λ (l : List Row). SaysTable (whole input w) l t) (ap (λ (f : File). rows_of f.closed) e ∙ q) (says input w h (ap (λ (f : File). f.sealed) e ∙ k) t (subst (λ (f : File). SameEnd f t) (sym e) a.1)));
}

module _ (input : List ℕ) (w : Work) (h : fits input w ≡ true) (before : List Record) (e : (planned input).records ≡ before ++ (Settle ∷ [])) where
  closed_same : rows_of (apply (after begun before) Settle).closed ≡ rows_of (after begun before).closed
  unfolding apply act settled_file
  closed_same = refl

  sealed-then : (apply (after begun before) Settle).sealed ≡ true
  unfolding apply act settled_file
  sealed-then = refl

  pub settles : let f = after begun before in CallIsTheTable (rows_of f.closed) (decided_in f) (whole input w)
  settles = exactly input w h (apply (after begun before) Settle) (ended_in input before Settle e) sealed-then _ closed_same _ (Settles.settles input before [] e)

  pub settles_from_marks : NoSift before → let f = after begun before in CallIsTheTable (rows_of f.closed) (marks_only before) (whole input w)
  settles_from_marks u = exactly input w h (apply (after begun before) Settle) (ended_in input before Settle e) sealed-then _ closed_same _ (Marks.settles_from_marks input before [] e u)

-- ---- ORDER

same_words : (x y : List ℕ) (v w : Work) → fits x v ≡ true → fits y w ≡ true → SameFigures (planned x).file (planned y).file → SaysSame (whole x v) (whole y w)
same_words x y v w h k s = record {
  sure = λ n. sure_is x v h n ∙ s.sure n ∙ sym (sure_is y w k n);
  never = λ n. never_is x v h n ∙ s.never n ∙ sym (never_is y w k n);
  rows = rows;
  figures = λ r i.
      let a = row_held x v h r i in
      let b = row_held y w k r (subst (λ (n : ℕ). r < n) rows i) in
      figures_are x v h r a.1
      ∙ figures-same (get_or f.live.states r no_state) (get_or g.live.states r no_state) (s.known r a.0) (s.possible r a.0) (s.lower r a.0) (s.upper r a.0)
      ∙ sym (figures_are y w k r b.1);
  flags = λ r i.
      let a = row_held x v h r i in
      let b = row_held y w k r (subst (λ (n : ℕ). r < n) rows i) in
      flag_is x v h r a.1 ∙ ap (λ (u : Option ℤ). cond (limited u) 1 0) (s.upper r a.0) ∙ sym (flag_is y w k r b.1);
}
  where
    f : File
    f = (planned x).file

    g : File
    g = (planned y).file

    rows : (whole x v).given.rows ≡ (whole y w).given.rows
    rows = rows_are x v h ∙ (λ i. cond (s.sealed i) (length (rows_of (s.closed i))) 0) ∙ sym (rows_are y w k)

    figures-same : (a b : State) → a.known ≡ b.known → a.possible ≡ b.possible → a.lower ≡ b.lower → a.upper ≡ b.upper → figures_of a ≡ figures_of b
    figures-same a b p q r u = λ i. p i ∷ q i ∷ r i ∷ limit (u i) ∷ []

pub order_does_not_matter : (x y : List ℕ) (v w : Work) → fits x v ≡ true → fits y w ≡ true → (rs qs : List Record)
    → decoded x ≡ records (rs ++ (Settle ∷ [])) → decoded y ≡ records (qs ++ (Settle ∷ []))
    → Passes begun (rs ++ (Settle ∷ [])) → Passes begun (qs ++ (Settle ∷ []))
    → ((whole x v).given.refused ≡ 0) ⊎ ((whole x v).given.refused ≡ 9) → ((whole y w).given.refused ≡ 0) ⊎ ((whole y w).given.refused ≡ 9)
    → job_of (plainly_all begun rs).draft ≡ job_of (plainly_all begun qs).draft → SameMarks rs qs → NoSift rs → NoSift qs
    → (((whole x v).given.last ≡ Contradiction) × ((whole y w).given.last ≡ Contradiction)) ⊎ SaysSame (whole x v) (whole y w)
order_does_not_matter x y v w h k rs qs d g p q a b j m u n =
    ⊎_elim
    (λ (c : (contradicted (planned x).file ≡ true) × (contradicted (planned y).file ≡ true)). inl (last_is x v h ∙ contradiction_is (planned x).file.last c.0, last_is y w k ∙ contradiction_is (planned y).file.last c.1))
    (λ (s : SameFigures (planned x).file (planned y).file). inr (same_words x y v w h k s))
    (Order.order_does_not_matter x y rs qs d g p q (refusal_is x v h a) (refusal_is y w k b) j m u n)
  where
    refusal_is : (i : List ℕ) (z : Work) → fits i z ≡ true → ((whole i z).given.refused ≡ 0) ⊎ ((whole i z).given.refused ≡ 9) → ((planned i).refused ≡ 0) ⊎ ((planned i).refused ≡ 9)
    refusal_is i z e r = subst (λ (n : ℕ). (n ≡ 0) ⊎ (n ≡ 9)) (ap (λ (y : Out). y.given.refused) (files i z e)) r
