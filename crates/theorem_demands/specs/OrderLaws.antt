-- DEMAND 3, its last claim: order does not matter. A file without siftings that ends in a settling stands by the table from its marks;
-- the table knows only the set of them. Where one file contradicted, a conflict follows from its marks so far, hence from all.
use Rattle.std.specs.Prelude.{ℕ, ◌<◌, ◌≡◌, Bool, true, false, cond, ◌&&◌, ◌⊎◌, length, eqb, pos}
use Rattle.std.proofs.Common.{arith, sym, ap₂, ◌∙◌, inl, inr, ⊎_elim, eq-eqb, eqb-true}
use Rattle.std.proofs.Math.Path.{refl, ap, subst}
use mathlib.Core.List.Memᴰ
use mathlib.Core.List.{List, [], ◌∷◌, ◌++◌, map, map-append, Memᴰ}
use Rattle.std.specs.Int.Signed.{≤ℤ_refl}
use Rattle.base.specs.TestLaws.{or_left, or_right, same_bool, true-false, and_left, and_right, or-true, unequal}
use Rattle.numeric.specs.Threshold.{Job}
use Rattle.numeric.specs.Area.{job_of}
use Rattle.rows.specs.Rows.{Row, rows_of}
use Rattle.records.specs.declared.Record.{Record}
use Rattle.records.specs.declared.Record.TheVariants.{Settle}
use Rattle.records.specs.Facts.{Action, begins, decides, settles, sifts, action}
use Rattle.files.specs.File.{File, contradicted, begun, settled_file, act, apply, after, planned, Passed}
use Rattle.files.specs.FileLaws.{after_snoc}
use Rattle.theorem_limits.specs.FilesLaws.{both, taken as accepts, serving_turn, planned_passed}
use Rattle.theorem_table.specs.Table.{Table, known_of, possible_of}
use Rattle.theorem_table.proofs.TableLaws.{Le, follows_more}
use Rattle.theorem_follows.specs.DecideLaws.{Broken}
use Rattle.theorem_demands.specs.TableRecordsLaws.{keeps_begun, keeps_after}
use Rattle.theorem_demands.specs.TableStillLaws.{Still, not_broken, known_is, possible_is, one_table, settle_still}
use Rattle.theorem_demands.specs.Reading.{Marked, SameMarks, NoSift, marks, marked_node, marks_only, SameFigures, records, decoded, plain, plainly, plainly_all, Passes}
use Rattle.theorem_demands.specs.RefusalLaws.{taken}
use Rattle.theorem_demands.specs.SettleLaws.{passed_here, start_same}
use Rattle.theorem_demands.specs.MarksLaws.{marked_append, marks_same, marks-cases, marking}
use Rattle.theorem_demands.specs.ReadOnLaws.{Over, planned-over, level_same, level_after, draft_stays, plainly-append, passes_split}

-- ---- THE TABLE KNOWS ONLY THE SET OF MARKS

marked_mem : (b : Bool) (rs : List Record) (n : ℕ) → marked_node b rs n ≡ true → Marked rs n b
unfolding marked_node
marked_mem b [] n h = absurd (both h refl)
marked_mem b (r ∷ rs) n h =
    ⊎_elim (λ (e : marks b (action r) n ≡ true). Memᴰ.head (is (action r) e)) (λ e. Memᴰ.tail (marked_mem b rs n e)) (or-true (marks b (action r) n) (marked_node b rs n) h)
  where
    is : (a : Action) → marks b a n ≡ true → decides n (cond b 1 0) ≡ a
    is =
        marks-cases (λ (a : Action). marks b a n ≡ true → decides n (cond b 1 0) ≡ a)
        (λ m v e. sym (ap₂ decides (eqb-true m n (and_left (eqb m n) (eqb v (cond b 1 0)) e)) (eqb-true v (cond b 1 0) (and_right (eqb m n) (eqb v (cond b 1 0)) e))))
        (λ a none e. absurd (both e (none b n)))

mem_marked : (b : Bool) (rs : List Record) (n : ℕ) → Marked rs n b → marked_node b rs n ≡ true
unfolding marked_node
mem_marked b [] n m = absurd (Memᴰ.not-nil m)
mem_marked b (r ∷ rs) n m =
    ⊎_elim (λ (e : decides n (cond b 1 0) ≡ action r). or_left (marks b (action r) n) (marked_node b rs n) (sym (ap (λ (a : Action). marks b a n) e) ∙ itself))
    (λ k. or_right (marks b (action r) n) (marked_node b rs n) (mem_marked b rs n k)) (Memᴰ.cases_cons m)
  where
    itself : (eqb n n && eqb (cond b 1 0) (cond b 1 0)) ≡ true
    itself = ap₂ (λ (x y : Bool). x && y) (eq-eqb n n refl) (eq-eqb (cond b 1 0) (cond b 1 0) refl)

marks-set : (rs qs : List Record) → SameMarks rs qs → marks_only rs ≡ marks_only qs
marks-set rs qs s = start_same _ _ _ _ (same true) (same false)
  where
    same : (b : Bool) (n : ℕ) → marked_node b rs n ≡ marked_node b qs n
    same b n = same_bool (marked_node b rs n) (marked_node b qs n) (λ h. mem_marked b qs n ((s n b).0 (marked_mem b rs n h))) (λ h. mem_marked b rs n ((s n b).1 (marked_mem b qs n h)))

-- more marks: what broke stays broken
more_marks : (rows : List Row) (rs qs : List Record) → Broken rows (marks_only rs) → Broken rows (marks_only (rs ++ qs))
more_marks rows rs qs (t, f, c) = (t, follows_more rows (marks_only rs) (marks_only (rs ++ qs)) t up f, c)
  where
    up : Le (marks_only rs) (marks_only (rs ++ qs))
    up = record {
      sure = λ n e. marked_append true rs qs n ∙ or_left (marked_node true rs n) (marked_node true qs n) e;
      never = λ n e. marked_append false rs qs n ∙ or_left (marked_node false rs n) (marked_node false qs n) e;
      lower = λ r. ≤ℤ_refl (pos 0);
      upper = λ r. tt;
    }

-- ---- TWO ENDS OF ONE START

-- It is sealed and rests where the table from a start does.
abbrev Rested : File → Job → Table → Type 0
Rested f j s = (f.sealed ≡ true) × (f.closed ≡ j) × Still j s f.live

same_figures : (j : Job) (s : Table) (f g : File) → Rested f j s → Rested g j s → SameFigures f g
same_figures j s f g (a, e, h) (b, i, k) =
    let q = one_table j s f.live g.live h k in
    let is : (r : ℕ) → r < length (rows_of f.closed) → r < length (rows_of j) = λ r i. subst (λ (y : Job). r < length (rows_of y)) e i in
    record {
      sealed = a ∙ sym b;
      closed = e ∙ sym i;
      sure = λ n. ap (λ (t : Table). t.sure n) q;
      never = λ n. ap (λ (t : Table). t.never n) q;
      known = λ r i. known_is j s f.live h r (is r i) ∙ ap (λ (t : Table). known_of (rows_of j) t r) q ∙ sym (known_is j s g.live k r (is r i));
      possible = λ r i. possible_is j s f.live h r (is r i) ∙ ap (λ (t : Table). possible_of (rows_of j) t r) q ∙ sym (possible_is j s g.live k r (is r i));
      lower = λ r i. ap (λ (t : Table). t.lower r) q;
      upper = λ r i. ap (λ (t : Table). t.upper r) q;
    }

-- ---- ONE FILE

-- It contradicted and a conflict follows from all its marks, or it rests where the table from them does.
abbrev Side : File → Job → Table → Type 0
Side f j s = ((contradicted f ≡ true) × Broken (rows_of j) s) ⊎ Rested f j s

module _ (rs : List Record) (passes : Passes begun (rs ++ (Settle ∷ []))) (unsifted : NoSift rs) where
  abbrev all : List Record
  all = rs ++ (Settle ∷ [])

  abbrev job : Job
  job = job_of (plainly_all begun rs).draft

  no-sift : NoSift all
  no-sift m =
      ⊎_elim (λ (k : Memᴰ sifts (map action rs)). unsifted k) (λ (k : Memᴰ sifts (settles ∷ [])). let e = Memᴰ.eq_of_singleton k in unequal cc)
      (Memᴰ.append_cases (map action rs) (subst (Memᴰ sifts) (map-append action rs (Settle ∷ [])) m))

  all-marks : marks_only all ≡ marks_only rs
  all-marks = sym (marks_same rs Settle (λ b n. refl))

  -- the last settle leaves the job
  last-job : job_of (plainly_all begun all).draft ≡ job
  unfolding plainly_all plainly plain
  last-job = ap (λ (f : File). job_of f.draft) (plainly-append begun rs (Settle ∷ []))

  -- A RECORD CONTRADICTED
  broke : (p rest : List Record) → all ≡ p ++ rest → Passed begun p → contradicted (after begun p) ≡ true → Broken (rows_of job) (marks_only rs)
  broke p rest e h c =
      let f = after begun p in
      let k = keeps_after begun p keeps_begun h in
      let s = k.late c in
      let m = marking p h (λ i. no-sift (subst (λ (l : List Record). Memᴰ sifts (map action l)) (sym e) (subst (Memᴰ sifts) (sym (map-append action p rest)) (Memᴰ.append_left (map action rest) i)))) in
      let a = passes_split begun p rest (subst (Passes begun) e passes) in
      let l = level_after begun begun p (level_same begun) a.0 in
      let started : f.started ≡ true = ⊎_elim (λ (o : f.started ≡ true). o) (λ (o : f.started ≡ false). absurd (both s (k.good.unstarted o))) (true-false f.started) in
      let q : f.closed ≡ job =
      k.good.same s ∙ ap job_of l.draft ∙ ap job_of (sym (draft_stays (plainly_all begun p) rest (sym l.started ∙ started) (sym l.sealed ∙ s) a.1))
      ∙ ap (λ (y : File). job_of y.draft) (sym (plainly-append begun p rest)) ∙ ap (λ (y : List Record). job_of (plainly_all begun y).draft) (sym e) ∙ last-job in
      subst (Broken (rows_of job)) (ap marks_only (sym e) ∙ all-marks) (more_marks (rows_of job) p rest (subst (λ (y : Job). Broken (rows_of y) (marks_only p)) q (m.breaks c)))

  -- NONE DID
  stayed : Passed begun all → contradicted (after begun all) ≡ false → Rested (after begun all) job (marks_only rs)
  unfolding apply act settled_file
  stayed h c =
      let f = after begun rs in
      let b = passed_here begun rs Settle [] h in
      let e = after_snoc begun rs Settle in
      let k = keeps_after begun rs keeps_begun b.0 in
      let q : f.closed ≡ job = k.good.same (serving_turn f (accepts f Settle b.1).turn) ∙ ap job_of (level_after begun begun rs (level_same begun) (passes_split begun rs (Settle ∷ []) passes).0).draft in
      subst (λ (y : File). Rested y job (marks_only rs)) (sym e) (
        refl,
        q,
        subst (λ (y : Job). Still y (marks_only rs) (apply f Settle).live) q
            (settle_still f k b.1 (marks_only rs) (marking rs b.0 unsifted).from (ap (λ (y : File). contradicted y) (sym e) ∙ c)),
      )

  side : (x : List ℕ) → decoded x ≡ records all → ((planned x).refused ≡ 0) ⊎ ((planned x).refused ≡ 9) → Side (planned x).file job (marks_only rs)
  side x d r = subst (λ (f : File). Side f job (marks_only rs)) (sym is) (by (true-false (contradicted (after begun p))) r)
    where
      p : List Record
      p = (planned x).records

      is : (planned x).file ≡ after begun p
      is = taken x

      o : Over all (planned x)
      o = planned-over x all d (λ e. ⊎_elim (λ (k : (planned x).refused ≡ 0). absurd (omega arith)) (λ (k : (planned x).refused ≡ 9). absurd (omega arith)) r)

      by : (contradicted (after begun p) ≡ true) ⊎ (contradicted (after begun p) ≡ false) → ((planned x).refused ≡ 0) ⊎ ((planned x).refused ≡ 9) → Side (after begun p) job (marks_only rs)
      by (inl c) z = inl (c, broke p o.rest o.begins (planned_passed x) c)
      by (inr c) (inr z) = absurd (both (ap (λ (f : File). contradicted f) (sym is) ∙ o.broken z) c)
      by (inr c) (inl z) =
          let e = o.accepted z in
          inr (subst (λ (l : List Record). Rested (after begun l) job (marks_only rs)) e
          (stayed (subst (Passed begun) (sym e) (planned_passed x)) (ap (λ (l : List Record). contradicted (after begun l)) e ∙ c)))

-- ---- THE CLAIM
pub order_does_not_matter : (x y : List ℕ) (rs qs : List Record)
    → decoded x ≡ records (rs ++ (Settle ∷ [])) → decoded y ≡ records (qs ++ (Settle ∷ []))
    → Passes begun (rs ++ (Settle ∷ [])) → Passes begun (qs ++ (Settle ∷ []))
    → ((planned x).refused ≡ 0) ⊎ ((planned x).refused ≡ 9) → ((planned y).refused ≡ 0) ⊎ ((planned y).refused ≡ 9)
    → job_of (plainly_all begun rs).draft ≡ job_of (plainly_all begun qs).draft → SameMarks rs qs → NoSift rs → NoSift qs
    → ((contradicted (planned x).file ≡ true) × (contradicted (planned y).file ≡ true)) ⊎ SameFigures (planned x).file (planned y).file
order_does_not_matter x y rs qs d g p q u w e m a b = by (side rs p a x d u) there
  where
    j : Job
    j = job_of (plainly_all begun rs).draft

    s : Table
    s = marks_only rs

    f : File
    f = (planned x).file

    h : File
    h = (planned y).file

    there : Side h j s
    there =
        subst (λ (z : Job). Side h z s) (sym e) (subst (λ (t : Table). Side h (job_of (plainly_all begun qs).draft) t) (sym (marks-set rs qs m)) (side qs q b y g w))

    by : Side f j s → Side h j s → ((contradicted f ≡ true) × (contradicted h ≡ true)) ⊎ SameFigures f h
    by (inl k) (inl l) = inl (k.0, l.0)
    by (inl k) (inr l) = absurd (not_broken j s h.live l.2 k.1)
    by (inr k) (inl l) = absurd (not_broken j s f.live k.2 l.1)
    by (inr k) (inr l) = inr (same_figures j s f h k l)
