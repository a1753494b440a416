-- DEMAND 3, from the marks alone: with no sifting, what a file decided stands by the rules from its marks, and a settling is exactly
-- the table from them.
use Rattle.std.specs.Prelude.{ℕ, ◌+◌, ◌≡◌, Bool, true, false, cond, ◌||◌, ◌&&◌, List, [], ◌∷◌, ◌++◌, eqb, ltb}
use Rattle.std.proofs.Math.Decide.{ℕ_discrete}
use Rattle.std.proofs.Common.{arith, ◌∙◌, append_assoc, append-nil, eq-eqb, ne_eqb, ltb-false}
use Rattle.std.proofs.Math.Path.{refl, sym, ap, ap₂, subst}
use Rattle.std.proofs.Math.Bool as B
use mathlib.Core.List.Memᴰ
use Rattle.words.specs.Mask.{bit}
use Rattle.queues.specs.Marks.{mask}
use Rattle.rows.specs.Rows.{rows_of}
use Rattle.row_moves.specs.Between.{Live}
use Rattle.theorem_table.specs.Table.{Table}
use Rattle.records.specs.declared.Record.{Record}
use Rattle.records.specs.declared.Record.TheVariants.{Settle}
use Rattle.records.specs.Facts.{Action, begins, changes, closes, decides, settles, sifts, idles, action, facts}
use Rattle.files.specs.File.{File, contradicted, begun, sealed_file, marked_file, settled_file, act, apply, after, planned, Passed}
use Rattle.theorem_limits.specs.BlankLaws.{blank-begun}
use Rattle.theorem_limits.specs.FilesLaws.{both, Taken, taken, building_turn, change_turn}
use Rattle.theorem_follows.specs.DecideLaws.{decide_as}
use Rattle.theorem_demands.specs.TableSealsLaws.{own_start}
use Rattle.theorem_demands.specs.TableRecordsLaws.{From, Breaks, Keeps, keeps_begun, keeps_apply, seal_from, mark_from, settle_from}
use Rattle.theorem_demands.specs.Reading.{NoSift, marks, marked_node, marks_only}
use Rattle.theorem_demands.specs.Demands.{ExactlyTheTable}
use Rattle.theorem_demands.specs.SettleLaws.{start_same, Ending, exactly, stood}

-- ---- marked nodes

or_assoc : (a b c : Bool) → ((a || b) || c) ≡ (a || (b || c))
or_assoc true b c = refl
or_assoc false b c = refl

pub marked_append : (b : Bool) (rs qs : List Record) (n : ℕ) → marked_node b (rs ++ qs) n ≡ (marked_node b rs n || marked_node b qs n)
unfolding marked_node
marked_append b [] qs n = refl
marked_append b (r ∷ rs) qs n =
    ap (λ (y : Bool). marks b (action r) n || y) (marked_append b rs qs n) ∙ sym (or_assoc (marks b (action r) n) (marked_node b rs n) (marked_node b qs n))

-- a record that is no mark adds none
pub marked_same : (b : Bool) (rs : List Record) (r : Record) (n : ℕ) → marks b (action r) n ≡ false → marked_node b (rs ++ (r ∷ [])) n ≡ marked_node b rs n
unfolding marked_node
marked_same b rs r n h =
    marked_append b rs (r ∷ []) n ∙ ap (λ (y : Bool). marked_node b rs n || (y || false)) h ∙ B.or-false (marked_node b rs n)

pub marks_same : (rs : List Record) (r : Record) → ((b : Bool) (n : ℕ) → marks b (action r) n ≡ false) → marks_only rs ≡ marks_only (rs ++ (r ∷ []))
marks_same rs r h = start_same _ _ _ _ (λ n. sym (marked_same true rs r n (h true n))) (λ n. sym (marked_same false rs r n (h false n)))

eqb-turned : (m n : ℕ) → eqb m n ≡ eqb n m
eqb-turned m n = by (ℕ_discrete m n)
  where
    by : Dec (m ≡ n) → eqb m n ≡ eqb n m
    by (yes e) = eq-eqb m n e ∙ sym (eq-eqb n m (sym e))
    by (no e) = ne_eqb m n e ∙ sym (ne_eqb n m (λ q. e (sym q)))

-- a mark adds its node to those of its value
put_in : (x y : Bool) → cond x true y ≡ (y || ((x && true) || false))
put_in true true = refl
put_in true false = refl
put_in false true = refl
put_in false false = refl

put-out : (x y : Bool) → y ≡ (y || ((x && false) || false))
put-out true true = refl
put-out true false = refl
put-out false true = refl
put-out false false = refl

module _ (rs : List Record) (r : Record) (n v : ℕ) (is : action r ≡ decides n v) where
  one-marked : (b : Bool) (m : ℕ) → marks b (action r) m ≡ (eqb n m && eqb v (cond b 1 0))
  one-marked b m = ap (λ (a : Action). marks b a m) is

  added : (b : Bool) → eqb v (cond b 1 0) ≡ true → (m : ℕ) → cond (eqb m n) true (marked_node b rs m) ≡ marked_node b (rs ++ (r ∷ [])) m
  unfolding marked_node
  added b e m =
      put_in (eqb m n) (marked_node b rs m) ∙ ap₂ (λ (x y : Bool). marked_node b rs m || ((x && y) || false)) (eqb-turned m n) (sym e)
      ∙ ap (λ (y : Bool). marked_node b rs m || (y || false)) (sym (one-marked b m)) ∙ sym (marked_append b rs (r ∷ []) m)

  others : (b : Bool) → eqb v (cond b 1 0) ≡ false → (m : ℕ) → marked_node b rs m ≡ marked_node b (rs ++ (r ∷ [])) m
  unfolding marked_node
  others b e m =
      put-out (eqb n m) (marked_node b rs m) ∙ ap (λ (y : Bool). marked_node b rs m || ((eqb n m && y) || false)) (sym e)
      ∙ ap (λ (y : Bool). marked_node b rs m || (y || false)) (sym (one-marked b m)) ∙ sym (marked_append b rs (r ∷ []) m)

  pub mark-start : ltb 1 v ≡ false → decide_as (eqb v 1) (marks_only rs) n ≡ marks_only (rs ++ (r ∷ []))
  mark-start h = by (ℕ_discrete v 1)
    where
      by : Dec (v ≡ 1) → decide_as (eqb v 1) (marks_only rs) n ≡ marks_only (rs ++ (r ∷ []))
      by (yes e) =
          ap (λ (b : Bool). decide_as b (marks_only rs) n) (eq-eqb v 1 e)
          ∙ start_same _ _ _ _ (added true (eq-eqb v 1 e)) (others false (ne_eqb v 0 (λ q. absurd (omega arith))))
      by (no e) =
          let k = ltb-false 1 v h in
          ap (λ (b : Bool). decide_as b (marks_only rs) n) (ne_eqb v 1 e)
          ∙ start_same _ _ _ _ (others true (ne_eqb v 1 e)) (added false (eq-eqb v 0 (omega arith)))

-- A record marks a node, or none.
pub marks-cases : (P : Action → Type 0) → ((n v : ℕ) → P (decides n v)) → ((a : Action) → ((b : Bool) (n : ℕ) → marks b a n ≡ false) → P a) → (a : Action) → P a
marks-cases P one none (begins x) = none (begins x) (λ b n. refl)
marks-cases P one none (changes x) = none (changes x) (λ b n. refl)
marks-cases P one none closes = none closes (λ b n. refl)
marks-cases P one none (decides n v) = one n v
marks-cases P one none settles = none settles (λ b n. refl)
marks-cases P one none sifts = none sifts (λ b n. refl)
marks-cases P one none (idles x) = none (idles x) (λ b n. refl)

-- marks end somewhere
pub marks_end : (rs : List Record) → Ending (marked_node true rs)
unfolding marked_node
marks_end [] = (0, λ m h. refl)
marks_end (r ∷ rs) = by (marks_end rs) (action r)
  where
    by : Ending (marked_node true rs) → (a : Action) → Ending (λ (m : ℕ). marks true a m || marked_node true rs m)
    by e =
        marks-cases (λ (a : Action). Ending (λ (m : ℕ). marks true a m || marked_node true rs m))
        (λ k v. (k + 1 + e.0, λ m h. ap₂ (λ (x y : Bool). (x && eqb v 1) || y) (ne_eqb k m (λ q. omega arith)) (e.1 m (omega arith))))
        (λ a none. (e.0, λ m h. ap (λ (x : Bool). x || marked_node true rs m) (none true m) ∙ e.1 m h))

-- ---- WHAT A FILE KEEPS of its marks, as long as no sifting came: before the seal they are what is decided
pub record Marking (f : File) (done : List Record) : Type 0 where
  pub bits : f.sealed ≡ false → (b : Bool) (n : ℕ) → bit (mask b f.live.marks) n ≡ marked_node b done n
  pub from : From f (marks_only done)
  pub breaks : Breaks f (marks_only done)

marking_begun : Marking begun []
unfolding begun marked_node
marking_begun = record { bits = λ e b n. blank-begun.bits b n; from = λ e. absurd (both e refl); breaks = λ e. absurd (both e refl) }

module _ (f : File) (k : Keeps f) (done : List Record) (m : Marking f done) (r : Record) where
  abbrev more : List Record
  more = done ++ (r ∷ [])

  abbrev Unmarking : Type 0
  Unmarking = (b : Bool) (n : ℕ) → marks b (action r) n ≡ false

  -- records before the seal; behind it
  early : (h : File) → h.live ≡ f.live → f.sealed ≡ false → h.sealed ≡ false → contradicted h ≡ false → Unmarking → Marking h more
  early h l s t c none = record {
    bits = λ e b n. ap (λ (v : Live). bit (mask b v.marks) n) l ∙ m.bits s b n ∙ sym (marked_same b done r n (none b n));
    from = λ e. absurd (both e t);
    breaks = λ e. absurd (both e c);
  }

  later : (h : File) (s : Table) → h.sealed ≡ true → From h s × Breaks h s → s ≡ marks_only more → Marking h more
  later h s e a q = record { bits = λ z. absurd (both e z); from = subst (From h) q a.0; breaks = subst (Breaks h) q a.1 }

  marked : (a : Action) → action r ≡ a → (sifts ≡ a → ⊥) → Taken f (facts a) → Marking (act f a) more
  unfolding act sealed_file marked_file settled_file
  marked (begins n) is unsifted t =
      let s = k.good.unstarted t.turn in
      early (act f (begins n)) refl s s t.fine (λ b i. ap (λ (a : Action). marks b a i) is)
  marked (changes c) is unsifted t =
      let s = (change_turn f c t).1 in
      early (act f (changes c)) refl s s t.fine (λ b i. ap (λ (a : Action). marks b a i) is)
  marked closes is unsifted t =
      let s = (building_turn f t.turn).1 in
      later (act f closes) (own_start f.live) refl (seal_from f k t)
      (start_same _ _ _ _ (m.bits s true) (m.bits s false)
      ∙ marks_same done r (λ b i. ap (λ (a : Action). marks b a i) is))
  marked (decides n v) is unsifted t =
      later (act f (decides n v)) (decide_as (eqb v 1) (marks_only done) n) refl (mark_from f k n v (marks_only done) t m.from) (mark-start done r n v is t.values)
  marked settles is unsifted t =
      later (act f settles) (marks_only done) refl (settle_from f k (marks_only done) t m.from) (marks_same done r (λ b i. ap (λ (a : Action). marks b a i) is))
  marked sifts is unsifted t = absurd (unsifted refl)
  marked (idles x) is unsifted t =
      let none : Unmarking = λ b i. ap (λ (a : Action). marks b a i) is in
      let q = marks_same done r none in
      record { bits = λ e b n. m.bits e b n ∙ sym (marked_same b done r n (none b n)); from = subst (From f) q m.from; breaks = subst (Breaks f) q m.breaks }

marking_after : (f : File) (done rs : List Record) → Keeps f → Marking f done → Passed f rs → NoSift rs → Marking (after f rs) (done ++ rs)
unfolding after apply
marking_after f done [] k m p unsifted = subst (Marking f) (sym (append-nil done)) m
marking_after f done (r ∷ rs) k m p unsifted =
    subst (Marking (after (apply f r) rs)) (append_assoc done (r ∷ []) rs)
    (marking_after (apply f r) (done ++ (r ∷ [])) rs (keeps_apply f k r p.0) (marked f k done m r (action r) refl (λ e. unsifted (Memᴰ.head e)) (taken f r p.0)) p.1 (λ i. unsifted (Memᴰ.tail i)))

-- EVERY FILE WITHOUT A SIFTING STANDS BY ITS MARKS
pub marking : (rs : List Record) → Passed begun rs → NoSift rs → Marking (after begun rs) rs
marking rs p unsifted = marking_after begun [] rs keeps_begun marking_begun p unsifted

-- ---- THE CLAIM
pub settles_from_marks : (input : List ℕ) (before later : List Record) → (planned input).records ≡ before ++ (Settle ∷ later) → NoSift before
    → let f = after begun before in ExactlyTheTable (rows_of f.closed) (marks_only before) (apply f Settle)
settles_from_marks input before later e unsifted =
    let h = stood input before later Settle e in
    exactly (after begun before) h.keeps h.accepted (marked_node true before) (marked_node false before) (marks_end before) (marking before h.passed unsifted).from
