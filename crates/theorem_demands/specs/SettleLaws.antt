-- DEMAND 3, its claims about single records: seals and marks contradict only where the table reaches a conflict, and a settling is
-- exactly the table from the nodes decided before it.
use Rattle.std.specs.Prelude.{ℕ, ◌+◌, ◌*◌, ◌≤◌, ◌≡◌, refl, Bool, true, false, cond, not, ◌||◌, ◌&&◌, List, [], ◌∷◌, ◌++◌, length, eqb}
use Rattle.std.proofs.Common.{arith, sym, ap₂, subst, ⊎_elim, ne_eqb}
use Rattle.numeric.specs.Area.{job_of}
use Rattle.base.specs.TestLaws.{true-false}
use Rattle.words.specs.Mask.{bit}
use Rattle.words.specs.MaskLaws.{bit-behind}
use Rattle.rows.specs.Rows.{Row, rows_of}
use Rattle.row_moves.specs.Between.{Live}
use Rattle.records.specs.declared.Record.{Record}
use Rattle.records.specs.declared.Record.TheVariants.{Seal, Mark, Settle}
use Rattle.files.specs.File.{File, contradicted, begun, refusal, sealed_file, marked_file, settled_file, act, apply, after, planned, Passed}
use Rattle.theorem_limits.specs.FilesLaws.{taken, planned_passed}
use Rattle.theorem_table.specs.Table.{Table, start, ReachesConflict, AtRest}
use Rattle.theorem_table.proofs.TableLaws.{run_below}
use Rattle.theorem_table.specs.Ends.{Finite}
use Rattle.theorem_table.proofs.EndsLaws as Ends
use Rattle.theorem_table.proofs.EndsLaws.{start_finite}
use Rattle.theorem_follows.specs.DecideLaws.{Broken, decide_as}
use Rattle.theorem_follows.specs.StandsLaws.{table_at}
use Rattle.theorem_follows.specs.SettledLaws.{every_conflict}
use Rattle.theorem_follows.specs.EndsLaws.{reaches}
use Rattle.theorem_demands.specs.TableRecordsLaws.{From, Keeps, keeps_begun, keeps_after, seal_from, mark_from, settle_from}
use Rattle.theorem_demands.specs.TableStillLaws.{Still, rests, every_end, not_broken, known_is, possible_is, settle_still}
use Rattle.theorem_demands.specs.Reading.{SameEnd, decided_in, decided_and}
use Rattle.theorem_demands.specs.Demands.{ExactlyTheTable}

-- ---- a record that was taken stands behind those before it

pub passed_here : (f : File) (rs : List Record) (r : Record) (qs : List Record) → Passed f (rs ++ (r ∷ qs)) → Passed f rs × (refusal (after f rs) r ≡ 0)
unfolding after
passed_here f [] r qs p = (tt, p.0)
passed_here f (x ∷ rs) r qs p = let a = passed_here (apply f x) rs r qs p.1 in ((p.0, a.0), a.1)

pub record Stood (before : List Record) (r : Record) : Type 0 where
  pub passed : Passed begun before
  pub keeps : Keeps (after begun before)
  pub accepted : refusal (after begun before) r ≡ 0

pub stood : (input : List ℕ) (before later : List Record) (r : Record) → (planned input).records ≡ before ++ (r ∷ later) → Stood before r
stood input before later r e =
    let p = passed_here begun before r later (subst (Passed begun) e (planned_passed input)) in
    record { passed = p.0; keeps = keeps_after begun before keeps_begun p.0; accepted = p.1 }

-- ---- starts

pub start_same : (a b c d : ℕ → Bool) → ((m : ℕ) → a m ≡ c m) → ((m : ℕ) → b m ≡ d m) → start a b ≡ start c d
start_same a b c d h g = λ i. start (λ (m : ℕ). h m i) (λ (m : ℕ). g m i)

put_one : (x y : Bool) → cond x true y ≡ (y || (x && true))
put_one true true = refl
put_one true false = refl
put_one false true = refl
put_one false false = refl

put-none : (x y : Bool) → y ≡ (y || (x && false))
put-none true true = refl
put-none true false = refl
put-none false true = refl
put-none false false = refl

and-start : (a b : ℕ → Bool) (n : ℕ) (value : Bool)
    → decide_as value (start a b) n ≡ start (λ (m : ℕ). a m || (eqb m n && value)) (λ (m : ℕ). b m || (eqb m n && not value))
and-start a b n true = start_same _ _ _ _ (λ m. put_one (eqb m n) (a m)) (λ m. put-none (eqb m n) (b m))
and-start a b n false = start_same _ _ _ _ (λ m. put-none (eqb m n) (a m)) (λ m. put_one (eqb m n) (b m))

-- what follows is reached, from any start whose sure nodes end somewhere
abbrev pub Ending : (ℕ → Bool) → Type 0
Ending sure = (n : ℕ) × ((m : ℕ) → n ≤ m → sure m ≡ false)

-- one node more ends somewhere, too
one_more : (v : Live) (n : ℕ) (value : Bool) → Ending (λ (m : ℕ). bit v.marks.sure m || (eqb m n && value))
one_more v n value = (
  64 * length v.marks.sure + n + 1,
  λ m l. ap₂ (λ (x y : Bool). x || (y && value)) (bit-behind v.marks.sure m (omega arith)) (ne_eqb m n (λ e. omega arith)),
)

pub reached : (rows : List Row) (sure never : ℕ → Bool) → Ending sure → Broken rows (start sure never) → ReachesConflict rows (start sure never)
reached rows sure never e b = reaches rows e.0 (start sure never) (start_finite rows e.0 sure never e.1) b

-- ---- A SETTLING IS EXACTLY THE TABLE, from any start that the file stands by
pub exactly : (f : File) → Keeps f → refusal f Settle ≡ 0 → (sure never : ℕ → Bool) → Ending sure → From f (start sure never)
    → ExactlyTheTable (rows_of f.closed) (start sure never) (apply f Settle)
unfolding apply act settled_file
exactly f k h sure never end from = record {
  contradicts = λ c. reached rows sure never end (broken c);
  only_then = λ r. ⊎_elim (λ (c : contradicted g ≡ true). c) (λ (c : contradicted g ≡ false). absurd (free c r)) (true-false (contradicted g));
  every_conflict = λ c t e. every_conflict rows s (broken c) e;
  every_end = λ c t e. let q = every_end f.closed s g.live (still c) e in (subst (AtRest rows) (sym q) (rests f.closed s g.live (still c)), subst (SameEnd g) (sym q) (same c));
  some_end = λ t r. Ends.some_end rows end.0 s finite t r;
  bounded = Ends.bounded rows end.0 s finite;
}
  where
    rows : List Row
    rows = rows_of f.closed

    s : Table
    s = start sure never

    g : File
    g = apply f Settle

    finite : Finite rows end.0 s
    finite = start_finite rows end.0 sure never end.1

    broken : contradicted g ≡ true → Broken rows s
    broken = (settle_from f k s (taken f Settle h) from).1

    still : contradicted g ≡ false → Still f.closed s g.live
    still c = settle_still f k h s from c

    free : contradicted g ≡ false → ReachesConflict rows s → ⊥
    free c (u, r, e) = not_broken f.closed s g.live (still c) (u, (λ w up rest. run_below rows w r up rest), e)

    same : contradicted g ≡ false → SameEnd g (table_at g.live)
    same c = record {
      sure = λ n. refl;
      never = λ n. refl;
      known = known_is f.closed s g.live (still c);
      possible = possible_is f.closed s g.live (still c);
      lower = λ r i. refl;
      upper = λ r i. refl;
    }

-- ---- THE CLAIMS

pub seals : (input : List ℕ) (before later : List Record) → (planned input).records ≡ before ++ (Seal ∷ later)
    → let f = after begun before in contradicted (apply f Seal) ≡ true → ReachesConflict (rows_of (job_of f.draft)) (decided_in f)
unfolding apply act sealed_file
seals input before later e c =
    let h = stood input before later Seal e in
    let v = (after begun before).live in
    reached (rows_of (job_of (after begun before).draft)) (bit v.marks.sure) (bit v.marks.never) (64 * length v.marks.sure, λ m l. bit-behind v.marks.sure m (omega arith))
    ((seal_from (after begun before) h.keeps (taken (after begun before) Seal h.accepted)).1 c)

pub marks : (input : List ℕ) (before later : List Record) (n v : ℕ) → (planned input).records ≡ before ++ (Mark n v ∷ later)
    → let f = after begun before in contradicted (apply f (Mark n v)) ≡ true → ReachesConflict (rows_of f.closed) (decided_and f n (eqb v 1))
unfolding apply act marked_file
marks input before later n v e c =
    let h = stood input before later (Mark n v) e in
    let f = after begun before in
    let a = bit f.live.marks.sure in
    let b = bit f.live.marks.never in
    reached (rows_of f.closed) (λ (m : ℕ). a m || (eqb m n && eqb v 1)) (λ (m : ℕ). b m || (eqb m n && not (eqb v 1))) (one_more f.live n (eqb v 1))
    (subst (Broken (rows_of f.closed)) (and-start a b n (eqb v 1)) ((mark_from f h.keeps n v (decided_in f) (taken f (Mark n v) h.accepted) h.keeps.steady).1 c))

pub settles : (input : List ℕ) (before later : List Record) → (planned input).records ≡ before ++ (Settle ∷ later)
    → let f = after begun before in ExactlyTheTable (rows_of f.closed) (decided_in f) (apply f Settle)
settles input before later e =
    let h = stood input before later Settle e in
    let f = after begun before in
    exactly f h.keeps h.accepted (bit f.live.marks.sure) (bit f.live.marks.never)
    (64 * length f.live.marks.sure, λ m l. bit-behind f.live.marks.sure m (omega arith)) h.keeps.steady
