-- WHAT EVERY DECISION KEEPS, every move keeps: a property of the marks that deciding any node of some kind keeps is kept by a row
-- that is run, a drained guard, a drained condition and handed-on bounds, whether they contradict or not, where the rows name only
-- nodes of that kind.
use Prim.Native.Nat.{ℕ, ◌+◌, ◌-◌, ◌<◌}
use Rattle.std.proofs.Math.Decide.{dec_lt}
use Rattle.std.proofs.Common.{arith, sym, subst}
use Rattle.std.specs.Prelude.{refl, true, false, cond, length, get_or, take, drop, pos, ◌-ℤ◌}
use Rattle.std.proofs.Math.Bool.{Bool}
use mathlib.Core.List.Memᴰ
use mathlib.Core.List.{List, [], ◌∷◌, reverse, Memᴰ}
use Rattle.std.proofs.Math.ListN.{get_or-eq_default}
use Rattle.std.specs.Int.Signed.{le_z, lt_z}
use Rattle.base.specs.All.{All}
use Rattle.base.specs.AllLaws.{all_each}
use Rattle.memory.specs.Limits.{max_nodes}
use Rattle.numeric.specs.Threshold.{Term, Threshold}
use Rattle.state.specs.declared.Step.TheVariants.{Unchanged, Contradiction}
use Rattle.state.specs.declared.State.{State}
use Rattle.state.specs.Step.{contradicts}
use Rattle.state.specs.State.{limited, limit, with_guards, with_terms}
use Rattle.queues.specs.Marks.{Marks, is_decided, decided, decide}
use Rattle.rows.specs.Rows.{Row, no_row, Guard}
use Rattle.row_runs.specs.Scan.{Scanned, force}
use Rattle.row_runs.proofs.ScanLaws.{all_drop, all_take, all_reverse, scan_keeps}
use Rattle.row_runs.proofs.RowLaws.{decides_keeps}
use Rattle.row_runs.specs.Row.{Ran, ran, sure_waits, decides, sure_guards, never_waits, never_guards, threshold_guards, term_waits, forces, forced, true_terms, false_terms, threshold_row}
use Rattle.row_moves.specs.Between.{Index, Live, state_at, run_row, run_with, threshold_guard, threshold_condition, threshold_prefixes}
use Rattle.row_runs.specs.RunsLaws.{run_ends}
use Rattle.row_runs.specs.Runs.{guards_run, true_run}
use Rattle.row_moves.specs.WalkLaws.{Moves, keep_guard, keep_condition, keep_prefixes}
use Rattle.row_moves.specs.Ready.{Names}

abbrev pub Small : ℕ → Type 0
Small n = n < max_nodes

pub names_all : (Ok : ℕ → Type 0) (row : Row) → All (λ (g : Guard). Ok g.node) row.guards → All (λ (t : Term). Ok t.condition) row.terms → Names Ok row
names_all Ok row gs ts = record { guards = all_each (λ (g : Guard). Ok g.node) row.guards gs; terms = all_each (λ (t : Term). Ok t.condition) row.terms ts }

pub member_all : {X : Type 0} (P : X → Type 0) (xs : List X) → ((a : X) → Memᴰ a xs → P a) → All P xs
member_all P [] f = Prim.tt
member_all P (y ∷ ys) f = (f y (Memᴰ.head refl), member_all P ys (λ a m. f a (Memᴰ.tail m)))

module _ (P : Marks → Type 0) (Ok : ℕ → Type 0) (each : (value : Bool) (m : Marks) (n : ℕ) → Ok n → P m → P (decide value m n).marks) where
  abbrev Guarded : Guard → Type 0
  Guarded g = Ok g.node

  abbrev Stands : Term → Type 0
  Stands t = Ok t.condition

  guards-keep : (gs : List Guard) → All Guarded gs → (s : State) (m : Marks) → P m → P (threshold_guards gs s m).marks
  unfolding threshold_guards
  guards-keep gs are s m p = by (contradicts a.step)
    where
      a : Scanned
      a = sure_guards gs s m

      b : Scanned
      b = never_guards gs s a.marks a.step

      pa : P a.marks
      pa = scan_keeps (sure_waits s) (decides true) P Guarded (λ (g : Guard) k h q. decides_keeps P true g k q (each true k g.node h q)) (drop s.sure_guard gs) 0 m Unchanged (all_drop Guarded s.sure_guard gs are) p

      ends : Bool → Ran
      ends t = elim t [
        | true ↦ ran (with_guards s (s.sure_guard + a.passed) s.never_guard) a.marks Contradiction
        | false ↦ ran (with_guards (with_guards s (s.sure_guard + a.passed) s.never_guard) (with_guards s (s.sure_guard + a.passed) s.never_guard).sure_guard (s.never_guard - b.passed)) b.marks b.step
      ]

      by : (t : Bool) → P (ends t).marks
      by true = pa
      by false = scan_keeps (never_waits s) (decides false) P Guarded (λ (g : Guard) k h q. decides_keeps P false g k q (each false k g.node h q)) (reverse (take s.never_guard gs)) 0 a.marks a.step
          (all_reverse Guarded (take s.never_guard gs) (all_take Guarded s.never_guard gs are)) pa

  module _ (ts : List Term) (are : All Stands ts) where
    force_keeps : (value : Bool) (m : Marks) (n : ℕ) → Ok n → P m → P (force value m n).marks
    force_keeps value m n h p = by (is_decided m n)
      where
        by : (b : Bool) → P (cond b (decided m Unchanged) (decide value m n)).marks
        by true = p
        by false = each value m n h p

    forced-keep : (value : Bool) (light : ℕ → Bool) (n : ℕ) (m : Marks) → P m → P (forced value light (drop n ts) m).marks
    forced-keep value light n m p =
        scan_keeps (term_waits light) (forces value) P Stands (λ (t : Term) k h q. force_keeps value k t.condition h q) (drop n ts) 0 m Unchanged (all_drop Stands n ts are) p

    true-keep : (s : State) (m : Marks) → P m → P (true_terms ts s m).marks
    unfolding true_terms
    true-keep s m p = by (le_z s.lower s.known)
      where
        light : ℕ → Bool
        light w = le_z (pos w) (s.possible -ℤ s.lower)

        a : Scanned
        a = forced true light (drop s.true_term ts) m

        by : (t : Bool) → P (cond t (ran s m Unchanged) (ran (with_terms s (s.true_term + a.passed) s.false_term) a.marks a.step)).marks
        by true = p
        by false = forced-keep true light s.true_term m p

    false-keep : (s : State) (m : Marks) → P m → P (false_terms ts s m).marks
    unfolding false_terms
    false-keep s m p = by (limited s.upper)
      where
        light : ℕ → Bool
        light w = lt_z (pos w) (limit s.upper -ℤ s.known)

        a : Scanned
        a = forced false light (drop s.false_term ts) m

        by : (t : Bool) → P (cond t (ran (with_terms s s.true_term (s.false_term + a.passed)) a.marks a.step) (ran s m Unchanged)).marks
        by true = forced-keep false light s.false_term m p
        by false = p

  -- A ROW
  pub row_named_lem : (row : Row) → Names Ok row → (s : State) (m : Marks) → P m → P (threshold_row row s m).marks
  row_named_lem row o s m p =
      run_ends row s m (λ (r : Ran). P r.marks) (λ e. p) (λ e. pa) (λ e f. pb) (λ e f. false-keep row.terms ts (true_run row s m).state (true_run row s m).marks pb)
    where
      ts : All Stands row.terms
      ts = member_all Stands row.terms o.terms

      pa : P (guards_run row s m).marks
      pa = guards-keep row.guards (member_all Guarded row.guards o.guards) s m p

      pb : P (true_run row s m).marks
      pb = true-keep row.terms ts (guards_run row s m).state (guards_run row s m).marks pa

  module _ (x : Index) (names : (r : ℕ) → r < length x.rows → Names Ok (get_or x.rows r no_row)) where
    -- a number behind the last row names no guard and no term
    any-row : (r : ℕ) → Names Ok (get_or x.rows r no_row)
    any-row r = by (dec_lt r (length x.rows))
      where
        none : Names Ok no_row
        none = record { guards = λ g i. absurd (Memᴰ.not-nil i); terms = λ t i. absurd (Memᴰ.not-nil i) }

        by : Dec (r < length x.rows) → Names Ok (get_or x.rows r no_row)
        by (yes h) = names r h
        by (no h) = subst (Names Ok) (sym (get_or-eq_default x.rows no_row {n = r} (omega arith))) none

    -- A ROW RUN AND STORED
    pub run_named : (v : Live) (r : ℕ) → P v.marks → P (run_row x v r).live.marks
    unfolding run_row run_with
    run_named v r p = row_named_lem (get_or x.rows r no_row) (any-row r) (state_at v r) v.marks p

    -- A GUARD, A CONDITION, PREFIXES: a stored state and a queued row leave the marks
    abbrev Any : ℕ → Type 0
    Any r = Unit {0}

    moves : Moves x Any (λ (v : Live). P v.marks)
    moves = record { run = λ v r k p. run_named v r p; put = λ v r s p. p; wait = λ v r k p. p }

    pub guard-named : (v : Live) (t : Threshold) → P v.marks → P (threshold_guard x v t).live.marks
    guard-named v t p = keep_guard x Any (λ (w : Live). P w.marks) moves v t tt p

    pub condition_named : (v : Live) (n : ℕ) → P v.marks → P (threshold_condition x v n).live.marks
    condition_named v n p = keep_condition x Any (λ (w : Live). P w.marks) moves v n (λ e m. tt) p

    pub prefixes_named : (v : Live) (row : ℕ) → P v.marks → P (threshold_prefixes x v row).live.marks
    prefixes_named v row p = keep_prefixes x Any (λ (w : Live). P w.marks) moves v row (λ r m. tt) p
