-- A row rests where the next place of each scan waits or none is left. Assumes nothing.
use Rattle.std.specs.Prelude.{ℕ, ◌+◌, ◌-◌, ◌<◌, ◌≤◌, ◌≡◌, Bool, ◌&&◌, length, get_or, take, drop, ℤ, pos, ◌-ℤ◌, Option, None}
use native.Mathlib.Omega.{arith}
use Rattle.std.proofs.Common.{add-one, sym, ◌∙◌, drop_of_length-le}
use Rattle.std.proofs.Math.Path.{refl, ap, ap₂}
use Rattle.std.proofs.Math.Bool.{true, false}
use mathlib.Core.List.{List, [], ◌∷◌, reverse}
use Rattle.std.specs.Int.Signed.{le_z, lt_z}
use Rattle.numeric.specs.Threshold.{Term, term}
use Rattle.numeric.specs.Slices.{terms}
use Rattle.numeric.specs.TermsLaws.{up_terms, length-terms}
use Rattle.state.specs.declared.Step.{Step}
use Rattle.state.specs.declared.Step.TheVariants.{Unchanged}
use Rattle.state.specs.declared.State.{State}
use Rattle.state.specs.State.{reached, limited, upper_at_most, conflict, has_residual_interval, with_guards}
use Rattle.queues.specs.Marks.{Marks, Decided, is_decided}
use Rattle.rows.specs.Rows.{row_of, Guard, guard, has_nonunit}
use Rattle.row_runs.specs.Scan.{scanned, scan}
use Rattle.row_runs.proofs.ScanLaws.{scan-none}
use Rattle.row_runs.specs.Guards.{guards}
use Rattle.row_runs.specs.GuardsLaws.{up_guards, down_guards, length-guards}
use Rattle.row_runs.specs.Turns.{light, cut}
use Rattle.row_runs.specs.declared.Cutoff.{Cutoff}
use Rattle.row_runs.specs.Row.{ran, decides, sure_waits, sure_guards, never_waits, never_guards, reachable, threshold_guards, term_waits, forces, forced, false_terms, row_terms, wants_residual}
use Rattle.row_runs.proofs.RowLaws.{guards_more, stay_true, true-none, true-forced, false-none, terms_more, row-terms, wants_unit, wants_interval}
use Rattle.resting.specs.Rest.{Rests, UpRests, DownRests, TrueRests}

-- A scan whose first place waits, and one of nothing.
module _ {X : Type 0} (waits : X → Marks → Bool) (act : X → Marks → Decided) (l : List X) (m : Marks) (k : Step) where
  scan-waits : (x : X) (xs : List X) → l ≡ x ∷ xs → waits x m ≡ true → scan waits act l 0 m k ≡ scanned 0 m k
  unfolding scan
  scan-waits x xs e h = ap (λ (y : List X). scan waits act y 0 m k) e ∙ rw (scan, h)

  scan-empty : l ≡ [] → scan waits act l 0 m k ≡ scanned 0 m k
  scan-empty e = ap (λ (y : List X). scan waits act y 0 m k) e ∙ scan-none waits act 0 m k

-- ---- guards

module _ (bs : List ℤ) (s : State) where
  pub up_place : s.sure_guard < length bs → lt_z (reached s) (get_or bs s.sure_guard (pos 0)) ≡ true → UpRests bs s
  up_place k h ns m e =
      let i = s.sure_guard in
      let x = guard (get_or bs i (pos 0)) (get_or ns i 0) in
      scan-waits (sure_waits s) (decides true) (drop i (guards bs ns)) m Unchanged x (drop (i + 1) (guards bs ns)) (up_guards bs ns i k (omega arith)) h

  pub up_none : length bs ≤ s.sure_guard → UpRests bs s
  up_none k ns m e =
      scan-empty (sure_waits s) (decides true) (drop s.sure_guard (guards bs ns)) m Unchanged
      (drop_of_length-le (guards bs ns) {i = s.sure_guard} (omega (arith, length-guards bs ns)))

  pub down_place : 0 < s.never_guard → s.never_guard ≤ length bs → reachable s (get_or bs (s.never_guard - 1) (pos 0)) ≡ true → DownRests bs s
  down_place p k h ns m e =
      let i = s.never_guard - 1 in
      let x = guard (get_or bs i (pos 0)) (get_or ns i 0) in
      let last : s.never_guard ≡ i + 1 = omega arith in
      scan-waits (never_waits s) (decides false) (reverse (take s.never_guard (guards bs ns))) m Unchanged x (reverse (take i (guards bs ns)))
      (ap (λ (j : ℕ). reverse (take j (guards bs ns))) last ∙ down_guards bs ns i (omega arith) (omega arith)) h

  pub down_none : s.never_guard ≡ 0 → DownRests bs s
  down_none z ns m e =
      scan-empty (never_waits s) (decides false) (reverse (take s.never_guard (guards bs ns))) m Unchanged (ap (λ (j : ℕ). reverse (take j (guards bs ns))) z)

-- ---- terms

module _ (c : Cutoff) (cs ws : List ℕ) (at : ℕ) (m : Marks) where
  pub term-place : at < length ws → length cs ≡ length ws → is_decided m (get_or cs at 0) ≡ false → light c (get_or ws at 0) ≡ true
      → forced c.value (light c) (drop at (terms cs ws)) m ≡ scanned 0 m Unchanged
  term-place k e h l =
      let x = term (get_or cs at 0) (get_or ws at 0) in
      scan-waits (term_waits (light c)) (forces c.value) (drop at (terms cs ws)) m Unchanged x (drop (at + 1) (terms cs ws))
      (up_terms cs ws at (omega arith) (omega arith) ∙ ap (λ (j : ℕ). x ∷ drop j (terms cs ws)) (sym (add-one at))) (rw (h, l))

  pub term-none : length ws ≤ at → forced c.value (light c) (drop at (terms cs ws)) m ≡ scanned 0 m Unchanged
  term-none k =
      scan-empty (term_waits (light c)) (forces c.value) (drop at (terms cs ws)) m Unchanged (drop_of_length-le (terms cs ws) {i = at} (omega (arith, length-terms cs ws)))

module _ (ts : List Term) (s : State) (m : Marks) where
  pub true_met : le_z s.lower s.known ≡ true → TrueRests ts s m
  true_met h = sym (true-none ts s m h)

  pub true-waits : (z : ℤ) → le_z s.lower s.known ≡ false → z ≡ s.possible -ℤ s.lower → forced true (light (cut true z)) (drop s.true_term ts) m ≡ scanned 0 m Unchanged
      → TrueRests ts s m
  true-waits z h e f = sym (true-forced ts s m z (scanned 0 m Unchanged) s h e (sym f) (stay_true s))

-- ---- the row

-- A row with no upper that can reach its lower, and none of whose scans passes a place.
module _ (raw ts : List Term) (gs : List Guard) (s : State) (m : Marks) (no-upper : s.upper ≡ None) (fits : lt_z s.possible s.lower ≡ false) where
  free : conflict s ≡ false
  unfolding conflict
  free = rw (fits, no-upper)

  no-interval : has_residual_interval s ≡ false
  unfolding has_residual_interval
  no-interval = ap (λ (u : Option ℤ). lt_z s.known s.lower && upper_at_most u s.possible) no-upper ∙ by (lt_z s.known s.lower)
    where
      by : (b : Bool) → (b && false) ≡ false
      by true = refl
      by false = refl

  not-wanted : wants_residual (row_of raw ts gs) s ≡ false
  not-wanted = by (has_nonunit ts) refl
    where
      by : (b : Bool) → has_nonunit ts ≡ b → wants_residual (row_of raw ts gs) s ≡ false
      by true e = wants_interval (row_of raw ts gs) s free e ∙ no-interval
      by false e = wants_unit (row_of raw ts gs) s free e

  stay-guards : s ≡ with_guards s (s.sure_guard + 0) (s.never_guard - 0)
  unfolding with_guards
  stay-guards =
      let y : s.sure_guard ≡ s.sure_guard + 0 = omega arith in
      let z : s.never_guard ≡ s.never_guard - 0 = omega arith in
      ap₂ (λ (i j : ℕ). with_guards s i j) y z

  pub row_rests : sure_guards gs s m ≡ scanned 0 m Unchanged → never_guards gs s m Unchanged ≡ scanned 0 m Unchanged → TrueRests ts s m → Rests (row_of raw ts gs) s m
  row_rests up down true-rests =
      let same = ran s m Unchanged in
      let none = scanned 0 m Unchanged in
      let guarded : same ≡ threshold_guards gs s m = guards_more gs s m none (sym up) s refl none (sym down) stay-guards in
      let false-rests : same ≡ false_terms ts s m = false-none ts s m (ap limited no-upper) in
      let all : same ≡ row_terms ts same = terms_more ts same same (sym true-rests) refl same false-rests Unchanged refl in
      record { run = sym (row-terms (row_of raw ts gs) s m free same guarded refl same all); residual = not-wanted }
