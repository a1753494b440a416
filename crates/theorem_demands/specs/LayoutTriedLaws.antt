-- NO ROW THAT IS TRIED LOSES A LAYOUT: all decided nodes drained, what the residual of a row decides a layout agrees with, and neither
-- the residual nor the search contradicts where there is such a layout.
use Rattle.std.specs.Prelude.{ℕ, suc, ◌+◌, ◌≤◌, ◌<◌, ◌≡◌, refl, Bool, true, false, cond, not, ◌||◌, ◌⊎◌, length, get_or, ℤ, pos, ◌+ℤ◌, Option, None, Some}
use Rattle.std.proofs.Math.Decide.{dec_lt}
use Rattle.std.proofs.Common.{le_refl, arith, sym, ap, ◌∙◌, subst, inl, inr, lt-ltb}
use mathlib.Core.List.{List, [], ◌∷◌, Memᴰ}
use Rattle.std.proofs.Math.ListN.{get_or-eq_default}
use Rattle.std.proofs.Math.IntN.{pos-+ℤ-pos}
use Rattle.std.specs.Int.Signed.{le_z, lt_z, clash_ℤ}
use Rattle.base.specs.All.{All}
use Rattle.base.specs.TestLaws.{true-false, clash, unequal}
use Rattle.state.specs.StepLaws.{contradiction_is}
use Rattle.base.specs.SignedLaws.{lt_z-pos, nle-lt_z}
use Rattle.numeric.specs.Threshold.{Term, Job}
use Rattle.numeric.specs.Layout.{Layout}
use Rattle.numeric.specs.LayoutLaws.{sum_of}
use Rattle.state.specs.declared.Step.{Step}
use Rattle.state.specs.declared.Step.TheVariants.{Unchanged, Changed, Contradiction}
use Rattle.state.specs.declared.State.{State}
use Rattle.state.specs.Step.{joined, contradicts, is_unchanged}
use Rattle.state.specs.State.{upper_at_most}
use Rattle.words.specs.Mask.{bit}
use Rattle.queues.specs.Queue.{is_empty, oldest, next_row}
use Rattle.queues.specs.Marks.{Marks, is_decided, Decided, decide, mask}
use Rattle.queues.proofs.MarksLaws.{decide_there, decide_clash, decide_new}
use Rattle.row.specs.Terms.{row_terms}
use Rattle.rows.specs.Rows.{Row, no_row, rows_of, has_nonunit}
use Rattle.row_runs.specs.Guards.{Condition}
use Rattle.intervals.specs.declared.Interval.{Interval}
use Rattle.divisors.specs.Gcd.{gcd}
use Rattle.intervals.specs.Residual.{interval, residual_check, suffixes, placed, force_term, force_from, Residual, residual, over, nothing_forced, threshold_residual}
use Rattle.intervals.specs.CheckLaws.{check-unit}
use Rattle.intervals.proofs.ForceLaws.{force-cases, from_skip, from_stop, from_more, residual-none, residual_rest, residual-forced}
use Rattle.intervals.specs.SumsLaws.{open_weights, open_sum, sum, open_skip, open_more}
use Rattle.intervals.proofs.SoundLaws.{distinct_in, residual_sound}
use Rattle.searches.specs.Search.{plan, search, search_step, chosen}
use Rattle.searches.proofs.SearchLaws.{search_refutes}
use Rattle.row_moves.specs.Between.{Index, Live, state_at}
use Rattle.row_moves.specs.KeepsLaws.{Small}
use Rattle.drain.specs.Sift.{Sifted, try_row}
use Rattle.drain.specs.SiftLaws.{try_ends}
use Rattle.drain.specs.Steps.{try_terms, try_residual, try_live}
use Rattle.theorem_table.specs.Table.{IsRow, terms_of, known, possible}
use Rattle.theorem_table.specs.OrderLaws.{UpLe, le, lt, of_le, ≤ℤ_trans}
use Rattle.theorem_table.proofs.LayoutLaws.{row_made}
use Rattle.theorem_ends.specs.KeepsLaws.{residual-named}
use Rattle.theorem_follows.specs.StandsLaws.{table_at, Apart, apart_decide, known_exact, possible_exact}
use Rattle.queues.proofs.StayLaws.{Stay, stay_same, stay_decide}
use Rattle.theorem_follows.specs.BuiltLaws.{Built}
use Rattle.theorem_follows.specs.WaitingLaws.{queued_decide, none_left}
use Rattle.queues.specs.Waiting.{Queued}
use Rattle.theorem_demands.specs.LayoutTurnsLaws.{Fits, Holds, agrees_fits, marked}

-- THE SUM OF A ROW under a layout: what is known, and what it takes of the undecided terms

one_known : (n : ℕ) (s u x : Bool) → (s ≡ true → x ≡ true) → (u ≡ true → x ≡ false) → cond s n 0 + cond (s || u) 0 (cond x n 0) ≡ cond x n 0
one_known n true u x a b = let e : cond x n 0 ≡ n = ap (λ (c : Bool). cond c n 0) (a refl) in omega arith
one_known n false true x a b = let e : cond x n 0 ≡ 0 = ap (λ (c : Bool). cond c n 0) (b refl) in omega arith
one_known n false false x a b = omega arith

sum-known : (w : Layout) (m : Marks) → Fits w m → (ts : List Term) → known (bit m.sure) ts + open_sum (is_decided m) w ts ≡ sum_of w ts
unfolding known open_sum sum_of
sum-known w m f [] = refl
sum-known w m f (t ∷ ts) =
    let a = sum-known w m f ts in
    let c = t.condition in
    let b = one_known t.weight (bit m.sure c) (bit m.never c) (w c) (f true c) (f false c) in
    omega arith

-- POSSIBLE is what is known and all undecided weights

one-possible : (n : ℕ) (s u : Bool) → (s ≡ true → u ≡ true → ⊥) → cond u 0 n ≡ cond s n 0 + cond (s || u) 0 n
one-possible n true true a = absurd (a refl refl)
one-possible n true false a = omega arith
one-possible n false true a = omega arith
one-possible n false false a = omega arith

open_sum_lem : (d : ℕ → Bool) (t : Term) (ts : List Term) → sum (open_weights d (t ∷ ts)) ≡ cond (d t.condition) 0 t.weight + sum (open_weights d ts)
unfolding sum
open_sum_lem d t ts = by (d t.condition) refl
  where
    by : (b : Bool) → d t.condition ≡ b → sum (open_weights d (t ∷ ts)) ≡ cond b 0 t.weight + sum (open_weights d ts)
    by true e = ap sum (open_skip d t ts e) ∙ omega arith
    by false e = ap sum (open_more d t ts e)

pub sum-possible : (m : Marks) → Apart m → (ts : List Term) → possible (bit m.never) ts ≡ known (bit m.sure) ts + sum (open_weights (is_decided m) ts)
unfolding known possible open_weights sum
sum-possible m a [] = refl
sum-possible m a (t ∷ ts) =
    let h = sum-possible m a ts in
    let c = t.condition in
    let b = one-possible t.weight (bit m.sure c) (bit m.never c) (a c) in
    let e = open_sum_lem (is_decided m) t ts in
    omega arith

chosen_open : (d w : ℕ → Bool) (ts : List Term) → chosen d w ts ≡ open_sum d w ts
unfolding chosen open_sum
chosen_open d w [] = refl
chosen_open d w (t ∷ ts) = ap (λ (n : ℕ). cond (d t.condition) 0 (cond (w t.condition) t.weight 0) + n) (chosen_open d w ts)

-- A RESIDUAL THAT CHANGES NOTHING leaves the marks

joined-none : (a b : Step) → joined a b ≡ Unchanged → (a ≡ Unchanged) × (b ≡ Unchanged)
joined-none Unchanged b h = (refl, h)
joined-none Changed Unchanged h = (h, refl)
joined-none Changed Changed h = (h, h)
joined-none Changed Contradiction h = absurd (unequal cc)
joined-none Contradiction b h = absurd (unequal cc)

not_unchanged : Changed ≡ Unchanged → ⊥
not_unchanged e = clash (is_unchanged Changed) (ap is_unchanged e) refl

not-at_all : Contradiction ≡ Unchanged → ⊥
not-at_all e = clash (is_unchanged Contradiction) (ap is_unchanged e) refl

decide-none : (value : Bool) (m : Marks) (n : ℕ) → (decide value m n).step ≡ Unchanged → (decide value m n).marks ≡ m
decide-none value m n h = by (true-false (bit (mask value m) n)) (true-false (bit (mask (not value) m) n))
  where
    by : (bit (mask value m) n ≡ true) ⊎ (bit (mask value m) n ≡ false) → (bit (mask (not value) m) n ≡ true) ⊎ (bit (mask (not value) m) n ≡ false)
        → (decide value m n).marks ≡ m
    by (inl e) b = ap (λ (d : Decided). d.marks) (decide_there value m n e)
    by (inr e) (inl f) = ap (λ (d : Decided). d.marks) (decide_clash value m n e f)
    by (inr e) (inr f) = absurd (not_unchanged (sym (ap (λ (d : Decided). d.step) (decide_new value m n e f)) ∙ h))

force-none : (i : Interval) (m : Marks) (t : Term) (divisor : ℕ) → (force_term i m t divisor).step ≡ Unchanged → (force_term i m t divisor).marks ≡ m
force-none i m t divisor =
    force-cases (λ (d : Decided). d.step ≡ Unchanged → d.marks ≡ m) i m t divisor (λ e. refl) (λ f g e. refl) (λ f. decide-none true m t.condition)
    (λ g. decide-none false m t.condition)

from_none : (i : Interval) (behind : ℕ → ℕ) (ts : List Term) (prefix : ℕ) (m : Marks) (step : Step) → (force_from i behind ts prefix m step).step ≡ Unchanged
    → (step ≡ Unchanged) × ((force_from i behind ts prefix m step).marks ≡ m)
unfolding force_from
from_none i behind [] prefix m step h = (h, refl)
from_none i behind (t ∷ ts) prefix m step h = by (λ p n s k. from_none i behind ts p n s k) (is_decided m t.condition) refl h
  where
    d : Decided
    d = force_term i m t (gcd prefix (behind (length ts)))

    Whole : Type 0
    Whole = (step ≡ Unchanged) × ((force_from i behind (t ∷ ts) prefix m step).marks ≡ m)

    Later : Type 0
    Later = (p : ℕ) (n : Marks) (s : Step) → (force_from i behind ts p n s).step ≡ Unchanged → (s ≡ Unchanged) × ((force_from i behind ts p n s).marks ≡ n)

    turn : Later → is_decided m t.condition ≡ false → (c : Bool) → contradicts d.step ≡ c → (force_from i behind (t ∷ ts) prefix m step).step ≡ Unchanged → Whole
    turn ih e true k g = absurd (not-at_all (sym (ap (λ (y : Decided). y.step) (from_stop i behind t ts prefix m step e d refl k)) ∙ g))
    turn ih e false k g =
        let q = from_more i behind t ts prefix m step e d refl k in
        let r = ih (gcd prefix t.weight) d.marks (joined step d.step) (sym (ap (λ (y : Decided). y.step) q) ∙ g) in
        let s = joined-none step d.step r.0 in
        (s.0, ap (λ (y : Decided). y.marks) q ∙ r.1 ∙ force-none i m t (gcd prefix (behind (length ts))) s.1)

    by : Later → (c : Bool) → is_decided m t.condition ≡ c → (force_from i behind (t ∷ ts) prefix m step).step ≡ Unchanged → Whole
    by ih true e g =
        let q = from_skip i behind t ts prefix m step e in
        let r = ih prefix m step (sym (ap (λ (y : Decided). y.step) q) ∙ g) in
        (r.0, ap (λ (y : Decided). y.marks) q ∙ r.1)
    by ih false e g = turn ih e (contradicts d.step) refl g

residual-none-marks : (ts : List Term) (s : State) (m : Marks) (gcds : List ℕ) → (threshold_residual ts s m gcds).step ≡ Unchanged → (threshold_residual ts s m gcds).marks ≡ m
residual-none-marks ts s m gcds h = by (contradicts (residual_check ts s (is_decided m))) refl (nothing_forced ts s (is_decided m)) refl
  where
    l : List ℕ
    l = over (suffixes (is_decided m) ts) gcds

    by : (c : Bool) → contradicts (residual_check ts s (is_decided m)) ≡ c → (n : Bool) → nothing_forced ts s (is_decided m) ≡ n → (threshold_residual ts s m gcds).marks ≡ m
    by true c n q = ap (λ (r : Residual). r.marks) (residual-none ts s m gcds c)
    by false c true q = ap (λ (r : Residual). r.marks) (residual_rest ts s m gcds c q)
    by false c false q =
        let e = residual-forced ts s m gcds c q (force_from (interval s) (placed l) ts 0 m Unchanged) l refl refl in
        sym (ap (λ (r : Residual). r.marks) e) ∙ (from_none (interval s) (placed l) ts 0 m Unchanged (ap (λ (r : Residual). r.step) e ∙ h)).1

unchanged_is : (k : Step) → is_unchanged k ≡ true → k ≡ Unchanged
unchanged_is Unchanged h = refl
unchanged_is Changed h = absurd (clash false h refl)
unchanged_is Contradiction h = absurd (clash false h refl)

-- AN UPPER ABOVE THE SUM is not reached
under : (u : Option ℤ) (n : ℕ) → UpLe (Some (pos (suc n))) u → upper_at_most u (pos n) ≡ false
under None n h = refl
under (Some z) n h = by (le_z z (pos n)) refl
  where
    by : (c : Bool) → le_z z (pos n) ≡ c → c ≡ false
    by true e = clash_ℤ (lt (lt_z-pos n (suc n) ∙ lt-ltb n (suc n) (le_refl (suc n)))) (≤ℤ_trans h (le e))
    by false e = refl

-- THE SEARCH of a row whose sum under a layout is allowed
search_fine : (w : Layout) (raw ts : List Term) → ts ≡ row_terms raw → (s : State) (d : ℕ → Bool) (k : ℕ) → s.known ≡ pos k
    → le_z s.lower (pos (k + open_sum d w ts)) ≡ true → upper_at_most s.upper (pos (k + open_sum d w ts)) ≡ false → contradicts (search_step (search ts s d)) ≡ false
search_fine w raw ts e s d k known low high =
    subst (λ (l : List Term). le_z s.lower (pos (k + open_sum d w l)) ≡ true → upper_at_most s.upper (pos (k + open_sum d w l)) ≡ false → contradicts (search_step (search l s d)) ≡ false)
    (sym e) (λ a c. by (contradicts (search_step (search (row_terms raw) s d))) refl a c) low high
  where
    by : (c : Bool) → contradicts (search_step (search (row_terms raw) s d)) ≡ c → le_z s.lower (pos (k + open_sum d w (row_terms raw))) ≡ true
        → upper_at_most s.upper (pos (k + open_sum d w (row_terms raw))) ≡ false → c ≡ false
    by false q a b = refl
    by true q a b =
        let o = search_refutes raw s d (contradiction_is (search_step (search (row_terms raw) s d)) q) in
        let n = chosen d w (row_terms raw) in
        let same : s.known +ℤ pos n ≡ pos (k + open_sum d w (row_terms raw)) =
        ap (λ (z : ℤ). z +ℤ pos n) known ∙ pos-+ℤ-pos k n ∙ ap (λ (i : ℕ). pos (k + i)) (chosen_open d w (row_terms raw)) in
        absurd (o.2 w (ap (le_z s.lower) same ∙ a)
        (ap (λ (z : ℤ). lt_z z o.0) same ∙ nle-lt_z (pos (k + open_sum d w (row_terms raw))) o.0 (ap (λ (u : Option ℤ). upper_at_most u (pos (k + open_sum d w (row_terms raw)))) (sym o.1) ∙ b)))

-- A NUMBER BEHIND THE LAST ROW has no terms: nothing is tried
empty_residual : (s : State) (m : Marks) (gcds : List ℕ) → threshold_residual [] s m gcds ≡ residual m Unchanged gcds
unfolding has_nonunit
empty_residual s m gcds = residual_rest [] s m gcds (ap contradicts (check-unit [] s (is_decided m) refl)) refl

empty_search : (s : State) (d : ℕ → Bool) → search_step (search [] s d) ≡ Unchanged
unfolding search plan has_nonunit
empty_search s d = refl

module _ (j : Job) (x : Index) (b : Built j x) (conditions : (r : ℕ) → All Condition (get_or x.rows r no_row).terms) (w : Layout)
    (taken : ℕ → Bool) (v : Live) (h : Holds x w taken taken v) (empty : is_empty v.marks.nodes ≡ true) where
  abbrev m : Marks
  m = v.marks

  -- what trying a row shows of a layout
  abbrev Right : ℕ → Type 0
  Right r = (gcds : List ℕ) → let a = threshold_residual (terms_of x.rows r) (state_at v r) m gcds in
      Fits w a.marks × (contradicts a.step ≡ false) × (a.step ≡ Unchanged → contradicts (search_step (search (terms_of x.rows r) (state_at v r) (is_decided a.marks))) ≡ false)

  at_row : (r : ℕ) → IsRow x.rows r → Right r
  at_row r i gcds = (
    p.0,
    p.1,
    λ e. subst (λ (k : Marks). contradicts (search_step (search ts (state_at v r) (is_decided k))) ≡ false) (sym (residual-none-marks ts (state_at v r) m gcds e))
        (search_fine w (get_or (rows_of j) r no_row).raw ts raw (state_at v r) (is_decided m) k known_is low high),
  )
    where
      ts : List Term
      ts = terms_of x.rows r

      k : ℕ
      k = known (bit m.sure) ts

      all : (t : Term) → Memᴰ t ts → is_decided m t.condition ≡ true → taken t.condition ≡ true
      all t i d = none_left taken m h.queued empty t.condition d

      known_is : (state_at v r).known ≡ pos k
      known_is = known_exact x.rows (table_at v) (λ (q : ℕ). taken) v h.stands r i all

      possible_is : (state_at v r).possible ≡ pos (k + sum (open_weights (is_decided m) ts))
      possible_is = possible_exact x.rows (table_at v) (λ (q : ℕ). taken) v h.stands r i all ∙ ap pos (sum-possible m h.stands.apart ts)

      landed : k + open_sum (is_decided m) w ts ≡ sum_of w ts
      landed = sum-known w m (agrees_fits x w v h.agrees) ts

      low : le_z (state_at v r).lower (pos (k + open_sum (is_decided m) w ts)) ≡ true
      low = ap (λ (n : ℕ). le_z (state_at v r).lower (pos n)) landed ∙ of_le (h.agrees.lower r)

      high : upper_at_most (state_at v r).upper (pos (k + open_sum (is_decided m) w ts)) ≡ false
      high = ap (λ (n : ℕ). upper_at_most (state_at v r).upper (pos n)) landed ∙ under (state_at v r).upper (sum_of w ts) (h.agrees.upper r)

      raw : ts ≡ row_terms (get_or (rows_of j) r no_row).raw
      raw = ap (λ (rs : List Row). terms_of rs r) b.rows ∙ (row_made j r (subst (λ (rs : List Row). IsRow rs r) b.rows i)).terms

      p : Fits w (threshold_residual ts (state_at v r) m gcds).marks × (contradicts (threshold_residual ts (state_at v r) m gcds).step ≡ false)
      p = residual_sound ts (state_at v r) m gcds w k (distinct_in ts (b.distinct r i)) (agrees_fits x w v h.agrees) known_is possible_is low high

  behind-rows : (r : ℕ) → length x.rows ≤ r → Right r
  behind-rows r i =
      subst (λ (ts : List Term). (gcds : List ℕ) → let a = threshold_residual ts (state_at v r) m gcds in
      Fits w a.marks × (contradicts a.step ≡ false) × (a.step ≡ Unchanged → contradicts (search_step (search ts (state_at v r) (is_decided a.marks))) ≡ false))
      (sym (ap (λ (y : Row). y.terms) (get_or-eq_default x.rows no_row {n = r} i)))
      (λ gcds.
      let e = empty_residual (state_at v r) m gcds in (
        subst (λ (a : Residual). Fits w a.marks) (sym e) (agrees_fits x w v h.agrees),
        ap (λ (a : Residual). contradicts a.step) e,
        λ q. ap contradicts (empty_search (state_at v r) (is_decided (threshold_residual [] (state_at v r) m gcds).marks)),
      ))

  right : (r : ℕ) → Right r
  right r = by (dec_lt r (length x.rows))
    where
      by : Dec (r < length x.rows) → Right r
      by (yes i) = at_row r i
      by (no i) = behind-rows r (omega arith)

  -- A ROW IS TRIED
  pub try_fine : (gcds : List ℕ) (visits : ℕ) → (contradicts (try_row x v gcds visits).step ≡ false) × Holds x w taken taken (try_row x v gcds visits).live
  try_fine gcds visits =
      try_ends x v gcds visits (λ (t : Sifted). (contradicts t.step ≡ false) × Holds x w taken taken t.live) (λ e. (found.2 (unchanged_is a.step e), holds)) (λ e. (found.1, holds))
    where
      r : ℕ
      r = oldest v.residuals.queue

      ts : List Term
      ts = try_terms x v

      a : Residual
      a = try_residual x v gcds

      found : Fits w a.marks × (contradicts a.step ≡ false) × (a.step ≡ Unchanged → contradicts (search_step (search ts (state_at v r) (is_decided a.marks))) ≡ false)
      found = right r gcds

      holds : Holds x w taken taken (try_live x v gcds)
      holds =
          marked x w taken taken taken v a.marks v.dirty (next_row v.residuals) h
          (residual-named (Stay m) Small (λ value k n s p. stay_decide m value k n p) ts (conditions r) (state_at v r) m gcds (stay_same m))
          (residual-named Apart Small (λ value k n s p. apart_decide value k n p) ts (conditions r) (state_at v r) m gcds h.stands.apart) found.0
          (residual-named (Queued taken) Small (queued_decide taken) ts (conditions r) (state_at v r) m gcds h.queued)
