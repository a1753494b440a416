-- Forcing one term after the other, from the heavy end: what a turn does to the marks and the answer, and that there is room for it.
use Rattle.std.specs.Prelude.{ℕ, suc, ◌+◌, ◌-◌, ◌<◌, ◌≤◌, ◌≡◌, Bool, true, false, ◌≢◌, length, get_or, drop}
use Rattle.std.proofs.Math.Decide.{ℕ_discrete}
use Rattle.std.proofs.Common.{arith, sym, ◌∙◌, subst, add-one, length-append, length-drop, drop_of_length-le, eq-eqb, ne_eqb}
use Rattle.std.proofs.Math.Path.{refl, ap}
use mathlib.Core.List.{List, [], ◌∷◌, reverse}
use Rattle.std.proofs.Math.ListN.{length-reverse, get_or-append}
use Rattle.memory.specs.Limits.{max_nodes}
use Rattle.numeric.specs.Threshold.{Term, term}
use Rattle.numeric.specs.TermsLaws.{up_terms, length-terms}
use Rattle.state.specs.declared.Step.{Step}
use Rattle.state.specs.declared.Step.TheVariants.{Unchanged, Changed, Contradiction}
use Rattle.state.specs.declared.State.{State}
use Rattle.state.specs.Step.{joined, contradicts}
use Rattle.queues.specs.declared.Ring.{Ring}
use Rattle.queues.specs.Queue.{queue}
use Rattle.queues.proofs.MarksLaws.{waits-decide}
use Rattle.queues.specs.Waiting.{Waits}
use Rattle.queues.specs.Marks.{Marks, marks, is_decided, Decided, decided, decide}
use Rattle.intervals.specs.declared.Interval.{Interval}
use Rattle.divisors.specs.Gcd.{gcd}
use Rattle.misses.specs.MissesLaws.{clash}
use Rattle.numeric.specs.Slices.{Below, terms}
use Rattle.intervals.specs.SuffixLaws.{length_suffix}
use Rattle.intervals.specs.Residual.{
  interval,
  residual_check,
  suffixes,
  placed,
  off_misses,
  on_misses,
  force_term,
  force_from,
  Residual,
  residual,
  over,
  nothing_forced,
  threshold_residual,
}

module _ (i : Interval) (m : Marks) (t : Term) (divisor : ℕ) where
  pub force-unit : divisor ≡ 1 → force_term i m t divisor ≡ decided m Unchanged
  unfolding force_term
  force-unit e = rw (eq-eqb divisor 1 e, force_term)

  module _ (n : divisor ≢ 1) where
    pub force-none : off_misses i t.weight divisor ≡ true → on_misses i t.weight divisor ≡ true → force_term i m t divisor ≡ decided m Contradiction
    unfolding force_term
    force-none f g = rw (ne_eqb divisor 1 n, f, g, force_term)

    pub force_sure : off_misses i t.weight divisor ≡ true → on_misses i t.weight divisor ≡ false → force_term i m t divisor ≡ decide true m t.condition
    unfolding force_term
    force_sure f g = rw (ne_eqb divisor 1 n, f, g, force_term)

    pub force_never : off_misses i t.weight divisor ≡ false → on_misses i t.weight divisor ≡ true → force_term i m t divisor ≡ decide false m t.condition
    unfolding force_term
    force_never f g = rw (ne_eqb divisor 1 n, f, g, force_term)

    pub force_free : off_misses i t.weight divisor ≡ false → on_misses i t.weight divisor ≡ false → force_term i m t divisor ≡ decided m Unchanged
    unfolding force_term
    force_free f g = rw (ne_eqb divisor 1 n, f, g, force_term)

-- What holds of each of the four ways to force a term holds of the way taken.
pub force-cases : (P : Decided → Type 0) (i : Interval) (m : Marks) (t : Term) (divisor : ℕ) → P (decided m Unchanged)
    → (off_misses i t.weight divisor ≡ true → on_misses i t.weight divisor ≡ true → P (decided m Contradiction))
    → (off_misses i t.weight divisor ≡ true → P (decide true m t.condition))
    → (on_misses i t.weight divisor ≡ true → P (decide false m t.condition)) → P (force_term i m t divisor)
force-cases P i m t divisor rest none sure never =
    by (ℕ_discrete divisor 1) (off_misses i t.weight divisor) refl (on_misses i t.weight divisor) refl
  where
    by : Dec (divisor ≡ 1) → (off : Bool) → off_misses i t.weight divisor ≡ off → (on : Bool) → on_misses i t.weight divisor ≡ on
        → P (force_term i m t divisor)
    by (yes e) off f on g = rw (force-unit i m t divisor e) rest
    by (no n) true f true g = rw (force-none i m t divisor n f g) (none f g)
    by (no n) true f false g = rw (force_sure i m t divisor n f g) (sure f)
    by (no n) false f true g = rw (force_never i m t divisor n f g) (never g)
    by (no n) false f false g = rw (force_free i m t divisor n f g) rest

-- Forcing a term keeps that each node waits at most once.
pub waits-force : (i : Interval) (m : Marks) (t : Term) (divisor : ℕ) → t.condition < max_nodes → Waits m → Waits (force_term i m t divisor).marks
waits-force i m t divisor h w =
    force-cases (λ (x : Decided). Waits x.marks) i m t divisor w (λ f g. w) (λ f. waits-decide m w true t.condition h)
    (λ g. waits-decide m w false t.condition h)

module _ (i : Interval) (behind : ℕ → ℕ) (t : Term) (ts : List Term) (prefix : ℕ) (m : Marks) (step : Step) where
  pub from_skip : is_decided m t.condition ≡ true → force_from i behind (t ∷ ts) prefix m step ≡ force_from i behind ts prefix m step
  unfolding force_from
  from_skip h = rw (h, force_from)

  module _ (h : is_decided m t.condition ≡ false) where
    pub from_stop : (d : Decided) → d ≡ force_term i m t (gcd prefix (behind (length ts))) → contradicts d.step ≡ true
        → force_from i behind (t ∷ ts) prefix m step ≡ decided d.marks Contradiction
    unfolding force_from
    from_stop d e k =
        let l = rw e at k in
        rw (h, l, force_from) (ap (λ (x : Decided). decided x.marks Contradiction) (sym e))

    pub from_more : (d : Decided) → d ≡ force_term i m t (gcd prefix (behind (length ts))) → contradicts d.step ≡ false
        → force_from i behind (t ∷ ts) prefix m step ≡ force_from i behind ts (gcd prefix t.weight) d.marks (joined step d.step)
    unfolding force_from
    from_more d e k =
        let l = rw e at k in
        rw (h, l, force_from) (ap (λ (x : Decided). force_from i behind ts (gcd prefix t.weight) x.marks (joined step x.step)) (sym e))

-- The same at a place of the two slices; the terms behind it are as many as the suffix's place says.
module _ (i : Interval) (behind : ℕ → ℕ) (cs ws : List ℕ) (p prefix : ℕ) (m : Marks) (step : Step) (f : p < length cs) (g : p < length ws) where
  here : force_from i behind (drop p (terms cs ws)) prefix m step
      ≡ force_from i behind (term (get_or cs p 0) (get_or ws p 0) ∷ drop (p + 1) (terms cs ws)) prefix m step
  here =
      ap (λ (l : List Term). force_from i behind l prefix m step) (up_terms cs ws p f g)
      ∙ ap (λ (k : ℕ). force_from i behind (term (get_or cs p 0) (get_or ws p 0) ∷ drop k (terms cs ws)) prefix m step) (sym (add-one p))

  pub force_skip : is_decided m (get_or cs p 0) ≡ true → force_from i behind (drop p (terms cs ws)) prefix m step ≡ force_from i behind (drop (p + 1) (terms cs ws)) prefix m step
  force_skip h = here ∙ from_skip i behind (term (get_or cs p 0) (get_or ws p 0)) (drop (p + 1) (terms cs ws)) prefix m step h

  module _ (same : length cs ≡ length ws) (h : is_decided m (get_or cs p 0) ≡ false) (divisor : ℕ) (v : divisor ≡ gcd prefix (behind (length ws - p - 1)))
      (d : Decided) (e : d ≡ force_term i m (term (get_or cs p 0) (get_or ws p 0)) divisor) where
    as-behind : d ≡ force_term i m (term (get_or cs p 0) (get_or ws p 0)) (gcd prefix (behind (length (drop (p + 1) (terms cs ws)))))
    as-behind =
        e ∙ ap (force_term i m (term (get_or cs p 0) (get_or ws p 0)))
        (v ∙ ap (λ (k : ℕ). gcd prefix (behind k))
        (sym (length-drop (p + 1) (terms cs ws) ∙ omega (arith, length-terms cs ws))))

    pub force_stop : contradicts d.step ≡ true → force_from i behind (drop p (terms cs ws)) prefix m step ≡ decided d.marks Contradiction
    force_stop k = here ∙ from_stop i behind (term (get_or cs p 0) (get_or ws p 0)) (drop (p + 1) (terms cs ws)) prefix m step h d as-behind k

    pub force_more : contradicts d.step ≡ false
        → force_from i behind (drop p (terms cs ws)) prefix m step
        ≡ force_from i behind (drop (p + 1) (terms cs ws)) (gcd prefix (get_or ws p 0)) d.marks (joined step d.step)
    force_more k = here ∙ from_more i behind (term (get_or cs p 0) (get_or ws p 0)) (drop (p + 1) (terms cs ws)) prefix m step h d as-behind k

-- One turn of the loop: the marks, the queue and the joined answer that it leaves.
module _ (i : Interval) (behind : ℕ → ℕ) (cs ws : List ℕ) (p prefix : ℕ) (m : Marks) (step : Step) (f : p < length cs) (g : p < length ws)
    (same : length cs ≡ length ws) (h : is_decided m (get_or cs p 0) ≡ false) (divisor : ℕ) (v : divisor ≡ gcd prefix (behind (length ws - p - 1)))
    (s n l : List ℕ) (r r' : Ring) (k k' : Step) (e : decided (marks s n (queue l r)) k ≡ force_term i m (term (get_or cs p 0) (get_or ws p 0)) divisor)
    (a : r' ≡ r) (j : k' ≡ joined step k) where
  pub turn-waits : get_or cs p 0 < max_nodes → Waits m → Waits (marks s n (queue l r'))
  turn-waits b w =
      let y : marks s n (queue l r') ≡ (force_term i m (term (get_or cs p 0) (get_or ws p 0)) divisor).marks
      = ap (λ (x : Ring). marks s n (queue l x)) a ∙ ap (λ (d : Decided). d.marks) e in
      rw y (waits-force i m (term (get_or cs p 0) (get_or ws p 0)) divisor b w)

  pub turn_stops : contradicts k ≡ true → decided (marks s n (queue l r')) k' ≡ force_from i behind (drop p (terms cs ws)) prefix m step
  turn_stops u =
      ap (λ (x : Ring). decided (marks s n (queue l x)) k') a
      ∙ ap (decided (marks s n (queue l r))) (j ∙ last step k u)
      ∙ sym (force_stop i behind cs ws p prefix m step f g same h divisor v (decided (marks s n (queue l r)) k) e u)
    where
      last : (x y : Step) → contradicts y ≡ true → joined x y ≡ Contradiction
      last x Unchanged u = absurd (clash (sym u))
      last x Changed u = absurd (clash (sym u))
      last Unchanged Contradiction u = refl
      last Changed Contradiction u = refl
      last Contradiction Contradiction u = refl

  pub turn_goes_on : (next : ℕ) → next ≡ gcd prefix (get_or ws p 0) → contradicts k ≡ false
      → force_from i behind (drop (p + 1) (terms cs ws)) next (marks s n (queue l r')) k' ≡ force_from i behind (drop p (terms cs ws)) prefix m step
  turn_goes_on next w u =
      ap (λ (x : ℕ). force_from i behind (drop (p + 1) (terms cs ws)) x (marks s n (queue l r')) k') w
      ∙ ap (λ (x : Ring). force_from i behind (drop (p + 1) (terms cs ws)) (gcd prefix (get_or ws p 0)) (marks s n (queue l x)) k') a
      ∙ ap (force_from i behind (drop (p + 1) (terms cs ws)) (gcd prefix (get_or ws p 0)) (marks s n (queue l r))) j
      ∙ sym (force_more i behind cs ws p prefix m step f g same h divisor v (decided (marks s n (queue l r)) k) e u)

-- At the end, and by another function that agrees on as many as there are terms.
pub force_end : (i : Interval) (behind : ℕ → ℕ) (cs ws : List ℕ) (p prefix : ℕ) (m : Marks) (step : Step) → length ws ≤ p
    → force_from i behind (drop p (terms cs ws)) prefix m step ≡ decided m step
unfolding force_from
force_end i behind cs ws p prefix m step h =
    ap (λ (l : List Term). force_from i behind l prefix m step) (drop_of_length-le (terms cs ws) {i = p} (omega (arith, length-terms cs ws)))

pub force_alike : (i : Interval) (f g : ℕ → ℕ) (ts : List Term) → ((n : ℕ) → n < length ts → f n ≡ g n) → (prefix : ℕ) (m : Marks) (step : Step)
    → force_from i f ts prefix m step ≡ force_from i g ts prefix m step
unfolding force_from
force_alike i f g [] h prefix m step = refl
force_alike i f g (t ∷ ts) h prefix m step =
    by (force_alike i f g ts (λ (n : ℕ) (k : n < length ts). h n (omega arith))) (is_decided m t.condition) refl
  where
    by : ((p : ℕ) (n : Marks) (s : Step) → force_from i f ts p n s ≡ force_from i g ts p n s)
        → (u : Bool) → is_decided m t.condition ≡ u → force_from i f (t ∷ ts) prefix m step ≡ force_from i g (t ∷ ts) prefix m step
    by rest true e = from_skip i f t ts prefix m step e ∙ rest prefix m step ∙ sym (from_skip i g t ts prefix m step e)
    by rest false e = turn (contradicts d.step) refl
      where
        d : Decided
        d = force_term i m t (gcd prefix (g (length ts)))

        q : d ≡ force_term i m t (gcd prefix (f (length ts)))
        q = ap (λ (k : ℕ). force_term i m t (gcd prefix k)) (sym (h (length ts) (omega arith)))

        turn : (v : Bool) → contradicts d.step ≡ v → force_from i f (t ∷ ts) prefix m step ≡ force_from i g (t ∷ ts) prefix m step
        turn true k = from_stop i f t ts prefix m step e d q k ∙ sym (from_stop i g t ts prefix m step e d refl k)
        turn false k =
            from_more i f t ts prefix m step e d q k ∙ rest (gcd prefix t.weight) d.marks (joined step d.step)
            ∙ sym (from_more i g t ts prefix m step e d refl k)

-- From a buffer that begins with the suffixes.
pub force-over : (i : Interval) (suf b : List ℕ) (ts : List Term) (prefix : ℕ) (m : Marks) (step : Step) → length ts ≤ length suf
    → force_from i (placed (over suf b)) ts prefix m step ≡ force_from i (placed suf) ts prefix m step
force-over i suf b ts prefix m step h =
    force_alike i (placed (over suf b)) (placed suf) ts
    (λ (n : ℕ) (k : n < length ts). get_or-append suf (drop (length suf) b) 0 n (omega arith)) prefix m step

-- The whole of it: a contradiction of the row, nothing to force, or what forcing did.
module _ (ts : List Term) (s : State) (m : Marks) (gcds : List ℕ) where
  pub residual-none : contradicts (residual_check ts s (is_decided m)) ≡ true → threshold_residual ts s m gcds ≡ residual m Contradiction gcds
  unfolding threshold_residual
  residual-none h = rw (h, threshold_residual)

  module _ (h : contradicts (residual_check ts s (is_decided m)) ≡ false) where
    pub residual_rest : nothing_forced ts s (is_decided m) ≡ true → threshold_residual ts s m gcds ≡ residual m Unchanged gcds
    unfolding threshold_residual
    residual_rest k = rw (h, k, threshold_residual)

    pub residual-forced : nothing_forced ts s (is_decided m) ≡ false → (d : Decided) (g : List ℕ) → g ≡ over (suffixes (is_decided m) ts) gcds
        → d ≡ force_from (interval s) (placed g) ts 0 m Unchanged → residual d.marks d.step g ≡ threshold_residual ts s m gcds
    unfolding threshold_residual
    residual-forced k d g e f =
        let l = length_suffix (is_decided m) (reverse ts) 0 in
        let r = length-reverse ts in
        let w = force-over (interval s) (suffixes (is_decided m) ts) gcds ts 0 m Unchanged (omega arith) in
        ap (residual d.marks d.step) e
        ∙ ap (λ (x : Decided). residual x.marks x.step (over (suffixes (is_decided m) ts) gcds))
        (f ∙ ap (λ (y : List ℕ). force_from (interval s) (placed y) ts 0 m Unchanged) e ∙ w)
        ∙ rw (h, k, threshold_residual)

-- What forcing each of the terms keeps, the residual of the row keeps.
abbrev pub Each : (Term → Type 0) → List Term → Type 0
Each Q [] = Unit {0}
Each Q (t ∷ ts) = Q t × Each Q ts

module _ (Q : Term → Type 0) (P : Marks → Type 0)
    (one : (i : Interval) (m : Marks) (t : Term) (divisor : ℕ) → Q t → P m → P (force_term i m t divisor).marks) where
  from-keeping : (i : Interval) (behind : ℕ → ℕ) (ts : List Term) (prefix : ℕ) (m : Marks) (step : Step) → Each Q ts → P m
      → P (force_from i behind ts prefix m step).marks
  unfolding force_from
  from-keeping i behind [] prefix m step h w = w
  from-keeping i behind (t ∷ ts) prefix m step h w =
      by (λ (p : ℕ) (n : Marks) (s : Step) (v : P n). from-keeping i behind ts p n s h.1 v) (is_decided m t.condition) refl
    where
      d : Decided
      d = force_term i m t (gcd prefix (behind (length ts)))

      after : P d.marks
      after = one i m t (gcd prefix (behind (length ts))) h.0 w

      turn : ((p : ℕ) (n : Marks) (s : Step) → P n → P (force_from i behind ts p n s).marks) → is_decided m t.condition ≡ false
          → (b : Bool) → contradicts d.step ≡ b → P (force_from i behind (t ∷ ts) prefix m step).marks
      turn ih e true k = rw (from_stop i behind t ts prefix m step e d refl k) after
      turn ih e false k = rw (from_more i behind t ts prefix m step e d refl k) (ih (gcd prefix t.weight) d.marks (joined step d.step) after)

      by : ((p : ℕ) (n : Marks) (s : Step) → P n → P (force_from i behind ts p n s).marks) → (u : Bool) → is_decided m t.condition ≡ u
          → P (force_from i behind (t ∷ ts) prefix m step).marks
      by ih true e = rw (from_skip i behind t ts prefix m step e) (ih prefix m step w)
      by ih false e = turn ih e (contradicts d.step) refl

  pub residual_keeping : (ts : List Term) (s : State) (m : Marks) (gcds : List ℕ) → Each Q ts → P m → P (threshold_residual ts s m gcds).marks
  residual_keeping ts s m gcds h w = by (contradicts (residual_check ts s (is_decided m))) refl (nothing_forced ts s (is_decided m)) refl
    where
      l : List ℕ
      l = over (suffixes (is_decided m) ts) gcds

      by : (c : Bool) → contradicts (residual_check ts s (is_decided m)) ≡ c → (n : Bool) → nothing_forced ts s (is_decided m) ≡ n
          → P (threshold_residual ts s m gcds).marks
      by true c n q = rw (residual-none ts s m gcds c) w
      by false c true q = rw (residual_rest ts s m gcds c q) w
      by false c false q =
          subst (λ (r : Residual). P r.marks) (residual-forced ts s m gcds c q (force_from (interval s) (placed l) ts 0 m Unchanged) l refl refl)
          (from-keeping (interval s) (placed l) ts 0 m Unchanged h w)

-- Nodes wait at most once after it, too.
abbrev pub Inside : List Term → Type 0
Inside = Each (λ (t : Term). t.condition < max_nodes)

pub inside_terms : (cs ws : List ℕ) → Below max_nodes cs → Inside (terms cs ws)
unfolding terms
inside_terms [] ws h = tt
inside_terms (c ∷ cs) [] h = tt
inside_terms (c ∷ cs) (w ∷ ws) h = (h 0 (omega arith), inside_terms cs ws (λ (i : ℕ) (k : i < length cs). h (suc i) (omega arith)))

pub waits-residual : (ts : List Term) (s : State) (m : Marks) (gcds : List ℕ) → Inside ts → Waits m → Waits (threshold_residual ts s m gcds).marks
waits-residual = residual_keeping (λ (t : Term). t.condition < max_nodes) Waits waits-force

-- The buffer of gcds keeps its length.
pub gcds_length : (ts : List Term) (s : State) (m : Marks) (gcds : List ℕ) → length ts < length gcds → length (threshold_residual ts s m gcds).gcds ≡ length gcds
gcds_length ts s m gcds h = by (contradicts (residual_check ts s (is_decided m))) refl (nothing_forced ts s (is_decided m)) refl
  where
    l : List ℕ
    l = suffixes (is_decided m) ts

    laid : length (over l gcds) ≡ length gcds
    laid =
        length-append l (drop (length l) gcds) ∙ ap (λ (k : ℕ). length l + k) (length-drop (length l) gcds)
        ∙ omega (arith, length_suffix (is_decided m) (reverse ts) 0, length-reverse ts)

    by : (c : Bool) → contradicts (residual_check ts s (is_decided m)) ≡ c → (n : Bool) → nothing_forced ts s (is_decided m) ≡ n
        → length (threshold_residual ts s m gcds).gcds ≡ length gcds
    by true c n q = ap (λ (r : Residual). length r.gcds) (residual-none ts s m gcds c)
    by false c true q = ap (λ (r : Residual). length r.gcds) (residual_rest ts s m gcds c q)
    by false c false q =
        ap (λ (r : Residual). length r.gcds)
        (sym (residual-forced ts s m gcds c q (force_from (interval s) (placed (over l gcds)) ts 0 m Unchanged) (over l gcds) refl refl))
        ∙ laid
