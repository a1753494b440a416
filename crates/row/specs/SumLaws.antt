-- Sums of a row's terms: under every layout those of its raw list. And what a row's terms are is settled by these sums.
-- Assumes nothing.
use Rattle.std.specs.Prelude.{ℕ, ◌+◌, ◌*◌, ◌≤◌, ◌<◌, ◌≡◌, refl, ◌≢◌, Bool, true, false, cond, List, [], ◌∷◌, eqb, length}
use Rattle.std.proofs.Math.Decide.{ℕ_discrete}
use Rattle.std.proofs.Common.{arith, sym, ap, ap₂, ◌∙◌, inl, inr, eqb-true, eq-eqb, ne_eqb}
use Rattle.base.specs.All.{All}
use Rattle.base.specs.InsertionLaws.{sort_sum}
use Rattle.memory.specs.Limits.{list_terms}
use Rattle.memory.specs.Ranges.{raw_limit, weight_limit}
use Rattle.numeric.specs.Threshold.{Term, term}
use Rattle.numeric.specs.LayoutLaws.{sum_of}
use Rattle.row.specs.Terms.{before, merge, merged, sorted, row_terms, total}
use Rattle.row.specs.TermsLaws.{Distinct, Positive, Ordered, either, before-true, Before}

-- What a term adds.
abbrev pub share : (ℕ → Bool) → Term → ℕ
share v t = cond (v t.condition) t.weight 0

pub share_more : (v : ℕ → Bool) (c a b : ℕ) → share v (term c (a + b)) ≡ share v (term c a) + share v (term c b)
share_more v c a b = by (v c)
  where
    by : (x : Bool) → cond x (a + b) 0 ≡ cond x a 0 + cond x b 0
    by true = refl
    by false = refl

pub share_zero : (v : ℕ → Bool) (t : Term) → t.weight ≡ 0 → share v t ≡ 0
share_zero v t e = by (v t.condition)
  where
    by : (x : Bool) → cond x t.weight 0 ≡ 0
    by true = e
    by false = refl

sum-merge : (v : ℕ → Bool) (t : Term) (us : List Term) → sum_of v (merge t us) ≡ share v t + sum_of v us
unfolding merge sum_of
sum-merge v t [] = refl
sum-merge v t (u ∷ us) =
    either (λ (l : List Term). sum_of v l ≡ share v t + (share v u + sum_of v us)) (eqb t.condition u.condition)
    (λ e. omega (arith, share_more v u.condition u.weight t.weight, ap (λ (c : ℕ). share v (term c t.weight)) (eqb-true t.condition u.condition e)))
    (λ e. omega (arith, sum-merge v t us))

pub sum-merged : (v : ℕ → Bool) (raw : List Term) → sum_of v (merged raw) ≡ sum_of v raw
unfolding merged sum_of
sum-merged v [] = refl
sum-merged v (t ∷ ts) =
    either (λ (l : List Term). sum_of v l ≡ share v t + sum_of v ts) (eqb t.weight 0)
    (λ e. omega (arith, share_zero v t (eqb-true t.weight 0 e), sum-merged v ts))
    (λ e. omega (arith, sum-merge v t (merged ts), sum-merged v ts))

pub sum-sorted : (v : ℕ → Bool) (ts : List Term) → sum_of v (sorted ts) ≡ sum_of v ts
unfolding sum_of
sum-sorted v = sort_sum before (share v) (sum_of v) (λ t ts. refl)

-- THE ROW COUNTS WHAT ITS RAW LIST COUNTS, UNDER EVERY LAYOUT
pub row-sum : (v : ℕ → Bool) (raw : List Term) → sum_of v (row_terms raw) ≡ sum_of v raw
row-sum v raw = sum-sorted v (merged raw) ∙ sum-merged v raw

pub total-sum : (ts : List Term) → total ts ≡ sum_of (λ (c : ℕ). true) ts
unfolding total sum_of
total-sum [] = refl
total-sum (t ∷ ts) = ap (λ (n : ℕ). t.weight + n) (total-sum ts)

pub row-total : (raw : List Term) → total (row_terms raw) ≡ total raw
row-total raw = total-sum (row_terms raw) ∙ row-sum (λ (c : ℕ). true) raw ∙ sym (total-sum raw)

pub sum-total : (v : ℕ → Bool) (ts : List Term) → sum_of v ts ≤ total ts
unfolding total sum_of
sum-total v [] = omega arith
sum-total v (t ∷ ts) = by (v t.condition) (sum-total v ts)
  where
    by : (x : Bool) → sum_of v ts ≤ total ts → cond x t.weight 0 + sum_of v ts ≤ t.weight + total ts
    by true h = omega arith
    by false h = omega arith

-- ---- totals fit

total-below : (ts : List Term) → All (λ (t : Term). t.weight < raw_limit) ts → total ts + length ts ≤ length ts * raw_limit
unfolding total
total-below [] h = omega arith
total-below (t ∷ ts) h = omega (arith, total-below ts h.1, h.0)

pub total-fits : (ts : List Term) → All (λ (t : Term). t.weight < raw_limit) ts → length ts ≤ list_terms → total ts < weight_limit
total-fits ts h n = omega (arith, total-below ts h)

pub row-total-fits : (raw : List Term) → All (λ (t : Term). t.weight < raw_limit) raw → length raw ≤ list_terms → total (row_terms raw) < weight_limit
row-total-fits raw h n = omega (arith, row-total raw, total-fits raw h n)

-- ---- what a row is, is settled by the weight of each condition

abbrev pub weight_in : ℕ → List Term → ℕ
weight_in c = sum_of (eqb c)

share_same : (t : Term) → share (eqb t.condition) t ≡ t.weight
share_same t = simp (eq-eqb t.condition t.condition refl)

share_other : (c : ℕ) (t : Term) → t.condition ≢ c → share (eqb c) t ≡ 0
share_other c t n = simp (ne_eqb c t.condition (λ e. n (sym e)))

none_in : (c : ℕ) (ts : List Term) → All (λ (t : Term). t.condition ≢ c) ts → weight_in c ts ≡ 0
unfolding sum_of
none_in c [] h = refl
none_in c (t ∷ ts) h = omega (arith, share_other c t h.0, none_in c ts h.1)

-- the first term stands before every other condition's whole weight
first-before : (t : Term) (c : ℕ) (us : List Term) → Distinct us → All (λ (u : Term). before t u ≡ true) us → 0 < weight_in c us
    → before t (term c (weight_in c us)) ≡ true
unfolding sum_of
first-before t c [] d h p = absurd (let z : 0 < 0 = p in omega arith)
first-before t c (u ∷ us) d h p = by (λ q. first-before t c us d.1 h.1 q) (ℕ_discrete c u.condition)
  where
    by : (0 < weight_in c us → before t (term c (weight_in c us)) ≡ true) → Dec (c ≡ u.condition)
        → before t (term c (share (eqb c) u + weight_in c us)) ≡ true
    by f (yes e) =
        ap (before t)
        (ap₂ term e (ap (λ (k : ℕ). share (eqb k) u + weight_in k us) e
        ∙ ap₂ ◌+◌ (share_same u) (none_in u.condition us d.0) ∙ (let z : u.weight + 0 ≡ u.weight = omega arith in z)))
        ∙ h.0
    by f (no n) =
        let z = share_other c u (λ (e : u.condition ≡ c). n (sym e)) in
        let y : share (eqb c) u + weight_in c us ≡ weight_in c us = omega arith in
        ap (λ (k : ℕ). before t (term c k)) y ∙ f (omega arith)

-- a row that has a term has weight on its condition
some_in : (t : Term) (ts : List Term) → 0 < t.weight → weight_in t.condition (t ∷ ts) ≡ 0 → ⊥
unfolding sum_of
some_in t ts p e = omega (arith, share_same t)

-- LISTS IN ORDER, OF DISTINCT CONDITIONS AND POSITIVE WEIGHTS, ARE EQUAL IF EACH CONDITION WEIGHS THE SAME IN BOTH
pub unique : (xs ys : List Term) → Ordered xs → Distinct xs → Positive xs → Ordered ys → Distinct ys → Positive ys
    → ((c : ℕ) → weight_in c xs ≡ weight_in c ys) → xs ≡ ys
unfolding sum_of
unique [] [] ox dx px oy dy py h = refl
unique [] (y ∷ ys) ox dx px oy dy py h = absurd (some_in y ys py.0 (sym (h y.condition)))
unique (x ∷ xs) [] ox dx px oy dy py h = absurd (some_in x xs px.0 (h x.condition))
unique (x ∷ xs) (y ∷ ys) ox dx px oy dy py h =
    by (λ k. unique xs ys ox.1 dx.1 px.1 oy.1 dy.1 py.1 k) (ℕ_discrete x.condition y.condition)
  where
    by : (((c : ℕ) → weight_in c xs ≡ weight_in c ys) → xs ≡ ys) → Dec (x.condition ≡ y.condition) → ◌≡◌ {A = List Term} (x ∷ xs) (y ∷ ys)
    by f (yes e) =
        let w : x.weight ≡ y.weight =
        omega (
          arith,
          h x.condition,
          share_same x,
          share_same y,
          ap (λ (c : ℕ). share (eqb c) y) e,
          none_in x.condition xs dx.0,
          none_in y.condition ys dy.0,
          ap (λ (c : ℕ). weight_in c ys) e,
        ) in
        let same : x ≡ y = ap₂ term e w in
        ap₂ ◌∷◌ same (f (λ c. omega (arith, h c, ap (share (eqb c)) same)))
    by f (no n) = absurd (two (before-true x y a) (before-true y x b))
      where
        a : before x y ≡ true
        a =
            let z : weight_in y.condition xs ≡ y.weight =
            omega (arith, h y.condition, share_same y, share_other y.condition x n, none_in y.condition ys dy.0) in
            let q : 0 < weight_in y.condition xs = omega (arith, py.0) in
            ap (λ (k : ℕ). before x (term y.condition k)) (sym z) ∙ first-before x y.condition xs dx.1 ox.0 q

        b : before y x ≡ true
        b =
            let z : weight_in x.condition ys ≡ x.weight =
            omega (arith, h x.condition, share_same x, share_other x.condition y (λ (e : y.condition ≡ x.condition). n (sym e)), none_in x.condition xs dx.0) in
            let q : 0 < weight_in x.condition ys = omega (arith, px.0) in
            ap (λ (k : ℕ). before y (term x.condition k)) (sym z) ∙ first-before y x.condition ys dy.1 oy.0 q

        two : Before x y → Before y x → ⊥
        two (inl p) (inl q) = omega arith
        two (inl p) (inr q) = omega arith
        two (inr p) (inl q) = omega arith
        two (inr p) (inr q) = omega arith
