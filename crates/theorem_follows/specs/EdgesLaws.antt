-- EDGES of a node: one for each row in which it stands, with its weight there, each row at most once.
use Prim.Native.Nat.{ℕ, zero, suc, ◌+◌, ◌<◌}
use Rattle.std.proofs.Common.{not-suc-le-zero, le_of_suc-le-suc, sym, ap₂, ◌∙◌, inl, inr, eq-eqb, ne_eqb, eqb-true}
use native.Mathlib.Omega.{arith}
use Rattle.std.specs.Prelude.{◌≡◌, Bool, false, ◌||◌, ◌⊎◌, ◌≢◌, length, get_or, eqb}
use Rattle.std.proofs.Math.Path.{refl, ap, subst}
use Rattle.std.proofs.Math.Bool.{true}
use mathlib.Core.List.Memᴰ
use mathlib.Core.List.{List, [], ◌∷◌, ◌++◌, Memᴰ}
use Rattle.std.proofs.Math.Logic.{⊎_elim}
use Rattle.std.proofs.lemmas.Bool.{eqb-false}
use Rattle.base.specs.All.{All}
use Rattle.numeric.specs.Threshold.{Term, term}
use Rattle.row.specs.TermsLaws.{Distinct}
use Rattle.rows.specs.Rows.{Row, no_row, Edge, edge, edges_in, edges_from, edges_of}
use Rattle.theorem_table.specs.Table.{IsRow, terms_of}

-- Some edge leads to the row.
unfoldable pub leads_to : ℕ → List Edge → Bool
leads_to r [] = false
leads_to r (e ∷ es) = eqb e.row r || leads_to r es

-- No row twice.
abbrev pub OnceEach : List Edge → Type 0
OnceEach [] = Unit {0}
OnceEach (e ∷ es) = ((f : Edge) → Memᴰ f es → f.row ≢ e.row) × OnceEach es

pub leads_not : (r : ℕ) (es : List Edge) → ((f : Edge) → Memᴰ f es → f.row ≢ r) → leads_to r es ≡ false
unfolding leads_to
leads_not r [] h = refl
leads_not r (e ∷ es) h = ap₂ (λ (a b : Bool). a || b) (ne_eqb e.row r (h e (Memᴰ.head refl))) (leads_not r es (λ f m. h f (Memᴰ.tail m)))

pub leads_here : (e : Edge) (es : List Edge) → leads_to e.row (e ∷ es) ≡ true
unfolding leads_to
leads_here e es = ap (λ (b : Bool). b || leads_to e.row es) (eq-eqb e.row e.row refl)

pub leads_other : (r : ℕ) (e : Edge) (es : List Edge) → r ≢ e.row → leads_to r (e ∷ es) ≡ leads_to r es
unfolding leads_to
leads_other r e es h = ap (λ (b : Bool). b || leads_to r es) (ne_eqb e.row r (λ q. h (sym q)))

leads_behind : (r : ℕ) (xs ys : List Edge) → leads_to r ys ≡ true → leads_to r (xs ++ ys) ≡ true
unfolding leads_to
leads_behind r [] ys h = h
leads_behind r (x ∷ xs) ys h = by (eqb x.row r) (leads_behind r xs ys h)
  where
    by : (b : Bool) → leads_to r (xs ++ ys) ≡ true → (b || leads_to r (xs ++ ys)) ≡ true
    by true k = refl
    by false k = k

module _ (c : ℕ) where
  -- at one term: an edge, or none
  in-same : (r : ℕ) (t : Term) (ts : List Term) → t.condition ≡ c → edges_in c r (t ∷ ts) ≡ edge r t.weight ∷ edges_in c r ts
  unfolding edges_in
  in-same r t ts e = rw (eq-eqb t.condition c e, edges_in)

  in-other : (r : ℕ) (t : Term) (ts : List Term) → t.condition ≢ c → edges_in c r (t ∷ ts) ≡ edges_in c r ts
  unfolding edges_in
  in-other r t ts e = rw (ne_eqb t.condition c e, edges_in)

  same_or_not : (t : Term) → (t.condition ≡ c) ⊎ (t.condition ≢ c)
  same_or_not t = by (eqb t.condition c) refl
    where
      by : (b : Bool) → eqb t.condition c ≡ b → (t.condition ≡ c) ⊎ (t.condition ≢ c)
      by true e = inl (eqb-true t.condition c e)
      by false e = inr (eqb-false t.condition c e)

  -- an edge is a term of its row
  from_in : (r : ℕ) (ts : List Term) (e : Edge) → Memᴰ e (edges_in c r ts) → (e.row ≡ r) × Memᴰ (term c e.weight) ts
  unfolding edges_in
  from_in r [] e m = absurd (Memᴰ.not-nil m)
  from_in r (t ∷ ts) e m = by (λ k. from_in r ts e k) (same_or_not t)
    where
      Goal : Type 0
      Goal = (e.row ≡ r) × Memᴰ (term c e.weight) (t ∷ ts)

      deeper : (e.row ≡ r) × Memᴰ (term c e.weight) ts → Goal
      deeper (a, b) = (a, Memᴰ.tail b)

      head : t.condition ≡ c → e ≡ edge r t.weight → Goal
      head q p =
          (ap (λ (y : Edge). y.row) p, Memᴰ.head (λ i. record { condition = sym q i; weight = ap (λ (y : Edge). y.weight) p i }))

      by : (Memᴰ e (edges_in c r ts) → (e.row ≡ r) × Memᴰ (term c e.weight) ts) → (t.condition ≡ c) ⊎ (t.condition ≢ c) → Goal
      by ih (inl q) = ⊎_elim (λ (p : e ≡ edge r t.weight). head q p) (λ k. deeper (ih k)) (Memᴰ.cases_cons (subst (λ (l : List Edge). Memᴰ e l) (in-same r t ts q) m))
      by ih (inr q) = deeper (ih (subst (λ (l : List Edge). Memᴰ e l) (in-other r t ts q) m))

  from-rows : (k : ℕ) (rs : List Row) (e : Edge) → Memᴰ e (edges_from c k rs)
      → (j : ℕ) × (e.row ≡ k + j) × (j < length rs) × Memᴰ (term c e.weight) (get_or rs j no_row).terms
  unfolding edges_from
  from-rows k [] e m = absurd (Memᴰ.not-nil m)
  from-rows k (r ∷ rs) e m =
      ⊎_elim (λ i. let a = from_in k r.terms e i in let q = a.0 in (0, omega arith, omega arith, a.1))
      (λ i. let a = from-rows (k + 1) rs e i in let q = a.1 in let p = a.2 in (suc a.0, omega arith, omega arith, a.3)) (Memᴰ.append_cases (edges_in c k r.terms) m)

  -- and each term of the node has one
  leads-in : (r : ℕ) (ts : List Term) (more : List Edge) (t : Term) → Memᴰ t ts → t.condition ≡ c → leads_to r (edges_in c r ts ++ more) ≡ true
  unfolding leads_to edges_in
  leads-in r [] more t m e = absurd (Memᴰ.not-nil m)
  leads-in r (u ∷ us) more t m e = by (λ k. leads-in r us more t k e) (same_or_not u)
    where
      by : (Memᴰ t us → leads_to r (edges_in c r us ++ more) ≡ true) → (u.condition ≡ c) ⊎ (u.condition ≢ c) → leads_to r (edges_in c r (u ∷ us) ++ more) ≡ true
      by ih (inl q) = ap (λ (l : List Edge). leads_to r (l ++ more)) (in-same r u us q) ∙ ap (λ (b : Bool). b || leads_to r (edges_in c r us ++ more)) (eq-eqb r r refl)
      by ih (inr q) =
          ap (λ (l : List Edge). leads_to r (l ++ more)) (in-other r u us q)
          ∙ ⊎_elim (λ (p : t ≡ u). absurd (q (ap (λ (y : Term). y.condition) (sym p) ∙ e))) ih (Memᴰ.cases_cons m)

  leads-rows : (k : ℕ) (rs : List Row) (j : ℕ) (t : Term) → j < length rs → Memᴰ t (get_or rs j no_row).terms → t.condition ≡ c → leads_to (k + j) (edges_from c k rs) ≡ true
  unfolding edges_from
  leads-rows k [] j t h m e = absurd (not-suc-le-zero h)
  leads-rows k (r ∷ rs) zero t h m e =
      subst (λ (i : ℕ). leads_to i (edges_in c k r.terms ++ edges_from c (k + 1) rs) ≡ true) (omega arith) (leads-in k r.terms (edges_from c (k + 1) rs) t m e)
  leads-rows k (r ∷ rs) (suc j) t h m e =
      leads_behind (k + suc j) (edges_in c k r.terms) (edges_from c (k + 1) rs)
      (subst (λ (i : ℕ). leads_to i (edges_from c (k + 1) rs) ≡ true) (omega arith) (leads-rows (k + 1) rs j t (le_of_suc-le-suc h) m e))

  -- a row whose conditions are distinct has at most one
  in-none : (r : ℕ) (ts : List Term) → All (λ (u : Term). u.condition ≢ c) ts → edges_in c r ts ≡ []
  unfolding edges_in
  in-none r [] a = refl
  in-none r (t ∷ ts) a = in-other r t ts a.0 ∙ in-none r ts a.1

  in-once : (r : ℕ) (ts : List Term) → Distinct ts → OnceEach (edges_in c r ts)
  unfolding edges_in
  in-once r [] d = tt
  in-once r (t ∷ ts) d = by (in-once r ts d.1) (same_or_not t)
    where
      one : t.condition ≡ c → edges_in c r (t ∷ ts) ≡ edge r t.weight ∷ []
      one q = in-same r t ts q ∙ ap (λ (l : List Edge). edge r t.weight ∷ l) (in-none r ts (subst (λ (n : ℕ). All (λ (u : Term). u.condition ≢ n) ts) q d.0))

      by : OnceEach (edges_in c r ts) → (t.condition ≡ c) ⊎ (t.condition ≢ c) → OnceEach (edges_in c r (t ∷ ts))
      by ih (inl q) = subst OnceEach (sym (one q)) ((λ f m. absurd (Memᴰ.not-nil m)), tt)
      by ih (inr q) = subst OnceEach (sym (in-other r t ts q)) ih

  once-append : (xs ys : List Edge) → OnceEach xs → OnceEach ys → ((x y : Edge) → Memᴰ x xs → Memᴰ y ys → y.row ≢ x.row) → OnceEach (xs ++ ys)
  once-append [] ys a b h = b
  once-append (x ∷ xs) ys a b h = (
    λ f m. ⊎_elim (a.0 f) (λ k. h x f (Memᴰ.head refl) k) (Memᴰ.append_cases xs m),
    once-append xs ys a.1 b (λ y z i j. h y z (Memᴰ.tail i) j),
  )

  rows-once : (k : ℕ) (rs : List Row) → ((j : ℕ) → j < length rs → Distinct (get_or rs j no_row).terms) → OnceEach (edges_from c k rs)
  unfolding edges_from
  rows-once k [] d = tt
  rows-once k (r ∷ rs) d =
      once-append (edges_in c k r.terms) (edges_from c (k + 1) rs) (in-once k r.terms (d 0 (omega arith))) (rows-once (k + 1) rs (λ j h. d (suc j) (omega arith)))
      (λ x y i j q. let a = (from_in k r.terms x i).0 in let b = from-rows (k + 1) rs y j in let e = b.1 in omega arith)

module _ (rows : List Row) (c : ℕ) where
  -- EACH EDGE IS A TERM OF ITS ROW
  pub edge-term : (e : Edge) → Memᴰ e (edges_of rows c) → IsRow rows e.row × Memᴰ (term c e.weight) (terms_of rows e.row)
  edge-term e m =
      let a = from-rows c 0 rows e m in
      let q : e.row ≡ a.0 = a.1 ∙ omega arith in
      (subst (λ (i : ℕ). IsRow rows i) (sym q) a.2, subst (λ (i : ℕ). Memᴰ (term c e.weight) (terms_of rows i)) (sym q) a.3)

  -- EACH TERM OF THE NODE HAS ITS EDGE
  pub term-edge : (r : ℕ) (t : Term) → IsRow rows r → Memᴰ t (terms_of rows r) → t.condition ≡ c → leads_to r (edges_of rows c) ≡ true
  term-edge r t i m e = subst (λ (k : ℕ). leads_to k (edges_of rows c) ≡ true) (omega arith) (leads-rows c 0 rows r t i m e)

  -- NO ROW TWICE
  pub edges_once : ((r : ℕ) → IsRow rows r → Distinct (terms_of rows r)) → OnceEach (edges_of rows c)
  edges_once d = rows-once c 0 rows d
