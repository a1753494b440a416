-- Laws of rows: numbered by first use, each with the terms of its raw list; every threshold is a guard of exactly one row, once.
use Rattle.std.specs.Prelude.{ℕ, zero, suc, ◌+◌, ◌<◌, ◌≤◌, ◌≡◌, refl, Bool, true, false, cond, List, [], ◌∷◌, ◌++◌, map, length, get_or, eqb, ltb}
use Rattle.std.proofs.Common.{not-suc-le-zero, add-zero, zero-add, arith, sym, ap, ap₂, ◌∙◌, eq-eqb, ne_eqb, lt-ltb, le-ltb, ltb-true, ltb-false, eqb-true}
use Rattle.std.proofs.lemmas.Bool.{eqb-false}
use Rattle.numeric.specs.Threshold.{Term, Threshold}
use Rattle.row.specs.Terms.{row_terms, same_terms}
use Rattle.base.specs.InsertionLaws.{insert-sum}
use Rattle.rows.specs.Rows.{Row, Guard, guard, below, insert_guard, place, place_all, row_number, no_row}
use Rattle.job.specs.Shared.{number_in, joined}
use Rattle.rows.specs.ListsLaws.{same_refl}

abbrev pub raws : List Row → List (List Term)
raws rs = map (λ (r : Row). r.raw) rs

pub number_most : (ls : List (List Term)) (x : List Term) → number_in ls x ≤ length ls
unfolding number_in
number_most [] x = omega arith
number_most (l ∷ ls) x = by (number_most ls x) (same_terms l x) refl
  where
    by : number_in ls x ≤ length ls → (b : Bool) → same_terms l x ≡ b → number_in (l ∷ ls) x ≤ length (l ∷ ls)
    by ih true e = rw (e, number_in) (omega arith)
    by ih false e = rw (e, number_in) (omega arith)

-- A row's number goes by the raw lists alone.
pub number_raws : (rs : List Row) (x : List Term) → row_number rs x ≡ number_in (raws rs) x
unfolding row_number number_in
number_raws [] x = refl
number_raws (r ∷ rs) x = by (number_raws rs x) (same_terms r.raw x) refl
  where
    by : row_number rs x ≡ number_in (raws rs) x → (b : Bool) → same_terms r.raw x ≡ b → row_number (r ∷ rs) x ≡ number_in (raws (r ∷ rs)) x
    by ih true e = rw (e, row_number, number_in)
    by ih false e = rw (e, row_number, number_in) (ap (λ (n : ℕ). 1 + n) ih)

-- ---- each row has the terms of its raw list

abbrev pub Made : List Row → Type 0
Made [] = Unit {0}
Made (r ∷ rs) = (r.terms ≡ row_terms r.raw) × Made rs

pub place_made : (t : Threshold) (rs : List Row) → Made rs → Made (place t rs)
unfolding place
place_made t [] m = (refl, tt)
place_made t (r ∷ rs) m = by (λ k. place_made t rs k) (same_terms r.raw t.terms) refl
  where
    by : (Made rs → Made (place t rs)) → (b : Bool) → same_terms r.raw t.terms ≡ b → Made (place t (r ∷ rs))
    by ih true e = rw (e, place) (m.0, m.1)
    by ih false e = rw (e, place) (m.0, ih m.1)

-- THE TERMS OF EVERY ROW ARE THOSE OF ITS RAW LIST.
pub all_made : (ts : List Threshold) (rs : List Row) → Made rs → Made (place_all ts rs)
unfolding place_all
all_made [] rs m = m
all_made (t ∷ ts) rs m = all_made ts (place t rs) (place_made t rs m)

pub made_terms : (rs : List Row) → Made rs → map (λ (r : Row). r.terms) rs ≡ map (λ (l : List Term). row_terms l) (raws rs)
made_terms [] m = refl
made_terms (r ∷ rs) m = ap₂ (λ (l : List Term) (ls : List (List Term)). l ∷ ls) m.0 (made_terms rs m.1)

-- ---- rows are numbered by first use

lower : (n m : ℕ) → ltb (1 + n) (suc m) ≡ ltb n m
lower n m = by (ltb n m) refl
  where
    by : (b : Bool) → ltb n m ≡ b → ltb (1 + n) (suc m) ≡ b
    by true e = lt-ltb (1 + n) (suc m) (let q = ltb-true n m e in omega arith)
    by false e = le-ltb (1 + n) (suc m) (let q = ltb-false n m e in omega arith)

joined_next : (l : List Term) (ls : List (List Term)) (x : List Term) → same_terms l x ≡ false → joined (l ∷ ls) x ≡ l ∷ joined ls x
unfolding number_in
joined_next l ls x e = rw (e, number_in) (rw (lower (number_in ls x) (length ls)) (by (ltb (number_in ls x) (length ls))))
  where
    by : (b : Bool) → cond b (l ∷ ls) ((l ∷ ls) ++ (x ∷ [])) ≡ l ∷ cond b ls (ls ++ (x ∷ []))
    by true = refl
    by false = refl

joined_same : (l : List Term) (ls : List (List Term)) (x : List Term) → same_terms l x ≡ true → joined (l ∷ ls) x ≡ l ∷ ls
unfolding number_in
joined_same l ls x e = rw (e, number_in) (rw (lt-ltb 0 (suc (length ls)) (omega arith)))

-- A THRESHOLD WHOSE RAW LIST IS NEW MAKES THE NEXT ROW, ANY OTHER NONE.
pub raws_place : (t : Threshold) (rs : List Row) → raws (place t rs) ≡ joined (raws rs) t.terms
unfolding place number_in
raws_place t [] = refl
raws_place t (r ∷ rs) = by (raws_place t rs) (same_terms r.raw t.terms) refl
  where
    by : raws (place t rs) ≡ joined (raws rs) t.terms → (b : Bool) → same_terms r.raw t.terms ≡ b → raws (place t (r ∷ rs)) ≡ joined (raws (r ∷ rs)) t.terms
    by ih true e = rw (e, place) (sym (joined_same r.raw (raws rs) t.terms e))
    by ih false e = rw (e, place) (ap (λ (ls : List (List Term)). r.raw ∷ ls) ih ∙ sym (joined_next r.raw (raws rs) t.terms e))

-- ---- guards, counted by any measure of them

unfoldable pub sum_of : (Guard → ℕ) → List Guard → ℕ
sum_of f [] = 0
sum_of f (g ∷ gs) = f g + sum_of f gs

guards_more : (f : Guard → ℕ) (g : Guard) (gs : List Guard) → sum_of f (insert_guard g gs) ≡ f g + sum_of f gs
unfolding sum_of
guards_more f = insert-sum below f (sum_of f) (λ g gs. refl)

-- What a threshold adds to row k: its guard, if that is its row.
abbrev pub share : (Guard → ℕ) → ℕ → ℕ → Threshold → ℕ
share f k n t = cond (eqb n k) (f (guard t.bound t.node)) 0

abbrev guards_at : List Row → ℕ → List Guard
guards_at rs k = (get_or rs k no_row).guards

-- The guards of row k after one more threshold.
pub guards-place : (f : Guard → ℕ) (t : Threshold) (rs : List Row) (k : ℕ)
    → sum_of f (guards_at (place t rs) k) ≡ share f k (row_number rs t.terms) t + sum_of f (guards_at rs k)
unfolding place row_number sum_of
guards-place f t [] zero = refl
guards-place f t [] (suc k) = rw (ne_eqb 0 (suc k) (λ e. omega arith)) refl
guards-place f t (r ∷ rs) k = by (λ j. guards-place f t rs j) (same_terms r.raw t.terms) refl k
  where
    by : ((j : ℕ) → sum_of f (guards_at (place t rs) j) ≡ share f j (row_number rs t.terms) t + sum_of f (guards_at rs j)) → (b : Bool) → same_terms r.raw t.terms ≡ b
        → (k : ℕ) → sum_of f (guards_at (place t (r ∷ rs)) k) ≡ share f k (row_number (r ∷ rs) t.terms) t + sum_of f (guards_at (r ∷ rs) k)
    by ih true e zero = rw (e, place, row_number) (guards_more f (guard t.bound t.node) r.guards)
    by ih true e (suc j) = rw (e, place, row_number) (rw (ne_eqb 0 (suc j) (λ q. omega arith)) (sym (zero-add (sum_of f (guards_at rs j)))))
    by ih false e zero = rw (e, place, row_number) (rw (ne_eqb (1 + row_number rs t.terms) 0 (λ q. omega arith)) (sym (zero-add (sum_of f r.guards))))
    by ih false e (suc j) = rw (e, place, row_number) (rw (shifted (row_number rs t.terms) j) (ih j))
      where
        shifted : (n m : ℕ) → eqb (1 + n) (suc m) ≡ eqb n m
        shifted n m = go (eqb n m) refl
          where
            go : (b : Bool) → eqb n m ≡ b → eqb (1 + n) (suc m) ≡ b
            go true q = eq-eqb (1 + n) (suc m) (let z = eqb-true n m q in omega arith)
            go false q = ne_eqb (1 + n) (suc m) (λ z. eqb-false n m q (omega arith))

-- ---- a row keeps its number

number_place : (t : Threshold) (rs : List Row) → row_number (place t rs) t.terms ≡ row_number rs t.terms
unfolding place row_number
number_place t [] = rw (same_refl t.terms, row_number)
number_place t (r ∷ rs) = by (number_place t rs) (same_terms r.raw t.terms) refl
  where
    by : row_number (place t rs) t.terms ≡ row_number rs t.terms → (b : Bool) → same_terms r.raw t.terms ≡ b
        → row_number (place t (r ∷ rs)) t.terms ≡ row_number (r ∷ rs) t.terms
    by ih true e = rw (e, place, row_number) (rw (e, row_number))
    by ih false e = rw (e, place, row_number) (rw (e, row_number) (ap (λ (n : ℕ). 1 + n) ih))

-- its threshold's row is there
number_there : (t : Threshold) (rs : List Row) → row_number (place t rs) t.terms < length (place t rs)
unfolding place row_number
number_there t [] = rw (same_refl t.terms, row_number) (omega arith)
number_there t (r ∷ rs) = by (number_there t rs) (same_terms r.raw t.terms) refl
  where
    by : row_number (place t rs) t.terms < length (place t rs) → (b : Bool) → same_terms r.raw t.terms ≡ b
        → row_number (place t (r ∷ rs)) t.terms < length (place t (r ∷ rs))
    by ih true e = rw (e, place) (rw (e, row_number) (omega arith))
    by ih false e = rw (e, place) (rw (e, row_number) (omega arith))

number_kept : (t : Threshold) (rs : List Row) (x : List Term) → row_number rs x < length rs
    → (row_number (place t rs) x ≡ row_number rs x) × (row_number (place t rs) x < length (place t rs))
unfolding place row_number
number_kept t [] x h = absurd (not-suc-le-zero h)
number_kept t (r ∷ rs) x h = by (λ q. number_kept t rs x q) (same_terms r.raw t.terms) refl (same_terms r.raw x) refl
  where
    by : (row_number rs x < length rs → (row_number (place t rs) x ≡ row_number rs x) × (row_number (place t rs) x < length (place t rs)))
        → (b : Bool) → same_terms r.raw t.terms ≡ b → (d : Bool) → same_terms r.raw x ≡ d
        → (row_number (place t (r ∷ rs)) x ≡ row_number (r ∷ rs) x) × (row_number (place t (r ∷ rs)) x < length (place t (r ∷ rs)))
    by ih true e true f = rw (e, place) (rw (f, row_number) (refl, omega arith))
    by ih true e false f =
        let g : 1 + row_number rs x < suc (length rs) = rw (f, row_number) at h in
        rw (e, place) (rw (f, row_number) (refl, g))
    by ih false e true f = rw (e, place) (rw (f, row_number) (refl, omega arith))
    by ih false e false f =
        let g : 1 + row_number rs x < suc (length rs) = rw (f, row_number) at h in
        let q = ih (omega arith) in
        rw (e, place) (rw (f, row_number) (ap (λ (n : ℕ). 1 + n) q.0, (let z = q.1 in omega arith)))

-- A ROW KEEPS ITS NUMBER, WHATEVER COMES AFTER.
pub number_all : (ts : List Threshold) (rs : List Row) (x : List Term) → row_number rs x < length rs → row_number (place_all ts rs) x ≡ row_number rs x
unfolding place_all
number_all [] rs x h = refl
number_all (t ∷ ts) rs x h =
    let q = number_kept t rs x h in
    number_all ts (place t rs) x q.1 ∙ q.0

-- What all thresholds add to row k.
unfoldable pub shares : (Guard → ℕ) → ℕ → List Row → List Threshold → ℕ
shares f k rs [] = 0
shares f k rs (t ∷ ts) = share f k (row_number rs t.terms) t + shares f k rs ts

pub guards_from : (f : Guard → ℕ) (ts : List Threshold) (rs : List Row) (k : ℕ)
    → sum_of f (guards_at (place_all ts rs) k) ≡ shares f k (place_all ts rs) ts + sum_of f (guards_at rs k)
unfolding place_all shares
guards_from f [] rs k = sym (zero-add (sum_of f (guards_at rs k)))
guards_from f (t ∷ ts) rs k =
    let n = number_all ts (place t rs) t.terms (number_there t rs) ∙ number_place t rs in
    let a = guards_from f ts (place t rs) k in
    let b = guards-place f t rs k in
    let c = ap (λ (m : ℕ). share f k m t) (sym n) in
    omega arith

-- EVERY THRESHOLD IS A GUARD OF THE ROW THAT IS NUMBERED BY ITS RAW LIST, ONCE, AND OF NO OTHER: by any measure of guards, those of
-- row k are worth what the thresholds of row k are.
pub guards-once : (f : Guard → ℕ) (ts : List Threshold) (k : ℕ) → sum_of f (guards_at (place_all ts []) k) ≡ shares f k (place_all ts []) ts
unfolding sum_of
guards-once f ts k = guards_from f ts [] k ∙ add-zero (shares f k (place_all ts []) ts)
