-- The rows as the loop over the thresholds makes them are the rows of the job: the same raw lists, the same terms, the same numbers.
use Rattle.std.specs.Prelude.{ℕ, zero, suc, ◌+◌, ◌-◌, ◌<◌, ◌≡◌, refl, Bool, true, false, cond, List, [], ◌∷◌, ◌++◌, map, length, ℤ, ltb}
use Rattle.std.proofs.Common.{not-suc-le-zero, add-zero, zero-add, add-one, arith, sym, ap, ◌∙◌, subst, length-append, ltb-true}
use Rattle.std.proofs.lemmas.List.{length-map}
use Rattle.base.specs.Laid.{numbers}
use Rattle.numeric.specs.Threshold.{Term}
use Rattle.row.specs.Terms.{row_terms, same_terms}
use Rattle.memory.specs.Buffers.{RawLists}
use Rattle.job.specs.Shared.{number_in, joined, raws_to, row_to, terms_to}
use Rattle.rows.specs.Lists.{list_at}
use Rattle.job.specs.RowsLaws.{number_most, raws, number_raws, raws_place, all_made, made_terms}
use Rattle.rows.specs.ListsLaws.{same_refl}
use Rattle.rows.specs.Rows.{Row, place, place_all, row_number}
use Rattle.rows.specs.Laid.{term_lists}
use Rattle.job.specs.Given.{threshold_at, given, given_rows}

-- ---- raw lists

raws_from : (r : RawLists) (bounds : List ℤ) (t k : ℕ) (rs : List Row) → raws rs ≡ raws_to r t
    → raws (place_all (map (threshold_at r bounds) (numbers t k)) rs) ≡ raws_to r (t + k)
unfolding place_all numbers raws_to
raws_from r bounds t zero rs e = e ∙ ap (raws_to r) (sym (add-zero t))
raws_from r bounds t (suc k) rs e =
    raws_from r bounds (t + 1) k (place (threshold_at r bounds t) rs)
    (raws_place (threshold_at r bounds t) rs ∙ ap (λ (ls : List (List Term)). joined ls (list_at r t)) e ∙ sym (ap (raws_to r) (add-one t)))
    ∙ ap (raws_to r) (let q : t + 1 + k ≡ t + suc k = omega arith in q)

-- THE LOOP'S RAW LISTS ARE THOSE OF THE JOB'S ROWS, whatever the bounds.
pub raws_given : (r : RawLists) (bounds : List ℤ) → raws_to r (length r.thresholds) ≡ map (λ (row : Row). row.raw) (given_rows r bounds)
unfolding raws_to
raws_given r bounds = sym (raws_from r bounds 0 (length r.thresholds) [] refl ∙ ap (raws_to r) (zero-add (length r.thresholds)))

-- ---- terms

-- THE LOOP'S TERMS ARE THOSE OF THE JOB'S ROWS.
pub terms-given : (r : RawLists) (bounds : List ℤ) → terms_to r (length r.thresholds) ≡ term_lists (given_rows r bounds)
terms-given r bounds =
    ap (map (λ (l : List Term). row_terms l)) (raws_given r bounds) ∙ sym (made_terms (given_rows r bounds) (all_made (given r bounds) [] tt))

-- There are as many rows as raw lists.
pub rows-given : (r : RawLists) (bounds : List ℤ) → length (raws_to r (length r.thresholds)) ≡ length (given_rows r bounds)
rows-given r bounds = ap length (raws_given r bounds) ∙ length-map (given_rows r bounds) (λ (row : Row). row.raw)

-- ---- numbers

number_append : (ls ys : List (List Term)) (x : List Term) → number_in ls x < length ls → number_in (ls ++ ys) x ≡ number_in ls x
unfolding number_in
number_append [] ys x h = absurd (not-suc-le-zero h)
number_append (l ∷ ls) ys x h = by (λ q. number_append ls ys x q) (same_terms l x) refl
  where
    by : (number_in ls x < length ls → number_in (ls ++ ys) x ≡ number_in ls x) → (b : Bool) → same_terms l x ≡ b
        → number_in ((l ∷ ls) ++ ys) x ≡ number_in (l ∷ ls) x
    by ih true e = rw (e, number_in)
    by ih false e =
        let g : 1 + number_in ls x < suc (length ls) = rw (e, number_in) at h in
        rw (e, number_in) (ap (λ (n : ℕ). 1 + n) (ih (omega arith)))

number_last : (ls : List (List Term)) (x : List Term) → number_in (ls ++ (x ∷ [])) x ≡ number_in ls x
unfolding number_in
number_last [] x = rw (same_refl x, number_in)
number_last (l ∷ ls) x = by (number_last ls x) (same_terms l x) refl
  where
    by : number_in (ls ++ (x ∷ [])) x ≡ number_in ls x → (b : Bool) → same_terms l x ≡ b → number_in ((l ∷ ls) ++ (x ∷ [])) x ≡ number_in (l ∷ ls) x
    by ih true e = rw (e, number_in)
    by ih false e = rw (e, number_in) (ap (λ (n : ℕ). 1 + n) ih)

-- A list that has a number keeps it when another is joined.
number_kept : (ls : List (List Term)) (y x : List Term) → number_in ls x < length ls
    → (number_in (joined ls y) x ≡ number_in ls x) × (number_in ls x < length (joined ls y))
number_kept ls y x h = by (ltb (number_in ls y) (length ls))
  where
    by : (b : Bool) → (number_in (cond b ls (ls ++ (y ∷ []))) x ≡ number_in ls x) × (number_in ls x < length (cond b ls (ls ++ (y ∷ []))))
    by true = (refl, h)
    by false = (number_append ls (y ∷ []) x h, rw (length-append ls (y ∷ [])) (omega arith))

-- A list that is joined has its number from then on.
number_joined : (ls : List (List Term)) (x : List Term) → (number_in (joined ls x) x ≡ number_in ls x) × (number_in ls x < length (joined ls x))
number_joined ls x = by (ltb (number_in ls x) (length ls)) refl
  where
    by : (b : Bool) → ltb (number_in ls x) (length ls) ≡ b
        → (number_in (cond b ls (ls ++ (x ∷ []))) x ≡ number_in ls x) × (number_in ls x < length (cond b ls (ls ++ (x ∷ []))))
    by true e = (refl, ltb-true (number_in ls x) (length ls) e)
    by false e = (number_last ls x, rw (length-append ls (x ∷ [])) (let q = number_most ls x in omega arith))

number_to : (r : RawLists) (x : List Term) (n t k : ℕ) → n ≡ t + k → number_in (raws_to r t) x < length (raws_to r t)
    → (number_in (raws_to r n) x ≡ number_in (raws_to r t) x) × (number_in (raws_to r t) x < length (raws_to r n))
unfolding raws_to
number_to r x n t zero e h =
    let q : t ≡ n = omega arith in
    (sym (ap (λ (m : ℕ). number_in (raws_to r m) x) q), subst (λ (m : ℕ). number_in (raws_to r t) x < length (raws_to r m)) q h)
number_to r x zero t (suc k) e h = absurd (omega arith)
number_to r x (suc n) t (suc k) e h =
    let p = number_to r x n t k (omega arith) h in
    let q = number_kept (raws_to r n) (list_at r n) x (subst (λ (m : ℕ). m < length (raws_to r n)) (sym p.0) p.1) in
    (q.0 ∙ p.0, subst (λ (m : ℕ). m < length (joined (raws_to r n) (list_at r n))) p.0 q.1)

-- A threshold's row keeps its number to the end of the loop, and is there.
pub row_stays : (r : RawLists) (n t : ℕ) → t < n → (number_in (raws_to r n) (list_at r t) ≡ row_to r t) × (row_to r t < length (raws_to r n))
unfolding raws_to
row_stays r n t h =
    let x = list_at r t in
    let p = number_joined (raws_to r t) x in
    let q = number_to r x n (suc t) (n - suc t) (omega arith) (subst (λ (m : ℕ). m < length (joined (raws_to r t) x)) (sym p.0) p.1) in
    (q.0 ∙ p.0, subst (λ (m : ℕ). m < length (raws_to r n)) p.0 q.1)

-- THE ROW OF A THRESHOLD, AS THE LOOP NUMBERS IT, IS THE JOB'S.
pub row-given : (r : RawLists) (bounds : List ℤ) (t : ℕ) → t < length r.thresholds → row_to r t ≡ row_number (given_rows r bounds) (list_at r t)
row-given r bounds t h =
    sym (row_stays r (length r.thresholds) t h).0
    ∙ ap (λ (ls : List (List Term)). number_in ls (list_at r t)) (raws_given r bounds) ∙ sym (number_raws (given_rows r bounds) (list_at r t))

pub row_there : (r : RawLists) (bounds : List ℤ) (t : ℕ) → t < length r.thresholds → row_number (given_rows r bounds) (list_at r t) < length (given_rows r bounds)
row_there r bounds t h =
    subst (λ (n : ℕ). n < length (given_rows r bounds)) (row-given r bounds t h)
    (subst (λ (n : ℕ). row_to r t < n) (rows-given r bounds) (row_stays r (length r.thresholds) t h).1)
