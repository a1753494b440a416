-- Laws of lists of terms in two parallel slices: read place by place, compared, added up, and parts of slices.
use Rattle.std.specs.Prelude.{ℕ, suc, ◌+◌, ◌-◌, ◌<◌, ◌≤◌, ◌≡◌, refl, Bool, true, false, ◌&&◌, List, [], ◌∷◌, length, drop, get_or, eqb, ltb, sum}
use Rattle.std.proofs.Common.{add_assoc, arith, sym, ap, ap₂, ◌∙◌, drop_of_length-le, length-take, length-drop, eqb-true, eq-eqb}
use Rattle.std.proofs.Math.Numerals.{add-one}
use Rattle.std.proofs.Math.Seq.{drop-cons}
use Rattle.std.proofs.lemmas.List.Sums.{sum_by-cons}
use Rattle.base.specs.TestLaws.{and_left, and_right, unequal}
use Rattle.numeric.specs.Threshold.{Term, term}
use Rattle.numeric.specs.Slices.{terms}
use Rattle.row.specs.Terms.{same_terms, total}
use Rattle.rows.specs.Rows.{has_nonunit}
use Rattle.base.specs.Parts.{stretch, end_by, start_by}
use Rattle.memory.specs.Buffers.{RawLists}
use Rattle.rows.specs.Lists.{list_at}

module _ (cs ws : List ℕ) where
  pub terms_next : (i : ℕ) → i < length cs → i < length ws
      → terms (drop i cs) (drop i ws) ≡ term (get_or cs i 0) (get_or ws i 0) ∷ terms (drop (i + 1) cs) (drop (i + 1) ws)
  unfolding terms
  terms_next i h k = rw (drop-cons cs i 0, drop-cons ws i 0, add-one, terms)

  pub terms_done : (i : ℕ) → length cs ≤ i → terms (drop i cs) (drop i ws) ≡ []
  unfolding terms
  terms_done i h = rw (drop_of_length-le cs h, terms)

pub length-terms : (cs ws : List ℕ) → length ws ≡ length cs → length (terms cs ws) ≡ length cs
unfolding terms
length-terms [] ws h = refl
length-terms (c ∷ cs) [] h = absurd (let z : length cs + 1 ≡ 0 = omega arith in omega arith)
length-terms (c ∷ cs) (w ∷ ws) h = ap suc (length-terms cs ws (omega arith))

-- Lists of different lengths differ.
pub same_lengths : (xs ys : List Term) → (length xs ≡ length ys → ⊥) → same_terms xs ys ≡ false
unfolding same_terms
same_lengths [] [] h = absurd (h refl)
same_lengths [] (y ∷ ys) h = refl
same_lengths (x ∷ xs) [] h = refl
same_lengths (x ∷ xs) (y ∷ ys) h =
    rw (same_lengths xs ys (λ e. h (ap suc e))) (never (eqb x.condition y.condition) (eqb x.weight y.weight))
  where
    never : (s t : Bool) → (s && t && false) ≡ false
    never true true = refl
    never true false = refl
    never false t = refl

pub same_is : (xs ys : List Term) → same_terms xs ys ≡ true → xs ≡ ys
unfolding same_terms
same_is [] [] h = refl
same_is [] (y ∷ ys) h = absurd (unequal cc)
same_is (x ∷ xs) [] h = absurd (unequal cc)
same_is (x ∷ xs) (y ∷ ys) h =
    let a = eqb x.condition y.condition in
    let b = eqb x.weight y.weight in
    let c = same_terms xs ys in
    let h1 = and_left (a && b) c h in
    let p = eqb-true x.condition y.condition (and_left a b h1) in
    let q = eqb-true x.weight y.weight (and_right a b h1) in
    let s = same_is xs ys (and_right (a && b) c h) in
    ap₂ ◌∷◌ (λ i. record { condition = p i; weight = q i }) s

pub same_refl : (xs : List Term) → same_terms xs xs ≡ true
unfolding same_terms
same_refl [] = refl
same_refl (x ∷ xs) = rw (eq-eqb x.condition x.condition refl, eq-eqb x.weight x.weight refl) (same_refl xs)

-- The parts of the two slices that hold a raw list are equally long.
pub stretch-length : {X : Type 0} (a e : ℕ) (l : List X) → e ≤ length l → length (stretch a e l) ≡ e - a
stretch-length a e l h = length-take (e - a) (drop a l) ∙ rw (length-drop a l) (omega arith)

pub nonunit_none : (cs ws : List ℕ) → length ws ≡ length cs → length ws ≡ 0 → false ≡ has_nonunit (terms cs ws)
unfolding has_nonunit terms
nonunit_none [] ws h e = refl
nonunit_none (c ∷ cs) ws h e = absurd (omega arith)

pub nonunit_first : (cs ws : List ℕ) → length ws ≡ length cs → (length ws ≡ 0 → ⊥) → ltb 1 (get_or ws 0 0) ≡ has_nonunit (terms cs ws)
unfolding has_nonunit terms
nonunit_first cs [] h n = absurd (n refl)
nonunit_first [] (w ∷ ws) h n = absurd (omega arith)
nonunit_first (c ∷ cs) (w ∷ ws) h n = refl

-- The sum of the weights alone is the total of the terms.
pub sum_total : (cs ws : List ℕ) → length ws ≡ length cs → sum ws ≡ total (terms cs ws)
unfolding terms total
sum_total [] [] h = refl
sum_total [] (w ∷ ws) h = absurd (omega arith)
sum_total (c ∷ cs) [] h = absurd (omega arith)
sum_total (c ∷ cs) (w ∷ ws) h = sum_by-cons (λ (x : ℕ). x) w ws ∙ ap (λ (s : ℕ). w + s) (sum_total cs ws (omega arith))

pub total_next : (cs ws : List ℕ) (s i : ℕ) → i < length cs → i < length ws
    → s + total (terms (drop i cs) (drop i ws)) ≡ s + get_or ws i 0 + total (terms (drop (i + 1) cs) (drop (i + 1) ws))
unfolding total
total_next cs ws s i a b = rw (terms_next cs ws i a b, total) (sym (add_assoc s (get_or ws i 0) (total (terms (drop (i + 1) cs) (drop (i + 1) ws)))))

pub total_done : (cs ws : List ℕ) (s i : ℕ) → length cs ≤ i → s ≡ s + total (terms (drop i cs) (drop i ws))
unfolding total
total_done cs ws s i a = rw (terms_done cs ws i a, total) (omega arith)

pub list_is : (r : RawLists) (t a e : ℕ) → a ≡ start_by 1 r.thresholds t → e ≡ end_by 1 r.thresholds t
    → terms (stretch a e r.raw-conditions) (stretch a e r.raw-weights) ≡ list_at r t
unfolding list_at
list_is r t a e p q = rw (p, q, list_at)
