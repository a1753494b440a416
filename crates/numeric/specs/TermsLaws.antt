-- Laws of terms in two parallel slices: how a loop over their places, up or down, goes along the list.
use Rattle.std.specs.Prelude.{ℕ, zero, suc, ◌+◌, ◌-◌, ◌<◌, ◌≤◌, min, ◌≡◌, refl, length, get_or, take, drop}
use Rattle.std.proofs.Common.{not-suc-le-zero, le_of_suc-le-suc, arith, sym, ap, ◌∙◌, take-suc, take_all, drop-cons}
use mathlib.Core.List.{List, [], ◌∷◌, ◌++◌, reverse, reverse_aux, reverse_aux-eq, append_assoc}
use Rattle.numeric.specs.Threshold.{Term, term}
use Rattle.numeric.specs.Slices.{terms}

abbrev pub no_term : Term
no_term = term 0 0

pub length-terms : (cs ws : List ℕ) → length (terms cs ws) ≡ min (length cs) (length ws)
unfolding terms
length-terms [] ws = omega arith
length-terms (c ∷ cs) [] = omega arith
length-terms (c ∷ cs) (w ∷ ws) = omega (arith, length-terms cs ws)

-- the term at a place
pub get_d_terms : (cs ws : List ℕ) (i : ℕ) → i < length cs → i < length ws → get_or (terms cs ws) i no_term ≡ term (get_or cs i 0) (get_or ws i 0)
unfolding terms
get_d_terms [] ws i h k = absurd (not-suc-le-zero h)
get_d_terms (c ∷ cs) [] i h k = absurd (not-suc-le-zero k)
get_d_terms (c ∷ cs) (w ∷ ws) zero h k = refl
get_d_terms (c ∷ cs) (w ∷ ws) (suc i) h k = get_d_terms cs ws i (le_of_suc-le-suc h) (le_of_suc-le-suc k)

-- going up: what is left begins with the term at the place
pub up_terms : (cs ws : List ℕ) (i : ℕ) → i < length cs → i < length ws
    → drop i (terms cs ws) ≡ term (get_or cs i 0) (get_or ws i 0) ∷ drop (suc i) (terms cs ws)
up_terms cs ws i h k =
    drop-cons (terms cs ws) i no_term (omega (arith, length-terms cs ws))
    ∙ ap (λ (t : Term). t ∷ drop (suc i) (terms cs ws)) (get_d_terms cs ws i h k)

reverse_snoc : {X : Type 0} (xs : List X) (x : X) → reverse (xs ++ (x ∷ [])) ≡ x ∷ reverse xs
reverse_snoc xs x = go xs []
  where
    go : (ys acc : List _) → reverse_aux (ys ++ (x ∷ [])) acc ≡ x ∷ reverse_aux ys acc
    go [] acc = refl
    go (y ∷ ys) acc = go ys (y ∷ acc)

-- going down: the first i + 1 terms, reversed, begin with the term at place i
pub down_terms : (cs ws : List ℕ) (i : ℕ) → i < length cs → i < length ws
    → reverse (take (suc i) (terms cs ws)) ≡ term (get_or cs i 0) (get_or ws i 0) ∷ reverse (take i (terms cs ws))
down_terms cs ws i h k =
    ap reverse (take-suc (terms cs ws) i no_term (omega (arith, length-terms cs ws)))
    ∙ reverse_snoc (take i (terms cs ws)) (get_or (terms cs ws) i no_term)
    ∙ ap (λ (t : Term). t ∷ reverse (take i (terms cs ws))) (get_d_terms cs ws i h k)

-- The first terms from the light end, where all are left, where some are, and where none is.
abbrev pub last_terms_of : List ℕ → List ℕ → ℕ → List Term
last_terms_of cs ws left = reverse (take left (terms cs ws))

pub last_all : (cs ws : List ℕ) → length cs ≡ length ws → last_terms_of cs ws (length ws) ≡ reverse (terms cs ws)
last_all cs ws e = ap reverse (take_all (length ws) (terms cs ws) (omega (arith, length-terms cs ws)))

pub last_next : (cs ws : List ℕ) (left : ℕ) → 0 < left → left ≤ length cs → left ≤ length ws
    → last_terms_of cs ws left ≡ term (get_or cs (left - 1) 0) (get_or ws (left - 1) 0) ∷ last_terms_of cs ws (left - 1)
last_next cs ws zero h f g = absurd (not-suc-le-zero h)
last_next cs ws (suc left) h f g =
    let e : suc left - 1 ≡ left = omega arith in
    rw e (down_terms cs ws left f g)

pub last_none : (cs ws : List ℕ) (left : ℕ) → left ≡ 0 → last_terms_of cs ws left ≡ []
last_none cs ws left e = ap (λ (k : ℕ). reverse (take k (terms cs ws))) e
