-- Laws of raw lists in two parallel slices, read place by place, and of the search among lists.
use Rattle.std.specs.Prelude.{ℕ, ◌+◌, ◌*◌, ◌%◌, ◌<◌, ◌≤◌, ◌≡◌, refl, Bool, true, false, ◌&&◌, List, [], ◌∷◌, length, drop, get_or, eqb, bytes_eq}
use Rattle.std.proofs.Common.{sym, ap, ◌∙◌, eq-eqb, ne_eqb, arith}
use Rattle.numeric.specs.Slices.{terms}
use Rattle.row.specs.Terms.{same_terms}
use Rattle.thresholds.specs.Raw.{prints, mixed, fingerprint}
use Rattle.rows.specs.ListsLaws.{length-terms, terms_done, terms_next}

-- ---- two lists compared

module _ (l v r w : List ℕ) where
  abbrev pub same_from : ℕ → Bool
  same_from i = same_terms (terms (drop i l) (drop i v)) (terms (drop i r) (drop i w))

  pub same_next : (i : ℕ) → i < length l → i < length v → i < length r → i < length w
      → same_from i ≡ (eqb (get_or l i 0) (get_or r i 0) && eqb (get_or v i 0) (get_or w i 0) && same_from (i + 1))
  unfolding same_terms
  same_next i a b c d = rw (terms_next l v i a b, terms_next r w i c d, same_terms)

  pub same_equal : (i : ℕ) → i < length l → i < length v → i < length r → i < length w
      → get_or l i 0 ≡ get_or r i 0 → get_or v i 0 ≡ get_or w i 0 → same_from i ≡ same_from (i + 1)
  same_equal i a b c d e f =
      same_next i a b c d ∙ rw (eq-eqb (get_or l i 0) (get_or r i 0) e, eq-eqb (get_or v i 0) (get_or w i 0) f)

  pub same_left : (i : ℕ) → i < length l → i < length v → i < length r → i < length w
      → (get_or l i 0 ≡ get_or r i 0 → ⊥) → same_from i ≡ false
  same_left i a b c d e = same_next i a b c d ∙ rw (ne_eqb (get_or l i 0) (get_or r i 0) e)

  pub same_right : (i : ℕ) → i < length l → i < length v → i < length r → i < length w
      → get_or l i 0 ≡ get_or r i 0 → (get_or v i 0 ≡ get_or w i 0 → ⊥) → same_from i ≡ false
  same_right i a b c d e f =
      same_next i a b c d ∙ rw (eq-eqb (get_or l i 0) (get_or r i 0) e, ne_eqb (get_or v i 0) (get_or w i 0) f)

  pub same_done : (i : ℕ) → length l ≤ i → length r ≤ i → same_from i ≡ true
  unfolding same_terms
  same_done i h k = rw (terms_done l v i h, terms_done r w i k, same_terms)

-- By one comparison of the conditions and one of the weights.
pub same_slices : (l v r w : List ℕ) → length v ≡ length l → length w ≡ length r → (bytes_eq l r && bytes_eq v w) ≡ same_terms (terms l v) (terms r w)
unfolding same_terms terms
same_slices [] [] [] [] h k = refl
same_slices [] (p ∷ v) r w h k = absurd (omega arith)
same_slices (x ∷ l) [] r w h k = absurd (omega arith)
same_slices l v [] (q ∷ w) h k = absurd (omega arith)
same_slices l v (y ∷ r) [] h k = absurd (omega arith)
same_slices [] [] (y ∷ r) (q ∷ w) h k = refl
same_slices (x ∷ l) (p ∷ v) [] [] h k = refl
same_slices (x ∷ l) (p ∷ v) (y ∷ r) (q ∷ w) h k =
    pairs (eqb x y) (bytes_eq l r) (eqb p q) (bytes_eq v w) ∙ ap (λ (b : Bool). eqb x y && eqb p q && b) (same_slices l v r w (omega arith) (omega arith))
  where
    pairs : (a b c d : Bool) → ((a && b) && (c && d)) ≡ (a && c && (b && d))
    pairs true true true d = refl
    pairs true true false d = refl
    pairs true false true d = refl
    pairs true false false d = refl
    pairs false b c d = refl

-- ---- fingerprints

pub mixed_next : (cs ws : List ℕ) (h i : ℕ) → i < length cs → i < length ws
    → mixed h (terms (drop i cs) (drop i ws)) ≡ mixed ((h * 65599 + get_or cs i 0 * 257 + get_or ws i 0) % prints) (terms (drop (i + 1) cs) (drop (i + 1) ws))
unfolding mixed
mixed_next cs ws h i a b = rw (terms_next cs ws i a b, mixed)

pub mixed_done : (cs ws : List ℕ) (h i : ℕ) → length cs ≤ i → h ≡ mixed h (terms (drop i cs) (drop i ws))
unfolding mixed
mixed_done cs ws h i a = rw (terms_done cs ws i a, mixed)

pub fingerprint_of : (cs ws : List ℕ) → length ws ≡ length cs → mixed (length cs) (terms cs ws) ≡ fingerprint (terms cs ws)
unfolding fingerprint
fingerprint_of cs ws h = ap (λ (n : ℕ). mixed n (terms cs ws)) (sym (length-terms cs ws h))
