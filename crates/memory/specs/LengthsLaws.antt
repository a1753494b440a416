-- Lengths: what the test of them gives, and that the code's test, from the first length on, is that of the definitions.
use Rattle.std.specs.Prelude.{ℕ, zero, suc, ◌≤◌, ◌≡◌, refl, Bool, true, false, ◌&&◌, List, [], ◌∷◌, get_or, length, leb}
use Rattle.std.proofs.Common.{arith, ap, ap₂, leb-true, le-leb}
use Rattle.base.specs.TestLaws.{and-true, unequal}
use Rattle.memory.specs.Buffers.{Work, needed, lengths, enough, longest_input, fits_by, fits}

enough-at : (ns ms : List ℕ) → enough ns ms ≡ true → (i : ℕ) → get_or ns i 0 ≤ get_or ms i 0
unfolding enough
enough-at [] ms h i = omega arith
enough-at (n ∷ ns) [] h i = absurd (unequal cc)
enough-at (n ∷ ns) (m ∷ ms) h zero = leb-true n m (and-true (leb n m) (enough ns ms) h).0
enough-at (n ∷ ns) (m ∷ ms) h (suc i) = enough-at ns ms (and-true (leb n m) (enough ns ms) h).1 i

-- Each buffer is as long as it must be.
abbrev pub Sized : Work → Type 0
Sized w = (i : ℕ) → get_or needed i 0 ≤ get_or (lengths w) i 0

pub fits_sized : (input : List ℕ) (w : Work) → fits input w ≡ true → Sized w
unfolding fits_by
fits_sized input w h = enough-at needed (lengths w) (and-true (enough needed (lengths w)) (leb (length input) longest_input) h).0

pub fits_input : (input : List ℕ) (w : Work) → fits input w ≡ true → length input ≤ longest_input
unfolding fits_by
fits_input input w h = leb-true (length input) longest_input (and-true (enough needed (lengths w)) (leb (length input) longest_input) h).1

-- A shorter input fits too.
pub fits_shorter : (x input : List ℕ) (w : Work) → length x ≤ length input → fits input w ≡ true → fits x w ≡ true
unfolding fits_by
fits_shorter x input w h e =
    let k = fits_input input w e in
    ap₂ (λ (p q : Bool). p && q) (and-true (enough needed (lengths w)) (leb (length input) longest_input) e).0 (le-leb (length x) longest_input (omega arith))

-- The test as code makes it.
unfoldable pub enough_from : Bool → List ℕ → List ℕ → Bool
enough_from t [] ms = t
enough_from t (n ∷ ns) [] = false
enough_from t (n ∷ ns) (m ∷ ms) = enough_from (t && leb n m) ns ms

enough_from_lem : (t : Bool) (ns ms : List ℕ) → enough_from t ns ms ≡ (t && enough ns ms)
unfolding enough_from enough
enough_from_lem true [] ms = refl
enough_from_lem false [] ms = refl
enough_from_lem true (n ∷ ns) [] = refl
enough_from_lem false (n ∷ ns) [] = refl
enough_from_lem true (n ∷ ns) (m ∷ ms) = enough_from_lem (leb n m) ns ms
enough_from_lem false (n ∷ ns) (m ∷ ms) = enough_from_lem false ns ms

pub fits_from_lem : (ms : List ℕ) (input : ℕ) → (enough_from true needed ms && leb input longest_input) ≡ fits_by ms input
unfolding fits_by
fits_from_lem ms input = ap (λ (t : Bool). t && leb input longest_input) (enough_from_lem true needed ms)
