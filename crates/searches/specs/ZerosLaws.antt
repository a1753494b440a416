-- Words that are all zero: cleared one by one, and again after a part of them was used.
use Rattle.std.specs.Prelude.{ℕ, ◌+◌, ◌-◌, ◌<◌, ◌≤◌, ◌≡◌, refl, List, ◌++◌, length, get_or, set, replicate, take, drop}
use Rattle.std.proofs.Common.{arith, sym, ap, ◌∙◌, take-append-drop, get_or-set_same, get_or-set_other, get_or-take, length-take-le, ext_get_or}
use native.Nat.{ℕᴺ_discrete as dec_eq}
use Rattle.std.proofs.lemmas.List.{length-replicate, get_or-replicate}
use Rattle.searches.specs.Shape.{Zeros}

-- The first n words are zero.
abbrev pub ZeroTo : ℕ → List ℕ → Type 0
ZeroTo n l = (k : ℕ) → k < n → get_or l k 0 ≡ 0

pub zero_next : (l : List ℕ) (n : ℕ) → n < length l → ZeroTo n l → ZeroTo (n + 1) (set l n 0)
zero_next l n i h k g = by (dec_eq k n)
  where
    by : Dec (k ≡ n) → get_or (set l n 0) k 0 ≡ 0
    by (yes e) = rw e (get_or-set_same l n 0 0 i)
    by (no e) = get_or-set_other l n k 0 0 e ∙ h k (omega arith)

pub zero_all : (l : List ℕ) (n i : ℕ) → length l ≡ n → n ≤ i → ZeroTo i l → l ≡ replicate n 0
zero_all l n i e g h =
    ext_get_or 0 l (replicate n 0) (e ∙ sym (length-replicate n 0)) (λ k j. h k (omega arith) ∙ sym (get_or-replicate n k 0 0 (omega arith)))

-- A part at the start, cleared after its use: all is as before.
pub zeros_back : (l : List ℕ) (n : ℕ) → Zeros l → n ≤ length l → (part : List ℕ) → part ≡ replicate (length (take (n - 0) (drop 0 l))) 0
    → take 0 l ++ (part ++ drop (n - 0) (drop 0 l)) ≡ l
zeros_back l n z h part e =
    let q : n - 0 ≡ n = omega arith in
    rw q
    (ap (λ (x : List ℕ). x ++ drop n l)
    ((rw q at e) ∙ sym (zero_all (take n l) (length (take n l)) (length (take n l)) refl (omega arith) (by (omega (arith, length-take-le n l h)))))
    ∙ take-append-drop n l)
  where
    by : length (take n l) ≤ n → (k : ℕ) → k < length (take n l) → get_or (take n l) k 0 ≡ 0
    by m k i = get_or-take n l k 0 (omega arith) ∙ z k
