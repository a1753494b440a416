-- The ones of a mask's words, added up, are the nodes that it has.
use Rattle.std.specs.Prelude.{◌≡◌, refl, Bool, true, false, cond, List, ℕ, zero, suc, ◌+◌, ◌*◌, ◌/◌, ◌%◌, ◌^◌, ◌<◌, ◌≤◌, get_or}
use Rattle.std.proofs.Common.{sym, ap, ◌∙◌, pow-suc, arith, eqb-true}
use Rattle.std.proofs.Math.Nat.{pow-zero}
use Rattle.std.specs.Int.Count.{ones, ones_in, ones_step}
use Rattle.std.proofs.lemmas.Bool.{eqb-false}
use Rattle.words.specs.Mask.{digit, digit_at, bit, count}
use Rattle.words.specs.DigitsLaws.{digit_small, shr_digit}

-- The ones of the first n words.
unfoldable pub ones_to : List ℕ → ℕ → ℕ
ones_to l zero = 0
ones_to l (suc n) = ones_to l n + ones (get_or l n 0)

-- The lowest k places of a word, added up.
unfoldable digits_to : ℕ → ℕ → ℕ
digits_to w zero = 0
digits_to w (suc k) = digits_to w k + digit w k

digits_low : (w k : ℕ) → digits_to w (suc k) ≡ w % 2 + digits_to (w / 2) k
unfolding digits_to
digits_low w zero = let e : w / 1 ≡ w = omega arith in rw e (omega arith)
digits_low w (suc k) =
    let e = shr_digit w 1 k in
    let f : 1 + k ≡ suc k = omega arith in
    let g = rw f at e in
    let i = digits_low w k in
    omega arith

ones_none : ones 0 ≡ 0
unfolding ones ones_in
ones_none = refl

digits_ones : (k w : ℕ) → w < 2 ^ k → digits_to w k ≡ ones w
unfolding digits_to
digits_ones zero w h = let e : w ≡ 0 = omega (arith, pow-zero 2) in rw e (sym ones_none)
digits_ones (suc k) w h =
    let i = digits_ones k (w / 2) (omega (arith, pow-suc 2 k)) in
    digits_low w k ∙ ap (λ (x : ℕ). w % 2 + x) i ∙ sym (ones_step w)

-- One node more.
pub count_next : (mask : List ℕ) (n : ℕ) → count mask (suc n) ≡ count mask n + digit_at mask n
unfolding count
count_next mask n = ap (λ (x : ℕ). count mask n + x) (by (bit mask n) refl)
  where
    by : (b : Bool) → bit mask n ≡ b → cond (bit mask n) 1 0 ≡ digit_at mask n
    by true e = rw e (sym (eqb-true (digit_at mask n) 1 e))
    by false e =
        let d = digit_small (get_or mask (n / 64) 0) (n % 64) in
        let f = eqb-false (digit_at mask n) 1 e in
        rw e (omega arith)

count_word : (mask : List ℕ) (i k : ℕ) → k ≤ 64 → count mask (64 * i + k) ≡ count mask (64 * i) + digits_to (get_or mask i 0) k
unfolding digits_to
count_word mask i zero h = let e : 64 * i + zero ≡ 64 * i = omega arith in rw e (omega arith)
count_word mask i (suc k) h =
    let e : 64 * i + suc k ≡ suc (64 * i + k) = omega arith in
    let q : (64 * i + k) / 64 ≡ i = omega arith in
    let r : (64 * i + k) % 64 ≡ k = omega arith in
    let a = count_next mask (64 * i + k) in
    let b = rw (q, r) at a in
    let c = count_word mask i k (omega arith) in
    rw e (omega arith)

-- One word more: its ones.
pub count_ones : (mask : List ℕ) (i : ℕ) → get_or mask i 0 < 2 ^ 64 → count mask (64 * (i + 1)) ≡ count mask (64 * i) + ones (get_or mask i 0)
count_ones mask i h =
    let e : 64 * (i + 1) ≡ 64 * i + 64 = omega arith in
    rw e (count_word mask i 64 (omega arith) ∙ ap (λ (x : ℕ). count mask (64 * i) + x) (digits_ones 64 (get_or mask i 0) h))

-- THE ONES OF THE WORDS ARE THE NODES OF THE MASK
pub ones_count : (mask : List ℕ) → ((i : ℕ) → get_or mask i 0 < 2 ^ 64) → (n : ℕ) → ones_to mask n ≡ count mask (64 * n)
unfolding ones_to count
ones_count mask h zero = refl
ones_count mask h (suc n) =
    let e : n + 1 ≡ suc n = omega arith in
    ap (λ (x : ℕ). x + ones (get_or mask n 0)) (ones_count mask h n) ∙ rw e at (sym (count_ones mask n (h n)))

pub count_none : (mask : List ℕ) → count mask 0 ≡ 0
unfolding count
count_none mask = refl

pub count-le : (mask : List ℕ) (n : ℕ) → count mask n ≤ n
count-le mask zero = omega (arith, count_none mask)
count-le mask (suc n) = omega (arith, count_next mask n, count-le mask n, digit_small (get_or mask (n / 64) 0) (n % 64))

-- Nodes that the mask has not add nothing.
pub count_above : (mask : List ℕ) (n k : ℕ) → ((m : ℕ) → n ≤ m → m < n + k → bit mask m ≡ false) → count mask (n + k) ≡ count mask n
unfolding count
count_above mask n zero h = let e : n + zero ≡ n = omega arith in rw e
count_above mask n (suc k) h =
    let e : n + suc k ≡ suc (n + k) = omega arith in
    let i = count_above mask n k (λ m a b. h m a (omega arith)) in
    rw (e, count) (rw (h (n + k) (omega arith) (omega arith)) (omega arith))
