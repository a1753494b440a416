-- Parts of buffers lent on: what is written into a part stands in the whole, and zeros come back as zeros.
use Rattle.std.specs.Prelude.{ℕ, zero, suc, ◌+◌, ◌-◌, ◌≤◌, ◌≡◌, refl, List, [], ◌∷◌, ◌++◌, length, take, drop, replicate}
use Rattle.std.proofs.Common.{not-suc-le-zero, arith, sym, ap, ap₂, ◌∙◌, append_assoc, append-nil, length-append, length-drop, drop_of_length-le, take-append-drop, length-take-le, take_at, take_all, drop-drop}
use Rattle.std.proofs.lemmas.List.{drop-append-le}
use Rattle.std.proofs.Math.Seq.{drop-append-add}
use Rattle.memory.specs.Buffers.{zeros}
use Rattle.base.specs.Laid.{over, join_all}
use Rattle.base.specs.Deal.{Keyed, grouped}
use Rattle.base.specs.TallyLaws.{count_most}
use Rattle.row.specs.Keys.{laid}
use Rattle.sort.specs.Runs.{cleared}
use Rattle.sort.specs.FillLaws.{cleared-zeros}
use Rattle.thresholds.specs.PlacedLaws.{drop-replicate}
use Rattle.placing.specs.Place.{Blank}

-- ---- zeros

zeros-take : (k n : ℕ) → k ≤ n → take {A = ℕ} k (replicate n 0) ≡ replicate k 0
zeros-take zero n h = refl
zeros-take (suc k) zero h = absurd (not-suc-le-zero h)
zeros-take (suc k) (suc n) h = ap (λ (l : List ℕ). 0 ∷ l) (zeros-take k n (omega arith))

front-zeros : (k : ℕ) (l : List ℕ) → Blank l → k ≤ length l → take k l ≡ replicate k 0
front-zeros k l e h = ap (take k) e ∙ zeros-take k (length l) h

zeros_are : (l : List ℕ) → zeros 0 l ≡ replicate (length l) 0
unfolding zeros
zeros_are [] = refl
zeros_are (x ∷ l) = ap (λ (t : List ℕ). 0 ∷ t) (zeros_are l)

pub blank-take : (k : ℕ) (l : List ℕ) → Blank l → k ≤ length l → Blank (take k l)
blank-take k l e h = front-zeros k l e h ∙ ap (λ (n : ℕ). replicate n 0) (sym (length-take-le k l h))

pub zeros_back : (l b : List ℕ) → Blank b → length l ≡ length b → zeros 0 l ≡ b
zeros_back l b e q = zeros_are l ∙ ap (λ (n : ℕ). replicate n 0) q ∙ sym e

pub blank-drop : (k : ℕ) (l : List ℕ) → Blank l → drop k l ≡ replicate (length l - k) 0
blank-drop k l e = ap (drop k) e ∙ drop-replicate k (length l)

-- What the first places held does not matter once they are zero again.
pub cleared_back : (k : ℕ) (l b : List ℕ) → Blank b → k ≤ length b → drop k l ≡ drop k b → cleared k l ≡ b
cleared_back k l b e h q = ap₂ (λ (x y : List ℕ). x ++ y) (sym (front-zeros k b e h)) q ∙ take-append-drop k b

-- ---- a part from the start

pub over_long : {X : Type 0} (l b : List X) → length l ≤ length b → length (over l b) ≡ length b
over_long l b h = let p = length-append l (drop (length l) b) in let q = length-drop (length l) b in omega arith

-- A list as long as the buffer is all of it.
pub over_all : {X : Type 0} (l b : List X) → length l ≡ length b → over l b ≡ l
over_all {X} l b e = ap (λ (t : List X). l ++ t) (drop_of_length-le b {i = length l} (omega arith)) ∙ append-nil l

pub laid-over : (cs cs' l : List ℕ) → Blank cs → length cs' ≡ length cs → cs' ≡ laid (length cs') l → cs' ≡ over l cs
laid-over cs cs' l e q p = p ∙ ap (λ (m : ℕ). laid m l) q ∙ ap (λ (t : List ℕ). l ++ t) (sym (blank-drop (length l) cs e))

pub over_part : {X : Type 0} (l b : List X) (n : ℕ) → length l ≤ n → n ≤ length b → over l (take n b) ++ drop n b ≡ over l b
over_part {X} l b n h k =
    let t = length-take-le n b k in
    append_assoc l (drop (length l) (take n b)) (drop n b)
    ∙ ap (λ (t : List X). l ++ t) (sym (drop-append-le (length l) (take n b) (drop n b) (omega arith)) ∙ ap (drop (length l)) (take-append-drop n b))

-- Items grouped by key, written into a part that has a place for each.
pub grouped_part : {X : Type 0} (xs : List (Keyed X)) (m k : ℕ) (b ys : List X) (n : ℕ) → m ≡ k → length xs ≤ n → n ≤ length b
    → ys ≡ over (join_all (grouped 0 m xs)) (take n b) → ys ++ drop n b ≡ over (join_all (grouped 0 k xs)) b
grouped_part {X} xs m k b ys n e h i q =
    let c = count_most k xs in
    ap (λ (y : List X). y ++ drop n b) (q ∙ ap (λ (m : ℕ). over (join_all (grouped 0 m xs)) (take n b)) e) ∙ over_part (join_all (grouped 0 k xs)) b n (omega arith) i

pub keys_over : (b keys ys : List ℕ) (n : ℕ) → ys ≡ keys → length keys ≡ n → ys ++ drop n b ≡ over keys b
keys_over b keys ys n e l = ap₂ (λ (y : List ℕ) (m : ℕ). y ++ drop m b) e (sym l)

-- A part cleared.
pub cleared_part : (b ys : List ℕ) (n : ℕ) → n ≤ length b → ys ≡ replicate (length (take n b)) 0 → ys ++ drop n b ≡ cleared n b
cleared_part b ys n h e = ap (λ (y : List ℕ). y ++ drop n b) (e ∙ ap (λ (k : ℕ). replicate k 0) (length-take-le n b h))

-- Zeros lent as a spare and cleared.
pub spare_kept : (ws ys : List ℕ) (n k : ℕ) → Blank ws → n ≤ length ws → k ≡ n → ys ≡ cleared k (take n ws) → ys ++ drop n ws ≡ ws
spare_kept ws ys n k e h q p =
    let z = front-zeros n ws e h in
    ap (λ (y : List ℕ). y ++ drop n ws) (p ∙ ap (cleared k) z ∙ cleared-zeros k n (omega arith) ∙ sym z) ∙ take-append-drop n ws

-- ---- a part to the end

pub tail_kept : (xs ys : List ℕ) (k : ℕ) → ys ≡ take (length xs - k) (drop k xs) → take k xs ++ (ys ++ drop (length xs - k) (drop k xs)) ≡ xs
tail_kept xs ys k e =
    ap (λ (y : List ℕ). take k xs ++ (y ++ drop (length xs - k) (drop k xs))) e
    ∙ ap (λ (t : List ℕ). take k xs ++ t) (take-append-drop (length xs - k) (drop k xs)) ∙ take-append-drop k xs

tail_all : (xs : List ℕ) (k : ℕ) → take (length xs - k) (drop k xs) ≡ drop k xs
tail_all xs k = let q = length-drop k xs in take_all (length xs - k) (drop k xs) (omega arith)

pub tail_long : (xs : List ℕ) (k : ℕ) → length (take (length xs - k) (drop k xs)) ≡ length xs - k
tail_long xs k = ap length (tail_all xs k) ∙ length-drop k xs

pub tail_blank : (xs : List ℕ) (k : ℕ) → drop k xs ≡ replicate (length xs - k) 0 → Blank (take (length xs - k) (drop k xs))
tail_blank xs k e = tail_all xs k ∙ e ∙ ap (λ (n : ℕ). replicate n 0) (sym (tail_long xs k))

-- ---- keys over zeros

pub keys_front : (keys b : List ℕ) (n : ℕ) → length keys ≡ n → take n (over keys b) ≡ keys
keys_front keys b n e = take_at keys (drop (length keys) b) n e

pub keys_behind : (keys b : List ℕ) (k : ℕ) → length keys ≤ k → drop k (over keys b) ≡ drop k b
keys_behind keys b k h =
    let e : k ≡ length keys + (k - length keys) = omega arith in
    ap (λ (n : ℕ). drop n (over keys b)) e ∙ drop-append-add keys (drop (length keys) b) (k - length keys) ∙ drop-drop (k - length keys) (length keys) b
    ∙ ap (λ (n : ℕ). drop n b) (sym e)
