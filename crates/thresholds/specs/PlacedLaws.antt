-- Laws of rows as they grow.
use Rattle.std.specs.Prelude.{ℕ, zero, suc, ◌+◌, ◌-◌, ◌<◌, ◌≤◌, ◌≡◌, refl, List, [], ◌∷◌, ◌++◌, map, length, take, drop, get_or, replicate}
use Rattle.std.proofs.Common.{arith, sym, ap, ap₂, ◌∙◌, subst, append_assoc, append-nil, length-append, length-drop, take-append-drop, drop_of_length-le, take_all, take_at, drop_at}
use Rattle.std.proofs.lemmas.List.{length-replicate, replicate-append-replicate}
use Rattle.row.specs.Keys.{Raw, laid}
use Rattle.sort.specs.Runs.{cleared}
use Rattle.base.specs.Parts.{stretch}
use Rattle.thresholds.specs.Placed.{spliced}

abbrev zeros : ℕ → List ℕ
zeros n = replicate n 0

pub drop-replicate : (k n : ℕ) → drop k (zeros n) ≡ zeros (n - k)
drop-replicate zero n = ap (λ (m : ℕ). zeros m) (let e : n ≡ n - 0 = omega arith in e)
drop-replicate (suc k) zero = ap (λ (m : ℕ). zeros m) (let e : 0 ≡ 0 - suc k = omega arith in e)
drop-replicate (suc k) (suc n) = drop-replicate k n ∙ ap (λ (m : ℕ). zeros m) (let e : n - k ≡ suc n - suc k = omega arith in e)

-- A list laid behind another, zeros behind both.
pub laid-behind : (b : List ℕ) (at m : ℕ) (l x : List ℕ) → b ≡ laid (length b) l → at ≡ length l → at + m ≤ length b → length x ≤ m
    → take at b ++ (laid m x ++ drop m (drop at b)) ≡ laid (length b) (l ++ x)
laid-behind b at m l x e f h k =
    let n = length b in
    let z = zeros (n - length l) in
    let t : take at b ≡ l = ap (take at) e ∙ take_at l z at (sym f) in
    let d : drop m (drop at b) ≡ zeros (n - at - m) =
    ap (λ (y : List ℕ). drop m (drop at y)) e ∙ ap (drop m) (drop_at l z at (sym f)) ∙ drop-replicate m (n - length l)
    ∙ ap (λ (y : ℕ). zeros (n - y - m)) (sym f) in
    let q : laid m x ++ zeros (n - at - m) ≡ x ++ zeros (n - (length l + length x)) =
    append_assoc x (zeros (m - length x)) (zeros (n - at - m))
    ∙ ap (λ (y : List ℕ). x ++ y) (replicate-append-replicate (m - length x) (n - at - m) 0 ∙ ap (λ (y : ℕ). zeros y) (let u : (m - length x) + (n - at - m) ≡ n - (length l + length x) = omega arith in u)) in
    ap₂ (λ (y : List ℕ) (v : List ℕ). y ++ (laid m x ++ v)) t d
    ∙ ap (λ (y : List ℕ). l ++ y) (q ∙ ap (λ (y : ℕ). x ++ zeros (n - y)) (sym (length-append l x)))
    ∙ sym (append_assoc l x (zeros (n - length (l ++ x))))

-- Zeros that are cleared again.
pub clear_again : (b : List ℕ) (k n : ℕ) → k ≤ length b → drop k b ≡ zeros (length b - k) → n ≤ length b - k
    → take k b ++ (cleared n (drop k b) ++ drop (length b - k) (drop k b)) ≡ b
clear_again b k n h e f =
    let m = length b - k in
    let c : cleared n (drop k b) ≡ drop k b =
    ap (λ (y : List ℕ). zeros n ++ drop n y) e ∙ ap (λ (y : List ℕ). zeros n ++ y) (drop-replicate n m)
    ∙ replicate-append-replicate n (m - n) 0 ∙ ap (λ (y : ℕ). zeros y) (let u : n + (m - n) ≡ m = omega arith in u) ∙ sym e in
    let d : drop m (drop k b) ≡ [] = drop_of_length-le (drop k b) (let u = length-drop k b in let v : length (drop k b) ≤ m = omega arith in v) in
    ap₂ (λ (y : List ℕ) (v : List ℕ). take k b ++ (y ++ v)) c d ∙ ap (λ (y : List ℕ). take k b ++ y) (append-nil (drop k b)) ∙ take-append-drop k b

length-map : {X Y : Type 0} (f : X → Y) (xs : List X) → length (map f xs) ≡ length xs
length-map f [] = refl
length-map f (x ∷ xs) = ap suc (length-map f xs)

-- A list laid into n places has no more.
pub laid-fits : {X : Type 0} (f : X → ℕ) (xs : List X) (l : List ℕ) (n : ℕ) → l ≡ laid n (map f xs) → length l ≡ n → length xs ≤ n
laid-fits f xs l n e h =
    let q = ap length e ∙ length-append (map f xs) (zeros (n - length (map f xs))) in
    let r : length (zeros (n - length (map f xs))) ≡ n - length (map f xs) = length-replicate (n - length (map f xs)) 0 in
    let m = length-map f xs in
    omega arith

pub raw_by : (cs ws cs' ws' : List ℕ) → cs' ≡ cs → ws' ≡ ws → Raw cs ws → Raw cs' ws'
raw_by cs ws cs' ws' e f r = subst (λ (l : List ℕ). Raw l ws') (sym e) (subst (λ (l : List ℕ). Raw cs l) (sym f) r)

pub clear_part : (b : List ℕ) (k n : ℕ) → k ≤ length b → drop k b ≡ zeros (length b - k) → n ≤ length b - k
    → take k b ++ (cleared n (stretch k (length b) b) ++ drop (length b - k) (drop k b)) ≡ b
clear_part b k n h e f =
    ap (λ (y : List ℕ). take k b ++ (cleared n y ++ drop (length b - k) (drop k b)))
    (take_all (length b - k) (drop k b) (let u = length-drop k b in let v : length (drop k b) ≤ length b - k = omega arith in v))
    ∙ clear_again b k n h e f

take_small : (n : ℕ) (l : List ℕ) (b : ℕ) → ((i : ℕ) → get_or l i 0 < b) → (i : ℕ) → get_or (take n l) i 0 < b
take_small zero l b h i = let q = h (length l) in subst (λ (x : ℕ). x < b) (sym (none i)) (let z = h 0 in omega arith)
  where
    none : (i : ℕ) → get_or {A = ℕ} [] i 0 ≡ 0
    none i = refl
take_small (suc n) [] b h i = h i
take_small (suc n) (x ∷ l) b h zero = h 0
take_small (suc n) (x ∷ l) b h (suc i) = take_small n l b (λ j. h (suc j)) i

drop_small : (n : ℕ) (l : List ℕ) (b : ℕ) → ((i : ℕ) → get_or l i 0 < b) → (i : ℕ) → get_or (drop n l) i 0 < b
drop_small zero l b h i = h i
drop_small (suc n) [] b h i = h i
drop_small (suc n) (x ∷ l) b h i = drop_small n l b (λ j. h (suc j)) i

pub stretch_small : (a e : ℕ) (l : List ℕ) (b : ℕ) → ((i : ℕ) → get_or l i 0 < b) → (i : ℕ) → get_or (stretch a e l) i 0 < b
stretch_small a e l b h = take_small (e - a) (drop a l) b (drop_small a l b h)

pub splice_by : (at m m' n : ℕ) (l x y : List ℕ) → x ≡ laid n y → n ≡ m → m' ≡ m → spliced at m' l x ≡ spliced at m l (laid m y)
splice_by at m m' n l x y e f g = ap₂ (λ (v : List ℕ) (k : ℕ). spliced at k l v) (e ∙ ap (λ (k : ℕ). laid k y) f) g
