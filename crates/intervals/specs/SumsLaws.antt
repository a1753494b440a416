-- Sums of some of the undecided weights of a row: as choices of a list of weights, and as a layout makes them.
use Rattle.std.specs.Prelude.{ℕ, ◌+◌, ◌≤◌, ◌≡◌, refl, Bool, true, false, cond}
use Rattle.std.specs.Int.{◌∣◌}
use Rattle.std.proofs.Math.Nat.{dvd-zero, dvd-add, dvd_trans}
use Rattle.std.proofs.Common.{arith, sym, ap, ◌∙◌, subst}
use mathlib.Core.List.{List, [], ◌∷◌, ◌++◌, reverse, reverse-cons, reverse-reverse, append-nil}
use Rattle.numeric.specs.Threshold.{Term}
use Rattle.divisors.specs.GcdLaws.{chosen, gcd_all, gcd-left, gcd_right}

-- The weights of the undecided terms, and what a layout chooses of them.
unfoldable pub open_weights : (ℕ → Bool) → List Term → List ℕ
open_weights d [] = []
open_weights d (t ∷ ts) = elim (d t.condition) [ true ↦ open_weights d ts | false ↦ t.weight ∷ open_weights d ts ]

unfoldable pub choices : (ℕ → Bool) → (ℕ → Bool) → List Term → List Bool
choices d v [] = []
choices d v (t ∷ ts) = elim (d t.condition) [ true ↦ choices d v ts | false ↦ v t.condition ∷ choices d v ts ]

-- The sum of the undecided weights whose conditions the layout makes true.
unfoldable pub open_sum : (ℕ → Bool) → (ℕ → Bool) → List Term → ℕ
open_sum d v [] = 0
open_sum d v (t ∷ ts) = cond (d t.condition) 0 (cond (v t.condition) t.weight 0) + open_sum d v ts

-- All of them together.
unfoldable pub sum : List ℕ → ℕ
sum [] = 0
sum (w ∷ ws) = w + sum ws

-- Each is a multiple of g.
abbrev pub Divides : ℕ → List ℕ → Type 0
Divides g [] = Unit {0}
Divides g (w ∷ ws) = (g ∣ w) × Divides g ws

module _ (d : ℕ → Bool) (t : Term) (ts : List Term) where
  pub open_skip : d t.condition ≡ true → open_weights d (t ∷ ts) ≡ open_weights d ts
  unfolding open_weights
  open_skip h = rw (h, open_weights)

  pub open_more : d t.condition ≡ false → open_weights d (t ∷ ts) ≡ t.weight ∷ open_weights d ts
  unfolding open_weights
  open_more h = rw (h, open_weights)

  module _ (v : ℕ → Bool) where
    pub sum_skip : d t.condition ≡ true → open_sum d v (t ∷ ts) ≡ open_sum d v ts
    unfolding open_sum
    sum_skip h = rw (h, open_sum) (omega arith)

    pub sum_on : d t.condition ≡ false → v t.condition ≡ true → open_sum d v (t ∷ ts) ≡ t.weight + open_sum d v ts
    unfolding open_sum
    sum_on h k = rw (h, k, open_sum)

    pub sum_off : d t.condition ≡ false → v t.condition ≡ false → open_sum d v (t ∷ ts) ≡ open_sum d v ts
    unfolding open_sum
    sum_off h k = rw (h, k, open_sum) (omega arith)

-- What a layout sums up is one of the choices.
pub choices_sum : (d v : ℕ → Bool) (ts : List Term) → chosen (choices d v ts) (open_weights d ts) ≡ open_sum d v ts
unfolding choices open_weights open_sum chosen
choices_sum d v [] = refl
choices_sum d v (t ∷ ts) = by (choices_sum d v ts) (d t.condition) refl (v t.condition) refl
  where
    by : chosen (choices d v ts) (open_weights d ts) ≡ open_sum d v ts → (b : Bool) → d t.condition ≡ b → (c : Bool) → v t.condition ≡ c
        → chosen (choices d v (t ∷ ts)) (open_weights d (t ∷ ts)) ≡ open_sum d v (t ∷ ts)
    by ih true e c f = rw (e, choices, open_weights, open_sum) (ih ∙ omega arith)
    by ih false e true f = rw (e, f, choices, open_weights, open_sum, chosen) (ap (λ (n : ℕ). t.weight + n) ih)
    by ih false e false f = rw (e, f, choices, open_weights, open_sum, chosen) (ih ∙ omega arith)

-- ---- choices

pub chosen_none : (cs : List Bool) → chosen cs [] ≡ 0
unfolding chosen
chosen_none [] = refl
chosen_none (c ∷ cs) = refl

pub chosen-le : (cs : List Bool) (ws : List ℕ) → chosen cs ws ≤ sum ws
unfolding chosen sum
chosen-le [] ws = omega arith
chosen-le (c ∷ cs) [] = omega arith
chosen-le (true ∷ cs) (w ∷ ws) = omega (arith, chosen-le cs ws)
chosen-le (false ∷ cs) (w ∷ ws) = omega (arith, chosen-le cs ws)

pub divides_chosen : (g : ℕ) (cs : List Bool) (ws : List ℕ) → Divides g ws → g ∣ chosen cs ws
unfolding chosen
divides_chosen g [] ws h = dvd-zero g
divides_chosen g (c ∷ cs) [] h = dvd-zero g
divides_chosen g (true ∷ cs) (w ∷ ws) h = dvd-add g h.0 (divides_chosen g cs ws h.1)
divides_chosen g (false ∷ cs) (w ∷ ws) h = divides_chosen g cs ws h.1

pub divides_all : (g : ℕ) (ws : List ℕ) → g ∣ gcd_all ws → Divides g ws
unfolding gcd_all
divides_all g [] h = tt
divides_all g (w ∷ ws) h = (dvd_trans g h (gcd-left w (gcd_all ws)), divides_all g ws (dvd_trans g h (gcd_right w (gcd_all ws))))

pub divides_less : (g k : ℕ) (ws : List ℕ) → g ∣ k → Divides k ws → Divides g ws
divides_less g k [] h a = tt
divides_less g k (w ∷ ws) h a = (dvd_trans g h a.0, divides_less g k ws h a.1)

-- ---- the other way round

divides_append : (g : ℕ) (xs ys : List ℕ) → Divides g xs → Divides g ys → Divides g (xs ++ ys)
divides_append g [] ys a b = b
divides_append g (x ∷ xs) ys a b = (a.0, divides_append g xs ys a.1 b)

divides_turned : (g : ℕ) (ws : List ℕ) → Divides g ws → Divides g (reverse ws)
divides_turned g [] a = tt
divides_turned g (w ∷ ws) a = rw reverse-cons (divides_append g (reverse ws) (w ∷ []) (divides_turned g ws a.1) (a.0, tt))

pub divides_reverse : (g : ℕ) (ws : List ℕ) → Divides g (reverse ws) → Divides g ws
divides_reverse g ws a = subst (Divides g) (reverse-reverse ws) (divides_turned g (reverse ws) a)

open_append : (d : ℕ → Bool) (xs ys : List Term) → open_weights d (xs ++ ys) ≡ open_weights d xs ++ open_weights d ys
unfolding open_weights
open_append d [] ys = refl
open_append d (t ∷ xs) ys = by (open_append d xs ys) (d t.condition) refl
  where
    by : open_weights d (xs ++ ys) ≡ open_weights d xs ++ open_weights d ys → (b : Bool) → d t.condition ≡ b
        → open_weights d (t ∷ (xs ++ ys)) ≡ open_weights d (t ∷ xs) ++ open_weights d ys
    by ih true e = rw (e, open_weights) ih
    by ih false e = rw (e, open_weights) (ap (λ (l : List ℕ). t.weight ∷ l) ih)

pub open_reverse : (d : ℕ → Bool) (ts : List Term) → open_weights d (reverse ts) ≡ reverse (open_weights d ts)
unfolding open_weights
open_reverse d [] = refl
open_reverse d (t ∷ ts) = by (open_reverse d ts) (d t.condition) refl
  where
    by : open_weights d (reverse ts) ≡ reverse (open_weights d ts) → (b : Bool) → d t.condition ≡ b
        → open_weights d (reverse (t ∷ ts)) ≡ reverse (open_weights d (t ∷ ts))
    by ih true e =
        ap (open_weights d) (reverse-cons t ts) ∙ open_append d (reverse ts) (t ∷ [])
        ∙ ap (λ (l : List ℕ). open_weights d (reverse ts) ++ l) (open_skip d t [] e) ∙ append-nil (open_weights d (reverse ts))
        ∙ ih ∙ ap reverse (sym (open_skip d t ts e))
    by ih false e =
        ap (open_weights d) (reverse-cons t ts) ∙ open_append d (reverse ts) (t ∷ [])
        ∙ ap (λ (l : List ℕ). open_weights d (reverse ts) ++ l) (open_more d t [] e)
        ∙ ap (λ (l : List ℕ). l ++ (t.weight ∷ [])) ih
        ∙ sym (reverse-cons t.weight (open_weights d ts)) ∙ ap reverse (sym (open_more d t ts e))

-- The sums of the choices of a list, one weight after the other.
data Sum : List ℕ → ℕ → Type 0 where
  none : Sum [] 0
  taken : {w x : ℕ} {ws : List ℕ} → Sum ws x → Sum (w ∷ ws) (w + x)
  left : {w x : ℕ} {ws : List ℕ} → Sum ws x → Sum (w ∷ ws) x

of_choice : (cs : List Bool) (ws : List ℕ) → Sum ws (chosen cs ws)
unfolding chosen
of_choice [] [] = none
of_choice [] (w ∷ ws) = left (of_choice [] ws)
of_choice (c ∷ cs) [] = none
of_choice (true ∷ cs) (w ∷ ws) = taken (of_choice cs ws)
of_choice (false ∷ cs) (w ∷ ws) = left (of_choice cs ws)

to_choice : {ws : List ℕ} {x : ℕ} → Sum ws x → (cs : List Bool) × (chosen cs ws ≡ x)
unfolding chosen
to_choice none = ([], refl)
to_choice (taken {w} s) = let r = to_choice s in (true ∷ r.0, ap (λ (n : ℕ). w + n) r.1)
to_choice (left s) = let r = to_choice s in (false ∷ r.0, r.1)

behind : {ws : List ℕ} {x : ℕ} (vs : List ℕ) (y : ℕ) → Sum ws x → Sum vs y → Sum (ws ++ vs) (x + y)
behind vs y none b = subst (Sum vs) (let e : y ≡ 0 + y = omega arith in e) b
behind vs y (taken {w} {x} {ws} s) b =
    subst (Sum (w ∷ (ws ++ vs))) (let e : w + (x + y) ≡ w + x + y = omega arith in e) (taken (behind vs y s b))
behind vs y (left s) b = left (behind vs y s b)

turned : {ws : List ℕ} {x : ℕ} → Sum ws x → Sum (reverse ws) x
turned none = none
turned (taken {w} {x} {ws} s) =
    rw reverse-cons (subst (Sum (reverse ws ++ (w ∷ []))) (let e : x + (w + 0) ≡ w + x = omega arith in e) (behind (w ∷ []) (w + 0) (turned s) (taken none)))
turned (left {w} {x} {ws} s) =
    rw reverse-cons (subst (Sum (reverse ws ++ (w ∷ []))) (let e : x + 0 ≡ x = omega arith in e) (behind (w ∷ []) 0 (turned s) (left none)))

-- Each sum of a choice is one of a choice of the reversed list.
pub chosen-reverse : (cs : List Bool) (ws : List ℕ) → (bs : List Bool) × (chosen bs (reverse ws) ≡ chosen cs ws)
chosen-reverse cs ws = to_choice (turned (of_choice cs ws))
