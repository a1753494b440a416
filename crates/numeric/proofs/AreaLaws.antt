-- WHAT JOINING IS: a list in which no condition has two areas stays as it is, and an area that comes behind another of its condition is
-- added to it where that stands. Then what one more entry does, and what holds of all entries.
use Rattle.std.specs.Prelude.{ℕ, ◌+◌, ◌*◌, ◌^◌, ◌<◌, ◌≤◌, ◌≡◌, refl, Bool, true, length, eqb}
use Rattle.std.proofs.Common.{add-zero, ◌∙◌, ⊎_elim, eqb-true, eq-eqb, ne_eqb}
use native.Mathlib.Omega.{arith}
use Rattle.std.proofs.Math.Path.{sym, ap, ap₂}
use Rattle.std.proofs.Math.Bool.{false, cond}
use mathlib.Core.List.{List, [], ◌∷◌, ◌++◌, map}
use Rattle.std.proofs.lemmas.Bool.{eqb-false}
use Rattle.base.specs.TestLaws.{true-false}
use Rattle.base.specs.All.{All}
use Rattle.numeric.specs.Threshold.{Term, term}
use Rattle.numeric.specs.Area.{Entry, plain, area, condition_of, hundredths, without, joined, Single, rounded, weighed}

-- ---- WORKED: the sum stands where the first area stood; it is rounded once; a sum that rounds to 0 is listed

first-place : joined (area 2 30 ∷ plain 1 7 ∷ area 2 31 ∷ []) ≡ area 2 61 ∷ plain 1 7 ∷ []
unfolding joined hundredths without
first-place = refl

rounded-once : weighed (area 2 30 ∷ area 2 30 ∷ []) ≡ term 2 1 ∷ []
unfolding joined hundredths without
rounded-once = refl

zero-listed : weighed (area 2 20 ∷ plain 1 7 ∷ area 2 29 ∷ []) ≡ term 2 0 ∷ term 1 7 ∷ []
unfolding joined hundredths without
zero-listed = refl

-- ---- an area of the condition, and one of another

module _ (c d h : ℕ) (es : List Entry) where
  dropped : Bool → List Entry
  dropped b = elim b [ true ↦ without c es | false ↦ area d h ∷ without c es ]

  without-hit : eqb d c ≡ true → without c (area d h ∷ es) ≡ without c es
  unfolding without dropped
  without-hit e = ap dropped e

  without-miss : eqb d c ≡ false → without c (area d h ∷ es) ≡ area d h ∷ without c es
  unfolding without dropped
  without-miss e = ap dropped e

  hundredths-hit : eqb d c ≡ true → hundredths c (area d h ∷ es) ≡ h + hundredths c es
  unfolding hundredths
  hundredths-hit e = ap (λ (b : Bool). cond b h 0 + hundredths c es) e

  hundredths-miss : eqb d c ≡ false → hundredths c (area d h ∷ es) ≡ hundredths c es
  unfolding hundredths
  hundredths-miss e = ap (λ (b : Bool). cond b h 0 + hundredths c es) e ∙ (let z : 0 + hundredths c es ≡ hundredths c es = omega arith in z)

self : (c : ℕ) → eqb c c ≡ true
self c = eq-eqb c c refl

turned : (b : Bool) (c d : ℕ) → eqb d c ≡ b → eqb c d ≡ b
turned true c d e = eq-eqb c d (sym (eqb-true d c e))
turned false c d e = ne_eqb c d (λ q. eqb-false d c e (sym q))

-- By whether an area is one of the condition.
either : (c d : ℕ) (P : Type 0) → (eqb d c ≡ true → P) → (eqb d c ≡ false → P) → P
either c d P f g = ⊎_elim f g (true-false (eqb d c))

-- ---- hundredths and lists without a condition's areas

hundredths-append : (c : ℕ) (es fs : List Entry) → hundredths c (es ++ fs) ≡ hundredths c es + hundredths c fs
unfolding hundredths
hundredths-append c [] fs = omega arith
hundredths-append c (plain d w ∷ es) fs = hundredths-append c es fs
hundredths-append c (area d h ∷ es) fs = let q = hundredths-append c es fs in omega (arith, q)

none_left : (c : ℕ) (es : List Entry) → hundredths c (without c es) ≡ 0
unfolding hundredths without
none_left c [] = refl
none_left c (plain d w ∷ es) = none_left c es
none_left c (area d h ∷ es) =
    either c d (hundredths c (without c (area d h ∷ es)) ≡ 0)
    (λ e. ap (hundredths c) (without-hit c d h es e) ∙ none_left c es)
    (λ e. ap (hundredths c) (without-miss c d h es e) ∙ hundredths-miss c d h (without c es) e ∙ none_left c es)

others_left : (c d : ℕ) (es : List Entry) → eqb d c ≡ false → hundredths d (without c es) ≡ hundredths d es
unfolding hundredths without
others_left c d [] n = refl
others_left c d (plain a w ∷ es) n = others_left c d es n
others_left c d (area a h ∷ es) n =
    either c a (hundredths d (without c (area a h ∷ es)) ≡ hundredths d (area a h ∷ es))
    (λ e. ap (hundredths d) (without-hit c a h es e) ∙ others_left c d es n
    ∙ sym (hundredths-miss d a h es (ap (λ (x : ℕ). eqb x d) (eqb-true a c e) ∙ turned false c d n)))
    (λ e. ap (hundredths d) (without-miss c a h es e) ∙ ap (λ (x : ℕ). cond (eqb a d) h 0 + x) (others_left c d es n))

-- Left out twice is left out once.
without_twice : (c : ℕ) (es : List Entry) → without c (without c es) ≡ without c es
unfolding without
without_twice c [] = refl
without_twice c (plain d w ∷ es) = ap (λ (l : List Entry). plain d w ∷ l) (without_twice c es)
without_twice c (area d h ∷ es) =
    either c d (without c (without c (area d h ∷ es)) ≡ without c (area d h ∷ es))
    (λ e. ap (without c) (without-hit c d h es e) ∙ without_twice c es ∙ sym (without-hit c d h es e))
    (λ e. ap (without c) (without-miss c d h es e) ∙ without-miss c d h (without c es) e ∙ ap (λ (l : List Entry). area d h ∷ l) (without_twice c es)
    ∙ sym (without-miss c d h es e))

without_both : (c d : ℕ) (es : List Entry) → without c (without d es) ≡ without d (without c es)
unfolding without
without_both c d [] = refl
without_both c d (plain a w ∷ es) = ap (λ (l : List Entry). plain a w ∷ l) (without_both c d es)
without_both c d (area a h ∷ es) =
    either c a Goal
    (λ e. either d a Goal
    (λ f. ap (without c) (without-hit d a h es f) ∙ without_both c d es ∙ ap (without d) (sym (without-hit c a h es e)))
    (λ f. ap (without c) (without-miss d a h es f) ∙ without-hit c a h (without d es) e ∙ without_both c d es ∙ ap (without d) (sym (without-hit c a h es e))))
    (λ e. either d a Goal
    (λ f. ap (without c) (without-hit d a h es f) ∙ without_both c d es ∙ sym (without-hit d a h (without c es) f) ∙ ap (without d) (sym (without-miss c a h es e)))
    (λ f. ap (without c) (without-miss d a h es f) ∙ without-miss c a h (without d es) e ∙ ap (λ (l : List Entry). area a h ∷ l) (without_both c d es)
    ∙ sym (without-miss d a h (without c es) f) ∙ ap (without d) (sym (without-miss c a h es e))))
  where
    Goal : Type 0
    Goal = without c (without d (area a h ∷ es)) ≡ without d (without c (area a h ∷ es))

-- ---- THE SUM OF EACH CONDITION STAYS
pub sum_stays : (c : ℕ) (es : List Entry) → hundredths c (joined es) ≡ hundredths c es
unfolding hundredths joined
sum_stays c [] = refl
sum_stays c (plain d w ∷ es) = sum_stays c es
sum_stays c (area d h ∷ es) =
    either c d (hundredths c (joined (area d h ∷ es)) ≡ hundredths c (area d h ∷ es))
    (λ e. let q : d ≡ c = eqb-true d c e in
    hundredths-hit c d (h + hundredths d es) (without d (joined es)) e
    ∙ ap (λ (x : ℕ). h + hundredths x es + hundredths c (without x (joined es))) q
    ∙ ap (λ (n : ℕ). h + hundredths c es + n) (none_left c (joined es)) ∙ add-zero (h + hundredths c es) ∙ sym (hundredths-hit c d h es e))
    (λ e. hundredths-miss c d (h + hundredths d es) (without d (joined es)) e ∙ others_left d c (joined es) (turned false c d e) ∙ sum_stays c es
    ∙ sym (hundredths-miss c d h es e))

-- ---- IN ONE AREA
single_without : (c : ℕ) (es : List Entry) → Single es → Single (without c es)
unfolding without dropped
single_without c [] s = tt
single_without c (plain d w ∷ es) s = single_without c es s
single_without c (area d h ∷ es) s = by (single_without c es s.1) (eqb d c)
  where
    by : Single (without c es) → (b : Bool) → Single (dropped c d h es b)
    by k true = k
    by k false = (without_both d c es ∙ ap (without c) s.0, k)

pub single_joined : (es : List Entry) → Single (joined es)
unfolding joined
single_joined [] = tt
single_joined (plain c w ∷ es) = single_joined es
single_joined (area c h ∷ es) = (without_twice c (joined es), single_without c (joined es) (single_joined es))

-- ---- A LIST IN WHICH NO CONDITION HAS TWO AREAS STAYS AS IT IS
pub joined_single : (es : List Entry) → Single es → joined es ≡ es
unfolding joined
joined_single [] s = refl
joined_single (plain c w ∷ es) s = ap (λ (l : List Entry). plain c w ∷ l) (joined_single es s)
joined_single (area c h ∷ es) s =
    ap₂ (λ (n : ℕ) (l : List Entry). area c (h + n) ∷ l) (sym (ap (hundredths c) s.0) ∙ none_left c es) (ap (without c) (joined_single es s.1) ∙ s.0)
    ∙ ap (λ (n : ℕ). area c n ∷ es) (add-zero h)

-- ---- AN AREA IS ADDED TO THE ONE OF ITS CONDITION THAT STANDS BEFORE IT

-- Behind any list, what joins alike goes on joining alike.
abbrev Alike : List Entry → List Entry → Type 0
Alike es fs = (joined es ≡ joined fs) × ((d : ℕ) → hundredths d es ≡ hundredths d fs)

alike_behind : (before es fs : List Entry) → Alike es fs → Alike (before ++ es) (before ++ fs)
unfolding joined hundredths
alike_behind [] es fs a = a
alike_behind (plain c w ∷ before) es fs a =
    let b = alike_behind before es fs a in (ap (λ (l : List Entry). plain c w ∷ l) b.0, b.1)
alike_behind (area c h ∷ before) es fs a =
    let b = alike_behind before es fs a in
    (ap₂ (λ (n : ℕ) (l : List Entry). area c (h + n) ∷ without c l) (b.1 c) b.0, λ d. ap (λ (n : ℕ). cond (eqb c d) h 0 + n) (b.1 d))

module _ (c h : ℕ) (behind : List Entry) where
  moved_out : (middle : List Entry) → hundredths c (middle ++ (area c h ∷ behind)) ≡ h + hundredths c (middle ++ behind)
  moved_out middle =
      let a = hundredths-append c middle (area c h ∷ behind) in
      let b = hundredths-append c middle behind in
      let k = hundredths-hit c c h behind (self c) in omega (arith, a, b, k)

  others_same : (d : ℕ) → eqb c d ≡ false → (middle : List Entry) → hundredths d (middle ++ (area c h ∷ behind)) ≡ hundredths d (middle ++ behind)
  others_same d e middle =
      let a = hundredths-append d middle (area c h ∷ behind) in
      let b = hundredths-append d middle behind in
      let k = hundredths-miss d c h behind e in omega (arith, a, b, k)

  rest_same : (middle : List Entry) → without c (joined (middle ++ (area c h ∷ behind))) ≡ without c (joined (middle ++ behind))
  unfolding joined without
  rest_same [] = without-hit c c (h + hundredths c behind) (without c (joined behind)) (self c) ∙ without_twice c (joined behind)
  rest_same (plain d w ∷ middle) = ap (λ (l : List Entry). plain d w ∷ l) (rest_same middle)
  rest_same (area d k ∷ middle) =
      either c d Goal
      (λ e. without-hit c d (k + hundredths d (middle ++ (area c h ∷ behind))) (without d (joined (middle ++ (area c h ∷ behind)))) e
      ∙ without_both c d (joined (middle ++ (area c h ∷ behind))) ∙ ap (without d) (rest_same middle) ∙ without_both d c (joined (middle ++ behind))
      ∙ sym (without-hit c d (k + hundredths d (middle ++ behind)) (without d (joined (middle ++ behind))) e))
      (λ e. without-miss c d (k + hundredths d (middle ++ (area c h ∷ behind))) (without d (joined (middle ++ (area c h ∷ behind)))) e
      ∙ ap₂ (λ (n : ℕ) (l : List Entry). area d (k + n) ∷ l) (others_same d (turned false c d e) middle)
      (without_both c d (joined (middle ++ (area c h ∷ behind))) ∙ ap (without d) (rest_same middle) ∙ without_both d c (joined (middle ++ behind)))
      ∙ sym (without-miss c d (k + hundredths d (middle ++ behind)) (without d (joined (middle ++ behind))) e))
    where
      Goal : Type 0
      Goal = without c (joined (area d k ∷ (middle ++ (area c h ∷ behind)))) ≡ without c (joined (area d k ∷ (middle ++ behind)))

  added-alike : (g : ℕ) (middle : List Entry) → Alike (area c g ∷ (middle ++ (area c h ∷ behind))) (area c (g + h) ∷ (middle ++ behind))
  unfolding joined
  added-alike g middle = (ap₂ (λ (n : ℕ) (l : List Entry). area c n ∷ l) sum (rest_same middle), sums)
    where
      sum : g + hundredths c (middle ++ (area c h ∷ behind)) ≡ g + h + hundredths c (middle ++ behind)
      sum = let q = moved_out middle in omega (arith, q)

      sums : (d : ℕ) → hundredths d (area c g ∷ (middle ++ (area c h ∷ behind))) ≡ hundredths d (area c (g + h) ∷ (middle ++ behind))
      sums d =
          either d c (hundredths d (area c g ∷ (middle ++ (area c h ∷ behind))) ≡ hundredths d (area c (g + h) ∷ (middle ++ behind)))
          (λ e. let q : c ≡ d = eqb-true c d e in
          hundredths-hit d c g (middle ++ (area c h ∷ behind)) e ∙ ap (λ (x : ℕ). g + hundredths x (middle ++ (area c h ∷ behind))) (sym q)
          ∙ sum
          ∙ ap (λ (x : ℕ). g + h + hundredths x (middle ++ behind)) q ∙ sym (hundredths-hit d c (g + h) (middle ++ behind) e))
          (λ e. hundredths-miss d c g (middle ++ (area c h ∷ behind)) e ∙ others_same d e middle ∙ sym (hundredths-miss d c (g + h) (middle ++ behind) e))

pub joined_adds : (before : List Entry) (c g : ℕ) (middle : List Entry) (h : ℕ) (behind : List Entry)
    → joined (before ++ (area c g ∷ (middle ++ (area c h ∷ behind)))) ≡ joined (before ++ (area c (g + h) ∷ (middle ++ behind)))
joined_adds before c g middle h behind =
    (alike_behind before (area c g ∷ (middle ++ (area c h ∷ behind))) (area c (g + h) ∷ (middle ++ behind)) (added-alike c h behind g middle)).0

-- ---- ONE MORE ENTRY: a term goes to the end; an area is added to the one of its condition, or goes to the end

unfoldable pub add_area : ℕ → ℕ → List Entry → List Entry
add_area c h [] = area c h ∷ []
add_area c h (plain d w ∷ es) = plain d w ∷ add_area c h es
add_area c h (area d g ∷ es) = elim (eqb d c) [ true ↦ area d (g + h) ∷ es | false ↦ area d g ∷ add_area c h es ]

module _ (c h d g : ℕ) (es : List Entry) where
  grown : Bool → List Entry
  grown b = elim b [ true ↦ area d (g + h) ∷ es | false ↦ area d g ∷ add_area c h es ]

  pub add_hit : eqb d c ≡ true → add_area c h (area d g ∷ es) ≡ area d (g + h) ∷ es
  unfolding add_area grown
  add_hit e = ap grown e

  pub add_miss : eqb d c ≡ false → add_area c h (area d g ∷ es) ≡ area d g ∷ add_area c h es
  unfolding add_area grown
  add_miss e = ap grown e

without-plain : (a c w : ℕ) (es : List Entry) → without a (es ++ (plain c w ∷ [])) ≡ without a es ++ (plain c w ∷ [])
unfolding without
without-plain a c w [] = refl
without-plain a c w (plain d v ∷ es) = ap (λ (l : List Entry). plain d v ∷ l) (without-plain a c w es)
without-plain a c w (area d g ∷ es) =
    either a d (without a (area d g ∷ (es ++ (plain c w ∷ []))) ≡ without a (area d g ∷ es) ++ (plain c w ∷ []))
    (λ e. without-hit a d g (es ++ (plain c w ∷ [])) e ∙ without-plain a c w es ∙ ap (λ (l : List Entry). l ++ (plain c w ∷ [])) (sym (without-hit a d g es e)))
    (λ e. without-miss a d g (es ++ (plain c w ∷ [])) e ∙ ap (λ (l : List Entry). area d g ∷ l) (without-plain a c w es)
    ∙ ap (λ (l : List Entry). l ++ (plain c w ∷ [])) (sym (without-miss a d g es e)))

pub joined-plain : (c w : ℕ) (es : List Entry) → joined (es ++ (plain c w ∷ [])) ≡ joined es ++ (plain c w ∷ [])
unfolding joined hundredths
joined-plain c w [] = refl
joined-plain c w (plain d v ∷ es) = ap (λ (l : List Entry). plain d v ∷ l) (joined-plain c w es)
joined-plain c w (area d g ∷ es) =
    ap₂ (λ (n : ℕ) (l : List Entry). area d (g + n) ∷ l) (same d) (ap (without d) (joined-plain c w es) ∙ without-plain d c w (joined es))
  where
    same : (a : ℕ) → hundredths a (es ++ (plain c w ∷ [])) ≡ hundredths a es
    same a = hundredths-append a es (plain c w ∷ []) ∙ add-zero (hundredths a es)

-- Without a condition's areas, one of them added makes no difference, and one of another is added as before.
without_added : (c h : ℕ) (es : List Entry) → without c (add_area c h es) ≡ without c es
unfolding add_area without
without_added c h [] = without-hit c c h [] (self c)
without_added c h (plain d w ∷ es) = ap (λ (l : List Entry). plain d w ∷ l) (without_added c h es)
without_added c h (area d g ∷ es) =
    either c d (without c (add_area c h (area d g ∷ es)) ≡ without c (area d g ∷ es))
    (λ e. ap (without c) (add_hit c h d g es e) ∙ without-hit c d (g + h) es e ∙ sym (without-hit c d g es e))
    (λ e. ap (without c) (add_miss c h d g es e) ∙ without-miss c d g (add_area c h es) e ∙ ap (λ (l : List Entry). area d g ∷ l) (without_added c h es)
    ∙ sym (without-miss c d g es e))

without_other : (a c h : ℕ) (es : List Entry) → eqb c a ≡ false → without a (add_area c h es) ≡ add_area c h (without a es)
unfolding add_area without
without_other a c h [] n = without-miss a c h [] n
without_other a c h (plain d w ∷ es) n = ap (λ (l : List Entry). plain d w ∷ l) (without_other a c h es n)
without_other a c h (area d g ∷ es) n =
    either c d Goal
    (λ e. let k : eqb d a ≡ false = ap (λ (x : ℕ). eqb x a) (eqb-true d c e) ∙ n in
    ap (without a) (add_hit c h d g es e) ∙ without-miss a d (g + h) es k ∙ sym (add_hit c h d g (without a es) e) ∙ ap (add_area c h) (sym (without-miss a d g es k)))
    (λ e. ap (without a) (add_miss c h d g es e) ∙ either a d (without a (area d g ∷ add_area c h es) ≡ add_area c h (without a (area d g ∷ es)))
    (λ f. without-hit a d g (add_area c h es) f ∙ without_other a c h es n ∙ ap (add_area c h) (sym (without-hit a d g es f)))
    (λ f. without-miss a d g (add_area c h es) f ∙ ap (λ (l : List Entry). area d g ∷ l) (without_other a c h es n) ∙ sym (add_miss c h d g (without a es) e)
    ∙ ap (add_area c h) (sym (without-miss a d g es f))))
  where
    Goal : Type 0
    Goal = without a (add_area c h (area d g ∷ es)) ≡ add_area c h (without a (area d g ∷ es))

pub joined_area : (c h : ℕ) (es : List Entry) → joined (es ++ (area c h ∷ [])) ≡ add_area c h (joined es)
unfolding joined add_area hundredths without
joined_area c h [] = ap (λ (n : ℕ). area c n ∷ []) (add-zero h)
joined_area c h (plain d w ∷ es) = ap (λ (l : List Entry). plain d w ∷ l) (joined_area c h es)
joined_area c h (area d g ∷ es) =
    either c d Goal
    (λ e. let q : d ≡ c = eqb-true d c e in
    ap₂ (λ (n : ℕ) (l : List Entry). area d (g + n) ∷ l) (more e)
    (ap (without d) (joined_area c h es) ∙ ap (λ (x : ℕ). without d (add_area x h (joined es))) (sym q) ∙ without_added d h (joined es))
    ∙ ap (λ (n : ℕ). area d n ∷ without d (joined es)) {x = g + (hundredths d es + h)} {y = g + hundredths d es + h} (omega arith)
    ∙ sym (add_hit c h d (g + hundredths d es) (without d (joined es)) e))
    (λ e. ap₂ (λ (n : ℕ) (l : List Entry). area d (g + n) ∷ l) (same e) (ap (without d) (joined_area c h es) ∙ without_other d c h (joined es) (turned false c d e))
    ∙ sym (add_miss c h d (g + hundredths d es) (without d (joined es)) e))
  where
    Goal : Type 0
    Goal = joined (area d g ∷ (es ++ (area c h ∷ []))) ≡ add_area c h (joined (area d g ∷ es))

    more : eqb d c ≡ true → hundredths d (es ++ (area c h ∷ [])) ≡ hundredths d es + h
    more e = let a = hundredths-append d es (area c h ∷ []) in let k = hundredths-hit d c h [] (turned true c d e) in omega (arith, a, k)

    same : eqb d c ≡ false → hundredths d (es ++ (area c h ∷ [])) ≡ hundredths d es
    same e = let a = hundredths-append d es (area c h ∷ []) in let k = hundredths-miss d c h [] (turned false c d e) in omega (arith, a, k)

-- ---- what holds of all entries

without_all : (P : Entry → Type 0) (c : ℕ) (es : List Entry) → All P es → All P (without c es)
unfolding without dropped
without_all P c [] a = tt
without_all P c (plain d w ∷ es) a = (a.0, without_all P c es a.1)
without_all P c (area d h ∷ es) a = by (without_all P c es a.1) (eqb d c)
  where
    by : All P (without c es) → (b : Bool) → All P (dropped c d h es b)
    by k true = k
    by k false = (a.0, k)

without_long : (c : ℕ) (es : List Entry) → length (without c es) ≤ length es
unfolding without dropped
without_long c [] = omega arith
without_long c (plain d w ∷ es) = let q = without_long c es in omega (arith, q)
without_long c (area d h ∷ es) = by (without_long c es) (eqb d c)
  where
    by : length (without c es) ≤ length es → (b : Bool) → length (dropped c d h es b) ≤ length (area d h ∷ es)
    by k true = omega (arith, k)
    by k false = omega (arith, k)

pub joined_long : (es : List Entry) → length (joined es) ≤ length es
unfolding joined
joined_long [] = omega arith
joined_long (plain c w ∷ es) = let q = joined_long es in omega (arith, q)
joined_long (area c h ∷ es) = let q = joined_long es in let r = without_long c (joined es) in omega (arith, q, r)

rounded_all : (P : Entry → Type 0) (Q : Term → Type 0) → ((c w : ℕ) → P (plain c w) → Q (term c w)) → ((c h : ℕ) → P (area c h) → Q (rounded (area c h)))
    → (es : List Entry) → All P es → All Q (map rounded es)
rounded_all P Q f g [] a = tt
rounded_all P Q f g (plain c w ∷ es) a = (f c w a.0, rounded_all P Q f g es a.1)
rounded_all P Q f g (area c h ∷ es) a = (g c h a.0, rounded_all P Q f g es a.1)

pub weighed-conditions : (P : ℕ → Type 0) (es : List Entry) → All (λ (e : Entry). P (condition_of e)) es → All (λ (u : Term). P u.condition) (weighed es)
unfolding joined
weighed-conditions P es a = rounded_all (λ (e : Entry). P (condition_of e)) (λ (u : Term). P u.condition) (λ c w p. p) (λ c h p. p) (joined es) (kept es a)
  where
    kept : (es : List Entry) → All (λ (e : Entry). P (condition_of e)) es → All (λ (e : Entry). P (condition_of e)) (joined es)
    kept [] a = tt
    kept (plain c w ∷ es) a = (a.0, kept es a.1)
    kept (area c h ∷ es) a = (a.0, without_all (λ (e : Entry). P (condition_of e)) c (joined es) (kept es a.1))

-- ---- weights of joined areas stay small: up to 1,024 figures of 32 bits, rounded, are below 2 ^ 36

abbrev pub Small : Entry → Type 0
Small (plain c w) = w < 2 ^ 32
Small (area c h) = h < 2 ^ 32

-- At most n figures of 32 bits.
abbrev Summed : ℕ → Entry → Type 0
Summed n (plain c w) = w < 2 ^ 32
Summed n (area c h) = h ≤ n * 4294967295

hundredths-most : (c : ℕ) (es : List Entry) → All Small es → hundredths c es ≤ length es * 4294967295
unfolding hundredths
hundredths-most c [] a = omega arith
hundredths-most c (plain d w ∷ es) a = let q = hundredths-most c es a.1 in omega (arith, q)
hundredths-most c (area d h ∷ es) a =
    let q = hundredths-most c es a.1 in let k = a.0 in let r = by (eqb d c) in omega (arith, q, k, r)
  where
    by : (b : Bool) → cond b h 0 ≤ h
    by true = omega arith
    by false = omega arith

joined-most : (n : ℕ) (es : List Entry) → length es ≤ n → All Small es → All (Summed n) (joined es)
unfolding joined
joined-most n [] l a = tt
joined-most n (plain c w ∷ es) l a = (a.0, joined-most n es (omega arith) a.1)
joined-most n (area c h ∷ es) l a = (
  (let q = hundredths-most c es a.1 in let k = a.0 in omega (arith, q, k, l)),
  without_all (Summed n) c (joined es) (joined-most n es (omega arith) a.1),
)

pub weighed-light : (es : List Entry) → length es ≤ 1024 → All Small es → All (λ (u : Term). u.weight < 2 ^ 36) (weighed es)
weighed-light es l a =
    rounded_all (Summed 1024) (λ (u : Term). u.weight < 2 ^ 36) (λ c w p. omega (arith, p)) (λ c h p. omega (arith, p)) (joined es) (joined-most 1024 es l a)
