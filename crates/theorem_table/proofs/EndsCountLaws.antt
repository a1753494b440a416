-- What is left to do in a table, as a number: nodes not decided, and levels that a row's lower and upper have not passed.
-- Every step makes it smaller, so no run is longer than `most`.
use Prim.Native.Nat.{ℕ, zero, suc, ◌+◌, ◌*◌, ◌≤◌, ◌<◌}
use Rattle.std.proofs.Math.Nat.{le_refl}
use Rattle.std.proofs.Common.{not-suc-le-zero, zero-mul, suc-mul, sym, ◌∙◌, subst, inr, eqb-true, eq-eqb, ltb-true, ltb-false}
use native.Mathlib.Omega.{arith}
use Rattle.std.proofs.Math.Path.{◌≡◌, ap}
use Rattle.std.specs.Prelude.{refl, Bool, true, false, ◌⊎◌, get_or, eqb, ltb, ℤ, ◌≤ℤ◌, ◌<ℤ◌, Option, None, Some}
use Rattle.std.proofs.Math.Bool.{cond, not}
use mathlib.Core.List.{List, [], ◌∷◌, map, flat_map, Memᴰ}
use Rattle.std.proofs.Math.Logic.{⊎_elim}
use Rattle.std.proofs.Math.ListN.{length}
use Rattle.std.specs.Int.Signed.{lt_z, ≤ℤ_refl}
use Rattle.base.specs.SignedLaws.{le_z-lt_z, lt_z-le_z, le_z-nlt}
use Rattle.numeric.specs.Threshold.{Term}
use Rattle.rows.specs.Rows.{Row, Guard, no_row}
use Rattle.theorem_table.specs.Table.{Table, Below, at, decide_sure, decide_never, raise_lower, lower_upper, Guards, HasTerm, Step, sure-guard, never-guard, bound-reached, bound-out-of-reach, term-needed, term-too-heavy, longer-lower, shorter-upper, Run, done, more, steps}
use Rattle.theorem_table.specs.OrderLaws.{of_le, of_lt, UpLe, up_refl}
use Rattle.theorem_table.proofs.TableLaws.{Le, grows}
use Rattle.theorem_table.specs.Ends.{nodes_in, nodes_of, bounds_in, levels, UpperIn, Finite, most}

-- HOW MANY of a list pass a test
how_many : {X : Type 0} → (X → Bool) → List X → ℕ
how_many p [] = 0
how_many p (x ∷ xs) = cond (p x) 1 0 + how_many p xs

one-most : (a : Bool) → cond a 1 0 ≤ 1
one-most true = le_refl 1
one-most false = omega arith

one_up : (a b : Bool) → (a ≡ true → b ≡ true) → cond a 1 0 ≤ cond b 1 0
one_up true b h = subst (λ (c : Bool). 1 ≤ cond c 1 0) (sym (h refl)) (le_refl 1)
one_up false b h = omega arith

module _ {X : Type 0} where
  many-most : (p : X → Bool) (xs : List X) → how_many p xs ≤ length xs
  unfolding how_many
  many-most p [] = le_refl 0
  many-most p (x ∷ xs) = let a = many-most p xs in let b = one-most (p x) in omega arith

  many-up : (p q : X → Bool) (xs : List X) → ((x : X) → p x ≡ true → q x ≡ true) → how_many p xs ≤ how_many q xs
  unfolding how_many
  many-up p q [] h = le_refl 0
  many-up p q (x ∷ xs) h = let a = many-up p q xs h in let b = one_up (p x) (q x) (h x) in omega arith

  -- one of the list passes the second test only
  many_more : (p q : X → Bool) (xs : List X) (x : X) → ((y : X) → p y ≡ true → q y ≡ true) → Memᴰ x xs → p x ≡ false → q x ≡ true
      → how_many p xs + 1 ≤ how_many q xs
  unfolding how_many
  many_more p q [] x h m e d = absurd (mathlib.Core.List.Memᴰ.not-nil m)
  many_more p q (y ∷ ys) x h m e d =
      ⊎_elim
      (λ (c : x ≡ y).
      let a = many-up p q ys h in
      let b : ◌≡◌ {A = ℕ} (cond (p y) 1 0) 0 = ap (λ (t : Bool). cond t 1 0) (ap p (sym c) ∙ e) in
      let f : ◌≡◌ {A = ℕ} (cond (q y) 1 0) 1 = ap (λ (t : Bool). cond t 1 0) (ap q (sym c) ∙ d) in
      omega arith)
      (λ (n : Memᴰ x ys). let a = many_more p q ys x h n e d in let b = one_up (p y) (q y) (h y) in omega arith)
      (mathlib.Core.List.Memᴰ.cases_cons m)

-- THE SUM of the first k numbers of a sequence
summed : ℕ → (ℕ → ℕ) → ℕ
summed zero f = 0
summed (suc k) f = f k + summed k f

sum-most : (k b : ℕ) (f : ℕ → ℕ) → ((i : ℕ) → f i ≤ b) → summed k f ≤ k * b
unfolding summed
sum-most zero b f h = let e = zero-mul b in omega arith
sum-most (suc k) b f h = let a = sum-most k b f h in let c = h k in let e = suc-mul k b in omega arith

sum_up : (k : ℕ) (f g : ℕ → ℕ) → ((i : ℕ) → f i ≤ g i) → summed k f ≤ summed k g
unfolding summed
sum_up zero f g h = le_refl 0
sum_up (suc k) f g h = let a = sum_up k f g h in let b = h k in omega arith

sum_more : (k : ℕ) (f g : ℕ → ℕ) (i : ℕ) → ((j : ℕ) → f j ≤ g j) → i < k → f i + 1 ≤ g i → summed k f + 1 ≤ summed k g
unfolding summed
sum_more zero f g i h l d = absurd (not-suc-le-zero l)
sum_more (suc k) f g i h l d = by (λ c. sum_more k f g i h c d) (ltb i k) refl
  where
    by : (i < k → summed k f + 1 ≤ summed k g) → (b : Bool) → ltb i k ≡ b → summed (suc k) f + 1 ≤ summed (suc k) g
    by rec true e = let a = rec (ltb-true i k e) in let b = h k in omega arith
    by rec false e =
        let q = ltb-false i k e in
        let c : i ≡ k = omega arith in
        let a = sum_up k f g h in
        let b = subst (λ (j : ℕ). f j + 1 ≤ g j) c d in
        omega arith

-- A FUNCTION CHANGED AT ONE PLACE
at_same : {X : Type 0} (n : ℕ) (x : X) (f : ℕ → X) → at n x f n ≡ x
at_same n x f = ap (λ (b : Bool). cond b x (f n)) (eq-eqb n n refl)

one_of : {X : Type 0} (P : X → Type 0) (b : Bool) (x y : X) → P x → P y → P (cond b x y)
one_of P true x y h k = h
one_of P false x y h k = k

-- WHAT IS LEFT

-- the level lies below the upper
abbrev under : ℤ → Option ℤ → Bool
under v None = true
under v (Some u) = lt_z v u

module _ (rows : List Row) where
  openSure : Table → ℕ
  openSure s = how_many (λ (n : ℕ). not (s.sure n)) (nodes_of rows)

  openNever : Table → ℕ
  openNever s = how_many (λ (n : ℕ). not (s.never n)) (nodes_of rows)

  room : Table → ℕ → ℕ
  room s r = how_many (λ (v : ℤ). lt_z (s.lower r) v) (levels rows) + how_many (λ (v : ℤ). under v (s.upper r)) (levels rows)

  pub left : Table → ℕ
  left s = openSure s + openNever s + summed (length rows) (room s)

  pub left-most : (s : Table) → left s ≤ most rows
  unfolding left openSure openNever room most
  left-most s =
      let a = many-most (λ (n : ℕ). not (s.sure n)) (nodes_of rows) in
      let b = many-most (λ (n : ℕ). not (s.never n)) (nodes_of rows) in
      let c = sum-most (length rows) (length (levels rows) + length (levels rows)) (room s) (λ r.
      let x = many-most (λ (v : ℤ). lt_z (s.lower r) v) (levels rows) in
      let y = many-most (λ (v : ℤ). under v (s.upper r)) (levels rows) in
      omega arith) in
      omega arith

-- THE LISTS hold what the rules read

module _ {X : Type 0} (f : Row → List X) where
  gathered : (rows : List Row) (r : ℕ) (x : X) → r < length rows → Memᴰ x (f (get_or rows r no_row)) → Memᴰ x (flat_map f rows)
  unfolding flat_map
  gathered [] r x l m = absurd (not-suc-le-zero l)
  gathered (y ∷ ys) zero x l m = mathlib.Core.List.Memᴰ.append_left (flat_map f ys) m
  gathered (y ∷ ys) (suc r) x l m = mathlib.Core.List.Memᴰ.append_right (f y) (gathered ys r x (omega arith) m)

module _ (rows : List Row) where
  pub guard_node : (r : ℕ) (g : Guard) → Guards rows r g → Memᴰ g.node (nodes_of rows)
  unfolding nodes_of nodes_in
  guard_node r g i = gathered nodes_in rows r g.node i.0 (mathlib.Core.List.Memᴰ.append_left _ (mathlib.Core.List.Memᴰ.map (λ (x : Guard). x.node) i.1))

  pub term_node : (r : ℕ) (t : Term) → HasTerm rows r t → Memᴰ t.condition (nodes_of rows)
  unfolding nodes_of nodes_in
  term_node r t i =
      gathered nodes_in rows r t.condition i.0
      (mathlib.Core.List.Memᴰ.append_right (map (λ (x : Guard). x.node) (get_or rows r no_row).guards) (mathlib.Core.List.Memᴰ.map (λ (x : Term). x.condition) i.1))

  pub guard_level : (r : ℕ) (g : Guard) → Guards rows r g → Memᴰ g.bound (levels rows)
  unfolding levels bounds_in
  guard_level r g i = mathlib.Core.List.Memᴰ.tail (gathered bounds_in rows r g.bound i.0 (mathlib.Core.List.Memᴰ.map (λ (x : Guard). x.bound) i.1))

-- A STEP KEEPS a table finite

module _ (rows : List Row) (n : ℕ) where
  kept-sure : (s : Table) (m : ℕ) → Finite rows n s → Memᴰ m (nodes_of rows) → Finite rows n (decide_sure s m)
  kept-sure s m f i = record { sure = λ k. by k (eqb k m) refl; lower = f.lower; upper = f.upper }
    where
      by : (k : ℕ) (b : Bool) → eqb k m ≡ b → cond b true (s.sure k) ≡ true → (k < n) ⊎ Memᴰ k (nodes_of rows)
      by k true e h = inr (subst (λ (j : ℕ). Memᴰ j (nodes_of rows)) (sym (eqb-true k m e)) i)
      by k false e h = f.sure k h

  kept-never : (s : Table) (m : ℕ) → Finite rows n s → Finite rows n (decide_never s m)
  kept-never s m f = record { sure = f.sure; lower = f.lower; upper = f.upper }

  kept-lower : (s : Table) (r : ℕ) (b : ℤ) → Finite rows n s → Memᴰ b (levels rows) → Finite rows n (raise_lower s r b)
  kept-lower s r b f i = record {
    sure = f.sure;
    lower = λ q. one_of (λ (z : ℤ). Memᴰ z (levels rows)) (eqb q r) b (s.lower q) i (f.lower q);
    upper = f.upper;
  }

  kept-upper : (s : Table) (r : ℕ) (u : Option ℤ) → Finite rows n s → UpperIn (levels rows) u → Finite rows n (lower_upper s r u)
  kept-upper s r u f i = record {
    sure = f.sure;
    lower = f.lower;
    upper = λ q. one_of (UpperIn (levels rows)) (eqb q r) u (s.upper q) i (f.upper q);
  }

  pub finite_step : (s t : Table) → Finite rows n s → Step rows s t → Finite rows n t
  finite_step s t f (sure-guard r g i e h) = kept-lower s r g.bound f (guard_level rows r g i)
  finite_step s t f (never-guard r g i e h) = kept-upper s r (Some g.bound) f (guard_level rows r g i)
  finite_step s t f (bound-reached r g i h e) = kept-sure s g.node f (guard_node rows r g i)
  finite_step s t f (bound-out-of-reach r g i h e) = kept-never s g.node f
  finite_step s t f (term-needed r x i d h) = kept-sure s x.condition f (term_node rows r x i)
  finite_step s t f (term-too-heavy r x u i d e h) = kept-never s x.condition f
  finite_step s t f (longer-lower r q i h) = kept-lower s q (s.lower r) f (f.lower r)
  finite_step s t f (shorter-upper r q i h) = kept-upper s r (s.upper q) f (f.upper q)

  pub finite_run : {s t : Table} → Finite rows n s → Run rows s t → Finite rows n t
  finite_run f done = f
  finite_run f (more {s} {t} h a r) = finite_run (finite_step s t f a) r

-- A STEP LEAVES LESS

not_down : (a b : Bool) → (a ≡ true → b ≡ true) → not b ≡ true → not a ≡ true
not_down true true h k = k
not_down true false h k = h refl
not_down false b h k = refl

under_up : (v : ℤ) (a b : Option ℤ) → UpLe a b → under v a ≡ true → under v b ≡ true
under_up v a None h k = refl
under_up v None (Some b) h k = absurd h
under_up v (Some a) (Some b) h k = lt_z-le_z v a b k (of_le h)

under_yes : (v : ℤ) (u : Option ℤ) → Below (Some v) u → under v u ≡ true
under_yes v None h = refl
under_yes v (Some u) h = of_lt h

under_no : (v : ℤ) (u : Option ℤ) → UpLe u (Some v) → under v u ≡ false
under_no v None h = absurd h
under_no v (Some u) h = le_z-nlt v u (of_le h)

module _ (rows : List Row) (s t : Table) (l : Le s t) where
  sure-down : openSure rows t ≤ openSure rows s
  unfolding openSure
  sure-down = many-up (λ (n : ℕ). not (t.sure n)) (λ (n : ℕ). not (s.sure n)) (nodes_of rows) (λ n. not_down (s.sure n) (t.sure n) (l.sure n))

  never-down : openNever rows t ≤ openNever rows s
  unfolding openNever
  never-down =
      many-up (λ (n : ℕ). not (t.never n)) (λ (n : ℕ). not (s.never n)) (nodes_of rows) (λ n. not_down (s.never n) (t.never n) (l.never n))

  lower-up : (r : ℕ) (v : ℤ) → lt_z (t.lower r) v ≡ true → lt_z (s.lower r) v ≡ true
  lower-up r v = le_z-lt_z (s.lower r) (t.lower r) v (of_le (l.lower r))

  upper-up : (r : ℕ) (v : ℤ) → under v (t.upper r) ≡ true → under v (s.upper r) ≡ true
  upper-up r v = under_up v (t.upper r) (s.upper r) (l.upper r)

  room-down : (r : ℕ) → room rows t r ≤ room rows s r
  unfolding room
  room-down r =
      let a = many-up (λ (v : ℤ). lt_z (t.lower r) v) (λ (v : ℤ). lt_z (s.lower r) v) (levels rows) (lower-up r) in
      let b = many-up (λ (v : ℤ). under v (t.upper r)) (λ (v : ℤ). under v (s.upper r)) (levels rows) (upper-up r) in
      omega arith

  rooms-down : summed (length rows) (room rows t) ≤ summed (length rows) (room rows s)
  rooms-down = sum_up (length rows) (room rows t) (room rows s) room-down

  fell-sure : (n : ℕ) → Memᴰ n (nodes_of rows) → s.sure n ≡ false → t.sure n ≡ true → left rows t + 1 ≤ left rows s
  unfolding left openSure
  fell-sure n m e d =
      let a =
      many_more (λ (n : ℕ). not (t.sure n)) (λ (n : ℕ). not (s.sure n)) (nodes_of rows) n (λ n. not_down (s.sure n) (t.sure n) (l.sure n)) m
      (ap not d) (ap not e) in
      let b = never-down in
      let c = rooms-down in
      omega arith

  fell-never : (n : ℕ) → Memᴰ n (nodes_of rows) → s.never n ≡ false → t.never n ≡ true → left rows t + 1 ≤ left rows s
  unfolding left openNever
  fell-never n m e d =
      let a =
      many_more (λ (n : ℕ). not (t.never n)) (λ (n : ℕ). not (s.never n)) (nodes_of rows) n (λ n. not_down (s.never n) (t.never n) (l.never n)) m
      (ap not d) (ap not e) in
      let b = sure-down in
      let c = rooms-down in
      omega arith

  fell-room : (r : ℕ) → r < length rows → room rows t r + 1 ≤ room rows s r → left rows t + 1 ≤ left rows s
  unfolding left
  fell-room r i h =
      let a = sum_more (length rows) (room rows t) (room rows s) r room-down i h in
      let b = sure-down in
      let c = never-down in
      omega arith

  fell-lower : (r : ℕ) (v : ℤ) → r < length rows → Memᴰ v (levels rows) → s.lower r <ℤ v → t.lower r ≡ v → left rows t + 1 ≤ left rows s
  unfolding room
  fell-lower r v i m h e =
      fell-room r i
      (let a =
      many_more (λ (w : ℤ). lt_z (t.lower r) w) (λ (w : ℤ). lt_z (s.lower r) w) (levels rows) v (lower-up r) m
      (le_z-nlt (t.lower r) v (of_le (subst (λ (z : ℤ). v ≤ℤ z) (sym e) (≤ℤ_refl v)))) (of_lt h) in
      let b = many-up (λ (w : ℤ). under w (t.upper r)) (λ (w : ℤ). under w (s.upper r)) (levels rows) (upper-up r) in
      omega arith)

  fell-upper : (r : ℕ) (u : Option ℤ) → r < length rows → UpperIn (levels rows) u → Below u (s.upper r) → t.upper r ≡ u → left rows t + 1 ≤ left rows s
  unfolding room
  fell-upper r None i m h e = absurd h
  fell-upper r (Some v) i m h e =
      fell-room r i
      (let a = many-up (λ (w : ℤ). lt_z (t.lower r) w) (λ (w : ℤ). lt_z (s.lower r) w) (levels rows) (lower-up r) in
      let b =
      many_more (λ (w : ℤ). under w (t.upper r)) (λ (w : ℤ). under w (s.upper r)) (levels rows) v (upper-up r) m
      (under_no v (t.upper r) (subst (λ (z : Option ℤ). UpLe z (Some v)) (sym e) (up_refl (Some v)))) (under_yes v (s.upper r) h) in
      omega arith)

module _ (rows : List Row) (n : ℕ) where
  pub falls : (s t : Table) → Finite rows n s → Step rows s t → left rows t + 1 ≤ left rows s
  falls s t f (sure-guard r g i e h) =
      fell-lower rows s (raise_lower s r g.bound) (grows rows s t (sure-guard r g i e h)) r g.bound i.0 (guard_level rows r g i) h
      (at_same r g.bound s.lower)
  falls s t f (never-guard r g i e h) =
      fell-upper rows s (lower_upper s r (Some g.bound)) (grows rows s t (never-guard r g i e h)) r (Some g.bound) i.0 (guard_level rows r g i) h
      (at_same r (Some g.bound) s.upper)
  falls s t f (bound-reached r g i h e) =
      fell-sure rows s (decide_sure s g.node) (grows rows s t (bound-reached r g i h e)) g.node (guard_node rows r g i) e
      (at_same g.node true s.sure)
  falls s t f (bound-out-of-reach r g i h e) =
      fell-never rows s (decide_never s g.node) (grows rows s t (bound-out-of-reach r g i h e)) g.node (guard_node rows r g i) e
      (at_same g.node true s.never)
  falls s t f (term-needed r x i d h) =
      fell-sure rows s (decide_sure s x.condition) (grows rows s t (term-needed r x i d h)) x.condition (term_node rows r x i) d.0
      (at_same x.condition true s.sure)
  falls s t f (term-too-heavy r x u i d e h) =
      fell-never rows s (decide_never s x.condition) (grows rows s t (term-too-heavy r x u i d e h)) x.condition (term_node rows r x i) d.1
      (at_same x.condition true s.never)
  falls s t f (longer-lower r q i h) =
      fell-lower rows s (raise_lower s q (s.lower r)) (grows rows s t (longer-lower r q i h)) q (s.lower r) i.1 (f.lower r) h
      (at_same q (s.lower r) s.lower)
  falls s t f (shorter-upper r q i h) =
      fell-upper rows s (lower_upper s r (s.upper q)) (grows rows s t (shorter-upper r q i h)) r (s.upper q) i.0 (f.upper q) h
      (at_same r (s.upper q) s.upper)

  -- so the steps of a run and what is left behind it are at most what was left
  pub finite_steps : {s t : Table} → Finite rows n s → (r : Run rows s t) → steps rows r + left rows t ≤ left rows s
  unfolding steps
  finite_steps f (done {s}) = omega arith
  finite_steps f (more {s} {t} h a r) = let x = falls s t f a in let y = finite_steps (finite_step rows n s t f a) r in omega arith
