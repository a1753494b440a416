-- Whether a table has a conflict, and whether a step is left in it, is decided by going through rows, guards, terms and pairs of rows.
use Rattle.std.specs.Prelude.{ℕ, zero, suc, ◌<◌, ◌≡◌, refl, Bool, true, false, ◌⊎◌, length, get_or, eqb, ltb, ℤ, pos, ◌-ℤ◌, ◌≤ℤ◌, ◌<ℤ◌, Option, None, Some}
use Rattle.std.proofs.Common.{not-suc-le-zero, arith, sym, ap, ap₂, ◌∙◌, subst, inr, ⊎_elim, eqb-true, ltb-true, ltb-false}
use Rattle.std.proofs.Math.Path.{subst⁻¹}
use mathlib.Core.List.Memᴰ
use mathlib.Core.List.{List, [], ◌∷◌, ◌++◌, Memᴰ, nil≢cons, head-eq_of_cons-eq, tail-eq_of_cons-eq}
use Rattle.std.proofs.Math.Logic.{inl}
use Rattle.std.specs.Int.Signed.{≤ℤ_refl, clash_ℤ}
use Rattle.std.proofs.lemmas.Bool.{eqb-false}
use Rattle.base.specs.TestLaws.{unequal}
use Rattle.numeric.specs.Threshold.{Term}
use Rattle.rows.specs.Rows.{Row, Guard, Other, alone, beside, MayDecide, linked_by, Linked, no_row}
use Rattle.theorem_table.specs.Table.{Table, AtMost, Below, decide_sure, decide_never, raise_lower, lower_upper, IsRow, terms_of, Guards, HasTerm, known_of, possible_of, reached_of, OtherReached, Undecided, Step, sure-guard, never-guard, bound-reached, bound-out-of-reach, term-needed, term-too-heavy, longer-lower, shorter-upper, Conflict, both, lower-above, upper-reached, FallsShort, Reached, OutOfReach, Prefixed}
use Rattle.theorem_table.specs.OrderLaws.{≤ℤ_or_<ℤ, UpLe, le-or-below}
use Rattle.theorem_table.specs.Ends.{nodes_of, Finite}

-- PREMISES

abbrev pub Decided : Type 0 → Type 0
Decided A = A ⊎ (A → ⊥)

is : (a b : Bool) → Decided (a ≡ b)
is true true = inl refl
is true false = inr (λ e. unequal cc)
is false true = inr (λ e. unequal cc)
is false false = inl refl

same_number : (a b : ℕ) → Decided (a ≡ b)
same_number a b = by (eqb a b) refl
  where
    by : (t : Bool) → eqb a b ≡ t → Decided (a ≡ b)
    by true e = inl (eqb-true a b e)
    by false e = inr (eqb-false a b e)

at_most : (a b : ℤ) → Decided (a ≤ℤ b)
at_most a b = by (≤ℤ_or_<ℤ a b)
  where
    by : (a ≤ℤ b) ⊎ (b <ℤ a) → Decided (a ≤ℤ b)
    by (inl h) = inl h
    by (inr h) = inr (λ k. clash_ℤ h k)

less : (a b : ℤ) → Decided (a <ℤ b)
less a b = by (≤ℤ_or_<ℤ b a)
  where
    by : (b ≤ℤ a) ⊎ (a <ℤ b) → Decided (a <ℤ b)
    by (inl h) = inr (λ k. clash_ℤ k h)
    by (inr h) = inl h

upper_at-most : (u : Option ℤ) (z : ℤ) → Decided (AtMost u z)
upper_at-most None z = inr (λ h. h)
upper_at-most (Some u) z = at_most u z

below_clash : (a b : Option ℤ) → UpLe b a → Below a b → ⊥
below_clash None b h k = k
below_clash (Some a) None h k = h
below_clash (Some a) (Some b) h k = clash_ℤ k h

lies_below : (a b : Option ℤ) → Decided (Below a b)
lies_below a b = by (le-or-below b a)
  where
    by : UpLe b a ⊎ Below a b → Decided (Below a b)
    by (inl h) = inr (below_clash a b h)
    by (inr h) = inl h

either : {A B : Type 0} → Decided A → Decided B → Decided (A ⊎ B)
either (inl a) d = inl (inl a)
either (inr n) (inl b) = inl (inr b)
either (inr n) (inr m) = inr (λ h. ⊎_elim n m h)

and : {A B : Type 0} → Decided A → Decided B → Decided (A × B)
and (inl a) (inl b) = inl (a, b)
and (inl a) (inr m) = inr (λ h. m h.1)
and (inr n) d = inr (λ h. n h.0)

and_three : {A B C : Type 0} → Decided A → Decided B → Decided C → Decided (A × B × C)
and_three (inl a) (inl b) (inl c) = inl (a, b, c)
and_three (inl a) (inl b) (inr n) = inr (λ h. n h.2)
and_three (inl a) (inr n) c = inr (λ h. n h.1)
and_three (inr n) b c = inr (λ h. n h.0)

and-two : {A C D : Type 0} {B : A → Type 0} → Decided ((a : A) × B a) → Decided C → Decided D → Decided ((a : A) × B a × C × D)
and-two (inl p) (inl c) (inl d) = inl (p.0, p.1, c, d)
and-two (inl p) (inl c) (inr n) = inr (λ h. n h.3)
and-two (inl p) (inr n) d = inr (λ h. n h.2)
and-two (inr n) c d = inr (λ h. n (h.0, h.1))

-- two terms, and whether one list of terms stands at the start of another
same_term_lem : (t u : Term) → Decided (t ≡ u)
same_term_lem t u = by (same_number t.condition u.condition) (same_number t.weight u.weight)
  where
    by : Decided (t.condition ≡ u.condition) → Decided (t.weight ≡ u.weight) → Decided (t ≡ u)
    by (inl c) (inl w) = inl (λ i. record { condition = c i; weight = w i })
    by (inl c) (inr n) = inr (λ e. n (ap (λ (x : Term). x.weight) e))
    by (inr n) d = inr (λ e. n (ap (λ (x : Term). x.condition) e))

starts : (ts us : List Term) → Decided ((rest : List Term) × (us ≡ ts ++ rest))
starts [] us = inl (us, refl)
starts (t ∷ ts) [] = inr (λ h. nil≢cons h.1)
starts (t ∷ ts) (u ∷ us) = by (same_term_lem t u) (starts ts us)
  where
    by : Decided (t ≡ u) → Decided ((rest : List Term) × (us ≡ ts ++ rest)) → Decided ((rest : List Term) × (u ∷ us ≡ (t ∷ ts) ++ rest))
    by (inl e) (inl h) = inl (h.0, ap₂ (λ (x : Term) (xs : List Term). x ∷ xs) (sym e) h.1)
    by (inl e) (inr n) = inr (λ h. n (h.0, tail-eq_of_cons-eq h.1))
    by (inr n) d = inr (λ h. n (sym (head-eq_of_cons-eq h.1)))

-- SEARCH: something is found at one of many places, or each place lacks it

module _ {A : Type 0} where
  premise : {P : Type 0} → Decided P → (P → A) → A ⊎ (P → ⊥)
  premise (inl p) f = inl (f p)
  premise (inr n) f = inr n

  rule : {P Q : Type 0} → Decided P → Decided Q → (P → Q → A) → A ⊎ (P → Q → ⊥)
  rule (inl p) (inl q) f = inl (f p q)
  rule (inl p) (inr n) f = inr (λ _ q. n q)
  rule (inr n) d f = inr (λ p _. n p)

  also : {P Q : Type 0} → A ⊎ P → A ⊎ Q → A ⊎ (P × Q)
  also (inl a) d = inl a
  also (inr p) (inl a) = inl a
  also (inr p) (inr q) = inr (p, q)

  each_of : {X : Type 0} (Q : X → Type 0) (xs : List X) → ((x : X) → Memᴰ x xs → A ⊎ Q x) → A ⊎ ((x : X) → Memᴰ x xs → Q x)
  each_of Q [] f = inr (λ x m. absurd (Memᴰ.not-nil m))
  each_of {X} Q (y ∷ ys) f = by (f y (Memᴰ.head refl)) (each_of Q ys (λ x m. f x (Memᴰ.tail m)))
    where
      by : A ⊎ Q y → A ⊎ ((x : X) → Memᴰ x ys → Q x) → A ⊎ ((x : X) → Memᴰ x (y ∷ ys) → Q x)
      by (inl a) d = inl a
      by (inr q) (inl a) = inl a
      by (inr q) (inr k) = inr (λ x m. ⊎_elim (λ (e : x ≡ y). subst Q (sym e) q) (λ (i : Memᴰ x ys). k x i) (Memᴰ.cases_cons m))

  each_below : (Q : ℕ → Type 0) (n : ℕ) → ((i : ℕ) → i < n → A ⊎ Q i) → A ⊎ ((i : ℕ) → i < n → Q i)
  each_below Q zero f = inr (λ i h. absurd (not-suc-le-zero h))
  each_below Q (suc n) f = by (f n (omega arith)) (each_below Q n (λ i h. f i (omega arith)))
    where
      last : Q n → ((i : ℕ) → i < n → Q i) → (i : ℕ) → i < suc n → (t : Bool) → ltb i n ≡ t → Q i
      last q k i h true e = k i (ltb-true i n e)
      last q k i h false e = let g = ltb-false i n e in let c : n ≡ i = omega arith in subst Q c q

      by : A ⊎ Q n → A ⊎ ((i : ℕ) → i < n → Q i) → A ⊎ ((i : ℕ) → i < suc n → Q i)
      by (inl a) d = inl a
      by (inr q) (inl a) = inl a
      by (inr q) (inr k) = inr (λ i h. last q k i h (ltb i n) refl)

-- STEPS

-- the number of an upper that is one
abbrev bound_of : Option ℤ → ℤ
bound_of None = pos 0
bound_of (Some u) = u

module _ (rows : List Row) where
  abbrev pub SomeStep : Table → Type 0
  SomeStep s = (u : Table) × Step rows s u

  -- no rule has its premises at a guard, at a term, at a pair of rows
  abbrev StillGuard : Table → ℕ → Guard → Type 0
  StillGuard s r g =
      ((s.sure g.node ≡ true → s.lower r <ℤ g.bound → ⊥) × (FallsShort rows s g → Below (Some g.bound) (s.upper r) → ⊥))
      × ((Reached rows s r g → s.sure g.node ≡ false → ⊥) × (OutOfReach rows s r g → s.never g.node ≡ false → ⊥))

  abbrev StillTerm : Table → ℕ → Term → Type 0
  StillTerm s r t =
      (Undecided rows s t.condition → (possible_of rows s r -ℤ s.lower r) <ℤ pos t.weight → ⊥)
      × (Undecided rows s t.condition → ((u : ℤ) × (s.upper r ≡ Some u) × ((u -ℤ known_of rows s r) ≤ℤ pos t.weight)) → ⊥)

  abbrev StillPair : Table → ℕ → ℕ → Type 0
  StillPair s r q = (Prefixed rows r q → s.lower q <ℤ s.lower r → ⊥) × (Prefixed rows r q → Below (s.upper q) (s.upper r) → ⊥)

  other : (s : Table) (o : Other) → Decided (OtherReached rows s o)
  unfolding OtherReached
  other s alone = inl tt
  other s (beside q b) = at_most b (reached_of rows s q)

  at-guard : (s : Table) (r : ℕ) (g : Guard) → Guards rows r g → SomeStep s ⊎ StillGuard s r g
  at-guard s r g i =
      also
      (also (rule (is (s.sure g.node) true) (less (s.lower r) g.bound) (λ e h. (raise_lower s r g.bound, sure-guard r g i e h)))
      (rule (and (is _ true) (other s _)) (lies_below (Some g.bound) (s.upper r)) (λ e h. (lower_upper s r (Some g.bound), never-guard r g i e h))))
      (also (rule (and_three (is _ true) (at_most _ _) (other s _)) (is (s.sure g.node) false) (λ h e. (decide_sure s g.node, bound-reached r g i h e)))
      (rule (and (is _ true) (either (less _ _) (upper_at-most (s.upper r) g.bound))) (is (s.never g.node) false) (λ h e. (decide_never s g.node, bound-out-of-reach r g i h e))))

  -- a row's upper and the weight that it leaves
  too_heavy : (s : Table) (r w : ℕ) (c : Option ℤ) → s.upper r ≡ c → Decided ((u : ℤ) × (s.upper r ≡ Some u) × ((u -ℤ known_of rows s r) ≤ℤ pos w))
  too_heavy s r w None e = inr (λ h. subst⁻¹ (λ (c : Option ℤ). AtMost c h.0) (sym e ∙ h.1) (≤ℤ_refl h.0))
  too_heavy s r w (Some u) e = by (at_most (u -ℤ known_of rows s r) (pos w))
    where
      by : Decided ((u -ℤ known_of rows s r) ≤ℤ pos w) → Decided ((v : ℤ) × (s.upper r ≡ Some v) × ((v -ℤ known_of rows s r) ≤ℤ pos w))
      by (inl h) = inl (u, e, h)
      by (inr n) = inr (λ h. n (subst⁻¹ (λ (v : ℤ). (v -ℤ known_of rows s r) ≤ℤ pos w) (ap bound_of (sym e ∙ h.1)) h.2))

  at-term : (s : Table) (r : ℕ) (t : Term) → HasTerm rows r t → SomeStep s ⊎ StillTerm s r t
  at-term s r t i =
      also
      (rule undecided (less (possible_of rows s r -ℤ s.lower r) (pos t.weight)) (λ d h. (decide_sure s t.condition, term-needed r t i d h)))
      (rule undecided (too_heavy s r t.weight (s.upper r) refl) (λ d h. (decide_never s t.condition, term-too-heavy r t h.0 i d h.1 h.2)))
    where
      undecided : Decided (Undecided rows s t.condition)
      undecided = and (is (s.sure t.condition) false) (is (s.never t.condition) false)

  at_pair : (s : Table) (r q : ℕ) → IsRow rows r → IsRow rows q → SomeStep s ⊎ StillPair s r q
  at_pair s r q i j =
      also
      (rule prefix (less (s.lower q) (s.lower r)) (λ p h. (raise_lower s q (s.lower r), longer-lower r q (i, j, p) h)))
      (rule prefix (lies_below (s.upper q) (s.upper r)) (λ p h. (lower_upper s r (s.upper q), shorter-upper r q (i, j, p) h)))
    where
      prefix : Decided (Prefixed rows r q)
      prefix = and-two (starts (terms_of rows r) (terms_of rows q)) (is _ true) (is _ true)

  abbrev StillGuards : Table → Type 0
  StillGuards s = (r : ℕ) → IsRow rows r → (g : Guard) → Memᴰ g (get_or rows r no_row).guards → StillGuard s r g

  abbrev StillTerms : Table → Type 0
  StillTerms s = (r : ℕ) → IsRow rows r → (t : Term) → Memᴰ t (terms_of rows r) → StillTerm s r t

  abbrev StillPairs : Table → Type 0
  StillPairs s = (r : ℕ) → IsRow rows r → (q : ℕ) → IsRow rows q → StillPair s r q

  all_guards : (s : Table) → SomeStep s ⊎ StillGuards s
  all_guards s =
      each_below (λ (r : ℕ). (g : Guard) → Memᴰ g (get_or rows r no_row).guards → StillGuard s r g) (length rows)
      (λ r i. each_of (StillGuard s r) (get_or rows r no_row).guards (λ g m. at-guard s r g (i, m)))

  all_terms_lem : (s : Table) → SomeStep s ⊎ StillTerms s
  all_terms_lem s =
      each_below (λ (r : ℕ). (t : Term) → Memᴰ t (terms_of rows r) → StillTerm s r t) (length rows)
      (λ r i. each_of (StillTerm s r) (terms_of rows r) (λ t m. at-term s r t (i, m)))

  all-pairs : (s : Table) → SomeStep s ⊎ StillPairs s
  all-pairs s =
      each_below (λ (r : ℕ). (q : ℕ) → IsRow rows q → StillPair s r q) (length rows)
      (λ r i. each_below (StillPair s r) (length rows) (λ q j. at_pair s r q i j))

  no_step : (s u : Table) → StillGuards s → StillTerms s → StillPairs s → Step rows s u → ⊥
  no_step s u gs ts ps (sure-guard r g i e h) = (gs r i.0 g i.1).0.0 e h
  no_step s u gs ts ps (never-guard r g i e h) = (gs r i.0 g i.1).0.1 e h
  no_step s u gs ts ps (bound-reached r g i h e) = (gs r i.0 g i.1).1.0 h e
  no_step s u gs ts ps (bound-out-of-reach r g i h e) = (gs r i.0 g i.1).1.1 h e
  no_step s u gs ts ps (term-needed r t i d h) = (ts r i.0 t i.1).0 d h
  no_step s u gs ts ps (term-too-heavy r t v i d e h) = (ts r i.0 t i.1).1 d (v, e, h)
  no_step s u gs ts ps (longer-lower r q i h) = (ps r i.0 q i.1).0 i.2 h
  no_step s u gs ts ps (shorter-upper r q i h) = (ps r i.0 q i.1).1 i.2 h

  -- A STEP IS LEFT, or none
  pub step_or-none : (s : Table) → SomeStep s ⊎ ((u : Table) → Step rows s u → ⊥)
  step_or-none s = by (also (also (all_guards s) (all_terms_lem s)) (all-pairs s))
    where
      by : SomeStep s ⊎ ((StillGuards s × StillTerms s) × StillPairs s) → SomeStep s ⊎ ((u : Table) → Step rows s u → ⊥)
      by (inl a) = inl a
      by (inr k) = inr (λ u. no_step s u k.0.0 k.0.1 k.1)

  -- CONFLICTS

  abbrev Apart : Table → ℕ → Type 0
  Apart s n = s.sure n ≡ true → s.never n ≡ true → ⊥

  abbrev Unbroken : Table → ℕ → Type 0
  Unbroken s r = (possible_of rows s r <ℤ s.lower r → ⊥) × (AtMost (s.upper r) (reached_of rows s r) → ⊥)

  at-node : (s : Table) (n : ℕ) → Conflict rows s ⊎ Apart s n
  at-node s n = rule (is (s.sure n) true) (is (s.never n) true) (λ e d. both n e d)

  at_row : (s : Table) (r : ℕ) → IsRow rows r → Conflict rows s ⊎ Unbroken s r
  at_row s r i =
      also (premise (less (possible_of rows s r) (s.lower r)) (λ h. lower-above r i h))
      (premise (upper_at-most (s.upper r) (reached_of rows s r)) (λ h. upper-reached r i h))

  no-conflict : (n : ℕ) (s : Table) → Finite rows n s → ((m : ℕ) → m < n → Apart s m) → ((m : ℕ) → Memᴰ m (nodes_of rows) → Apart s m)
      → ((r : ℕ) → IsRow rows r → Unbroken s r) → Conflict rows s → ⊥
  no-conflict n s f ns ms rs (both m h k) = ⊎_elim (λ (l : m < n). ns m l h k) (λ (l : Memᴰ m (nodes_of rows)). ms m l h k) (f.sure m h)
  no-conflict n s f ns ms rs (lower-above r i h) = (rs r i).0 h
  no-conflict n s f ns ms rs (upper-reached r i h) = (rs r i).1 h

  -- A CONFLICT, or none
  pub conflict-or-none : (n : ℕ) (s : Table) → Finite rows n s → Conflict rows s ⊎ (Conflict rows s → ⊥)
  conflict-or-none n s f =
      by (also
      (also (each_below (Apart s) n (λ m h. at-node s m)) (each_of (Apart s) (nodes_of rows) (λ m h. at-node s m)))
      (each_below (Unbroken s) (length rows) (at_row s)))
    where
      by : Conflict rows s ⊎ ((((m : ℕ) → m < n → Apart s m) × ((m : ℕ) → Memᴰ m (nodes_of rows) → Apart s m)) × ((r : ℕ) → IsRow rows r → Unbroken s r))
          → Conflict rows s ⊎ (Conflict rows s → ⊥)
      by (inl a) = inl a
      by (inr k) = inr (no-conflict n s f k.0.0 k.0.1 k.1)
