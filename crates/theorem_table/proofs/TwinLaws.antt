-- DEGENERATE PAIRS: rows with thresholds of two measures whose second bounds are 0 or less, and the rows of their first measures alone,
-- rest alike. What a run of the pairs' table does from a start stays inside every rest of the plain table above that start.
use Rattle.std.specs.Prelude.{ℕ, ◌+◌, ◌-◌, ◌≤◌, ◌<◌, ◌≡◌, refl, Bool, true, false, cond, ◌⊎◌, length, get_or, eqb, ℤ, pos, ◌-ℤ◌, ◌≤ℤ◌, ◌<ℤ◌, Option, None, Some}
use Rattle.std.proofs.Common.{le_refl, arith, sym, ap, ◌∙◌, subst, inl, inr, ⊎_elim, eqb-true, eq-eqb}
use mathlib.Core.List.Memᴰ
use mathlib.Core.List.{List, [], ◌∷◌, ◌++◌, append-nil, append_assoc, Memᴰ}
use Rattle.std.specs.Int.Signed.{≤ℤ_refl, <ℤ-≤ℤ_trans, clash_ℤ}
use Rattle.base.specs.TestLaws.{true-false, unequal}
use Rattle.base.specs.SignedLaws.{max_right, max_least}
use Rattle.numeric.specs.Threshold.{Term}
use Rattle.state.specs.State.{max_z}
use Rattle.rows.specs.Rows.{Row, Guard, Other, alone, beside, linked_by, Linked, no_row}
use Rattle.theorem_table.specs.Table.{Table, known, possible, AtMost, Below, at, decide_sure, decide_never, raise_lower, lower_upper, IsRow, terms_of, Guards, HasTerm, IsPrefix, known_of, possible_of, reached_of, OtherReached, Reached, OutOfReach, Undecided, Step, sure-guard, never-guard, bound-reached, bound-out-of-reach, term-needed, term-too-heavy, longer-lower, shorter-upper, Conflict, both, lower-above, upper-reached, Run, done, more, AtRest, Ended}
use Rattle.theorem_table.specs.OrderLaws.{le, of_le, ≤ℤ_trans, ≤ℤ_<ℤ_trans, ≤ℤ_or_<ℤ, pos_≤ℤ, zero-le, max_up, max_above, sub_up, needed_clash, heavy_clash, UpLe, up_refl, up_trans, le-or-below, at-most_up}
use Rattle.theorem_table.proofs.TableLaws.{alone_reached, known_up, possible_down, known_rise, possible-drop}
use Rattle.theorem_table.specs.Judged.{Calm}
use Rattle.theorem_table.specs.JudgedLaws.{rest_calm, calm_sure, calm_never, calm_longer, calm_shorter}

changed : {X : Type 0} (P : ℕ → X → Type 0) (n : ℕ) (x : X) (f : ℕ → X) → P n x → ((m : ℕ) → P m (f m)) → (m : ℕ) → P m (at n x f m)
changed P n x f h k m = by (eqb m n) refl
  where
    by : (b : Bool) → eqb m n ≡ b → P m (cond b x (f m))
    by true e = subst (λ (i : ℕ). P i x) (sym (eqb-true m n e)) h
    by false e = k m

-- sums of a list and of one that it starts
known_more : (f : ℕ → Bool) (ts us : List Term) → known f ts ≤ known f (ts ++ us)
unfolding known
known_more f [] us = omega arith
known_more f (t ∷ ts) us = let h = known_more f ts us in omega arith

possible_both : (f : ℕ → Bool) (ts us : List Term) → possible f (ts ++ us) ≡ possible f ts + possible f us
unfolding possible
possible_both f [] us = omega arith
possible_both f (t ∷ ts) us = let h = possible_both f ts us in omega arith

-- an undecided term is possible
counts : (never : ℕ → Bool) (ts : List Term) (x : Term) → Memᴰ x ts → never x.condition ≡ false → x.weight ≤ possible never ts
counts never ts x m e =
    let g = at x.condition true never in
    let h = possible-drop never g ts x (changed (λ (n : ℕ) (b : Bool). never n ≡ true → b ≡ true) x.condition true never (λ _. refl) (λ n k. k)) m e
    (ap (λ (b : Bool). cond b true (never x.condition)) (eq-eqb x.condition x.condition refl)) in
    omega arith

-- A second measure whose bound is 0 or less.
abbrev pub Slight : Other → Type 0
Slight alone = Unit {0}
Slight (beside q b) = b ≤ℤ pos 0

-- A guard's node in a plain row, and beside something.
abbrev pub plainly : Guard → ℤ → Guard
plainly g b = record { bound = b; node = g.node; may = g.may; linked = g.linked; other = alone }

abbrev pub beside_by : Guard → Other → Guard
beside_by g o = record { bound = g.bound; node = g.node; may = g.may; linked = g.linked; other = o }

-- Bounds are handed on from p to q, or the two are one row: rows that are not linked hand nothing on.
abbrev pub Starts : List Row → ℕ → ℕ → Type 0
Starts rows p q =
    IsRow rows p × IsRow rows q × ((rest : List Term) × (terms_of rows q ≡ terms_of rows p ++ rest)) × ((p ≡ q) ⊎ (Linked (get_or rows p no_row) × Linked (get_or rows q no_row)))

-- `e` says where each plain row stands among the rows with pairs. A guard there is a plain row's, or the second of one with a bound of 0 or less.
pub record Twin (ps qs : List Row) (e : ℕ → ℕ) : Type 0 where
  pub row : (r : ℕ) → IsRow qs r → IsRow ps (e r)
  pub apart : (r q : ℕ) → IsRow qs r → IsRow qs q → e r ≡ e q → r ≡ q
  pub terms : (r : ℕ) → IsRow qs r → terms_of ps (e r) ≡ terms_of qs r
  pub linked : (r : ℕ) → IsRow qs r → linked_by (get_or qs r no_row).guards ≡ linked_by (get_or ps (e r) no_row).guards
  pub guards : (p : ℕ) (g : Guard) → Guards ps p g
      → ((r : ℕ) × (p ≡ e r) × Guards qs r (plainly g g.bound)) ⊎ ((g.bound ≤ℤ pos 0) × ((r : ℕ) × (b : ℤ) × (g.other ≡ beside (e r) b) × Guards qs r (plainly g b)))
  -- every plain guard stands there, alone or beside a second one that is slight
  pub plain : (r : ℕ) (g : Guard) → Guards qs r g → (o : Other) × Guards ps (e r) (beside_by g o) × Slight o

module _ (ps qs : List Row) (e : ℕ → ℕ) (w : Twin ps qs e) (t : Table) (rest : AtRest qs t) (natural : (r : ℕ) → pos 0 ≤ℤ t.lower r) where
  -- ---- what a plain rest has
  calm : Calm qs t
  calm = rest_calm qs t rest

  has-never : (r : ℕ) (b : ℤ) (g : Guard) → Guards qs r (plainly g b) → t.never g.node ≡ true → UpLe (t.upper r) (Some b)
  has-never r b g i d = calm_never qs t calm r (plainly g b) i (d, alone_reached qs t alone refl)

  has-reached : (r : ℕ) (g : Guard) → Guards qs r g → Reached qs t r g → t.sure g.node ≡ true
  has-reached r g i h =
      ⊎_elim (λ (k : t.sure g.node ≡ true). k) (λ (k : t.sure g.node ≡ false). absurd (rest.1 (decide_sure t g.node) (bound-reached r g i h k))) (true-false (t.sure g.node))

  has-out : (r : ℕ) (g : Guard) → Guards qs r g → OutOfReach qs t r g → t.never g.node ≡ true
  has-out r g i h =
      ⊎_elim (λ (k : t.never g.node ≡ true). k) (λ (k : t.never g.node ≡ false). absurd (rest.1 (decide_never t g.node) (bound-out-of-reach r g i h k))) (true-false (t.never g.node))

  has-longer : (r q : ℕ) → Starts qs r q → t.lower r ≤ℤ t.lower q
  has-longer r q (a, b, c, inl d) = subst (λ (n : ℕ). t.lower r ≤ℤ t.lower n) d (≤ℤ_refl (t.lower r))
  has-longer r q (a, b, c, inr d) = calm_longer qs t calm r q (a, b, (c.0, c.1, d.0, d.1))

  has-shorter : (r q : ℕ) → Starts qs r q → UpLe (t.upper r) (t.upper q)
  has-shorter r q (a, b, c, inl d) = subst (λ (n : ℕ). UpLe (t.upper r) (t.upper n)) d (up_refl (t.upper r))
  has-shorter r q (a, b, c, inr d) = calm_shorter qs t calm r q (a, b, (c.0, c.1, d.0, d.1))

  -- ---- prefixes
  prefix_same : (p : ℕ) → IsRow ps p → Starts ps p p
  prefix_same p i = (i, i, ([], sym (append-nil (terms_of ps p))), inl refl)

  starts_by : (p q : ℕ) → IsPrefix ps p q → Starts ps p q
  starts_by p q a = (a.0, a.1, (a.2.0, a.2.1), inr (a.2.2, a.2.3))

  prefix_then : (p q r : ℕ) → Starts ps p q → Starts ps q r → Starts ps p r
  prefix_then p q r a b =
      (a.0, b.1, (a.2.0 ++ b.2.0, b.2.1 ∙ ap (λ (ts : List Term). ts ++ b.2.0) a.2.1 ∙ append_assoc (terms_of ps p) a.2.0 b.2.0), by a.3 b.3)
    where
      by : (p ≡ q) ⊎ (Linked (get_or ps p no_row) × Linked (get_or ps q no_row)) → (q ≡ r) ⊎ (Linked (get_or ps q no_row) × Linked (get_or ps r no_row)) → (p ≡ r) ⊎ (Linked (get_or ps p no_row) × Linked (get_or ps r no_row))
      by (inl x) (inl y) = inl (x ∙ y)
      by (inl x) (inr y) = inr (subst (λ (n : ℕ). Linked (get_or ps n no_row)) (sym x) y.0, y.1)
      by (inr x) (inl y) = inr (x.0, subst (λ (n : ℕ). Linked (get_or ps n no_row)) y x.1)
      by (inr x) (inr y) = inr (x.0, y.1)

  prefix-plain : (r q : ℕ) → IsRow qs r → IsRow qs q → Starts ps (e r) (e q) → Starts qs r q
  prefix-plain r q i j a = (i, j, (a.2.0, sym (w.terms q j) ∙ a.2.1 ∙ ap (λ (ts : List Term). ts ++ a.2.0) (w.terms r i)), by a.3)
    where
      by : (e r ≡ e q) ⊎ (Linked (get_or ps (e r) no_row) × Linked (get_or ps (e q) no_row)) → (r ≡ q) ⊎ (Linked (get_or qs r no_row) × Linked (get_or qs q no_row))
      by (inl x) = inl (w.apart r q i j x)
      by (inr x) = inr (w.linked r i ∙ x.0, w.linked q j ∙ x.1)

  -- ---- INSIDE: nodes are the rest's; a lower is 0 or less, or at most that of a plain row that starts this one; an upper likewise
  abbrev Low : ℕ → ℤ → Type 0
  Low p z = (z ≤ℤ pos 0) ⊎ ((r : ℕ) × IsRow qs r × Starts ps (e r) p × (z ≤ℤ t.lower r))

  abbrev Up : ℕ → Option ℤ → Type 0
  Up p y = (y ≡ None) ⊎ ((r : ℕ) × IsRow qs r × Starts ps p (e r) × UpLe (t.upper r) y)

  pub record Inside (u : Table) : Type 0 where
    pub sure : (n : ℕ) → u.sure n ≡ true → t.sure n ≡ true
    pub never : (n : ℕ) → u.never n ≡ true → t.never n ≡ true
    pub low : (p : ℕ) → Low p (u.lower p)
    pub up : (p : ℕ) → Up p (u.upper p)

  module _ (u : Table) (h : Inside u) where
    -- of a plain row
    low-plain : (r : ℕ) → IsRow qs r → u.lower (e r) ≤ℤ t.lower r
    low-plain r i =
        ⊎_elim (λ (k : u.lower (e r) ≤ℤ pos 0). ≤ℤ_trans k (natural r)) (λ (k : (q : ℕ) × IsRow qs q × Starts ps (e q) (e r) × (u.lower (e r) ≤ℤ t.lower q)).
        ≤ℤ_trans k.3 (has-longer k.0 r (prefix-plain k.0 r k.1 i k.2))) (h.low (e r))

    up-plain : (r : ℕ) → IsRow qs r → UpLe (t.upper r) (u.upper (e r))
    up-plain r i =
        ⊎_elim (λ (k : u.upper (e r) ≡ None). subst (UpLe (t.upper r)) (sym k) tt) (λ (k : (q : ℕ) × IsRow qs q × Starts ps (e r) (e q) × UpLe (t.upper q) (u.upper (e r))).
        up_trans (t.upper r) (t.upper k.0) (u.upper (e r)) (has-shorter r k.0 (prefix-plain r k.0 i k.1 k.2)) k.3) (h.up (e r))

    reached-plain : (r : ℕ) → IsRow qs r → reached_of ps u (e r) ≤ℤ reached_of qs t r
    reached-plain r i =
        max_up {a = known_of ps u (e r)} {b = u.lower (e r)} {c = known_of qs t r} {d = t.lower r}
        (subst (λ (ts : List Term). pos (known u.sure ts) ≤ℤ known_of qs t r) (sym (w.terms r i)) (pos_≤ℤ (known_up u.sure t.sure (terms_of qs r) h.sure))) (low-plain r i)

    -- a plain row that starts another: what is possible there under the rest is at most what is possible here
    possible-start : (r p : ℕ) → IsRow qs r → Starts ps (e r) p → possible t.never (terms_of qs r) ≤ possible t.never (terms_of ps p)
    possible-start r p i a =
        let x = possible_both t.never (terms_of ps (e r)) a.2.0 in
        let y : possible t.never (terms_of ps p) ≡ possible t.never (terms_of ps (e r) ++ a.2.0) = ap (possible t.never) a.2.1 in
        let z : possible t.never (terms_of ps (e r)) ≡ possible t.never (terms_of qs r) = ap (possible t.never) (w.terms r i) in
        omega arith

    known_start : (p r : ℕ) → IsRow qs r → Starts ps p (e r) → known t.sure (terms_of ps p) ≤ known t.sure (terms_of qs r)
    known_start p r i a =
        let x = known_more t.sure (terms_of ps p) a.2.0 in
        let y : known t.sure (terms_of qs r) ≡ known t.sure (terms_of ps p ++ a.2.0) = ap (known t.sure) (sym (w.terms r i) ∙ a.2.1) in
        omega arith

    -- NO CONFLICT
    pub inside_fine : Conflict ps u → ⊥
    inside_fine (both n a b) = rest.0 (both n (h.sure n a) (h.never n b))
    inside_fine (lower-above p i k) = ⊎_elim (λ (z : u.lower p ≤ℤ pos 0). clash_ℤ k (≤ℤ_trans z (zero-le _))) by (h.low p)
      where
        by : (r : ℕ) × IsRow qs r × Starts ps (e r) p × (u.lower p ≤ℤ t.lower r) → ⊥
        by (r, j, a, z) =
            rest.0 (lower-above r j (≤ℤ_<ℤ_trans (pos_≤ℤ (let x = possible-start r p j a in let y = possible_down u.never t.never (terms_of ps p) h.never in omega arith)) (<ℤ-≤ℤ_trans k z)))
    inside_fine (upper-reached p i k) = by (h.up p)
      where
        by : Up p (u.upper p) → ⊥
        by (inl z) = subst (λ (y : Option ℤ). AtMost y (reached_of ps u p)) z k
        by (inr (r, j, a, z)) = rest.0 (upper-reached r j (at-most_up (t.upper r) (u.upper p) z reached-below k))
          where
            known-below : known_of ps u p ≤ℤ reached_of qs t r
            known-below = ≤ℤ_trans (pos_≤ℤ (let x = known_up u.sure t.sure (terms_of ps p) h.sure in let y = known_start p r j a in omega arith)) (max_above (known_of qs t r) (t.lower r))

            lower_below : u.lower p ≤ℤ reached_of qs t r
            lower_below = ≤ℤ_trans (⊎_elim (λ (z : u.lower p ≤ℤ pos 0). ≤ℤ_trans z (natural r))
                (λ (z : (q : ℕ) × IsRow qs q × Starts ps (e q) p × (u.lower p ≤ℤ t.lower q)). ≤ℤ_trans z.3 (has-longer z.0 r (prefix-plain z.0 r z.1 j (prefix_then (e z.0) p (e r) z.2 a)))) (h.low p))
                (le (max_right (known_of qs t r) (t.lower r)))

            reached-below : reached_of ps u p ≤ℤ reached_of qs t r
            reached-below = le (max_least (known_of ps u p) (u.lower p) (reached_of qs t r) (of_le known-below) (of_le lower_below))

    -- ---- EVERY STEP STAYS INSIDE
    with-sure : (n : ℕ) → t.sure n ≡ true → Inside (decide_sure u n)
    with-sure n d = record { sure = changed (λ (m : ℕ) (b : Bool). b ≡ true → t.sure m ≡ true) n true u.sure (λ _. d) h.sure; never = h.never; low = h.low; up = h.up }

    with-never : (n : ℕ) → t.never n ≡ true → Inside (decide_never u n)
    with-never n d = record { sure = h.sure; never = changed (λ (m : ℕ) (b : Bool). b ≡ true → t.never m ≡ true) n true u.never (λ _. d) h.never; low = h.low; up = h.up }

    with-low : (p : ℕ) (z : ℤ) → Low p z → Inside (raise_lower u p z)
    with-low p z d = record { sure = h.sure; never = h.never; low = changed Low p z u.lower d h.low; up = h.up }

    with-up : (p : ℕ) (y : Option ℤ) → Up p y → Inside (lower_upper u p y)
    with-up p y d = record { sure = h.sure; never = h.never; low = h.low; up = changed Up p y u.upper d h.up }

    -- a weight that a row needs the rest has
    needed : (p : ℕ) (x : Term) → HasTerm ps p x → Undecided ps u x.condition → (possible_of ps u p -ℤ u.lower p) <ℤ pos x.weight → t.sure x.condition ≡ true
    needed p x i d k = ⊎_elim nothing by (h.low p)
      where
        c : x.weight ≤ possible u.never (terms_of ps p)
        c = counts u.never (terms_of ps p) x i.1 d.1

        nothing : u.lower p ≤ℤ pos 0 → t.sure x.condition ≡ true
        nothing z = absurd (clash_ℤ (needed_clash (possible u.never (terms_of ps p)) (possible u.never (terms_of ps p) - x.weight) x.weight (u.lower p) (omega (arith, c)) k) (≤ℤ_trans z (zero-le _)))

        by : (r : ℕ) × IsRow qs r × Starts ps (e r) p × (u.lower p ≤ℤ t.lower r) → t.sure x.condition ≡ true
        by (r, j, a, z) =
            ⊎_elim (λ (y : t.sure x.condition ≡ true). y) (λ (y : t.sure x.condition ≡ false). absurd (⊎_elim never-there (λ (n : t.never x.condition ≡ false). open-there y n) (true-false (t.never x.condition))))
            (true-false (t.sure x.condition))
          where
            below : (q : ℕ) → possible t.never (terms_of qs r) ≤ q → pos q <ℤ u.lower p → ⊥
            below q l m = rest.0 (lower-above r j (≤ℤ_<ℤ_trans (pos_≤ℤ l) (<ℤ-≤ℤ_trans m z)))

            never-there : t.never x.condition ≡ true → ⊥
            never-there n =
                below (possible t.never (terms_of ps p)) (possible-start r p j a)
                (needed_clash (possible u.never (terms_of ps p)) (possible t.never (terms_of ps p)) x.weight (u.lower p) (possible-drop u.never t.never (terms_of ps p) x h.never i.1 d.1 n) k)

            parts : possible u.never (terms_of ps p) ≡ possible u.never (terms_of qs r) + possible u.never a.2.0
            parts = ap (possible u.never) (a.2.1 ∙ ap (λ (ts : List Term). ts ++ a.2.0) (w.terms r j)) ∙ possible_both u.never (terms_of qs r) a.2.0

            less : possible t.never (terms_of qs r) ≤ possible u.never (terms_of qs r)
            less = possible_down u.never t.never (terms_of qs r) h.never

            open-there : t.sure x.condition ≡ false → t.never x.condition ≡ false → ⊥
            open-there y n =
                ⊎_elim
                (λ (m : Memᴰ x (terms_of ps (e r))).
                rest.1 (decide_sure t x.condition) (term-needed r x (j, subst (Memᴰ x) (w.terms r j) m) (y, n)
                (≤ℤ_<ℤ_trans (sub_up (pos_≤ℤ (omega (arith, less, parts))) z) k)))
                (λ (m : Memᴰ x a.2.0).
                below (possible u.never (terms_of qs r)) less
                (needed_clash (possible u.never (terms_of ps p)) (possible u.never (terms_of qs r)) x.weight (u.lower p) (omega (arith, parts, counts u.never a.2.0 x m d.1)) k))
                (Memᴰ.append_cases (terms_of ps (e r)) (subst (Memᴰ x) a.2.1 i.1))

    heavy : (p : ℕ) (x : Term) (b : ℤ) → HasTerm ps p x → Undecided ps u x.condition → u.upper p ≡ Some b → (b -ℤ known_of ps u p) ≤ℤ pos x.weight → t.never x.condition ≡ true
    heavy p x b i d q k = by (h.up p)
      where
        by : Up p (u.upper p) → t.never x.condition ≡ true
        by (inl z) = absurd (subst (λ (y : Option ℤ). AtMost y b) (sym q ∙ z) (≤ℤ_refl b))
        by (inr (r, j, a, z)) =
            ⊎_elim (λ (n : t.never x.condition ≡ true). n)
            (λ (n : t.never x.condition ≡ false). absurd (⊎_elim sure-there (λ (y : t.sure x.condition ≡ false). open-there (t.upper r) refl y n) (true-false (t.sure x.condition)))) (true-false (t.never x.condition))
          where
            bound : UpLe (t.upper r) (Some b)
            bound = subst (UpLe (t.upper r)) q z

            there : Memᴰ x (terms_of qs r)
            there = subst (Memᴰ x) (w.terms r j) (subst (Memᴰ x) (sym a.2.1) (Memᴰ.append_left a.2.0 i.1))

            sure-there : t.sure x.condition ≡ true → ⊥
            sure-there y =
                rest.0 (upper-reached r j (at-most_up (t.upper r) (Some b) bound (≤ℤ_refl (reached_of qs t r))
                (≤ℤ_trans (heavy_clash (known u.sure (terms_of ps p)) (known t.sure (terms_of qs r)) x.weight b
                (let m = known_rise u.sure t.sure (terms_of ps p) x h.sure i.1 d.0 y in let l = known_start p r j a in omega arith) k)
                (max_above (known_of qs t r) (t.lower r)))))

            open-there : (c : Option ℤ) → t.upper r ≡ c → t.sure x.condition ≡ false → t.never x.condition ≡ false → ⊥
            open-there None f y n = subst (λ (g : Option ℤ). UpLe g (Some b)) f bound
            open-there (Some c) f y n =
                rest.1 (decide_never t x.condition) (term-too-heavy r x c (j, there) (y, n) f
                (≤ℤ_trans (sub_up (subst (λ (g : Option ℤ). UpLe g (Some b)) f bound) (pos_≤ℤ {a = known u.sure (terms_of ps p)} {b = known t.sure (terms_of qs r)} (let m = known_up u.sure t.sure (terms_of ps p) h.sure in let l = known_start p r j a in omega arith))) k))

    -- the first measure of a second guard is reached there too
    second-reached : (g : Guard) (r : ℕ) (b : ℤ) → g.other ≡ beside (e r) b → Guards qs r (plainly g b) → OtherReached ps u g.other → b ≤ℤ reached_of qs t r
    unfolding OtherReached
    second-reached g r b f i o = ≤ℤ_trans (subst (OtherReached ps u) f o) (reached-plain r i.0)

    pub inside_step : (v : Table) → Step ps u v → Inside v
    inside_step v (sure-guard p g i d k) = with-low p g.bound (by (w.guards p g i))
      where
        by : ((r : ℕ) × (p ≡ e r) × Guards qs r (plainly g g.bound)) ⊎ ((g.bound ≤ℤ pos 0) × ((r : ℕ) × (b : ℤ) × (g.other ≡ beside (e r) b) × Guards qs r (plainly g b))) → Low p g.bound
        by (inl (r, q, j)) = inr (r, j.0, subst (Starts ps (e r)) (sym q) (prefix_same (e r) (w.row r j.0)), calm_sure qs t calm r (plainly g g.bound) j (h.sure g.node d))
        by (inr s) = inl s.0
    inside_step v (never-guard p g i (d, o) k) = by (w.guards p g i)
      where
        by : ((r : ℕ) × (p ≡ e r) × Guards qs r (plainly g g.bound)) ⊎ ((g.bound ≤ℤ pos 0) × ((r : ℕ) × (b : ℤ) × (g.other ≡ beside (e r) b) × Guards qs r (plainly g b))) → Inside (lower_upper u p (Some g.bound))
        by (inl (r, q, j)) = with-up p (Some g.bound) (inr (r, j.0, subst (λ (m : ℕ). Starts ps m (e r)) (sym q) (prefix_same (e r) (w.row r j.0)), has-never r g.bound g j (h.never g.node d)))
        by (inr (z, (r, b, f, j))) = absurd (rest.0 (upper-reached r j.0 (at-most_up (t.upper r) (Some b) (has-never r b g j (h.never g.node d)) (≤ℤ_refl (reached_of qs t r)) (second-reached g r b f j o))))
    inside_step v (bound-reached p g i (m, k, o) d) = with-sure g.node (by (w.guards p g i))
      where
        by : ((r : ℕ) × (p ≡ e r) × Guards qs r (plainly g g.bound)) ⊎ ((g.bound ≤ℤ pos 0) × ((r : ℕ) × (b : ℤ) × (g.other ≡ beside (e r) b) × Guards qs r (plainly g b))) → t.sure g.node ≡ true
        by (inl (r, q, j)) =
            has-reached r (plainly g g.bound) j (m, ≤ℤ_trans (subst (λ (n : ℕ). g.bound ≤ℤ reached_of ps u n) q k) (reached-plain r j.0), alone_reached qs t alone refl)
        by (inr (z, (r, b, f, j))) = has-reached r (plainly g b) j (m, second-reached g r b f j o, alone_reached qs t alone refl)
    inside_step v (bound-out-of-reach p g i (m, k) d) = with-never g.node (by (w.guards p g i))
      where
        far : (r : ℕ) → IsRow qs r → (possible_of ps u (e r) <ℤ g.bound) ⊎ AtMost (u.upper (e r)) g.bound → (possible_of qs t r <ℤ g.bound) ⊎ AtMost (t.upper r) g.bound
        far r j (inl x) =
            inl (≤ℤ_<ℤ_trans (subst (λ (ts : List Term). possible_of qs t r ≤ℤ pos (possible u.never ts)) (sym (w.terms r j)) (pos_≤ℤ (possible_down u.never t.never (terms_of qs r) h.never))) x)
        far r j (inr x) = inr (at-most_up (t.upper r) (u.upper (e r)) (up-plain r j) (≤ℤ_refl g.bound) x)

        slight : g.bound ≤ℤ pos 0 → (possible_of ps u p <ℤ g.bound) ⊎ AtMost (u.upper p) g.bound → ⊥
        slight z (inl x) = clash_ℤ x (≤ℤ_trans z (zero-le _))
        slight z (inr x) = inside_fine (upper-reached p i.0 (at-most_up (u.upper p) (u.upper p) (up_refl (u.upper p)) (≤ℤ_trans z (≤ℤ_trans (zero-le _) (max_above (known_of ps u p) (u.lower p)))) x))

        by : ((r : ℕ) × (p ≡ e r) × Guards qs r (plainly g g.bound)) ⊎ ((g.bound ≤ℤ pos 0) × ((r : ℕ) × (b : ℤ) × (g.other ≡ beside (e r) b) × Guards qs r (plainly g b))) → t.never g.node ≡ true
        by (inl (r, q, j)) = has-out r (plainly g g.bound) j (m, far r j.0 (subst (λ (n : ℕ). (possible_of ps u n <ℤ g.bound) ⊎ AtMost (u.upper n) g.bound) q k))
        by (inr s) = absurd (slight s.0 k)
    inside_step v (term-needed p x i d k) = with-sure x.condition (needed p x i d k)
    inside_step v (term-too-heavy p x b i d q k) = with-never x.condition (heavy p x b i d q k)
    inside_step v (longer-lower p q a k) = with-low q (u.lower p) (by (h.low p))
      where
        by : Low p (u.lower p) → Low q (u.lower p)
        by (inl z) = inl z
        by (inr (r, j, c, z)) = inr (r, j, prefix_then (e r) p q c (starts_by p q a), z)
    inside_step v (shorter-upper p q a k) = with-up p (u.upper q) (by (h.up q))
      where
        by : Up q (u.upper q) → Up p (u.upper q)
        by (inl z) = inl z
        by (inr (r, j, c, z)) = inr (r, j, prefix_then p q (e r) (starts_by p q a) c, z)

  -- EVERY RUN STAYS INSIDE, and where it went on to its end it rests
  pub inside_run : {s u : Table} → Run ps s u → Inside s → Inside u
  inside_run done h = h
  inside_run (more {s} {t = v} n a r) h = inside_run r (inside_step s h v a)

  pub inside_end : {s u : Table} → Ended ps s u → Inside s → Inside u × AtRest ps u
  inside_end {s} {u} x h =
      let k = inside_run x.0 h in
      (k, ⊎_elim (λ (c : Conflict ps u). absurd (inside_fine u k c)) (λ (r : AtRest ps u). r) x.1)

-- ---- THE OTHER WAY: a rest of the pairs' table, seen on the plain rows, is a rest of the plain table
abbrev pub seen : (ℕ → ℕ) → Table → Table
seen e u = record { sure = u.sure; never = u.never; lower = λ (r : ℕ). u.lower (e r); upper = λ (r : ℕ). u.upper (e r) }

module _ (ps qs : List Row) (e : ℕ → ℕ) (w : Twin ps qs e) (u : Table) (rest : AtRest ps u) (natural : (p : ℕ) → pos 0 ≤ℤ u.lower p) where
  slight-reached : (o : Other) → Slight o → OtherReached ps u o
  unfolding OtherReached
  slight-reached alone s = tt
  slight-reached (beside q b) s = ≤ℤ_trans s (≤ℤ_trans (natural q) (le (max_right (known_of ps u q) (u.lower q))))

  same_known : (r : ℕ) → IsRow qs r → known_of qs (seen e u) r ≡ known_of ps u (e r)
  same_known r i = ap (λ (ts : List Term). pos (known u.sure ts)) (sym (w.terms r i))

  same-possible : (r : ℕ) → IsRow qs r → possible_of qs (seen e u) r ≡ possible_of ps u (e r)
  same-possible r i = ap (λ (ts : List Term). pos (possible u.never ts)) (sym (w.terms r i))

  same-reached : (r : ℕ) → IsRow qs r → reached_of qs (seen e u) r ≡ reached_of ps u (e r)
  same-reached r i = ap (λ (z : ℤ). max_z z (u.lower (e r))) (same_known r i)

  is-prefix : (r q : ℕ) → IsPrefix qs r q → IsPrefix ps (e r) (e q)
  is-prefix r q a = (w.row r a.0, w.row q a.1, (a.2.0, w.terms q a.1 ∙ a.2.1 ∙ ap (λ (ts : List Term). ts ++ a.2.0) (sym (w.terms r a.0)), sym (w.linked r a.0) ∙ a.2.2, sym (w.linked q a.1) ∙ a.2.3))

  seen-fine : Conflict qs (seen e u) → ⊥
  seen-fine (both n a b) = rest.0 (both n a b)
  seen-fine (lower-above r i k) = rest.0 (lower-above (e r) (w.row r i) (subst (λ (z : ℤ). z <ℤ u.lower (e r)) (same-possible r i) k))
  seen-fine (upper-reached r i k) = rest.0 (upper-reached (e r) (w.row r i) (subst (AtMost (u.upper (e r))) (same-reached r i) k))

  seen-still : (v : Table) → Step qs (seen e u) v → ⊥
  seen-still v (sure-guard r g i d k) = let o = w.plain r g i in rest.1 (raise_lower u (e r) g.bound) (sure-guard (e r) (beside_by g o.0) o.1 d k)
  seen-still v (never-guard r g i (d, x) k) =
      let o = w.plain r g i in
      rest.1 (lower_upper u (e r) (Some g.bound)) (never-guard (e r) (beside_by g o.0) o.1 (d, slight-reached o.0 o.2) k)
  seen-still v (bound-reached r g i (m, k, x) d) =
      let o = w.plain r g i in
      rest.1 (decide_sure u g.node) (bound-reached (e r) (beside_by g o.0) o.1 (m, subst (λ (z : ℤ). g.bound ≤ℤ z) (same-reached r i.0) k, slight-reached o.0 o.2) d)
  seen-still v (bound-out-of-reach r g i (m, k) d) =
      let o = w.plain r g i in
      rest.1 (decide_never u g.node) (bound-out-of-reach (e r) (beside_by g o.0) o.1
      (m, subst (λ (z : ℤ). (z <ℤ g.bound) ⊎ AtMost (u.upper (e r)) g.bound) (same-possible r i.0) k) d)
  seen-still v (term-needed r x i d k) =
      rest.1 (decide_sure u x.condition) (term-needed (e r) x (w.row r i.0, subst (Memᴰ x) (sym (w.terms r i.0)) i.1) d (subst (λ (z : ℤ). (z -ℤ u.lower (e r)) <ℤ pos x.weight) (same-possible r i.0) k))
  seen-still v (term-too-heavy r x b i d q k) =
      rest.1 (decide_never u x.condition) (term-too-heavy (e r) x b (w.row r i.0, subst (Memᴰ x) (sym (w.terms r i.0)) i.1) d q (subst (λ (z : ℤ). (b -ℤ z) ≤ℤ pos x.weight) (same_known r i.0) k))
  seen-still v (longer-lower r q a k) = rest.1 (raise_lower u (e q) (u.lower (e r))) (longer-lower (e r) (e q) (is-prefix r q a) k)
  seen-still v (shorter-upper r q a k) = rest.1 (lower_upper u (e r) (u.upper (e q))) (shorter-upper (e r) (e q) (is-prefix r q a) k)

  pub seen_rests : AtRest qs (seen e u)
  seen_rests = (seen-fine, seen-still)
