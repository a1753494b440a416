-- One end for all orders: the rules only add, and every state at rest above a start has what a rule concludes.
-- So all runs from one start end in a conflict, or all end in the same state.
use Rattle.std.specs.Prelude.{ℕ, ◌+◌, ◌≤◌, ◌≡◌, refl, Bool, true, false, cond, ◌⊎◌, eqb, ℤ, pos, ◌-ℤ◌, ◌≤ℤ◌, ◌<ℤ◌, Option, None, Some}
use Rattle.std.proofs.Common.{le_refl, arith, sym, ap, ◌∙◌, subst, inl, inr, ⊎_elim, eqb-true}
use Rattle.std.proofs.Math.Path.{fun_ext}
use mathlib.Core.List.Memᴰ
use mathlib.Core.List.{List, [], ◌∷◌, Memᴰ}
use Rattle.std.specs.Int.Signed.{≤ℤ_refl, <ℤ-≤ℤ_trans}
use Rattle.base.specs.TestLaws.{same_bool, true-false, unequal}
use Rattle.numeric.specs.Threshold.{Term}
use Rattle.numeric.specs.LayoutLaws.{sum_of, one_rises, sum_rises}
use Rattle.rows.specs.Rows.{Row, Other, alone, beside, is_alone}
use Rattle.theorem_table.specs.Table.{Table, known, possible, AtMost, Below, at, decide_sure, decide_never, raise_lower, lower_upper, terms_of, HasTerm, known_of, possible_of, reached_of, OtherReached, Undecided, Step, sure-guard, never-guard, bound-reached, bound-out-of-reach, term-needed, term-too-heavy, longer-lower, shorter-upper, Conflict, both, lower-above, upper-reached, Run, done, more, AtRest, Ended}
use Rattle.theorem_table.specs.OrderLaws.{≤ℤ_trans, ≤ℤ_<ℤ_trans, ≤ℤ_anti, <ℤ_≤ℤ, ≤ℤ_or_<ℤ, pos_≤ℤ, max_up, max_above, sub_up, needed_clash, heavy_clash, UpLe, up_refl, up_trans, up_anti, below-le, le-or-below, at-most_up}

-- THE ORDER: more nodes decided, lowers higher, uppers lower
pub record Le (s u : Table) : Type 0 where
  pub sure : (n : ℕ) → s.sure n ≡ true → u.sure n ≡ true
  pub never : (n : ℕ) → s.never n ≡ true → u.never n ≡ true
  pub lower : (r : ℕ) → s.lower r ≤ℤ u.lower r
  pub upper : (r : ℕ) → UpLe (u.upper r) (s.upper r)

pub le_same : (s : Table) → Le s s
le_same s = record { sure = λ n h. h; never = λ n h. h; lower = λ r. ≤ℤ_refl (s.lower r); upper = λ r. up_refl (s.upper r) }

pub le_then : (s t u : Table) → Le s t → Le t u → Le s u
le_then s t u a b = record {
  sure = λ n h. b.sure n (a.sure n h);
  never = λ n h. b.never n (a.never n h);
  lower = λ r. ≤ℤ_trans (a.lower r) (b.lower r);
  upper = λ r. up_trans (u.upper r) (t.upper r) (s.upper r) (b.upper r) (a.upper r);
}

pub le_both : (s t : Table) → Le s t → Le t s → s ≡ t
le_both s t a b = λ i. record {
  sure = fun_ext (λ (n : ℕ). same_bool (s.sure n) (t.sure n) (a.sure n) (b.sure n)) i;
  never = fun_ext (λ (n : ℕ). same_bool (s.never n) (t.never n) (a.never n) (b.never n)) i;
  lower = fun_ext (λ (r : ℕ). ≤ℤ_anti (a.lower r) (b.lower r)) i;
  upper = fun_ext (λ (r : ℕ). up_anti (s.upper r) (t.upper r) (b.upper r) (a.upper r)) i;
}

-- SUMS OF THE MASKS

pub known-sum : (v : ℕ → Bool) (ts : List Term) → known v ts ≡ sum_of v ts
unfolding known sum_of
known-sum v [] = refl
known-sum v (t ∷ ts) = ap (λ (n : ℕ). cond (v t.condition) t.weight 0 + n) (known-sum v ts)

one-possible : (a b : Bool) (w : ℕ) → (a ≡ true → b ≡ true) → cond b 0 w ≤ cond a 0 w
one-possible true b w h = subst (λ (c : Bool). cond c 0 w ≤ 0) (sym (h refl)) (le_refl 0)
one-possible false true w h = omega arith
one-possible false false w h = le_refl w

pub known_up : (f g : ℕ → Bool) (ts : List Term) → ((n : ℕ) → f n ≡ true → g n ≡ true) → known f ts ≤ known g ts
known_up f g ts h = omega (arith, known-sum f ts, known-sum g ts, sum_rises f g h ts)

pub possible_down : (f g : ℕ → Bool) (ts : List Term) → ((n : ℕ) → f n ≡ true → g n ≡ true) → possible g ts ≤ possible f ts
unfolding possible
possible_down f g [] h = le_refl 0
possible_down f g (t ∷ ts) h =
    let a = possible_down f g ts h in let b = one-possible (f t.condition) (g t.condition) t.weight (h t.condition) in omega arith

-- one term of the list that is true now and was not
pub known_rise : (f g : ℕ → Bool) (ts : List Term) (t : Term) → ((n : ℕ) → f n ≡ true → g n ≡ true) → Memᴰ t ts → f t.condition ≡ false → g t.condition ≡ true
    → known f ts + t.weight ≤ known g ts
unfolding known
known_rise f g [] t h m e d = absurd (Memᴰ.not-nil m)
known_rise f g (x ∷ xs) t h m e d =
    ⊎_elim
    (λ (q : t ≡ x).
    let a = known_up f g xs h in
    let b : cond (f x.condition) x.weight 0 ≡ 0 = ap (λ (c : Bool). cond c x.weight 0) (ap (λ (y : Term). f y.condition) (sym q) ∙ e) in
    let c : cond (g x.condition) x.weight 0 ≡ x.weight = ap (λ (c : Bool). cond c x.weight 0) (ap (λ (y : Term). g y.condition) (sym q) ∙ d) in
    let z : t.weight ≡ x.weight = ap (λ (y : Term). y.weight) q in
    omega arith)
    (λ (n : Memᴰ t xs).
    let a = known_rise f g xs t h n e d in let b = one_rises (f x.condition) (g x.condition) x.weight (h x.condition) in omega arith)
    (Memᴰ.cases_cons m)

pub possible-drop : (f g : ℕ → Bool) (ts : List Term) (t : Term) → ((n : ℕ) → f n ≡ true → g n ≡ true) → Memᴰ t ts → f t.condition ≡ false → g t.condition ≡ true
    → possible g ts + t.weight ≤ possible f ts
unfolding possible
possible-drop f g [] t h m e d = absurd (Memᴰ.not-nil m)
possible-drop f g (x ∷ xs) t h m e d =
    ⊎_elim
    (λ (q : t ≡ x).
    let a = possible_down f g xs h in
    let b : cond (f x.condition) 0 x.weight ≡ x.weight = ap (λ (c : Bool). cond c 0 x.weight) (ap (λ (y : Term). f y.condition) (sym q) ∙ e) in
    let c : cond (g x.condition) 0 x.weight ≡ 0 = ap (λ (c : Bool). cond c 0 x.weight) (ap (λ (y : Term). g y.condition) (sym q) ∙ d) in
    let z : t.weight ≡ x.weight = ap (λ (y : Term). y.weight) q in
    omega arith)
    (λ (n : Memᴰ t xs).
    let a = possible-drop f g xs t h n e d in let b = one-possible (f x.condition) (g x.condition) x.weight (h x.condition) in omega arith)
    (Memᴰ.cases_cons m)

-- A FUNCTION CHANGED AT ONE PLACE has a property everywhere if the value has it there and the function elsewhere
changed : {X : Type 0} (P : ℕ → X → Type 0) (n : ℕ) (x : X) (f : ℕ → X) → P n x → ((m : ℕ) → P m (f m)) → (m : ℕ) → P m (at n x f m)
changed P n x f h k m = by (eqb m n) refl
  where
    by : (b : Bool) → eqb m n ≡ b → P m (cond b x (f m))
    by true e = subst (λ (i : ℕ). P i x) (sym (eqb-true m n e)) h
    by false e = k m

-- each conclusion stays below whatever is above and has it
sure_below : (s u : Table) (n : ℕ) → Le s u → u.sure n ≡ true → Le (decide_sure s n) u
sure_below s u n a h = record {
  sure = changed (λ (m : ℕ) (b : Bool). b ≡ true → u.sure m ≡ true) n true s.sure (λ _. h) a.sure;
  never = a.never;
  lower = a.lower;
  upper = a.upper;
}

never_below : (s u : Table) (n : ℕ) → Le s u → u.never n ≡ true → Le (decide_never s n) u
never_below s u n a h = record {
  sure = a.sure;
  never = changed (λ (m : ℕ) (b : Bool). b ≡ true → u.never m ≡ true) n true s.never (λ _. h) a.never;
  lower = a.lower;
  upper = a.upper;
}

lower_below : (s u : Table) (r : ℕ) (b : ℤ) → Le s u → b ≤ℤ u.lower r → Le (raise_lower s r b) u
lower_below s u r b a h = record {
  sure = a.sure;
  never = a.never;
  lower = changed (λ (m : ℕ) (z : ℤ). z ≤ℤ u.lower m) r b s.lower h a.lower;
  upper = a.upper;
}

upper_below : (s u : Table) (r : ℕ) (b : Option ℤ) → Le s u → UpLe (u.upper r) b → Le (lower_upper s r b) u
upper_below s u r b a h = record {
  sure = a.sure;
  never = a.never;
  lower = a.lower;
  upper = changed (λ (m : ℕ) (z : Option ℤ). UpLe (u.upper m) z) r b s.upper h a.upper;
}

-- and above what was there
sure_above : (s : Table) (n : ℕ) → Le s (decide_sure s n)
sure_above s n = record {
  sure = changed (λ (m : ℕ) (b : Bool). s.sure m ≡ true → b ≡ true) n true s.sure (λ _. refl) (λ m h. h);
  never = λ m h. h;
  lower = λ r. ≤ℤ_refl (s.lower r);
  upper = λ r. up_refl (s.upper r);
}

never_above : (s : Table) (n : ℕ) → Le s (decide_never s n)
never_above s n = record {
  sure = λ m h. h;
  never = changed (λ (m : ℕ) (b : Bool). s.never m ≡ true → b ≡ true) n true s.never (λ _. refl) (λ m h. h);
  lower = λ r. ≤ℤ_refl (s.lower r);
  upper = λ r. up_refl (s.upper r);
}

lower_raised : (s : Table) (r : ℕ) (b : ℤ) → s.lower r <ℤ b → Le s (raise_lower s r b)
lower_raised s r b h = record {
  sure = λ m k. k;
  never = λ m k. k;
  lower = changed (λ (m : ℕ) (z : ℤ). s.lower m ≤ℤ z) r b s.lower (<ℤ_≤ℤ h) (λ m. ≤ℤ_refl (s.lower m));
  upper = λ q. up_refl (s.upper q);
}

upper_lowered : (s : Table) (r : ℕ) (b : Option ℤ) → Below b (s.upper r) → Le s (lower_upper s r b)
upper_lowered s r b h = record {
  sure = λ m k. k;
  never = λ m k. k;
  lower = λ q. ≤ℤ_refl (s.lower q);
  upper = changed (λ (m : ℕ) (z : Option ℤ). UpLe z (s.upper m)) r b s.upper (below-le b (s.upper r) h) (λ m. up_refl (s.upper m));
}

module _ (rows : List Row) where
  reached-up : (s u : Table) (r : ℕ) → Le s u → reached_of rows s r ≤ℤ reached_of rows u r
  reached-up s u r a =
      max_up {a = known_of rows s r} {b = s.lower r} {c = known_of rows u r} {d = u.lower r}
      (pos_≤ℤ (known_up s.sure u.sure (terms_of rows r) a.sure)) (a.lower r)

  possible-up : (s u : Table) (r : ℕ) → Le s u → possible_of rows u r ≤ℤ possible_of rows s r
  possible-up s u r a = pos_≤ℤ (possible_down s.never u.never (terms_of rows r) a.never)

  -- what stands alone asks nothing more; what is reached stays reached
  pub alone_reached : (s : Table) (o : Other) → is_alone o ≡ true → OtherReached rows s o
  unfolding OtherReached
  alone_reached s alone e = tt
  alone_reached s (beside q b) e = absurd (unequal cc)

  pub other_up : (s u : Table) (o : Other) → Le s u → OtherReached rows s o → OtherReached rows u o
  unfolding OtherReached
  other_up s u alone a h = h
  other_up s u (beside q b) a h = ≤ℤ_trans h (reached-up s u q a)

  -- a conflict stays one
  pub conflict_up : (s u : Table) → Le s u → Conflict rows s → Conflict rows u
  conflict_up s u a (both n h k) = both n (a.sure n h) (a.never n k)
  conflict_up s u a (lower-above r i h) = lower-above r i (≤ℤ_<ℤ_trans (possible-up s u r a) (<ℤ-≤ℤ_trans h (a.lower r)))
  conflict_up s u a (upper-reached r i h) = upper-reached r i (at-most_up (u.upper r) (s.upper r) (a.upper r) (reached-up s u r a) h)

  -- a step only adds
  pub grows : (s t : Table) → Step rows s t → Le s t
  grows s t (sure-guard r g i e h) = lower_raised s r g.bound h
  grows s t (never-guard r g i e h) = upper_lowered s r (Some g.bound) h
  grows s t (bound-reached r g i h e) = sure_above s g.node
  grows s t (bound-out-of-reach r g i h e) = never_above s g.node
  grows s t (term-needed r x i d h) = sure_above s x.condition
  grows s t (term-too-heavy r x u i d e h) = never_above s x.condition
  grows s t (longer-lower r q i h) = lower_raised s q (s.lower r) h
  grows s t (shorter-upper r q i h) = upper_lowered s r (s.upper q) h

  -- WHAT A RULE CONCLUDES, every rest above has: else the rule holds there
  heavy : (s u : Table) (r : ℕ) (t : Term) (b : ℤ) → Le s u → AtRest rows u → HasTerm rows r t → Undecided rows s t.condition → s.upper r ≡ Some b
      → (b -ℤ known_of rows s r) ≤ℤ pos t.weight → (c : Option ℤ) → u.upper r ≡ c → UpLe c (Some b) → u.never t.condition ≡ true
  heavy s u r t b a rest i d e h None q l = absurd l
  heavy s u r t b a rest i d e h (Some c) q l =
      ⊎_elim (λ (n : u.never t.condition ≡ true). n)
      (λ (n : u.never t.condition ≡ false).
      ⊎_elim
      (λ (y : u.sure t.condition ≡ true).
      absurd (rest.0 (upper-reached r i.0 (subst (λ (z : Option ℤ). AtMost z (reached_of rows u r)) (sym q)
      (≤ℤ_trans (≤ℤ_trans l (heavy_clash (known s.sure (terms_of rows r)) (known u.sure (terms_of rows r)) t.weight b
      (known_rise s.sure u.sure (terms_of rows r) t a.sure i.1 d.0 y) h))
      (max_above (known_of rows u r) (u.lower r)))))))
      (λ (y : u.sure t.condition ≡ false).
      absurd (rest.1 (decide_never u t.condition) (term-too-heavy r t c i (y, n) q
      (≤ℤ_trans (sub_up l (pos_≤ℤ (known_up s.sure u.sure (terms_of rows r) a.sure))) h))))
      (true-false (u.sure t.condition)))
      (true-false (u.never t.condition))

  pub kept : (s t u : Table) → Step rows s t → Le s u → AtRest rows u → Le t u
  kept s t u (sure-guard r g i e h) a rest =
      lower_below s u r g.bound a
      (⊎_elim (λ (k : g.bound ≤ℤ u.lower r). k)
      (λ (k : u.lower r <ℤ g.bound). absurd (rest.1 (raise_lower u r g.bound) (sure-guard r g i (a.sure g.node e) k)))
      (≤ℤ_or_<ℤ g.bound (u.lower r)))
  kept s t u (never-guard r g i e h) a rest =
      upper_below s u r (Some g.bound) a
      (⊎_elim (λ (k : UpLe (u.upper r) (Some g.bound)). k)
      (λ (k : Below (Some g.bound) (u.upper r)). absurd (rest.1 (lower_upper u r (Some g.bound)) (never-guard r g i (a.never g.node e.0, other_up s u _ a e.1) k)))
      (le-or-below (u.upper r) (Some g.bound)))
  kept s t u (bound-reached r g i h e) a rest =
      sure_below s u g.node a
      (⊎_elim (λ (k : u.sure g.node ≡ true). k)
      (λ (k : u.sure g.node ≡ false). absurd (rest.1 (decide_sure u g.node) (bound-reached r g i (h.0, ≤ℤ_trans h.1 (reached-up s u r a), other_up s u _ a h.2) k)))
      (true-false (u.sure g.node)))
  kept s t u (bound-out-of-reach r g i h e) a rest =
      never_below s u g.node a
      (⊎_elim (λ (k : u.never g.node ≡ true). k)
      (λ (k : u.never g.node ≡ false).
      absurd (rest.1 (decide_never u g.node) (bound-out-of-reach r g i (
        h.0,
        ⊎_elim (λ (x : possible_of rows s r <ℤ g.bound). inl (≤ℤ_<ℤ_trans (possible-up s u r a) x))
            (λ (x : AtMost (s.upper r) g.bound). inr (at-most_up (u.upper r) (s.upper r) (a.upper r) (≤ℤ_refl g.bound) x)) h.1,
      ) k)))
      (true-false (u.never g.node)))
  kept s t u (term-needed r x i d h) a rest =
      sure_below s u x.condition a
      (⊎_elim (λ (k : u.sure x.condition ≡ true). k)
      (λ (k : u.sure x.condition ≡ false).
      ⊎_elim
      (λ (y : u.never x.condition ≡ true).
      absurd (rest.0 (lower-above r i.0 (<ℤ-≤ℤ_trans
      (needed_clash (possible s.never (terms_of rows r)) (possible u.never (terms_of rows r)) x.weight (s.lower r)
      (possible-drop s.never u.never (terms_of rows r) x a.never i.1 d.1 y) h)
      (a.lower r)))))
      (λ (y : u.never x.condition ≡ false).
      absurd (rest.1 (decide_sure u x.condition) (term-needed r x i (k, y) (≤ℤ_<ℤ_trans (sub_up (possible-up s u r a) (a.lower r)) h))))
      (true-false (u.never x.condition)))
      (true-false (u.sure x.condition)))
  kept s t u (term-too-heavy r x b i d e h) a rest =
      never_below s u x.condition a
      (heavy s u r x b a rest i d e h (u.upper r) refl (subst (λ (z : Option ℤ). UpLe (u.upper r) z) e (a.upper r)))
  kept s t u (longer-lower r q i h) a rest =
      lower_below s u q (s.lower r) a
      (≤ℤ_trans (a.lower r)
      (⊎_elim (λ (k : u.lower r ≤ℤ u.lower q). k)
      (λ (k : u.lower q <ℤ u.lower r). absurd (rest.1 (raise_lower u q (u.lower r)) (longer-lower r q i k)))
      (≤ℤ_or_<ℤ (u.lower r) (u.lower q))))
  kept s t u (shorter-upper r q i h) a rest =
      upper_below s u r (s.upper q) a
      (up_trans (u.upper r) (u.upper q) (s.upper q)
      (⊎_elim (λ (k : UpLe (u.upper r) (u.upper q)). k)
      (λ (k : Below (u.upper q) (u.upper r)). absurd (rest.1 (lower_upper u r (u.upper q)) (shorter-upper r q i k)))
      (le-or-below (u.upper r) (u.upper q)))
      (a.upper q))

  -- RUNS

  pub run_above : {s t : Table} → Run rows s t → Le s t
  run_above (done {s}) = le_same s
  run_above (more {s} {t} {u} n a r) = le_then s t u (grows s t a) (run_above r)

  -- a run stays below every rest above its start
  pub run_below : {s t : Table} (u : Table) → Run rows s t → Le s u → AtRest rows u → Le t u
  run_below u done h rest = h
  run_below u (more {s} {t} n a r) h rest = run_below u r (kept s t u a h rest) rest

  -- ONE END: two runs from one start that went on to their ends both end in a conflict, or in the same state
  pub one_end : {s t u : Table} → Ended rows s t → Ended rows s u → (Conflict rows t × Conflict rows u) ⊎ (t ≡ u)
  one_end {s} {t} {u} a b = by a.1 b.1
    where
      by : Conflict rows t ⊎ AtRest rows t → Conflict rows u ⊎ AtRest rows u → (Conflict rows t × Conflict rows u) ⊎ (t ≡ u)
      by (inl x) (inl y) = inl (x, y)
      by (inl x) (inr y) = absurd (y.0 (conflict_up t u (run_below u a.0 (run_above b.0) y) x))
      by (inr x) (inl y) = absurd (x.0 (conflict_up u t (run_below t b.0 (run_above a.0) x) y))
      by (inr x) (inr y) = inr (le_both t u (run_below u a.0 (run_above b.0) y) (run_below t b.0 (run_above a.0) x))

  -- FOLLOWS: t lies below every rest above s. It needs no run, and is kept when the start grows
  abbrev pub Follows : Table → Table → Type 0
  Follows s t = (u : Table) → Le s u → AtRest rows u → Le t u

  pub follows_start : (s : Table) → Follows s s
  follows_start s u h rest = h

  pub follows_more : (s s' t : Table) → Le s s' → Follows s t → Follows s' t
  follows_more s s' t l f u h rest = f u (le_then s s' u l h) rest

  pub follows_step : (s t t' : Table) → Follows s t → Step rows t t' → Follows s t'
  follows_step s t t' f a u h rest = kept t t' u a (f u h rest) rest

  -- a rest that follows from the start is where every run from it ends
  pub only_end : {s t u : Table} → Follows s t → Le s t → AtRest rows t → Ended rows s u → u ≡ t
  only_end {s} {t} {u} f l rest e = by e.1
    where
      by : Conflict rows u ⊎ AtRest rows u → u ≡ t
      by (inl x) = absurd (rest.0 (conflict_up u t (run_below t e.0 l rest) x))
      by (inr x) = le_both u t (run_below t e.0 l rest) (f u (run_above e.0) x)

  -- and where a conflict follows from it, every run ends in one
  pub only_conflict : {s t u : Table} → Follows s t → Conflict rows t → Ended rows s u → Conflict rows u
  only_conflict {s} {t} {u} f c e = by e.1
    where
      by : Conflict rows u ⊎ AtRest rows u → Conflict rows u
      by (inl x) = x
      by (inr x) = absurd (x.0 (conflict_up t u (f u (run_above e.0) x) c))
