-- Forcing is sound: a layout that agrees with the decided nodes, and whose sum of the row is allowed, agrees with every node
-- that a residual decides, and then there is no contradiction.
use Prim.Native.Nat.{ℕ, ◌+◌, ◌-◌, ◌≤◌, ◌∣◌}
use Rattle.std.proofs.Math.Nat.{dvd_refl, dvd-zero, dvd-add, dvd_trans}
use Rattle.std.proofs.Math.Decide.{ℕ_discrete}
use Rattle.std.proofs.Common.{arith, sym, ap, ap₂, ◌∙◌, subst, le-leb}
use Rattle.std.specs.Prelude.{◌≡◌, Bool, true, false, cond, ◌&&◌, ◌||◌, not, ◌≢◌, length, get_or, pos}
use Rattle.std.proofs.Math.Path.{refl}
use mathlib.Core.List.{List, [], ◌∷◌, ◌++◌, reverse, reverse-append, append_assoc}
use Rattle.std.proofs.lemmas.List.{length-reverse}
use Rattle.std.specs.Int.Signed.{le_z, lt_z}
use Rattle.base.specs.All.{All}
use Rattle.base.specs.TestLaws.{and_right}
use Rattle.state.specs.StepLaws.{joined_fine}
use Rattle.base.specs.Signed.{natural}
use Rattle.numeric.specs.Threshold.{Term}
use Rattle.state.specs.declared.Step.{Step}
use Rattle.state.specs.declared.Step.TheVariants.{Unchanged, Changed, Contradiction}
use Rattle.state.specs.declared.State.{State}
use Rattle.state.specs.Step.{joined, contradicts}
use Rattle.state.specs.State.{limit, upper_at_most, has_residual_interval}
use Rattle.words.specs.Mask.{bit}
use Rattle.queues.specs.Marks.{Marks, is_decided, Decided, decide, mask}
use Rattle.queues.proofs.MarksLaws.{decide_there, decide_new, decide_other, decide_opposite}
use Rattle.row.specs.TermsLaws as Terms
use Rattle.rows.specs.Rows.{has_nonunit}
use Rattle.intervals.specs.declared.Interval.{Interval}
use Rattle.divisors.specs.Gcd.{gcd}
use Rattle.divisors.specs.GcdLaws.{chosen, gcd-left, gcd_right}
use Rattle.misses.specs.MissesLaws.{clash, branch_sum}
use Rattle.intervals.specs.Residual.{interval, residual_check, fits_from, suffix_from, suffixes, placed, off_misses, on_misses, force_term, force_from, Residual, over, nothing_forced, threshold_residual}
use Rattle.intervals.specs.IntervalLaws.{natural_mono, natural_last, limit_above}
use Rattle.intervals.proofs.ForceLaws.{force-cases, Each, residual_keeping, from_skip, from_more, force-over, residual_rest, residual-forced}
use Rattle.intervals.specs.SuffixLaws.{length_suffix}
use Rattle.intervals.specs.SumsLaws.{
  open_weights,
  choices,
  open_sum,
  sum,
  Divides,
  open_skip,
  open_more,
  sum_skip,
  sum_on,
  sum_off,
  choices_sum,
  chosen-le,
  divides_chosen,
  divides_less,
  divides_reverse,
  open_reverse,
}
use Rattle.intervals.specs.ResidualLaws.{residual-check_sound}

-- ---- what the suffixes divide

-- The gcd of a number and the undecided weights, in the order of the list.
unfoldable pub folded : (ℕ → Bool) → List Term → ℕ → ℕ
folded d [] s = s
folded d (t ∷ ts) s = folded d ts (cond (d t.condition) s (gcd s t.weight))

pub suffix_at : (d : ℕ → Bool) (xs ys : List Term) (s : ℕ) → get_or (suffix_from d (xs ++ ys) s) (length xs) 0 ≡ folded d xs s
unfolding suffix_from folded
suffix_at d [] [] s = refl
suffix_at d [] (y ∷ ys) s = refl
suffix_at d (x ∷ xs) ys s = suffix_at d xs ys (cond (d x.condition) s (gcd s x.weight))

pub folded_divides : (d : ℕ → Bool) (ts : List Term) (s : ℕ) → (folded d ts s ∣ s) × Divides (folded d ts s) (open_weights d ts)
unfolding folded open_weights
folded_divides d [] s = (dvd_refl s, tt)
folded_divides d (t ∷ ts) s = by (λ (x : ℕ). folded_divides d ts x) (d t.condition) refl
  where
    by : ((x : ℕ) → (folded d ts x ∣ x) × Divides (folded d ts x) (open_weights d ts)) → (b : Bool) → d t.condition ≡ b
        → (folded d (t ∷ ts) s ∣ s) × Divides (folded d (t ∷ ts) s) (open_weights d (t ∷ ts))
    by ih true e = rw (e, folded, open_weights) (ih s)
    by ih false e =
        let g = folded d ts (gcd s t.weight) in
        let r = ih (gcd s t.weight) in
        rw (e, folded, open_weights) (dvd_trans g r.0 (gcd-left s t.weight), (dvd_trans g r.0 (gcd_right s t.weight), r.1))

-- What stands for the terms behind a term divides their undecided weights.
abbrev Suffixed : (ℕ → ℕ) → (ℕ → Bool) → List Term → Type 0
Suffixed behind d [] = Unit {0}
Suffixed behind d (t ∷ ts) = Divides (behind (length ts)) (open_weights d ts) × Suffixed behind d ts

behind_divides : (d : ℕ → Bool) (zs ts : List Term) → Divides (get_or (suffixes d (zs ++ ts)) (length ts) 0) (open_weights d ts)
behind_divides d zs ts =
    let e : get_or (suffixes d (zs ++ ts)) (length ts) 0 ≡ folded d (reverse ts) 0 =
    ap₂ (λ (l : List Term) (k : ℕ). get_or (suffix_from d l 0) k 0) (reverse-append zs ts) (sym (length-reverse ts)) ∙ suffix_at d (reverse ts) (reverse zs) 0
    in
    rw e
    (divides_reverse (folded d (reverse ts) 0) (open_weights d ts)
    (subst (Divides (folded d (reverse ts) 0)) (open_reverse d ts) (folded_divides d (reverse ts) 0).1))

suffixed : (d : ℕ → Bool) (all zs ts : List Term) → zs ++ ts ≡ all → Suffixed (placed (suffixes d all)) d ts
suffixed d all zs [] e = tt
suffixed d all zs (t ∷ ts) e =
    let q : (zs ++ (t ∷ [])) ++ ts ≡ all = append_assoc zs (t ∷ []) ts ∙ e in (
      subst (λ (l : List Term). Divides (get_or (suffixes d l) (length ts) 0) (open_weights d ts)) q (behind_divides d (zs ++ (t ∷ [])) ts),
      suffixed d all (zs ++ (t ∷ [])) ts q,
    )

-- ---- layouts

-- A layout agrees with the decided nodes.
abbrev pub Agrees : (ℕ → Bool) → Marks → Type 0
Agrees v m = (b : Bool) (n : ℕ) → bit (mask b m) n ≡ true → v n ≡ b

-- It agrees with what was done, and that is no contradiction.
abbrev pub Kept : (ℕ → Bool) → Decided → Type 0
Kept v r = Agrees v r.marks × (contradicts r.step ≡ false)

apart : (b c : Bool) → c ≢ b → not b ≡ c
apart true true h = absurd (h refl)
apart true false h = refl
apart false true h = refl
apart false false h = absurd (h refl)

same_bool : (b c : Bool) → Dec (c ≡ b)
same_bool true true = yes refl
same_bool true false = no (λ e. clash (sym e))
same_bool false true = no clash
same_bool false false = yes refl

-- Deciding a node as the layout has it keeps the agreement.
pub decide-kept : (v : ℕ → Bool) (b : Bool) (m : Marks) (n : ℕ) → v n ≡ b → Agrees v m → Kept v (decide b m n)
decide-kept v b m n e a = (λ c k h. at c k (ℕ_discrete k n) (same_bool b c) h, step (bit (mask b m) n) refl (bit (mask (not b) m) n) refl)
  where
    at : (c : Bool) (k : ℕ) → Dec (k ≡ n) → Dec (c ≡ b) → bit (mask c (decide b m n).marks) k ≡ true → v k ≡ c
    at c k (no d) s h = a c k (sym (decide_other b m n c k d) ∙ h)
    at c k (yes d) (yes s) h = ap v d ∙ e ∙ sym s
    at c k (yes d) (no s) h =
        a c k
        (subst (λ (x : Bool). bit (mask x m) k ≡ bit (mask x (decide b m n).marks) k) (apart b c s)
        (ap (λ (l : List ℕ). bit l k) (sym (decide_opposite b m n))) ∙ h)

    differ : (x : Bool) → x ≡ not x → ⊥
    differ true q = clash q
    differ false q = clash (sym q)

    step : (x : Bool) → bit (mask b m) n ≡ x → (y : Bool) → bit (mask (not b) m) n ≡ y → contradicts (decide b m n).step ≡ false
    step true x y q = ap (λ (r : Decided). contradicts r.step) (decide_there b m n x)
    step false x true q = absurd (differ b (sym e ∙ a (not b) n q))
    step false x false q = ap (λ (r : Decided). contradicts r.step) (decide_new b m n x q)

-- So does forcing a term, where a branch that misses is not the layout's.
force-kept : (v : ℕ → Bool) (i : Interval) (m : Marks) (t : Term) (divisor : ℕ) → Agrees v m
    → (off_misses i t.weight divisor ≡ true → v t.condition ≡ false → ⊥)
    → (on_misses i t.weight divisor ≡ true → v t.condition ≡ true → ⊥) → Kept v (force_term i m t divisor)
force-kept v i m t divisor a off on =
    force-cases (Kept v) i m t divisor (a, refl) (λ f g. absurd (none f g (v t.condition) refl))
    (λ f. decide-kept v true m t.condition (is_true f (v t.condition) refl) a)
    (λ g. decide-kept v false m t.condition (is_false g (v t.condition) refl) a)
  where
    none : off_misses i t.weight divisor ≡ true → on_misses i t.weight divisor ≡ true → (b : Bool) → v t.condition ≡ b → ⊥
    none f g true e = on g e
    none f g false e = off f e

    is_true : off_misses i t.weight divisor ≡ true → (b : Bool) → v t.condition ≡ b → v t.condition ≡ true
    is_true f true e = e
    is_true f false e = absurd (off f e)

    is_false : on_misses i t.weight divisor ≡ true → (b : Bool) → v t.condition ≡ b → v t.condition ≡ false
    is_false g true e = absurd (on g e)
    is_false g false e = e

-- No other node is decided by it.
decide_rest : (b : Bool) (m : Marks) (n k : ℕ) → k ≢ n → is_decided (decide b m n).marks k ≡ is_decided m k
decide_rest b m n k d = ap₂ ◌||◌ (decide_other b m n true k d) (decide_other b m n false k d)

force_rest : (i : Interval) (m : Marks) (t : Term) (divisor k : ℕ) → k ≢ t.condition → is_decided (force_term i m t divisor).marks k ≡ is_decided m k
force_rest i m t divisor k d =
    force-cases (λ (r : Decided). is_decided r.marks k ≡ is_decided m k) i m t divisor refl (λ f g. refl)
    (λ f. decide_rest true m t.condition k d) (λ g. decide_rest false m t.condition k d)

-- ---- all terms of a row

-- The node is no condition of the list; the conditions of the list are distinct.
abbrev pub Fresh : ℕ → List Term → Type 0
Fresh n [] = Unit {0}
Fresh n (t ∷ ts) = (t.condition ≢ n) × Fresh n ts

abbrev pub Distinct : List Term → Type 0
Distinct [] = Unit {0}
Distinct (t ∷ ts) = Fresh t.condition ts × Distinct ts

-- the same of the terms of a row
fresh_in : (n : ℕ) (ts : List Term) → All (λ (u : Term). u.condition ≡ n → ⊥) ts → Fresh n ts
fresh_in n [] h = tt
fresh_in n (t ∷ ts) h = (h.0, fresh_in n ts h.1)

pub distinct_in : (ts : List Term) → Terms.Distinct ts → Distinct ts
distinct_in [] h = tt
distinct_in (t ∷ ts) h = (fresh_in t.condition ts h.0, distinct_in ts h.1)

-- The marks decide the same of these terms as d, which tells what was decided before the batch.
abbrev Same : Marks → (ℕ → Bool) → List Term → Type 0
Same m d [] = Unit {0}
Same m d (t ∷ ts) = (is_decided m t.condition ≡ d t.condition) × Same m d ts

same_start : (m : Marks) (ts : List Term) → Same m (is_decided m) ts
same_start m [] = tt
same_start m (t ∷ ts) = (refl, same_start m ts)

same_forced : (i : Interval) (m : Marks) (t : Term) (divisor : ℕ) (d : ℕ → Bool) (ts : List Term) → Fresh t.condition ts → Same m d ts
    → Same (force_term i m t divisor).marks d ts
same_forced i m t divisor d [] f s = tt
same_forced i m t divisor d (u ∷ ts) f s =
    (force_rest i m t divisor u.condition f.0 ∙ s.0, same_forced i m t divisor d ts f.1 s.1)

module _ (i : Interval) (behind : ℕ → ℕ) (d v : ℕ → Bool) where
  -- x is what the layout takes of the undecided weights before, y all of them. The sum of the row is allowed.
  pub record Allowed (ts : List Term) (prefix x y : ℕ) : Type 0 where
    pub multiple : prefix ∣ x
    pub part : x ≤ y
    pub drained : i.possible ≡ i.known + (y + sum (open_weights d ts))
    pub lower : i.lower ≤ i.known + (x + open_sum d v ts)
    pub upper : i.known + (x + open_sum d v ts) ≤ i.upper

  abbrev Sound : List Term → Type 0
  Sound ts = (prefix x y : ℕ) (m : Marks) (step : Step) → Distinct ts → Same m d ts → Suffixed behind d ts → Allowed ts prefix x y → Agrees v m
      → contradicts step ≡ false → Kept v (force_from i behind ts prefix m step)

  sound-turn : (t : Term) (ts : List Term) → Sound ts → Sound (t ∷ ts)
  unfolding sum
  sound-turn t ts ih prefix x y m step u s f a g c = by (d t.condition) refl
    where
      divisor : ℕ
      divisor = gcd prefix (behind (length ts))

      taken : ℕ
      taken = open_sum d v ts

      small : taken ≤ sum (open_weights d ts)
      small = omega (arith, choices_sum d v ts, chosen-le (choices d v ts) (open_weights d ts))

      divides-rest : divisor ∣ x + taken
      divides-rest =
          dvd-add divisor (dvd_trans divisor (gcd-left prefix (behind (length ts))) a.multiple)
          (subst (λ (n : ℕ). divisor ∣ n) (choices_sum d v ts)
          (divides_chosen divisor (choices d v ts) (open_weights d ts)
          (divides_less divisor (behind (length ts)) (open_weights d ts) (gcd_right prefix (behind (length ts))) f.0)))

      skipped : d t.condition ≡ true → Kept v (force_from i behind (t ∷ ts) prefix m step)
      skipped k =
          let o = open_skip d t ts k in
          let n = sum_skip d t ts v k in
          rw (from_skip i behind t ts prefix m step (s.0 ∙ k))
          (ih prefix x y m step u.1 s.1 f.1
          (record {
            multiple = a.multiple;
            part = a.part;
            drained = a.drained ∙ ap (λ (l : List ℕ). i.known + (y + sum l)) o;
            lower = subst (λ (z : ℕ). i.lower ≤ i.known + (x + z)) n a.lower;
            upper = subst (λ (z : ℕ). i.known + (x + z) ≤ i.upper) n a.upper;
          })
          g c)

      total : d t.condition ≡ false → i.possible ≡ i.known + (y + (t.weight + sum (open_weights d ts)))
      total k = a.drained ∙ ap (λ (l : List ℕ). i.known + (y + sum l)) (open_more d t ts k)

      off : d t.condition ≡ false → off_misses i t.weight divisor ≡ true → v t.condition ≡ false → ⊥
      off k e z =
          let n = sum_off d t ts v k z in
          branch_sum i.known (i.possible - t.weight) i.lower i.upper divisor (x + taken) e divides-rest
          (subst (λ (w : ℕ). i.lower ≤ i.known + (x + w)) n a.lower) (subst (λ (w : ℕ). i.known + (x + w) ≤ i.upper) n a.upper)
          (omega (arith, total k, small, a.part))

      on : d t.condition ≡ false → on_misses i t.weight divisor ≡ true → v t.condition ≡ true → ⊥
      on k e z =
          let n = sum_on d t ts v k z in
          branch_sum (i.known + t.weight) i.possible i.lower i.upper divisor (x + taken) e divides-rest
          (omega (arith, a.lower, n)) (omega (arith, a.upper, n)) (omega (arith, total k, small, a.part))

      next : d t.condition ≡ false → (b : Bool) → v t.condition ≡ b → Allowed ts (gcd prefix t.weight) (x + cond b t.weight 0) (y + t.weight)
      next k true z = record {
        multiple = dvd-add (gcd prefix t.weight) (dvd_trans (gcd prefix t.weight) (gcd-left prefix t.weight) a.multiple) (gcd_right prefix t.weight);
        part = omega (arith, a.part);
        drained = total k ∙ omega arith;
        lower = omega (arith, a.lower, sum_on d t ts v k z);
        upper = omega (arith, a.upper, sum_on d t ts v k z);
      }
      next k false z = record {
        multiple = dvd-add (gcd prefix t.weight) (dvd_trans (gcd prefix t.weight) (gcd-left prefix t.weight) a.multiple) (dvd-zero (gcd prefix t.weight));
        part = omega (arith, a.part);
        drained = total k ∙ omega arith;
        lower = omega (arith, a.lower, sum_off d t ts v k z);
        upper = omega (arith, a.upper, sum_off d t ts v k z);
      }

      forced : d t.condition ≡ false → Kept v (force_from i behind (t ∷ ts) prefix m step)
      forced k =
          let r = force-kept v i m t divisor g (off k) (on k) in
          let b = v t.condition in
          rw (from_more i behind t ts prefix m step (s.0 ∙ k) (force_term i m t divisor) refl r.1)
          (ih (gcd prefix t.weight) (x + cond b t.weight 0) (y + t.weight) (force_term i m t divisor).marks (joined step (force_term i m t divisor).step)
          u.1 (same_forced i m t divisor d ts u.0 s.1) f.1 (next k b refl) r.0 (joined_fine step (force_term i m t divisor).step c r.1))

      by : (b : Bool) → d t.condition ≡ b → Kept v (force_from i behind (t ∷ ts) prefix m step)
      by true k = skipped k
      by false k = forced k

  pub force_sound : (ts : List Term) → Sound ts
  unfolding force_from
  force_sound [] = λ prefix x y m step u s f a g c. (g, c)
  force_sound (t ∷ ts) = sound-turn t ts (force_sound ts)

-- THE RESIDUAL OF A DRAINED ROW IS SOUND. The conditions are distinct, known is the sum of the weights decided sure and
-- possible that and all undecided ones; v agrees with the decided nodes, and its sum of the row is at least lower and below
-- upper. Then v agrees with the marks after, and the answer is no contradiction.
pub residual_sound : (ts : List Term) (s : State) (m : Marks) (gcds : List ℕ) (v : ℕ → Bool) (k : ℕ) → Distinct ts → Agrees v m
    → s.known ≡ pos k → s.possible ≡ pos (k + sum (open_weights (is_decided m) ts))
    → le_z s.lower (pos (k + open_sum (is_decided m) v ts)) ≡ true → upper_at_most s.upper (pos (k + open_sum (is_decided m) v ts)) ≡ false
    → Agrees v (threshold_residual ts s m gcds).marks × (contradicts (threshold_residual ts s m gcds).step ≡ false)
unfolding has_residual_interval
residual_sound ts s m gcds v k u g e p l h = by (contradicts (residual_check ts s d)) refl
  where
    d : ℕ → Bool
    d = is_decided m

    σ : ℕ
    σ = k + open_sum d v ts

    small : open_sum d v ts ≤ sum (open_weights d ts)
    small = omega (arith, choices_sum d v ts, chosen-le (choices d v ts) (open_weights d ts))

    contradiction : (x : Step) → contradicts x ≡ true → x ≡ Contradiction
    contradiction Unchanged q = absurd (clash (sym q))
    contradiction Changed q = absurd (clash (sym q))
    contradiction Contradiction q = refl

    none : contradicts (residual_check ts s d) ≡ true → ⊥
    none q =
        let c = choices_sum d v ts in
        let w : pos (k + chosen (choices d v ts) (open_weights d ts)) ≡ pos σ = ap (λ (n : ℕ). pos (k + n)) c in
        residual-check_sound ts s d (contradiction (residual_check ts s d) q) k e (choices d v ts)
        (ap₂ le_z w p ∙ le-leb σ (k + sum (open_weights d ts)) (omega (arith, small)))
        (ap (le_z s.lower) w ∙ l) (ap (upper_at_most s.upper) w ∙ h)

    split : (a b : Bool) → (not a || b) ≡ false → a ≡ true
    split true b q = refl
    split false b q = absurd (clash q)

    allowed : nothing_forced ts s d ≡ false → Allowed (interval s) (placed (suffixes d ts)) d v ts 0 0 0
    allowed q =
        let r = and_right (has_nonunit ts) (has_residual_interval s) (split (has_nonunit ts && has_residual_interval s) (fits_from (interval s) d (reverse ts) false 0) q) in
        let lim = limit_above s.upper s.possible (pos σ) (and_right (lt_z s.known s.lower) (upper_at_most s.upper s.possible) r) h in
        let n : natural s.known ≡ k = ap natural e in
        let t : natural s.possible ≡ k + sum (open_weights d ts) = ap natural p in
        record {
          multiple = dvd-zero 0;
          part = omega arith;
          drained = omega (arith, n, t);
          lower = omega (arith, natural_mono s.lower (pos σ) l, n);
          upper = omega (arith, natural_last (pos σ) (limit s.upper) lim, n);
        }

    forced : contradicts (residual_check ts s d) ≡ false → (b : Bool) → nothing_forced ts s d ≡ b
        → Agrees v (threshold_residual ts s m gcds).marks × (contradicts (threshold_residual ts s m gcds).step ≡ false)
    forced c true q = rw (residual_rest ts s m gcds c q) (g, refl)
    forced c false q =
        let f = force_from (interval s) (placed (suffixes d ts)) ts 0 m Unchanged in
        let w = force_sound (interval s) (placed (suffixes d ts)) d v ts 0 0 0 m Unchanged u (same_start m ts) (suffixed d ts [] ts refl) (allowed q) g refl in
        let n = length_suffix d (reverse ts) 0 in
        let r = length-reverse ts in
        let o = force-over (interval s) (suffixes d ts) gcds ts 0 m Unchanged (omega arith) in
        subst (λ (z : Residual). Agrees v z.marks × (contradicts z.step ≡ false))
        (residual-forced ts s m gcds c q f (over (suffixes d ts) gcds) refl (sym o)) w

    by : (b : Bool) → contradicts (residual_check ts s d) ≡ b
        → Agrees v (threshold_residual ts s m gcds).marks × (contradicts (threshold_residual ts s m gcds).step ≡ false)
    by true q = absurd (none q)
    by false q = forced q (nothing_forced ts s d) refl

-- ---- what is decided stays decided

abbrev pub Keeps : Marks → Marks → Type 0
Keeps m n = (b : Bool) (k : ℕ) → bit (mask b m) k ≡ true → bit (mask b n) k ≡ true

decide_keeps : (b : Bool) (m : Marks) (n : ℕ) → Keeps m (decide b m n).marks
decide_keeps b m n c k h = by (ℕ_discrete k n) (same_bool b c)
  where
    by : Dec (k ≡ n) → Dec (c ≡ b) → bit (mask c (decide b m n).marks) k ≡ true
    by (no d) s = decide_other b m n c k d ∙ h
    by (yes d) (yes s) =
        let there : bit (mask b m) n ≡ true = ap₂ (λ (x : Bool) (y : ℕ). bit (mask x m) y) (sym s) (sym d) ∙ h in
        ap (λ (r : Decided). bit (mask c r.marks) k) (decide_there b m n there) ∙ h
    by (yes d) (no s) =
        subst (λ (x : Bool). bit (mask x (decide b m n).marks) k ≡ bit (mask x m) k) (apart b c s) (ap (λ (l : List ℕ). bit l k) (decide_opposite b m n)) ∙ h

force_keeps : (i : Interval) (m : Marks) (t : Term) (divisor : ℕ) → Keeps m (force_term i m t divisor).marks
force_keeps i m t divisor =
    force-cases (λ (r : Decided). Keeps m r.marks) i m t divisor (λ b k h. h) (λ f g b k h. h) (λ f. decide_keeps true m t.condition)
    (λ g. decide_keeps false m t.condition)

all_terms_lem : (ts : List Term) → Each (λ (t : Term). Unit {0}) ts
all_terms_lem [] = tt
all_terms_lem (t ∷ ts) = (tt, all_terms_lem ts)

pub residual_keeps : (ts : List Term) (s : State) (m : Marks) (gcds : List ℕ) → Keeps m (threshold_residual ts s m gcds).marks
residual_keeps ts s m gcds b k h =
    residual_keeping (λ (t : Term). Unit {0}) (λ (n : Marks). bit (mask b n) k ≡ true)
    (λ (i : Interval) (n : Marks) (t : Term) (divisor : ℕ) q g. force_keeps i n t divisor b k g) ts s m gcds (all_terms_lem ts) h
