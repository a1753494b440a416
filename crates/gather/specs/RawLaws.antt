-- The words of the raw buffers: what they hold of a job is what they hold of the job with a threshold, a term or another weight, but for that one.
use Prim.Native.Nat.{ℕ, zero, suc, ◌+◌, ◌-◌, ◌<◌, ◌≤◌}
use Rattle.std.proofs.Common.{not-suc-le-zero, ◌∙◌, length-append, length-set}
use native.Mathlib.Omega.{arith}
use Rattle.std.specs.Prelude.{◌≡◌, get_or, drop, ℤ}
use Rattle.std.proofs.Math.Path.{refl, sym, ap, ap₂}
use mathlib.Core.List.{List, [], ◌∷◌, ◌++◌, map, append-nil, append_assoc}
use Rattle.std.proofs.Math.ListN.{length, set, length-map}
use Rattle.memory.specs.Buffers.{Raw, raw_lists, raw}
use Rattle.base.specs.Laid.{over, join_all, ends, pairs}
use Rattle.numeric.specs.Threshold.{Term, term, Threshold, Job}
use Rattle.rows.specs.Laid.{conditions, weights}
use Rattle.job.specs.JobBuffers.{raw_of}
use Rattle.job.specs.Job.{last_node_of, last_list, all_terms, on_last, add_term}
use Rattle.job.specs.JobLaws.{map_end}
use Rattle.job.specs.Taken.{with_threshold, with_term, weighing, with_weight}

-- ---- laid in front of a buffer

pub over_more : {X : Type 0} (l b : List X) (x : X) → length l < length b → set (over l b) (length l) x ≡ over (l ++ (x ∷ [])) b
over_more [] [] x h = absurd (not-suc-le-zero h)
over_more [] (y ∷ b) x h = refl
over_more (z ∷ l) [] x h = absurd (not-suc-le-zero h)
over_more (z ∷ l) (y ∷ b) x h = ap (λ (r : List _). z ∷ r) (over_more l b x (omega arith))

set_front : {X : Type 0} (l r : List X) (i : ℕ) (x : X) → i < length l → set (l ++ r) i x ≡ set l i x ++ r
set_front [] r i x h = absurd (not-suc-le-zero h)
set_front (y ∷ l) r zero x h = refl
set_front (y ∷ l) r (suc i) x h = ap (λ (s : List _). y ∷ s) (set_front l r i x (omega arith))

-- ---- the terms

abbrev lists : List Threshold → List (List Term)
lists ts = map (λ (t : Threshold). t.terms) ts

lists_more : (ts : List Threshold) (n : ℕ) (b : ℤ) → join_all (lists (ts ++ (record { node = n; bound = b; terms = [] } ∷ []))) ≡ join_all (lists ts)
unfolding join_all
lists_more [] n b = refl
lists_more (t ∷ ts) n b = ap (λ (r : List Term). t.terms ++ r) (lists_more ts n b)

lists_added : (x : Term) (ts : List Threshold) → 0 < length ts → join_all (lists (add_term x ts)) ≡ join_all (lists ts) ++ (x ∷ [])
unfolding join_all on_last
lists_added x [] h = absurd (not-suc-le-zero h)
lists_added x (t ∷ []) h = append-nil (t.terms ++ (x ∷ [])) ∙ ap (λ (l : List Term). l ++ (x ∷ [])) (sym (append-nil t.terms))
lists_added x (t ∷ u ∷ ts) h =
    ap (λ (r : List Term). t.terms ++ r) (lists_added x (u ∷ ts) (omega arith)) ∙ sym (append_assoc t.terms (join_all (lists (u ∷ ts))) (x ∷ []))

terms_long : (ts : List Threshold) → length (join_all (lists ts)) ≡ all_terms ts
unfolding join_all all_terms
terms_long [] = refl
terms_long (t ∷ ts) = let q = terms_long ts in let l = length-append t.terms (join_all (lists ts)) in omega (arith, q, l)

-- ---- the thresholds' entries

abbrev nodes : List Threshold → List ℕ
nodes ts = map (λ (t : Threshold). t.node) ts

abbrev entries : ℕ → List Threshold → List (List ℕ)
entries s ts = pairs (nodes ts) (ends s (lists ts))

entries_long : (s : ℕ) (ts : List Threshold) → length (entries s ts) ≡ length ts
unfolding pairs ends
entries_long s [] = refl
entries_long s (t ∷ ts) = ap suc (entries_long (s + length t.terms) ts)

entries_more : (s : ℕ) (ts : List Threshold) (n : ℕ) (b : ℤ)
    → entries s (ts ++ (record { node = n; bound = b; terms = [] } ∷ [])) ≡ entries s ts ++ ((n ∷ (s + all_terms ts) ∷ []) ∷ [])
unfolding pairs ends all_terms
entries_more s [] n b = refl
entries_more s (t ∷ ts) n b =
    ap (λ (r : List (List ℕ)). (t.node ∷ (s + length t.terms) ∷ []) ∷ r)
    (entries_more (s + length t.terms) ts n b
    ∙ ap (λ (e : ℕ). entries (s + length t.terms) ts ++ ((n ∷ e ∷ []) ∷ [])) {x = s + length t.terms + all_terms ts} {y = s + (length t.terms + all_terms ts)} (omega arith))

entries_added : (s : ℕ) (x : Term) (ts : List Threshold) (i : ℕ) → length ts ≡ suc i
    → entries s (add_term x ts) ≡ set (entries s ts) i (last_node_of ts ∷ (s + all_terms ts + 1) ∷ [])
unfolding pairs ends all_terms on_last last_node_of
entries_added s x [] i h = absurd (let z : ◌≡◌ {A = ℕ} 0 (suc i) = h in omega arith)
entries_added s x (t ∷ []) zero h =
    ap (λ (e : ℕ). (t.node ∷ e ∷ []) ∷ []) {x = s + length (t.terms ++ (x ∷ []))} {y = s + (length t.terms + 0) + 1}
    (let l = length-append t.terms (x ∷ []) in omega (arith, l))
entries_added s x (t ∷ []) (suc i) h = absurd (let z : ◌≡◌ {A = ℕ} 1 (suc (suc i)) = h in omega arith)
entries_added s x (t ∷ u ∷ ts) zero h = absurd (let z : ◌≡◌ {A = ℕ} (suc (suc (length ts))) 1 = h in omega arith)
entries_added s x (t ∷ u ∷ ts) (suc i) h =
    let m = s + length t.terms in
    ap (λ (r : List (List ℕ)). (t.node ∷ m ∷ []) ∷ r)
    (entries_added m x (u ∷ ts) i (let z : ◌≡◌ {A = ℕ} (suc (length (u ∷ ts))) (suc (suc i)) = h in omega arith)
    ∙ ap (λ (e : ℕ). set (entries m (u ∷ ts)) i (last_node_of (u ∷ ts) ∷ e ∷ [])) {x = m + all_terms (u ∷ ts) + 1} {y = s + (length t.terms + all_terms (u ∷ ts)) + 1} (omega arith))

bounds_on : (g : List Term → List Term) (us : List Threshold) → map (λ (t : Threshold). t.bound) us ≡ map (λ (t : Threshold). t.bound) (on_last g us)
unfolding on_last
bounds_on g [] = refl
bounds_on g (t ∷ []) = refl
bounds_on g (t ∷ u ∷ us) = ap (λ (l : List ℤ). t.bound ∷ l) (bounds_on g (u ∷ us))

-- ---- another weight in the last threshold

conditions-weighing : (i w : ℕ) (l : List Term) → map (λ (t : Term). t.condition) (weighing i w l) ≡ map (λ (t : Term). t.condition) l
conditions-weighing i w [] = refl
conditions-weighing zero w (t ∷ l) = refl
conditions-weighing (suc i) w (t ∷ l) = ap (λ (r : List ℕ). t.condition ∷ r) (conditions-weighing i w l)

weights-weighing : (i w : ℕ) (l : List Term) → map (λ (t : Term). t.weight) (weighing i w l) ≡ set (map (λ (t : Term). t.weight) l) i w
weights-weighing i w [] = refl
weights-weighing zero w (t ∷ l) = refl
weights-weighing (suc i) w (t ∷ l) = ap (λ (r : List ℕ). t.weight ∷ r) (weights-weighing i w l)

map_join : {X Y : Type 0} (f : X → Y) (l r : List X) → map f (l ++ r) ≡ map f l ++ map f r
map_join f [] r = refl
map_join f (x ∷ l) r = ap (λ (s : List _). f x ∷ s) (map_join f l r)

set-behind : {X : Type 0} (l r : List X) (i : ℕ) (x : X) → set (l ++ r) (length l + i) x ≡ l ++ set r i x
set-behind [] r i x = ap (λ (n : ℕ). set r n x) (let z : 0 + i ≡ i = omega arith in z)
set-behind (y ∷ l) r i x =
    ap (λ (n : ℕ). set (y ∷ (l ++ r)) n x) {x = length (y ∷ l) + i} {y = suc (length l + i)} (omega arith) ∙ ap (λ (s : List _). y ∷ s) (set-behind l r i x)

module _ (i w : ℕ) where
  conditions-same : (ts : List Threshold) → conditions (join_all (lists (on_last (weighing i w) ts))) ≡ conditions (join_all (lists ts))
  unfolding join_all on_last
  conditions-same [] = refl
  conditions-same (t ∷ []) =
      ap conditions (append-nil (weighing i w t.terms)) ∙ conditions-weighing i w t.terms ∙ ap conditions (sym (append-nil t.terms))
  conditions-same (t ∷ u ∷ ts) =
      map_join (λ (x : Term). x.condition) t.terms (join_all (lists (on_last (weighing i w) (u ∷ ts))))
      ∙ ap (λ (l : List ℕ). conditions t.terms ++ l) (conditions-same (u ∷ ts)) ∙ sym (map_join (λ (x : Term). x.condition) t.terms (join_all (lists (u ∷ ts))))

  weights-set : (ts : List Threshold) (start : ℕ) → start + length (last_list ts) ≡ all_terms ts → i < length (last_list ts)
      → weights (join_all (lists (on_last (weighing i w) ts))) ≡ set (weights (join_all (lists ts))) (start + i) w
  unfolding join_all on_last last_list all_terms
  weights-set [] start e h = absurd (not-suc-le-zero h)
  weights-set (t ∷ []) start e h =
      ap weights (append-nil (weighing i w t.terms)) ∙ weights-weighing i w t.terms
      ∙ ap₂ (λ (l : List Term) (n : ℕ). set (weights l) n w) (sym (append-nil t.terms)) (let z : i ≡ start + i = omega (arith, e) in z)
  weights-set (t ∷ u ∷ ts) start e h =
      let far = start - length t.terms in
      let f : Term → ℕ = λ x. x.weight in
      let long : length t.terms ≤ start = before (u ∷ ts) start e in
      map_join f t.terms (join_all (lists (on_last (weighing i w) (u ∷ ts))))
      ∙ ap (λ (l : List ℕ). weights t.terms ++ l) (weights-set (u ∷ ts) far (omega (arith, e, long)) h)
      ∙ sym (set-behind (weights t.terms) (weights (join_all (lists (u ∷ ts)))) (far + i) w)
      ∙ ap (λ (n : ℕ). set (weights t.terms ++ weights (join_all (lists (u ∷ ts)))) n w) (let m = length-map t.terms f in let z : length (weights t.terms) + (far + i) ≡ start + i = omega (arith, m, long) in z)
      ∙ ap (λ (l : List ℕ). set l (start + i) w) (sym (map_join f t.terms (join_all (lists (u ∷ ts)))))
    where
      last-few : (us : List Threshold) → length (last_list us) ≤ all_terms us
      last-few [] = omega arith
      last-few (v ∷ []) = omega arith
      last-few (v ∷ x ∷ us) = let q = last-few (x ∷ us) in omega (arith, q)

      before : (us : List Threshold) (s : ℕ) → s + length (last_list us) ≡ length t.terms + all_terms us → length t.terms ≤ s
      before us s q = let k = last-few us in omega (arith, q, k)

  entries_same : (s : ℕ) (ts : List Threshold) → entries s (on_last (weighing i w) ts) ≡ entries s ts
  unfolding pairs ends on_last
  entries_same s [] = refl
  entries_same s (t ∷ []) = ap (λ (n : ℕ). (t.node ∷ (s + n) ∷ []) ∷ []) (length-set t.terms i (term (get_or t.terms i (term 0 0)).condition w))
  entries_same s (t ∷ u ∷ ts) = ap (λ (r : List (List ℕ)). (t.node ∷ (s + length t.terms) ∷ []) ∷ r) (entries_same (s + length t.terms) (u ∷ ts))

-- ---- THE RAW BUFFERS

module _ (j : Job) (w : Raw) where
  abbrev held : Raw
  held = raw_of j w

  pub raw_opened : (n : ℕ) (b : ℤ) → length j.thresholds < length w.lists.thresholds → length j.thresholds < length w.bounds
      → raw (raw_lists held.lists.raw-conditions held.lists.raw-weights (set held.lists.thresholds (length j.thresholds) (n ∷ all_terms j.thresholds ∷ [])))
      (set held.bounds (length j.thresholds) b)
      ≡ raw_of (with_threshold j n b) w
  unfolding raw_of
  raw_opened n b h k = λ i. raw (raw_lists (cs i) (ws i) (es i)) (bs i)
    where
      ts : List Threshold
      ts = j.thresholds

      one : Threshold
      one = record { node = n; bound = b; terms = [] }

      cs : over (conditions (join_all (lists ts))) w.lists.raw-conditions ≡ over (conditions (join_all (lists (ts ++ (one ∷ []))))) w.lists.raw-conditions
      cs = ap (λ (l : List Term). over (conditions l) w.lists.raw-conditions) (sym (lists_more ts n b))

      ws : over (weights (join_all (lists ts))) w.lists.raw-weights ≡ over (weights (join_all (lists (ts ++ (one ∷ []))))) w.lists.raw-weights
      ws = ap (λ (l : List Term). over (weights l) w.lists.raw-weights) (sym (lists_more ts n b))

      es : set (over (entries 0 ts) w.lists.thresholds) (length ts) (n ∷ all_terms ts ∷ []) ≡ over (entries 0 (ts ++ (one ∷ []))) w.lists.thresholds
      es =
          let e = entries_long 0 ts in
          ap (λ (m : ℕ). set (over (entries 0 ts) w.lists.thresholds) m (n ∷ all_terms ts ∷ [])) (sym e)
          ∙ over_more (entries 0 ts) w.lists.thresholds (n ∷ all_terms ts ∷ []) (omega (arith, e, h))
          ∙ ap (λ (l : List (List ℕ)). over l w.lists.thresholds)
          (ap (λ (m : ℕ). entries 0 ts ++ ((n ∷ m ∷ []) ∷ [])) {x = all_terms ts} {y = 0 + all_terms ts} (omega arith) ∙ sym (entries_more 0 ts n b))

      bs : set (over (map (λ (t : Threshold). t.bound) ts) w.bounds) (length ts) b ≡ over (map (λ (t : Threshold). t.bound) (ts ++ (one ∷ []))) w.bounds
      bs =
          let e = length-map ts (λ (t : Threshold). t.bound) in
          ap (λ (m : ℕ). set (over (map (λ (t : Threshold). t.bound) ts) w.bounds) m b) (sym e)
          ∙ over_more (map (λ (t : Threshold). t.bound) ts) w.bounds b (omega (arith, e, k))
          ∙ ap (λ (l : List ℤ). over l w.bounds) (sym (map_end (λ (t : Threshold). t.bound) ts one))

  pub raw_added : (x : Term) (last : ℕ) → length j.thresholds ≡ suc last
      → all_terms j.thresholds < length w.lists.raw-conditions → all_terms j.thresholds < length w.lists.raw-weights
      → raw (raw_lists (set held.lists.raw-conditions (all_terms j.thresholds) x.condition) (set held.lists.raw-weights (all_terms j.thresholds) x.weight)
      (set held.lists.thresholds last (last_node_of j.thresholds ∷ (all_terms j.thresholds + 1) ∷ []))) held.bounds
      ≡ raw_of (with_term j x) w
  unfolding raw_of
  raw_added x last e h k = λ i. raw (raw_lists (figure (λ (t : Term). t.condition) w.lists.raw-conditions h i) (figure (λ (t : Term). t.weight) w.lists.raw-weights k i) (es i)) (bs i)
    where
      ts : List Threshold
      ts = j.thresholds

      some : 0 < length ts
      some = omega (arith, e)

      figure : (f : Term → ℕ) (b : List ℕ) → all_terms ts < length b
          → set (over (map f (join_all (lists ts))) b) (all_terms ts) (f x) ≡ over (map f (join_all (lists (add_term x ts)))) b
      figure f b q =
          let l = join_all (lists ts) in
          let m = length-map l f ∙ terms_long ts in
          ap (λ (n : ℕ). set (over (map f l) b) n (f x)) (sym m) ∙ over_more (map f l) b (f x) (omega (arith, m, q))
          ∙ ap (λ (r : List ℕ). over r b) (sym (ap (map f) (lists_added x ts some) ∙ map_end f l x))

      es : set (over (entries 0 ts) w.lists.thresholds) last (last_node_of ts ∷ (all_terms ts + 1) ∷ []) ≡ over (entries 0 (add_term x ts)) w.lists.thresholds
      es =
          let n = entries_long 0 ts in
          let l = length-set (entries 0 ts) last (last_node_of ts ∷ (all_terms ts + 1) ∷ []) in
          set_front (entries 0 ts) (drop (length (entries 0 ts)) w.lists.thresholds) last (last_node_of ts ∷ (all_terms ts + 1) ∷ []) (omega (arith, n, e))
          ∙ ap (λ (m : ℕ). set (entries 0 ts) last (last_node_of ts ∷ (all_terms ts + 1) ∷ []) ++ drop m w.lists.thresholds) (sym l)
          ∙ ap (λ (r : List (List ℕ)). over r w.lists.thresholds)
          (ap (λ (m : ℕ). set (entries 0 ts) last (last_node_of ts ∷ m ∷ [])) {x = all_terms ts + 1} {y = 0 + all_terms ts + 1} (omega arith) ∙ sym (entries_added 0 x ts last e))

      bs : over (map (λ (t : Threshold). t.bound) ts) w.bounds ≡ over (map (λ (t : Threshold). t.bound) (add_term x ts)) w.bounds
      bs = ap (λ (l : List ℤ). over l w.bounds) (bounds_on (λ l. l ++ (x ∷ [])) ts)

  pub raw-weighed : (start i v : ℕ) → start + length (last_list j.thresholds) ≡ all_terms j.thresholds → i < length (last_list j.thresholds)
      → raw (raw_lists held.lists.raw-conditions (set held.lists.raw-weights (start + i) v) held.lists.thresholds) held.bounds ≡ raw_of (with_weight j i v) w
  unfolding raw_of
  raw-weighed start i v e h = λ k. raw (raw_lists (cs k) (ws k) (es k)) (bs k)
    where
      ts : List Threshold
      ts = j.thresholds

      new : List Threshold
      new = on_last (weighing i v) j.thresholds

      cs : over (conditions (join_all (lists ts))) w.lists.raw-conditions ≡ over (conditions (join_all (lists new))) w.lists.raw-conditions
      cs = ap (λ (l : List ℕ). over l w.lists.raw-conditions) (sym (conditions-same i v ts))

      inside : start + i < length (weights (join_all (lists ts)))
      inside = omega (arith, length-map (join_all (lists ts)) (λ (t : Term). t.weight), terms_long ts, e, h)

      ws : set (over (weights (join_all (lists ts))) w.lists.raw-weights) (start + i) v ≡ over (weights (join_all (lists new))) w.lists.raw-weights
      ws =
          let l = weights (join_all (lists ts)) in
          set_front l (drop (length l) w.lists.raw-weights) (start + i) v inside
          ∙ ap (λ (n : ℕ). set l (start + i) v ++ drop n w.lists.raw-weights) (sym (length-set l (start + i) v))
          ∙ ap (λ (r : List ℕ). over r w.lists.raw-weights) (sym (weights-set i v ts start e h))

      es : over (entries 0 ts) w.lists.thresholds ≡ over (entries 0 new) w.lists.thresholds
      es = ap (λ (r : List (List ℕ)). over r w.lists.thresholds) (sym (entries_same i v 0 ts))

      bs : over (map (λ (t : Threshold). t.bound) ts) w.bounds ≡ over (map (λ (t : Threshold). t.bound) new) w.bounds
      bs = ap (λ (l : List ℤ). over l w.bounds) (bounds_on (weighing i v) ts)
