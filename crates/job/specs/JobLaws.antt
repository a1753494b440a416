-- Laws of lists that grow at their end: thresholds, terms, stretches, and lists over the first numbers.
use Prim.Native.Nat.{ℕ, zero, suc, ◌+◌, ◌-◌, ◌<◌, ◌≤◌}
use Rattle.std.proofs.Common.{add-zero, zero-add, suc-add, le_refl, not-suc-le-zero, sym, ap₂, ◌∙◌, length-drop, length-append, take-take, take-suc-set}
use native.Mathlib.Omega.{arith}
use Rattle.std.specs.Prelude.{◌≡◌, Bool, length, take, drop, set, ℤ}
use Rattle.std.proofs.Math.Path.{refl, ap}
use mathlib.Core.List.{List, [], ◌∷◌, ◌++◌, map}
use Rattle.std.proofs.Math.Seq.{take-nil}
use Rattle.std.proofs.lemmas.List.{take-set-le, drop-set-add}
use Rattle.base.specs.All.{All}
use Rattle.base.specs.Laid.{numbers}
use Rattle.numeric.specs.Threshold.{Term, term, ThresholdOf, Threshold, Job}
use Rattle.numeric.specs.Area.{Entry, joined, weighed, weighed_threshold, Draft, job_of}
use Rattle.numeric.specs.Slices.{terms}
use Rattle.base.specs.Parts.{stretch}
use Rattle.job.specs.Job.{last_node_of, last_list, all_terms, standing_of, on_last, add_term}
use Rattle.job.specs.Taken.{opened_by, added_to, with_threshold, with_term}

-- ---- the first numbers

numbers_more : (a n : ℕ) → numbers a (suc n) ≡ numbers a n ++ ((a + n) ∷ [])
unfolding numbers
numbers_more a zero = ap (λ (x : ℕ). x ∷ []) (sym (add-zero a))
numbers_more a (suc n) =
    ap (λ (l : List ℕ). a ∷ l) (numbers_more (a + 1) n ∙ ap (λ (x : ℕ). numbers (a + 1) n ++ (x ∷ [])) {x = a + 1 + n} {y = a + suc n} (omega arith))

pub map_end : {X Y : Type 0} (f : X → Y) (l : List X) (x : X) → map f (l ++ (x ∷ [])) ≡ map f l ++ (f x ∷ [])
map_end f [] x = refl
map_end f (y ∷ l) x = ap (λ (r : List _). f y ∷ r) (map_end f l x)

pub map_more : {X : Type 0} (f : ℕ → X) (n : ℕ) → map f (numbers 0 (suc n)) ≡ map f (numbers 0 n) ++ (f n ∷ [])
map_more f n =
    ap (map f) (numbers_more 0 n) ∙ map_end f (numbers 0 n) (0 + n) ∙ ap (λ (x : ℕ). map f (numbers 0 n) ++ (f x ∷ [])) (zero-add n)

map_from : {X : Type 0} (f g : ℕ → X) (a n : ℕ) → ((t : ℕ) → t < a + n → f t ≡ g t) → map f (numbers a n) ≡ map g (numbers a n)
unfolding numbers
map_from f g a zero h = refl
map_from f g a (suc n) h = ap₂ (λ x l. x ∷ l) (h a (omega arith)) (map_from f g (a + 1) n (λ t q. h t (omega arith)))

pub map_same : {X : Type 0} (f g : ℕ → X) (n : ℕ) → ((t : ℕ) → t < n → f t ≡ g t) → map f (numbers 0 n) ≡ map g (numbers 0 n)
map_same f g n h = map_from f g 0 n (λ t q. h t (omega arith))

-- ---- one threshold more

module _ {X : Type 0} (t : ThresholdOf X) where
  pub node_more : (ts : List (ThresholdOf X)) → last_node_of (ts ++ (t ∷ [])) ≡ t.node
  unfolding last_node_of
  node_more [] = refl
  node_more (u ∷ []) = refl
  node_more (u ∷ v ∷ ts) = node_more (v ∷ ts)

  pub list_more : (ts : List (ThresholdOf X)) → last_list (ts ++ (t ∷ [])) ≡ t.terms
  unfolding last_list
  list_more [] = refl
  list_more (u ∷ []) = refl
  list_more (u ∷ v ∷ ts) = list_more (v ∷ ts)

  pub all_more : (ts : List (ThresholdOf X)) → all_terms (ts ++ (t ∷ [])) ≡ all_terms ts + length t.terms
  unfolding all_terms
  all_more [] = omega arith
  all_more (u ∷ ts) = let q = all_more ts in omega (arith, q)

  pub on_more : (g : List X → List X) (ts : List (ThresholdOf X))
      → on_last g (ts ++ (t ∷ [])) ≡ ts ++ (record { node = t.node; bound = t.bound; terms = g t.terms } ∷ [])
  unfolding on_last
  on_more g [] = refl
  on_more g (u ∷ []) = refl
  on_more g (u ∷ v ∷ ts) = ap (λ (l : List (ThresholdOf X)). u ∷ l) (on_more g (v ∷ ts))

-- ---- another list in the last threshold

module _ {X : Type 0} (g : List X → List X) where
  pub length_on : (ts : List (ThresholdOf X)) → length (on_last g ts) ≡ length ts
  unfolding on_last
  length_on [] = refl
  length_on (t ∷ []) = refl
  length_on (t ∷ u ∷ ts) = ap suc (length_on (u ∷ ts))

  node-on : (ts : List (ThresholdOf X)) → last_node_of (on_last g ts) ≡ last_node_of ts
  unfolding on_last last_node_of
  node-on [] = refl
  node-on (t ∷ []) = refl
  node-on (t ∷ u ∷ []) = refl
  node-on (t ∷ u ∷ v ∷ ts) = node-on (u ∷ v ∷ ts)

  pub list_on : (ts : List (ThresholdOf X)) → 0 < length ts → last_list (on_last g ts) ≡ g (last_list ts)
  unfolding on_last last_list
  list_on [] h = absurd (not-suc-le-zero h)
  list_on (t ∷ []) h = refl
  list_on (t ∷ u ∷ []) h = refl
  list_on (t ∷ u ∷ v ∷ ts) h = list_on (u ∷ v ∷ ts) (omega arith)

  pub all_on : (ts : List (ThresholdOf X)) → 0 < length ts → all_terms (on_last g ts) + length (last_list ts) ≡ all_terms ts + length (g (last_list ts))
  unfolding on_last all_terms last_list
  all_on [] h = absurd (not-suc-le-zero h)
  all_on (t ∷ []) h = omega arith
  all_on (t ∷ u ∷ ts) h = let q = all_on (u ∷ ts) (omega arith) in omega (arith, q)

-- What holds of each threshold, and of the last with its new list, holds of each.
pub every_on : {X : Type 0} (P : ThresholdOf X → Type 0) (g : List X → List X) (ts : List (ThresholdOf X)) → All P ts
    → ((t : ThresholdOf X) → t.terms ≡ last_list ts → P t → P (record { node = t.node; bound = t.bound; terms = g t.terms })) → All P (on_last g ts)
unfolding on_last last_list
every_on P g [] a f = tt
every_on P g (t ∷ []) a f = (f t refl a.0, tt)
every_on P g (t ∷ u ∷ us) a f = (a.0, every_on P g (u ∷ us) a.1 f)

pub last_added : {X : Type 0} (x : X) (ts : List (ThresholdOf X)) → 0 < length ts → length (last_list (add_term x ts)) ≡ length (last_list ts) + 1
last_added x ts h = ap length (list_on (λ l. l ++ (x ∷ [])) ts h) ∙ length-append (last_list ts) (x ∷ [])

pub all_added : {X : Type 0} (x : X) (ts : List (ThresholdOf X)) → 0 < length ts → all_terms (add_term x ts) ≡ all_terms ts + 1
all_added x ts h =
    let a = all_on (λ l. l ++ (x ∷ [])) ts h in
    let l = length-append (last_list ts) (x ∷ []) in omega (arith, a, l)

-- ---- THE JOB of a draft with a change

pub job_opened : (d : Draft) (n : ℕ) (b : ℤ) → job_of (with_threshold d n b) ≡ with_threshold (job_of d) n b
unfolding joined
job_opened d n b = λ i. record { nodes = d.nodes; thresholds = map_end weighed_threshold d.thresholds (record { node = n; bound = b; terms = [] }) i }

pub last_weighed : (ds : List (ThresholdOf Entry)) → last_list (map weighed_threshold ds) ≡ weighed (last_list ds)
unfolding last_list joined
last_weighed [] = refl
last_weighed (t ∷ []) = refl
last_weighed (t ∷ u ∷ ds) = last_weighed (u ∷ ds)

pub node_weighed : (ds : List (ThresholdOf Entry)) → last_node_of (map weighed_threshold ds) ≡ last_node_of ds
unfolding last_node_of
node_weighed [] = refl
node_weighed (t ∷ []) = refl
node_weighed (t ∷ u ∷ ds) = node_weighed (u ∷ ds)

-- What one more entry does to the weighed list of the open threshold, it does to the job.
pub job_added : (d : Draft) (e : Entry) (g : List Term → List Term) → weighed (last_list d.thresholds ++ (e ∷ [])) ≡ g (weighed (last_list d.thresholds))
    → job_of (with_term d e) ≡ record { nodes = d.nodes; thresholds = on_last g (job_of d).thresholds }
unfolding on_last last_list joined
job_added d e g q = λ i. record { nodes = d.nodes; thresholds = by d.thresholds q i }
  where
    by : (ds : List (ThresholdOf Entry)) → weighed (last_list ds ++ (e ∷ [])) ≡ g (weighed (last_list ds)) → map weighed_threshold (add_term e ds) ≡ on_last g (map weighed_threshold ds)
    by [] q = refl
    by (t ∷ []) q = ap (λ (l : List Term). record { node = t.node; bound = t.bound; terms = l } ∷ []) q
    by (t ∷ u ∷ ds) q = ap (λ (l : List Threshold). weighed_threshold t ∷ l) (by (u ∷ ds) q)

-- WHAT THE CHECKS READ of the draft with a change.
module _ (s e c : Bool) (d : Draft) (m : ℕ) where
  pub standing_opened : (n : ℕ) (b : ℤ) → standing_of s e c (with_threshold d n b) m ≡ opened_by (standing_of s e c d m) n
  standing_opened n b = λ i. record {
    started = s;
    sealed = e;
    contradicted = c;
    nodes = d.nodes;
    thresholds = length-append ts (t ∷ []) i;
    last_node = node_more t ts i;
    last_terms = length (list_more t ts i);
    terms = all t ts refl i;
    raw_terms = (ap (λ (j : Job). all_terms j.thresholds) (job_opened d n b) ∙ all u (job_of d).thresholds refl) i;
    answers = m;
  }
    where
      t : ThresholdOf Entry
      t = record { node = n; bound = b; terms = [] }

      u : Threshold
      u = record { node = n; bound = b; terms = [] }

      ts : List (ThresholdOf Entry)
      ts = d.thresholds

      all : {X : Type 0} (x : ThresholdOf X) (xs : List (ThresholdOf X)) → x.terms ≡ [] → all_terms (xs ++ (x ∷ [])) ≡ all_terms xs
      all x xs e = let q = all_more x xs in let l = ap length e in omega (arith, q, l)

  pub standing_added : (x : Entry) (n : ℕ) → 0 < length d.thresholds → all_terms (job_of (with_term d x)).thresholds ≡ n
      → standing_of s e c (with_term d x) m ≡ added_to (standing_of s e c d m) n
  standing_added x n h q = λ i. record {
    started = s;
    sealed = e;
    contradicted = c;
    nodes = d.nodes;
    thresholds = length_on (λ l. l ++ (x ∷ [])) d.thresholds i;
    last_node = node-on (λ l. l ++ (x ∷ [])) d.thresholds i;
    last_terms = last_added x d.thresholds h i;
    terms = all_added x d.thresholds h i;
    raw_terms = q i;
    answers = m;
  }

-- ---- one term more

pub term_more : (cs ws : List ℕ) (c w : ℕ) → length ws ≡ length cs → terms (cs ++ (c ∷ [])) (ws ++ (w ∷ [])) ≡ terms cs ws ++ (term c w ∷ [])
unfolding terms
term_more [] [] c w e = refl
term_more [] (v ∷ ws) c w e = absurd (let z : ◌≡◌ {A = ℕ} (suc (length ws)) 0 = e in omega arith)
term_more (d ∷ cs) [] c w e = absurd (let z : ◌≡◌ {A = ℕ} 0 (suc (length cs)) = e in omega arith)
term_more (d ∷ cs) (v ∷ ws) c w e = ap (λ (l : List Term). term d v ∷ l) (term_more cs ws c w (let z : ◌≡◌ {A = ℕ} (suc (length ws)) (suc (length cs)) = e in omega arith))

-- ---- stretches

front : {X : Type 0} (n m : ℕ) (l : List X) → drop n (take (n + m) l) ≡ take m (drop n l)
front zero m l = ap (λ (k : ℕ). take k l) (zero-add m)
front (suc n) m [] = ap (λ (k : ℕ). drop (suc n) (take k [])) (suc-add n m) ∙ sym (take-nil m)
front (suc n) m (x ∷ l) = ap (λ (k : ℕ). drop (suc n) (take k (x ∷ l))) (suc-add n m) ∙ front n m l

pub stretch-cut : {X : Type 0} (a e n : ℕ) (l : List X) → a ≤ e → e ≤ n → stretch a e (take n l) ≡ stretch a e l
stretch-cut a e n l h k =
    ap (λ (j : ℕ). take (e - a) (drop a (take j l))) {x = n} {y = a + (n - a)} (omega arith)
    ∙ ap (take (e - a)) (front a (n - a) l) ∙ take-take (e - a) (n - a) (drop a l) (omega arith)

pub stretch-set : {X : Type 0} (a e i : ℕ) (x : X) (l : List X) → a ≤ e → e ≤ i → stretch a e (set l i x) ≡ stretch a e l
stretch-set a e i x l h k =
    sym (stretch-cut a e e (set l i x) h (le_refl e)) ∙ ap (stretch a e) (take-set-le e l i x k) ∙ stretch-cut a e e l h (le_refl e)

pub stretch_more : {X : Type 0} (a i : ℕ) (x : X) (l : List X) → a ≤ i → i < length l → stretch a (i + 1) (set l i x) ≡ stretch a i l ++ (x ∷ [])
stretch_more a i x l h k =
    ap (λ (j : ℕ). take (i + 1 - a) (drop a (set l j x))) {x = i} {y = a + (i - a)} (omega arith)
    ∙ ap (take (i + 1 - a)) (drop-set-add a l (i - a) x)
    ∙ ap (λ (j : ℕ). take j (set (drop a l) (i - a) x)) {x = i + 1 - a} {y = suc (i - a)} (omega arith)
    ∙ take-suc-set (drop a l) (i - a) x (let q = length-drop a l in omega arith)

-- ---- answers
