-- What a seal builds of a job within the limits meets what the laws of turns ask, and the seal leaves sound values. Assumes nothing.
use Rattle.std.specs.Prelude.{ℕ, zero, suc, ◌+◌, ◌≤◌, ◌<◌, ◌≡◌, refl, Bool, length, get_or, ℤ, eqb}
use Rattle.std.proofs.Common.{not-suc-le-zero, arith, ap, length-append}
use Rattle.std.proofs.Math.Bool.{true, false}
use mathlib.Core.List.{List, [], ◌∷◌, ◌++◌, map, Memᴰ}
use Rattle.std.proofs.lemmas.List.{length-map}
use Rattle.base.specs.All.{All}
use Rattle.base.specs.AllLaws.{all_each}
use Rattle.memory.specs.Limits.{max_nodes, max_terms, max_thresholds, list_terms}
use Rattle.base.specs.InsertionLaws.{insert_all}
use Rattle.numeric.specs.Threshold.{Term, ThresholdOf, Threshold, Job}
use Rattle.numeric.specs.Area.{Entry, condition_of, joined, rounded, weighed_threshold, Draft, job_of}
use Rattle.numeric.proofs.AreaLaws.{joined_long, weighed-conditions}
use Rattle.row.specs.Terms.{row_terms, merged, same_terms}
use Rattle.row.specs.TermsLaws.{all_map, conditions-merged, all_sorted}
use Rattle.rows.specs.Guards.{Bound}
use Rattle.rows.specs.Rows.{Row, row_of, no_row, guard, below, insert_guard, place, place_all, rows_of, row_number, Edge, edge, edges_in, edges_from}
use Rattle.rows.specs.ListsLaws.{same_refl}
use Rattle.links.specs.Links.{Link, links, neighbours}
use Rattle.links.proofs.LinksLaws.{links_range, Joined, downward, upward, neighbours-joined}
use Rattle.row_runs.specs.Guards.{Node, Condition}
use Rattle.row_moves.specs.Between.{Live}
use Rattle.drain.specs.Drain.{index_of, seal}
use Rattle.job.specs.Job.{last_list, all_terms, on_last, add_term}
use Rattle.job.specs.JobLaws.{all_more, length_on, every_on}
use Rattle.job.specs.Taken.{with_threshold, with_term}
use Rattle.theorem_limits.specs.Good.{FitBy, Fit, Fits, Drafted}
use Rattle.theorem_ends.specs.Sound.{Indexed, Sound}
use Rattle.theorem_ends.proofs.SealsLaws.{seal_stays}

-- ---- lists

pub every_append : {X : Type 0} (P : X → Type 0) (xs ys : List X) → All P xs → All P ys → All P (xs ++ ys)
every_append P [] ys a b = b
every_append P (x ∷ xs) ys a b = (a.0, every_append P xs ys a.1 b)

pub every_last : {X : Type 0} (P : X → Type 0) (xs : List X) (x : X) → All P xs → P x → All P (xs ++ (x ∷ []))
every_last P xs x a p = every_append P xs (x ∷ []) a (p, tt)

-- what a job within the limits says of one threshold and of one term
pub fits_node : (j : Job) → Fits j → (t : Threshold) → Memᴰ t j.thresholds → t.node < max_nodes
fits_node j f t m = omega (arith, (all_each (Fit j.nodes) j.thresholds f.each t m).node, f.nodes)

pub fits_condition : (j : Job) → Fits j → (t : Threshold) → Memᴰ t j.thresholds → (u : Term) → Memᴰ u t.terms → u.condition < max_nodes
fits_condition j f t m u i =
    omega (arith, all_each (λ (v : Term). v.condition < j.nodes) t.terms (all_each (Fit j.nodes) j.thresholds f.each t m).conditions u i, f.nodes)

pub every_mem : {X : Type 0} (P : X → Type 0) (xs : List X) → ((x : X) → Memᴰ x xs → P x) → All P xs
every_mem P [] f = tt
every_mem P (x ∷ xs) f = (f x (Memᴰ.head refl), every_mem P xs (λ y m. f y (Memᴰ.tail m)))

pub every_at : {X : Type 0} (P : X → Type 0) (d : X) (xs : List X) → P d → All P xs → (i : ℕ) → P (get_or xs i d)
every_at P d [] p a i = p
every_at P d (x ∷ xs) p a zero = a.0
every_at P d (x ∷ xs) p a (suc i) = every_at P d xs p a.1 i

every_all : {X : Type 0} (P : X → Type 0) (xs : List X) → All P xs → All P xs
every_all P [] a = tt
every_all P (x ∷ xs) a = (a.0, every_all P xs a.1)

-- ---- A DRAFT THAT GROWS within the limits: by a threshold, by an entry of its last threshold

all_term : (x : Entry) (ts : List (ThresholdOf Entry)) → all_terms (add_term x ts) ≤ all_terms ts + 1
unfolding all_terms on_last
all_term x [] = omega arith
all_term x (t ∷ []) = omega (arith, length-append t.terms (x ∷ []))
all_term x (t ∷ u ∷ us) = omega (arith, all_term x (u ∷ us))

pub drafted_none : (n : ℕ) → n ≤ max_nodes → Drafted (record { nodes = n; thresholds = [] })
unfolding all_terms
drafted_none n h = record { nodes = h; few = omega arith; terms = omega arith; each = tt }

pub drafted_threshold : (d : Draft) → Drafted d → (n : ℕ) (b : ℤ) → n < d.nodes → Bound b → length d.thresholds < max_thresholds → Drafted (with_threshold d n b)
drafted_threshold d f n b h k l =
    let t : ThresholdOf Entry = record { node = n; bound = b; terms = [] } in
    record {
      nodes = f.nodes;
      few = omega (arith, length-append d.thresholds (t ∷ []));
      terms = omega (arith, all_more t d.thresholds, f.terms);
      each = every_last (FitBy (λ (e : Entry). condition_of e) d.nodes) d.thresholds t f.each (record { node = h; bound = k; conditions = tt; short = omega arith });
    }

pub drafted_term : (d : Draft) → Drafted d → (x : Entry) → condition_of x < d.nodes → length (last_list d.thresholds) < list_terms → all_terms d.thresholds < max_terms → Drafted (with_term d x)
drafted_term d f x h k l = record {
  nodes = f.nodes;
  few = omega (arith, length_on (λ l. l ++ (x ∷ [])) d.thresholds, f.few);
  terms = omega (arith, all_term x d.thresholds);
  each = every_on (FitBy (λ (e : Entry). condition_of e) d.nodes) (λ l. l ++ (x ∷ [])) d.thresholds f.each (λ t e q. record {
    node = q.node;
    bound = q.bound;
    conditions = every_last (λ (e : Entry). condition_of e < d.nodes) t.terms x q.conditions h;
    short = omega (arith, length-append t.terms (x ∷ []), ap length e, k);
  });
}

-- ITS JOB IS within them too: joining leaves no more entries, and no other conditions.
pub fits-none : (n : ℕ) → n ≤ max_nodes → Fits (record { nodes = n; thresholds = [] })
unfolding all_terms
fits-none n h = record { nodes = h; few = omega arith; terms = omega arith; each = tt }

weighed_few : (ts : List (ThresholdOf Entry)) → all_terms (map weighed_threshold ts) ≤ all_terms ts
unfolding all_terms
weighed_few [] = omega arith
weighed_few (t ∷ ts) = omega (arith, weighed_few ts, length-map (joined t.terms) rounded, joined_long t.terms)

weighed_each : (n : ℕ) (ts : List (ThresholdOf Entry)) → All (FitBy (λ (e : Entry). condition_of e) n) ts → All (Fit n) (map weighed_threshold ts)
weighed_each n [] a = tt
weighed_each n (t ∷ ts) a = (
  record {
    node = a.0.node;
    bound = a.0.bound;
    conditions = weighed-conditions (λ (c : ℕ). c < n) t.terms a.0.conditions;
    short = omega (arith, a.0.short, length-map (joined t.terms) rounded, joined_long t.terms);
  },
  weighed_each n ts a.1,
)

pub fits_of : {d : Draft} → Drafted d → Fits (job_of d)
fits_of {d} f = record {
  nodes = f.nodes;
  few = omega (arith, length-map d.thresholds weighed_threshold, f.few);
  terms = omega (arith, weighed_few d.thresholds, f.terms);
  each = weighed_each d.nodes d.thresholds f.each;
}

-- ---- WHAT EVERY ROW HAS: what a threshold's new row has, and what a row keeps that gets one more guard

module _ (P : Row → Type 0) (Q : Threshold → Type 0) (new : (t : Threshold) → Q t → P (row_of t.terms (row_terms t.terms) (guard t.bound t.node ∷ [])))
    (more : (t : Threshold) (r : Row) → Q t → P r → P (row_of r.raw r.terms (insert_guard (guard t.bound t.node) r.guards))) where
  place-every : (t : Threshold) (rs : List Row) → Q t → All P rs → All P (place t rs)
  unfolding place
  place-every t [] q a = (new t q, tt)
  place-every t (r ∷ rs) q a = by (place-every t rs q a.1) (same_terms r.raw t.terms)
    where
      by : All P (place t rs) → (b : Bool) → All P (elim b [ true ↦ row_of r.raw r.terms (insert_guard (guard t.bound t.node) r.guards) ∷ rs | false ↦ r ∷ place t rs ])
      by ih true = (more t r q a.0, a.1)
      by ih false = (a.0, ih)

  all-every : (ts : List Threshold) (rs : List Row) → All Q ts → All P rs → All P (place_all ts rs)
  unfolding place_all
  all-every [] rs q a = a
  all-every (t ∷ ts) rs q a = all-every ts (place t rs) q.1 (place-every t rs q.0 a)

  pub rows_all : (j : Job) → All Q j.thresholds → All P (rows_of j)
  rows_all j a = all-every j.thresholds [] a tt

  -- and so has the row of any number, if no_row has it
  pub rows_every : P no_row → (j : Job) → All Q j.thresholds → (r : ℕ) → P (get_or (rows_of j) r no_row)
  rows_every p j a = every_at P no_row (rows_of j) p (rows_all j a)

-- ---- rows name nodes

abbrev RowFits : Row → Type 0
RowFits r = All Node r.guards × All Condition r.terms

terms_fit : (raw : List Term) → All Condition raw → All Condition (row_terms raw)
terms_fit raw h = all_sorted Condition (merged raw) (conditions-merged (λ (n : ℕ). n < max_nodes) raw h)

row_fits : (n : ℕ) → n ≤ max_nodes → (t : Threshold) → Fit n t → RowFits (row_of t.terms (row_terms t.terms) (guard t.bound t.node ∷ []))
row_fits n h t f =
    ((omega (arith, f.node), tt), terms_fit t.terms (all_map (λ (u : Term). u.condition < n) Condition t.terms (λ u k. omega arith) f.conditions))

guard-fits : (n : ℕ) → n ≤ max_nodes → (t : Threshold) (r : Row) → Fit n t → RowFits r
    → RowFits (row_of r.raw r.terms (insert_guard (guard t.bound t.node) r.guards))
guard-fits n h t r f a = (insert_all below Node (guard t.bound t.node) r.guards (omega (arith, f.node)) a.0, a.1)

-- ---- no more rows than thresholds

place_few : (t : Threshold) (rs : List Row) → length (place t rs) ≤ length rs + 1
unfolding place
place_few t [] = omega arith
place_few t (r ∷ rs) = by (place_few t rs) (same_terms r.raw t.terms)
  where
    by : length (place t rs) ≤ length rs + 1 → (b : Bool)
        → length {A = Row} (elim b [ true ↦ row_of r.raw r.terms (insert_guard (guard t.bound t.node) r.guards) ∷ rs | false ↦ r ∷ place t rs ]) ≤ length (r ∷ rs) + 1
    by ih true = omega arith
    by ih false = omega arith

all_few : (ts : List Threshold) (rs : List Row) → length (place_all ts rs) ≤ length rs + length ts
unfolding place_all
all_few [] rs = omega arith
all_few (t ∷ ts) rs = omega (arith, all_few ts (place t rs), place_few t rs)

pub rows_few : (j : Job) → Fits j → length (rows_of j) ≤ max_thresholds
rows_few j f = omega (arith, all_few j.thresholds [], f.few)

-- ---- a threshold's row is one of the rows

abbrev pub There : List Term → List Row → Type 0
There raw rs = row_number rs raw < length rs

number_first : (r : Row) (rs : List Row) (raw : List Term) → same_terms r.raw raw ≡ true → There raw (r ∷ rs)
unfolding row_number
number_first r rs raw e = rw (e, row_number) (omega arith)

number_next : (r : Row) (rs : List Row) (raw : List Term) → There raw rs → There raw (r ∷ rs)
unfolding row_number
number_next r rs raw h = by (same_terms r.raw raw)
  where
    by : (b : Bool) → let n : ℕ = elim b [ true ↦ 0 | false ↦ 1 + row_number rs raw ] in n < length (r ∷ rs)
    by true = omega arith
    by false = omega arith

place_there : (t : Threshold) (rs : List Row) → There t.terms (place t rs)
unfolding place
place_there t [] = number_first (row_of t.terms (row_terms t.terms) (guard t.bound t.node ∷ [])) [] t.terms (same_refl t.terms)
place_there t (r ∷ rs) = by (place_there t rs) (same_terms r.raw t.terms) refl
  where
    by : There t.terms (place t rs) → (b : Bool) → same_terms r.raw t.terms ≡ b
        → There t.terms (elim b [ true ↦ row_of r.raw r.terms (insert_guard (guard t.bound t.node) r.guards) ∷ rs | false ↦ r ∷ place t rs ])
    by ih true e = number_first (row_of r.raw r.terms (insert_guard (guard t.bound t.node) r.guards)) rs t.terms e
    by ih false e = number_next r (place t rs) t.terms ih

there_behind : (r : Row) (rs : List Row) (raw : List Term) → same_terms r.raw raw ≡ false → There raw (r ∷ rs) → There raw rs
unfolding row_number
there_behind r rs raw e h = let k : 1 + row_number rs raw < suc (length rs) = rw (e, row_number) at h in omega arith

place_keeps : (t : Threshold) (rs : List Row) (raw : List Term) → There raw rs → There raw (place t rs)
unfolding place
place_keeps t [] raw h = absurd (not-suc-le-zero h)
place_keeps t (r ∷ rs) raw h = by (λ k. place_keeps t rs raw k) (same_terms r.raw t.terms) (same_terms r.raw raw) refl
  where
    s : Row
    s = row_of r.raw r.terms (insert_guard (guard t.bound t.node) r.guards)

    by : (There raw rs → There raw (place t rs)) → (b c : Bool) → same_terms r.raw raw ≡ c → There raw (elim b [ true ↦ s ∷ rs | false ↦ r ∷ place t rs ])
    by ih true true e = number_first s rs raw e
    by ih true false e = number_next s rs raw (there_behind r rs raw e h)
    by ih false true e = number_first r (place t rs) raw e
    by ih false false e = number_next r (place t rs) raw (ih (there_behind r rs raw e h))

all_keep : (ts : List Threshold) (rs : List Row) (raw : List Term) → There raw rs → There raw (place_all ts rs)
unfolding place_all
all_keep [] rs raw h = h
all_keep (t ∷ ts) rs raw h = all_keep ts (place t rs) raw (place_keeps t rs raw h)

pub all_there : (ts : List Threshold) (rs : List Row) → All (λ (t : Threshold). There t.terms (place_all ts rs)) ts
unfolding place_all
all_there [] rs = tt
all_there (t ∷ ts) rs = (all_keep ts (place t rs) t.terms (place_there t rs), all_there ts (place t rs))

placed : (n : ℕ) (rs : List Row) (ts : List Threshold) → length rs ≤ max_thresholds → All (Fit n) ts → All (λ (t : Threshold). There t.terms rs) ts
    → All (λ (t : Threshold). Bound t.bound × (row_number rs t.terms < max_thresholds)) ts
placed n rs [] h f a = tt
placed n rs (t ∷ ts) h f a = ((f.0.bound, (let k = a.0 in omega arith)), placed n rs ts h f.1 a.1)

-- ---- edges and links lead to rows

edges_in_lem : (c r : ℕ) (ts : List Term) (n : ℕ) → r < n → All (λ (e : Edge). e.row < n) (edges_in c r ts)
unfolding edges_in
edges_in_lem c r [] n h = tt
edges_in_lem c r (t ∷ ts) n h = by (edges_in_lem c r ts n h) (eqb t.condition c)
  where
    by : All (λ (e : Edge). e.row < n) (edges_in c r ts) → (b : Bool)
        → All (λ (e : Edge). e.row < n) (elim b [ true ↦ edge r t.weight ∷ edges_in c r ts | false ↦ edges_in c r ts ])
    by ih true = (h, ih)
    by ih false = ih

pub edges_from_lem : (c k : ℕ) (rs : List Row) (n : ℕ) → k + length rs ≤ n → All (λ (e : Edge). e.row < n) (edges_from c k rs)
unfolding edges_from
edges_from_lem c k [] n h = tt
edges_from_lem c k (r ∷ rs) n h =
    every_append (λ (e : Edge). e.row < n) (edges_in c k r.terms) (edges_from c (k + 1) rs) (edges_in_lem c k r.terms n (omega arith)) (edges_from_lem c (k + 1) rs n (omega arith))

pub linked-rows : (rs : List Row) (n r : ℕ) → length rs ≤ n → All (λ (q : ℕ). q < n) (neighbours r (links rs))
linked-rows rs n r h = every_mem (λ (q : ℕ). q < n) (neighbours r (links rs)) (λ q m. let a = neighbours-joined r q (links rs) m in by q a.0 a.1 a.2)
  where
    by : (q : ℕ) (l : Link) → Memᴰ l (links rs) → Joined r q l → q < n
    by q l i (downward e f) = let k = (links_range rs l.prefix l.extension i).1 in omega arith
    by q l i (upward e f) = let k = (links_range rs l.prefix l.extension i).0 in omega arith

-- WHAT A SEAL BUILDS
pub indexed : (j : Job) → Fits j → Indexed (index_of j)
indexed j f = record {
  nodes = λ r. every_all Node (get_or (rows_of j) r no_row).guards (fit r).0;
  conditions = λ r. every_all Condition (get_or (rows_of j) r no_row).terms (fit r).1;
  thresholds = placed j.nodes (rows_of j) j.thresholds few f.each (all_there j.thresholds []);
  edges = λ n. edges_from_lem n 0 (rows_of j) max_thresholds (omega (arith, few));
  linked = λ r. linked-rows (rows_of j) max_thresholds r few;
}
  where
    fit : (r : ℕ) → RowFits (get_or (rows_of j) r no_row)
    fit = rows_every RowFits (Fit j.nodes) (row_fits j.nodes f.nodes) (guard-fits j.nodes f.nodes) (tt, tt) j f.each

    few : length (rows_of j) ≤ max_thresholds
    few = rows_few j f

-- ---- the seal

pub seal_sound : (j : Job) → Fits j → (v : Live) → Sound v → Sound (seal (index_of j) v).live
seal_sound j f v s = seal_stays (index_of j) (indexed j f) (rows_few j f) v s
