-- How much a job's rows are: no more guards than thresholds, no more terms and edges than the job has terms, and less than two
-- neighbours for each row.
use Rattle.std.specs.Prelude.{ℕ, suc, ◌+◌, ◌≤◌, ◌≡◌, refl, Bool, length, get_or}
use native.Mathlib.Omega.{arith}
use Rattle.std.proofs.Common.{ap, length-append}
use Rattle.std.proofs.Math.Bool.{true, false}
use mathlib.Core.List.{List, [], ◌∷◌, map}
use Rattle.std.proofs.lemmas.List.{length-map}
use Rattle.memory.specs.Limits.{max_terms, list_terms, max_links}
use Rattle.memory.specs.Buffers.{zeros}
use Rattle.base.specs.Laid.{join_all, pairs, triples, quads}
use Rattle.base.specs.Deal.{Keyed}
use Rattle.base.specs.TallyLaws.{count_most}
use Rattle.base.specs.InsertionLaws.{insert-length}
use Rattle.numeric.specs.Threshold.{Term, Threshold, Job}
use Rattle.row.specs.Terms.{row_terms, same_terms}
use Rattle.rows.specs.Rows.{Row, row_of, no_row, guard, below, insert_guard, place, place_all, rows_of}
use Rattle.rows.specs.Laid.{term_lists, guard_lists, edge_lists, edge_row}
use Rattle.job.specs.Incidents.{incidents_from}
use Rattle.job.specs.IncidentsLaws.{grouped-joined, keys_from}
use Rattle.links.specs.Links.{neighbour_lists}
use Rattle.links.proofs.NeighboursLaws.{neighbours_few}
use Rattle.job.specs.RowsGivenTermsLaws.{row_short}
use Rattle.job.specs.Job.{all_terms}
use Rattle.theorem_limits.specs.BuiltLaws.{rows_every, rows_few}
use Rattle.theorem_limits.specs.Good.{Fit, Fits}

-- ---- sums over lists

unfoldable sum_of : {X : Type 0} → (X → ℕ) → List X → ℕ
sum_of f [] = 0
sum_of f (x ∷ xs) = f x + sum_of f xs

sum_ones : {X : Type 0} (xs : List X) → sum_of (λ (x : X). 1) xs ≡ length xs
unfolding sum_of
sum_ones [] = refl
sum_ones (x ∷ xs) = omega (arith, sum_ones xs)

sum_join : {X Y : Type 0} (f : X → List Y) (xs : List X) → length (join_all (map f xs)) ≡ sum_of (λ (x : X). length (f x)) xs
unfolding join_all sum_of
sum_join f [] = refl
sum_join f (x ∷ xs) = omega (arith, length-append (f x) (join_all (map f xs)), sum_join f xs)

sum-terms : (ts : List Threshold) → all_terms ts ≡ sum_of (λ (t : Threshold). length t.terms) ts
unfolding all_terms sum_of
sum-terms [] = refl
sum-terms (t ∷ ts) = omega (arith, sum-terms ts)

-- ---- what is counted of rows grows with each threshold by no more than the threshold brings

abbrev new_row : Threshold → Row
new_row t = row_of t.terms (row_terms t.terms) (guard t.bound t.node ∷ [])

abbrev joined_row : Threshold → Row → Row
joined_row t r = row_of r.raw r.terms (insert_guard (guard t.bound t.node) r.guards)

module _ (f : Row → ℕ) (g : Threshold → ℕ) (new : (t : Threshold) → f (new_row t) ≤ g t) (more : (t : Threshold) (r : Row) → f (joined_row t r) ≤ f r + g t) where
  place-sum : (t : Threshold) (rs : List Row) → sum_of f (place t rs) ≤ sum_of f rs + g t
  unfolding place sum_of
  place-sum t [] = omega (arith, new t)
  place-sum t (r ∷ rs) = by (place-sum t rs) (same_terms r.raw t.terms)
    where
      by : sum_of f (place t rs) ≤ sum_of f rs + g t → (b : Bool)
          → sum_of f (elim b [ true ↦ joined_row t r ∷ rs | false ↦ r ∷ place t rs ]) ≤ f r + sum_of f rs + g t
      by ih true = omega (arith, more t r)
      by ih false = omega (arith, ih)

  all-sum : (ts : List Threshold) (rs : List Row) → sum_of f (place_all ts rs) ≤ sum_of f rs + sum_of g ts
  unfolding place_all sum_of
  all-sum [] rs = omega arith
  all-sum (t ∷ ts) rs = omega (arith, all-sum ts (place t rs), place-sum t rs)

-- NO MORE TERMS than the thresholds have,
pub terms_few : (j : Job) → length (join_all (term_lists (rows_of j))) ≤ all_terms j.thresholds
unfolding sum_of
terms_few j =
    omega (
      arith,
      all-sum (λ (r : Row). length r.terms) (λ (t : Threshold). length t.terms) (λ t. row_short t.terms) (λ t r. omega arith) j.thresholds [],
      sum_join (λ (r : Row). r.terms) (rows_of j),
      sum-terms j.thresholds,
    )

-- no more guards than thresholds.
pub guards_few : (j : Job) → length (join_all (guard_lists (rows_of j))) ≤ length j.thresholds
unfolding sum_of
guards_few j =
    omega (
      arith,
      all-sum (λ (r : Row). length r.guards) (λ (t : Threshold). 1) (λ t. omega arith)
          (λ t r. omega (arith, insert-length below (guard t.bound t.node) r.guards)) j.thresholds [],
      sum_join (λ (r : Row). r.guards) (rows_of j),
      sum_ones j.thresholds,
    )

-- ---- each row is as short as its raw list

pub row-terms_few : (j : Job) → Fits j → (r : ℕ) → length (get_or (rows_of j) r no_row).terms ≤ list_terms
row-terms_few j f r =
    rows_every (λ (y : Row). length y.terms ≤ list_terms) (Fit j.nodes) (λ t k. omega (arith, row_short t.terms, k.short)) (λ t y k a. a) (omega arith) j f.each r

-- ---- EDGES: each term is an edge of one node at most

edges_few : (nodes : ℕ) (rs : List Row) → length (join_all (edge_lists nodes rs)) ≤ length (join_all (term_lists rs))
edges_few nodes rs =
    let xs = incidents_from 0 (term_lists rs) in
    omega (
      arith,
      length-map (join_all (edge_lists nodes rs)) edge_row,
      ap length (grouped-joined nodes rs),
      count_most nodes xs,
      length-map xs (λ (x : Keyed (List ℕ)). x.key),
      ap length (keys_from 0 (term_lists rs)),
      length-map (join_all (term_lists rs)) (λ (t : Term). t.condition),
    )

-- ---- WITHIN THE LIMITS the buffers of edges and of links have room

pub edges_most : (j : Job) → Fits j → length (join_all (edge_lists j.nodes (rows_of j))) ≤ max_terms
edges_most j f = omega (arith, edges_few j.nodes (rows_of j), terms_few j, f.terms)

pub links-most : (j : Job) → Fits j → length (join_all (neighbour_lists (rows_of j))) ≤ max_links
links-most j f = omega (arith, neighbours_few (rows_of j), rows_few j f)

-- ---- cleared lists, lists side by side

pub zeros_long : {X : Type 0} (z : X) (l : List X) → length (zeros z l) ≡ length l
unfolding zeros
zeros_long z [] = refl
zeros_long z (x ∷ l) = ap suc (zeros_long z l)

pub pairs_few : {X : Type 0} (xs ys : List X) → length (pairs xs ys) ≤ length xs
unfolding pairs
pairs_few [] ys = omega arith
pairs_few (x ∷ xs) [] = omega arith
pairs_few (x ∷ xs) (y ∷ ys) = omega (arith, pairs_few xs ys)

pub triples_few : {X : Type 0} (xs ys zs : List X) → length (triples xs ys zs) ≤ length xs
unfolding triples
triples_few [] ys zs = omega arith
triples_few (x ∷ xs) [] zs = omega arith
triples_few (x ∷ xs) (y ∷ ys) [] = omega arith
triples_few (x ∷ xs) (y ∷ ys) (z ∷ zs) = omega (arith, triples_few xs ys zs)

pub quads_few : {X : Type 0} (xs ys zs ts : List X) → length (quads xs ys zs ts) ≤ length xs
unfolding quads
quads_few [] ys zs ts = omega arith
quads_few (x ∷ xs) [] zs ts = omega arith
quads_few (x ∷ xs) (y ∷ ys) [] ts = omega arith
quads_few (x ∷ xs) (y ∷ ys) (z ∷ zs) [] = omega arith
quads_few (x ∷ xs) (y ∷ ys) (z ∷ zs) (t ∷ ts) = omega (arith, quads_few xs ys zs ts)
