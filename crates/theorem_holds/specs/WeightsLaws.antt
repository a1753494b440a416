-- The weights of a job's rows: a row merges at most 1,024 raw weights, so that its total, each weight in it and each edge's stay
-- below the limit of merged weights. Assumes nothing.
use Rattle.std.specs.Prelude.{ℕ, ◌+◌, ◌*◌, ◌≤◌, ◌<◌, Bool, true, false, List, [], ◌∷◌, eqb, length}
use Rattle.std.proofs.Common.{arith}
use Rattle.base.specs.All.{All}
use Rattle.memory.specs.Limits.{list_terms}
use Rattle.memory.specs.Ranges.{raw_limit, weight_limit}
use Rattle.numeric.specs.Threshold.{Term, Threshold}
use Rattle.row.specs.Terms.{row_terms, total}
use Rattle.row.specs.TermsLaws.{all_map}
use Rattle.row.specs.SumLaws.{row-total}
use Rattle.rows.specs.Rows.{Row, Edge, edge, edges_in, edges_from}
use Rattle.theorem_limits.specs.BuiltLaws.{every_append}

total-most : (ts : List Term) → All (λ (u : Term). u.weight < raw_limit) ts → total ts + length ts ≤ length ts * raw_limit
unfolding total
total-most [] a = omega arith
total-most (t ∷ ts) a = omega (arith, total-most ts a.1, a.0)

weight_most : (ts : List Term) → All (λ (u : Term). u.weight ≤ total ts) ts
unfolding total
weight_most [] = tt
weight_most (t ∷ ts) = (omega arith, all_map (λ (u : Term). u.weight ≤ total ts) (λ (u : Term). u.weight ≤ t.weight + total ts) ts (λ u k. omega arith) (weight_most ts))

-- ---- each row of a job

abbrev pub Few : Threshold → Type 0
Few t = (length t.terms ≤ list_terms) × All (λ (u : Term). u.weight < raw_limit) t.terms

pub row-most : (t : Threshold) → Few t → total (row_terms t.terms) < weight_limit
row-most t f = omega (arith, row-total t.terms, total-most t.terms f.1, f.0)

pub weights : (rs : List Row) → All (λ (r : Row). total r.terms < weight_limit) rs → All (λ (r : Row). All (λ (u : Term). u.weight < weight_limit) r.terms) rs
weights rs a =
    all_map (λ (r : Row). total r.terms < weight_limit) (λ (r : Row). All (λ (u : Term). u.weight < weight_limit) r.terms) rs
    (λ r k. all_map (λ (u : Term). u.weight ≤ total r.terms) (λ (u : Term). u.weight < weight_limit) r.terms (λ u h. omega arith) (weight_most r.terms)) a

-- ---- edges

edges_in_lem : (c r : ℕ) (ts : List Term) → All (λ (u : Term). u.weight < weight_limit) ts → All (λ (e : Edge). e.weight < weight_limit) (edges_in c r ts)
unfolding edges_in
edges_in_lem c r [] a = tt
edges_in_lem c r (t ∷ ts) a = by (edges_in_lem c r ts a.1) (eqb t.condition c)
  where
    by : All (λ (e : Edge). e.weight < weight_limit) (edges_in c r ts) → (b : Bool)
        → All (λ (e : Edge). e.weight < weight_limit) (elim b [ true ↦ edge r t.weight ∷ edges_in c r ts | false ↦ edges_in c r ts ])
    by ih true = (a.0, ih)
    by ih false = ih

pub edges_light : (c k : ℕ) (rs : List Row) → All (λ (r : Row). All (λ (u : Term). u.weight < weight_limit) r.terms) rs → All (λ (e : Edge). e.weight < weight_limit) (edges_from c k rs)
unfolding edges_from
edges_light c k [] a = tt
edges_light c k (r ∷ rs) a =
    every_append (λ (e : Edge). e.weight < weight_limit) (edges_in c k r.terms) (edges_from c (k + 1) rs) (edges_in_lem c k r.terms a.0) (edges_light c (k + 1) rs a.1)
