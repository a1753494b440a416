-- WHAT `build` LEAVES, as it is lent on: the rows cut to their number, the nodes to the node count, the bounds to the number of
-- thresholds. The lists of the job stand in front of each buffer. Assumes nothing.
use Rattle.std.specs.Prelude.{ℕ, zero, suc, ◌+◌, ◌-◌, ◌<◌, ◌≤◌, ◌^◌, ◌≡◌, refl, length, get_or, take, replicate, pos}
use Rattle.std.proofs.Common.{suc-le-suc, not-suc-le-zero, le_of_suc-le-suc, sym, ap, ◌∙◌, length-append, length-drop}
use native.Mathlib.Omega.{arith}
use mathlib.Core.List.{List, [], ◌∷◌, ◌++◌, map, Memᴰ}
use Rattle.std.proofs.Math.ListN.{drop, length-map}
use Rattle.std.proofs.Math.Seq.{take-append_seam}
use Rattle.base.specs.All.{All}
use Rattle.base.specs.Laid.{over, join_all, ends, triples, numbers}
use Rattle.base.specs.Columns.{column}
use Rattle.base.specs.ColumnsLaws.{length-column}
use Rattle.numeric.specs.Threshold.{Term, Threshold, Job}
use Rattle.numeric.specs.Slices.{Below}
use Rattle.row.specs.TermsLaws.{all_map}
use Rattle.rows.specs.Rows.{Row, no_row, rows_of, Guard, edges_of}
use Rattle.rows.specs.Laid.{conditions, weights, term_lists, guard_lists, guard_bounds_of, guard_nodes_of, threshold_of, row_of_node, edge_lists, edge_row}
use Rattle.links.specs.Links.{links, neighbours, neighbour_lists}
use Rattle.job.specs.RowsGivenLaidLaws.{length-ends}
use Rattle.job.specs.NodesGivenLaws.{triples_columns}
use Rattle.memory.specs.Limits.{max_nodes, max_terms}
use Rattle.memory.specs.Ranges.{raw_limit, weight_limit}
use Rattle.memory.specs.Buffers.{Raw, Built, zeros, clear_built}
use Rattle.job.specs.JobBuffers.{raw_of, built_with, built_of}
use Rattle.job.specs.JobBuffersLaws.{length-first}
use Rattle.theorem_limits.specs.BuiltLaws.{every_append, every_mem}
use Rattle.theorem_limits.specs.Good.{Fits, Light}
use Rattle.theorem_limits.specs.SizeLaws.{zeros_long, edges_most}
use Rattle.theorem_holds.specs.WeightsLaws.{weights as row-weights}
use Rattle.theorem_holds.proofs.WeightsLaws.{totals}
use Rattle.theorem_holds.proofs.ServedLaws.{Laid, Served, every_image, job_names, served}
use Rattle.theorem_holds.specs.Lent.{bounds_of, lent_of, Lendable}

-- The bounds are those of the raw buffers.
pub bounds_lent : (j : Job) (w : Raw) → take (length j.thresholds) (raw_of j w).bounds ≡ bounds_of j
unfolding raw_of
bounds_lent j w =
    let l = bounds_of j in
    ap (λ (n : ℕ). take n (over l w.bounds)) (sym (length-map j.thresholds (λ (t : Threshold). t.bound))) ∙ take-append_seam l (drop (length l) w.bounds)

-- ---- cleared buffers are such

zeros-below : (n : ℕ) → 0 < n → (l : List ℕ) → Below n (zeros 0 l)
unfolding zeros
zeros-below n h [] i k = h
zeros-below n h (x ∷ l) zero k = h
zeros-below n h (x ∷ l) (suc i) k = zeros-below n h l i (le_of_suc-le-suc k)

pub lendable_clear : (w : Built) → length w.held.row-weights ≡ length w.held.row-conditions → length w.held.guard_nodes ≡ length w.held.guard_bounds → length w.edges ≤ max_terms → Lendable (clear_built w)
unfolding clear_built
lendable_clear w a b c = record {
  weighed = zeros_long 0 w.held.row-weights ∙ a ∙ sym (zeros_long 0 w.held.row-conditions);
  named = zeros_long 0 w.held.guard_nodes ∙ b ∙ sym (zeros_long (pos 0) w.held.guard_bounds);
  edges = omega (arith, zeros_long (replicate 2 0) w.edges);
  conditions = zeros-below max_nodes (omega arith) w.held.row-conditions;
  weights = zeros-below (2 ^ 63) (omega arith) w.held.row-weights;
  guards = zeros-below max_nodes (omega arith) w.held.guard_nodes;
}

-- ---- lists laid over buffers

over_long : {X : Type 0} (l b : List X) → length (over l b) ≡ length l + (length b - length l)
over_long l b = length-append l (drop (length l) b) ∙ ap (λ (n : ℕ). length l + n) (length-drop (length l) b)

below-append : (n : ℕ) (l r : List ℕ) → All (λ (k : ℕ). k < n) l → Below n r → Below n (l ++ r)
below-append n [] r a h i k = h i k
below-append n (x ∷ l) r a h zero k = a.0
below-append n (x ∷ l) r a h (suc i) k = below-append n l r a.1 h i (le_of_suc-le-suc k)

below-drop : (n k : ℕ) (l : List ℕ) → Below n l → Below n (drop k l)
below-drop n zero l h i q = h i q
below-drop n (suc k) [] h i q = absurd (not-suc-le-zero q)
below-drop n (suc k) (x ∷ l) h i q = below-drop n k l (λ m r. h (suc m) (suc-le-suc r)) i q

below-over : (n : ℕ) (l b : List ℕ) → All (λ (k : ℕ). k < n) l → Below n b → Below n (over l b)
below-over n l b a h = below-append n l (drop (length l) b) a (below-drop n (length l) b h)

-- Triples cut to their number have their three columns.
cut-triples : (xs ys zs : List ℕ) → length ys ≡ length xs → length zs ≡ length xs → (n : ℕ) → length xs ≡ n → (b : List (List ℕ))
    → let t = take n (over (triples xs ys zs) b) in (column 0 t ≡ xs) × (column 1 t ≡ ys) × (column 2 t ≡ zs)
cut-triples xs ys zs p q n e b =
    let l = triples xs ys zs in
    let c = triples_columns xs ys zs p q in
    let many : n ≡ length l = sym (sym (length-column 0 l) ∙ ap (λ (k : List ℕ). length k) c.0 ∙ e) in
    let cut = ap (λ (k : ℕ). take k (over l b)) many ∙ take-append_seam l (drop (length l) b) in
    (ap (column 0) cut ∙ c.0, ap (column 1) cut ∙ c.1, ap (column 2) cut ∙ c.2)

-- What each row has of its own, all rows have together.
every_row : {X : Type 0} (P : X → Type 0) (f : Row → List X) (rs : List Row) → ((r : ℕ) → r < length rs → (u : X) → Memᴰ u (f (get_or rs r no_row)) → P u) → All P (join_all (map f rs))
unfolding join_all
every_row P f [] h = tt
every_row P f (r ∷ rs) h =
    every_append P (f r) (join_all (map f rs)) (every_mem P (f r) (λ u m. h 0 (omega arith) u m)) (every_row P f rs (λ i k. h (suc i) (suc-le-suc k)))

every_join : {X : Type 0} (P Q : X → Type 0) → ((u : X) → P u → Q u) → (f : Row → List X) (rs : List Row) → All (λ (r : Row). All P (f r)) rs → All Q (join_all (map f rs))
unfolding join_all
every_join P Q g f [] a = tt
every_join P Q g f (r ∷ rs) a = every_append Q (f r) (join_all (map f rs)) (all_map P Q (f r) g a.0) (every_join P Q g f rs a.1)

-- ---- WHAT `build` LEAVES IS LAID OUT

module _ (j : Job) (f : Fits j) (light : Light raw_limit j) (w : Built) (p : Lendable w) where
  abbrev rs : List Row
  rs = rows_of j

  abbrev ts : List Term
  ts = join_all (term_lists rs)

  abbrev gs : List Guard
  gs = join_all (guard_lists rs)

  all-conditions : All (λ (n : ℕ). n < max_nodes) (conditions ts)
  all-conditions =
      every_image (λ (n : ℕ). n < max_nodes) (λ (t : Term). t.condition) ts
      (every_row (λ (t : Term). t.condition < max_nodes) (λ (r : Row). r.terms) rs (λ r k u m. omega (arith, (job_names j f j.nodes refl r k).terms u m, f.nodes)))

  all-weights : All (λ (n : ℕ). n < 2 ^ 63) (weights ts)
  all-weights =
      every_image (λ (n : ℕ). n < 2 ^ 63) (λ (t : Term). t.weight) ts
      (every_join (λ (t : Term). t.weight < weight_limit) (λ (t : Term). t.weight < 2 ^ 63) (λ t k. omega arith) (λ (r : Row). r.terms) rs (row-weights rs (totals j f light)))

  all_guards : All (λ (n : ℕ). n < max_nodes) (guard_nodes_of rs)
  all_guards =
      every_image (λ (n : ℕ). n < max_nodes) (λ (g : Guard). g.node) gs
      (every_row (λ (g : Guard). g.node < max_nodes) (λ (r : Row). r.guards) rs (λ r k u m. omega (arith, (job_names j f j.nodes refl r k).guards u m, f.nodes)))

  abbrev firsts : List ℕ
  firsts = map (threshold_of 0 j.thresholds) (numbers 0 j.nodes)

  abbrev seconds : List ℕ
  seconds = map (row_of_node rs j.thresholds) (numbers 0 j.nodes)

  -- Where the terms, guards and neighbours of each row end; the threshold, the row and where the edges end of each node.
  row-columns : let t = take (length rs) (over (triples (ends 0 (term_lists rs)) (ends 0 (guard_lists rs)) (ends 0 (neighbour_lists rs))) w.held.rows) in
      (column 0 t ≡ ends 0 (term_lists rs)) × (column 1 t ≡ ends 0 (guard_lists rs)) × (column 2 t ≡ ends 0 (neighbour_lists rs))
  row-columns =
      let t : length (ends 0 (term_lists rs)) ≡ length rs = length-ends 0 (term_lists rs) ∙ length-map rs (λ (r : Row). r.terms) in
      let g : length (ends 0 (guard_lists rs)) ≡ length rs = length-ends 0 (guard_lists rs) ∙ length-map rs (λ (r : Row). r.guards) in
      let n : length (ends 0 (neighbour_lists rs)) ≡ length rs = length-ends 0 (neighbour_lists rs) ∙ length-first (λ (r : ℕ). neighbours r (links rs)) (length rs) in
      cut-triples (ends 0 (term_lists rs)) (ends 0 (guard_lists rs)) (ends 0 (neighbour_lists rs)) (g ∙ sym t) (n ∙ sym t) (length rs) t w.held.rows

  node-columns : let t = take j.nodes (over (triples firsts seconds (ends 0 (edge_lists j.nodes rs))) w.nodes) in
      (column 0 t ≡ firsts) × (column 1 t ≡ seconds) × (column 2 t ≡ ends 0 (edge_lists j.nodes rs))
  node-columns =
      let t = length-first (threshold_of 0 j.thresholds) j.nodes in
      let r = length-first (row_of_node rs j.thresholds) j.nodes in
      let e : length (ends 0 (edge_lists j.nodes rs)) ≡ j.nodes = length-ends 0 (edge_lists j.nodes rs) ∙ length-first (edges_of rs) j.nodes in
      cut-triples firsts seconds (ends 0 (edge_lists j.nodes rs)) (r ∙ sym t) (e ∙ sym t) j.nodes t w.nodes

  abbrev edges : List (List ℕ)
  edges = map edge_row (join_all (edge_lists j.nodes rs))

  laid-built : Laid j (lent_of j (built_of j w))
  unfolding built_with
  laid-built = record {
    rows = record {
      more_conditions = drop (length (conditions ts)) w.held.row-conditions;
      more_weights = drop (length (weights ts)) w.held.row-weights;
      more_bounds = drop (length (guard_bounds_of rs)) w.held.guard_bounds;
      more_nodes = drop (length (guard_nodes_of rs)) w.held.guard_nodes;
      conditions = refl;
      weights = refl;
      bounds = refl;
      nodes = refl;
      terms_end = row-columns.0;
      guards_end = row-columns.1;
    };
    links_end = row-columns.2;
    numbered = node-columns.0;
    placed = node-columns.1;
    edges_end = node-columns.2;
    more_edges = drop (length edges) w.edges;
    edges = refl;
    few_edges = omega (arith, over_long edges w.edges, length-map (join_all (edge_lists j.nodes rs)) edge_row, edges_most j f, p.edges);
    more_links = drop (length (join_all (neighbour_lists rs))) w.links;
    links = refl;
    weighed =
        omega (
          arith,
          over_long (weights ts) w.held.row-weights,
          over_long (conditions ts) w.held.row-conditions,
          length-map ts (λ (t : Term). t.weight),
          length-map ts (λ (t : Term). t.condition),
          p.weighed,
        );
    named =
        omega (
          arith,
          over_long (guard_nodes_of rs) w.held.guard_nodes,
          over_long (guard_bounds_of rs) w.held.guard_bounds,
          length-map gs (λ (g : Guard). g.node),
          length-map gs (λ (g : Guard). g.bound),
          p.named,
        );
    conditions = below-over max_nodes (conditions ts) w.held.row-conditions all-conditions p.conditions;
    weights = below-over (2 ^ 63) (weights ts) w.held.row-weights all-weights p.weights;
    guards = below-over max_nodes (guard_nodes_of rs) w.held.guard_nodes all_guards p.guards;
  }

  -- AND SERVES
  pub served-built : Served j (lent_of j (built_of j w))
  served-built = served j f light (lent_of j (built_of j w)) laid-built
