-- WHAT THE SEAL LAYS OUT SERVES: buffers in whose front the lists of a job within the limits stand are all that settling and sifting
-- require. Assumes nothing.
use Rattle.std.specs.Prelude.{ℕ, zero, suc, ◌+◌, ◌-◌, ◌<◌, ◌≤◌, ◌^◌, ◌≡◌, refl, Bool, true, false, List, [], ◌∷◌, ◌++◌, map, eqb, length, get_or, ℤ, pos, negsuc}
use Rattle.std.proofs.Common.{le_refl, not-suc-le-zero, le_of_suc-le-suc, arith, sym, ap, ◌∙◌, subst, length-append, leb-true}
use Rattle.std.proofs.lemmas.List.{length-map}
use Rattle.std.proofs.Math.ListN.{get_or-append}
use Rattle.std.specs.Int.Signed.{mag}
use Rattle.base.specs.All.{All}
use Rattle.base.specs.AllLaws.{all_each}
use Rattle.memory.specs.Limits.{max_nodes, max_terms}
use Rattle.memory.specs.Ranges.{raw_limit, weight_limit, total_limit, figure_limit}
use Rattle.memory.specs.Buffers.{Built}
use Rattle.base.specs.Laid.{join_all, ends, numbers}
use Rattle.base.specs.Columns.{column}
use Rattle.base.specs.ColumnsLaws.{length-column}
use Rattle.numeric.specs.Threshold.{Term, Threshold, Job}
use Rattle.numeric.specs.Slices.{Below}
use Rattle.row.specs.Terms.{merged, total}
use Rattle.row.specs.TermsLaws.{all_map, all_sorted, conditions-merged}
use Rattle.rows.specs.Guards.{Bound}
use Rattle.base.specs.Parts.{stretch}
use Rattle.rows.specs.ListsLaws.{stretch-length, length-terms}
use Rattle.rows.specs.Rows.{Row, no_row, Guard, guard, rows_of, Edge, edges_of}
use Rattle.theorem_table.proofs.LayoutLaws.{row_made}
use Rattle.rows.specs.Laid.{threshold_of, row_of_node, edge_lists, edge_row}
use Rattle.links.specs.Links.{links, neighbours, neighbour_lists}
use Rattle.base.specs.LaidLaws.{length-numbers}
use Rattle.row_moves.specs.Between.{Index}
use Rattle.row_moves.specs.Held.{start_by, end_by, edge_in, Inside, Shaped, EdgesShaped, LinksShaped, GuardsShaped, Holds, no_threshold, row_at, HoldsGuards}
use Rattle.row_moves.specs.Ready.{Totals, Names}
use Rattle.drain.specs.Drain.{index_of}
use Rattle.theorem_limits.specs.BuiltLaws.{every_append, every_at, rows_every, rows_few, There, all_there, edges_from_lem, linked-rows, indexed, fits_node, fits_condition}
use Rattle.theorem_limits.specs.Good.{Fit, Fits, Light}
use Rattle.theorem_limits.specs.SizeLaws.{row-terms_few}
use Rattle.theorem_follows.specs.BuiltLaws.{built, guard_threshold, rows-ordered}
use Rattle.theorem_keeps.specs.Serves.{Serves}
use Rattle.theorem_keeps.specs.Tries.{Short}
use Rattle.theorem_holds.specs.HoldsLaws.{LaidRows, inside_laid, front, holds_rows, shaped_rows, holds_edges, holds_links, holds_guards}
use Rattle.theorem_holds.specs.WeightsLaws.{weights, edges_light}
use Rattle.theorem_holds.proofs.WeightsLaws.{totals}
use Rattle.theorem_holds.specs.Lent.{bounds_of}

-- What the seal laid of a job, as it is lent: `rows` and `nodes` cut to their number. What stands behind the lists in the other
-- buffers are conditions, weights and nodes, too.
pub record Laid (j : Job) (b : Built) : Type 0 where
  pub rows : LaidRows (rows_of j) b.held
  pub links_end : column 2 b.held.rows ≡ ends 0 (neighbour_lists (rows_of j))
  pub numbered : column 0 b.nodes ≡ map (threshold_of 0 j.thresholds) (numbers 0 j.nodes)
  pub placed : column 1 b.nodes ≡ map (row_of_node (rows_of j) j.thresholds) (numbers 0 j.nodes)
  pub edges_end : column 2 b.nodes ≡ ends 0 (edge_lists j.nodes (rows_of j))
  pub more_edges : List (List ℕ)
  pub edges : b.edges ≡ map edge_row (join_all (edge_lists j.nodes (rows_of j))) ++ more_edges
  pub few_edges : length b.edges ≤ max_terms
  pub more_links : List ℕ
  pub links : b.links ≡ join_all (neighbour_lists (rows_of j)) ++ more_links
  pub weighed : length b.held.row-weights ≡ length b.held.row-conditions
  pub named : length b.held.guard_nodes ≡ length b.held.guard_bounds
  pub conditions : Below max_nodes b.held.row-conditions
  pub weights : Below (2 ^ 63) b.held.row-weights
  pub guards : Below max_nodes b.held.guard_nodes

-- All that sealing, settling and sifting require of them.
pub record Served (j : Job) (b : Built) : Type 0 where
  pub serves : Serves (index_of j) (bounds_of j) b
  pub totals : Totals total_limit b.held.row-conditions b.held.row-weights b.held.rows
  pub short : Short b.held.rows
  pub many : length b.nodes ≡ j.nodes

-- ---- lists in front of a buffer

every_in : {X : Type 0} (P : X → Type 0) (d : X) (xs : List X) → All P xs → (i : ℕ) → i < length xs → P (get_or xs i d)
every_in P d [] a i h = absurd (not-suc-le-zero h)
every_in P d (x ∷ xs) a zero h = a.0
every_in P d (x ∷ xs) a (suc i) h = every_in P d xs a.1 i (le_of_suc-le-suc h)

every_front : {X : Type 0} (P : X → Type 0) (d : X) (xs more : List X) → All P xs → (i : ℕ) → i < length xs → P (get_or (xs ++ more) i d)
every_front P d xs more a i h = subst P (sym (get_or-append xs more d i h)) (every_in P d xs a i h)

pub every_image : {X Y : Type 0} (P : Y → Type 0) (f : X → Y) (xs : List X) → All (λ (x : X). P (f x)) xs → All P (map f xs)
every_image P f [] a = tt
every_image P f (x ∷ xs) a = (a.0, every_image P f xs a.1)

pub every_joined : {X Y : Type 0} (P : Y → Type 0) (f : X → List Y) (xs : List X) → ((x : X) → All P (f x)) → All P (join_all (map f xs))
unfolding join_all
every_joined P f [] h = tt
every_joined P f (x ∷ xs) h = every_append P (f x) (join_all (map f xs)) (h x) (every_joined P f xs h)

-- ---- thresholds by their number

number_most : (k : ℕ) (ts : List Threshold) (n : ℕ) → threshold_of k ts n ≤ k + length ts
unfolding threshold_of
number_most k [] n = omega arith
number_most k (t ∷ ts) n = by (number_most (k + 1) ts n) (eqb t.node n)
  where
    by : threshold_of (k + 1) ts n ≤ k + 1 + length ts → (b : Bool) → let m : ℕ = elim b [ true ↦ k + 1 | false ↦ threshold_of (k + 1) ts n ] in m ≤ k + suc (length ts)
    by ih true = omega arith
    by ih false = omega arith

-- EVERY THRESHOLD HAS A ROW
pub row_there : (j : Job) (t : ℕ) → t < length j.thresholds → row_at (index_of j) t < length (rows_of j)
row_there j t h = every_in (λ (u : Threshold). There u.terms (rows_of j)) no_threshold j.thresholds (all_there j.thresholds []) t h

bound_small : (b : ℤ) → Bound b → mag b < figure_limit
bound_small (pos n) h = omega (arith, leb-true n 4503599627370496 h.high)
bound_small (negsuc n) h = omega (arith, leb-true n 4503599627370495 h.low)

-- ---- what a threshold and its terms name

abbrev Named : (ℕ → Type 0) → Threshold → Type 0
Named Ok t = Ok t.node × All (λ (u : Term). Ok u.condition) t.terms

-- ROWS NAME ONLY WHAT THRESHOLDS NAME
rows_names : (Ok : ℕ → Type 0) (j : Job) → All (Named Ok) j.thresholds → (r : ℕ) → r < length (rows_of j) → Names Ok (get_or (rows_of j) r no_row)
rows_names Ok j h r k = record {
  guards = λ g i.
      let o = guard_threshold j (index_of j) (built j (index_of j) refl refl refl) r g (k, i) in
      subst Ok (sym o.2) (all_each (Named Ok) j.thresholds h o.0 o.1).0;
  terms = all_each (λ (u : Term). Ok u.condition) (get_or (rows_of j) r no_row).terms
      (rows_every (λ (y : Row). All (λ (u : Term). Ok u.condition) y.terms) (Named Ok)
      (λ t q. all_sorted (λ (u : Term). Ok u.condition) (merged t.terms) (conditions-merged Ok t.terms q.1)) (λ t y q a. a) tt j h r);
}

pub job_names : (j : Job) → Fits j → (n : ℕ) → n ≡ j.nodes → (r : ℕ) → r < length (rows_of j) → Names (λ (i : ℕ). i < n) (get_or (rows_of j) r no_row)
job_names j f n e =
    rows_names (λ (i : ℕ). i < n) j
    (all_map (Fit j.nodes) (Named (λ (i : ℕ). i < n)) j.thresholds
    (λ t k. (omega (arith, k.node), all_map (λ (u : Term). u.condition < j.nodes) (λ (u : Term). u.condition < n) t.terms (λ u q. omega arith) k.conditions))
    f.each)

-- ---- the buffers of a job

module _ (j : Job) (f : Fits j) (light : Light raw_limit j) (b : Built) (y : Laid j b) where
  abbrev x : Index
  x = index_of j

  many : length b.nodes ≡ j.nodes
  many =
      sym (length-column 0 b.nodes) ∙ ap (λ (l : List ℕ). length l) y.numbered ∙ length-map (numbers 0 j.nodes) (threshold_of 0 j.thresholds)
      ∙ length-numbers 0 j.nodes

  holds : Holds x b.held
  holds = holds_rows x b.held
      (λ r k g i. let o = (row_made j r k).guards g i in o.3 ∙ ap (λ (z : Guard). guard z.bound z.node) (sym o.3)) y.rows

  guarded-by : HoldsGuards x b.nodes (bounds_of j)
  guarded-by =
      holds_guards x b.nodes (bounds_of j) (y.numbered ∙ ap (λ (n : ℕ). map (threshold_of 0 j.thresholds) (numbers 0 n)) (sym many))
      (y.placed ∙ ap (λ (n : ℕ). map (row_of_node (rows_of j) j.thresholds) (numbers 0 n)) (sym many)) refl

  as_many : length (bounds_of j) ≡ length j.thresholds
  as_many = length-map j.thresholds (λ (t : Threshold). t.bound)

  guarded : GuardsShaped b.held b.nodes (bounds_of j)
  guarded = record {
    inside = λ n k. omega (arith, number_most 0 j.thresholds n, guarded-by.number n k, as_many);
    rows = λ n k p.
        let i = end_by 0 b.nodes n - 1 in
        omega (arith, guarded-by.row n i k (omega arith), row_there j i (omega (arith, number_most 0 j.thresholds n, guarded-by.number n k)), holds.many);
    small = λ t k.
        every_in (λ (z : ℤ). mag z < figure_limit) (pos 0) (bounds_of j)
        (every_image (λ (z : ℤ). mag z < figure_limit) (λ (t : Threshold). t.bound) j.thresholds
        (all_map (Fit j.nodes) (λ (t : Threshold). mag t.bound < figure_limit) j.thresholds (λ t k. bound_small t.bound k.bound) f.each)) t k;
  }

  -- ---- edges

  abbrev edges : List Edge
  edges = join_all (edge_lists j.nodes (rows_of j))

  edges-inside : (m : ℕ) → length edges ≤ m → Inside 2 b.nodes m
  edges-inside m h = inside_laid 2 b.nodes (edge_lists j.nodes (rows_of j)) y.edges_end m h

  edge-has : (P : Edge → Type 0) → ((n : ℕ) → All P (edges_of (rows_of j) n)) → (n i : ℕ) → n < length b.nodes → i < end_by 2 b.nodes n → P (edge_in (get_or b.edges i []))
  edge-has P a n i k h =
      subst (λ (l : List (List ℕ)). P (edge_in (get_or l i []))) (sym y.edges)
      (every_front (λ (l : List ℕ). P (edge_in l)) [] (map edge_row edges) y.more_edges
      (every_image (λ (l : List ℕ). P (edge_in l)) edge_row edges (every_joined P (edges_of (rows_of j)) (numbers 0 j.nodes) a)) i
      (omega (arith, length-map edges edge_row, (edges-inside (length edges) (le_refl (length edges))).ends n k)))

  edged : EdgesShaped b.held b.nodes b.edges
  edged = record {
    inside = edges-inside (length b.edges) (front edge_row edges b.edges y.more_edges y.edges);
    few = y.few_edges;
    rows = λ n i k s h. edge-has (λ (e : Edge). e.row < length b.held.rows) (λ c. edges_from_lem c 0 (rows_of j) (length b.held.rows) (omega (arith, holds.many))) n i k h;
    light = λ n i k s h. edge-has (λ (e : Edge). e.weight < weight_limit) (λ c. edges_light c 0 (rows_of j) (weights (rows_of j) (totals j f light))) n i k h;
  }

  -- ---- links

  abbrev ends_of : List ℕ
  ends_of = join_all (neighbour_lists (rows_of j))

  links_inside : (m : ℕ) → length ends_of ≤ m → Inside 2 b.held.rows m
  links_inside m h = inside_laid 2 b.held.rows (neighbour_lists (rows_of j)) y.links_end m h

  linked : LinksShaped b.held b.links
  linked = record {
    inside = links_inside (length b.links) (omega (arith, ap (λ (l : List ℕ). length l) y.links, length-append ends_of y.more_links));
    rows = λ r i k s h.
        subst (λ (l : List ℕ). get_or l i 0 < length b.held.rows) (sym y.links)
        (every_front (λ (q : ℕ). q < length b.held.rows) 0 ends_of y.more_links
        (every_joined (λ (q : ℕ). q < length b.held.rows) (λ (r : ℕ). neighbours r (links (rows_of j))) (numbers 0 (length (rows_of j)))
        (λ r. linked-rows (rows_of j) (length b.held.rows) r (omega (arith, holds.many)))) i (omega (arith, (links_inside (length ends_of) (le_refl (length ends_of))).ends r k)));
  }

  -- ---- rows: their shape, their totals, their lengths

  shaped : Shaped b.held
  shaped = shaped_rows (rows_of j) b.held y.rows (rows_few j f) y.weighed y.named y.conditions y.weights y.guards

  row-total : (r : ℕ) → total (get_or (rows_of j) r no_row).terms < weight_limit
  unfolding total
  row-total r = every_at (λ (y : Row). total y.terms < weight_limit) no_row (rows_of j) (omega arith) (totals j f light) r

  short : Short b.held.rows
  short r k =
      let a = start_by 0 b.held.rows r in
      let e = end_by 0 b.held.rows r in
      let c = stretch-length a e b.held.row-conditions (shaped.terms.ends r k) in
      let w = stretch-length a e b.held.row-weights (omega (arith, shaped.terms.ends r k, y.weighed)) in
      let t = length-terms (stretch a e b.held.row-conditions) (stretch a e b.held.row-weights) (w ∙ sym c) in
      omega (arith, c, t, ap (λ (ts : List Term). length ts) (holds.terms r k), row-terms_few j f r)

  -- THEY SERVE
  pub served : Served j b
  served = record {
    serves = record {
      shaped = shaped;
      edged = edged;
      guarded = guarded;
      linked = linked;
      holds = holds;
      holds_edges = holds_edges x b.nodes b.edges y.more_edges (y.edges_end ∙ ap (λ (n : ℕ). ends 0 (edge_lists n (rows_of j))) (sym many))
          (y.edges ∙ ap (λ (n : ℕ). map edge_row (join_all (edge_lists n (rows_of j))) ++ y.more_edges) (sym many));
      holds_guards = guarded-by;
      holds_links = holds_links x b.held b.links y.more_links refl holds.many y.links_end y.links;
      indexed = indexed j f;
      ordered = λ r k. rows-ordered j (record { nodes = fits_node j f; conditions = fits_condition j f }) r k;
      names = job_names j f (length b.nodes) many;
    };
    totals = λ r k. subst (λ (ts : List Term). total ts < total_limit) (holds.terms r k) (omega (arith, row-total r));
    short = short;
    many = many;
  }
