-- What `prepare` and the links lay into the buffers, one row behind the other, is what draining reads: the records of `between`
-- that an index and buffers agree, from what stands in the buffers. Assumes nothing.
use Rattle.std.specs.Prelude.{ℕ, zero, suc, ◌+◌, ◌<◌, ◌≤◌, ◌^◌, ◌≡◌, refl, Bool, true, false, eqb, length, get_or, ℤ}
use Rattle.std.proofs.Common.{not-suc-le-zero, arith, sym, ap, ap₂, ◌∙◌, length-append}
use mathlib.Core.List.{List, [], ◌∷◌, ◌++◌, map, append-nil, Memᴰ}
use Rattle.std.proofs.lemmas.List.{length-map}
use Rattle.std.proofs.Math.ListN.{get_or-map}
use Rattle.memory.specs.Limits.{max_nodes, max_thresholds}
use Rattle.memory.specs.Buffers.{HeldRows}
use Rattle.base.specs.Laid.{join_all, ends, numbers}
use Rattle.base.specs.Columns.{column}
use Rattle.base.specs.ColumnsLaws.{column-at}
use Rattle.numeric.specs.Threshold.{Term, Threshold}
use Rattle.numeric.specs.Slices.{Below, terms}
use Rattle.rows.specs.Rows.{Row, no_row, Guard, guard, edges_of, row_number}
use Rattle.rows.specs.Laid.{conditions, weights, term_lists, guard_lists, guard_bounds_of, guard_nodes_of, edge_lists, edge_row, threshold_of, row_of_node}
use Rattle.links.specs.Links.{links, neighbours, neighbour_lists}
use Rattle.row_runs.specs.Guards.{guards}
use Rattle.job.specs.RowsGivenLaidLaws.{laid_long, laid_rising, laid_inside, over_part, over-figures}
use Rattle.job.specs.RowsGivenHeldLaws.{terms_back}
use Rattle.row_moves.specs.Between.{Index}
use Rattle.row_moves.specs.Held.{end_by, stretch_by, held_terms, held_guards, Inside, Shaped, Holds, HoldsEdges, HoldsLinks, no_threshold, HoldsGuards}

-- The buffers hold a guard's bound and node; all else is as every guard has it.
abbrev pub Plain : List Guard → Type 0
Plain gs = (g : Guard) → Memᴰ g gs → g ≡ guard g.bound g.node

guards_back : (gs : List Guard) → Plain gs → guards (map (λ (g : Guard). g.bound) gs) (map (λ (g : Guard). g.node) gs) ≡ gs
unfolding guards
guards_back [] h = refl
guards_back (g ∷ gs) h = ap₂ (λ (y : Guard) (l : List Guard). y ∷ l) (sym (h g (Memᴰ.head refl))) (guards_back gs (λ y i. h y (Memᴰ.tail i)))

-- What is made of the numbers stands at its own.
at-numbers : {X : Type 0} (f : ℕ → X) (d : X) (s many n : ℕ) → n < many → get_or (map f (numbers s many)) n d ≡ f (s + n)
unfolding numbers
at-numbers f d s zero n h = absurd (not-suc-le-zero h)
at-numbers f d s (suc many) zero h = ap f (omega arith)
at-numbers f d s (suc many) (suc n) h = at-numbers f d (s + 1) many n (omega arith) ∙ ap f (omega arith)

-- ---- by a column

module _ {X : Type 0} (j : ℕ) (table : List (List ℕ)) (ls : List (List X)) (e : column j table ≡ ends 0 ls) where
  open-ends : column j table ≡ ends 0 ls ++ []
  open-ends = e ∙ sym (append-nil (ends 0 ls))

  long : length table ≡ length ls
  long = laid_long j table ls e

  -- The stretch of entry n is list n, or one of its figures.
  stretch-is : {Y : Type 0} (f : X → Y) (rest : List Y) (n : ℕ) → n < length table → stretch_by j table n (map f (join_all ls) ++ rest) ≡ map f (get_or ls n [])
  stretch-is f rest n k = over-figures j table ls [] open-ends n (omega (arith, long)) f rest

  list_is : (rest : List X) (n : ℕ) → n < length table → stretch_by j table n (join_all ls ++ rest) ≡ get_or ls n []
  list_is rest n k = over_part j table ls [] open-ends n (omega (arith, long)) rest

  pub inside_laid : (many : ℕ) → length (join_all ls) ≤ many → Inside j table many
  inside_laid many h = record {
    rising = λ n k. omega (arith, laid_rising j table ls e n (omega (arith, long)));
    ends = λ n k. omega (arith, laid_inside j table ls e n (omega (arith, long)));
  }

-- ---- rows

-- Terms and guards of the rows, and where they end.
pub record LaidRows (rs : List Row) (h : HeldRows) : Type 0 where
  pub more_conditions : List ℕ
  pub more_weights : List ℕ
  pub more_bounds : List ℤ
  pub more_nodes : List ℕ
  pub conditions : h.row-conditions ≡ conditions (join_all (term_lists rs)) ++ more_conditions
  pub weights : h.row-weights ≡ weights (join_all (term_lists rs)) ++ more_weights
  pub bounds : h.guard_bounds ≡ guard_bounds_of rs ++ more_bounds
  pub nodes : h.guard_nodes ≡ guard_nodes_of rs ++ more_nodes
  pub terms_end : column 0 h.rows ≡ ends 0 (term_lists rs)
  pub guards_end : column 1 h.rows ≡ ends 0 (guard_lists rs)

pub holds_rows : (x : Index) (h : HeldRows) → ((r : ℕ) → r < length x.rows → Plain (get_or x.rows r no_row).guards) → LaidRows x.rows h → Holds x h
holds_rows x h plain l = record { many = many; terms = ts; guards = gs }
  where
    many : length x.rows ≡ length h.rows
    many = sym (long 0 h.rows (term_lists x.rows) l.terms_end ∙ length-map x.rows (λ (r : Row). r.terms))

    ts : (r : ℕ) → r < length h.rows → (get_or x.rows r no_row).terms ≡ held_terms h r
    ts r k =
        let ls = term_lists x.rows in
        let c = stretch-is 0 h.rows ls l.terms_end (λ (t : Term). t.condition) l.more_conditions r k in
        let w = stretch-is 0 h.rows ls l.terms_end (λ (t : Term). t.weight) l.more_weights r k in
        sym (get_or-map (λ (y : Row). y.terms) x.rows r no_row) ∙ sym (terms_back (get_or ls r []))
        ∙ ap₂ terms (sym c ∙ ap (stretch_by 0 h.rows r) (sym l.conditions)) (sym w ∙ ap (stretch_by 0 h.rows r) (sym l.weights))

    gs : (r : ℕ) → r < length h.rows → (get_or x.rows r no_row).guards ≡ held_guards h r
    gs r k =
        let ls = guard_lists x.rows in
        let b = stretch-is 1 h.rows ls l.guards_end (λ (g : Guard). g.bound) l.more_bounds r k in
        let n = stretch-is 1 h.rows ls l.guards_end (λ (g : Guard). g.node) l.more_nodes r k in
        sym (guards_back (get_or x.rows r no_row).guards (plain r (omega (arith, many))))
        ∙ ap (λ (y : List Guard). guards (map (λ (g : Guard). g.bound) y) (map (λ (g : Guard). g.node) y)) (sym (get_or-map (λ (y : Row). y.guards) x.rows r no_row))
        ∙ ap₂ guards (sym b ∙ ap (stretch_by 1 h.rows r) (sym l.bounds)) (sym n ∙ ap (stretch_by 1 h.rows r) (sym l.nodes))

-- A list in front of a buffer is no longer than it.
pub front : {X Y : Type 0} (f : X → Y) (xs : List X) (ys more : List Y) → ys ≡ map f xs ++ more → length xs ≤ length ys
front {Y = Y} f xs ys more e = omega (arith, ap (λ (l : List Y). length l) e, length-append (map f xs) more, length-map xs f)

-- Rows laid so can be run, if their nodes and weights are in range.
pub shaped_rows : (rs : List Row) (h : HeldRows) → LaidRows rs h → length rs ≤ max_thresholds → length h.row-weights ≡ length h.row-conditions → length h.guard_nodes ≡ length h.guard_bounds
    → Below max_nodes h.row-conditions → Below (2 ^ 63) h.row-weights → Below max_nodes h.guard_nodes → Shaped h
shaped_rows rs h l few weighed named nodes light guarded = record {
  few = omega (arith, long 0 h.rows (term_lists rs) l.terms_end, length-map rs (λ (r : Row). r.terms));
  terms = inside_laid 0 h.rows (term_lists rs) l.terms_end (length h.row-conditions) (front (λ (t : Term). t.condition) (join_all (term_lists rs)) h.row-conditions l.more_conditions l.conditions);
  weighed = weighed;
  nodes = nodes;
  light = light;
  guards = inside_laid 1 h.rows (guard_lists rs) l.guards_end (length h.guard_bounds) (front (λ (g : Guard). g.bound) (join_all (guard_lists rs)) h.guard_bounds l.more_bounds l.bounds);
  named = named;
  guarded = guarded;
}

-- ---- edges, links, the guards of nodes

pub holds_edges : (x : Index) (nodes edges more : List (List ℕ)) → column 2 nodes ≡ ends 0 (edge_lists (length nodes) x.rows)
    → edges ≡ map edge_row (join_all (edge_lists (length nodes) x.rows)) ++ more → HoldsEdges x nodes edges
holds_edges x nodes edges more c e n k =
    let ls = edge_lists (length nodes) x.rows in
    sym (ap (stretch_by 2 nodes n) e ∙ stretch-is 2 nodes ls c edge_row more n k ∙ ap (map edge_row) (at-numbers (edges_of x.rows) [] 0 (length nodes) n k ∙ ap (edges_of x.rows) (omega arith)))

pub holds_links : (x : Index) (h : HeldRows) (ls more : List ℕ) → x.links ≡ links x.rows → length x.rows ≡ length h.rows
    → column 2 h.rows ≡ ends 0 (neighbour_lists x.rows) → ls ≡ join_all (neighbour_lists x.rows) ++ more → HoldsLinks x h ls
holds_links x h ls more y m c e r k =
    sym (ap (stretch_by 2 h.rows r) e ∙ list_is 2 h.rows (neighbour_lists x.rows) c more r k
    ∙ at-numbers (λ (i : ℕ). neighbours i (links x.rows)) [] 0 (length x.rows) r (omega arith)
    ∙ ap (λ (i : ℕ). neighbours i (links x.rows)) (omega arith) ∙ ap (neighbours r) (sym y))

-- ---- thresholds by their number

number_above : (k : ℕ) (ts : List Threshold) (n : ℕ) → 0 < threshold_of k ts n → k < threshold_of k ts n
unfolding threshold_of
number_above k [] n h = absurd (not-suc-le-zero h)
number_above k (t ∷ ts) n h = by (number_above (k + 1) ts n) (eqb t.node n) h
  where
    by : (0 < threshold_of (k + 1) ts n → k + 1 < threshold_of (k + 1) ts n) → (b : Bool)
        → let m : ℕ = elim b [ true ↦ k + 1 | false ↦ threshold_of (k + 1) ts n ] in 0 < m → k < m
    by ih true q = omega arith
    by ih false q = omega (arith, ih q)

-- A node that is threshold i has the row of threshold i.
pub number_row : (rs : List Row) (k : ℕ) (ts : List Threshold) (n i : ℕ) → threshold_of k ts n ≡ k + suc i → row_of_node rs ts n ≡ row_number rs (get_or ts i no_threshold).terms
unfolding threshold_of row_of_node
number_row rs k [] n i e = absurd (omega arith)
number_row rs k (t ∷ ts) n i e = by (λ m q. number_row rs (k + 1) ts n m q) (eqb t.node n) i e
  where
    by : ((m : ℕ) → threshold_of (k + 1) ts n ≡ k + 1 + suc m → row_of_node rs ts n ≡ row_number rs (get_or ts m no_threshold).terms) → (b : Bool) (m : ℕ)
        → let c : ℕ = elim b [ true ↦ k + 1 | false ↦ threshold_of (k + 1) ts n ] in c ≡ k + suc m
        → let r : ℕ = elim b [ true ↦ row_number rs t.terms | false ↦ row_of_node rs ts n ] in r ≡ row_number rs (get_or (t ∷ ts) m no_threshold).terms
    by ih true zero q = refl
    by ih true (suc m) q = absurd (omega arith)
    by ih false zero q = absurd (omega (arith, number_above (k + 1) ts n (omega arith)))
    by ih false (suc m) q = ih m (omega arith)

pub holds_guards : (x : Index) (nodes : List (List ℕ)) (bounds : List ℤ) → column 0 nodes ≡ map (threshold_of 0 x.thresholds) (numbers 0 (length nodes))
    → column 1 nodes ≡ map (row_of_node x.rows x.thresholds) (numbers 0 (length nodes)) → bounds ≡ map (λ (t : Threshold). t.bound) x.thresholds
    → HoldsGuards x nodes bounds
holds_guards x nodes bounds a b l = record {
  number = number;
  row = λ n t k e. at n k ∙ number_row x.rows 0 x.thresholds n t (number n k ∙ e ∙ omega arith);
  bounds = sym l;
}
  where
    number : (n : ℕ) → n < length nodes → threshold_of 0 x.thresholds n ≡ end_by 0 nodes n
    number n k =
        sym (sym (column-at 0 nodes n) ∙ ap (λ (y : List ℕ). get_or y n 0) a ∙ at-numbers (threshold_of 0 x.thresholds) 0 0 (length nodes) n k ∙ ap (threshold_of 0 x.thresholds) (omega arith))

    at : (n : ℕ) → n < length nodes → end_by 1 nodes n ≡ row_of_node x.rows x.thresholds n
    at n k =
        sym (column-at 1 nodes n) ∙ ap (λ (y : List ℕ). get_or y n 0) b ∙ at-numbers (row_of_node x.rows x.thresholds) 0 0 (length nodes) n k
        ∙ ap (row_of_node x.rows x.thresholds) (omega arith)
