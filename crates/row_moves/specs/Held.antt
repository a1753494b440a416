-- Rows, edges, links and thresholds as the buffers hold them, and what it is that an index and buffers agree.
use Rattle.std.specs.Prelude.{ℕ, ◌+◌, ◌-◌, ◌<◌, ◌≤◌, ◌^◌, ◌≡◌, List, [], map, length, get_or, ℤ, pos}
use Rattle.std.specs.Int.Signed.{mag}
use Rattle.memory.specs.Buffers.{HeldRows}
use Rattle.numeric.specs.Threshold.{Term, Threshold}
use Rattle.rows.specs.Rows.{Row, row_of, no_row, Guard, Edge, edge, edges_of, row_number}
unfoldable pub use Rattle.base.specs.Parts.{start_by}
pub use Rattle.base.specs.Parts.{end_by, stretch_by, Inside}
use Rattle.rows.specs.Laid.{edge_row, threshold_of}
use Rattle.links.specs.Links.{neighbours}
use Rattle.numeric.specs.Slices.{Below, terms}
use Rattle.row_runs.specs.Guards.{guards}
use Rattle.memory.specs.Limits.{max_nodes, max_terms, max_thresholds}
use Rattle.memory.specs.Ranges.{figure_limit, weight_limit}
use Rattle.row_moves.specs.Between.{Index}

-- Row r as the buffers hold it. The raw list that it was made of is not in them.
abbrev pub held_terms : HeldRows → ℕ → List Term
held_terms h r = terms (stretch_by 0 h.rows r h.row-conditions) (stretch_by 0 h.rows r h.row-weights)

abbrev pub held_guards : HeldRows → ℕ → List Guard
held_guards h r = guards (stretch_by 1 h.rows r h.guard_bounds) (stretch_by 1 h.rows r h.guard_nodes)

abbrev pub held_row : HeldRows → ℕ → Row
held_row h r = row_of [] (held_terms h r) (held_guards h r)

-- An edge as the buffer holds it.
abbrev pub edge_in : List ℕ → Edge
edge_in l = edge (get_or l 0 0) (get_or l 1 0)

abbrev pub edges_in : List (List ℕ) → List Edge
edges_in ls = map edge_in ls

-- ---- what buffers must be like, whatever job they hold

-- Stretches by column j rise.
abbrev pub Rising : ℕ → List (List ℕ) → Type 0
Rising j table = (n : ℕ) → n < length table → start_by j table n ≤ end_by j table n

-- Of the rows: conditions and guards are nodes, weights fit a signed number.
pub record Shaped (h : HeldRows) : Type 0 where
  pub few : length h.rows ≤ max_thresholds
  pub terms : Inside 0 h.rows (length h.row-conditions)
  pub weighed : length h.row-weights ≡ length h.row-conditions
  pub nodes : Below max_nodes h.row-conditions
  pub light : Below (2 ^ 63) h.row-weights
  pub guards : Inside 1 h.rows (length h.guard_bounds)
  pub named : length h.guard_nodes ≡ length h.guard_bounds
  pub guarded : Below max_nodes h.guard_nodes

-- Of the edges by column 2 of the nodes: each names a row.
pub record EdgesShaped (h : HeldRows) (nodes edges : List (List ℕ)) : Type 0 where
  pub inside : Inside 2 nodes (length edges)
  pub few : length edges ≤ max_terms
  pub rows : (n i : ℕ) → n < length nodes → start_by 2 nodes n ≤ i → i < end_by 2 nodes n → (edge_in (get_or edges i [])).row < length h.rows
  pub light : (n i : ℕ) → n < length nodes → start_by 2 nodes n ≤ i → i < end_by 2 nodes n → (edge_in (get_or edges i [])).weight < weight_limit

-- Of the neighbours by column 2 of the rows: each is a row.
pub record LinksShaped (h : HeldRows) (links : List ℕ) : Type 0 where
  pub inside : Inside 2 h.rows (length links)
  pub rows : (r i : ℕ) → r < length h.rows → start_by 2 h.rows r ≤ i → i < end_by 2 h.rows r → get_or links i 0 < length h.rows

-- Of the nodes' thresholds, counted from 1: each has a bound and a row. A node that is none has 0 in column 0, and in column 1 anything.
pub record GuardsShaped (h : HeldRows) (nodes : List (List ℕ)) (bounds : List ℤ) : Type 0 where
  pub inside : (n : ℕ) → n < length nodes → end_by 0 nodes n ≤ length bounds
  pub rows : (n : ℕ) → n < length nodes → 0 < end_by 0 nodes n → end_by 1 nodes n < length h.rows
  pub small : (t : ℕ) → t < length bounds → mag (get_or bounds t (pos 0)) < figure_limit

-- ---- an index and buffers agree

pub record Holds (x : Index) (h : HeldRows) : Type 0 where
  pub many : length x.rows ≡ length h.rows
  pub terms : (r : ℕ) → r < length h.rows → (get_or x.rows r no_row).terms ≡ held_terms h r
  pub guards : (r : ℕ) → r < length h.rows → (get_or x.rows r no_row).guards ≡ held_guards h r

abbrev pub HoldsEdges : Index → List (List ℕ) → List (List ℕ) → Type 0
HoldsEdges x nodes edges = (n : ℕ) → n < length nodes → map edge_row (edges_of x.rows n) ≡ stretch_by 2 nodes n edges

abbrev pub HoldsLinks : Index → HeldRows → List ℕ → Type 0
HoldsLinks x h links = (r : ℕ) → r < length h.rows → neighbours r x.links ≡ stretch_by 2 h.rows r links

-- Column 2 of the rows tells how many neighbours each has.
abbrev pub CountsLinks : Index → List (List ℕ) → Type 0
CountsLinks x rows = (r : ℕ) → r < length rows → length (neighbours r x.links) ≡ end_by 2 rows r - start_by 2 rows r

abbrev pub no_threshold : Threshold
no_threshold = record { node = 0; bound = pos 0; terms = [] }

-- The row of the t-th threshold.
abbrev pub row_at : Index → ℕ → ℕ
row_at x t = row_number x.rows (get_or x.thresholds t no_threshold).terms

-- Column 0 of the nodes is the number of a node's threshold, counted from 1, and column 1 its row.
pub record HoldsGuards (x : Index) (nodes : List (List ℕ)) (bs : List ℤ) : Type 0 where
  pub number : (n : ℕ) → n < length nodes → threshold_of 0 x.thresholds n ≡ end_by 0 nodes n
  pub row : (n t : ℕ) → n < length nodes → end_by 0 nodes n ≡ t + 1 → end_by 1 nodes n ≡ row_at x t
  pub bounds : map (λ (t : Threshold). t.bound) x.thresholds ≡ bs
