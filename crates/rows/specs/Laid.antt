-- Rows as the buffers hold them: terms and guards of all rows one behind the other, and for each node its threshold and its edges.
use Rattle.std.specs.Prelude.{ℕ, ◌+◌, true, false, List, [], ◌∷◌, map, eqb, ℤ}
use Rattle.base.specs.Laid.{join_all, numbers}
use Rattle.numeric.specs.Threshold.{Term, Threshold}
use Rattle.rows.specs.Rows.{Row, Guard, Edge, edges_of, row_number}

abbrev pub conditions : List Term → List ℕ
conditions ts = map (λ (t : Term). t.condition) ts

abbrev pub weights : List Term → List ℕ
weights ts = map (λ (t : Term). t.weight) ts

-- The terms and the guards of each row.
abbrev pub term_lists : List Row → List (List Term)
term_lists rs = map (λ (r : Row). r.terms) rs

abbrev pub guard_lists : List Row → List (List Guard)
guard_lists rs = map (λ (r : Row). r.guards) rs

abbrev pub guard_bounds_of : List Row → List ℤ
guard_bounds_of rs = map (λ (g : Guard). g.bound) (join_all (guard_lists rs))

abbrev pub guard_nodes_of : List Row → List ℕ
guard_nodes_of rs = map (λ (g : Guard). g.node) (join_all (guard_lists rs))

-- The threshold of a node, counted from 1, 0 for none; and that threshold's row.
unfoldable pub threshold_of : ℕ → List Threshold → ℕ → ℕ
threshold_of k [] n = 0
threshold_of k (t ∷ ts) n = elim (eqb t.node n) [ true ↦ k + 1 | false ↦ threshold_of (k + 1) ts n ]

unfoldable pub row_of_node : List Row → List Threshold → ℕ → ℕ
row_of_node rs [] n = 0
row_of_node rs (t ∷ ts) n = elim (eqb t.node n) [ true ↦ row_number rs t.terms | false ↦ row_of_node rs ts n ]

-- The edges of nodes 0, 1 .. of which there are so many.
abbrev pub edge_lists : ℕ → List Row → List (List Edge)
edge_lists nodes rs = map (edges_of rs) (numbers 0 nodes)

abbrev pub edge_row : Edge → List ℕ
edge_row e = e.row ∷ e.weight ∷ []
