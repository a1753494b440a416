-- What the buffers hold of a job: Raw as its records gave it, Built as the seal builds it. Behind it each buffer stays as it was.
use Rattle.std.specs.Prelude.{ℕ, List, map}
use Rattle.memory.specs.Buffers.{Raw, Built, raw_lists, raw, held_rows, built}
use Rattle.base.specs.Laid.{over, join_all, ends, pairs, triples, numbers}
use Rattle.numeric.specs.Threshold.{Term, Threshold, Job}
use Rattle.rows.specs.Rows.{rows_of}
use Rattle.rows.specs.Laid.{conditions, weights, term_lists, guard_lists, guard_bounds_of, guard_nodes_of, threshold_of, row_of_node, edge_lists, edge_row}
use Rattle.links.specs.Links.{neighbour_lists}

abbrev pub lists_of : Job → List (List Term)
lists_of j = map (λ (t : Threshold). t.terms) j.thresholds

unfoldable pub raw_of : Job → Raw → Raw
raw_of j w =
    let lists = lists_of j in
    let terms = join_all lists in
    raw
    (raw_lists (over (conditions terms) w.lists.raw-conditions) (over (weights terms) w.lists.raw-weights)
    (over (pairs (map (λ (t : Threshold). t.node) j.thresholds) (ends 0 lists)) w.lists.thresholds))
    (over (map (λ (t : Threshold). t.bound) j.thresholds) w.bounds)

-- Where the terms, the guards and the neighbours of each row end.
abbrev pub row_entries : Job → List ℕ → List (List ℕ)
row_entries j neighbours = triples (ends 0 (term_lists (rows_of j))) (ends 0 (guard_lists (rows_of j))) neighbours

-- The threshold of each node, that threshold's row, where the node's edges end.
abbrev pub node_entries : Job → List (List ℕ)
node_entries j =
    let nodes = numbers 0 j.nodes in
    triples (map (threshold_of 0 j.thresholds) nodes) (map (row_of_node (rows_of j) j.thresholds) nodes) (ends 0 (edge_lists j.nodes (rows_of j)))

-- Rows, guards, nodes and edges; where the neighbours of each row end, and the neighbours.
unfoldable pub built_with : List ℕ → List ℕ → Job → Built → Built
built_with neighbours links j w =
    let rs = rows_of j in
    let terms = join_all (term_lists rs) in
    built
    (held_rows (over (conditions terms) w.held.row-conditions) (over (weights terms) w.held.row-weights) (over (row_entries j neighbours) w.held.rows)
    (over (guard_bounds_of rs) w.held.guard_bounds) (over (guard_nodes_of rs) w.held.guard_nodes))
    (over (node_entries j) w.nodes) (over (map edge_row (join_all (edge_lists j.nodes rs))) w.edges) (over links w.links)

abbrev pub built_of : Job → Built → Built
built_of j w = built_with (ends 0 (neighbour_lists (rows_of j))) (join_all (neighbour_lists (rows_of j))) j w
