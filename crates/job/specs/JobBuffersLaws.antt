-- How long the entries of rows and nodes are, and their columns.
use Rattle.std.specs.Prelude.{ℕ, ◌≡◌, List, ◌++◌, map, length, get_or, drop}
use Rattle.std.proofs.Common.{sym, ap, ◌∙◌}
use Rattle.std.proofs.lemmas.List.{map-append, length-map}
use Rattle.base.specs.Laid.{over, ends, triples, numbers}
use Rattle.base.specs.Columns.{column}
use Rattle.base.specs.ColumnsLaws.{length-column}
use Rattle.numeric.specs.Threshold.{Job}
use Rattle.rows.specs.Rows.{Row, rows_of, edges_of}
use Rattle.rows.specs.Laid.{term_lists, guard_lists, threshold_of, row_of_node, edge_lists}
use Rattle.base.specs.LaidLaws.{length-numbers}
use Rattle.links.specs.Links.{neighbour_lists}
use Rattle.job.specs.RowsGivenLaidLaws.{length-ends}
use Rattle.job.specs.NodesGivenLaws.{triples_columns}
use Rattle.job.specs.JobBuffers.{row_entries, node_entries}

-- Lists over the first numbers, and triples, have their lengths.
pub length-first : {X : Type 0} (f : ℕ → X) (n : ℕ) → length (map f (numbers 0 n)) ≡ n
length-first f n = length-map (numbers 0 n) f ∙ length-numbers 0 n

triples_long : (xs ys zs : List ℕ) → length ys ≡ length xs → length zs ≡ length xs → length (triples xs ys zs) ≡ length xs
triples_long xs ys zs a b = sym (length-column 0 (triples xs ys zs)) ∙ ap length (triples_columns xs ys zs a b).0

module _ (j : Job) where
  pub guards_even : length (ends 0 (guard_lists (rows_of j))) ≡ length (ends 0 (term_lists (rows_of j)))
  guards_even =
      length-ends 0 (guard_lists (rows_of j)) ∙ length-map (rows_of j) (λ (r : Row). r.guards)
      ∙ sym (length-ends 0 (term_lists (rows_of j)) ∙ length-map (rows_of j) (λ (r : Row). r.terms))

  pub rows_even : length (ends 0 (term_lists (rows_of j))) ≡ length (rows_of j)
  rows_even = length-ends 0 (term_lists (rows_of j)) ∙ length-map (rows_of j) (λ (r : Row). r.terms)

  pub entries_long : (links : List ℕ) → length links ≡ length (rows_of j) → length (row_entries j links) ≡ length (rows_of j)
  entries_long links e = triples_long (ends 0 (term_lists (rows_of j))) (ends 0 (guard_lists (rows_of j))) links guards_even (e ∙ sym rows_even) ∙ rows_even

  -- The columns of the rows, whatever stands behind.
  pub entries_columns : (links : List ℕ) (b : List (List ℕ)) → length links ≡ length (rows_of j)
      → let l = row_entries j links in
      (column 0 (over l b) ≡ ends 0 (term_lists (rows_of j)) ++ column 0 (drop (length l) b))
      × ((column 1 (over l b) ≡ ends 0 (guard_lists (rows_of j)) ++ column 1 (drop (length l) b)) × (column 2 (over l b) ≡ links ++ column 2 (drop (length l) b)))
  entries_columns links b e =
      let l = row_entries j links in
      let t = triples_columns (ends 0 (term_lists (rows_of j))) (ends 0 (guard_lists (rows_of j))) links guards_even (e ∙ sym rows_even) in (
        map-append (λ (v : List ℕ). get_or v 0 0) l (drop (length l) b) ∙ ap (λ (x : List ℕ). x ++ column 0 (drop (length l) b)) t.0,
        (
          map-append (λ (v : List ℕ). get_or v 1 0) l (drop (length l) b) ∙ ap (λ (x : List ℕ). x ++ column 1 (drop (length l) b)) t.1,
          map-append (λ (v : List ℕ). get_or v 2 0) l (drop (length l) b) ∙ ap (λ (x : List ℕ). x ++ column 2 (drop (length l) b)) t.2,
        ),
      )

  firsts-long : length (map (threshold_of 0 j.thresholds) (numbers 0 j.nodes)) ≡ j.nodes
  firsts-long = length-first (threshold_of 0 j.thresholds) j.nodes

  seconds-even : length (map (row_of_node (rows_of j) j.thresholds) (numbers 0 j.nodes)) ≡ length (map (threshold_of 0 j.thresholds) (numbers 0 j.nodes))
  seconds-even = length-first (row_of_node (rows_of j) j.thresholds) j.nodes ∙ sym firsts-long

  thirds-even : length (ends 0 (edge_lists j.nodes (rows_of j))) ≡ length (map (threshold_of 0 j.thresholds) (numbers 0 j.nodes))
  thirds-even = length-ends 0 (edge_lists j.nodes (rows_of j)) ∙ length-first (edges_of (rows_of j)) j.nodes ∙ sym firsts-long

  pub nodes_long : length (node_entries j) ≡ j.nodes
  nodes_long =
      triples_long (map (threshold_of 0 j.thresholds) (numbers 0 j.nodes)) (map (row_of_node (rows_of j) j.thresholds) (numbers 0 j.nodes))
      (ends 0 (edge_lists j.nodes (rows_of j))) seconds-even thirds-even
      ∙ firsts-long

  -- Where the edges of each node end, whatever stands behind.
  pub nodes_column : (b : List (List ℕ)) → column 2 (over (node_entries j) b) ≡ ends 0 (edge_lists j.nodes (rows_of j)) ++ column 2 (drop (length (node_entries j)) b)
  nodes_column b =
      let l = node_entries j in
      map-append (λ (v : List ℕ). get_or v 2 0) l (drop (length l) b)
      ∙ ap (λ (x : List ℕ). x ++ column 2 (drop (length l) b))
      (triples_columns (map (threshold_of 0 j.thresholds) (numbers 0 j.nodes)) (map (row_of_node (rows_of j) j.thresholds) (numbers 0 j.nodes))
      (ends 0 (edge_lists j.nodes (rows_of j))) seconds-even thirds-even).2

pub neighbours_long : (rs : List Row) → length (ends 0 (neighbour_lists rs)) ≡ length rs
neighbours_long rs = length-ends 0 (neighbour_lists rs) ∙ length-first _ (length rs)
