-- The index of all terms by condition holds the edges of every node.
use Rattle.std.specs.Prelude.{ℕ, ◌≡◌, List, map}
use Rattle.std.proofs.Common.{ap, ◌∙◌}
use Rattle.base.specs.Laid.{join_all, ends}
use Rattle.base.specs.Deal.{Keyed, grouped}
use Rattle.base.specs.Columns.{column}
use Rattle.rows.specs.Rows.{Row, Edge}
use Rattle.rows.specs.Laid.{conditions, weights, term_lists, edge_lists, edge_row}
use Rattle.job.specs.Incidents.{held_items}
use Rattle.job.specs.IncidentsLaws.{grouped_edges, grouped-joined, grouped-ends}
use Rattle.job.specs.RowsGivenHeldLaws.{held_items_lem}

module _ (m : ℕ) (cs ws : List ℕ) (rows : List (List ℕ)) (rs : List Row)
    (c : cs ≡ conditions (join_all (term_lists rs))) (w : ws ≡ weights (join_all (term_lists rs))) (e : column 0 rows ≡ ends 0 (term_lists rs)) where
  -- THE TERMS THAT THE BUFFERS HOLD, GROUPED BY CONDITION, ARE THE EDGES OF NODES 0 TO m;
  pub edges_given : grouped 0 m (held_items cs ws rows) ≡ map (λ (es : List Edge). map edge_row es) (edge_lists m rs)
  edges_given = ap (grouped 0 m) (held_items_lem cs ws rows (term_lists rs) c w e) ∙ grouped_edges m rs

  -- so are those laid one behind the other,
  pub edges_joined : join_all (grouped 0 m (held_items cs ws rows)) ≡ map edge_row (join_all (edge_lists m rs))
  edges_joined = ap (λ (xs : List (Keyed (List ℕ))). join_all (grouped 0 m xs)) (held_items_lem cs ws rows (term_lists rs) c w e) ∙ grouped-joined m rs

  -- and so are their ends.
  pub edges_ends : ends 0 (grouped 0 m (held_items cs ws rows)) ≡ ends 0 (edge_lists m rs)
  edges_ends = ap (λ (xs : List (Keyed (List ℕ))). ends 0 (grouped 0 m xs)) (held_items_lem cs ws rows (term_lists rs) c w e) ∙ grouped-ends m rs
