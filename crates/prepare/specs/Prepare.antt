-- `prepare` on lent buffers: what the job and the buffers must be, and what stands in them afterwards.
use Rattle.std.specs.Prelude.{ℕ, ◌-◌, ◌%◌, ◌<◌, ◌≤◌, ◌≡◌, List, ◌++◌, map, [], length, get_or, take, drop, replicate, ℤ}
use Rattle.thresholds.specs.Tree.{class_count}
use Rattle.memory.specs.Limits.{max_thresholds}
use Rattle.base.specs.Laid.{over, join_all, ends}
use Rattle.base.specs.Deal.{Keyed, grouped}
use Rattle.base.specs.Parts.{Inside}
use Rattle.base.specs.Columns.{column, with_column, Wide}
use Rattle.row.specs.Keys.{conditions_of, weights_of}
use Rattle.memory.specs.Buffers.{RawLists, Built}
use Rattle.numeric.specs.Threshold.{Job}
use Rattle.rows.specs.Lists.{Lists}
use Rattle.rows.specs.Guards.{Bounds, node_at, row_at, NodesIn, bound_items, node_items}
use Rattle.job.specs.Shared.{raws_to, terms_to, nodes_to, NodesRise}
use Rattle.job.specs.Incidents.{held_items}
use Rattle.rows.specs.Laid.{term_lists}
use Rattle.rows.specs.Rows.{rows_of}
use Rattle.placing.specs.declared.Extent.{Extent}
use Rattle.job.specs.Given.{given_rows, given_job}
use Rattle.job.specs.JobBuffers.{built_with}
use Rattle.placing.specs.Place.{Blank, row_ends}

-- What the buffers hold before the links are found.
abbrev pub unlinked_of : Job → Built → Built
unlinked_of j w = built_with (replicate (length (rows_of j)) 0) [] j w

-- A job of so many nodes, as the records leave it in the raw buffers, cut to their number.
pub record Sound (r : RawLists) (bounds : List ℤ) (nodes : ℕ) : Type 0 where
  pub lists : Lists r (length r.thresholds)
  pub even : length bounds ≡ length r.thresholds
  pub bounded : Bounds bounds
  pub inside : (t : ℕ) → t < length r.thresholds → node_at r.thresholds t < nodes
  pub rising : NodesRise r.thresholds
  pub below : (i : ℕ) → i < length r.raw-conditions → get_or r.raw-conditions i 0 < nodes
  pub few : nodes ≤ 4096
  pub short : length r.raw-conditions < 65536

-- Room for so many raw terms and thresholds; terms, nodes and scratch are zero, and the guards' nodes, which hold the heads of the classes while rows are placed.
pub record Ample (total count : ℕ) (b : Built) (scratch : List ℕ) : Type 0 where
  pub conditions : total ≤ length b.held.row-conditions
  pub weights : total ≤ length b.held.row-weights
  pub spare : count ≤ length b.held.row-weights
  pub rows : count ≤ length b.held.rows
  pub bounds : count ≤ length b.held.guard_bounds
  pub guards : max_thresholds ≤ length b.held.guard_nodes
  pub edges : total ≤ length b.edges
  pub words : 3072 ≤ length scratch
  pub conditions_clear : Blank b.held.row-conditions
  pub weights_clear : Blank b.held.row-weights
  pub guards_clear : Blank b.held.guard_nodes
  pub nodes_clear : b.nodes ≡ replicate (length b.nodes) (replicate 3 0)
  pub words_clear : Blank scratch

-- EVERY WORD AFTERWARDS: the rows of the job, their guards, the edges of every node.
pub record Prepared (r : RawLists) (bounds : List ℤ) (so : Extent) (b a : Built) : Type 0 where
  pub many : so.rows ≡ length (given_rows r bounds)
  pub end : so.end ≡ length (join_all (term_lists (given_rows r bounds)))
  pub left : a ≡ unlinked_of (given_job r bounds (length b.nodes)) b

-- ---- what its steps ask and leave

-- Rows can be placed: the raw lists are as they must be, terms, marks and heads start from zero.
pub record Placeable (r : RawLists) (cs ws : List ℕ) (rows nodes : List (List ℕ)) (scratch heads : List ℕ) : Type 0 where
  pub lists : Lists r (length r.thresholds)
  pub below : (i : ℕ) → get_or r.raw-conditions i 0 < 4096
  pub few : length r.raw-conditions < 65536
  pub inside : NodesIn r.thresholds nodes
  pub conditions : length r.raw-conditions ≤ length cs
  pub conditions_clear : Blank cs
  pub weights : length r.raw-conditions ≤ length ws
  pub weights_clear : Blank ws
  pub many : length r.thresholds ≤ length rows
  pub words : 3072 ≤ length scratch
  pub words_clear : drop max_thresholds scratch ≡ replicate (length scratch - max_thresholds) 0
  pub classes : class_count ≤ length heads
  pub classes_clear : Blank heads

-- Rows placed: their number, where their terms end, the terms, the end of each, and each threshold and its row at its node.
pub record Rowed (r : RawLists) (so : Extent) (cs ws : List ℕ) (rows nodes : List (List ℕ)) (cs' ws' : List ℕ) (rows' nodes' : List (List ℕ)) : Type 0 where
  pub many : so.rows ≡ length (raws_to r (length r.thresholds))
  pub end : so.end ≡ length (join_all (terms_to r (length r.thresholds)))
  pub conditions : cs' ≡ over (conditions_of (join_all (terms_to r (length r.thresholds)))) cs
  pub weights : ws' ≡ over (weights_of (join_all (terms_to r (length r.thresholds)))) ws
  pub entries : rows' ≡ over (row_ends r (length r.thresholds)) rows
  pub named : nodes' ≡ nodes_to r nodes (length r.thresholds)

-- Guards can be dealt to rows by their keys.
pub record Dealable (ths : List (List ℕ)) (bounds : List ℤ) (nodes : List (List ℕ)) (keys : List ℕ) (rows : List (List ℕ)) : Type 0 where
  pub even : length bounds ≡ length ths
  pub inside : NodesIn ths nodes
  pub wide : Wide 1 rows
  pub names : (i : ℕ) → i < length keys → get_or keys i 0 % max_thresholds < length ths
  pub placed : (i : ℕ) → i < length keys → row_at ths nodes (get_or keys i 0 % max_thresholds) < length rows
  pub clear : column 1 rows ≡ replicate (length rows) 0
  pub few : length bounds ≤ max_thresholds

-- Guards dealt to so many rows: where those of each row end, their bounds and their nodes.
pub record Guarded (ths : List (List ℕ)) (bounds : List ℤ) (nodes : List (List ℕ)) (keys : List ℕ) (count : ℕ) (rows : List (List ℕ)) (gb : List ℤ) (gn : List ℕ)
    (rows' : List (List ℕ)) (gb' : List ℤ) (gn' : List ℕ) : Type 0 where
  pub entries : rows' ≡ with_column 1 (take count rows) (ends 0 (grouped 0 count (bound_items ths nodes bounds keys))) ++ drop count rows
  pub limits : gb' ≡ over (join_all (grouped 0 count (bound_items ths nodes bounds keys))) gb
  pub names : gn' ≡ over (join_all (grouped 0 count (node_items ths nodes keys))) gn

-- Edges can be listed by condition.
pub record Indexable (cs ws : List ℕ) (rows nodes edges : List (List ℕ)) : Type 0 where
  pub inside : Inside 0 rows (length cs)
  pub even : length ws ≡ length cs
  pub keys : cs ≡ map (λ (x : Keyed (List ℕ)). x.key) (held_items cs ws rows)
  pub short : length cs < 65536
  pub room : length cs ≤ length edges
  pub below : (i : ℕ) → i < length cs → get_or cs i 0 < length nodes
  pub wide : Wide 2 nodes
  pub clear : column 2 nodes ≡ replicate (length nodes) 0

-- Edges listed: where those of each node end, and each with its row and weight.
pub record Edged (items : List (Keyed (List ℕ))) (nodes edges nodes' edges' : List (List ℕ)) : Type 0 where
  pub entries : nodes' ≡ with_column 2 nodes (ends 0 (grouped 0 (length nodes) items))
  pub listed : edges' ≡ over (join_all (grouped 0 (length nodes) items)) edges
