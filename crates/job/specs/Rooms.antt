-- Buffers with room for what a seal builds.
use Rattle.std.specs.Prelude.{◌≤◌, length}
use Rattle.memory.specs.Limits.{max_nodes, max_terms, max_thresholds}
use Rattle.memory.specs.Buffers.{Built}

-- Buffers of the lengths of docs/BUFFERS.md.
pub record BuiltRoom (w : Built) : Type 0 where
  pub conditions : max_terms ≤ length w.held.row-conditions
  pub weights : max_terms ≤ length w.held.row-weights
  pub rows : max_thresholds ≤ length w.held.rows
  pub bounds : max_thresholds ≤ length w.held.guard_bounds
  pub guards : max_thresholds ≤ length w.held.guard_nodes
  pub nodes : max_nodes ≤ length w.nodes
  pub edges : max_terms ≤ length w.edges
