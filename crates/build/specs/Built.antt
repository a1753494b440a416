-- What `build` asks of its buffers.
use Rattle.std.specs.Prelude.{ℕ, ◌≤◌, ◌≡◌, List, length, replicate, Bool, cond}
use Rattle.memory.specs.Limits.{max_nodes, max_terms, max_thresholds}
use Rattle.memory.specs.Buffers.{Built, clear_built}
use Rattle.placing.specs.Place.{Blank}
use Rattle.numeric.specs.Threshold.{Job}
use Rattle.rows.specs.Rows.{rows_of}
use Rattle.job.specs.JobBuffers.{built_of}

-- Buffers of the lengths of docs/BUFFERS.md but for the links; terms, guards' nodes and nodes are zero.
pub record Roomy (b : Built) : Type 0 where
  pub conditions : max_terms ≤ length b.held.row-conditions
  pub weights : max_terms ≤ length b.held.row-weights
  pub rows : max_thresholds ≤ length b.held.rows
  pub bounds : max_thresholds ≤ length b.held.guard_bounds
  pub guards : max_thresholds ≤ length b.held.guard_nodes
  pub nodes : max_nodes ≤ length b.nodes
  pub edges : max_terms ≤ length b.edges
  pub conditions_clear : Blank b.held.row-conditions
  pub weights_clear : Blank b.held.row-weights
  pub guards_clear : Blank b.held.guard_nodes
  pub nodes_clear : b.nodes ≡ replicate (length b.nodes) (replicate 3 0)

-- Words to build with.
pub record Spare (scratch : List ℕ) : Type 0 where
  pub words : 3072 ≤ length scratch
  pub words_clear : Blank scratch

-- The rows of a job whose seal comes next, in cleared buffers.
pub record Builds (j : Job) (sealing : Bool) (b₀ b : Built) (rows : ℕ) : Type 0 where
  pub words : b ≡ cond sealing (built_of j (clear_built b₀)) (clear_built b₀)
  pub counted : rows ≡ cond sealing (length (rows_of j)) 0
