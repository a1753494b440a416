-- What the seal laid of a job, as it is lent to what comes behind.
use Rattle.std.specs.Prelude.{◌≤◌, ◌^◌, List, map, ◌≡◌, true, ℤ, length, take}
use Rattle.numeric.specs.Threshold.{Threshold, Job}
use Rattle.numeric.specs.Slices.{Below}
use Rattle.rows.specs.Rows.{rows_of}
use Rattle.rows.specs.Laid.{conditions, weights}
use Rattle.memory.specs.Limits.{max_nodes, max_terms}
use Rattle.memory.specs.Buffers.{Built, held_rows, built}
use Rattle.files.specs.File.{File}
use Rattle.job.specs.JobBuffers.{built_of}
use Rattle.theorem_limits.specs.Good.{Good}
use Rattle.theorem_keeps.specs.Serves.{Going}

abbrev pub bounds_of : Job → List ℤ
bounds_of j = map (λ (t : Threshold). t.bound) j.thresholds

abbrev pub lent_of : Job → Built → Built
lent_of j w =
    let h = w.held in
    built (held_rows h.row-conditions h.row-weights (take (length (rows_of j)) h.rows) h.guard_bounds h.guard_nodes) (take j.nodes w.nodes) w.edges w.links

-- Buffers as they are before: of equal lengths where they are parallel, and with nothing in them that would be no node or too heavy.
pub record Lendable (w : Built) : Type 0 where
  pub weighed : length w.held.row-weights ≡ length w.held.row-conditions
  pub named : length w.held.guard_nodes ≡ length w.held.guard_bounds
  pub edges : length w.edges ≤ max_terms
  pub conditions : Below max_nodes w.held.row-conditions
  pub weights : Below (2 ^ 63) w.held.row-weights
  pub guards : Below max_nodes w.held.guard_nodes

-- A file whose job is sealed, and in which what waits can be drained, over what the seal leaves of these buffers.
pub record Serving (j : Job) (w : Built) (f : File) : Type 0 where
  pub good : Good f
  pub sealed : f.sealed ≡ true
  pub closed : f.closed ≡ j
  pub going : Going (lent_of j (built_of j w)).held (lent_of j (built_of j w)).nodes f.live
