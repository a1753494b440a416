-- The job that the raw buffers hold, read back threshold by threshold, and the rows that it makes.
use Rattle.std.specs.Prelude.{ℕ, List, [], map, length, get_or, ℤ, pos}
use Rattle.base.specs.Laid.{numbers}
use Rattle.numeric.specs.Threshold.{Threshold, Job}
use Rattle.memory.specs.Buffers.{RawLists}
use Rattle.rows.specs.Lists.{list_at}
use Rattle.rows.specs.Guards.{node_at}
use Rattle.rows.specs.Rows.{Row, place_all}

abbrev pub threshold_at : RawLists → List ℤ → ℕ → Threshold
threshold_at r bounds t = record { node = node_at r.thresholds t; bound = get_or bounds t (pos 0); terms = list_at r t }

-- All of them; the buffers are cut to their number.
abbrev pub given : RawLists → List ℤ → List Threshold
given r bounds = map (threshold_at r bounds) (numbers 0 (length r.thresholds))

-- The job, of so many nodes.
abbrev pub given_job : RawLists → List ℤ → ℕ → Job
given_job r bounds nodes = record { nodes = nodes; thresholds = given r bounds }

abbrev pub given_rows : RawLists → List ℤ → List Row
given_rows r bounds = place_all (given r bounds) []
