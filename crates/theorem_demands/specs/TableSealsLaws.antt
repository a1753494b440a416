-- A SEAL begins the invariant, or contradicts, whatever nodes are decided, if all of them wait and none was drained.
use Rattle.std.specs.Prelude.{◌≤◌, length}
use Rattle.std.proofs.Common.{arith}
use Rattle.memory.specs.Limits.{max_thresholds}
use Rattle.numeric.specs.Threshold.{Job}
use Rattle.numeric.specs.Least.{NodesRise}
use Rattle.words.specs.Mask.{bit}
use Rattle.rows.specs.Rows.{rows_of}
use Rattle.row_moves.specs.Between.{Live}
use Rattle.drain.specs.Drain.{index_of, seal}
use Rattle.theorem_ends.specs.Sound as Ends
use Rattle.theorem_limits.specs.BuiltLaws.{rows_few}
use Rattle.theorem_ends.proofs.SealsLaws.{first_long}
use Rattle.theorem_limits.specs.Good.{Fits}
use Rattle.theorem_table.specs.Table.{Table, start}
use Rattle.theorem_follows.specs.FirstLaws.{Undrained, first_undrained}
use Rattle.theorem_demands.specs.TableJobsLaws.{job_built, job_ordered, job_single}
use Rattle.theorem_demands.specs.TableTurnsLaws.{Goes, seals_go}

-- The nodes that are decided, as a start of the table.
abbrev pub own_start : Live → Table
own_start v = start (bit v.marks.sure) (bit v.marks.never)

pub seal_goes : (j : Job) → Fits j → NodesRise j.thresholds → (v : Live) → Ends.Sound v → Undrained (length (rows_of j)) v → Goes (index_of j) (own_start v) (seal (index_of j) v)
seal_goes j f rises v s u =
    seals_go j (index_of j) (job_built j) (job_ordered j f) (job_single j rises) (own_start v) v
    (first_undrained (index_of j) v (omega (arith, few, s.long)) (omega (arith, few, s.dirty.long)) (first_long 0 (rows_of j) v.states) u)
  where
    few : length (rows_of j) ≤ max_thresholds
    few = rows_few j f
