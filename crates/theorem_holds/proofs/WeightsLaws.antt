-- The total of each row of a job stays below the limit of merged weights. Assumes nothing.
use Rattle.std.specs.Prelude.{◌<◌}
use Rattle.base.specs.All.{All}
use Rattle.base.specs.AllLaws.{all_each}
use Rattle.memory.specs.Ranges.{raw_limit, weight_limit}
use Rattle.numeric.specs.Threshold.{Term, Threshold, Job}
use Rattle.row.specs.Terms.{total}
use Rattle.rows.specs.Rows.{Row, rows_of}
use Rattle.theorem_limits.specs.BuiltLaws.{every_mem, rows_all}
use Rattle.theorem_limits.specs.Good.{Fit, Fits, Light}
use Rattle.theorem_holds.specs.WeightsLaws.{Few, row-most}

pub totals : (j : Job) → Fits j → Light raw_limit j → All (λ (r : Row). total r.terms < weight_limit) (rows_of j)
totals j f l =
    rows_all (λ (r : Row). total r.terms < weight_limit) Few row-most (λ t r q a. a) j
    (every_mem Few j.thresholds
    (λ t m. ((all_each (Fit j.nodes) j.thresholds f.each t m).short, all_each (λ (t : Threshold). All (λ (u : Term). u.weight < raw_limit) t.terms) j.thresholds l t m)))
