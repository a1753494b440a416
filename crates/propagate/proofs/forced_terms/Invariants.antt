-- What the loop of `propagate::forced_terms` keeps.
use Prim.Native.Nat.{◌+◌, ◌≤◌}
use mathlib.Core.Path.{◌≡◌}
use lib.ListN.{length, drop}
use Rattle.numeric.specs.Slices.{terms}
use Rattle.queues.specs.Queue.{queue}
use Rattle.queues.specs.Marks.{marks}
use Rattle.queues.specs.Waiting.{Waits}
use Rattle.row_runs.specs.Scan.{scan}
use Rattle.row_runs.specs.Turns.{light}
use Rattle.row_runs.specs.Row.{term_waits, forces, forced}
use Rattle.propagate.proofs.forced_terms.Given as goal

abbrev pub invariant-loop-at : goal.invariant-loop-at
invariant-loop-at l =
    (l.at ≡ l.from + l.so_far.passed) × (l.so_far.passed ≤ length l.terms.weights.now) × Waits (marks l.sure l.never (queue l.node_queue l.so_far.ring))
    × (scan (term_waits (light l.cutoff)) (forces l.cutoff.value) (drop l.at (terms l.terms.conditions.now l.terms.weights.now)) l.so_far.passed (marks l.sure l.never (queue l.node_queue l.so_far.ring)) l.so_far.step
    ≡ forced l.cutoff.value (light l.cutoff) (drop l.from (terms l.terms.conditions.now l.terms.weights.now)) (marks l.initial.sure l.initial.never (queue l.initial.node_queue l.initial.so_far.ring)))
