-- What the loop of `residual::force_from` keeps.
use Prim.Native.Nat.{◌≤◌}
use mathlib.Core.Path.{◌≡◌}
use lib.ListN.{length, drop}
use Rattle.numeric.specs.Slices.{terms}
use Rattle.state.specs.declared.Step.TheVariants.{Unchanged}
use Rattle.queues.specs.Queue.{queue}
use Rattle.queues.specs.Marks.{marks}
use Rattle.queues.specs.Waiting.{Waits}
use Rattle.intervals.specs.Residual.{placed, force_from}
use Rattle.residual.proofs.force_from.Given as goal

abbrev pub invariant-loop-position : goal.invariant-loop-position
invariant-loop-position l =
    (l.position ≤ length l.terms.weights.now) × Waits (marks l.sure l.never (queue l.node_queue l.so_far.ring))
    × (force_from l.i (placed l.gcds) (drop l.position (terms l.terms.conditions.now l.terms.weights.now)) l.prefix (marks l.sure l.never (queue l.node_queue l.so_far.ring)) l.so_far.step
    ≡ force_from l.i (placed l.gcds) (terms l.terms.conditions.now l.terms.weights.now) 0 (marks l.initial.sure l.initial.never (queue l.initial.node_queue l.initial.so_far.ring)) Unchanged)
