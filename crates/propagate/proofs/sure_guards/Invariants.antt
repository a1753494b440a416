-- What the loop of `propagate::sure_guards` keeps.
use Prim.Native.Nat.{◌+◌, ◌≤◌}
use mathlib.Core.Path.{◌≡◌}
use mathlib.Core.Bool.{true}
use lib.ListN.{length, drop}
use Rattle.queues.specs.Queue.{queue}
use Rattle.queues.specs.Marks.{marks}
use Rattle.queues.specs.Waiting.{Waits}
use Rattle.row_runs.specs.Scan.{scan}
use Rattle.row_runs.specs.Guards.{guards}
use Rattle.row_runs.specs.Row.{decides, sure_guards, sure_waits}
use Rattle.propagate.proofs.sure_guards.Given as goal

abbrev pub invariant-loop-at : goal.invariant-loop-at
invariant-loop-at l =
    (l.at ≡ l.state.sure_guard + l.so_far.passed) × (l.so_far.passed ≤ length l.guards.bounds.now) × Waits (marks l.sure l.never (queue l.node_queue l.so_far.ring))
    × (scan (sure_waits l.state) (decides true) (drop l.at (guards l.guards.bounds.now l.guards.nodes.now)) l.so_far.passed (marks l.sure l.never (queue l.node_queue l.so_far.ring)) l.so_far.step
    ≡ sure_guards (guards l.guards.bounds.now l.guards.nodes.now) l.state (marks l.initial.sure l.initial.never (queue l.initial.node_queue l.initial.so_far.ring)))
