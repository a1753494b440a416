-- What the loop of `propagate::never_guards` keeps.
use Prim.Native.Nat.{◌+◌, ◌≤◌}
use mathlib.Core.Path.{◌≡◌}
use mathlib.Core.Bool.{false}
use mathlib.Core.List.{reverse}
use lib.ListN.{length, take}
use Rattle.queues.specs.Queue.{queue}
use Rattle.queues.specs.Marks.{marks}
use Rattle.queues.specs.Waiting.{Waits}
use Rattle.row_runs.specs.Scan.{scan}
use Rattle.row_runs.specs.Guards.{guards}
use Rattle.row_runs.specs.Row.{decides, never_guards, never_waits}
use Rattle.propagate.proofs.never_guards.Given as goal

abbrev pub invariant-loop-at : goal.invariant-loop-at
invariant-loop-at l =
    (l.at + l.so_far.passed ≡ l.state.never_guard) × (l.so_far.passed ≤ length l.guards.bounds.now) × Waits (marks l.sure l.never (queue l.node_queue l.so_far.ring))
    × (scan (never_waits l.state) (decides false) (reverse (take l.at (guards l.guards.bounds.now l.guards.nodes.now))) l.so_far.passed (marks l.sure l.never (queue l.node_queue l.so_far.ring)) l.so_far.step
    ≡ never_guards (guards l.guards.bounds.now l.guards.nodes.now) l.state (marks l.initial.sure l.initial.never (queue l.initial.node_queue l.initial.so_far.ring)) l.initial.so_far.step)
