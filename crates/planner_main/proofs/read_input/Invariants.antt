-- `read_input` keeps that what was read lies within the buffer; each read takes some of the room that is left.
use Rattle.std.proofs.Common.{◌≤◌, ◌-◌, length}
use Rattle.planner_main.proofs.read_input.Given as goal

abbrev pub invariant-loop-end : goal.invariant-loop-end
invariant-loop-end l = l.end ≤ length l.into

abbrev pub decreases-loop-end : goal.decreases-loop-end
decreases-loop-end l = length l.initial.into - l.end
