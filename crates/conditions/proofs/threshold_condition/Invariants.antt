-- What the loop of `conditions::threshold_condition` keeps.
use Rattle.std.proofs.Common.{◌+◌}
use Rattle.row_moves.specs.Lent.{held_of, live_in, TidyIn, SameLent}
use Rattle.conditions.specs.DrainingLaws.{Draining}
use Rattle.conditions.proofs.threshold_condition.Given as goal

abbrev pub invariant-loop-row : goal.invariant-loop-row
invariant-loop-row l =
    Draining (held_of l.built.held) l.built.edges.now l.value l.start l.end (live_in l.initial.live) (l.start + l.row-index) l.so_far (live_in l.live)
    × (TidyIn l.initial.live → TidyIn l.live) × SameLent l.initial.live l.live
