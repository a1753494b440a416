-- What the loop of `seeding::seed_thresholds` keeps.
use Rattle.row_moves.specs.Lent.{held_of, live_in, TidyIn, SameLent}
use Rattle.seeding.specs.SeedingLaws.{Seeding}
use Rattle.seeding.proofs.seed_thresholds.Given as goal

abbrev pub invariant-loop-row : goal.invariant-loop-row
invariant-loop-row l =
    Seeding (held_of l.held) (live_in l.initial.live) l.row l.so_far (live_in l.live)
    × (TidyIn l.initial.live → TidyIn l.live) × SameLent l.initial.live l.live
