-- What the loop of `bound_moves::threshold_prefixes` keeps.
use Rattle.std.proofs.Common.{◌+◌}
use Rattle.row_moves.specs.Lent.{held_of, live_in, TidyIn, SameLent}
use Rattle.bound_moves.specs.HandingLaws.{Handing}
use Rattle.bound_moves.proofs.threshold_prefixes.Given as goal

abbrev pub invariant-loop-link : goal.invariant-loop-link
invariant-loop-link l =
    Handing (held_of l.held) l.built.links.now l.row l.source l.start l.end (live_in l.initial.live) (l.start + l.link-index) l.so_far (live_in l.live)
    × (TidyIn l.initial.live → TidyIn l.live) × SameLent l.initial.live l.live
