-- What the loop of `sift::sift` keeps, and what falls.
use Prim.Native.Nat.{◌+◌}
use mathlib.Core.Bool.{cond}
use lib.ListN.{length}
use Rattle.std.proofs.Common.{◌≡◌}
use Rattle.row_moves.specs.Lent.{built_of, live_in, TidyIn, SameLent}
use Rattle.theorem_ends.specs.TurnsLaws.{left}
use Rattle.theorem_keeps.specs.Tries.{Scratch}
use Rattle.theorem_keeps.specs.SiftingLaws.{Sifting}
use Rattle.sift.proofs.sift.Given as goal

abbrev pub invariant-loop-more : goal.invariant-loop-more
invariant-loop-more l =
    Sifting l.built.bounds.now (built_of l.built) (live_in l.initial.live) l.initial.gcds l.so_far.step l.so_far.visits l.more (live_in l.live) l.gcds
    × Scratch l.gcds l.search
    × (l.search ≡ l.initial.search)
    × (length l.gcds ≡ length l.initial.gcds)
    × (TidyIn l.initial.live → TidyIn l.live)
    × SameLent l.initial.live l.live

abbrev pub decreases-loop-more : goal.decreases-loop-more
decreases-loop-more l = left (live_in l.live) + cond l.more 1 0
