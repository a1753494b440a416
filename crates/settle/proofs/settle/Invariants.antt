-- What the loop of `settle::settle` keeps, and what falls.
use mathlib.Core.Bool.{not, ◌&&◌}
use lib.Dec.{eqb}
use Rattle.std.proofs.Common.{◌≡◌}
use Rattle.row_moves.specs.Lent.{built_of, live_in, TidyIn, SameLent}
use Rattle.theorem_ends.specs.TurnsLaws.{left}
use Rattle.theorem_keeps.specs.SettlingLaws.{Settling}
use Rattle.settle.proofs.settle.Given as goal

abbrev pub invariant-loop-busy : goal.invariant-loop-busy
invariant-loop-busy l =
    Settling l.built.bounds.now (built_of l.built) (live_in l.initial.live) l.so_far (live_in l.live)
    × (l.busy ≡ not (eqb l.live.rings.nodes.count 0 && eqb l.live.rings.rows.count 0))
    × (TidyIn l.initial.live → TidyIn l.live) × SameLent l.initial.live l.live

abbrev pub decreases-loop-busy : goal.decreases-loop-busy
decreases-loop-busy l = left (live_in l.live)
