-- What the loop of `serve::serve_records` keeps, and what falls.
use Prim.Native.Nat.{◌-◌}
use lib.ListN.{length}
use Rattle.row_moves.specs.Lent.{built_of}
use Rattle.serve.specs.KeptLent.{kept_in, SameKept}
use Rattle.serve.specs.ServeLaws.{Loops}
use Rattle.serve.proofs.serve_records.Given as goal

abbrev pub invariant-loop-reached : goal.invariant-loop-reached
invariant-loop-reached l =
    Loops l.input l.built.bounds.now (built_of l.built) (kept_in l.initial.kept) l.initial.reached (kept_in l.kept) l.reached
    × SameKept l.initial.kept l.kept

abbrev pub decreases-loop-reached : goal.decreases-loop-reached
decreases-loop-reached l = length l.input - l.reached.at
