-- What the loop of `base::copy` keeps: the places passed hold what they are to hold.
use Rattle.std.proofs.Common.{◌≡◌, length, take}
use Rattle.base.proofs.copy.Given as goal

abbrev pub invariant-loop-at : goal.invariant-loop-at
invariant-loop-at g l = (length l.to ≡ length l.initial.to) × (take l.at l.to ≡ take l.at l.from)
