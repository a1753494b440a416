-- What the loop of `thresholds::fingerprint` keeps.
use Rattle.std.proofs.Common.{◌≡◌, ◌<◌, length, drop}
use Rattle.numeric.specs.Slices.{terms}
use Rattle.thresholds.specs.Raw.{prints, mixed as mixedOf}
use Rattle.thresholds.proofs.fingerprint.Given as goal

abbrev pub invariant-loop-condition : goal.invariant-loop-condition
invariant-loop-condition l =
    (l.mixed < prints)
    × (mixedOf l.mixed (terms (drop (length l.yielded) l.conditions) (drop (length l.yielded) l.weights)) ≡ mixedOf (length l.conditions) (terms l.conditions l.weights))
