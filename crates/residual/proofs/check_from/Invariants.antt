-- What the loop of `residual::check_from` keeps.
use Prim.Native.Nat.{◌≤◌}
use mathlib.Core.Path.{◌≡◌}
use mathlib.Core.List.{reverse}
use lib.ListN.{length}
use Rattle.numeric.specs.Slices.{terms}
use Rattle.numeric.specs.TermsLaws.{last_terms_of}
use Rattle.words.specs.Mask.{in_either}
use Rattle.intervals.specs.Residual.{check_from}
use Rattle.residual.proofs.check_from.Given as goal

abbrev pub invariant-loop-remaining : goal.invariant-loop-remaining
invariant-loop-remaining l =
    (l.remaining ≤ length l.terms.weights.now)
    × (check_from l.i (in_either l.sure l.never) (last_terms_of l.terms.conditions.now l.terms.weights.now l.remaining) l.divisor
    ≡ check_from l.i (in_either l.sure l.never) (reverse (terms l.terms.conditions.now l.terms.weights.now)) 0)
