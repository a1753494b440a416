-- What the loop of `residual::prepare_suffix` keeps.
use Prim.Native.Nat.{◌≤◌}
use mathlib.Core.Path.{◌≡◌}
use lib.ListN.{length}
use Rattle.numeric.specs.Slices.{terms}
use Rattle.words.specs.Mask.{in_either}
use Rattle.intervals.specs.Residual.{suffixes, over}
use Rattle.intervals.specs.SuffixLaws.{laid}
use Rattle.residual.proofs.prepare_suffix.Given as goal

abbrev pub invariant-loop-left : goal.invariant-loop-left
invariant-loop-left l =
    (l.count ≡ length l.terms.weights.now) × (l.left ≤ l.count) × (laid (in_either l.sure l.never) (terms l.terms.conditions.now l.terms.weights.now) l.count l.left l.suffix l.gcds
    ≡ over (suffixes (in_either l.sure l.never) (terms l.terms.conditions.now l.terms.weights.now)) l.initial.gcds)
