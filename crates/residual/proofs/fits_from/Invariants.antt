-- What the loop of `residual::fits_from` keeps.
use Prim.Native.Nat.{◌≤◌}
use mathlib.Core.Path.{◌≡◌}
use mathlib.Core.Bool.{false}
use mathlib.Core.List.{reverse}
use lib.ListN.{length}
use Rattle.numeric.specs.Slices.{terms}
use Rattle.words.specs.Mask.{in_either}
use Rattle.intervals.specs.Residual.{fits_from}
use Rattle.numeric.specs.TermsLaws.{last_terms_of}
use Rattle.residual.proofs.fits_from.Given as goal

abbrev pub invariant-loop-unread : goal.invariant-loop-unread
invariant-loop-unread l =
    (l.unread ≤ length l.terms.weights.now)
    × (fits_from l.i (in_either l.sure l.never) (last_terms_of l.terms.conditions.now l.terms.weights.now l.unread) l.fitting l.complement
    ≡ fits_from l.i (in_either l.sure l.never) (reverse (terms l.terms.conditions.now l.terms.weights.now)) false 0)
