-- What the loop of `possible_sums::search_from` keeps.
use Prim.Native.Nat.{◌≤◌}
use mathlib.Core.Path.{◌≡◌}
use mathlib.Core.List.{reverse}
use lib.ListN.{length}
use Rattle.numeric.specs.Slices.{terms}
use Rattle.words.specs.Mask.{in_either}
use Rattle.searches.specs.Search.{search_from}
use Rattle.numeric.specs.TermsLaws.{last_terms_of}
use Rattle.possible_sums.proofs.search_from.Given as goal

abbrev pub invariant-loop-place : goal.invariant-loop-place
invariant-loop-place l =
    (l.limit ≡ l.w.maximum) × (l.visits ≡ l.w.visits) × (l.place ≤ length l.terms.weights.now) × (l.left ≤ l.w.visits) × (l.maximum ≤ l.w.maximum)
    × (length l.words ≡ length l.initial.words)
    × (search_from l.w (in_either l.sure l.never) (last_terms_of l.terms.conditions.now l.terms.weights.now l.place) l.words l.maximum l.left
    ≡ search_from l.w (in_either l.sure l.never) (reverse (terms l.terms.conditions.now l.terms.weights.now)) l.initial.words 0 l.allowance)
