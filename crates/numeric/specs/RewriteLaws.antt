-- Areas replaced by terms: the entries of a threshold, joined and each written as a term, weigh what they weighed.
use Rattle.std.specs.Prelude.{ℕ, ◌≡◌, refl, List, [], ◌∷◌, map}
use Rattle.std.proofs.Common.{ap, ap₂, ◌∙◌}
use Rattle.numeric.specs.Threshold.{Term, term}
use Rattle.numeric.specs.Area.{Entry, plain, area, joined, weight_of_area, rounded, weighed}
use Rattle.numeric.specs.Rewrite.{as_term}

same_weight : (x : Entry) → rounded (as_term x) ≡ rounded x
same_weight (plain c w) = refl
same_weight (area c h) = refl

-- no areas are left to join
joined-terms : (es : List Entry) → joined (map as_term es) ≡ map as_term es
unfolding joined
joined-terms [] = refl
joined-terms (plain c w ∷ es) = ap (λ (l : List Entry). plain c w ∷ l) (joined-terms es)
joined-terms (area c h ∷ es) = ap (λ (l : List Entry). plain c (weight_of_area h) ∷ l) (joined-terms es)

each : (es : List Entry) → map rounded (map as_term es) ≡ map rounded es
each [] = refl
each (x ∷ es) = ap₂ (λ (t : Term) (l : List Term). t ∷ l) (same_weight x) (each es)

pub rewritten_weighs : (es : List Entry) → weighed (map as_term (joined es)) ≡ weighed es
rewritten_weighs es = ap (map rounded) (joined-terms (joined es)) ∙ each (joined es)
