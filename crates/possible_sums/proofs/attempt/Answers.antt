-- `possible_sums::attempt` meets its contract.
use Prim.Native.Nat.{ℕ, ◌+◌, ◌-◌}
use mathlib.Core.Path.{ap, ap₂, ◌∙◌}
use mathlib.Core.List.{List, reverse}
use lib.ListN.{set, replicate}
use Rattle.numeric.specs.Slices.{terms}
use Rattle.words.specs.Mask.{in_either}
use Rattle.searches.specs.Search.{search_from}
use Rattle.possible_sums.proofs.attempt.Goals as goal

pub returns-clause-searched : goal.returns-clause-searched
returns-clause-searched c =
    let g = c.args in
    let n = c.requires.prepared.1 in
    c.search_from-found.ensures
    ∙ ap₂ (λ (l : List ℕ) (k : ℕ). search_from g.w (in_either g.sure.now g.never.now) (reverse (terms g.terms.conditions.now g.terms.weights.now)) l 0 k)
    (c.prepare-allowance.ensures.fresh ∙ ap (λ (k : ℕ). set (replicate k 0) 0 1) n) (c.prepare-allowance.ensures.left ∙ ap (λ (k : ℕ). g.w.visits - (k + 2)) n)
