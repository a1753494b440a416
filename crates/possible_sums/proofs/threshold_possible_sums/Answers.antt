-- `possible_sums::threshold_possible_sums` meets its contract: what is lent has words for every sum of the window, and is as before.
use Prim.Native.Nat.{◌-◌, ◌≤◌}
use native.Mathlib.Omega.{arith}
use mathlib.Core.Path.{◌≡◌, sym, ◌∙◌}
use lib.ListN.{length}
use lib.Seq.{length-take-le}
use Rattle.numeric.specs.Slices.{terms}
use Rattle.numeric.specs.TermsLaws.{length-terms}
use Rattle.words.specs.Mask.{in_either}
use Rattle.searches.specs.Shape.{Prepared}
use Rattle.searches.specs.ZerosLaws.{zeros_back}
use Rattle.searches.specs.SearchStepsLaws.{search-none, search-begins, plan_prepared}
use Rattle.possible_sums.proofs.threshold_possible_sums.Goals as goal
use Rattle.possible_sums.proofs.threshold_possible_sums.Goals.{In-Some}

prepared : (c : In-Some) → Prepared c.in-Some.w
prepared c =
    let g = c.args in
    plan_prepared (terms g.terms.conditions.now g.terms.weights.now) g.state c.in-Some.w (omega (arith, length-terms g.terms.conditions.now g.terms.weights.now, c.requires.shape.1)) (sym c.for_row.ensures ∙ c.in-Some.is)

roomy : (c : In-Some) → c.in-Some.w.words ≤ length c.args.words.now
roomy c = let p = prepared c in omega (arith, p.enough, p.visits, c.requires.in_bounds.0)

pub returns-in_default-clause-found : goal.returns-in_default-clause-found
returns-in_default-clause-found c =
    let g = c.args in
    sym (search-none (terms g.terms.conditions.now g.terms.weights.now) g.state (in_either g.sure.now g.never.now) (sym c.for_row.ensures ∙ c.in_default.is))

pub slice_bounds-attempt-end : goal.slice_bounds-attempt-end
slice_bounds-attempt-end c = roomy (goal.at.slice_bounds-attempt-end c).In-Some

pub slice_bounds-attempt-end-2 : goal.slice_bounds-attempt-end-2
slice_bounds-attempt-end-2 c = sym (length-take-le c.in-Some.w.words c.args.words.now (roomy (goal.at.slice_bounds-attempt-end-2 c).In-Some))

pub attempt-requires-clause-prepared : goal.attempt-requires-clause-prepared
attempt-requires-clause-prepared c =
    let s = (goal.at.attempt-requires-clause-prepared c).In-Some in
    (prepared s, length-take-le c.in-Some.w.words c.args.words.now (roomy s))

pub returns-clause-found : goal.returns-clause-found
returns-clause-found c =
    let g = c.args in
    c.attempt.ensures.searched
    ∙ sym
    (search-begins (terms g.terms.conditions.now g.terms.weights.now) g.state (in_either g.sure.now g.never.now) c.in-Some.w
    (sym c.for_row.ensures ∙ c.in-Some.is))

pub returns-clause-kept : goal.returns-clause-kept
returns-clause-kept c =
    let n = c.in-Some.w.words in
    let e : n - 0 ≡ n = omega arith in
    rw e at (zeros_back c.args.words.now n c.requires.in_bounds.1 (roomy (goal.at.returns-clause-kept c).In-Some) c.attempt.new.words (rw e c.attempt.ensures.cleared))
