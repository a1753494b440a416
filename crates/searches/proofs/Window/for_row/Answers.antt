-- `searches::Window::for_row` meets its contract: each test is one of the definition's.
use native.Mathlib.Omega.{arith}
use mathlib.Core.Path.{◌≡◌, sym, ap, ◌∙◌, subst}
use mathlib.Core.Bool.{true, false}
use lib.IntN.{pos, ◌-ℤ◌}
use lib.Signed.{lt_z}
use lib.ListN.{length}
use mir.Syntax.{w64}
use mir.Val.{to_z, of_z}
use mir.Facts.{to_z-of_z}
use borrow.Author.Rules.{rules}
use borrow.Author.Tests.{not-true, not-false}
use Rattle.numeric.specs.Slices.{terms}
use Rattle.numeric.specs.TermsLaws.{length-terms}
use Rattle.base.specs.SignedLaws.{le_z-nlt, nle-lt_z}
use Rattle.base.specs.Signed.{natural}
use Rattle.std.specs.Prelude.{ℤ, Option}
use Rattle.state.specs.State.{limit, has_residual_interval}
use Rattle.rows.specs.Rows.{has_nonunit}
use Rattle.searches.specs.SearchStepsLaws.{plan-unit, plan_wide, plan-reached, not-planned, is_planned, open_wide, lower_known, limit-known, last_known}
use Rattle.searches.proofs.Window.for_row.Goals as goal
use Rattle.searches.proofs.Window.for_row.Goals.{After-natural-maximum, Else-not-has_nonunit}

pub returns-then-not-has_nonunit : goal.returns-then-not-has_nonunit
returns-then-not-has_nonunit c =
    let g = c.args in
    sym
    (plan-unit (terms g.terms.conditions.now g.terms.weights.now) g.state
    (sym c.has_nonunit.ensures ∙ not-true c.has_nonunit.result c.if-not-has_nonunit.true-raw))

-- The first test was met.
heavy : (c : Else-not-has_nonunit) → has_nonunit (terms c.args.terms.conditions.now c.args.terms.weights.now) ≡ true
heavy c = sym c.has_nonunit.ensures ∙ not-false c.has_nonunit.result c.if-not-has_nonunit.false-raw

pub returns-then-not-has_residual_interval : goal.returns-then-not-has_residual_interval
returns-then-not-has_residual_interval c =
    let g = c.args in
    sym
    (plan_wide (terms g.terms.conditions.now g.terms.weights.now) g.state (heavy (goal.at.returns-then-not-has_residual_interval c).Else-not-has_nonunit)
    (sym c.has_residual_interval.ensures ∙ not-true c.has_residual_interval.result c.if-not-has_residual_interval.true-raw))

pub returns-in_default : goal.returns-in_default
returns-in_default c =
    let g = c.args in
    sym (plan_wide (terms g.terms.conditions.now g.terms.weights.now) g.state (heavy (goal.at.returns-in_default c).Else-not-has_nonunit) (open_wide g.state c.in_default.is))

pub returns-then-limit-known : goal.returns-then-limit-known
returns-then-limit-known c =
    let g = c.args in
    let s = g.state in
    let hk : to_z w64 (of_z w64 s.known) ≡ s.known = search rules in
    let hb : to_z w64 (of_z w64 c.in-Some.limit) ≡ c.in-Some.limit = search rules in
    sym
    (plan-reached (terms g.terms.conditions.now g.terms.weights.now) s (heavy (goal.at.returns-then-limit-known c).Else-not-has_nonunit) (sym c.has_residual_interval.ensures ∙ not-false c.has_residual_interval.result c.if-not-has_residual_interval.false-raw)
    (subst (λ (u : Option ℤ). lt_z s.known (limit u) ≡ false) (sym c.in-Some.is) (le_z-nlt s.known c.in-Some.limit (simp (hk, hb) at c.if-limit-known.true))))

pub overflow_sub-limit : goal.overflow_sub-limit
overflow_sub-limit c =
    let s = c.args.state in
    let hk : to_z w64 (of_z w64 s.known) ≡ s.known = search rules in
    let hb : to_z w64 (of_z w64 c.in-Some.limit) ≡ c.in-Some.limit = search rules in
    simp (hk, hb) (limit-known s c.in-Some.limit c.requires.2 c.in-Some.is)

pub overflow_sub-limit-2 : goal.overflow_sub-limit-2
overflow_sub-limit-2 c =
    let s = c.args.state in
    let hk : to_z w64 (of_z w64 s.known) ≡ s.known = search rules in
    let hb : to_z w64 (of_z w64 c.in-Some.limit) ≡ c.in-Some.limit = search rules in
    let hd = to_z-of_z (limit-known s c.in-Some.limit c.requires.2 c.in-Some.is) in
    simp (hk, hb, hd) (last_known s c.in-Some.limit c.requires.2 c.in-Some.is)

-- Every test but the last was met, and the numbers are the window's.
numbers : (c : After-natural-maximum) → (has_nonunit (terms c.args.terms.conditions.now c.args.terms.weights.now) ≡ true)
    × (has_residual_interval c.args.state ≡ true)
    × (lt_z c.args.state.known (limit c.args.state.upper) ≡ true)
    × (c.natural-lower.result ≡ natural (c.args.state.lower -ℤ c.args.state.known))
    × (c.natural-maximum.result ≡ natural (limit c.args.state.upper -ℤ c.args.state.known -ℤ pos 1))
    × (length c.args.terms.weights.now ≡ length (terms c.args.terms.conditions.now c.args.terms.weights.now))
numbers c =
    let g = c.args in
    let p = c.requires in
    let s = c.args.state in
    let hk : to_z w64 (of_z w64 s.known) ≡ s.known = search rules in
    let hb : to_z w64 (of_z w64 c.in-Some.limit) ≡ c.in-Some.limit = search rules in
    let hl : to_z w64 (of_z w64 s.lower) ≡ s.lower = search rules in
    let hd = to_z-of_z (lower_known s c.in-Some.limit p.2 c.in-Some.is) in
    let hm = to_z-of_z (limit-known s c.in-Some.limit p.2 c.in-Some.is) in
    let hn = to_z-of_z (last_known s c.in-Some.limit p.2 c.in-Some.is) in (
      sym c.has_nonunit.ensures ∙ not-false c.has_nonunit.result c.if-not-has_nonunit.false-raw,
      sym c.has_residual_interval.ensures ∙ not-false c.has_residual_interval.result c.if-not-has_residual_interval.false-raw,
      subst (λ (u : Option ℤ). lt_z s.known (limit u) ≡ true) (sym c.in-Some.is) (nle-lt_z s.known c.in-Some.limit (simp (hk, hb) at c.if-limit-known.false)),
      simp (hk, hl, hd) at c.natural-lower.ensures,
      simp (hk, hb, hm, hn) at c.natural-maximum.ensures ∙ ap (λ (u : Option ℤ). natural (limit u -ℤ s.known -ℤ pos 1)) (sym c.in-Some.is),
      omega (arith, length-terms g.terms.conditions.now g.terms.weights.now, p.0),
    )

pub returns-then-words-visits : goal.returns-then-words-visits
returns-then-words-visits c =
    let n = numbers (goal.at.returns-then-words-visits c).After-natural-maximum in
    let g = c.args in
    sym
    (not-planned (terms g.terms.conditions.now g.terms.weights.now) g.state n.0 n.1 n.2 c.natural-lower.result c.natural-maximum.result (length g.terms.weights.now)
    n.3 n.4 n.5 (omega (arith, c.if-words-visits.true)))

pub returns : goal.returns
returns c =
    let n = numbers (goal.at.returns c).After-natural-maximum in
    let g = c.args in
    sym
    (is_planned (terms g.terms.conditions.now g.terms.weights.now) g.state n.0 n.1 n.2 c.natural-lower.result c.natural-maximum.result (length g.terms.weights.now)
    n.3 n.4 n.5 (omega (arith, c.if-words-visits.false)))
