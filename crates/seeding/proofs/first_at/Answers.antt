-- `seeding::first_at` meets its contract.
use mathlib.Core.Path.{refl, sym, ap, ◌∙◌}
use native.Mathlib.Omega.{arith}
use Rattle.std.specs.Prelude.{◌<◌, ◌≡◌, length}
use Rattle.rows.specs.ListsLaws.{stretch-length}
use Rattle.row.specs.Terms.{total}
use Rattle.rows.specs.Lent.{terms_of}
use Rattle.memory.specs.Ranges.{room_limit}
use Rattle.row_moves.specs.FirstLaws.{first-cut}
use Rattle.seeding.proofs.first_at.Goals as goal
use Rattle.seeding.proofs.first_at.Goals.{After-terms}

-- The row's weights add up to less than the limit.
small : (c : After-terms) → total (terms_of c.terms.result) < room_limit
small c = rw (c.terms.ensures.0, c.terms.ensures.1) c.requires.4

-- It has as many weights as conditions.
same : (c : After-terms) → length c.terms.result.weights.now ≡ length c.terms.result.conditions.now
same c =
    let h = c.args.held in
    let p = c.requires in
    let k = p.0.ends c.args.row p.3 in
    ap length c.terms.ensures.1
    ∙ stretch-length _ _ h.row_weights.now (omega (arith, k, p.1))
    ∙ sym (stretch-length _ _ h.row_conditions.now (omega (arith, k)))
    ∙ sym (ap length c.terms.ensures.0)

pub total-total-requires : goal.total-total-requires
total-total-requires c =
    let t = (goal.at.total-total-requires c).After-terms in
    (same t, omega (arith, small t))

pub first-requires : goal.first-requires
first-requires c = omega (arith, c.total-total.ensures, small (goal.at.first-requires c).After-terms)

pub returns : goal.returns
returns c =
    let h = c.args.held in
    let t = c.terms.ensures in
    c.first.ensures
    ∙ first-cut h.row_conditions.now h.row_weights.now h.rows.now c.args.row _ _ c.guards_count-guards.result c.total-total.result
    refl refl (c.total-total.ensures ∙ rw (t.0, t.1)) c.guards_count-guards.ensures
