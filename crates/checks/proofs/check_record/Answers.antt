-- `checks::check_record` meets its contract: an arm for each kind, what each check says of it.
use mathlib.Core.Path.{◌≡◌, ap, ◌∙◌}
use lib.IntN.{ℤ}
use mir.Syntax.{w64}
use mir.Val.{to_z, of_z}
use Rattle.checks.specs.Checks.{bad_bound, first}
use Rattle.checks.specs.CheckLaws.{opens_number, seal_number, refused_as}
use borrow.Author.Rules.{rules}
use Rattle.checks.proofs.check_record.Goals as goal

pub returns-in-Header : goal.returns-in-Header
unfolding first
returns-in-Header c = refused_as c.args.standing _ c.in-Header.is c.check_plain.ensures

pub returns-in-Opens : goal.returns-in-Opens
returns-in-Opens c =
    let s = c.args.standing in
    let z = c.in-Opens.bound in
    let same : to_z w64 (of_z w64 z) ≡ z = search rules in
    refused_as s _ c.in-Opens.is
    (opens_number s _ c.in-Opens.node z _ _ _ c.not_building.ensures c.not_rising.ensures
    (c.bad_bound.ensures ∙ ap (λ (y : ℤ). bad_bound y) same) c.first_check.ensures)

pub returns-in-Adds : goal.returns-in-Adds
unfolding first
returns-in-Adds c = refused_as c.args.standing _ c.in-Adds.is c.check_term.ensures

pub returns-in-Areas : goal.returns-in-Areas
unfolding first
returns-in-Areas c = refused_as c.args.standing _ c.in-Areas.is c.check_term-in-Areas.ensures

pub returns-in-Seal : goal.returns-in-Seal
returns-in-Seal c =
    let s = c.args.standing in
    refused_as s _ c.in-Seal.is (seal_number s _ _ c.not_building-in-Seal.ensures c.check_plain-in-Seal.ensures)

pub returns-in-Mark : goal.returns-in-Mark
unfolding first
returns-in-Mark c = refused_as c.args.standing _ c.in-Mark.is c.first_check-in-Mark.ensures

pub returns-in-Settle : goal.returns-in-Settle
unfolding first
returns-in-Settle c = refused_as c.args.standing _ c.in-Settle.is c.check_plain-in-Settle.ensures

pub returns-in-Sift : goal.returns-in-Sift
unfolding first
returns-in-Sift c = refused_as c.args.standing _ c.in-Sift.is c.check_plain-in-Sift.ensures

pub returns-in-Unknown : goal.returns-in-Unknown
unfolding first
returns-in-Unknown c = refused_as c.args.standing _ c.in-Unknown.is c.check_plain-in-Unknown.ensures
