-- `checks::check_term` meets its contract: what each check says of a term.
use Rattle.checks.specs.CheckLaws.{adds_number}
use Rattle.checks.proofs.check_term.Goals as goal

pub returns : goal.returns
returns c =
    let s = c.args in
    adds_number s.standing _ s.condition _ _ c.not_within.ensures c.too_many_terms.ensures c.first_check.ensures
