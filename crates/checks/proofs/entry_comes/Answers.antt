-- `checks::entry_comes` meets its contract: kind, body, then the check that would refuse it.
use mathlib.Core.Path.{sym, ◌∙◌}
use Rattle.checks.specs.CheckLaws.{entry_named, entry_next, none_in}
use Rattle.checks.proofs.entry_comes.Goals as goal

pub returns : goal.returns
returns c e =
    let a = c.args in
    let u = c.u16_at-condition in
    let n = c.check_term in
    entry_next a.standing a.input.now a.at (entry_named c.in-Some.kind c.in-Some.ensures (sym c.is_entry-other.ensures ∙ c.if-other.false)) c.requires c.if-short.false u.result _ u.ensures n.ensures (none_in n.result (sym c.is_ok.ensures.value ∙ e))
