-- `listing::front_lines` meets its contract: the nodes behind the answers.
use Rattle.std.proofs.Common.{◌≡◌, length, take, refl, arith, sym, ap, ◌∙◌, length-take}
use Rattle.text.specs.Text.{joined}
use Rattle.text.specs.TextLaws.{wrote_as, wrote_then}
use Rattle.listing.specs.Lines.{answer_at}
use Rattle.listing.specs.ShowsLaws.{answers_taken}
use Rattle.listing.proofs.front_lines.Goals as goal

pub returns-clause-wrote : goal.returns-clause-wrote
returns-clause-wrote c =
    let answers = c.args.answers.now in
    let n = c.args.given.answered in
    let inside = c.requires.1.inside in
    let few = c.requires.1.few in
    let long : length (take n answers) ≡ n = omega (arith, length-take n answers) in
    let lines = ap (joined (answer_at (take n answers))) long ∙ sym (answers_taken answers n) in
    wrote_as (omega arith) refl (wrote_then {a = 2560} (omega arith) (wrote_as (omega arith) lines c.answer_lines.ensures.wrote) c.decided_lines.ensures.wrote)
