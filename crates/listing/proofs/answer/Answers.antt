-- `listing::answer` meets its contract: the line of a settle or of a sift, text by text.
use Rattle.std.proofs.Common.{ℕ, ◌≡◌, ◌++◌, arith, sym, ap}
use Rattle.files.specs.Listing.{text, answer_line}
use Rattle.text.specs.Decimal.{decimal}
use Rattle.text.specs.TextLaws.{wrote_as, wrote_same, wrote_then, wrote_both}
use Rattle.listing.specs.LinesLaws.{answer_settle, answer_sift}
use Rattle.listing.proofs.answer.Goals as goal

pub returns-then-number-lt4-clause-wrote : goal.returns-then-number-lt4-clause-wrote
unfolding text
returns-then-number-lt4-clause-wrote c =
    wrote_as (omega arith) (ap answer_line (sym (answer_settle c.args.number c.args.visits c.if-number-lt4.true)))
    (wrote_then (omega arith) (wrote_then (omega arith) c.put.ensures.wrote c.step.ensures.wrote) c.put-then-number-lt4.ensures.wrote)

pub returns-clause-wrote : goal.returns-clause-wrote
unfolding text
returns-clause-wrote c =
    let visits : c.from.result ≡ c.args.visits = c.from.ensures in
    let a = wrote_then (omega arith) c.put-2.ensures.wrote c.step-2.ensures.wrote in
    wrote_as (omega arith) (ap answer_line (sym (answer_sift c.args.number c.args.visits c.if-number-lt4.false)))
    (wrote_then (omega arith) (wrote_both (text " ") (decimal c.args.visits) (omega arith) a (wrote_same (ap (λ (n : ℕ). text " " ++ decimal n) visits) c.labelled.ensures.wrote)) c.put-3.ensures.wrote)
