-- `listing::answer_lines` meets its contract, line by line.
use Rattle.std.proofs.Common.{refl, ◌∙◌, arith, rules}
use Rattle.text.specs.TextLaws.{wrote_long, joins_none, joins_next}
use Rattle.listing.specs.Lines.{max_answer_line, answer_at}
use Rattle.listing.proofs.answer_lines.Goals as goal

pub loop-line-init : goal.loop-line-init
loop-line-init c = (refl, joins_none max_answer_line _ _ _ _)

pub loop-line-preserved : goal.loop-line-preserved
unfolding answer_at
loop-line-preserved c =
    let w = c.loop-line in
    (c.answer.ensures.same_buffer ∙ w.invariant.0, joins_next (omega arith) (omega arith) w.invariant.1 (wrote_long (search rules) c.answer.ensures.wrote) c.answer.ensures.wrote)
