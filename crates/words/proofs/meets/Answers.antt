-- `words::meets` meets its contract: a window behind the word, before it, or over some of it.
use borrow.Author.Rules.{rules}
use Rattle.words.specs.ShiftStepsLaws.{meets-over}
use Rattle.words.proofs.meets.Goals as goal

pub returns : goal.returns
returns c =
    let g = c.args in
    meets-over g.position g.bits g.start g.end c.saturating_sub-above.result c.saturating_sub-below.result
    c.if-position-start.false c.if-end-position.false (search rules) (search rules)
