-- `notice::left` meets its contract: a line behind a contradiction.
use mathlib.Core.Path.{sym, ◌∙◌}
use native.Mathlib.Omega.{arith}
use Rattle.files.specs.Listing.{text}
use Rattle.text.specs.TextLaws.{wrote_none, wrote_as}
use Rattle.notice.specs.NoticeLaws.{left-none, left_some}
use Rattle.notice.proofs.left.Goals as goal

pub returns-then-contradicts-clause-wrote : goal.returns-then-contradicts-clause-wrote
unfolding text
returns-then-contradicts-clause-wrote c =
    wrote_as (omega arith) (sym (left_some c.args.last (sym c.contradicts.ensures ∙ c.if-contradicts.true))) c.put.ensures.wrote

pub returns-else-contradicts-clause-wrote : goal.returns-else-contradicts-clause-wrote
returns-else-contradicts-clause-wrote c =
    wrote_as (omega arith) (sym (left-none c.args.last (sym c.contradicts.ensures ∙ c.if-contradicts.false))) (wrote_none c.args.out.now.out.now c.args.out.now.at)
