-- `notice::refused` meets its contract: nothing, or four texts, one behind the other.
use mathlib.Core.Path.{sym}
use native.Mathlib.Omega.{arith}
use Rattle.files.specs.Listing.{text}
use Rattle.text.specs.Decimal.{decimal}
use Rattle.text.specs.TextLaws.{wrote_none, wrote_as, wrote_then, wrote_both}
use Rattle.notice.specs.NoticeLaws.{refused_none, refused_some}
use Rattle.notice.proofs.refused.Goals as goal

pub returns-then-number-eq0-clause-wrote : goal.returns-then-number-eq0-clause-wrote
returns-then-number-eq0-clause-wrote c =
    wrote_as (omega arith) (sym (refused_none c.args.number c.args.offset c.if-number-eq0.true)) (wrote_none c.args.out.now.out.now c.args.out.now.at)

pub returns-clause-wrote : goal.returns-clause-wrote
unfolding text
returns-clause-wrote c =
    let front = wrote_then (omega arith) c.put.ensures.wrote c.meaning.ensures.wrote in
    let whole = wrote_then (omega arith) (wrote_both (text ", at byte ") (decimal c.args.offset) (omega arith) front c.labelled.ensures.wrote) c.put-2.ensures.wrote in
    wrote_as (omega arith) (sym (refused_some c.args.number c.args.offset c.if-number-eq0.false)) whole
