-- `listing::end_line` meets its contract: the ones of both masks, counted.
use Rattle.std.proofs.Common.{arith, ap₂, ◌∙◌}
use Rattle.files.specs.Listing.{text}
use Rattle.text.specs.Decimal.{decimal}
use Rattle.text.specs.TextLaws.{wrote_as, wrote_then, wrote_both}
use Rattle.listing.specs.Lines.{end_line}
use Rattle.listing.specs.LinesLaws.{counted}
use Rattle.listing.proofs.end_line.Goals as goal

pub returns-clause-wrote : goal.returns-clause-wrote
unfolding end_line text
returns-clause-wrote c =
    let m = c.args.masks in
    let a = c.count-sures.ensures ∙ counted m.sure.now c.requires.1 in
    let b = c.count-nevers.ensures ∙ counted m.never.now c.requires.2 in
    let s = wrote_both (text " ") (decimal c.count-nevers.result) (omega arith) c.labelled.ensures.wrote c.labelled-2.ensures.wrote in
    wrote_as (omega arith) (ap₂ end_line a b) (wrote_then (omega arith) s c.put.ensures.wrote)
