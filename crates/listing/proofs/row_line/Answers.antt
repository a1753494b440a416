-- `listing::row_line` meets its contract: four texts, one behind the other.
use Rattle.std.proofs.Common.{arith}
use Rattle.files.specs.Listing.{text}
use Rattle.text.specs.TextLaws.{wrote_then}
use Rattle.listing.specs.Lines.{row_line}
use Rattle.listing.proofs.row_line.Goals as goal

pub returns-clause-wrote : goal.returns-clause-wrote
unfolding row_line text
returns-clause-wrote c =
    wrote_then (omega arith)
    (wrote_then (omega arith) (wrote_then (omega arith) c.labelled.ensures.wrote c.put.ensures.wrote) c.figures.ensures.wrote)
    c.put-2.ensures.wrote
