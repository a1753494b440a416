-- `listing::node` meets its contract: two texts, one behind the other.
use Rattle.std.proofs.Common.{arith}
use Rattle.files.specs.Listing.{text}
use Rattle.text.specs.TextLaws.{wrote_then}
use Rattle.listing.proofs.node.Goals as goal

pub returns-clause-wrote : goal.returns-clause-wrote
unfolding text
returns-clause-wrote c = wrote_then (omega arith) c.labelled.ensures.wrote c.put.ensures.wrote
