-- `text::Writer::four` meets its contract: two pairs, one behind the other.
use Rattle.std.proofs.Common.{arith}
use Rattle.text.specs.TextLaws.{wrote_then}
use Rattle.text.proofs.Writer.four.Goals as goal

pub returns-clause-wrote : goal.returns-clause-wrote
returns-clause-wrote c = wrote_then (omega arith) c.two.ensures.wrote c.two-2.ensures.wrote
