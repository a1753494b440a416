-- `text::Writer::labelled` meets its contract: two texts, one behind the other.
use Rattle.std.proofs.Common.{arith}
use Rattle.text.specs.TextLaws.{wrote_then}
use Rattle.text.proofs.Writer.labelled.Goals as goal

pub returns-clause-wrote : goal.returns-clause-wrote
returns-clause-wrote c = wrote_then (omega arith) c.put.ensures.wrote c.decimal.ensures.wrote
