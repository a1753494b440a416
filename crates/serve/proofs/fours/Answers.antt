-- `serve::fours` meets its contract: the width of each slot is that of its type.
use Rattle.serve.specs.SlotLaws.{fourfold_all}
use mathlib.Core.Path.{refl}
use borrow.Author.Rules.{rules}
use Rattle.serve.proofs.fours.Goals as goal

pub returns : goal.returns
returns c = (refl, fourfold_all c.args.row_queues.now (search rules))
