-- `thresholds::class_of` meets its contract. Assumes nothing.
use Rattle.thresholds.specs.TreeLaws.{class_is, class_under}
use Rattle.thresholds.proofs.class_of.Goals as goal

pub returns : goal.returns
returns c = (class_is c.args.print, class_under c.args.print)
