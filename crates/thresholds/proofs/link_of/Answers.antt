-- `thresholds::link_of` meets its contract.
use Rattle.std.proofs.Common.{rules}
use Rattle.thresholds.specs.TreeLaws.{link_zero, link_one, link_two}
use Rattle.thresholds.proofs.link_of.Goals as goal

pub returns-in-0 : goal.returns-in-0
returns-in-0 c = link_zero c.args.side c.args.mark c.in-0.is

pub returns-in-1 : goal.returns-in-1
returns-in-1 c = link_one c.args.side c.args.mark c.in-1.is

pub returns-in_default : goal.returns-in_default
returns-in_default c = link_two c.args.side c.args.mark (search rules) (search rules)
