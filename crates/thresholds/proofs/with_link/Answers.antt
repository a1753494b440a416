-- `thresholds::with_link` meets its contract.
use Rattle.std.proofs.Common.{arith, rules}
use Rattle.thresholds.specs.TreeLaws.{link_zero, link_one, link_two, with_zero, with_one, with_two}
use Rattle.thresholds.proofs.with_link.Goals as goal

pub overflow_add-result : goal.overflow_add-result
overflow_add-result c = let g = c.args in record { fits = omega (arith, link_zero g.side g.mark c.in-0.is) }

pub overflow_add-result-in-1 : goal.overflow_add-result-in-1
overflow_add-result-in-1 c = let g = c.args in record { fits = omega (arith, link_one g.side g.mark c.in-1.is) }

pub overflow_add-result-in_default : goal.overflow_add-result-in_default
overflow_add-result-in_default c = let g = c.args in record { fits = omega (arith, link_two g.side g.mark (search rules) (search rules)) }

pub returns-in-0 : goal.returns-in-0
returns-in-0 c = let g = c.args in with_zero g.side g.row g.mark c.in-0.is

pub returns-in-1 : goal.returns-in-1
returns-in-1 c = let g = c.args in with_one g.side g.row g.mark c.in-1.is

pub returns-in_default : goal.returns-in_default
returns-in_default c = let g = c.args in with_two g.side g.row g.mark (search rules) (search rules)
