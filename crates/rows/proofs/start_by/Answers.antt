-- `rows::start_by` meets its contract.
use native.Mathlib.Omega.{arith}
use Rattle.base.specs.PartsLaws.{start-zero, start-before}
use mathlib.Core.Path.{◌∙◌}
use Rattle.rows.proofs.start_by.Goals as goal

pub returns-then-n-eq0 : goal.returns-then-n-eq0
returns-then-n-eq0 g c = (start-zero c.args.j c.args.table.now c.args.n c.if-n-eq0.true, omega arith)

pub returns : goal.returns
returns g c = (c.end_by.ensures.0 ∙ start-before c.args.j c.args.table.now c.args.n (omega arith), c.end_by.ensures.1)
