-- `rows::Terms::total` meets its contract.
use Rattle.std.proofs.Common.{rules, arith, ◌≡◌, ◌∙◌, ◌<◌, ◌^◌, sum}
use Rattle.rows.specs.ListsLaws.{sum_total}
use Rattle.rows.proofs.Terms.total.Goals as goal

pub sum-requires-clause-fits : goal.sum-requires-clause-fits
sum-requires-clause-fits c =
    let e : sum c.args.self.weights.now < 2 ^ 64 = omega (arith, sum_total c.args.self.conditions.now c.args.self.weights.now c.requires.0) in
    search rules

pub returns : goal.returns
returns c =
    let e : c.sum.result ≡ sum c.args.self.weights.now = search rules in
    e ∙ sum_total c.args.self.conditions.now c.args.self.weights.now c.requires.0
