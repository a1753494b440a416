-- `rows::Terms::has_nonunit` meets its contract.
use Rattle.std.proofs.Common.{rules, length, ◌≡◌, ◌∙◌, ap, not}
use Rattle.rows.specs.ListsLaws.{nonunit_none, nonunit_first}
use borrow.Author.Tests.{tests}
use Rattle.rows.proofs.Terms.has_nonunit.Goals as goal

pub returns-then-not-is_empty : goal.returns-then-not-is_empty
returns-then-not-is_empty c = nonunit_first _ _ c.requires (λ h. search (rules, tests))

pub returns-else-not-is_empty : goal.returns-else-not-is_empty
returns-else-not-is_empty c =
    let e : length c.args.self.weights.now ≡ 0 = search (rules, tests) in
    ap not c.if-not-is_empty.false ∙ nonunit_none _ _ c.requires e
