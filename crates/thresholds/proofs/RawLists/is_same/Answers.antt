-- `thresholds::RawLists::is_same` meets its contract. Assumes nothing.
use Rattle.thresholds.specs.Lent.{lists_of}
use Rattle.rows.specs.Lists.{list_at}
use Rattle.thresholds.specs.Tree.{marked_list}
use Rattle.thresholds.specs.TreeLaws.{words_differ}
use mathlib.Core.Path.{sym, ◌∙◌}
use Rattle.thresholds.proofs.RawLists.is_same.Goals as goal

pub returns-else-same : goal.returns-else-same
returns-else-same c = let g = c.args in
    let p = c.requires in
    let r = lists_of g.self in
    c.if-same.false ∙ sym (words_differ (marked_list r g.mark) (list_at r g.t) g.p (sym p.5 ∙ c.if-same.false))
