-- `thresholds::RawLists::is_marked` meets its contract. Assumes nothing.
use Rattle.rows.specs.ListsLaws.{list_is}
use Rattle.thresholds.specs.TreeLaws.{prints_differ}
use Rattle.thresholds.specs.Tree.{shorts}
use Rattle.thresholds.specs.Lent.{lists_of}
use Rattle.rows.specs.Lists.{list_at}
use Rattle.row.specs.Terms.{same_terms}
use mathlib.Core.Path.{sym, ap, ap₂, ◌∙◌}
use Prim.Native.Nat.{ℕ, ◌%◌}
use Rattle.thresholds.proofs.RawLists.is_marked.Goals as goal

pub returns-then-mark-print : goal.returns-then-mark-print
returns-then-mark-print c = let g = c.args in
    let p = c.requires in
    let r = lists_of g.self in
    sym (prints_differ r g.mark (list_at r g.t) p.3 (λ e. c.if-mark-print.true (e ∙ ap (λ (n : ℕ). n % shorts) (sym p.4))))

pub returns : goal.returns
returns c = let g = c.args in
    let r = lists_of g.self in
    c.same_stretch.ensures
    ∙ ap₂ same_terms (list_is r (g.mark % 1024) c.start_of-a.result c.end_of-e.result c.start_of-a.ensures c.end_of-e.ensures)
    (list_is r g.t c.start_of-b.result c.end_of-g.result c.start_of-b.ensures c.end_of-g.ensures)
