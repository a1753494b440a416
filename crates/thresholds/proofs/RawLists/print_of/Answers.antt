-- `thresholds::RawLists::print_of` meets its contract. Assumes nothing.
use Rattle.rows.specs.ListsLaws.{list_is}
use Rattle.thresholds.specs.Lent.{lists_of}
use Rattle.thresholds.specs.Raw.{fingerprint}
use mathlib.Core.Path.{ap, ◌∙◌}
use Rattle.thresholds.proofs.RawLists.print_of.Goals as goal

pub returns : goal.returns
returns c =
    let g = c.args in
    c.print_stretch.ensures
    ∙ ap fingerprint (list_is (lists_of g.self) g.t _ _ c.start_of-a.ensures c.end_of-e.ensures)
