-- `short` tests the lengths one after the other.
use mathlib.Core.Path.{ap}
use mathlib.Core.Bool.{not}
use mathlib.Core.List.{[], ◌∷◌}
use Rattle.memory.specs.LengthsLaws.{enough_from, fits_from_lem}
use Rattle.memory.proofs.short.Goals as goal

pub returns : goal.returns
unfolding enough_from
returns c =
    let a = c.args in
    ap not
    (fits_from_lem
    (a.raw_conditions ∷ a.raw_weights ∷ a.thresholds ∷ a.bounds
    ∷ a.row_conditions ∷ a.row_weights ∷ a.rows ∷ a.guard_bounds ∷ a.guard_nodes ∷ a.nodes ∷ a.edges ∷ a.links
    ∷ a.figures ∷ a.cursors ∷ a.sure ∷ a.never ∷ a.search ∷ a.gcds ∷ a.node_queue ∷ a.row_queues ∷ a.answers ∷ []) a.input)
