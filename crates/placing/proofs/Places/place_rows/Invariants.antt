-- What the loop of `placing::Places::place_rows` keeps.
use Rattle.base.specs.Laid.{over}
use Rattle.thresholds.specs.Lent.{lists_of}
use Rattle.job.specs.Shared.{nodes_to}
use Rattle.placing.specs.Place.{row_ends}
use Rattle.placing.specs.Lent.{PlacingIn, SameLengths, SamePlaces}
use mathlib.Core.Path.{◌≡◌}
use Rattle.placing.proofs.Places.place_rows.Given as goal

abbrev pub invariant-loop-t : goal.invariant-loop-t
invariant-loop-t l =
    let p = l.initial.self in
    let q = l.self in
    (SameLengths p q) × (SamePlaces p q)
    × (PlacingIn (lists_of l.lists) l.t l.so q)
    × (q.rows.now ≡ over (row_ends (lists_of l.lists) l.t) p.rows.now) × (q.nodes.now ≡ nodes_to (lists_of l.lists) p.nodes.now l.t)
