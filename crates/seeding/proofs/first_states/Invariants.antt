-- What the loop of `seeding::first_states` keeps.
use lib.ListN.{length}
use Rattle.std.proofs.Common.{◌≡◌}
use Rattle.row_moves.specs.Numbers.{states_of, Tidy}
use Rattle.row_moves.specs.FirstLaws.{Starting}
use Rattle.seeding.proofs.first_states.Given as goal

abbrev pub invariant-loop-at : goal.invariant-loop-at
invariant-loop-at l =
    Starting l.held.row_conditions.now l.held.row_weights.now l.held.rows.now (states_of l.initial.figures l.initial.cursors) l.at (states_of l.figures l.cursors)
    × (length l.figures ≡ length l.initial.figures) × (length l.cursors ≡ length l.initial.cursors) × (Tidy l.initial.figures l.initial.cursors → Tidy l.figures l.cursors)
