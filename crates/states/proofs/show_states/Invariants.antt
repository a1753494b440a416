-- What the loop of `states::show_states` keeps: the places passed show what they are to show, the others are as they were lent.
use Rattle.std.proofs.Common.{◌≡◌}
use Rattle.row_moves.specs.Numbers.{states_of}
use Rattle.states.specs.StatesLaws.{showing}
use Rattle.states.proofs.show_states.Given as goal

abbrev pub invariant-loop-row : goal.invariant-loop-row
invariant-loop-row l = l.states ≡ showing (states_of l.figures l.cursors) l.initial.states l.row
