-- What the loop of `reading::read_records` keeps, and what falls.
use Prim.Native.Nat.{◌-◌}
use lib.ListN.{length}
use Rattle.gather.specs.Lent.{SameRaw, SameNotes}
use Rattle.reading.specs.Lent.{GoesIn}
use Rattle.reading.proofs.read_records.Given as goal

abbrev pub invariant-loop-read : goal.invariant-loop-read
invariant-loop-read l =
    GoesIn l.input l.initial.read.at l.initial.read.standing l.initial.raw l.initial.notes l.read l.raw l.notes
    × SameRaw l.initial.raw l.raw × SameNotes l.initial.notes l.notes

abbrev pub decreases-loop-read : goal.decreases-loop-read
decreases-loop-read l = length l.input - l.read.at
