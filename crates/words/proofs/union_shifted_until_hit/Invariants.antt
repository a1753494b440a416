-- What the loops of `words::union_shifted_until_hit` keep, and what falls.
use mathlib.Core.Path.{◌≡◌}
use Prim.Native.Nat.{◌-◌, ◌/◌, ◌≤◌}
use lib.ListN.{length}
use Rattle.words.specs.Shift.{shift_from, union_shifted}
use Rattle.words.proofs.union_shifted_until_hit.Given as goal

abbrev pub invariant-loop-source : goal.invariant-loop-source
invariant-loop-source l =
    (length l.words ≡ length l.initial.words) × (l.source ≤ length l.initial.words - l.shift / 64)
    × (shift_from l.shift l.start l.end l.source l.words l.left ≡ union_shifted l.initial.words l.source_words l.shift l.start l.end l.allowance)
