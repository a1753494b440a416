-- What the loops of `words::count` keep, and what falls.
use mathlib.Core.Path.{◌≡◌}
use Prim.Native.Nat.{◌*◌}
use Rattle.words.specs.Mask.{count}
use Rattle.words.proofs.count.Given as goal

abbrev pub invariant-loop-word : goal.invariant-loop-word
invariant-loop-word l = l.sum ≡ count l.mask (64 * l.word-index)
