-- What the loops of `thresholds::RawLists::find_row` keep, and what falls.
use Rattle.thresholds.specs.TreeLaws.{left}
use Rattle.thresholds.specs.Tree.{word_at, Searching}
use Rattle.thresholds.specs.Lent.{lists_of}
use Rattle.rows.specs.Lists.{list_at}
use mathlib.Core.Path.{◌≡◌}
use lib.ListN.{length}
use Rattle.thresholds.proofs.RawLists.find_row.Given as goal

abbrev pub invariant-loop-k : goal.invariant-loop-k
invariant-loop-k l =
    Searching (lists_of l.self) l.marks l.heads (list_at (lists_of l.self) l.t) l.k l.p l.rest l.link
    × (l.word ≡ word_at (list_at (lists_of l.self) l.t) l.p)

abbrev pub decreases-loop-k : goal.decreases-loop-k
decreases-loop-k l = left (length l.marks) l.k
