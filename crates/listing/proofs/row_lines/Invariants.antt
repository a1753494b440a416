-- What the loop of `listing::row_lines` keeps: the lines of the rows passed are written.
use Rattle.std.proofs.Common.{length}
use Rattle.text.specs.Writing.{WritesFirst}
use Rattle.listing.specs.Lines.{max_row_line, row_at}
use Rattle.listing.proofs.row_lines.Given as goal

abbrev pub invariant-loop-r : goal.invariant-loop-r
invariant-loop-r l = WritesFirst max_row_line l.initial.out l.out (row_at l.states) (length l.states) l.r
