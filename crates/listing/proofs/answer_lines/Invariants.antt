-- What the loop of `listing::answer_lines` keeps: the lines of the answers passed are written.
use Rattle.std.proofs.Common.{length}
use Rattle.text.specs.Writing.{WritesFirst}
use Rattle.listing.specs.Lines.{max_answer_line, answer_at}
use Rattle.listing.proofs.answer_lines.Given as goal

abbrev pub invariant-loop-line : goal.invariant-loop-line
invariant-loop-line l = WritesFirst max_answer_line l.initial.out l.out (answer_at l.answers) (length l.answers) l.line-index
