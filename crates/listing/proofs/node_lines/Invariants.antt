-- What the loop of `listing::node_lines` keeps: the lines of the nodes passed are written.
use Rattle.text.specs.Writing.{WritesFirst}
use Rattle.listing.specs.Lines.{max_node_line, node_at}
use Rattle.listing.proofs.node_lines.Given as goal

abbrev pub invariant-loop-n : goal.invariant-loop-n
invariant-loop-n l = WritesFirst max_node_line l.initial.out l.out (node_at l.masks.sure.now l.masks.never.now) l.count l.n
