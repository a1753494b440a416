-- `listing::node_lines` meets its contract, line by line.
use Rattle.std.proofs.Common.{refl, ◌∙◌, arith, rules}
use Rattle.text.specs.TextLaws.{wrote_long, joins_none, joins_next}
use Rattle.listing.specs.Lines.{max_node_line}
use Rattle.listing.proofs.node_lines.Goals as goal

pub loop-n-init : goal.loop-n-init
loop-n-init c = (refl, joins_none max_node_line _ _ _ _)

pub loop-n-preserved : goal.loop-n-preserved
loop-n-preserved c =
    let w = c.loop-n in
    (c.node_line.ensures.same_buffer ∙ w.invariant.0, joins_next (omega arith) (omega arith) w.invariant.1 (wrote_long (search rules) c.node_line.ensures.wrote) c.node_line.ensures.wrote)
