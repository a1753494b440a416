-- `listing::row_lines` meets its contract, line by line.
use Rattle.std.proofs.Common.{refl, ◌∙◌, arith, rules}
use Rattle.state.specs.State.{no_state}
use Rattle.text.specs.TextLaws.{wrote_long, joins_none, joins_next}
use Rattle.listing.specs.Lines.{max_row_line}
use Rattle.listing.proofs.row_lines.Goals as goal

pub loop-r-init : goal.loop-r-init
loop-r-init c = (refl, joins_none max_row_line _ _ _ _)

pub loop-r-preserved : goal.loop-r-preserved
unfolding no_state
loop-r-preserved c =
    let w = c.loop-r in
    (c.row_line.ensures.same_buffer ∙ w.invariant.0, joins_next (omega arith) (omega arith) w.invariant.1 (wrote_long (search rules) c.row_line.ensures.wrote) c.row_line.ensures.wrote)
