-- `listing::node_line` meets its contract: the masks are asked in turn.
use Rattle.std.proofs.Common.{arith, sym, ◌∙◌}
use Rattle.files.specs.Listing.{text}
use Rattle.text.specs.TextLaws.{wrote_none, wrote_as}
use Rattle.listing.specs.LinesLaws.{node_sure, node_never, node_none}
use Rattle.listing.proofs.node_line.Goals as goal

pub returns-then-bit-clause-wrote : goal.returns-then-bit-clause-wrote
unfolding text
returns-then-bit-clause-wrote c =
    let m = c.args.masks in
    wrote_as (omega arith) (sym (node_sure m.sure.now m.never.now c.args.n (sym c.bit.ensures ∙ c.if-bit.true))) c.node.ensures.wrote

pub returns-then-bit-2-clause-wrote : goal.returns-then-bit-2-clause-wrote
unfolding text
returns-then-bit-2-clause-wrote c =
    let m = c.args.masks in
    wrote_as (omega arith)
    (sym (node_never m.sure.now m.never.now c.args.n (sym c.bit.ensures ∙ c.if-bit.false) (sym c.bit-2.ensures ∙ c.if-bit-2.true)))
    c.node-then-bit-2.ensures.wrote

pub returns-else-bit-2-clause-wrote : goal.returns-else-bit-2-clause-wrote
returns-else-bit-2-clause-wrote c =
    let m = c.args.masks in
    wrote_as (omega arith)
    (sym (node_none m.sure.now m.never.now c.args.n (sym c.bit.ensures ∙ c.if-bit.false) (sym c.bit-2.ensures ∙ c.if-bit-2.false)))
    (wrote_none c.args.out.now.out.now c.args.out.now.at)
