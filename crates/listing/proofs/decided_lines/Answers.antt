-- `listing::decided_lines` meets its contract: the nodes, where the file is sealed.
use Rattle.std.proofs.Common.{arith, sym}
use Rattle.text.specs.TextLaws.{wrote_none, wrote_as}
use Rattle.listing.specs.LinesLaws.{nodes_sealed, nodes_none}
use Rattle.listing.proofs.decided_lines.Goals as goal

pub returns-then-given-clause-wrote : goal.returns-then-given-clause-wrote
returns-then-given-clause-wrote c =
    let m = c.args.masks in
    let p = c.requires.1 c.if-given.true in
    wrote_as (omega (arith, p.nodes)) (sym (nodes_sealed c.args.given m.sure.now m.never.now c.if-given.true)) c.node_lines.ensures.wrote

pub returns-else-given-clause-wrote : goal.returns-else-given-clause-wrote
returns-else-given-clause-wrote c =
    let m = c.args.masks in
    wrote_as (omega arith) (sym (nodes_none c.args.given m.sure.now m.never.now c.if-given.false)) (wrote_none c.args.out.now.out.now c.args.out.now.at)
