-- `listing::last_line` meets its contract: the numbers of decided nodes, or the refusal.
use Rattle.std.proofs.Common.{sym}
use Rattle.text.specs.TextLaws.{wrote_same}
use Rattle.listing.specs.LinesLaws.{last_end, last_refused}
use Rattle.listing.proofs.last_line.Goals as goal

pub returns-then-refused-eq0-clause-wrote : goal.returns-then-refused-eq0-clause-wrote
returns-then-refused-eq0-clause-wrote c =
    let m = c.args.masks in
    wrote_same (sym (last_end c.args.given m.sure.now m.never.now c.if-refused-eq0.true)) c.end_line.ensures.wrote

pub returns-clause-wrote : goal.returns-clause-wrote
returns-clause-wrote c =
    let m = c.args.masks in
    wrote_same (sym (last_refused c.args.given m.sure.now m.never.now c.if-refused-eq0.false)) c.refused_line.ensures.wrote
