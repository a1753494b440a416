-- `listing::refused_line` meets its contract: three texts, one behind the other.
use Rattle.std.proofs.Common.{ℕ, ◌++◌, arith, ap}
use Rattle.files.specs.Listing.{text}
use Rattle.text.specs.Decimal.{decimal}
use Rattle.text.specs.TextLaws.{wrote_same, wrote_then, wrote_both}
use Rattle.listing.specs.Lines.{refused_line}
use Rattle.listing.proofs.refused_line.Goals as goal

pub returns-clause-wrote : goal.returns-clause-wrote
unfolding refused_line text
returns-clause-wrote c =
    let a = wrote_same (ap (λ (n : ℕ). text "refused " ++ decimal n) c.from.ensures) c.labelled.ensures.wrote in
    wrote_then (omega arith)
    (wrote_both (text " at ") (decimal c.args.offset) (omega arith) a c.labelled-2.ensures.wrote)
    c.put.ensures.wrote
