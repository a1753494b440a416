-- `listing::figures` meets its contract: three figures, a space behind each, and the upper limit.
use Rattle.std.proofs.Common.{◌≡◌, ◌++◌, ℤ, arith, rules, ap}
use Rattle.files.specs.Listing.{text}
use Rattle.text.specs.Decimal.{decimal_z}
use Rattle.text.specs.TextLaws.{wrote_same, wrote_then, wrote_both}
use Rattle.text.specs.NumberLaws.{held}
use Rattle.listing.proofs.figures.Goals as goal

pub returns-clause-wrote : goal.returns-clause-wrote
returns-clause-wrote c =
    let x = c.args.state in
    let known : held x.known ≡ x.known = search rules in
    let possible : held x.possible ≡ x.possible = search rules in
    let lower : held x.lower ≡ x.lower = search rules in
    let a = wrote_same (ap (λ (z : ℤ). decimal_z z ++ text " ") known) c.figure.ensures.wrote in
    let b = wrote_both (decimal_z x.possible) (text " ") (omega arith) a (wrote_same (ap (λ (z : ℤ). decimal_z z ++ text " ") possible) c.figure-2.ensures.wrote) in
    let d = wrote_both (decimal_z x.lower) (text " ") (omega arith) b (wrote_same (ap (λ (z : ℤ). decimal_z z ++ text " ") lower) c.figure-3.ensures.wrote) in
    wrote_then (omega arith) d c.upper.ensures.wrote
