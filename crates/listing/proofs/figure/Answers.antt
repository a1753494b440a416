-- `listing::figure` meets its contract: two texts, one behind the other.
use Rattle.std.proofs.Common.{◌≡◌, arith, rules, ap}
use Rattle.files.specs.Listing.{text}
use Rattle.text.specs.Decimal.{decimal_z}
use Rattle.text.specs.TextLaws.{wrote_same, wrote_then}
use Rattle.text.specs.NumberLaws.{held}
use Rattle.listing.proofs.figure.Goals as goal

pub returns-clause-wrote : goal.returns-clause-wrote
unfolding text
returns-clause-wrote c =
    let e : held c.args.z ≡ c.args.z = search rules in
    wrote_then (omega arith) (wrote_same (ap decimal_z e) c.signed.ensures.wrote) c.put.ensures.wrote
