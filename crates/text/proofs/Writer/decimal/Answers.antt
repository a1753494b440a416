-- `text::Writer::decimal` meets its contract: a short number, a short one with four digits behind it, or a long one.
use Rattle.std.proofs.Common.{arith, sym}
use Rattle.text.specs.TextLaws.{wrote_then, wrote_as}
use Rattle.text.specs.NumberLaws.{in_two_parts}
use Rattle.text.proofs.Writer.decimal.Goals as goal

pub returns-then-n-lt100000000-clause-wrote : goal.returns-then-n-lt100000000-clause-wrote
returns-then-n-lt100000000-clause-wrote c =
    wrote_as (omega arith) (sym (in_two_parts c.args.n (omega arith) (omega arith)))
    (wrote_then (omega arith) c.short-then-n-lt100000000.ensures.wrote c.four.ensures.wrote)
