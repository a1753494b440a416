-- `text::Writer::short` meets its contract: one, two, three or four digits.
use Rattle.std.proofs.Common.{arith, sym, []}
use Rattle.text.specs.TextLaws.{wrote_then, wrote_as}
use Rattle.text.specs.NumberLaws.{one-digit, two_digits, three_digits, four-digits}
use Rattle.text.proofs.Writer.short.Goals as goal

pub returns-then-n-lt10-clause-wrote : goal.returns-then-n-lt10-clause-wrote
returns-then-n-lt10-clause-wrote c = wrote_as (omega arith) (sym (one-digit 19 c.args.n [] (omega arith))) c.one.ensures.wrote

pub returns-then-n-lt100-clause-wrote : goal.returns-then-n-lt100-clause-wrote
returns-then-n-lt100-clause-wrote c =
    wrote_as (omega arith) (sym (two_digits 18 c.args.n [] (omega arith) (omega arith))) c.two.ensures.wrote

pub returns-then-n-lt1000-clause-wrote : goal.returns-then-n-lt1000-clause-wrote
returns-then-n-lt1000-clause-wrote c =
    wrote_as (omega arith) (sym (three_digits 17 c.args.n [] (omega arith) (omega arith)))
    (wrote_then (omega arith) c.one-then-n-lt1000.ensures.wrote c.two-then-n-lt1000.ensures.wrote)

pub returns-clause-wrote : goal.returns-clause-wrote
returns-clause-wrote c = wrote_as (omega arith) (sym (four-digits 16 c.args.n [] (omega arith) (omega arith))) c.four.ensures.wrote
