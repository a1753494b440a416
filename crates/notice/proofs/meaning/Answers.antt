-- `notice::meaning` meets its contract: a text for each number.
use mathlib.Core.Path.{sym, ap}
use native.Mathlib.Omega.{arith}
use borrow.Author.Rules.{rules}
use Rattle.files.specs.Listing.{text}
use Rattle.text.specs.TextLaws.{wrote_as}
use Rattle.notice.specs.Notice.{meaning}
use Rattle.notice.specs.NoticeLaws.{meaning_other}
use Rattle.notice.proofs.meaning.Goals as goal

pub returns-in-1-clause-wrote : goal.returns-in-1-clause-wrote
unfolding meaning text
returns-in-1-clause-wrote c =
    wrote_as (omega arith) (ap meaning (sym c.in-1.is)) c.put.ensures.wrote

pub returns-in-2-clause-wrote : goal.returns-in-2-clause-wrote
unfolding meaning text
returns-in-2-clause-wrote c =
    wrote_as (omega arith) (ap meaning (sym c.in-2.is)) c.put-in-2.ensures.wrote

pub returns-in-3-clause-wrote : goal.returns-in-3-clause-wrote
unfolding meaning text
returns-in-3-clause-wrote c =
    wrote_as (omega arith) (ap meaning (sym c.in-3.is)) c.put-in-3.ensures.wrote

pub returns-in-4-clause-wrote : goal.returns-in-4-clause-wrote
unfolding meaning text
returns-in-4-clause-wrote c =
    wrote_as (omega arith) (ap meaning (sym c.in-4.is)) c.put-in-4.ensures.wrote

pub returns-in-5-clause-wrote : goal.returns-in-5-clause-wrote
unfolding meaning text
returns-in-5-clause-wrote c =
    wrote_as (omega arith) (ap meaning (sym c.in-5.is)) c.put-in-5.ensures.wrote

pub returns-in-6-clause-wrote : goal.returns-in-6-clause-wrote
unfolding meaning text
returns-in-6-clause-wrote c =
    wrote_as (omega arith) (ap meaning (sym c.in-6.is)) c.put-in-6.ensures.wrote

pub returns-in-7-clause-wrote : goal.returns-in-7-clause-wrote
unfolding meaning text
returns-in-7-clause-wrote c =
    wrote_as (omega arith) (ap meaning (sym c.in-7.is)) c.put-in-7.ensures.wrote

pub returns-in-8-clause-wrote : goal.returns-in-8-clause-wrote
unfolding meaning text
returns-in-8-clause-wrote c =
    wrote_as (omega arith) (ap meaning (sym c.in-8.is)) c.put-in-8.ensures.wrote

pub returns-in-9-clause-wrote : goal.returns-in-9-clause-wrote
unfolding meaning text
returns-in-9-clause-wrote c =
    wrote_as (omega arith) (ap meaning (sym c.in-9.is)) c.put-in-9.ensures.wrote

pub returns-in_default-clause-wrote : goal.returns-in_default-clause-wrote
unfolding text
returns-in_default-clause-wrote c =
    wrote_as (omega arith) (sym (meaning_other c.args.number (search rules))) c.put-in_default.ensures.wrote
