-- `listing::step` meets its contract: a word for each step.
use Rattle.std.proofs.Common.{ℕ, arith, rules, sym, ap}
use Rattle.files.specs.Listing.{text, step_word}
use Rattle.text.specs.TextLaws.{wrote_as}
use Rattle.listing.specs.Lines.{step_of}
use Rattle.listing.specs.LinesLaws.{step_other}
use Rattle.listing.proofs.step.Goals as goal

pub returns-in-0-clause-wrote : goal.returns-in-0-clause-wrote
unfolding step_of text
returns-in-0-clause-wrote c = wrote_as (omega arith) (ap (λ (n : ℕ). step_word (step_of n)) (sym c.in-0.is)) c.put.ensures.wrote

pub returns-in-1-clause-wrote : goal.returns-in-1-clause-wrote
unfolding step_of text
returns-in-1-clause-wrote c = wrote_as (omega arith) (ap (λ (n : ℕ). step_word (step_of n)) (sym c.in-1.is)) c.put-in-1.ensures.wrote

pub returns-in_default-clause-wrote : goal.returns-in_default-clause-wrote
unfolding text
returns-in_default-clause-wrote c =
    wrote_as (omega arith) (ap step_word (sym (step_other c.args.number (search rules) (search rules)))) c.put-in_default.ensures.wrote
