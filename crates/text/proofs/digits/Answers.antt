-- `text::digits` meets its contract. The loop's invariant: the digits passed stand at the end; what is left falls.
use Rattle.text.specs.NumberLaws.{digits_next, digits_last}
use Rattle.text.proofs.digits.Goals as goal

pub loop-rest-preserved : goal.loop-rest-preserved
loop-rest-preserved c =
    let w = c.loop-rest in
    rw c.digit-in-loop-rest.ensures
    (digits_next c.args.n w.into w.first w.rest w.invariant c.loop-rest-test.true).1

pub returns : goal.returns
returns c =
    let w = c.loop-rest in
    (w.invariant.inside, digits_last c.args.n w.into w.first w.rest w.invariant c.loop-rest-test.false)
