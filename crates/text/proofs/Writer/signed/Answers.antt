-- `text::Writer::signed` meets its contract: its size, behind a minus where it is below zero.
use Rattle.std.proofs.Common.{◌≡◌, ◌∷◌, nat_abs, arith, rules, sym, ap, ◌∙◌, to_z-of_z}
use Rattle.std.specs.Int.{w64}
use Rattle.text.specs.Decimal.{decimal}
use Rattle.text.specs.TextLaws.{wrote_as, wrote_then}
use Rattle.text.specs.NumberLaws.{held, signed_below, signed_from}
use Rattle.text.proofs.Writer.signed.Goals as goal
use Rattle.text.proofs.Writer.signed.Goals.{then-z-lt0, else-z-lt0}

pub returns-clause-wrote : goal.returns-clause-wrote
returns-clause-wrote c =
    let z = c.args.z in
    let e : held z ≡ z = to_z-of_z {w = w64} (search rules) in
    let size : c.unsigned_abs.result ≡ nat_abs z = c.unsigned_abs.ensures.value ∙ ap nat_abs e in
    elim c.if-z-lt0.branch [
      | then-z-lt0 w ↦ wrote_as (omega arith) (ap (λ n. 45 ∷ decimal n) size ∙ sym (signed_below z (rw e at w.if-z-lt0.true)))
          (wrote_then (omega arith) w.put.ensures.wrote (rw w.self-is at c.decimal.ensures.wrote))
      | else-z-lt0 w ↦ wrote_as (omega arith) (ap decimal size ∙ sym (signed_from z (rw e at w.if-z-lt0.false))) (rw w.self-is at c.decimal.ensures.wrote)
    ]
