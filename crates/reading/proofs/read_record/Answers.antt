-- `reading::read_record` meets its contract: the next record is refused, a seal, or taken.
use mathlib.Core.Path.{sym, ap, ◌∙◌}
use Rattle.checks.specs.Next.{Refused, next_of}
use Rattle.reading.specs.HeldLaws.{next_passes, read_refused, read_sealing, read_next}
use Rattle.reading.proofs.read_record.Goals as goal

pub returns-then-closes-clause-reads : goal.returns-then-closes-clause-reads
returns-then-closes-clause-reads c =
    let g = c.args in
    let e = sym (ap next_of c.in-Ok.is) ∙ c.next_record-next.ensures in
    record { part = λ f w room h. read_sealing g.input.now g.at c.requires.0 f w g.standing _ _ _ _ _ _ h _ e (sym c.closes.ensures ∙ c.if-closes.true) }

pub take_record-after-requires : goal.take_record-after-requires
take_record-after-requires c =
    let g = c.args in
    let e = sym (ap next_of c.in-Ok.is) ∙ c.next_record-next.ensures in
    (c.requires.2, c.requires.3, next_passes g.standing g.input.now g.at _ e, c.requires.1 _ e, sym c.closes.ensures ∙ c.if-closes.false)

pub returns-in-Err-clause-reads : goal.returns-in-Err-clause-reads
returns-in-Err-clause-reads c =
    let g = c.args in
    let e = sym (ap next_of c.in-Err.is) ∙ c.next_record-next.ensures in
    record { part = λ f w room h. read_refused g.input.now g.at c.requires.0 f w g.standing _ _ _ _ _ _ h _ (ap Refused c.from.ensures ∙ e) }

pub returns-else-closes-clause-reads : goal.returns-else-closes-clause-reads
returns-else-closes-clause-reads c =
    let g = c.args in
    let e = sym (ap next_of c.in-Ok.is) ∙ c.next_record-next.ensures in
    let goes = sym c.closes.ensures ∙ c.if-closes.false in
    let t = c.take_record-after in
    record { part = λ f w room h. read_next g.input.now g.at c.requires.0 f w g.standing _ _ _ _ _ _ h _ e goes _ c.body_length-size.ensures t.result _ _ _ _ _ _ (t.ensures.takes.done f w room h) (t.ensures.takes.building f w h) }
