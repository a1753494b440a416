-- `reading::read_entry` meets its contract: the two fields are added to the job, by the kind that was found.
use Rattle.reading.specs.HeldLaws.{read_term, read_area, term_passes, area_passes}
use borrow.Author.Rules.{rules}
use Rattle.reading.proofs.read_entry.Goals as goal

pub add_area-after-requires : goal.add_area-after-requires
add_area-after-requires c =
    let w = c.u32_at-figure in
    let n = c.u16_at-condition in
    let g = c.args in
    ((c.requires.1.listed, c.requires.1.termed), c.requires.2, search rules, area_passes g.input.now g.at g.standing c.requires.0 n.result w.result n.ensures w.ensures c.if-areas.true)

pub returns-then-areas-clause-reads : goal.returns-then-areas-clause-reads
returns-then-areas-clause-reads c =
    let w = c.u32_at-figure in
    let n = c.u16_at-condition in
    let g = c.args in
    let t = c.add_area-after in
    let so = read_area g.input.now g.at g.standing c.requires.0 n.result w.result n.ensures w.ensures c.if-areas.true _ _ _ _ _ t.result _ _ _ _ _ t.ensures.taken g.raw.now.bounds.now in
    rw (t.ensures.kept) so

pub add_term-after-requires : goal.add_term-after-requires
add_term-after-requires c =
    let w = c.u32_at-figure in
    let n = c.u16_at-condition in
    let g = c.args in
    ((c.requires.1.listed, c.requires.1.termed), search rules, term_passes g.input.now g.at g.standing c.requires.0 n.result w.result n.ensures w.ensures c.if-areas.false)

pub returns-clause-reads : goal.returns-clause-reads
returns-clause-reads c =
    let w = c.u32_at-figure in
    let n = c.u16_at-condition in
    let g = c.args in
    let t = c.add_term-after in
    let so = read_term g.input.now g.at g.standing c.requires.0 n.result w.result n.ensures w.ensures c.if-areas.false _ _ _ g.notes.now.places.now g.notes.now.sums.now t.result _ _ _ t.ensures.added g.raw.now.bounds.now in
    rw (t.ensures.kept) so
