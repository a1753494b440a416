-- `row_moves::HeldRows::rests` meets its contract: the row with its stretches is the row that is held.
use mathlib.Core.Path.{refl}
use Rattle.base.specs.Parts.{stretch}
use Rattle.queues.specs.Marks.{marks}
use Rattle.row_moves.specs.Held.{start_by, end_by}
use Rattle.row_moves.specs.HeldLaws.{guard_slices, rests_cut}
use Rattle.row_moves.specs.Lent.{held_by}
use Rattle.row_moves.proofs.HeldRows.rests.Goals as goal

pub returns : goal.returns
returns c =
    let a = c.args in
    let b = c.guards_start-b in
    let f = c.guards_end-f in
    (λ t ns q shaped.
    let h = held_by a.self ns in
    let same = (guard_slices h shaped a.row c.requires.1 b.result f.result b.ensures.0 f.ensures.0).same in
    rests_cut h a.row _ _ b.result f.result refl refl b.ensures.0 f.ensures.0 a.state (marks a.sure.now a.never.now q)
    (rw (c.terms-terms.ensures.0, c.terms-terms.ensures.1) at (c.rests.ensures t (stretch b.result f.result ns) q same)))
