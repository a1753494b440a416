-- `placing::Places::find_row` meets its contract.
use native.Mathlib.Omega.{arith}
use lib.Seq.{length-take-le}
use Rattle.thresholds.specs.Lent.{lists_of}
use Rattle.thresholds.specs.Tree.{Own}
use Rattle.thresholds.specs.TreeLaws.{raws_own}
use Rattle.placing.specs.PlaceLaws.{within}
use mathlib.Core.Path.{sym, subst}
use Rattle.placing.proofs.Places.find_row.Goals as goal

pub find_row-requires : goal.find_row-requires
find_row-requires c = let g = c.args in
    let r = lists_of g.lists in
    let p = c.requires in
    let w = within r g.t g.so g.self.now.row_conditions.now g.self.now.row_weights.now g.self.now.rows.now g.self.now.scratch.now g.self.now.heads.now p.0 p.3 p.1 in
    let word = w.word in
    let turn = w.turn in
    let few = w.few in
    let l = length-take-le g.so.rows g.self.now.scratch.now (omega arith) in
    (p.0.lists, p.1, p.3.marks.marked, p.3.marks.treed, omega arith, subst Own (sym p.3.marks.named) (raws_own r g.t), p.2)
