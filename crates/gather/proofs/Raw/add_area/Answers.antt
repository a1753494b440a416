-- `Raw::add_area` meets its contract: by whether the open threshold has an area of the condition.
use native.Mathlib.Omega.{arith}
use Rattle.gather.specs.JoinLaws.{area_open, area_named}
use Rattle.gather.proofs.Raw.add_area.Goals as goal

pub open_start-start-requires : goal.open_start-start-requires
open_start-start-requires c =
    let g = c.args in
    let q = c.requires in
    let o = area_open g.standing g.condition g.area _ _ _ _ _ q.0.0 q.0.1 q.1 q.3 in
    (omega (arith, o), omega (arith, q.0.0.many, q.0.0.room))

pub bounds-notes-condition : goal.bounds-notes-condition
bounds-notes-condition c =
    let g = c.args in
    let q = c.requires in
    area_named g.standing g.condition g.area _ _ _ _ _ q.0.0 q.0.1 q.1 q.3
