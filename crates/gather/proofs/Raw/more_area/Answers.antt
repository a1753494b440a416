-- `Raw::more_area` meets its contract: the sum stands where the first area stood, rounded once.
use native.Mathlib.Omega.{arith}
use Rattle.gather.specs.JoinLaws.{area_counts, read_inside, read_small, more_read}
use Rattle.gather.proofs.Raw.more_area.Goals as goal

pub bounds-notes-i : goal.bounds-notes-i
bounds-notes-i c =
    let g = c.args in
    let q = c.requires in
    read_inside g.standing g.condition g.area _ _ _ _ _ q.0.0 q.0.1 q.1 q.3 q.2 q.4 c.place-at.result c.open_start.result c.place-at.ensures.0 c.open_start.ensures

pub overflow_add-sum : goal.overflow_add-sum
overflow_add-sum c =
    let g = c.args in
    let q = c.requires in
    let s = read_small g.standing g.condition g.area _ _ _ _ _ q.0.0 q.0.1 q.1 q.3 q.2 q.4 c.place-at.result c.open_start.result c.place-at.ensures.0 c.open_start.ensures in
    record { fits = omega (arith, s) }

pub bounds-notes-i-2 : goal.bounds-notes-i-2
bounds-notes-i-2 c =
    let g = c.args in
    let q = c.requires in
    read_inside g.standing g.condition g.area _ _ _ _ _ q.0.0 q.0.1 q.1 q.3 q.2 q.4 c.place-at.result c.open_start.result c.place-at.ensures.0 c.open_start.ensures

pub overflow_add-result : goal.overflow_add-result
overflow_add-result c =
    let g = c.args in
    let q = c.requires in
    record { fits = omega (arith, (area_counts g.standing g.condition g.area _ _ _ _ _ q.0.0 q.0.1 q.1 q.3).0) }

pub overflow_add-result-2 : goal.overflow_add-result-2
overflow_add-result-2 c =
    let g = c.args in
    let q = c.requires in
    record { fits = omega (arith, (area_counts g.standing g.condition g.area _ _ _ _ _ q.0.0 q.0.1 q.1 q.3).1) }

pub returns-clause-more : goal.returns-clause-more
returns-clause-more c =
    let g = c.args in
    let q = c.requires in
    let w = c.weight_of_area in
    more_read g.standing g.condition g.area _ _ _ _ _ q.0.0 q.0.1 q.1 q.3 q.2 q.4 c.place-at.result c.open_start.result c.place-at.ensures.0 c.open_start.ensures w.result w.ensures
