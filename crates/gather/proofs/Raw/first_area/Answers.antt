-- `Raw::first_area` meets its contract: one term more, and its place and hundredths are noted.
use mathlib.Core.Path.{subst}
use Prim.Native.Nat.{ℕ}
use native.Mathlib.Omega.{arith}
use Rattle.numeric.specs.Area.{weight_of_area}
use Rattle.job.specs.Gathered.{Added}
use Rattle.gather.specs.JoinLaws.{area_open, area_named, area_counts, open_filled, first_read}
use Rattle.gather.proofs.Raw.first_area.Goals as goal

pub open_start-requires : goal.open_start-requires
open_start-requires c =
    let g = c.args in
    let q = c.requires in
    let o = area_open g.standing g.condition g.area _ _ _ _ _ q.0.0 q.0.1 q.1 q.3 in
    (omega (arith, o), omega (arith, q.0.0.many, q.0.0.room))

pub bounds-notes-condition : goal.bounds-notes-condition
bounds-notes-condition c =
    let g = c.args in
    let q = c.requires in
    area_named g.standing g.condition g.area _ _ _ _ _ q.0.0 q.0.1 q.1 q.3

pub bounds-notes-i : goal.bounds-notes-i
bounds-notes-i c =
    let g = c.args in
    let q = c.requires in
    let f = open_filled g.standing g.condition g.area _ _ _ _ _ q.0.0 q.0.1 q.1 q.3 in
    let n = area_counts g.standing g.condition g.area _ _ _ _ _ q.0.0 q.0.1 q.1 q.3 in
    omega (arith, c.open_start.ensures, f, n.0, q.1.sums)

pub returns-clause-first : goal.returns-clause-first
returns-clause-first c =
    let g = c.args in
    let q = c.requires in
    let w = g.self.now in
    let t = c.add_term in
    let v = t.new.self in
    let so : Added g.standing g.condition (weight_of_area g.area) w.raw_conditions.now w.raw_weights.now w.thresholds.now t.result v.raw_conditions.now v.raw_weights.now v.thresholds.now =
    subst (λ (x : ℕ). Added g.standing g.condition x w.raw_conditions.now w.raw_weights.now w.thresholds.now t.result v.raw_conditions.now v.raw_weights.now v.thresholds.now) c.weight_of_area-weight.ensures t.ensures.added in
    first_read g.standing g.condition g.area _ _ _ _ _ q.0.0 q.0.1 q.1 q.3 q.2 q.4 t.result _ _ _ so c.open_start.result c.open_start.ensures
