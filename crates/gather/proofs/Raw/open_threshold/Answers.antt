-- `Raw::open_threshold` meets its contract: the threshold stands behind the others.
use mathlib.Core.Path.{◌≡◌, sym, subst}
use mathlib.Core.List.{[], ◌∷◌}
use native.Mathlib.Omega.{arith}
use lib.ListN.{set}
use lib.IntN.{ℤ}
use mir.Syntax.{w64}
use mir.Val.{to_z, of_z}
use Rattle.job.specs.Taken.{opened_by}
use Rattle.job.specs.Gathered.{Opened}
use Rattle.gather.specs.TakenLaws.{open_room, opened}
use borrow.Author.Rules.{rules}
use Rattle.gather.proofs.Raw.open_threshold.Goals as goal

pub bounds-self-at : goal.bounds-self-at
bounds-self-at c =
    let g = c.args in
    let q = c.requires in
    omega (arith, open_room g.standing g.node g.bound _ _ q.0 q.1 q.2, q.0.room)

pub bounds-self-at-2 : goal.bounds-self-at-2
bounds-self-at-2 c =
    let g = c.args in
    let q = c.requires in
    omega (arith, open_room g.standing g.node g.bound _ _ q.0 q.1 q.2, q.1.room)

pub returns-clause-opened : goal.returns-clause-opened
returns-clause-opened c =
    let g = c.args in
    let q = c.requires in
    let w = g.self.now in
    let at = g.standing.thresholds in
    let same : to_z w64 (of_z w64 g.bound) ≡ g.bound = search rules in
    subst
    (λ (z : ℤ). Opened g.standing g.node g.bound w.thresholds.now w.bounds.now (opened_by g.standing g.node) (set w.thresholds.now at (g.node ∷ g.standing.raw_terms ∷ [])) (set w.bounds.now at z))
    (sym same) (opened g.standing g.node g.bound w.thresholds.now w.bounds.now q.0 q.1 q.2)
