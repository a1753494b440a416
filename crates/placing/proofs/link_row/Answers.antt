-- `placing::link_row` meets its contract. Assumes nothing.
use Prim.Native.Nat.{ℕ, ◌+◌, ◌-◌, ◌/◌, ◌<◌}
use lib.ListN.{set}
use mathlib.Core.Path.{◌∙◌, ap}
use native.Mathlib.Omega.{arith}
use Rattle.thresholds.specs.Tree.{class_of}
use Rattle.thresholds.specs.TreeLaws.{marks-first, marks_later, heads_first, heads_later}
use Rattle.placing.proofs.link_row.Goals as goal
use Rattle.placing.proofs.link_row.Goals.{Else-link-eq0}

-- The link is not the head of the class.
later : (p : Else-link-eq0) → 0 < p.args.link
later p = omega (arith, p.if-link-eq0.false)

pub returns-then-link-eq0 : goal.returns-then-link-eq0
returns-then-link-eq0 c =
    let g = c.args in
    let e = c.if-link-eq0.true in (
      ap (λ (h : ℕ). set g.heads.now h (g.row + 1)) c.class_of-class.ensures.0 ∙ heads_first g.link (class_of g.print) (g.row + 1) g.heads.now e,
      marks-first g.link (g.row + 1) g.marks.now e,
    )

pub returns : goal.returns
returns c =
    let g = c.args in
    let o = later (goal.at.returns c).Else-link-eq0 in (
      heads_later g.link (class_of g.print) (g.row + 1) g.heads.now o,
      ap (set g.marks.now (g.link / 3 - 1)) c.with_link.ensures ∙ marks_later g.link (g.row + 1) g.marks.now o,
    )
