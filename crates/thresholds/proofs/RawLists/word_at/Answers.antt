-- `thresholds::RawLists::word_at` meets its contract. Assumes nothing.
use Rattle.rows.specs.ListsLaws.{list_is}
use Rattle.thresholds.specs.Lent.{lists_of}
use Rattle.thresholds.specs.Tree.{word_at}
use Rattle.thresholds.specs.TreeLaws.{word_past, word_here}
use mathlib.Core.Path.{sym, ap, ◌∙◌}
use mathlib.Core.List.{List}
use Rattle.numeric.specs.Threshold.{Term}
use native.Mathlib.Omega.{arith}
use Rattle.thresholds.proofs.RawLists.word_at.Goals as goal

pub returns-then-p-e : goal.returns-then-p-e
returns-then-p-e c =
    let g = c.args in
    let p = c.requires in
    let a = c.start_of-a.ensures in
    let e = c.end_of-e.ensures in
    sym (ap (λ (l : List Term). word_at l g.p) (sym (list_is (lists_of g.self) g.t _ _ a e))
    ∙ word_past g.self.raw_conditions.now g.self.raw_weights.now _ _ g.p p.0.weighed (omega (arith, p.0.inside g.t p.1)) c.if-p-e.true)

pub returns : goal.returns
returns c =
    let g = c.args in
    let p = c.requires in
    let a = c.start_of-a.ensures in
    let e = c.end_of-e.ensures in
    rw c.from.ensures (sym (ap (λ (l : List Term). word_at l g.p) (sym (list_is (lists_of g.self) g.t _ _ a e))
    ∙ word_here g.self.raw_conditions.now g.self.raw_weights.now _ _ g.p p.0.weighed (omega (arith, p.0.inside g.t p.1)) c.if-p-e.false))
