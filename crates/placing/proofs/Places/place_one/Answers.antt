-- `placing::Places::place_one` meets its contract. Assumes nothing.
use Prim.Native.Nat.{ℕ}
use native.Mathlib.Omega.{arith}
use lib.ListN.{take, set}
use Rattle.rows.specs.Guards.{node_at}
use Rattle.thresholds.specs.Lent.{lists_of}
use Rattle.job.specs.Shared.{node_entry}
use Rattle.thresholds.specs.Tree.{Finds}
use Rattle.rows.specs.Lists.{list_at}
use Rattle.placing.specs.PlaceLaws.{within, found_old, found_new, placing_old, rows_old, rows_new}
use mathlib.Core.Path.{◌∙◌, sym, ap, subst}
use Rattle.placing.proofs.Places.place_one.Goals as goal

pub enter_node-requires : goal.enter_node-requires
enter_node-requires c = let g = c.args in
    let p = c.requires in
    let r = lists_of g.lists in
    let ms = take g.so.rows g.self.now.scratch.now in
    let f = found_old r g.t ms p.3.marks.named g.self.now.heads.now _ (subst (Finds r ms g.self.now.heads.now (list_at r g.t)) c.in-Ok.is c.find_row-found.ensures) in
    let w = within r g.t g.so g.self.now.row_conditions.now g.self.now.row_weights.now g.self.now.rows.now g.self.now.scratch.now g.self.now.heads.now p.0 p.3 p.1 in
    let a = f.0 in
    let b = f.1 in
    let m = p.3.marks.many in
    (p.1, omega arith, omega arith, p.2)

pub enter_node-requires-in-Err : goal.enter_node-requires-in-Err
enter_node-requires-in-Err c =
    let g = c.args in
    let p = c.requires in
    let r = lists_of g.lists in
    let w = within r g.t g.so g.self.now.row_conditions.now g.self.now.row_weights.now g.self.now.rows.now g.self.now.scratch.now g.self.now.heads.now p.0 p.3 p.1 in
    (p.1, omega arith, omega arith, p.2)

pub returns-in-Ok-clause-placed : goal.returns-in-Ok-clause-placed
returns-in-Ok-clause-placed c =
    let g = c.args in
    let p = c.requires in
    let r = lists_of g.lists in
    let ms = take g.so.rows g.self.now.scratch.now in
    let f = found_old r g.t ms p.3.marks.named g.self.now.heads.now _ (subst (Finds r ms g.self.now.heads.now (list_at r g.t)) c.in-Ok.is c.find_row-found.ensures) in (
      placing_old r g.t g.so g.self.now.row_conditions.now g.self.now.row_weights.now g.self.now.scratch.now g.self.now.heads.now p.3 p.0.lists p.1 f.1,
      rows_old r g.t g.self.now.rows.now f.1,
      c.enter_node.ensures ∙ ap (λ (n : ℕ). set g.self.now.nodes.now (node_at g.lists.thresholds.now g.t) (node_entry g.t n)) f.0,
    )

pub returns-in-Err-clause-placed : goal.returns-in-Err-clause-placed
returns-in-Err-clause-placed c =
    let g = c.args in
    let p = c.requires in
    let r = lists_of g.lists in
    let f = found_new r g.t (take g.so.rows g.self.now.scratch.now) p.3.marks.named g.self.now.heads.now _ ((subst (Finds r (take g.so.rows g.self.now.scratch.now) g.self.now.heads.now (list_at r g.t)) c.in-Err.is c.find_row-found.ensures)) in
    let s = c.add_row.ensures.placed in (
      s.0,
      s.1 ∙ rows_new r g.t g.self.now.rows.now g.so.rows c.add_row.result.end f p.3.marks.many s.0.end,
      s.2 ∙ c.enter_node-in-Err.ensures ∙ ap (λ (n : ℕ). set g.self.now.nodes.now (node_at g.lists.thresholds.now g.t) (node_entry g.t n)) (p.3.marks.many ∙ sym f),
    )
