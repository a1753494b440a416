-- `placing::Places::add_row` meets its contract. Assumes nothing.
use Prim.Native.Nat.{ℕ, ◌+◌, ◌%◌}
use native.Mathlib.Omega.{arith}
use Rattle.numeric.specs.Slices.{terms}
use Rattle.thresholds.specs.Lent.{lists_of}
use Rattle.base.specs.Parts.{stretch}
use Rattle.rows.specs.Lists.{list_at}
use Rattle.rows.specs.ListsLaws.{list_is}
use Rattle.job.specs.RowsGivenTermsLaws.{terms_room}
use Rattle.placing.specs.PlaceLaws.{within, marks_tail, link_free, placing_new}
use Rattle.thresholds.specs.Tree.{shorts, mark, class_of, linked_marks, linked_heads}
use Rattle.thresholds.specs.TreeLaws.{print_small, mark-first, mark_print, mark-links}
use mathlib.Core.Path.{◌∙◌, refl, ap}
use Rattle.placing.proofs.Places.add_row.Goals as goal

pub build_at-end-requires : goal.build_at-end-requires
build_at-end-requires c =
    let g = c.args in
    let p = c.requires in
    let r = lists_of g.lists in
    let l = p.0.lists in
    let w = within r g.t g.so g.self.now.row_conditions.now g.self.now.row_weights.now g.self.now.rows.now g.self.now.scratch.now g.self.now.heads.now p.0 p.3 p.1 in
    let rising = l.rising g.t p.1 in
    let short = l.short g.t p.1 in
    let inside = l.inside g.t p.1 in
    let a = c.start_of-a.ensures in
    let e = c.end_of-e.ensures in
    let end = p.3.end in
    let fit = terms_room r _ g.t l p.1 in
    let room = p.0.room in
    (omega arith, omega arith, l.weighed, omega arith, omega arith, p.0.even, p.0.below, l.light, p.0.words, marks_tail r g.t g.so.rows g.self.now.scratch.now g.self.now.heads.now p.3.marks (omega arith))

pub overflow_cast-entry : goal.overflow_cast-entry
overflow_cast-entry c = let g = c.args in
    let p = c.requires in
    let r = lists_of g.lists in
    let a = c.start_of-a.ensures in
    let e = c.end_of-e.ensures in
    let end = p.3.end in
    let fit = terms_room r _ g.t p.0.lists p.1 in
    let few = p.0.few in
    let n = c.build_at-end.ensures.0 in
    let k = c.build_at-end.ensures.1 in
    record { fits = omega arith }

pub bounds-self-row : goal.bounds-self-row
bounds-self-row c =
    let g = c.args in
    let p = c.requires in
    let w = within (lists_of g.lists) g.t g.so g.self.now.row_conditions.now g.self.now.row_weights.now g.self.now.rows.now g.self.now.scratch.now g.self.now.heads.now p.0 p.3 p.1 in
    w.row

pub link_row-requires : goal.link_row-requires
link_row-requires c =
    let g = c.args in
    let p = c.requires in
    let r = lists_of g.lists in
    let s = print_small r g.t p.0.lists p.1 in
    let e = p.2 in
    let w = within r g.t g.so g.self.now.row_conditions.now g.self.now.row_weights.now g.self.now.rows.now g.self.now.scratch.now g.self.now.heads.now p.0 p.3 p.1 in
    let turn = w.turn in
    let few = w.few in
    let word = w.word in
    (omega arith, omega arith, p.3.marks.treed.wide, link_free r g.self.now.heads.now (list_at r g.t) g.link g.so.rows g.self.now.scratch.now _ p.5 (omega arith) c.build_at-end.ensures.4)

pub bounds-self-row-2 : goal.bounds-self-row-2
bounds-self-row-2 c =
    let g = c.args in
    let p = c.requires in
    let w = within (lists_of g.lists) g.t g.so g.self.now.row_conditions.now g.self.now.row_weights.now g.self.now.rows.now g.self.now.scratch.now g.self.now.heads.now p.0 p.3 p.1 in
    let word = w.word in
    let k = c.link_row.auto.marks in
    let l = c.build_at-end.auto.scratch in
    omega arith

pub returns-clause-placed : goal.returns-clause-placed
returns-clause-placed c =
    let g = c.args in
    let p = c.requires in
    let r = lists_of g.lists in
    let w = within r g.t g.so g.self.now.row_conditions.now g.self.now.row_weights.now g.self.now.rows.now g.self.now.scratch.now g.self.now.heads.now p.0 p.3 p.1 in
    let l = p.0.lists in
    let a = c.start_of-a.ensures in
    let e = c.end_of-e.ensures in
    let s = c.build_at-end.ensures in
    let q = c.link_row.ensures in
    let turn = w.turn in
    let few = w.few in
    let x = terms (stretch c.start_of-a.result c.end_of-e.result g.lists.raw_conditions.now) (stretch c.start_of-a.result c.end_of-e.result g.lists.raw_weights.now) in (
      placing_new r g.t g.so g.self.now.row_conditions.now g.self.now.row_weights.now g.self.now.scratch.now g.self.now.heads.now p.3 l p.1 c.start_of-a.result c.end_of-e.result x a e (list_is r g.t _ _ a e) s.1 p.4
          c.build_at-end.result (mark g.print g.t) g.link _ _ _ _ p.0.room p.0.even w.word (omega arith) s.0
          c.build_at-end.auto.row_conditions s.2 c.build_at-end.auto.row_weights s.3
          (mark-first g.print g.t w.turn) (mark_print g.print g.t w.turn ∙ ap (λ (h : ℕ). h % shorts) p.2) (λ z. mark-links g.print g.t z w.turn) p.5
          (q.1 ∙ ap (linked_marks g.link (g.so.rows + 1)) s.4)
          (q.0 ∙ ap (λ (h : ℕ). linked_heads g.link (class_of h) (g.so.rows + 1) g.self.now.heads.now) p.2),
      refl,
      refl,
    )
