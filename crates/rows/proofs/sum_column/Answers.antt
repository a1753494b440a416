-- `rows::sum_column` meets its contract. Assumes nothing.
use Rattle.base.specs.TallyLaws.{blend_next, blend_at, blend_all, begin-at, sum_next, sum_grows, sum-zero, length-begins}
use Rattle.base.specs.ColumnsLaws.{beside_self, beside_stored, beside_is, wide_stored, column-at, length-column, column-stored}
use Rattle.base.specs.Columns.{column, with_column}
use Rattle.base.specs.Deal.{begins, sum_to}
use mathlib.Core.Path.{◌≡◌, refl, sym, ap, ap₂, ◌∙◌}
use mathlib.Core.List.{List, []}
use Prim.Native.Nat.{ℕ, ◌+◌, ◌<◌}
use native.Mathlib.Omega.{arith}
use lib.ListN.{length, get_or, set}
use Rattle.rows.proofs.sum_column.Goals as goal

pub loop-row-init : goal.loop-row-init
loop-row-init c = (c.requires.1, beside_self c.args.j _, refl, sum-zero _)

pub overflow_add-sum : goal.overflow_add-sum
overflow_add-sum c =
    let w = c.loop-row in
    let rows = c.args.rows.now in
    let j = c.args.j in
    let cs = column j rows in
    let bs = begins 0 cs in
    let i = w.row-index in
    let e = w.invariant.1.long in
    let t = c.loop-row-test.true in
    let lc = length-column j rows in
    let lb = length-begins 0 cs in
    let v : get_or (get_or w.rows i []) j 0 ≡ get_or cs i 0 =
    sym (column-at j w.rows i) ∙ ap (λ (l : List ℕ). get_or l i 0) w.invariant.2 ∙ blend_at i bs cs 0 (omega arith) in
    let s : w.sum + get_or (get_or w.rows i []) j 0 ≡ sum_to cs (i + 1) = ap₂ ◌+◌ w.invariant.3 v ∙ sum_next cs i in
    let g = sum_grows cs (i + 1) (length rows) (omega arith) in
    let q = c.requires.2 in
    omega arith

pub loop-row-preserved : goal.loop-row-preserved
loop-row-preserved c =
    let w = c.loop-row in
    let rows = c.args.rows.now in
    let j = c.args.j in
    let cs = column j rows in
    let bs = begins 0 cs in
    let i = w.row-index in
    let e = w.invariant.1.long in
    let t = c.loop-row-test.true in
    let lc = length-column j rows in
    let lb = length-begins 0 cs in
    let v : get_or (get_or w.rows i []) j 0 ≡ get_or cs i 0 =
    sym (column-at j w.rows i) ∙ ap (λ (l : List ℕ). get_or l i 0) w.invariant.2 ∙ blend_at i bs cs 0 (omega arith) in
    let s : w.sum + get_or (get_or w.rows i []) j 0 ≡ sum_to cs (i + 1) = ap₂ ◌+◌ w.invariant.3 v ∙ sum_next cs i in
    let h : i < length w.rows = omega arith in (
      wide_stored j j w.rows i w.sum w.invariant.0,
      beside_stored j w.rows rows i w.sum h w.invariant.1,
      column-stored j w.rows i w.sum h (w.invariant.0 i h)
          ∙ ap₂ (λ (l : List ℕ) (x : ℕ). set l i x) w.invariant.2 (w.invariant.3 ∙ sym (begin-at cs i (omega arith)))
          ∙ blend_next i bs cs 0 (omega arith) (omega arith),
      s,
    )

pub returns : goal.returns
returns c =
    let w = c.loop-row in
    let rows = c.args.rows.now in
    let j = c.args.j in
    let t = c.loop-row-test.false in
    let e = w.invariant.1.long in
    let lc = length-column j rows in
    let lb = length-begins 0 (column j rows) in
    beside_is j w.rows rows w.invariant.1
    ∙ ap (with_column j rows) (w.invariant.2 ∙ blend_all w.row-index (begins 0 (column j rows)) (column j rows) (omega arith) (omega arith))
