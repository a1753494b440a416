-- `queues::next_row` meets its contract. Assumes nothing.
use mathlib.Core.Path.{◌≡◌, subst, sym}
use Prim.Native.Nat.{ℕ, ◌-◌, ◌%◌, ◌<◌}
use Rattle.queues.specs.declared.Ring.{Ring}
use Rattle.queues.specs.Queue.{next_row}
use Rattle.queues.specs.Slot.{rows_in}
use Rattle.queues.specs.SlotLaws.{column_small, column_even, slots_next, next_beside}
use Rattle.queues.proofs.next_row.Goals as goal

pub returns : goal.returns
returns c =
    let a = c.args in
    let l = a.row_queues.now in
    let k = c.first_column-k.result in
    let is = c.first_column-k.ensures in
    let small = subst (λ (j : ℕ). j < 4) (sym is) (column_small a.which) in
    let even = subst (λ (j : ℕ). j % 2 ≡ 0) (sym is) (column_even a.which) in
    let x = c.from-row in
    let p = c.put in
    let t = p.new.row_queues in
    subst (λ (j : ℕ). (rows_in j t c.popped.result ≡ next_row (rows_in j l a.ring)) × ((other : Ring) → rows_in (2 - j) t other ≡ rows_in (2 - j) l other)) is (
      slots_next k small even l a.ring x.result x.ensures t p.ensures c.popped.result c.popped.ensures,
      next_beside k small even l a.ring x.result x.ensures t p.ensures,
    )
