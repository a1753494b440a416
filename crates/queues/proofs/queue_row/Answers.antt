-- `queues::queue_row` meets its contract. Assumes nothing.
use mathlib.Core.Path.{◌≡◌, refl, subst, sym}
use Prim.Native.Nat.{ℕ, ◌-◌, ◌%◌, ◌<◌}
use Rattle.queues.specs.declared.Ring.{Ring}
use Rattle.queues.specs.Queue.{queue_row}
use Rattle.queues.specs.Slot.{rows_in}
use Rattle.queues.specs.SlotLaws.{column_small, column_even, slots_waits, slots_new, new_beside}
use Rattle.queues.proofs.queue_row.Goals as goal

pub returns-then-waits : goal.returns-then-waits
returns-then-waits c =
    let a = c.args in
    let l = a.row_queues.now in
    let k = c.first_column-k.result in
    let is = c.first_column-k.ensures in
    let small = subst (λ (j : ℕ). j < 4) (sym is) (column_small a.which) in
    let even = subst (λ (j : ℕ). j % 2 ≡ 0) (sym is) (column_even a.which) in
    subst (λ (j : ℕ). (rows_in j l a.ring ≡ queue_row (rows_in j l a.ring) a.row) × ((other : Ring) → rows_in (2 - j) l other ≡ rows_in (2 - j) l other)) is
    (slots_waits k small even l a.ring a.row c.if-waits.true, λ other. refl)

pub returns : goal.returns
returns c =
    let a = c.args in
    let l = a.row_queues.now in
    let k = c.first_column-k.result in
    let is = c.first_column-k.ensures in
    let small = subst (λ (j : ℕ). j < 4) (sym is) (column_small a.which) in
    let even = subst (λ (j : ℕ). j % 2 ≡ 0) (sym is) (column_even a.which) in
    let new = c.if-waits.false in
    let at = c.behind-at in
    let p = c.put in
    let q = c.put-2 in
    let t = q.new.row_queues in
    subst (λ (j : ℕ). (rows_in j t c.longer.result ≡ queue_row (rows_in j l a.ring) a.row) × ((other : Ring) → rows_in (2 - j) t other ≡ rows_in (2 - j) l other)) is (
      slots_new k small even l a.ring a.row new at.result at.ensures.0 p.new.row_queues t p.ensures q.ensures c.longer.result c.longer.ensures,
      new_beside k small even l a.ring a.row new at.result at.ensures.0 p.new.row_queues t p.ensures q.ensures,
    )
