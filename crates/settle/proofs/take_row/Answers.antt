-- `settle::take_row` meets its contract: the row waits no longer, and hands its bounds on.
use Prim.Native.Nat.{ℕ}
use native.Mathlib.Omega.{arith}
use lib.ListN.{length}
use Rattle.memory.specs.Ranges.{figure_limit}
use Rattle.queues.specs.Queue.{oldest}
use Rattle.queues.specs.Slot.{rows_in}
use Rattle.row_moves.specs.declared.Live.{Live}
use Rattle.row_moves.specs.Between.{did}
use Rattle.row_moves.specs.Lent.{held_of, live_in}
use Rattle.theorem_keeps.specs.TurnLaws.{slots_head, slots_oldest, row_there, row_run, row_is}
use mathlib.Core.Path.{◌≡◌, ◌∙◌, ap}
use Rattle.settle.proofs.take_row.Goals as goal

-- The oldest row of the queue whose columns begin at k is that of the first queue.
is_oldest : (l : Live) (k row : ℕ) → row ≡ oldest (rows_in k l.row_queues.now l.rings.rows).queue → k ≡ 0
    → row ≡ oldest (rows_in 0 l.row_queues.now l.rings.rows).queue
is_oldest l k row e f = e ∙ ap (λ (i : ℕ). oldest (rows_in i l.row_queues.now l.rings.rows).queue) f

pub oldest_row-row-requires : goal.oldest_row-row-requires
oldest_row-row-requires c =
    let l = c.args.live.now in
    (slots_head 0 l.row_queues.now l.rings.rows c.requires.runnable.dirty, omega (arith, c.first_column.ensures))

pub next_row-live-requires : goal.next_row-live-requires
next_row-live-requires c =
    let l = c.args.live.now in
    let f = c.requires.runnable.dirty in
    let some = c.requires.shaped.2 in
    (f.held, some, slots_oldest 0 l.row_queues.now l.rings.rows f some)

pub threshold_prefixes-requires : goal.threshold_prefixes-requires
threshold_prefixes-requires c =
    let a = c.args in
    let r = a.live.now.rings in
    let v = live_in a.live.now in
    let w = c.requires.shaped in
    let n = c.next_row-live in
    let q = n.new.row_queues in
    let i = row_there (length a.built.held.rows.now) v.dirty c.requires.runnable.dirty w.2 w.3 c.oldest_row-row.result (is_oldest c.args.live.now c.first_column.result c.oldest_row-row.result c.oldest_row-row.ensures c.first_column.ensures) in
    record { shaped = (w.0, w.1, i); runnable = row_run v w.2 (rows_in 0 q n.result) (rows_in 2 q r.residuals) n.ensures.0 (n.ensures.1 r.residuals) (held_of a.built.held) figure_limit c.requires.runnable }

pub returns-clause-ran : goal.returns-clause-ran
returns-clause-ran c =
    let r = c.args.live.now.rings in
    let n = c.next_row-live in
    let q = n.new.row_queues in
    let t = c.threshold_prefixes in (
      λ x z y.
          row_is (live_in c.args.live.now) c.requires.shaped.2 (rows_in 0 q n.result) (rows_in 2 q r.residuals) n.ensures.0 (n.ensures.1 r.residuals) x
          c.oldest_row-row.result (is_oldest c.args.live.now c.first_column.result c.oldest_row-row.result c.oldest_row-row.ensures c.first_column.ensures) (did (live_in t.new.live) t.result) (t.ensures.ran.0 x z y),
      t.ensures.ran.1,
    )
