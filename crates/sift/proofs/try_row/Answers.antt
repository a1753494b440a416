-- `sift::try_row` meets its contract: the row's own stretches and its state are tried.
use native.Mathlib.Omega.{arith}
use Prim.Native.Nat.{ℕ, ◌<◌}
use lib.ListN.{length}
use Rattle.queues.specs.Queue.{oldest}
use Rattle.queues.specs.Slot.{rows_in}
use Rattle.row_moves.specs.declared.Live.{Live}
use Rattle.row_moves.specs.Between.{with_dirty_rows, with_residuals}
use Rattle.row_moves.specs.HeldLaws.{term_slices}
use Rattle.row_moves.specs.Lent.{held_of, live_in}
use Rattle.drain.specs.Sift.{sifted}
use Rattle.theorem_keeps.specs.TurnLaws.{slots_oldest}
use Rattle.theorem_keeps.specs.TryLaws.{try_inside, try_state, try_figures, try_cut, try_is}
use mathlib.Core.Path.{◌≡◌, refl, ◌∙◌, ap}
use Rattle.sift.proofs.try_row.Goals as goal
use Rattle.sift.proofs.try_row.Goals.{After-next_row-live}

-- The oldest row of the queue whose columns begin at k is that of the second queue.
is_oldest : (l : Live) (k row : ℕ) → row ≡ oldest (rows_in k l.row_queues.now l.rings.residuals).queue → k ≡ 2
    → row ≡ oldest (rows_in 2 l.row_queues.now l.rings.residuals).queue
is_oldest l k row e f = e ∙ ap (λ (i : ℕ). oldest (rows_in i l.row_queues.now l.rings.residuals).queue) f

-- The oldest row is one of the rows.
inside : (c : After-next_row-live) → c.oldest_row-row.result < length c.args.held.rows.now
inside c =
    let l = c.args.live.now in
    try_inside (held_of c.args.held) (live_in l) c.args.gcds.now c.args.search.now c.requires c.oldest_row-row.result (is_oldest c.args.live.now c.first_column.result c.oldest_row-row.result c.oldest_row-row.ensures c.first_column.ensures)

pub next_row-live-requires : goal.next_row-live-requires
next_row-live-requires c =
    let l = c.args.live.now in
    let t = c.requires in
    let f = t.ready.flags in
    (f.held, t.some, slots_oldest 2 l.row_queues.now l.rings.residuals f t.some)

pub terms-requires : goal.terms-requires
terms-requires c =
    let s = c.requires.shaped in
    (s.terms, s.weighed, inside (goal.at.terms-requires c).After-next_row-live)

pub state-state-requires : goal.state-state-requires
state-state-requires c =
    try_state (held_of c.args.held) (live_in c.args.live.now) c.args.gcds.now c.args.search.now c.requires c.oldest_row-row.result (is_oldest c.args.live.now c.first_column.result c.oldest_row-row.result c.oldest_row-row.ensures c.first_column.ensures)

pub try_terms-requires : goal.try_terms-requires
try_terms-requires c =
    let t = c.requires in
    let h = held_of c.args.held in
    let v = live_in c.args.live.now in
    let o = c.oldest_row-row in
    let e = c.terms.ensures in
    let slices = term_slices h t.shaped o.result (inside (goal.at.try_terms-requires c).After-next_row-live) _ _ refl refl in
    let few = (try_cut h v c.args.gcds.now c.args.search.now t o.result (is_oldest c.args.live.now c.first_column.result c.oldest_row-row.result c.oldest_row-row.ensures c.first_column.ensures) _ _ refl refl).few in
    let figures = try_figures h v c.args.gcds.now c.args.search.now t o.result (is_oldest c.args.live.now c.first_column.result c.oldest_row-row.result c.oldest_row-row.ensures c.first_column.ensures) c.state-state.result c.state-state.ensures in
    (rw (e.0, e.1) slices, rw e.1 few, figures, t.ready.waits, t.scratch)

pub returns-clause-tried : goal.returns-clause-tried
returns-clause-tried c =
    let h = held_of c.args.held in
    let v = live_in c.args.live.now in
    let r = c.args.live.now.rings in
    let o = c.oldest_row-row in
    let e = c.terms.ensures in
    let n = c.next_row-live in
    let q = n.new.row_queues in
    let t = c.try_terms in
    let u = with_residuals (with_dirty_rows v (rows_in 0 q r.rows)) (rows_in 2 q n.result) in
    (λ x z.
    try_is h v c.args.gcds.now c.args.search.now c.requires o.result (is_oldest c.args.live.now c.first_column.result c.oldest_row-row.result c.oldest_row-row.ensures c.first_column.ensures) _ _ refl refl c.state-state.result c.state-state.ensures u.dirty (n.ensures.1 r.rows) u.residuals
    n.ensures.0 x c.args.visits (z.terms o.result (inside (goal.at.returns-clause-tried c).After-next_row-live))
    (sifted (live_in t.new.live) t.new.gcds t.result.step t.result.visits) (rw (e.0, e.1) at t.ensures.tried))
