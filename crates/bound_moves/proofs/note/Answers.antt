-- `bound_moves::note` meets its contract: the state is stored, and the row waits in one of the queues.
use Rattle.row_moves.specs.Between.{live}
use Rattle.row_moves.specs.NumbersLaws.{states_set, tidy_store}
use Rattle.row_moves.specs.Lent.{live_in}
use Rattle.bound_moves.proofs.note.Goals as goal

pub returns-clause-noted : goal.returns-clause-noted
returns-clause-noted c =
    let queue-row = c.queue_row-live in
    let store = c.store in
    let a = c.args in
    let l = a.live.now in
    let p = c.requires in
    let states = states_set l.figures.now store.new.figures l.cursors.now store.new.cursors a.row a.state p.0 store.ensures.0 store.ensures.1 in (
      λ i. live (states i) (live_in l).marks (queue-row.ensures.0 i) (queue-row.ensures.1 l.rings.residuals i),
      tidy_store l.figures.now store.new.figures l.cursors.now store.new.cursors a.row a.state p.0 store.ensures.0 store.ensures.1,
    )
