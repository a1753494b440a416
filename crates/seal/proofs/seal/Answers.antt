-- `seal::seal` meets its contract: the first states, then each row once.
use native.Mathlib.Omega.{arith}
use Rattle.memory.specs.Ranges.{total_limit, room_limit}
use Rattle.row_moves.specs.Between.{did}
use Rattle.row_moves.specs.Numbers.{states_of}
use Rattle.row_moves.specs.Lent.{held_of, live_in}
use Rattle.theorem_keeps.specs.BeginsLaws.{totals_more, seal_ready, seal_is}
use Rattle.seal.proofs.seal.Goals as goal

pub first_states-requires : goal.first_states-requires
first_states-requires c =
    let w = c.requires.shaped in
    let h = held_of c.args.held in
    let y = w.1 in
    (y.terms, y.weighed, y.guards.rising, y.few, totals_more total_limit room_limit h.row-conditions h.row-weights h.rows (omega arith) w.2, w.3)

pub seed_thresholds-requires-clause-ready_live : goal.seed_thresholds-requires-clause-ready_live
seed_thresholds-requires-clause-ready_live c =
    let h = held_of c.args.held in
    let v = live_in c.args.live.now in
    let w = c.requires.shaped in
    let first = c.first_states in
    let e = first.ensures.0 w.0.0 h.guard_bounds h.guard_nodes w.1 w.0.1 in
    seal_ready w.0.0 h w.0.1 w.1 w.2 v.states (states_of first.new.figures first.new.cursors) w.3 e v.marks c.requires.waits.0 v.residuals c.requires.waits.1

pub returns-clause-sealed : goal.returns-clause-sealed
returns-clause-sealed c =
    let h = held_of c.args.held in
    let t = c.seed_thresholds in
    let first = c.first_states in (
      λ x z.
          let e = first.ensures.0 x h.guard_bounds h.guard_nodes c.requires.shaped.1 z in
          seal_is x (live_in c.args.live.now) (states_of first.new.figures first.new.cursors) e (did (live_in t.new.live) t.result) (t.ensures.ran.0 x z),
      λ i. t.ensures.ran.1 (first.ensures.1 i),
    )
