-- What is left to do, and that it is never more than 2^70. Assumes nothing.
use Rattle.std.specs.Prelude.{ℕ, ◌+◌, ◌*◌, ◌^◌, ◌<◌}
use Rattle.std.proofs.Common.{arith}
use Rattle.row_moves.specs.Between.{Live}
use Rattle.theorem_ends.specs.LeftLaws.{load, load_most}
use Rattle.theorem_ends.specs.RoomsLaws.{rooms, rooms_most}
use Rattle.theorem_ends.specs.Sound.{Sound}

-- What is left to do, without the rows that wait for a residual and with them. A node that is drained may queue all rows for a
-- residual, a bound that moves queues its row twice.
abbrev pub core : Live → ℕ
core v = load v.marks + 4 * rooms v.states + v.dirty.queue.ring.count

abbrev pub left : Live → ℕ
left v = core v + v.residuals.queue.ring.count

pub left-most : (v : Live) → Sound v → left v < 2 ^ 70
left-most v s =
    omega (arith, load_most v.marks s.waits, rooms_most v.states s.states, s.long, s.dirty.held.count, s.residuals.held.count)
