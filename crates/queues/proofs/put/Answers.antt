-- `queues::put` meets its contract. Assumes nothing.
use Rattle.queues.specs.Slot.{put}
use borrow.Author.Rules.{rules}
use Rattle.queues.proofs.put.Goals as goal

pub returns : goal.returns
unfolding put
returns c = search rules
