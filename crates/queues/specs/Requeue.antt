-- The queue of nodes filled anew: a seal after marks lets every decided node wait again.
use Rattle.std.specs.Prelude.{ℕ, zero, suc, cond, List, replicate}
use Rattle.memory.specs.Limits.{max_nodes}
use Rattle.words.specs.Mask.{in_either}
use Rattle.queues.specs.Queue.{Queue, queue, ring, push}

-- The decided nodes below a number, rising.
unfoldable pub requeued : ℕ → List ℕ → List ℕ → Queue
requeued zero sure never = queue (replicate max_nodes 0) (ring 0 0)
requeued (suc k) sure never = cond (in_either sure never k) (push max_nodes (requeued k sure never) k) (requeued k sure never)
