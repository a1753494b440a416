-- `queues::push` meets its contract. Assumes nothing.
use mathlib.Core.Path.{ap₂}
use Prim.Native.Nat.{ℕ}
use lib.ListN.{set}
use Rattle.queues.specs.declared.Ring.{Ring}
use Rattle.queues.specs.Queue.{queue, push}
use Rattle.queues.proofs.push.Goals as goal

pub returns : goal.returns
unfolding push
returns c =
    let a = c.args in
    ap₂ (λ (k : ℕ) (r : Ring). queue (set a.items.now k a.x) r) c.behind-at.ensures.0 c.longer.ensures
