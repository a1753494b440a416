-- `queues::decide` meets its contract. Assumes nothing.
use mathlib.Core.Path.{◌∙◌, ap}
use mathlib.Core.List.{List}
use Prim.Native.Nat.{ℕ}
use Rattle.queues.specs.Queue.{queue}
use Rattle.queues.specs.Marks.{marks, decided}
use Rattle.queues.proofs.MarksLaws.{decide_sure_lem, decide_never_lem}
use Rattle.queues.proofs.decide.Goals as goal
use Rattle.queues.proofs.decide.Goals.{then-value, else-value}

pub returns : goal.returns
returns c =
    let a = c.args in
    let i = c.if-value in
    let q = queue c.wait-ring.new.node_queue c.wait-ring.result in
    elim i.branch [
      | then-value w ↦
          let l = w.learn-step in
          ap (λ (never : List ℕ). decided (marks i.sure never q) i.step) w.never-is
          ∙ decide_sure_lem a.sure.now a.never.now (queue a.node_queue.now a.ring) a.n a.value i.sure i.step q c.wait-ring.ensures w.if-value.true
          (w.sure-is ∙ l.ensures.into) (w.step-is ∙ l.ensures.step)
      | else-value w ↦
          let l = w.learn-step-else-value in
          ap (λ (sure : List ℕ). decided (marks sure i.never q) i.step) w.sure-is
          ∙ decide_never_lem a.sure.now a.never.now (queue a.node_queue.now a.ring) a.n a.value i.never i.step q c.wait-ring.ensures w.if-value.false
          (w.never-is ∙ l.ensures.into) (w.step-is ∙ l.ensures.step)
    ]
