-- Queues filled again: every decided node waits once, and none is drained.
use Prim.Native.Nat.{ℕ, zero, suc, ◌≤◌, ◌<◌}
use Rattle.std.proofs.Math.Decide.{ℕ_discrete}
use native.Mathlib.Omega.{arith}
use Rattle.std.specs.Prelude.{◌≡◌, Bool, true, false, cond, List, ◌∷◌, ◌⊎◌, length, replicate}
use Rattle.std.proofs.Math.Path.{refl, ap}
use Rattle.std.proofs.Common.{◌∙◌, inl, inr}
use Rattle.std.proofs.Math.ListN.{length-replicate}
use Rattle.base.specs.TestLaws.{clash, true-false}
use Rattle.memory.specs.Limits.{max_nodes}
use Rattle.words.specs.Mask.{in_either}
use Rattle.queues.specs.Queue.{Queue, queue, ring, push}
use Rattle.queues.specs.Shape.{Held}
use Rattle.queues.specs.Marks.{marks}
use Rattle.queues.specs.Requeue.{requeued}
use Rattle.queues.specs.Waiting.{times, waiting_list, Queued}
use Rattle.queues.specs.OnceLaws.{times_none, times_same, times_other}
use Rattle.queues.specs.QueueLaws.{held_push, push-times, empty_none}

-- How far it is: each decided node below the number once, no other, and no more than the number.
record Far (sure never : List ℕ) (k : ℕ) (q : Queue) : Type 0 where
  held : Held max_nodes q
  few : q.ring.count ≤ k
  here : (n : ℕ) → n < k → in_either sure never n ≡ true → times n (waiting_list max_nodes q) ≡ 1
  none : (n : ℕ) → in_either sure never n ≡ false → times n (waiting_list max_nodes q) ≡ 0
  behind : (n : ℕ) → k ≤ n → times n (waiting_list max_nodes q) ≡ 0

module _ (sure never : List ℕ) where
  far : (k : ℕ) → k ≤ max_nodes → Far sure never k (requeued k sure never)
  unfolding requeued push
  far zero h =
      let q = queue (replicate max_nodes 0) (ring 0 0) in
      let held : Held max_nodes q = record { head = omega arith; count = omega arith; long = let e = length-replicate {A = ℕ} max_nodes 0 in omega arith } in
      let nil = empty_none max_nodes q held refl in
      record { held = held; few = omega arith; here = λ n l e. absurd (omega arith); none = λ n e. ap (times n) nil ∙ times_none n; behind = λ n l. ap (times n) nil ∙ times_none n }
  far (suc k) h = by (far k (omega arith)) (in_either sure never k) refl
    where
      q : Queue
      q = requeued k sure never

      by : Far sure never k q → (b : Bool) → in_either sure never k ≡ b → Far sure never (suc k) (cond b (push max_nodes q k) q)
      by f false e = record {
        held = f.held;
        few = let z = f.few in omega arith;
        here = λ n l d. one n l d (ℕ_discrete n k);
        none = f.none;
        behind = λ n l. f.behind n (omega arith);
      }
        where
          one : (n : ℕ) → n < suc k → in_either sure never n ≡ true → Dec (n ≡ k) → times n (waiting_list max_nodes q) ≡ 1
          one n l d (yes z) = absurd (clash (in_either sure never n) d (ap (in_either sure never) z ∙ e))
          one n l d (no z) = f.here n (omega arith) d
      by f true e = record {
        held = held_push max_nodes q f.held k room;
        few = more;
        here = λ n l d. one n l d (ℕ_discrete n k);
        none = λ n d. pushed n ∙ times_other n k (waiting_list max_nodes q) (λ z. clash (in_either sure never n) (ap (in_either sure never) z ∙ e) d) ∙ f.none n d;
        behind = λ n l. pushed n ∙ times_other n k (waiting_list max_nodes q) (λ z. omega arith) ∙ f.behind n (omega arith);
      }
        where
          room : q.ring.count < max_nodes
          room = let z = f.few in omega arith

          pushed : (n : ℕ) → times n (waiting_list max_nodes (push max_nodes q k)) ≡ times n (k ∷ waiting_list max_nodes q)
          pushed n = push-times max_nodes q f.held k room n

          more : (push max_nodes q k).ring.count ≤ suc k
          more = let z = f.few in omega arith

          one : (n : ℕ) → n < suc k → in_either sure never n ≡ true → Dec (n ≡ k) → times n (waiting_list max_nodes (push max_nodes q k)) ≡ 1
          one n l d (yes z) = pushed n ∙ ap (λ (i : ℕ). times i (k ∷ waiting_list max_nodes q)) z ∙ times_same k (waiting_list max_nodes q) ∙ (let y = f.behind k (omega arith) in omega arith)
          one n l d (no z) = pushed n ∙ times_other n k (waiting_list max_nodes q) z ∙ f.here n (omega arith) d

  -- WHAT A SEAL BEGINS WITH: every decided node waits once, none is drained
  pub requeued_all : length sure ≡ 64 → length never ≡ 64 → ((n : ℕ) → in_either sure never n ≡ true → n < max_nodes)
      → Queued (λ (n : ℕ). false) (marks sure never (requeued max_nodes sure never))
  requeued_all a b low = record {
    queue = record { held = f.held; sures = a; nevers = b; once = λ n. by n (true-false (in_either sure never n)); idle = f.none };
    decided = λ n e. absurd (clash false e refl);
    gone = λ n e. absurd (clash false e refl);
    left = λ n d e. f.here n (low n d) d;
  }
    where
      f : Far sure never max_nodes (requeued max_nodes sure never)
      f = far max_nodes (omega arith)

      by : (n : ℕ) → (in_either sure never n ≡ true) ⊎ (in_either sure never n ≡ false) → times n (waiting_list max_nodes (requeued max_nodes sure never)) ≤ 1
      by n (inl d) = let z = f.here n (low n d) d in omega arith
      by n (inr d) = let z = f.none n d in omega arith
