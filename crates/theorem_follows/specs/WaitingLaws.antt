-- A NODE IS DRAINED ONCE: each decided node waits, or was drained and waits no more. The oldest that waits is decided and not drained;
-- where none waits, all decided nodes are drained.
use Rattle.std.specs.Prelude.{ℕ, ◌+◌, ◌<◌, ◌≡◌, refl, Bool, true, false, not, ◌||◌, ◌∷◌, ◌≢◌}
use Rattle.std.proofs.Math.Decide.{ℕ_discrete}
use Rattle.std.proofs.Common.{arith, sym, ap, ap₂, ◌∙◌, subst, ⊎_elim}
use Rattle.base.specs.TestLaws.{true-false, clash}
use Rattle.memory.specs.Limits.{max_nodes}
use Rattle.words.specs.Mask.{bit, set_bit}
use Rattle.queues.specs.Queue.{is_empty, oldest, push, popped}
use Rattle.queues.specs.QueueLaws.{push-times, popped-times, empty_none}
use Rattle.queues.specs.OnceLaws.{times_none, times_same, times_other}
use Rattle.queues.specs.Waiting.{times, waiting_list, waits, Queued}
use Rattle.queues.specs.Marks.{Marks, marks, is_decided, Decided, decide, mask}
use Rattle.queues.proofs.MarksLaws.{put, decide_new, decide_other, waits_room, waits-decide, waits-popped}
use Rattle.theorem_follows.specs.StandsLaws.{also, also_other, also_this}
use Rattle.queues.proofs.StayLaws.{decide-nothing, not-decided}

module _ (drained : ℕ → Bool) where
  -- ONE MORE NODE DECIDED: a new one waits
  new-queued : (value : Bool) (m : Marks) (n : ℕ) → n < max_nodes → is_decided m n ≡ false → Queued drained m → Queued drained (decide value m n).marks
  new-queued value m n small none h = record {
    queue = waits-decide m h.queue value n small;
    decided = λ k e. grown k (h.decided k e) (ℕ_discrete k n);
    gone = λ k e. at-gone k e (ℕ_discrete k n);
    left = λ k d e. at_left k d e (ℕ_discrete k n);
  }
    where
      bits : (v : Bool) → bit (mask v m) n ≡ false
      bits = not-decided m n none

      nodes : (decide value m n).marks.nodes ≡ push max_nodes m.nodes n
      nodes = ap (λ (d : Decided). d.marks.nodes) (decide_new value m n (bits value) (bits (not value))) ∙ pushed value
        where
          pushed : (v : Bool) → (put v m (set_bit (mask v m) n) (push max_nodes m.nodes n)).nodes ≡ push max_nodes m.nodes n
          pushed true = refl
          pushed false = refl

      more : (k : ℕ) → waits (decide value m n).marks k ≡ times k (n ∷ waiting_list max_nodes m.nodes)
      more k = ap (λ q. times k (waiting_list max_nodes q)) nodes ∙ push-times max_nodes m.nodes h.queue.held n (waits_room m h.queue n small none) k

      other : (k : ℕ) → k ≢ n → is_decided (decide value m n).marks k ≡ is_decided m k
      other k e = ap₂ (λ (a b : Bool). a || b) (decide_other value m n true k e) (decide_other value m n false k e)

      grown : (k : ℕ) → is_decided m k ≡ true → Dec (k ≡ n) → is_decided (decide value m n).marks k ≡ true
      grown k d (yes e) = absurd (clash (is_decided m n) (subst (λ (i : ℕ). is_decided m i ≡ true) e d) none)
      grown k d (no e) = other k e ∙ d

      at-gone : (k : ℕ) → drained k ≡ true → Dec (k ≡ n) → waits (decide value m n).marks k ≡ 0
      at-gone k d (yes e) = absurd (clash (is_decided m n) (subst (λ (i : ℕ). is_decided m i ≡ true) e (h.decided k d)) none)
      at-gone k d (no e) = more k ∙ times_other k n (waiting_list max_nodes m.nodes) e ∙ h.gone k d

      at_left : (k : ℕ) → is_decided (decide value m n).marks k ≡ true → drained k ≡ false → Dec (k ≡ n) → waits (decide value m n).marks k ≡ 1
      at_left k d f (yes e) =
          more k ∙ ap (λ (i : ℕ). times i (n ∷ waiting_list max_nodes m.nodes)) e ∙ times_same n (waiting_list max_nodes m.nodes) ∙ (let z = h.queue.idle n none in omega arith)
      at_left k d f (no e) = more k ∙ times_other k n (waiting_list max_nodes m.nodes) e ∙ h.left k (sym (other k e) ∙ d) f

  -- EVERY DECISION KEEPS IT
  pub queued_decide : (value : Bool) (m : Marks) (n : ℕ) → n < max_nodes → Queued drained m → Queued drained (decide value m n).marks
  queued_decide value m n small h =
      ⊎_elim (λ (e : is_decided m n ≡ true). subst (Queued drained) (sym (decide-nothing value m n e)) h) (λ (e : is_decided m n ≡ false). new-queued value m n small e h) (true-false (is_decided m n))

module _ (drained : ℕ → Bool) (m : Marks) (h : Queued drained m) where
  -- THE OLDEST IS TAKEN: it is decided, was not drained, and is about to be
  module _ (some : 0 < m.nodes.ring.count) where
    abbrev first : ℕ
    first = oldest m.nodes

    abbrev rest : Marks
    rest = marks m.sure m.never (popped max_nodes m.nodes)

    there : (k : ℕ) → waits m k ≡ times k (first ∷ waiting_list max_nodes (popped max_nodes m.nodes))
    there k = popped-times max_nodes m.nodes h.queue.held some k

    at_first : waits m first ≡ 1 + waits rest first
    at_first = there first ∙ times_same first (waiting_list max_nodes (popped max_nodes m.nodes))

    pub first-decided : is_decided m first ≡ true
    first-decided =
        ⊎_elim (λ (e : is_decided m first ≡ true). e) (λ (e : is_decided m first ≡ false). absurd (let z = h.queue.idle first e in let a = at_first in omega arith)) (true-false (is_decided m first))

    pub first-fresh : drained first ≡ false
    first-fresh = ⊎_elim (λ (e : drained first ≡ true). absurd (let z = h.gone first e in let a = at_first in omega arith)) (λ (e : drained first ≡ false). e) (true-false (drained first))

    pub queued_taken : Queued (also first drained) rest
    queued_taken = record {
      queue = waits-popped m h.queue some;
      decided = λ k e. by-decided k e (ℕ_discrete k first);
      gone = λ k e. by-gone k e (ℕ_discrete k first);
      left = λ k d e. by_left k d e (ℕ_discrete k first);
    }
      where
        was : (k : ℕ) → k ≢ first → (b : Bool) → also first drained k ≡ b → drained k ≡ b
        was k n b e = sym (also_other first drained k n) ∙ e

        by-decided : (k : ℕ) → also first drained k ≡ true → Dec (k ≡ first) → is_decided rest k ≡ true
        by-decided k e (yes q) = subst (λ (i : ℕ). is_decided m i ≡ true) (sym q) first-decided
        by-decided k e (no q) = h.decided k (was k q true e)

        by-gone : (k : ℕ) → also first drained k ≡ true → Dec (k ≡ first) → waits rest k ≡ 0
        by-gone k e (yes q) = ap (waits rest) q ∙ (let a = at_first in let b = h.left first first-decided first-fresh in omega arith)
        by-gone k e (no q) = sym (there k ∙ times_other k first (waiting_list max_nodes (popped max_nodes m.nodes)) q) ∙ h.gone k (was k q true e)

        by_left : (k : ℕ) → is_decided rest k ≡ true → also first drained k ≡ false → Dec (k ≡ first) → waits rest k ≡ 1
        by_left k d e (yes q) = absurd (clash (also first drained k) (also_this first drained k q) e)
        by_left k d e (no q) = sym (there k ∙ times_other k first (waiting_list max_nodes (popped max_nodes m.nodes)) q) ∙ h.left k d (was k q false e)

  -- WHERE NONE WAITS all decided nodes are drained
  pub none_left : is_empty m.nodes ≡ true → (n : ℕ) → is_decided m n ≡ true → drained n ≡ true
  none_left e n d =
      ⊎_elim (λ (k : drained n ≡ true). k)
      (λ (k : drained n ≡ false). absurd (let a = h.left n d k in let b = ap (times n) (empty_none max_nodes m.nodes h.queue.held e) ∙ times_none n in omega arith)) (true-false (drained n))
