-- Deciding a node: what its two masks, its queue and the answer are after. Assumes nothing.
use Rattle.std.specs.Prelude.{◌≡◌, refl, List, ◌∷◌, ◌≢◌, Bool, true, false, not, ◌||◌, ℕ, ◌/◌, ◌≤◌, ◌<◌, length, replicate}
use Rattle.std.proofs.Common.{sym, ◌∙◌, arith, lit<}
use Rattle.std.proofs.Math.Path.{ap}
use Rattle.std.proofs.Math.Bool.{or-true}
use Rattle.std.proofs.Math.Decide.{ℕ_discrete}
use Rattle.std.proofs.lemmas.List.{length-replicate}
use Rattle.base.specs.TestLaws.{unequal}
use Rattle.memory.specs.Limits.{max_nodes}
use Rattle.state.specs.declared.Step.{Step}
use Rattle.state.specs.declared.Step.TheVariants.{Unchanged, Changed, Contradiction}
use Rattle.words.specs.Mask.{bit, set_bit, learn, Learned}
use Rattle.words.specs.MaskLaws.{learn_there, learn_opposite, learn_new, learn_has, learn_other, length-learn, set-bit_same, set-bit_other, length-set-bit, bit-behind}
use Rattle.queues.specs.Queue.{Queue, queue, ring, oldest, push, popped}
use Rattle.queues.specs.QueueLaws.{push-times, popped-times, room_left, held_push, held_popped}
use Rattle.queues.specs.OnceLaws.{times_same, times_other, times-behind}
use Rattle.queues.specs.Waiting.{times, entries, waiting_list, Waits}
use Rattle.queues.specs.Marks.{Marks, marks, mask, is_decided, Decided, decided, waiting, decide}

-- A mask that learnt, and what waits after its answer, make up a decision.
module _ (sure never : List ℕ) (nodes : Queue) (n : ℕ) (value : Bool) (mask : List ℕ) (step : Step) (q : Queue) (waits : q ≡ waiting step nodes n) where
  pub decide_sure_lem : value ≡ true → mask ≡ (learn sure never n).mask → step ≡ (learn sure never n).step
      → decided (marks mask never q) step ≡ decide value (marks sure never nodes) n
  unfolding decide
  decide_sure_lem v m s =
      let w = waits ∙ ap (λ (k : Step). waiting k nodes n) s in
      rw v (λ i. decided (marks (m i) never (w i)) (s i))

  pub decide_never_lem : value ≡ false → mask ≡ (learn never sure n).mask → step ≡ (learn never sure n).step
      → decided (marks sure mask q) step ≡ decide value (marks sure never nodes) n
  unfolding decide
  decide_never_lem v m s =
      let w = waits ∙ ap (λ (k : Step). waiting k nodes n) s in
      rw v (λ i. decided (marks sure (m i) (w i)) (s i))

-- ---- one law for both values

-- The marks with the mask of a value and the queue put anew.
abbrev pub put : Bool → Marks → List ℕ → Queue → Marks
put true m l q = marks l m.never q
put false m l q = marks m.sure l q

put_nodes : (value : Bool) (m : Marks) (l : List ℕ) (q : Queue) → (put value m l q).nodes ≡ q
put_nodes true m l q = refl
put_nodes false m l q = refl

put_back : (value : Bool) (m : Marks) → put value m (mask value m) m.nodes ≡ m
put_back true m = refl
put_back false m = refl

abbrev made : Bool → Marks → ℕ → Learned → Decided
made value m n k = decided (put value m k.mask (waiting k.step m.nodes n)) k.step

decide_is : (value : Bool) (m : Marks) (n : ℕ) → decide value m n ≡ made value m n (learn (mask value m) (mask (not value) m) n)
unfolding decide
decide_is true m n = refl
decide_is false m n = refl

module _ (value : Bool) (m : Marks) (n : ℕ) where
  -- The three answers.
  pub decide_there : bit (mask value m) n ≡ true → decide value m n ≡ decided m Unchanged
  decide_there h =
      decide_is value m n ∙ ap (made value m n) (learn_there (mask value m) (mask (not value) m) n h)
      ∙ ap (λ (k : Marks). decided k Unchanged) (put_back value m)

  pub decide_clash : bit (mask value m) n ≡ false → bit (mask (not value) m) n ≡ true → decide value m n ≡ decided m Contradiction
  decide_clash h k =
      decide_is value m n ∙ ap (made value m n) (learn_opposite (mask value m) (mask (not value) m) n h k)
      ∙ ap (λ (x : Marks). decided x Contradiction) (put_back value m)

  pub decide_new : bit (mask value m) n ≡ false → bit (mask (not value) m) n ≡ false
      → decide value m n ≡ decided (put value m (set_bit (mask value m) n) (push max_nodes m.nodes n)) Changed
  decide_new h k = decide_is value m n ∙ ap (made value m n) (learn_new (mask value m) (mask (not value) m) n h k)

-- The node waits exactly if the answer is Changed.
pub decide-waits : (value : Bool) (m : Marks) (n : ℕ) → (decide value m n).marks.nodes ≡ waiting (decide value m n).step m.nodes n
unfolding decide
decide-waits true m n = refl
decide-waits false m n = refl

-- After any answer but a contradiction the node is in its mask.
pub decide_has : (value : Bool) (m : Marks) (n : ℕ) → n / 64 < length (mask value m) → ((decide value m n).step ≡ Contradiction → ⊥)
    → bit (mask value (decide value m n).marks) n ≡ true
unfolding decide
decide_has true m n h d = learn_has m.sure m.never n h d
decide_has false m n h d = learn_has m.never m.sure n h d

-- All other nodes stay as they were, in both masks, and the node itself in the mask of the other value.
pub decide_other : (value : Bool) (m : Marks) (n : ℕ) (v : Bool) (k : ℕ) → k ≢ n → bit (mask v (decide value m n).marks) k ≡ bit (mask v m) k
unfolding decide
decide_other true m n true k d = learn_other m.sure m.never n k d
decide_other true m n false k d = refl
decide_other false m n true k d = refl
decide_other false m n false k d = learn_other m.never m.sure n k d

pub decide_opposite : (value : Bool) (m : Marks) (n : ℕ) → mask (not value) (decide value m n).marks ≡ mask (not value) m
unfolding decide
decide_opposite true m n = refl
decide_opposite false m n = refl

pub decide-length : (value : Bool) (m : Marks) (n : ℕ) (v : Bool) → length (mask v (decide value m n).marks) ≡ length (mask v m)
unfolding decide
decide-length true m n true = length-learn m.sure m.never n
decide-length true m n false = refl
decide-length false m n true = refl
decide-length false m n false = length-learn m.never m.sure n

-- ---- decided or not

-- The node of a new answer is decided after it, and no other that was not.
decided_same : (value : Bool) (m : Marks) (l : List ℕ) (q : Queue) (n : ℕ) → bit l n ≡ true → is_decided (put value m l q) n ≡ true
decided_same true m l q n h = ap (λ (b : Bool). b || bit m.never n) h
decided_same false m l q n h = ap (λ (b : Bool). bit m.sure n || b) h ∙ or-true (bit m.sure n)

decided_other : (value : Bool) (m : Marks) (l : List ℕ) (q : Queue) (k : ℕ) → bit l k ≡ bit (mask value m) k
    → is_decided (put value m l q) k ≡ is_decided m k
decided_other true m l q k h = ap (λ (b : Bool). b || bit m.never k) h
decided_other false m l q k h = ap (λ (b : Bool). bit m.sure k || b) h

both_none : (value : Bool) (m : Marks) (n : ℕ) → bit (mask value m) n ≡ false → bit (mask (not value) m) n ≡ false → is_decided m n ≡ false
both_none true m n h k = ap (λ (b : Bool). b || bit m.never n) h ∙ k
both_none false m n h k = ap (λ (b : Bool). b || bit m.never n) k ∙ h

clash : true ≡ false → ⊥
clash h = unequal cc

-- ---- nodes that wait

module _ (m : Marks) (w : Waits m) where
  none : (n : ℕ) → max_nodes ≤ n → is_decided m n ≡ false
  none n h =
      ap (λ (b : Bool). b || bit m.never n) (bit-behind m.sure n (omega (arith, w.sures)))
      ∙ bit-behind m.never n (omega (arith, w.nevers))

  -- So there is room for each node that is not decided yet.
  pub waits_room : (n : ℕ) → n < max_nodes → is_decided m n ≡ false → m.nodes.ring.count < max_nodes
  waits_room n h d =
      room_left max_nodes m.nodes w.held w.once (λ i k. w.idle i (none i k)) n h (w.idle n d)

  new : (value : Bool) (n : ℕ) → n < max_nodes → is_decided m n ≡ false → Waits (put value m (set_bit (mask value m) n) (push max_nodes m.nodes n))
  new value n h d = record {
    held = rw nodes (held_push max_nodes m.nodes w.held n (waits_room n h d));
    sures = sures value;
    nevers = nevers value;
    once = λ k. rw nodes (rw (more k) (one k (ℕ_discrete k n)));
    idle = λ k e. rw nodes (more k ∙ gone k (ℕ_discrete k n) e);
  }
    where
      put_in : List ℕ
      put_in = set_bit (mask value m) n

      nodes : (put value m put_in (push max_nodes m.nodes n)).nodes ≡ push max_nodes m.nodes n
      nodes = put_nodes value m put_in (push max_nodes m.nodes n)

      sures : (v : Bool) → length (put v m (set_bit (mask v m) n) (push max_nodes m.nodes n)).sure ≡ 64
      sures true = length-set-bit m.sure n ∙ w.sures
      sures false = w.sures

      nevers : (v : Bool) → length (put v m (set_bit (mask v m) n) (push max_nodes m.nodes n)).never ≡ 64
      nevers true = w.nevers
      nevers false = length-set-bit m.never n ∙ w.nevers

      long : (v : Bool) → length (mask v m) ≡ 64
      long true = w.sures
      long false = w.nevers

      more : (k : ℕ) → times k (waiting_list max_nodes (push max_nodes m.nodes n)) ≡ times k (n ∷ waiting_list max_nodes m.nodes)
      more = push-times max_nodes m.nodes w.held n (waits_room n h d)

      one : (k : ℕ) → Dec (k ≡ n) → times k (n ∷ waiting_list max_nodes m.nodes) ≤ 1
      one k (yes e) = rw e (omega (arith, times_same n (waiting_list max_nodes m.nodes), w.idle n d))
      one k (no f) = omega (arith, times_other k n (waiting_list max_nodes m.nodes) f, w.once k)

      gone : (k : ℕ) → Dec (k ≡ n) → is_decided (put value m put_in (push max_nodes m.nodes n)) k ≡ false
          → times k (n ∷ waiting_list max_nodes m.nodes) ≡ 0
      gone k (yes e) f =
          let t = decided_same value m put_in (push max_nodes m.nodes n) n (set-bit_same (mask value m) n (omega (arith, long value))) in
          absurd (clash (sym t ∙ ap (is_decided (put value m put_in (push max_nodes m.nodes n))) (sym e) ∙ f))
      gone k (no g) f =
          times_other k n (waiting_list max_nodes m.nodes) g
          ∙ w.idle k (sym (decided_other value m put_in (push max_nodes m.nodes n) k (set-bit_other (mask value m) n k g)) ∙ f)

  -- Deciding a node keeps this, and so does taking the oldest.
  pub waits-decide : (value : Bool) (n : ℕ) → n < max_nodes → Waits (decide value m n).marks
  waits-decide value n h = by (bit (mask value m) n) refl (bit (mask (not value) m) n) refl
    where
      by : (s : Bool) → bit (mask value m) n ≡ s → (t : Bool) → bit (mask (not value) m) n ≡ t → Waits (decide value m n).marks
      by true e t f = rw (decide_there value m n e) w
      by false e true f = rw (decide_clash value m n e f) w
      by false e false f = rw (decide_new value m n e f) (new value n h (both_none value m n e f))

  pub waits-popped : 0 < m.nodes.ring.count → Waits (marks m.sure m.never (popped max_nodes m.nodes))
  waits-popped h = record {
    held = held_popped max_nodes m.nodes w.held;
    sures = w.sures;
    nevers = w.nevers;
    once = λ n. omega (arith, less n, w.once n);
    idle = λ n d. omega (arith, less n, w.idle n d);
  }
    where
      less : (n : ℕ) → times n (waiting_list max_nodes (popped max_nodes m.nodes)) ≤ times n (waiting_list max_nodes m.nodes)
      less n = rw (popped-times max_nodes m.nodes w.held h n) (times-behind n (oldest m.nodes) (waiting_list max_nodes (popped max_nodes m.nodes)))

-- Nothing is decided in cleared masks, and nothing waits.
pub waits-none : (l : List ℕ) → max_nodes ≤ length l → Waits (marks (replicate 64 0) (replicate 64 0) (queue l (ring 0 0)))
unfolding entries times
waits-none l h = record {
  held = record { head = lit< tt; count = omega arith; long = h };
  sures = length-replicate {A = ℕ} 64 0;
  nevers = length-replicate {A = ℕ} 64 0;
  once = λ n. omega arith;
  idle = λ n d. refl;
}
