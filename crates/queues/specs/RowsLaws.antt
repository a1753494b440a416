-- A row waits at most once, and its flag tells whether it does; so there is room for each row that does not wait yet.
-- Assumes nothing.
use Rattle.std.specs.Prelude.{◌≡◌, refl, List, ◌∷◌, ◌≢◌, length, get_or, set, replicate}
use Rattle.std.proofs.Common.{sym, ◌∙◌, arith, lit<, get_or-set_same, get_or-set_other}
use Prim.Native.Nat.{ℕ, zero, suc, ◌≤◌, ◌<◌}
use Rattle.std.proofs.Math.Decide.{ℕ_discrete}
use Rattle.std.proofs.Math.ListN.{length-set, get_or-eq_default}
use Rattle.std.proofs.lemmas.List.{length-replicate}
use Rattle.memory.specs.Limits.{max_thresholds}
use Rattle.queues.specs.Queue.{queue, ring, oldest, push, popped, Rows, rows, queue_row, next_row}
use Rattle.queues.specs.QueueLaws.{push-times, popped-times, room_left, held_push, held_popped, row-waits, row_new}
use Rattle.queues.specs.OnceLaws.{times_same, times_other, within}
use Rattle.queues.specs.Waiting.{times, entries, waiting_list, Flags}

small_set : (l : List ℕ) (r v : ℕ) → v ≤ 1 → r < length l → ((i : ℕ) → get_or l i 0 ≤ 1) → (i : ℕ) → get_or (set l r v) i 0 ≤ 1
small_set l r v s k f i = by (ℕ_discrete i r)
  where
    by : Dec (i ≡ r) → get_or (set l r v) i 0 ≤ 1
    by (yes e) = rw (e, get_or-set_same l r v 0 k) s
    by (no d) = rw (get_or-set_other l r i v 0 d) (f i)

module _ (q : Rows) (f : Flags q) where
  -- There is room for a row that does not wait.
  pub flags_room : (r : ℕ) → r < max_thresholds → get_or q.pending r 0 ≢ 1 → q.queue.ring.count < max_thresholds
  flags_room r h n =
      room_left max_thresholds q.queue f.held (λ i. omega (arith, f.flag i, f.once i))
      (λ i k. f.flag i ∙ get_or-eq_default q.pending 0 (omega (arith, f.long)))
      r h (omega (arith, f.flag r, f.once r))

  -- The oldest is a row that has a flag.
  pub flags_oldest : 0 < q.queue.ring.count → get_or q.pending (oldest q.queue) 0 ≡ 1
  flags_oldest h =
      let o = oldest q.queue in
      omega (arith, popped-times max_thresholds q.queue f.held h o, times_same o (waiting_list max_thresholds (popped max_thresholds q.queue)), f.flag o, f.once o)

  pub oldest-row : 0 < q.queue.ring.count → oldest q.queue < length q.pending
  oldest-row h = within q.pending (oldest q.queue) (omega (arith, flags_oldest h))

  -- Both are kept when a row is queued, and when the oldest is taken.
  new : (r : ℕ) → r < max_thresholds → get_or q.pending r 0 ≢ 1 → Flags (rows (push max_thresholds q.queue r) (set q.pending r 1))
  new r h n = record {
    held = held_push max_thresholds q.queue f.held r (flags_room r h n);
    long = length-set q.pending r 1 ∙ f.long;
    flag = λ i. by i (ℕ_discrete i r);
    once = small_set q.pending r 1 (omega arith) k f.once;
  }
    where
      k : r < length q.pending
      k = omega (arith, f.long)

      more : (i : ℕ) → times i (waiting_list max_thresholds (push max_thresholds q.queue r)) ≡ times i (r ∷ waiting_list max_thresholds q.queue)
      more = push-times max_thresholds q.queue f.held r (flags_room r h n)

      by : (i : ℕ) → Dec (i ≡ r) → times i (waiting_list max_thresholds (push max_thresholds q.queue r)) ≡ get_or (set q.pending r 1) i 0
      by i (yes e) = rw e (more r ∙ omega (arith, f.flag r, f.once r, times_same r (waiting_list max_thresholds q.queue)) ∙ sym (get_or-set_same q.pending r 1 0 k))
      by i (no d) = more i ∙ times_other i r (waiting_list max_thresholds q.queue) d ∙ f.flag i ∙ sym (get_or-set_other q.pending r i 1 0 d)

  pub flags_queue : (r : ℕ) → r < max_thresholds → Flags (queue_row q r)
  flags_queue r h = by (ℕ_discrete (get_or q.pending r 0) 1)
    where
      by : Dec (get_or q.pending r 0 ≡ 1) → Flags (queue_row q r)
      by (yes e) = rw (row-waits q r e) f
      by (no n) = rw (row_new q r n) (new r h n)

  pub flags_next : 0 < q.queue.ring.count → Flags (next_row q)
  unfolding next_row
  flags_next h = record {
    held = held_popped max_thresholds q.queue f.held;
    long = length-set q.pending o 0 ∙ f.long;
    flag = λ i. by i (ℕ_discrete i o);
    once = small_set q.pending o 0 (omega arith) (oldest-row h) f.once;
  }
    where
      o : ℕ
      o = oldest q.queue

      rest : List ℕ
      rest = waiting_list max_thresholds (popped max_thresholds q.queue)

      first : (i : ℕ) → times i (o ∷ rest) ≡ get_or q.pending i 0
      first i = sym (popped-times max_thresholds q.queue f.held h i) ∙ f.flag i

      by : (i : ℕ) → Dec (i ≡ o) → times i rest ≡ get_or (set q.pending o 0) i 0
      by i (yes e) = rw e (omega (arith, times_same o rest, first o, f.once o) ∙ sym (get_or-set_same q.pending o 0 0 (oldest-row h)))
      by i (no d) = sym (times_other i o rest d) ∙ first i ∙ sym (get_or-set_other q.pending o i 0 0 d)

-- Nothing waits in cleared buffers.
pub flags_none : (l : List ℕ) → max_thresholds ≤ length l → Flags (rows (queue l (ring 0 0)) (replicate max_thresholds 0))
unfolding entries times
flags_none l h = record {
  held = record { head = lit< tt; count = omega arith; long = h };
  long = length-replicate {A = ℕ} max_thresholds 0;
  flag = λ i. sym (none max_thresholds i);
  once = λ i. omega (arith, none max_thresholds i);
}
  where
    none : (n i : ℕ) → ◌≡◌ {A = ℕ} (get_or (replicate n 0) i 0) 0
    none zero i = refl
    none (suc n) zero = refl
    none (suc n) (suc i) = none n i
