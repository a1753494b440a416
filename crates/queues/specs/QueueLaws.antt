-- What a queue holds, oldest first, as a plain list: pushing puts an entry behind all others, popping takes the first.
-- Assumes nothing.
use Rattle.std.specs.Prelude.{◌≡◌, ◌≢◌, true, length, set}
use Rattle.std.proofs.Math.Path.{refl, ap}
use Rattle.std.proofs.Common.{sym, ◌∙◌, mod-eq_of_lt, lt_of_not-le, add-one, eq-eqb, ne_eqb, eqb-true, get_or-set_same, get_or-set_other}
use mathlib.Core.List.{List, [], ◌∷◌, ◌++◌}
use Prim.Native.Nat.{ℕ, zero, suc, ◌+◌, ◌-◌, ◌%◌, ◌≤◌, ◌<◌}
use Rattle.std.proofs.Math.Nat.{mod-lt, mod-mod, mod-eq-sub-mod, add-mod}
use Rattle.std.proofs.Math.Decide.{dec_lt}
use native.Mathlib.Omega.{arith}
use Rattle.std.proofs.Math.ListN.{get_or, length-set}
use Rattle.memory.specs.Limits.{max_thresholds}
use Rattle.queues.specs.OnceLaws.{times_last, room}
use Rattle.queues.specs.Waiting.{times, entries, waiting_list}
use Rattle.queues.specs.Queue.{Queue, is_empty, oldest, push, popped, Rows, rows, queue_row}
use Rattle.queues.specs.Shape.{Held}

-- A place behind the last is that much behind the first.
pub wrap_once : (at places : ℕ) → places ≤ at → at < places + places → at % places ≡ at - places
wrap_once at places h k = mod-eq-sub-mod h ∙ mod-eq_of_lt (omega arith)

-- ---- what waits

pub entries-length : (places : ℕ) (l : List ℕ) (h n : ℕ) → length (entries places l h n) ≡ n
unfolding entries
entries-length places l h zero = refl
entries-length places l h (suc n) = ap suc (entries-length places l (h + 1) n)

-- One more entry stands behind the others.
entries_more : (places : ℕ) (l : List ℕ) (h n : ℕ)
    → entries places l h (n + 1) ≡ entries places l h n ++ (get_or l ((h + n) % places) 0 ∷ [])
unfolding entries
entries_more places l h zero = ap (λ (k : ℕ). get_or l (k % places) 0 ∷ []) (omega arith)
entries_more places l h (suc n) =
    rw (add-one)
    (ap (λ (t : List ℕ). get_or l (h % places) 0 ∷ t)
    (ap (entries places l (h + 1)) (sym (add-one n)) ∙ entries_more places l (h + 1) n
    ∙ ap (λ (k : ℕ). entries places l (h + 1) n ++ (get_or l (k % places) 0 ∷ [])) (omega arith)))

-- Only the remainder of the first place counts.
entries_same : (places : ℕ) (l : List ℕ) (a b n : ℕ) → a % places ≡ b % places → entries places l a n ≡ entries places l b n
unfolding entries
entries_same places l a b zero e = refl
entries_same places l a b (suc n) e =
    ap (λ (k : ℕ). get_or l k 0 ∷ entries places l (a + 1) n) e
    ∙ ap (λ (t : List ℕ). get_or l (b % places) 0 ∷ t)
    (entries_same places l (a + 1) (b + 1) n (add-mod a 1 places ∙ ap (λ (k : ℕ). (k + 1 % places) % places) e ∙ sym (add-mod b 1 places)))

-- What is written at none of their places changes none of them.
entries-set : (places : ℕ) (l : List ℕ) (h n at x : ℕ) → ((i : ℕ) → i < n → (h + i) % places ≢ at)
    → entries places (set l at x) h n ≡ entries places l h n
unfolding entries
entries-set places l h zero at x f = refl
entries-set places l h (suc n) at x f =
    let z : h + 0 ≡ h = omega arith in
    ap (λ (y : ℕ). y ∷ entries places (set l at x) (h + 1) n)
    (get_or-set_other l at (h % places) x 0 (λ (e : h % places ≡ at). f 0 (omega arith) (ap (λ (k : ℕ). k % places) z ∙ e)))
    ∙ ap (λ (t : List ℕ). get_or l (h % places) 0 ∷ t)
    (entries-set places l (h + 1) n at x
    (λ (i : ℕ) (k : i < n) (e : (h + 1 + i) % places ≡ at). f (i + 1) (omega arith) (ap (λ (m : ℕ). m % places) (omega arith) ∙ e)))

-- Places less than a whole turn apart are different.
apart : (places h i n : ℕ) → h < places → i < n → n < places → (h + i) % places ≢ (h + n) % places
apart places h i n p k m e = by (dec_lt (h + i) places) (dec_lt (h + n) places)
  where
    by : Dec (h + i < places) → Dec (h + n < places) → ⊥
    by (yes a) (yes b) = let d = sym (mod-eq_of_lt a) ∙ e ∙ mod-eq_of_lt b in omega arith
    by (yes a) (no b) =
        let g = lt_of_not-le (λ (q : suc (h + n) ≤ places). b q) in
        let d = sym (mod-eq_of_lt a) ∙ e ∙ wrap_once (h + n) places (omega arith) (omega arith) in
        omega arith
    by (no a) (yes b) = let g = lt_of_not-le (λ (q : suc (h + i) ≤ places). a q) in omega arith
    by (no a) (no b) =
        let g = lt_of_not-le (λ (q : suc (h + i) ≤ places). a q) in
        let d = sym (wrap_once (h + i) places (omega arith) (omega arith)) ∙ e ∙ wrap_once (h + n) places (omega arith) (omega arith) in
        omega arith

module _ (places : ℕ) (q : Queue) (held : Held places q) where
  -- Where there is room, an entry that is pushed waits behind all others.
  pub push_appends : (x : ℕ) → q.ring.count < places → waiting_list places (push places q x) ≡ waiting_list places q ++ (x ∷ [])
  unfolding push
  push_appends x room =
      let l = q.items in
      let h = q.ring.head in
      let n = q.ring.count in
      let at = (h + n) % places in
      entries_more places (set l at x) h n
      ∙ ap (λ (t : List ℕ). t ++ (get_or (set l at x) at 0 ∷ [])) (entries-set places l h n at x (λ (i : ℕ) (k : i < n). apart places h i n held.head k room))
      ∙ ap (λ (y : ℕ). entries places l h n ++ (y ∷ [])) (get_or-set_same l at x 0 (omega (arith, held.long, held.head, mod-lt (h + n) {m = places} (omega arith))))

  -- The oldest is the first of what waits, and popping leaves the others.
  pub popped_drops : 0 < q.ring.count → waiting_list places q ≡ oldest q ∷ waiting_list places (popped places q)
  unfolding popped entries
  popped_drops some = by q.ring.count refl
    where
      by : (n : ℕ) → q.ring.count ≡ n → waiting_list places q ≡ oldest q ∷ waiting_list places (popped places q)
      by zero e = absurd (let z = some in omega arith)
      by (suc n) e =
          let l = q.items in
          let h = q.ring.head in
          let less : n ≡ q.ring.count - 1 = omega arith in
          ap (entries places l h) e
          ∙ ap (λ (k : ℕ). get_or l k 0 ∷ entries places l (h + 1) n) (mod-eq_of_lt held.head)
          ∙ ap (λ (t : List ℕ). oldest q ∷ t)
          (entries_same places l (h + 1) ((h + 1) % places) n (sym (mod-mod (h + 1) places)) ∙ ap (entries places l ((h + 1) % places)) less)

  -- Both stay within the slice.
  pub held_push : (x : ℕ) → q.ring.count < places → Held places (push places q x)
  unfolding push
  held_push x room =
      record { head = held.head; count = omega arith; long = rw length-set held.long }

  pub held_popped : Held places (popped places q)
  unfolding popped
  held_popped = record {
    head = mod-lt (q.ring.head + 1) {m = places} (omega (arith, held.head));
    count = omega (arith, held.count);
    long = held.long;
  }

  -- How often each number waits after both.
  pub push-times : (x : ℕ) → q.ring.count < places → (r : ℕ)
      → times r (waiting_list places (push places q x)) ≡ times r (x ∷ waiting_list places q)
  push-times x room r = ap (times r) (push_appends x room) ∙ times_last r (waiting_list places q) x

  pub popped-times : 0 < q.ring.count → (r : ℕ)
      → times r (waiting_list places q) ≡ times r (oldest q ∷ waiting_list places (popped places q))
  popped-times some r = ap (times r) (popped_drops some)

  -- Where each number below the number of places waits at most once, and no other, there is room for one that does not wait.
  pub room_left : ((r : ℕ) → times r (waiting_list places q) ≤ 1) → ((r : ℕ) → places ≤ r → times r (waiting_list places q) ≡ 0)
      → (x : ℕ) → x < places → times x (waiting_list places q) ≡ 0 → q.ring.count < places
  room_left once none x h z =
      rw entries-length at (room places (waiting_list places q) once none x h z)

  pub empty_none : is_empty q ≡ true → waiting_list places q ≡ []
  unfolding entries
  empty_none e = ap (entries places q.items q.ring.head) (eqb-true q.ring.count 0 e)

  pub none_empty : waiting_list places q ≡ [] → is_empty q ≡ true
  none_empty e = eq-eqb q.ring.count 0 (sym (entries-length places q.items q.ring.head q.ring.count) ∙ ap length e)

-- ---- rows

pub row-waits : (q : Rows) (r : ℕ) → get_or q.pending r 0 ≡ 1 → queue_row q r ≡ q
unfolding queue_row
row-waits q r e = rw (eq-eqb (get_or q.pending r 0) 1 e)

pub row_new : (q : Rows) (r : ℕ) → get_or q.pending r 0 ≢ 1 → queue_row q r ≡ rows (push max_thresholds q.queue r) (set q.pending r 1)
unfolding queue_row
row_new q r e = rw (ne_eqb (get_or q.pending r 0) 1 e)
