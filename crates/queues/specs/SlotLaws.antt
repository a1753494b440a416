-- Two queues of rows in one buffer: what is written for one is that queue's next value, and leaves the other. Assumes nothing.
use Rattle.std.specs.Prelude.{ℕ, zero, suc, ◌+◌, ◌-◌, ◌%◌, ◌<◌, ◌≡◌, refl, ◌≢◌, List, [], ◌∷◌, map}
use Rattle.std.proofs.Common.{arith, ap₂, ◌∙◌, get_or-set_same, get_or-set_other}
use Rattle.std.proofs.Math.Path.{sym, ap}
use Rattle.std.proofs.Math.ListN.{get_or, set}
use Rattle.std.proofs.Math.Seq.{set-get_or}
use Rattle.memory.specs.Limits.{max_thresholds}
use Rattle.base.specs.Columns.{column}
use Rattle.base.specs.ColumnsLaws.{column-at}
use Rattle.queues.specs.declared.Ring.{Ring}
use Rattle.queues.specs.declared.RowQueue.{RowQueue}
use Rattle.queues.specs.declared.RowQueue.TheVariants.{Bounds, Residuals}
use Rattle.queues.specs.Queue.{queue, behind, longer_ring, push, popped, popped_ring, rows, queue_row, next_row}
use Rattle.queues.specs.Slot.{rows_in, first_column, slot, put}
use Rattle.queues.specs.QueueLaws.{row-waits, row_new}

slot_at : (l : List ℕ) (i : ℕ) → i < 4 → get_or (slot l) i 0 ≡ get_or l i 0
slot_at l zero h = refl
slot_at l (suc zero) h = refl
slot_at l (suc (suc zero)) h = refl
slot_at l (suc (suc (suc zero))) h = refl
slot_at l (suc (suc (suc (suc i)))) h = absurd (omega arith)

pub map-set : {A B : Type 0} (f : A → B) (l : List A) (i : ℕ) (a : A) → map f (set l i a) ≡ set (map f l) i (f a)
map-set f [] i a = refl
map-set f (x ∷ l) zero a = refl
map-set {B = B} f (x ∷ l) (suc i) a = ap (λ (m : List B). f x ∷ m) (map-set f l i a)

column-set : (j : ℕ) (slots : List (List ℕ)) (at : ℕ) (s : List ℕ) → column j (set slots at s) ≡ set (column j slots) at (get_or s j 0)
column-set j slots at s = map-set (λ (l : List ℕ). get_or l j 0) slots at s

module _ (slots : List (List ℕ)) (at j x : ℕ) where
  put_same : j < 4 → column j (put slots at j x) ≡ set (column j slots) at x
  unfolding put
  put_same h = column-set j slots at (set (slot (get_or slots at [])) j x) ∙ ap (set (column j slots) at) (get_or-set_same (slot (get_or slots at [])) j x 0 h)

  put_other : (i : ℕ) → i < 4 → i ≢ j → column i (put slots at j x) ≡ column i slots
  unfolding put
  put_other i h d =
      column-set i slots at (set (slot (get_or slots at [])) j x)
      ∙ ap (set (column i slots) at) (get_or-set_other (slot (get_or slots at [])) j i x 0 d ∙ slot_at (get_or slots at []) i h ∙ sym (column-at i slots at))
      ∙ set-get_or (column i slots) at 0

pub column_small : (which : RowQueue) → first_column which < 4
column_small Bounds = omega arith
column_small Residuals = omega arith

pub column_even : (which : RowQueue) → first_column which % 2 ≡ 0
column_even Bounds = refl
column_even Residuals = refl

-- The columns of the two queues are four.
pub record Apart (k : ℕ) : Type 0 where
  pub items_items : 2 - k ≢ k
  pub items_flags : 2 - k ≢ k + 1
  pub flags_items : 2 - k + 1 ≢ k
  pub flags_flags : 2 - k + 1 ≢ k + 1

apart : (k : ℕ) → k < 4 → k % 2 ≡ 0 → Apart k
apart zero h e = record {
  items_items = λ (f : ◌≡◌ {A = ℕ} 2 0). omega arith;
  items_flags = λ (f : ◌≡◌ {A = ℕ} 2 1). omega arith;
  flags_items = λ (f : ◌≡◌ {A = ℕ} 3 0). omega arith;
  flags_flags = λ (f : ◌≡◌ {A = ℕ} 3 1). omega arith;
}
apart (suc zero) h e = absurd (omega arith)
apart (suc (suc zero)) h e = record {
  items_items = λ (f : ◌≡◌ {A = ℕ} 0 2). omega arith;
  items_flags = λ (f : ◌≡◌ {A = ℕ} 0 3). omega arith;
  flags_items = λ (f : ◌≡◌ {A = ℕ} 1 2). omega arith;
  flags_flags = λ (f : ◌≡◌ {A = ℕ} 1 3). omega arith;
}
apart (suc (suc (suc k))) h e = absurd (omega arith)

-- Both queues, by the first column of one: k is 0 or 2.
module _ (k : ℕ) (small : k < 4) (even : k % 2 ≡ 0) (slots : List (List ℕ)) (r : Ring) where
  abbrev pub Beside : List (List ℕ) → Type 0
  Beside t = (other : Ring) → rows_in (2 - k) t other ≡ rows_in (2 - k) slots other

  pub slots_waits : (row : ℕ) → get_or (get_or slots row []) (k + 1) 0 ≡ 1 → rows_in k slots r ≡ queue_row (rows_in k slots r) row
  slots_waits row e = sym (row-waits (rows_in k slots r) row (column-at (k + 1) slots row ∙ e))

  -- A row is queued: its flag is raised, and it is written behind all others.
  module _ (row : ℕ) (new : get_or (get_or slots row []) (k + 1) 0 ≢ 1) (at : ℕ) (last : at ≡ behind max_thresholds r) (s t : List (List ℕ))
      (flag : s ≡ put slots row (k + 1) 1) (entry : t ≡ put s at k row) where
    items : column k t ≡ set (column k slots) (behind max_thresholds r) row
    items =
        ap (column k) entry ∙ put_same s at k row small ∙ ap (λ (l : List (List ℕ)). set (column k l) at row) flag
        ∙ ap (λ (l : List ℕ). set l at row) (put_other slots row (k + 1) 1 k small (λ (e : k ≡ k + 1). omega arith))
        ∙ ap (λ (i : ℕ). set (column k slots) i row) last

    flags : column (k + 1) t ≡ set (column (k + 1) slots) row 1
    flags =
        ap (column (k + 1)) entry ∙ put_other s at k row (k + 1) (omega arith) (λ (e : k + 1 ≡ k). omega arith)
        ∙ ap (column (k + 1)) flag ∙ put_same slots row (k + 1) 1 (omega arith)

    pub slots_new : (q : Ring) → q ≡ longer_ring r → rows_in k t q ≡ queue_row (rows_in k slots r) row
    unfolding push
    slots_new q e =
        (λ i. rows (queue (items i) (e i)) (flags i))
        ∙ sym (row_new (rows_in k slots r) row (λ (f : get_or (column (k + 1) slots) row 0 ≡ 1). new (sym (column-at (k + 1) slots row) ∙ f)))

    kept : (i : ℕ) → i < 4 → i ≢ k → i ≢ k + 1 → column i t ≡ column i slots
    kept i h d f = ap (column i) entry ∙ put_other s at k row i h d ∙ ap (column i) flag ∙ put_other slots row (k + 1) 1 i h f

    pub new_beside : Beside t
    new_beside other =
        let d = apart k small even in
        ap₂ (λ (l m : List ℕ). rows (queue l other) m) (kept (2 - k) (omega arith) d.items_items d.items_flags) (kept (2 - k + 1) (omega arith) d.flags_items d.flags_flags)

  -- The oldest is taken: its flag falls.
  module _ (row : ℕ) (first : row ≡ get_or (get_or slots r.head []) k 0) (t : List (List ℕ)) (flag : t ≡ put slots row (k + 1) 0) where
    pub slots_next : (q : Ring) → q ≡ popped_ring max_thresholds r → rows_in k t q ≡ next_row (rows_in k slots r)
    unfolding next_row popped
    slots_next q e =
        let items = ap (column k) flag ∙ put_other slots row (k + 1) 0 k small (λ (f : k ≡ k + 1). omega arith) in
        let flags =
        ap (column (k + 1)) flag ∙ put_same slots row (k + 1) 0 (omega arith)
        ∙ ap (λ (i : ℕ). set (column (k + 1) slots) i 0) (first ∙ sym (column-at k slots r.head)) in
        (λ i. rows (queue (items i) (e i)) (flags i))

    left : (i : ℕ) → i < 4 → i ≢ k + 1 → column i t ≡ column i slots
    left i h f = ap (column i) flag ∙ put_other slots row (k + 1) 0 i h f

    pub next_beside : Beside t
    next_beside other =
        let d = apart k small even in
        ap₂ (λ (l m : List ℕ). rows (queue l other) m) (left (2 - k) (omega arith) d.items_flags) (left (2 - k + 1) (omega arith) d.flags_flags)
