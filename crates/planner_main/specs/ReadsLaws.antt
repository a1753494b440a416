-- What reading gave, by its cases; what was read fixes the plan. Assumes nothing.
use Rattle.std.specs.Prelude.{ℕ, ◌+◌, ◌<◌, ◌≤◌, ◌≡◌, refl, Bool, true, false, List, [], length, take, drop, replicate, leb, Option, Some, Result, Ok}
use Rattle.std.proofs.Common.{arith, sym, ap, ◌∙◌, subst, length-append, take_at, leb-true, lt-ltb}
use Rattle.std.proofs.lemmas.List.{length-replicate}
use Rattle.memory.specs.Buffers.{longest_input}
use Rattle.files.specs.File.{Outcome, outcome, begun, file_of, planned}
use Rattle.files.specs.Contents.{given_of}
use Rattle.files.specs.Listing.{max_listing, listing}
use Rattle.text.specs.Text.{Wrote}
use Rattle.report.specs.declared.Planned.{Planned}
use Rattle.report.specs.Plan.{Plans}
use Rattle.report.specs.PlanLaws.{plans_given, plans_listed}
use Rattle.notice.specs.Notice.{notice}
use Rattle.std.specs.declared.io.Error.{Error}
use Rattle.std.proofs.lemmas.Bool.{false≢true}
use Rattle.planner_main.specs.declared.Input.{Input}
use Rattle.planner_main.specs.Reads.{Got, ReadTo, Reads, CanBe, Prints, Tells}

pub got_bytes : (room : ℕ) (k : Result (Option ℕ) Error) (n : ℕ) → k ≡ Ok (Some n) → Got room k → (0 < n) × (n ≤ room)
got_bytes room k n e g = subst (Got room) e g

pub read_ended : (room : ℕ) (k : Result Input Error) (i : Input) → k ≡ Ok i → i.ended ≡ true → Reads room k → length i.read.now < room
read_ended room k i e t g = by i.ended t (subst (Reads room) e g)
  where
    by : (b : Bool) → b ≡ true → ReadTo room b (length i.read.now) → length i.read.now < room
    by true t h = h
    by false t h = absurd (false≢true t)

pub read_full : (room : ℕ) (k : Result Input Error) (i : Input) → k ≡ Ok i → i.ended ≡ false → Reads room k → length i.read.now ≡ room
read_full room k i e t g = by i.ended t (subst (Reads room) e g)
  where
    by : (b : Bool) → b ≡ false → ReadTo room b (length i.read.now) → length i.read.now ≡ room
    by true t h = absurd (false≢true (sym t))
    by false t h = h

-- An array of zeros has room for as many as it has.
pub zeros_room : (n m : ℕ) → leb m n ≡ true → m ≤ length (replicate {A = ℕ} n 0)
zeros_room n m h = subst (λ (k : ℕ). m ≤ k) (sym (length-replicate {A = ℕ} n 0)) (leb-true m n h)

-- A text that was written from the start of a buffer is its front.
pub front : (size : ℕ) (before after : List ℕ) (r : ℕ) (text : List ℕ) → Wrote size before after 0 r text → take r after ≡ text
front size before after r text w = ap (take r) w.bytes ∙ take_at text (drop (0 + length text) before) r (omega (arith, w.ended))

-- Every input that is too long has one plan.
planned_long : (x : List ℕ) → longest_input < length x → planned x ≡ outcome begun [] 10 0
unfolding planned
planned_long x h = ap (λ (b : Bool). by b) (lt-ltb 65536 (length x) h)
  where
    by : Bool → Outcome
    by b = elim b [ true ↦ outcome begun [] 10 0 | false ↦ file_of x ]

-- ONE PLAN for every input that can be, since one that did not end is too long
pub one-plan : (ended : Bool) (read input : List ℕ) → (ended ≡ false → longest_input < length read) → CanBe ended read input → planned input ≡ planned read
one-plan true read input h e = ap planned e
one-plan false read input h (rest, e) =
    let k = h refl in
    let l = ap (λ (x : List ℕ). length x) e ∙ length-append read rest in
    planned_long input (omega arith) ∙ sym (planned_long read k)

-- So its listing and its notice are those of what was read.
module _ (ended : Bool) (read : List ℕ) (long : ended ≡ false → longest_input < length read) (before after : List ℕ) (r : Planned) (room : max_listing ≤ length before) (p : Plans read before after r) where
  pub prints : Prints ended read (take r.length after)
  prints input c = plans_listed read before after r room p ∙ ap listing (sym (one-plan ended read input long c))

  pub tells : (text : List ℕ) → text ≡ notice r.given → Tells ended read text
  tells text e input c = e ∙ ap notice (plans_given read before after r room p ∙ ap given_of (sym (one-plan ended read input long c)))
