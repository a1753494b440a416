-- THE FIRST STATES OF ROWS begin the invariant, where every decided node waits and none was drained. Cleared memory is one case.
use Rattle.std.specs.Prelude.{ℕ, zero, suc, ◌+◌, ◌≤◌, ◌<◌, ◌≡◌, refl, Bool, true, false, ◌||◌, List, [], ◌∷◌, ◌⊎◌, length, get_or, set}
use Rattle.std.proofs.Common.{not-suc-le-zero, arith, ap, ap₂, ◌∙◌, inl, inr, ⊎_elim, length-set, get_or-set_same, get_or-set_other}
use Rattle.base.specs.TestLaws.{clash}
use Rattle.state.specs.declared.State.{State}
use Rattle.state.specs.State.{no_state}
use Rattle.words.specs.Mask.{bit}
use Rattle.queues.specs.Marks.{is_decided, mask}
use Rattle.queues.specs.Waiting.{Waits, Queued}
use Rattle.rows.specs.Rows.{Row, no_row, state_of_row}
use Rattle.row_moves.specs.Between.{Index, Live, state_at, first_states, with_states}
use Rattle.theorem_table.specs.Table.{start}
use Rattle.theorem_follows.specs.StandsLaws.{Apart}
use Rattle.theorem_follows.specs.SettledLaws.{Sound}
use Rattle.theorem_follows.specs.StartLaws.{nothing, first_sound}

-- ---- place by place

first_other : (r : ℕ) (rs : List Row) (ss : List State) (q : ℕ) → (q < r) ⊎ (r + length rs ≤ q) → get_or (first_states r rs ss) q no_state ≡ get_or ss q no_state
unfolding first_states
first_other r [] ss q h = refl
first_other r (y ∷ rs) ss q h =
    first_other (r + 1) rs (set ss r (state_of_row y)) q (⊎_elim (λ (k : q < r). inl (omega arith)) (λ (k : r + length (y ∷ rs) ≤ q). inr (omega arith)) h)
    ∙ get_or-set_other ss r q (state_of_row y) no_state (λ e. ⊎_elim (λ (k : q < r). omega arith) (λ (k : r + length (y ∷ rs) ≤ q). omega arith) h)

first_here : (r : ℕ) (rs : List Row) (ss : List State) (i q : ℕ) → i ≡ r + q → q < length rs → r + length rs ≤ length ss
    → get_or (first_states r rs ss) i no_state ≡ state_of_row (get_or rs q no_row)
unfolding first_states
first_here r [] ss i q e h l = absurd (not-suc-le-zero h)
first_here r (y ∷ rs) ss i zero e h l =
    let f : i ≡ r = omega arith in
    first_other (r + 1) rs (set ss r (state_of_row y)) i (inl (omega arith))
    ∙ ap (λ (k : ℕ). get_or (set ss r (state_of_row y)) k no_state) f ∙ get_or-set_same ss r (state_of_row y) no_state (omega arith)
first_here r (y ∷ rs) ss i (suc q) e h l =
    first_here (r + 1) rs (set ss r (state_of_row y)) i q (omega arith) (omega arith) (let k = length-set ss r (state_of_row y) in omega arith)

-- ---- what a seal begins with

-- Every decided node waits once, none is drained, and no row from a number on has a state yet.
pub record Undrained (rows : ℕ) (v : Live) : Type 0 where
  pub queued : Queued (λ (n : ℕ). false) v.marks
  pub apart : Apart v.marks
  pub states : (r : ℕ) → rows ≤ r → state_at v r ≡ no_state

pub undrained_from : (m n : ℕ) (v : Live) → m ≤ n → Undrained m v → Undrained n v
undrained_from m n v h u = record { queued = u.queued; apart = u.apart; states = λ r k. u.states r (omega arith) }

-- So it is where nothing is decided and no row has a state.
pub undrained_none : (v : Live) → Waits v.marks → ((r : ℕ) → state_at v r ≡ no_state) → ((b : Bool) (n : ℕ) → bit (mask b v.marks) n ≡ false) → Undrained 0 v
undrained_none v waits states bits = record {
  queued = record {
    queue = waits;
    decided = λ n e. absurd (clash false e refl);
    gone = λ n e. absurd (clash false e refl);
    left = λ n d e. absurd (clash (is_decided v.marks n) d (ap₂ (λ (a c : Bool). a || c) (bits true n) (bits false n)));
  };
  apart = λ n a c. clash (bit v.marks.sure n) a (bits true n);
  states = λ r h. states r;
}

-- A SEAL, WHATEVER IS DECIDED
pub first_undrained : (x : Index) (v : Live) → length x.rows ≤ length v.states → length x.rows ≤ length v.dirty.pending
    → length (first_states 0 x.rows v.states) ≡ length v.states → Undrained (length x.rows) v
    → Sound x (start (bit v.marks.sure) (bit v.marks.never)) nothing (with_states v (first_states 0 x.rows v.states))
first_undrained x v room flags long u =
    first_sound x (with_states v (first_states 0 x.rows v.states)) (omega (arith, long, room)) flags
    (λ r i. first_here 0 x.rows v.states r r (omega arith) i (omega (arith, room)))
    (λ r i. first_other 0 x.rows v.states r (inr (omega arith)) ∙ u.states r (omega arith)) u.queued u.apart
