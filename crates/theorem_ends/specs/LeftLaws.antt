-- How much the nodes leave to do: those that are not decided yet and those that wait. Deciding a node never adds to it.
-- Assumes nothing.
use Rattle.std.specs.Prelude.{ℕ, zero, suc, ◌+◌, ◌*◌, ◌≤◌, ◌<◌, ◌≡◌, Bool, cond, not, ◌||◌, ◌≢◌, length}
use Rattle.std.proofs.Common.{le_refl, not-suc-le-zero, sym, ◌∙◌}
use Rattle.std.proofs.Math.Decide.{ℕ_discrete}
use native.Mathlib.Omega.{arith}
use Rattle.std.proofs.Math.Path.{refl, ap, ap₂}
use Rattle.std.proofs.Math.Bool.{true, false, or-true}
use Rattle.base.specs.TestLaws.{unequal}
use Rattle.memory.specs.Limits.{max_nodes}
use Rattle.state.specs.declared.Step.{Step}
use Rattle.state.specs.declared.Step.TheVariants.{Changed, Contradiction}
use Rattle.words.specs.Mask.{bit}
use Rattle.queues.specs.Queue.{Queue, push, popped}
use Rattle.queues.specs.Marks.{Marks, marks, is_decided, Decided, decide, waiting, mask}
use Rattle.queues.proofs.MarksLaws.{decide_there, decide_clash, decide_new, decide-waits, decide_has, decide_other}
use Rattle.queues.specs.Waiting.{Waits}

-- How many of the first n nodes are not decided.
unfoldable pub undecided : (ℕ → Bool) → ℕ → ℕ
undecided f zero = 0
undecided f (suc n) = cond (f n) 0 1 + undecided f n

one_at_most : (b : Bool) → ◌≤◌ (cond b 0 1) 1
one_at_most true = omega arith
one_at_most false = omega arith

pub undecided_most : (f : ℕ → Bool) (n : ℕ) → undecided f n ≤ n
unfolding undecided
undecided_most f zero = omega arith
undecided_most f (suc n) = omega (arith, undecided_most f n, one_at_most (f n))

undecided_same : (f g : ℕ → Bool) (n : ℕ) → ((k : ℕ) → k < n → g k ≡ f k) → undecided g n ≡ undecided f n
unfolding undecided
undecided_same f g zero h = refl
undecided_same f g (suc n) h =
    ap₂ (λ (b : Bool) (k : ℕ). cond b 0 1 + k) (h n (omega arith)) (undecided_same f g n (λ k l. h k (omega arith)))

-- One node more is decided.
undecided_one : (f g : ℕ → Bool) (at : ℕ) → f at ≡ false → g at ≡ true → ((k : ℕ) → k ≢ at → g k ≡ f k)
    → (n : ℕ) → at < n → undecided f n ≡ 1 + undecided g n
unfolding undecided
undecided_one f g at e d other zero h = absurd (not-suc-le-zero h)
undecided_one f g at e d other (suc n) h = by (λ l. undecided_one f g at e d other n l) (ℕ_discrete at n)
  where
    by : (at < n → undecided f n ≡ 1 + undecided g n) → Dec (at ≡ n) → undecided f (suc n) ≡ 1 + undecided g (suc n)
    by ih (yes q) =
        let a : ◌≡◌ {A = ℕ} (cond (f n) 0 1) 1 = ap (λ (b : Bool). cond b 0 1) (ap f (sym q) ∙ e) in
        let b : ◌≡◌ {A = ℕ} (cond (g n) 0 1) 0 = ap (λ (b : Bool). cond b 0 1) (ap g (sym q) ∙ d) in
        let c = undecided_same f g n (λ k l. other k (λ (z : k ≡ at). omega arith)) in
        omega arith
    by ih (no q) =
        let a : ◌≡◌ {A = ℕ} (cond (g n) 0 1) (cond (f n) 0 1) = ap (λ (b : Bool). cond b 0 1) (other n (λ (z : n ≡ at). q (sym z))) in
        let b = ih (omega arith) in
        omega arith

-- A node counts twice what it counts when it waits.
abbrev pub load : Marks → ℕ
load m = 4000 * undecided (is_decided m) max_nodes + 2000 * m.nodes.ring.count

module _ (m : Marks) (w : Waits m) (value : Bool) (n : ℕ) (h : n < max_nodes) where
  long : (v : Bool) → length (mask v m) ≡ 64
  long true = w.sures
  long false = w.nevers

  after : Marks
  after = (decide value m n).marks

  undecided-before : (v : Bool) → bit (mask v m) n ≡ false → bit (mask (not v) m) n ≡ false → is_decided m n ≡ false
  undecided-before true e f = ap (λ (b : Bool). b || bit m.never n) e ∙ f
  undecided-before false e f = ap (λ (b : Bool). b || bit m.never n) f ∙ e

  decided-after : (v : Bool) → bit (mask v after) n ≡ true → is_decided after n ≡ true
  unfolding after
  decided-after true e = ap (λ (b : Bool). b || bit after.never n) e
  decided-after false e = ap (λ (b : Bool). bit after.sure n || b) e ∙ or-true (bit after.sure n)

  unlike : Changed ≡ Contradiction → ⊥
  unlike e = unequal cc

  -- A node that is decided anew waits, and is not undecided any more.
  new : bit (mask value m) n ≡ false → bit (mask (not value) m) n ≡ false → load after ≤ load m
  unfolding after push
  new e f =
      let step : (decide value m n).step ≡ Changed = ap (λ (d : Decided). d.step) (decide_new value m n e f) in
      let has = decide_has value m n (omega (arith, long value)) (λ (q : (decide value m n).step ≡ Contradiction). unlike (sym step ∙ q)) in
      let count : after.nodes.ring.count ≡ m.nodes.ring.count + 1 =
      ap (λ (q : Queue). q.ring.count) (decide-waits value m n ∙ ap (λ (k : Step). waiting k m.nodes n) step) in
      let one = undecided_one (is_decided m) (is_decided after) n (undecided-before value e f) (decided-after value has)
      (λ k d. ap₂ (λ (a b : Bool). a || b) (decide_other value m n true k d) (decide_other value m n false k d)) max_nodes h in
      omega arith

  -- DECIDING A NODE ADDS NOTHING
  pub load_decide : load (decide value m n).marks ≤ load m
  unfolding after
  load_decide = by (bit (mask value m) n) refl (bit (mask (not value) m) n) refl
    where
      by : (s : Bool) → bit (mask value m) n ≡ s → (t : Bool) → bit (mask (not value) m) n ≡ t → load (decide value m n).marks ≤ load m
      by true e t f = rw (decide_there value m n e) (le_refl (load m))
      by false e true f = rw (decide_clash value m n e f) (le_refl (load m))
      by false e false f = new e f

-- Taking the oldest node.
pub load_popped : (m : Marks) → 0 < m.nodes.ring.count → load (marks m.sure m.never (popped max_nodes m.nodes)) + 2000 ≡ load m
unfolding popped
load_popped m h = omega arith

pub load_most : (m : Marks) → Waits m → load m ≤ 24576000
load_most m w = omega (arith, undecided_most (is_decided m) max_nodes, w.held.count)
