-- Decided nodes stay as they are, whatever else is decided. Assumes nothing.
use Rattle.std.specs.Prelude.{ℕ, ◌≡◌, refl, Bool, true, false, not, ◌||◌}
use Rattle.std.proofs.Math.Decide.{ℕ_discrete}
use Rattle.std.proofs.Common.{sym, ap, ap₂, ◌∙◌, subst, ⊎_elim}
use Rattle.base.specs.TestLaws.{true-false, clash, never_true}
use Rattle.words.specs.Mask.{bit}
use Rattle.queues.specs.Marks.{Marks, mask, is_decided, Decided, decide}
use Rattle.queues.proofs.MarksLaws.{decide_there, decide_clash, decide_other}

-- DECIDED NODES keep their value, whatever else is decided.
abbrev pub Stay : Marks → Marks → Type 0
Stay m m' = (n : ℕ) → is_decided m n ≡ true → (v : Bool) → bit (mask v m') n ≡ bit (mask v m) n

pub stay_same : (m : Marks) → Stay m m
stay_same m n h v = refl

either : (value : Bool) (m : Marks) (n : ℕ) → is_decided m n ≡ true → bit (mask value m) n ≡ false → bit (mask (not value) m) n ≡ true
either true m n h e = ap (λ (b : Bool). b || bit m.never n) (sym e) ∙ h
either false m n h e = by (bit m.sure n) refl
  where
    by : (b : Bool) → bit m.sure n ≡ b → b ≡ true
    by true f = refl
    by false f = sym (ap₂ (λ (a b : Bool). a || b) f e) ∙ h

-- a node that is decided already changes nothing
pub decide-nothing : (value : Bool) (m : Marks) (n : ℕ) → is_decided m n ≡ true → (decide value m n).marks ≡ m
decide-nothing value m n h =
    ⊎_elim (λ (e : bit (mask value m) n ≡ true). ap (λ (d : Decided). d.marks) (decide_there value m n e))
    (λ (e : bit (mask value m) n ≡ false). ap (λ (d : Decided). d.marks) (decide_clash value m n e (either value m n h e))) (true-false (bit (mask value m) n))

decided_by : (m m' : Marks) (n : ℕ) → ((v : Bool) → bit (mask v m') n ≡ bit (mask v m) n) → is_decided m n ≡ true → is_decided m' n ≡ true
decided_by m m' n h d = ap₂ (λ (a b : Bool). a || b) (h true) (h false) ∙ d

pub stay_decided : (m m' : Marks) → Stay m m' → (n : ℕ) → is_decided m n ≡ true → is_decided m' n ≡ true
stay_decided m m' h n d = decided_by m m' n (h n d) d

pub stay_decide : (m₀ : Marks) (value : Bool) (m : Marks) (n : ℕ) → Stay m₀ m → Stay m₀ (decide value m n).marks
stay_decide m₀ value m n h k d v = by (ℕ_discrete k n) ∙ h k d v
  where
    by : Dec (k ≡ n) → bit (mask v (decide value m n).marks) k ≡ bit (mask v m) k
    by (yes e) = ap (λ (x : Marks). bit (mask v x) k) (decide-nothing value m n (subst (λ (i : ℕ). is_decided m i ≡ true) e (stay_decided m₀ m h k d)))
    by (no e) = decide_other value m n v k e

pub sure_decided : (m : Marks) (n : ℕ) → bit m.sure n ≡ true → is_decided m n ≡ true
sure_decided m n h = ap (λ (b : Bool). b || bit m.never n) h

pub never_decided : (m : Marks) (n : ℕ) → bit m.never n ≡ true → is_decided m n ≡ true
never_decided m n h = by (bit m.sure n)
  where
    by : (b : Bool) → (b || bit m.never n) ≡ true
    by true = refl
    by false = h

pub not-decided : (m : Marks) (n : ℕ) → is_decided m n ≡ false → (value : Bool) → bit (mask value m) n ≡ false
not-decided m n e true = never_true (bit m.sure n) (λ x. clash (is_decided m n) (sure_decided m n x) e)
not-decided m n e false = never_true (bit m.never n) (λ x. clash (is_decided m n) (never_decided m n x) e)
