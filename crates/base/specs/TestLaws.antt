-- Tests told apart: what a conjunction, a disjunction or a negation says of its parts.
use Rattle.std.specs.Prelude.{ℕ, ◌≡◌, refl, Bool, true, false, ◌&&◌, ◌||◌, ◌⊎◌}
use Rattle.std.proofs.Common.{arith, sym, inl, inr}

-- What is to be refuted makes 0 and 1 one.
pub unequal : ◌≡◌ {A = ℕ} 0 1 → ⊥
unequal e = omega arith

pub true-false : (b : Bool) → (b ≡ true) ⊎ (b ≡ false)
true-false true = inl refl
true-false false = inr refl

pub clash : (b : Bool) → b ≡ true → b ≡ false → ⊥
clash b h k = unequal cc

pub and_left : (a b : Bool) → (a && b) ≡ true → a ≡ true
and_left true b h = refl
and_left false b h = h

pub and_right : (a b : Bool) → (a && b) ≡ true → b ≡ true
and_right true b h = h
and_right false b h = absurd (clash false h refl)

pub and-true : (a b : Bool) → (a && b) ≡ true → (a ≡ true) × (b ≡ true)
and-true a b h = (and_left a b h, and_right a b h)

pub and_one : (a b : Bool) → a ≡ true → (a && b) ≡ false → b ≡ false
and_one true b e h = h
and_one false b e h = absurd (clash false e refl)

pub and-false : (a b : Bool) → (a && b) ≡ false → (a ≡ false) ⊎ (b ≡ false)
and-false true b h = inr h
and-false false b h = inl refl

pub or-true : (a b : Bool) → (a || b) ≡ true → (a ≡ true) ⊎ (b ≡ true)
or-true true b h = inl refl
or-true false b h = inr h

pub or-false : (a b : Bool) → (a || b) ≡ false → (a ≡ false) × (b ≡ false)
or-false true b h = absurd (clash true refl h)
or-false false b h = (refl, h)

pub or_left : (a b : Bool) → a ≡ true → (a || b) ≡ true
or_left true b h = refl
or_left false b h = absurd (clash false h refl)

pub or_right : (a b : Bool) → b ≡ true → (a || b) ≡ true
or_right true b h = refl
or_right false b h = h

pub or_middle : (a b c : Bool) → (a || b || c) ≡ false → b ≡ false
or_middle a b c h = (or-false a b (or-false (a || b) c h).0).1

pub never_true : (b : Bool) → (b ≡ true → ⊥) → b ≡ false
never_true true h = absurd (h refl)
never_true false h = refl

pub same_bool : (a b : Bool) → (a ≡ true → b ≡ true) → (b ≡ true → a ≡ true) → a ≡ b
same_bool true b f g = sym (f refl)
same_bool false true f g = g refl
same_bool false false f g = refl

pub contrary : {A : Type 0} → true ≡ false → A
contrary h = absurd (unequal cc)
