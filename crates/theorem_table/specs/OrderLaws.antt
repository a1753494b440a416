-- The order of signed numbers in the form in which the rules state their premises, and of uppers.
use Rattle.std.specs.Prelude.{ℕ, ◌+◌, ◌-◌, ◌≤◌, ◌≡◌, refl, Bool, true, false, ◌⊎◌, T, ℤ, pos, ◌+ℤ◌, ◌-ℤ◌, ◌≤ℤ◌, ◌<ℤ◌, Option, None, Some}
use Rattle.std.proofs.Common.{arith, sym, ap, ap₂, ◌∙◌, subst, inl, inr, le-leb}
use Rattle.std.proofs.Math.Path.{subst⁻¹}
use Rattle.std.proofs.Math.IntN.{+ℤ_comm, -ℤ-+ℤ_cancel, pos-+ℤ-pos}
use Rattle.std.specs.Int.Signed.{le_z, lt_z, le_z_yes, lt_z_yes, ≤ℤ_refl, clash_ℤ}
use Rattle.base.specs.TestLaws.{clash}
use Rattle.base.specs.SignedLaws.{le_z_trans, le_z_antisymm, le_z-lt_z, lt_z_weaken, nle-lt_z, le_z-add, le_z_minus, pos_minus, le_z-pos, max-left, max_right, max_least}
use Rattle.base.specs.Signed.{max_z}
use Rattle.state.specs.State.{upper_at_most}
use Rattle.theorem_table.specs.Table.{AtMost, Below}

-- from a test to the order and back
pub le : {a b : ℤ} → le_z a b ≡ true → a ≤ℤ b
le e = le_z_yes (subst⁻¹ T e tt)

pub lt : {a b : ℤ} → lt_z a b ≡ true → a <ℤ b
lt e = lt_z_yes (subst⁻¹ T e tt)

passed : (b : Bool) → T b → b ≡ true
passed true t = refl
passed false t = absurd t

pub of_le : {a b : ℤ} → a ≤ℤ b → le_z a b ≡ true
of_le {a} {b} h = passed (le_z a b) h.le

pub of_lt : {a b : ℤ} → a <ℤ b → lt_z a b ≡ true
of_lt {a} {b} h = passed (lt_z a b) h.lt

pub ≤ℤ_trans : {a b c : ℤ} → a ≤ℤ b → b ≤ℤ c → a ≤ℤ c
≤ℤ_trans {a} {b} {c} h k = le (le_z_trans a b c (of_le h) (of_le k))

pub ≤ℤ_<ℤ_trans : {a b c : ℤ} → a ≤ℤ b → b <ℤ c → a <ℤ c
≤ℤ_<ℤ_trans {a} {b} {c} h k = lt (le_z-lt_z a b c (of_le h) (of_lt k))

pub ≤ℤ_anti : {a b : ℤ} → a ≤ℤ b → b ≤ℤ a → a ≡ b
≤ℤ_anti {a} {b} h k = le_z_antisymm a b (of_le h) (of_le k)

pub <ℤ_≤ℤ : {a b : ℤ} → a <ℤ b → a ≤ℤ b
<ℤ_≤ℤ {a} {b} h = le (lt_z_weaken a b (of_lt h))

pub ≤ℤ_or_<ℤ : (a b : ℤ) → (a ≤ℤ b) ⊎ (b <ℤ a)
≤ℤ_or_<ℤ a b = by (le_z a b) refl
  where
    by : (t : Bool) → le_z a b ≡ t → (a ≤ℤ b) ⊎ (b <ℤ a)
    by true e = inl (le e)
    by false e = inr (lt (nle-lt_z b a e))

pub pos_≤ℤ : {a b : ℕ} → a ≤ b → pos a ≤ℤ pos b
pos_≤ℤ {a} {b} h = le (le_z-pos a b ∙ le-leb a b h)

pub zero-le : (n : ℕ) → pos 0 ≤ℤ pos n
zero-le n = pos_≤ℤ {a = 0} {b = n} (omega arith)

-- the maximum
pub max_up : {a b c d : ℤ} → a ≤ℤ c → b ≤ℤ d → max_z a b ≤ℤ max_z c d
max_up {a} {b} {c} {d} h k =
    le (max_least a b (max_z c d) (of_le (≤ℤ_trans h (le (max-left c d)))) (of_le (≤ℤ_trans k (le (max_right c d)))))

pub max_above : (a b : ℤ) → a ≤ℤ max_z a b
max_above a b = le (max-left a b)

-- differences
pub sub_up : {a b c d : ℤ} → a ≤ℤ b → d ≤ℤ c → (a -ℤ c) ≤ℤ (b -ℤ d)
sub_up {a} {b} {c} {d} h k =
    let x = a -ℤ c in
    let e : le_z (x +ℤ d) (x +ℤ c) ≡ true = ap₂ le_z (+ℤ_comm x d) (+ℤ_comm x c) ∙ le_z-add d c x ∙ of_le k in
    let f : le_z (x +ℤ d) a ≡ true = subst (λ (z : ℤ). le_z (x +ℤ d) z ≡ true) (-ℤ-+ℤ_cancel a c) e in
    le (le_z_minus x b d ∙ le_z_trans (x +ℤ d) a b f (of_le h))

-- a weight above possible - lower, where possible fell by that weight: lower is above possible
pub needed_clash : (p q w : ℕ) (l : ℤ) → q + w ≤ p → (pos p -ℤ l) <ℤ pos w → pos q <ℤ l
needed_clash p q w l h k = by (≤ℤ_or_<ℤ l (pos q))
  where
    by : (l ≤ℤ pos q) ⊎ (pos q <ℤ l) → pos q <ℤ l
    by (inl g) =
        clash_ℤ k (≤ℤ_trans (subst (λ (z : ℤ). pos w ≤ℤ z) (sym (pos_minus p q (omega arith))) (pos_≤ℤ {a = w} {b = p - q} (omega arith)))
        (sub_up (≤ℤ_refl (pos p)) g))
    by (inr g) = g

-- a weight of at least upper - known, where known rose by that weight: known has reached upper
pub heavy_clash : (k m w : ℕ) (u : ℤ) → k + w ≤ m → (u -ℤ pos k) ≤ℤ pos w → u ≤ℤ pos m
heavy_clash k m w u h g =
    let e : le_z ((u -ℤ pos k) +ℤ pos k) (pos w +ℤ pos k) ≡ true = le_z-add (u -ℤ pos k) (pos w) (pos k) ∙ of_le g in
    ≤ℤ_trans (subst (λ (z : ℤ). z ≤ℤ (pos w +ℤ pos k)) (-ℤ-+ℤ_cancel u (pos k)) (le e))
    (subst (λ (z : ℤ). z ≤ℤ pos m) (sym (pos-+ℤ-pos w k)) (pos_≤ℤ {a = w + k} {b = m} (omega arith)))

-- UPPERS: the first is at most the second; none is the largest
abbrev pub UpLe : Option ℤ → Option ℤ → Type 0
UpLe a None = Unit {0}
UpLe None (Some b) = ⊥
UpLe (Some a) (Some b) = a ≤ℤ b

pub up_refl : (a : Option ℤ) → UpLe a a
up_refl None = tt
up_refl (Some a) = ≤ℤ_refl a

pub up_trans : (a b c : Option ℤ) → UpLe a b → UpLe b c → UpLe a c
up_trans a b None h k = tt
up_trans a None (Some c) h k = absurd k
up_trans None (Some b) (Some c) h k = absurd h
up_trans (Some a) (Some b) (Some c) h k = ≤ℤ_trans h k

pub up_anti : (a b : Option ℤ) → UpLe a b → UpLe b a → a ≡ b
up_anti None None h k = refl
up_anti None (Some b) h k = absurd h
up_anti (Some a) None h k = absurd k
up_anti (Some a) (Some b) h k = ap Some (≤ℤ_anti h k)

pub below-le : (a b : Option ℤ) → Below a b → UpLe a b
below-le None b h = absurd h
below-le (Some a) None h = tt
below-le (Some a) (Some b) h = <ℤ_≤ℤ h

pub le-or-below : (a b : Option ℤ) → UpLe a b ⊎ Below b a
le-or-below a None = inl tt
le-or-below None (Some b) = inr tt
le-or-below (Some a) (Some b) = ≤ℤ_or_<ℤ a b

-- from the test of an upper to the order and back
pub at_most : (x : Option ℤ) (z : ℤ) → upper_at_most x z ≡ true → AtMost x z
at_most None z h = absurd (clash false h refl)
at_most (Some a) z h = le h

pub of_at-most : (x : Option ℤ) (z : ℤ) → AtMost x z → upper_at_most x z ≡ true
of_at-most None z h = absurd h
of_at-most (Some a) z h = of_le h

pub at-most_up : (a b : Option ℤ) {y z : ℤ} → UpLe a b → y ≤ℤ z → AtMost b y → AtMost a z
at-most_up a None h k g = absurd g
at-most_up None (Some b) h k g = absurd h
at-most_up (Some a) (Some b) h k g = ≤ℤ_trans h (≤ℤ_trans g k)
