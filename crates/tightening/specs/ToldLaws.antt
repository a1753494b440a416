-- What a state takes from a guard or another row, case by case as the code tells them apart. Assumes nothing.
use Rattle.std.specs.Prelude.{ℕ, ◌≤◌, ◌<◌, ◌≡◌, refl, Bool, true, false, not, cond, ◌&&◌, ℤ, leb, None, Some}
use Rattle.std.proofs.Common.{sym, ap, ◌∙◌, le-leb}
use Rattle.std.specs.Int.Signed.{le_z, lt_z}
use Rattle.std.proofs.lemmas.Bool.{lt-leb, not-true, not-false}
use Rattle.base.specs.SignedLaws.{nle-lt_z, le_z-nlt}
use Rattle.state.specs.declared.State.{State}
use Rattle.state.specs.State.{upper_at_most, with_lower, with_upper}
use Rattle.tightening.specs.Told.{Tightened, tight, told, guard_state, moved_lower, under, moved_upper}
use Rattle.std.proofs.lemmas.Option.{none-some, same_Some}
use Rattle.base.specs.TestLaws.{contrary}

-- What a new state, or none, says of what was told.
pub told_some : (s : State) (t : Tightened) → Some s ≡ told t → tight s true ≡ t
told_some s t e = by t.changed refl
  where
    by : (c : Bool) → t.changed ≡ c → tight s true ≡ t
    by true f = let h : Some s ≡ Some t.state = e ∙ ap (λ (b : Bool). cond b (Some t.state) None) f in rw (same_Some s t.state h) (ap (tight t.state) (sym f))
    by false f = absurd (none-some s (sym (e ∙ ap (λ (b : Bool). cond b (Some t.state) None) f)))

pub told_none : (t : Tightened) → None ≡ told t → t.changed ≡ false
told_none t e = by t.changed refl
  where
    by : (c : Bool) → t.changed ≡ c → t.changed ≡ false
    by true f = absurd (none-some t.state (e ∙ ap (λ (b : Bool). cond b (Some t.state) None) f))
    by false f = f

-- A guard's bound: new, or not.
module _ (s : State) (value : Bool) (b : ℤ) where
  pub guard_raises : value ≡ true → not (le_z b s.lower) ≡ true → (t : State) → t ≡ with_lower s b → tight t true ≡ guard_state s value b
  guard_raises v h t e = rw (v, guard_state, not-true (le_z b s.lower) h) (ap (λ (x : State). tight x true) e)

  pub guard-reached : value ≡ true → not (le_z b s.lower) ≡ false → tight s false ≡ guard_state s value b
  guard-reached v h = rw (v, guard_state, not-false (le_z b s.lower) h)

  pub guard_lowers : value ≡ false → upper_at_most s.upper b ≡ false → (t : State) → t ≡ with_upper s (Some b) → tight t true ≡ guard_state s value b
  guard_lowers v h t e = rw (v, guard_state, h) (ap (λ (x : State). tight x true) e)

  pub guard-limited : value ≡ false → upper_at_most s.upper b ≡ true → tight s false ≡ guard_state s value b
  guard-limited v h = rw (v, guard_state, h)

-- A neighbour's lower and upper: new, not new, or not for this row.
module _ (source s : State) (n k : ℕ) where
  pub lower_moves : n ≤ k → not (le_z source.lower s.lower) ≡ true → (t : State) → t ≡ with_lower s source.lower → tight t true ≡ moved_lower source s n k
  lower_moves h g t e =
      rw (le-leb n k h, nle-lt_z s.lower source.lower (not-true (le_z source.lower s.lower) g)) (ap (λ (x : State). tight x true) e)

  pub lower_stays : n ≤ k → not (le_z source.lower s.lower) ≡ false → tight s false ≡ moved_lower source s n k
  lower_stays h g = rw (le-leb n k h, le_z-nlt s.lower source.lower (not-false (le_z source.lower s.lower) g))

  pub lower_not : k < n → tight s false ≡ moved_lower source s n k
  lower_not h = rw (lt-leb n k h)

module _ (source : State) (t : Tightened) (n k : ℕ) where
  pub upper_not : n < k → t ≡ moved_upper source t n k
  upper_not h = rw (lt-leb k n h)

  module _ (h : k ≤ n) where
    pub upper_none : source.upper ≡ None → t ≡ moved_upper source t n k
    upper_none e = rw (le-leb k n h, e)

    pub upper_stays : (b : ℤ) → source.upper ≡ Some b → upper_at_most t.state.upper b ≡ true → t ≡ moved_upper source t n k
    upper_stays b e g = rw (le-leb k n h, e, g)

    pub upper_moves : (b : ℤ) → source.upper ≡ Some b → upper_at_most t.state.upper b ≡ false
        → (u : State) → u ≡ with_upper t.state (Some b) → tight u true ≡ moved_upper source t n k
    upper_moves b e g u f = rw (le-leb k n h, e, g) (ap (λ (x : State). tight x true) f)

-- ---- for laws of what was told: what holds in each case holds

-- A guard tells nothing new, raises the lower or lowers the upper.
pub guard-cases : (s : State) (value : Bool) (b : ℤ) (G : Tightened → Type 0) → ((value ≡ true → le_z b s.lower ≡ true) × (value ≡ false → upper_at_most s.upper b ≡ true) → G (tight s false))
    → (value ≡ true → le_z b s.lower ≡ false → G (tight (with_lower s b) true)) → (value ≡ false → upper_at_most s.upper b ≡ false → G (tight (with_upper s (Some b)) true)) → G (guard_state s value b)
guard-cases s true b G none raised lowered = by (le_z b s.lower) refl
  where
    by : (c : Bool) → le_z b s.lower ≡ c → G (elim c [ true ↦ tight s false | false ↦ tight (with_lower s b) true ])
    by true e = none ((λ f. e), λ f. contrary f)
    by false e = raised refl e
guard-cases s false b G none raised lowered = by (upper_at_most s.upper b) refl
  where
    by : (c : Bool) → upper_at_most s.upper b ≡ c → G (elim c [ true ↦ tight s false | false ↦ tight (with_upper s (Some b)) true ])
    by true e = none ((λ f. contrary (sym f)), λ f. e)
    by false e = lowered refl e

-- Another row's lower is taken, or not; then its upper.
module _ (source : State) (n k : ℕ) (G : Tightened → Type 0) where
  pub lower_cases : (s : State) → let test = leb n k && lt_z s.lower source.lower in
      (test ≡ true → G (tight (with_lower s source.lower) true)) → (test ≡ false → G (tight s false)) → G (moved_lower source s n k)
  lower_cases s taken not_taken = by (leb n k && lt_z s.lower source.lower) refl
    where
      by : (c : Bool) → (leb n k && lt_z s.lower source.lower) ≡ c → G (cond c (tight (with_lower s source.lower) true) (tight s false))
      by true e = taken e
      by false e = not_taken e

  pub upper_cases : (t : Tightened) → let test = leb k n && under source.upper t.state.upper in
      (test ≡ true → G (tight (with_upper t.state source.upper) true)) → (test ≡ false → G t) → G (moved_upper source t n k)
  upper_cases t taken not_taken = by (leb k n && under source.upper t.state.upper) refl
    where
      by : (c : Bool) → (leb k n && under source.upper t.state.upper) ≡ c → G (cond c (tight (with_upper t.state source.upper) true) t)
      by true e = taken e
      by false e = not_taken e
