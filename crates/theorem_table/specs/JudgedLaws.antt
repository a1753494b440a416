-- Where neither rule 1 nor rule 6 has a step left, each row has the bounds that they ask for; and what one of the rules 2 to 5 concludes
-- from weaker figures it concludes from tighter ones.
use Rattle.std.specs.Prelude.{ℕ, ◌≡◌, refl, Bool, true, List, ◌⊎◌, ℤ, pos, ◌-ℤ◌, ◌≤ℤ◌, ◌<ℤ◌, Option, None, Some}
use Rattle.std.proofs.Common.{subst, inl, inr, ⊎_elim}
use Rattle.std.specs.Int.Signed.{≤ℤ_refl}
use Rattle.numeric.specs.Threshold.{Term}
use Rattle.rows.specs.Rows.{Row, Guard, Other, alone, beside}
use Rattle.theorem_table.specs.Table.{Table, AtMost, Below, raise_lower, lower_upper, Guards, FallsShort, IsPrefix, sure-guard, never-guard, longer-lower, shorter-upper, AtRest}
use Rattle.theorem_table.specs.OrderLaws.{≤ℤ_trans, ≤ℤ_<ℤ_trans, ≤ℤ_or_<ℤ, max_up, sub_up, UpLe, le-or-below, at-most_up}
use Rattle.theorem_table.specs.Judged.{RowFigures, ReachedBy, OtherReachedBy, Calm, By, by_2, by-3, by_4, by-5}

pub rest_calm : (rows : List Row) (u : Table) → AtRest rows u → Calm rows u
rest_calm rows u rest t a e = rest.1 t a

module _ (rows : List Row) (u : Table) (calm : Calm rows u) where
  -- a lower at least as high, an upper at most as high: else a step is left
  pub calm_sure : (r : ℕ) (g : Guard) → Guards rows r g → u.sure g.node ≡ true → g.bound ≤ℤ u.lower r
  calm_sure r g i e =
      ⊎_elim (λ (k : g.bound ≤ℤ u.lower r). k) (λ (k : u.lower r <ℤ g.bound). absurd (calm (raise_lower u r g.bound) (sure-guard r g i e k) refl)) (≤ℤ_or_<ℤ g.bound (u.lower r))

  pub calm_never : (r : ℕ) (g : Guard) → Guards rows r g → FallsShort rows u g → UpLe (u.upper r) (Some g.bound)
  calm_never r g i e =
      ⊎_elim (λ (k : UpLe (u.upper r) (Some g.bound)). k) (λ (k : Below (Some g.bound) (u.upper r)). absurd (calm (lower_upper u r (Some g.bound)) (never-guard r g i e k) refl))
      (le-or-below (u.upper r) (Some g.bound))

  pub calm_longer : (r q : ℕ) → IsPrefix rows r q → u.lower r ≤ℤ u.lower q
  calm_longer r q i =
      ⊎_elim (λ (k : u.lower r ≤ℤ u.lower q). k) (λ (k : u.lower q <ℤ u.lower r). absurd (calm (raise_lower u q (u.lower r)) (longer-lower r q i k) refl)) (≤ℤ_or_<ℤ (u.lower r) (u.lower q))

  pub calm_shorter : (r q : ℕ) → IsPrefix rows r q → UpLe (u.upper r) (u.upper q)
  calm_shorter r q i =
      ⊎_elim (λ (k : UpLe (u.upper r) (u.upper q)). k) (λ (k : Below (u.upper q) (u.upper r)). absurd (calm (lower_upper u r (u.upper q)) (shorter-upper r q i k) refl))
      (le-or-below (u.upper r) (u.upper q))

-- The second figures are at least as tight.
pub record Tighter (a b : RowFigures) : Type 0 where
  pub known : a.known ≤ℤ b.known
  pub possible : b.possible ≤ℤ a.possible
  pub lower : a.lower ≤ℤ b.lower
  pub upper : UpLe b.upper a.upper

reached_tighter : (a b : RowFigures) (z : ℤ) → Tighter a b → ReachedBy a z → ReachedBy b z
reached_tighter a b z t k = ≤ℤ_trans k (max_up {a = a.known} {b = a.lower} {c = b.known} {d = b.lower} t.known t.lower)

module _ (a b : ℕ → RowFigures) (t : (r : ℕ) → Tighter (a r) (b r)) where
  other-tighter : (o : Other) → OtherReachedBy a o → OtherReachedBy b o
  other-tighter alone k = tt
  other-tighter (beside q z) k = reached_tighter (a q) (b q) z (t q) k

  heavier : (r : ℕ) (x : Term) (u : ℤ) → (u -ℤ (a r).known) ≤ℤ pos x.weight → (c : Option ℤ) → (b r).upper ≡ c → UpLe c (Some u)
      → (v : ℤ) × ((b r).upper ≡ Some v) × ((v -ℤ (b r).known) ≤ℤ pos x.weight)
  heavier r x u k None q l = absurd l
  heavier r x u k (Some v) q l = (v, q, ≤ℤ_trans (sub_up l (t r).known) k)

  -- WHAT FOLLOWS FROM WEAKER FIGURES FOLLOWS FROM TIGHTER ONES, by the same rule
  pub by_tighter : (rows : List Row) (r n : ℕ) (value : Bool) (rule : ℕ) → By rows a r n value rule → By rows b r n value rule
  by_tighter rows r n value rule (by_2 g i p k o) = by_2 g i p (reached_tighter (a r) (b r) g.bound (t r) k) (other-tighter g.other o)
  by_tighter rows r n value rule (by-3 g i p k) =
      by-3 g i p (⊎_elim (λ (x : (a r).possible <ℤ g.bound). inl (≤ℤ_<ℤ_trans (t r).possible x))
      (λ (x : AtMost (a r).upper g.bound). inr (at-most_up (b r).upper (a r).upper (t r).upper (≤ℤ_refl g.bound) x)) k)
  by_tighter rows r n value rule (by_4 x i k) = by_4 x i (≤ℤ_<ℤ_trans (sub_up (t r).possible (t r).lower) k)
  by_tighter rows r n value rule (by-5 x u i e k) =
      let h = heavier r x u k (b r).upper refl (subst (UpLe (b r).upper) e (t r).upper) in by-5 x h.0 i h.1 h.2
