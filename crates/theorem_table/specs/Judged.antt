-- What a single step is judged by: bounds that rules 1 and 6 alone give, a conflict ending nothing, and rules 2 to 5 on the figures of rows.
use Rattle.std.specs.Prelude.{ℕ, ◌≡◌, Bool, true, false, List, ◌⊎◌, ℤ, pos, ◌-ℤ◌, ◌≤ℤ◌, ◌<ℤ◌, Option, Some}
use Rattle.numeric.specs.Threshold.{Term}
use Rattle.state.specs.State.{max_z}
use Rattle.rows.specs.Rows.{Row, Guard, Other, alone, beside, MayDecide}
use Rattle.theorem_table.specs.Table.{Table, AtMost, Guards, HasTerm, known_of, possible_of, Step, sure-guard, never-guard, bound-reached, bound-out-of-reach, term-needed, term-too-heavy, longer-lower, shorter-upper}

-- The four figures of a row.
pub record RowFigures : Type 0 where
  pub known : ℤ
  pub possible : ℤ
  pub lower : ℤ
  pub upper : Option ℤ

-- A bound is reached by the figures of a row; the other measure of a guard's node is, if it has one.
abbrev pub ReachedBy : RowFigures → ℤ → Type 0
ReachedBy f b = b ≤ℤ max_z f.known f.lower

abbrev pub OtherReachedBy : (ℕ → RowFigures) → Other → Type 0
OtherReachedBy f alone = Unit {0}
OtherReachedBy f (beside q b) = ReachedBy (f q) b

module _ (rows : List Row) where
  -- A step of rule 1 or 6.
  abbrev pub MovesBound : {s t : Table} → Step rows s t → Bool
  MovesBound (sure-guard r g i e k) = true
  MovesBound (never-guard r g i e k) = true
  MovesBound (bound-reached r g i k e) = false
  MovesBound (bound-out-of-reach r g i k e) = false
  MovesBound (term-needed r x i d k) = false
  MovesBound (term-too-heavy r x u i d e k) = false
  MovesBound (longer-lower r q i k) = true
  MovesBound (shorter-upper r q i k) = true

  -- None is left.
  abbrev pub Calm : Table → Type 0
  Calm u = (t : Table) (a : Step rows u t) → MovesBound a ≡ true → ⊥

  -- The figures of a table's rows.
  abbrev pub figures_of : Table → ℕ → RowFigures
  figures_of t r = record { known = known_of rows t r; possible = possible_of rows t r; lower = t.lower r; upper = t.upper r }

  -- By the figures of all rows, row r gives a node a value by one of the rules 2 to 5.
  pub data By (f : ℕ → RowFigures) (r : ℕ) : ℕ → Bool → ℕ → Type 0 where
    by_2 : (g : Guard) → Guards rows r g → MayDecide g → ReachedBy (f r) g.bound → OtherReachedBy f g.other → By f r g.node true 2
    by-3 : (g : Guard) → Guards rows r g → MayDecide g → ((f r).possible <ℤ g.bound) ⊎ AtMost (f r).upper g.bound → By f r g.node false 3
    by_4 : (x : Term) → HasTerm rows r x → ((f r).possible -ℤ (f r).lower) <ℤ pos x.weight → By f r x.condition true 4
    by-5 : (x : Term) (u : ℤ) → HasTerm rows r x → (f r).upper ≡ Some u → (u -ℤ (f r).known) ≤ℤ pos x.weight → By f r x.condition false 5
