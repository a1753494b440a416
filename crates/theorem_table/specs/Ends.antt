-- What makes the runs of a table end: its sure nodes lie below some number or are nodes of the rows, and a lower or an upper is
-- 0, none or the bound of some guard. Every step keeps that, and there are only so many steps.
use Rattle.std.specs.Prelude.{ℕ, ◌+◌, ◌*◌, ◌<◌, ◌≡◌, true, ◌⊎◌, length, ℤ, pos, Option, None, Some}
use mathlib.Core.List.{List, ◌∷◌, ◌++◌, map, flat_map, Memᴰ}
use Rattle.numeric.specs.Threshold.{Term}
use Rattle.rows.specs.Rows.{Row, Guard}
use Rattle.theorem_table.specs.Table.{Table}

-- The nodes of a row's guards and terms; a step decides no others.
unfoldable pub nodes_in : Row → List ℕ
nodes_in r = map (λ (g : Guard). g.node) r.guards ++ map (λ (t : Term). t.condition) r.terms

unfoldable pub nodes_of : List Row → List ℕ
nodes_of rows = flat_map nodes_in rows

-- 0 and the bounds of all guards.
unfoldable pub bounds_in : Row → List ℤ
bounds_in r = map (λ (g : Guard). g.bound) r.guards

unfoldable pub levels : List Row → List ℤ
levels rows = pos 0 ∷ flat_map bounds_in rows

-- There is no upper, or it is one of the numbers.
abbrev pub UpperIn : List ℤ → Option ℤ → Type 0
UpperIn vs None = Unit {0}
UpperIn vs (Some u) = Memᴰ u vs

pub record Finite (rows : List Row) (n : ℕ) (s : Table) : Type 0 where
  pub sure : (m : ℕ) → s.sure m ≡ true → (m < n) ⊎ Memᴰ m (nodes_of rows)
  pub lower : (r : ℕ) → Memᴰ (s.lower r) (levels rows)
  pub upper : (r : ℕ) → UpperIn (levels rows) (s.upper r)

-- The number of steps that no run exceeds: each node is decided at most once each way, and each row's lower and upper pass
-- each level at most once.
unfoldable pub most : List Row → ℕ
most rows = length (nodes_of rows) + length (nodes_of rows) + length rows * (length (levels rows) + length (levels rows))
