-- A row as the seal builds it: guards by rising bounds, terms by falling weights.
use Rattle.std.specs.Prelude.{◌≤◌, ◌<◌, ◌≡◌, true}
use mathlib.Core.List.{List, [], ◌∷◌, Memᴰ}
use Rattle.std.specs.Int.Signed.{le_z}
use Rattle.numeric.specs.Threshold.{Term}
use Rattle.rows.specs.Rows.{Guard, Row}
use Rattle.memory.specs.Limits.{max_nodes}

-- Every element has a property.
abbrev pub Each : {X : Type 0} → (X → Type 0) → List X → Type 0
Each P xs = (x : _) → Memᴰ x xs → P x

-- GUARDS by rising bounds
abbrev pub Rising : List Guard → Type 0
Rising [] = Unit {0}
Rising (g ∷ gs) = Each (λ (h : Guard). le_z g.bound h.bound ≡ true) gs × Rising gs

-- TERMS by falling weights
abbrev pub Falling : List Term → Type 0
Falling [] = Unit {0}
Falling (t ∷ ts) = Each (λ (u : Term). u.weight ≤ t.weight) ts × Falling ts

-- A row as the seal builds it: guards by rising bounds, terms by falling weights, every node below 4,096.
pub record Ordered (row : Row) : Type 0 where
  pub rising : Rising row.guards
  pub falling : Falling row.terms
  pub guards : Each (λ (g : Guard). g.node < max_nodes) row.guards
  pub terms : Each (λ (t : Term). t.condition < max_nodes) row.terms
