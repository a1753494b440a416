-- What is right: a weighted row as the OPB format of the Pseudo-Boolean Competition means it, and the layouts of a job.
use Rattle.std.specs.Prelude.{ℕ, ◌≡◌, Bool, cond, ℤ, pos, ◌+ℤ◌}
use mathlib.Core.List.{List, [], ◌∷◌, map, Memᴰ}
use Rattle.std.specs.Int.Signed.{le_z}
use Rattle.numeric.specs.Threshold.{Term, Threshold, Job}

-- A layout gives every node true or false.
abbrev pub Layout : Type 0
Layout = ℕ → Bool

-- `+3 x1 -2 x4`: integer coefficients of variables that are 0 or 1.
pub record Weighted : Type 0 where
  pub coefficient : ℤ
  pub variable : ℕ

-- A constraint of OPB: a weighted sum `>=` an integer.
pub record Constraint : Type 0 where
  pub sum : List Weighted
  pub degree : ℤ

-- The value of a weighted sum: a variable that is true counts its coefficient, a false one nothing.
unfoldable pub value : Layout → List Weighted → ℤ
value v [] = pos 0
value v (x ∷ xs) = cond (v x.variable) x.coefficient (pos 0) +ℤ value v xs

abbrev pub satisfied : Layout → Constraint → Bool
satisfied v c = le_z c.degree (value v c.sum)

-- A threshold as a line of OPB: the weights of its true conditions reach its bound.
abbrev pub weighted : Term → Weighted
weighted t = record { coefficient = pos t.weight; variable = t.condition }

abbrev pub constraint : Threshold → Constraint
constraint t = record { sum = map weighted t.terms; degree = t.bound }

-- What a threshold asks of its node: true exactly if its sum reaches its bound.
abbrev pub asked : Layout → Threshold → Bool
asked v t = satisfied v (constraint t)

-- A layout of the job: each threshold's node has the value that is asked of it.
abbrev pub IsLayout : Job → Layout → Type 0
IsLayout j v = (t : Threshold) → Memᴰ t j.thresholds → v t.node ≡ asked v t
