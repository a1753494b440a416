-- Guards that stand in two parallel slices, of bounds and of nodes.
use Rattle.std.specs.Prelude.{ℕ, ◌<◌, List, [], ◌∷◌, ℤ, pos}
use Rattle.numeric.specs.Threshold.{Term}
use Rattle.rows.specs.Rows.{Guard, guard}

unfoldable pub guards : List ℤ → List ℕ → List Guard
guards [] ns = []
guards (b ∷ bs) [] = []
guards (b ∷ bs) (n ∷ ns) = guard b n ∷ guards bs ns

abbrev pub no_guard : Guard
no_guard = guard (pos 0) 0

abbrev pub Node : Guard → Type 0
Node g = g.node < 4096

abbrev pub Condition : Term → Type 0
Condition t = t.condition < 4096
