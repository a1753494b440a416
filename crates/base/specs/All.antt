-- Every element of a list has a property.
use Rattle.std.specs.Prelude.{List, [], ◌∷◌}

-- What holds of each element of a list.
abbrev pub All : {X : Type 0} → (X → Type 0) → List X → Type 0
All P [] = Unit {0}
All P (x ∷ xs) = P x × All P xs
