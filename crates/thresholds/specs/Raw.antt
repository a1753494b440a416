-- The fingerprints by which raw lists are told apart.
use Rattle.std.specs.Prelude.{ℕ, ◌+◌, ◌*◌, ◌^◌, ◌%◌, List, [], ◌∷◌, length}
use Rattle.numeric.specs.Threshold.{Term}

-- A number made of a raw list: lists with different numbers differ. There are so many.
abbrev pub prints : ℕ
prints = 2 ^ 32

unfoldable pub mixed : ℕ → List Term → ℕ
mixed h [] = h
mixed h (t ∷ ts) = mixed ((h * 65599 + t.condition * 257 + t.weight) % prints) ts

unfoldable pub fingerprint : List Term → ℕ
fingerprint ts = mixed (length ts) ts
