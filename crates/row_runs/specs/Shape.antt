-- What a row's slices of terms and of guards must be like.
use Rattle.std.specs.Prelude.{ℕ, ◌^◌, ◌≡◌, List, length, ℤ}
use Rattle.numeric.specs.Slices.{Below}

-- As many weights as conditions, which are nodes; weights fit a signed number.
pub record TermSlices (conditions weights : List ℕ) : Type 0 where
  pub same : length conditions ≡ length weights
  pub below : Below 4096 conditions
  pub light : Below (2 ^ 63) weights

-- As many bounds as nodes.
pub record GuardSlices (bounds : List ℤ) (names : List ℕ) : Type 0 where
  pub same : length bounds ≡ length names
  pub below : Below 4096 names
