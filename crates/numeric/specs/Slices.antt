-- What the slices of a row and the two masks of nodes must be like: as many weights as conditions, every condition inside both masks.
use Rattle.std.specs.Prelude.{ℕ, ◌<◌, ◌≤◌, ◌≡◌, List, [], ◌∷◌, length, get_or}
use Rattle.numeric.specs.Threshold.{Term, term}

-- Every number of the list is below n.
abbrev pub Below : ℕ → List ℕ → Type 0
Below n l = (i : ℕ) → i < length l → get_or l i 0 < n

pub record Shape (conditions weights sure never : List ℕ) : Type 0 where
  pub same : length conditions ≡ length weights
  pub below : Below 4096 conditions
  pub in_sure : 64 ≤ length sure
  pub in_never : 64 ≤ length never

-- Terms stand in two parallel slices, of conditions and of weights.
unfoldable pub terms : List ℕ → List ℕ → List Term
terms [] ws = []
terms (c ∷ cs) [] = []
terms (c ∷ cs) (w ∷ ws) = term c w ∷ terms cs ws
