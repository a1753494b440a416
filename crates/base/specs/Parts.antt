-- Lists that lie one behind the other in one buffer, by where each ends, in column j of a table.
use Rattle.std.specs.Prelude.{ℕ, zero, suc, ◌-◌, ◌<◌, ◌≤◌, List, [], length, get_or, take, drop}

-- Where list n ends; it begins where the one before ends.
abbrev pub end_by : ℕ → List (List ℕ) → ℕ → ℕ
end_by j table n = get_or (get_or table n []) j 0

unfoldable pub start_by : ℕ → List (List ℕ) → ℕ → ℕ
start_by j table zero = 0
start_by j table (suc n) = end_by j table n

-- The places from a to e of a buffer, and those of list n.
abbrev pub stretch : {X : Type 0} → ℕ → ℕ → List X → List X
stretch a e l = take (e - a) (drop a l)

abbrev pub stretch_by : {X : Type 0} → ℕ → List (List ℕ) → ℕ → List X → List X
stretch_by j table n l = stretch (start_by j table n) (end_by j table n) l

-- Each list ends behind its beginning, and inside so many places.
pub record Inside (j : ℕ) (table : List (List ℕ)) (many : ℕ) : Type 0 where
  pub rising : (n : ℕ) → n < length table → start_by j table n ≤ end_by j table n
  pub ends : (n : ℕ) → n < length table → end_by j table n ≤ many
