-- The table of small gcds, as a list of groups of rows, and the test of all its entries.
use Rattle.std.specs.Prelude.{ℕ, zero, suc, ◌/◌, ◌%◌, List, [], Bool, true, ◌&&◌, eqb, get_or}
use Rattle.divisors.specs.Gcd.{gcd}

-- The entry in the row of the left number and the column of the right one; eight rows are a group.
abbrev pub entry : List (List (List ℕ)) → ℕ → ℕ → ℕ
entry groups left right = get_or (get_or (get_or groups (left / 8) []) (left % 8) []) right 0

-- A test that every number below the one given passes.
unfoldable pub all_below : ℕ → (ℕ → Bool) → Bool
all_below zero test = true
all_below (suc n) test = test n && all_below n test

-- Every entry is the gcd of its row and its column.
unfoldable pub all_right : List (List (List ℕ)) → Bool
all_right groups = all_below 64 (λ left. all_below 64 (λ right. eqb (entry groups left right) (gcd left right)))
