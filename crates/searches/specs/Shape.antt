-- What a search asks of its plan and of the words that it is lent.
use Rattle.std.specs.Prelude.{ℕ, ◌+◌, ◌/◌, ◌≤◌, ◌≡◌, List, get_or}
use Rattle.searches.specs.declared.Window.{Window}

-- Every word is zero.
abbrev pub Zeros : List ℕ → Type 0
Zeros l = (i : ℕ) → get_or l i 0 ≡ 0

-- A window as a plan has it: words for every sum up to the largest, and visits enough to clear them.
pub record Prepared (w : Window) : Type 0 where
  pub words : w.words ≡ w.maximum / 64 + 1
  pub enough : w.words + 5 ≤ w.visits
  pub visits : w.visits ≤ 4096
