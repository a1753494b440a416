-- `thresholds::same_list` meets its contract.
use Rattle.std.proofs.Common.{rules, List, Bool, ℕ, length, ◌≡◌, ◌∙◌, ◌&&◌}
use Rattle.std.specs.Prelude.{bytes_eq}
use Rattle.numeric.specs.Slices.{terms}
use Rattle.row.specs.Terms.{same_terms}
use Rattle.thresholds.specs.RawLaws.{same_slices}
use Rattle.thresholds.proofs.same_list.Goals as goal

by : (b : Bool) (l v r w : List ℕ) → length v ≡ length l → length w ≡ length r → b ≡ (bytes_eq l r && bytes_eq v w) → b ≡ same_terms (terms l v) (terms r w)
by b l v r w h k e = e ∙ same_slices l v r w h k

pub returns-then-conditions_agree : goal.returns-then-conditions_agree
returns-then-conditions_agree c = let g = c.args in by _ g.left.now g.left_weights.now g.right.now g.right_weights.now c.requires.0 c.requires.1 (search rules)

pub returns-else-conditions_agree : goal.returns-else-conditions_agree
returns-else-conditions_agree c = let g = c.args in by _ g.left.now g.left_weights.now g.right.now g.right_weights.now c.requires.0 c.requires.1 (search rules)
