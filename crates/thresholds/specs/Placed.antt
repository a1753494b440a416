-- What the buffers hold of the rows as they grow: their terms, and a mark for each.
use Rattle.std.specs.Prelude.{ℕ, ◌-◌, ◌≡◌, List, ◌++◌, map, length, take, drop, replicate}
use Rattle.base.specs.Laid.{join_all}
use Rattle.row.specs.Keys.{laid, conditions_of, weights_of}
use Rattle.memory.specs.Buffers.{RawLists}
use Rattle.job.specs.Shared.{raws_to, terms_to}
use Rattle.thresholds.specs.Tree.{marked_list, Marked, Treed}

-- A list with another in the place of m of its elements, from a on.
abbrev pub spliced : {X : Type 0} → ℕ → ℕ → List X → List X → List X
spliced a m l x = take a l ++ (x ++ drop m (drop a l))

-- The terms of the rows in their two arrays.
pub record Terms (r : RawLists) (t : ℕ) (cs ws : List ℕ) : Type 0 where
  pub conditions : cs ≡ laid (length cs) (conditions_of (join_all (terms_to r t)))
  pub weights : ws ≡ laid (length ws) (weights_of (join_all (terms_to r t)))

-- The marks of the rows, behind which the scratch is zero, and the first row of each class.
pub record Marks (r : RawLists) (t rows : ℕ) (scratch heads : List ℕ) : Type 0 where
  pub many : rows ≡ length (raws_to r t)
  pub marked : Marked r (length r.thresholds) (take rows scratch)
  pub named : map (marked_list r) (take rows scratch) ≡ raws_to r t
  pub clear : drop rows scratch ≡ replicate (length scratch - rows) 0
  pub treed : Treed r (take rows scratch) heads
