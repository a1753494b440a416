-- Rows shared by thresholds with one raw list: the place of a list among others, and the rows as they grow threshold by threshold.
use Rattle.std.specs.Prelude.{ℕ, zero, suc, ◌+◌, ◌<◌, true, false, cond, List, [], ◌∷◌, ◌++◌, map, length, set, ltb}
use Rattle.numeric.specs.Threshold.{Term}
use Rattle.row.specs.Terms.{row_terms, same_terms}
use Rattle.memory.specs.Buffers.{RawLists}
use Rattle.rows.specs.Lists.{list_at}
use Rattle.rows.specs.Guards.{node_at}

-- The place of a raw list among others, their number if it is not there.
unfoldable pub number_in : List (List Term) → List Term → ℕ
number_in [] x = 0
number_in (l ∷ ls) x = elim (same_terms l x) [ true ↦ 0 | false ↦ 1 + number_in ls x ]

-- A raw list that is not there yet comes last.
abbrev pub joined : List (List Term) → List Term → List (List Term)
joined ls x = cond (ltb (number_in ls x) (length ls)) ls (ls ++ (x ∷ []))

unfoldable pub raws_to : RawLists → ℕ → List (List Term)
raws_to r zero = []
raws_to r (suc t) = joined (raws_to r t) (list_at r t)

-- The row of threshold t.
abbrev pub row_to : RawLists → ℕ → ℕ
row_to r t = number_in (raws_to r t) (list_at r t)

-- The terms of the rows.
abbrev pub terms_to : RawLists → ℕ → List (List Term)
terms_to r t = map (λ (l : List Term). row_terms l) (raws_to r t)

-- A row with the end of its terms.
abbrev pub row_entry : ℕ → List ℕ
row_entry e = e ∷ 0 ∷ 0 ∷ []

abbrev pub node_entry : ℕ → ℕ → List ℕ
node_entry t row = (t + 1) ∷ row ∷ 0 ∷ []

-- The nodes after t thresholds.
unfoldable pub nodes_to : RawLists → List (List ℕ) → ℕ → List (List ℕ)
nodes_to r nodes zero = nodes
nodes_to r nodes (suc t) = set (nodes_to r nodes t) (node_at r.thresholds t) (node_entry t (row_to r t))

-- Nodes of thresholds rise.
abbrev pub NodesRise : List (List ℕ) → Type 0
NodesRise ths = (t : ℕ) → t + 1 < length ths → node_at ths t < node_at ths (t + 1)
