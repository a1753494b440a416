-- Rows placed threshold by threshold: how far they have come after so many, and what one more changes.
use Rattle.std.specs.Prelude.{ℕ, ◌+◌, ◌<◌, ◌≤◌, ◌≡◌, cond, List, map, length, get_or, set, replicate, ltb}
use Rattle.base.specs.Laid.{join_all, ends}
use Rattle.memory.specs.Buffers.{RawLists}
use Rattle.rows.specs.Lists.{Lists}
use Rattle.rows.specs.Guards.{node_at}
use Rattle.thresholds.specs.Placed.{Terms, Marks}
use Rattle.job.specs.Shared.{raws_to, row_to, terms_to, row_entry, node_entry}
use Rattle.placing.specs.declared.Extent.{Extent}

-- After t thresholds: where the terms end, the terms in their two arrays, the marks in the scratch and the first row of each class.
pub record Placing (r : RawLists) (t : ℕ) (so : Extent) (cs ws scratch heads : List ℕ) : Type 0 where
  pub end : so.end ≡ length (join_all (terms_to r t))
  pub terms : Terms r t cs ws
  pub marks : Marks r t so.rows scratch heads

-- The raw lists are as they must be, and the buffers have room for their rows.
pub record Ready (r : RawLists) (cs ws : List ℕ) (rows : List (List ℕ)) (scratch : List ℕ) : Type 0 where
  pub lists : Lists r (length r.thresholds)
  pub below : (i : ℕ) → get_or r.raw-conditions i 0 < 4096
  pub few : length r.raw-conditions < 65536
  pub room : length r.raw-conditions ≤ length cs
  pub even : length ws ≡ length cs
  pub many : length r.thresholds ≤ length rows
  pub words : 2048 ≤ length scratch

abbrev pub Blank : List ℕ → Type 0
Blank l = l ≡ replicate (length l) 0

-- The rows, each with the end of its terms.
abbrev pub row_ends : RawLists → ℕ → List (List ℕ)
row_ends r t = map row_entry (ends 0 (terms_to r t))

-- One threshold more: its row's end is entered if the row is new; its node is entered.
unfoldable pub rows_next : RawLists → ℕ → List (List ℕ) → List (List ℕ)
rows_next r t rows =
    cond (ltb (row_to r t) (length (raws_to r t))) rows (set rows (length (raws_to r t)) (row_entry (length (join_all (terms_to r (t + 1))))))

abbrev pub nodes_next : RawLists → ℕ → List (List ℕ) → List (List ℕ)
nodes_next r t nodes = set nodes (node_at r.thresholds t) (node_entry t (row_to r t))
