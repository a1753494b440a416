-- The raw lists of a job as the lent buffers hold them: all terms one after the other, and for each threshold its node and where its terms end.
use Rattle.std.specs.Prelude.{ℕ, ◌+◌, ◌<◌, ◌≤◌, ◌≡◌, List, [], length, get_or}
use Rattle.base.specs.Parts.{end_by, start_by, stretch}
use Rattle.memory.specs.Limits.{max_thresholds, list_terms}
use Rattle.memory.specs.Ranges.{raw_limit}
use Rattle.memory.specs.Buffers.{RawLists}
use Rattle.numeric.specs.Threshold.{Term}
use Rattle.numeric.specs.Slices.{terms}

-- The raw list of threshold t.
unfoldable pub list_at : RawLists → ℕ → List Term
list_at r t =
    terms (stretch (start_by 1 r.thresholds t) (end_by 1 r.thresholds t) r.raw-conditions)
    (stretch (start_by 1 r.thresholds t) (end_by 1 r.thresholds t) r.raw-weights)

-- The lists of so many thresholds stand one behind the other inside the two slices, none longer than list_terms, every weight below raw_limit.
pub record Lists (r : RawLists) (count : ℕ) : Type 0 where
  pub many : count ≤ max_thresholds
  pub held : count ≤ length r.thresholds
  pub wide : (t : ℕ) → t < count → length (get_or r.thresholds t []) ≡ 2
  pub rising : (t : ℕ) → t < count → start_by 1 r.thresholds t ≤ end_by 1 r.thresholds t
  pub short : (t : ℕ) → t < count → end_by 1 r.thresholds t ≤ start_by 1 r.thresholds t + list_terms
  pub inside : (t : ℕ) → t < count → end_by 1 r.thresholds t ≤ length r.raw-conditions
  pub weighed : length r.raw-weights ≡ length r.raw-conditions
  pub light : (i : ℕ) → get_or r.raw-weights i 0 < raw_limit
