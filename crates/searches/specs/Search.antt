-- The sum search of possible_sums.rs on values: when it is planned, every visit, and what it answers.
use Rattle.std.specs.Prelude.{ℕ, zero, suc, ◌+◌, ◌-◌, ◌*◌, ◌/◌, ◌≤◌, min, Bool, true, false, cond, ◌&&◌, List, [], ◌∷◌, reverse, length, replicate, set, leb, ltb, ◌-ℤ◌, pos, Option, Some, None}
use Rattle.std.specs.Int.Signed.{lt_z}
use Rattle.numeric.specs.Threshold.{Term}
use Rattle.searches.specs.declared.Window.{Window}
use Rattle.searches.specs.declared.Search.{Search}
use Rattle.searches.specs.declared.Search.TheVariants.{Skipped, Fits, Nothing, Cut}
use Rattle.state.specs.declared.Step.{Step}
use Rattle.state.specs.declared.Step.TheVariants.{Unchanged, Contradiction}
use Rattle.state.specs.declared.State.{State}
use Rattle.state.specs.State.{natural, limit, has_residual_interval}
use Rattle.words.specs.declared.Ended.TheVariants.{Hit, Complete, Stopped}
use Rattle.words.specs.Shift.{union_shifted}
use Rattle.rows.specs.Rows.{has_nonunit}

-- The sums from lower - known to upper - known - 1, and 4 visits for each term.
abbrev pub window : List Term → State → Window
window ts s =
    let maximum = natural (limit s.upper -ℤ s.known -ℤ pos 1) in
    record { lower = natural (s.lower -ℤ s.known); maximum = maximum; words = maximum / 64 + 1; visits = 4 * length ts }

-- `Window::for_row`
unfoldable pub plan : List Term → State → Option Window
plan ts s =
    cond (has_nonunit ts && has_residual_interval s && lt_z s.known (limit s.upper) && leb ((window ts s).words + 5) (window ts s).visits) (Some (window ts s)) None

-- Document 01's answer, and the visits.
abbrev pub search_step : Search → Step
search_step Skipped = Unchanged
search_step (Fits n) = Unchanged
search_step (Nothing n) = Contradiction
search_step (Cut n) = Unchanged

-- The visits of the last search, where the first argument is that of the searches before.
abbrev pub search_visits : ℕ → Search → ℕ
search_visits before Skipped = before
search_visits before (Fits n) = n
search_visits before (Nothing n) = n
search_visits before (Cut n) = n

-- `d` tells which nodes are decided. Terms from the light end; `maximum` is the largest sum that a bit stands for, `left` the visits that are left.
unfoldable pub search_from : Window → (ℕ → Bool) → List Term → List ℕ → ℕ → ℕ → Search
search_from w d [] sums maximum left = Nothing (w.visits - left)
search_from w d (t ∷ ts) sums maximum zero = Cut w.visits
search_from w d (t ∷ ts) sums maximum (suc left) =
    elim (ltb w.maximum t.weight) [
      | true ↦ Nothing (w.visits - left)
      | false ↦
          elim (d t.condition) [
            | true ↦ search_from w d ts sums maximum left
            | false ↦
                let r = union_shifted sums (maximum / 64 + 1) t.weight w.lower w.maximum left in
                elim r.ended [
                  | Hit after ↦ Fits (w.visits - after)
                  | Complete after ↦ search_from w d ts r.words (min (maximum + t.weight) w.maximum) after
                  | Stopped ↦ Cut w.visits
                ]
          ]
    ]

-- One visit takes the words, one clears each, one sets sum 0.
unfoldable pub search : List Term → State → (ℕ → Bool) → Search
search ts s d =
    elim (plan ts s) [
      | None ↦ Skipped
      | Some w ↦ search_from w d (reverse ts) (set (replicate w.words 0) 0 1) 0 (w.visits - (w.words + 2))
    ]

-- WHAT IS RIGHT, apart from words and visits.

-- The sum of those undecided terms of a row that a choice takes.
unfoldable pub chosen : (decided choice : ℕ → Bool) → List Term → ℕ
chosen decided choice [] = 0
chosen decided choice (t ∷ ts) = cond (decided t.condition) 0 (cond (choice t.condition) t.weight 0) + chosen decided choice ts

-- A choice of undecided terms lands in the window of a search.
abbrev pub Lands : Window → (decided : ℕ → Bool) → List Term → (choice : ℕ → Bool) → Type 0
Lands w decided ts choice = (w.lower ≤ chosen decided choice ts) × (chosen decided choice ts ≤ w.maximum)
