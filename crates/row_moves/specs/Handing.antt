-- Single steps of what moves between rows, and where in a walk one is made.
use Rattle.std.specs.Prelude.{ℕ, ◌≡◌, Bool, false, cond, List, ◌∷◌, length, get_or}
use Rattle.numeric.specs.Threshold.{Threshold}
use Rattle.state.specs.declared.Step.{Step}
use Rattle.state.specs.declared.Step.TheVariants.{Unchanged, Changed, Contradiction}
use Rattle.state.specs.declared.State.{State}
use Rattle.state.specs.Step.{joined, contradicts}
use Rattle.state.specs.State.{drained}
use Rattle.words.specs.Mask.{bit}
use Rattle.rows.specs.Rows.{Row, no_row, Edge, row_number}
use Rattle.links.specs.Links.{neighbours}
use Rattle.tightening.specs.Told.{Tightened, guard_state, moved_state}
use Rattle.row_moves.specs.Between.{Index, Live, state_at, with_state, with_dirty, with_bound, Did, did, run_with, run_row, term_count}

-- ---- as the code takes them

-- What was answered before, joined with what follows.
abbrev pub after : Step → Did → Did
after k d = did d.live (joined k d.step)

-- A row that was told something new has changed, whatever its run answers, unless that is a contradiction.
abbrev pub told_step : Step → Step
told_step k = cond (contradicts k) Contradiction Changed

abbrev pub after-told : Did → Did
after-told d = did d.live (told_step d.step)

-- One neighbour: a new bound is stored, the row waits to hand it on, and is run.
unfoldable pub handed_on : Row → Live → ℕ → Tightened → Did
handed_on row v r t =
    let d = run_with row (with_dirty (with_state v r t.state) r) r in
    cond t.changed (did d.live (told_step d.step)) (did v Unchanged)

-- ---- of a whole job

-- An edge is drained, and its row run.
abbrev pub edge_run : Index → Bool → Edge → Live → Did
edge_run x value e v = run_row x (with_state v e.row (drained value e.weight (state_at v e.row))) e.row

-- What a neighbour takes of the source; with it, it waits to hand it on, and is run.
abbrev pub moved : Index → ℕ → State → ℕ → Live → Tightened
moved x row source r v = moved_state source (state_at v r) (term_count x row) (term_count x r)

abbrev pub moved_run : Index → ℕ → State → ℕ → Live → Did
moved_run x row source r v = run_row x (with_dirty (with_state v r (moved x row source r v).state) r) r

-- One neighbour, whether it takes anything or not.
abbrev pub hand_run : Index → ℕ → State → ℕ → Live → Did
hand_run x row source r v = handed_on (get_or x.rows r no_row) v r (moved x row source r v)

-- The row of a guard, what the row takes of it, and its run with that.
abbrev pub guard_row : Index → Threshold → ℕ
guard_row x t = row_number x.rows t.terms

module _ (x : Index) (v : Live) (t : Threshold) where
  abbrev pub guard_told : Tightened
  guard_told = guard_state (state_at v (guard_row x t)) (bit v.marks.sure t.node) t.bound

  abbrev pub guard_run : Did
  guard_run = run_row x (with_bound v (guard_row x t) guard_told.state (length (neighbours (guard_row x t) x.links))) (guard_row x t)

-- ---- where

-- In a walk over a list, from v, the move of b is made at u.
pub data Among {A : Type 0} (move : A → Live → Did) : List A → Live → A → Live → Type 0 where
  here : {a : A} {as' : List A} {v : Live} → Among move (a ∷ as') v a v
  later : {a b : A} {as' : List A} {v u : Live} → contradicts (move a v).step ≡ false → Among move as' (move a v).live b u → Among move (a ∷ as') v b u
