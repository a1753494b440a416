-- What moves between rows: a drained guard, a drained condition, bounds over prefix links. propagate.rs and
-- `threshold_prefixes` on values.
use Rattle.std.specs.Prelude.{ℕ, ◌+◌, Bool, true, false, cond, List, [], ◌∷◌, length, get_or, set, eqb}
use Rattle.numeric.specs.Threshold.{Threshold}
use Rattle.state.specs.declared.Step.{Step}
use Rattle.state.specs.declared.Step.TheVariants.{Unchanged, Changed, Contradiction}
use Rattle.state.specs.declared.State.{State}
use Rattle.state.specs.Step.{joined, contradicts}
use Rattle.state.specs.State.{no_state, drained}
use Rattle.words.specs.Mask.{bit}
use Rattle.queues.specs.Queue.{Rows, queue_row}
use Rattle.queues.specs.Marks.{Marks}
use Rattle.rows.specs.Rows.{Row, no_row, Edge, edges_of, row_number, state_of_row}
use Rattle.links.specs.Links.{Link, neighbours}
use Rattle.row_runs.specs.Row.{threshold_row, wants_residual}
use Rattle.tightening.specs.Told.{guard_state, moved_state}

-- What the seal built and nothing changes after: thresholds, rows, prefix links.
pub record Index : Type 0 where
  pub thresholds : List Threshold
  pub rows : List Row
  pub links : List Link

-- What draining changes: row states, marks, rows that wait to hand on their bounds, rows that wait for a residual.
pub record Live : Type 0 where
  pub states : List State
  pub marks : Marks
  pub dirty : Rows
  pub residuals : Rows

abbrev pub live : List State → Marks → Rows → Rows → Live
live s m d r = record { states = s; marks = m; dirty = d; residuals = r }

-- One part put anew. What changes a live state is made of these, so that no other definition lists its parts.
abbrev pub with_states : Live → List State → Live
with_states v s = live s v.marks v.dirty v.residuals

abbrev pub with_marks : Live → Marks → Live
with_marks v m = live v.states m v.dirty v.residuals

abbrev pub with_dirty_rows : Live → Rows → Live
with_dirty_rows v d = live v.states v.marks d v.residuals

abbrev pub with_residuals : Live → Rows → Live
with_residuals v r = live v.states v.marks v.dirty r

abbrev pub state_at : Live → ℕ → State
state_at v r = get_or v.states r no_state

abbrev pub with_state : Live → ℕ → State → Live
with_state v r s = with_states v (set v.states r s)

abbrev pub with_dirty : Live → ℕ → Live
with_dirty v r = with_dirty_rows v (queue_row v.dirty r)

pub record Did : Type 0 where
  pub live : Live
  pub step : Step

abbrev pub did : Live → Step → Did
did v k = record { live = v; step = k }

-- A row that wants a residual waits for it.
abbrev pub residual_queued : Row → State → Rows → ℕ → Rows
residual_queued row s q r = cond (wants_residual row s) (queue_row q r) q

-- A row run once, and stored: the row with number r is this one.
unfoldable pub run_with : Row → Live → ℕ → Did
run_with row v r =
    let a = threshold_row row (state_at v r) v.marks in
    did (with_residuals (with_marks (with_state v r a.state) a.marks) (residual_queued row (state_at v r) v.residuals r)) a.step

unfoldable pub run_row : Index → Live → ℕ → Did
run_row x v r = run_with (get_or x.rows r no_row) v r

-- A row with so many links waits to hand its bounds on, if there are any.
abbrev pub linked_queued : ℕ → Rows → ℕ → Rows
linked_queued n q r = cond (eqb n 0) q (queue_row q r)

-- Row r, with so many links, moved to state s.
abbrev pub with_bound : Live → ℕ → State → ℕ → Live
with_bound v r s n = with_dirty_rows (with_state v r s) (linked_queued n v.dirty r)

-- The row that holds a moved bound runs, and waits to hand the bound on if it has links.
unfoldable pub bounded : Index → Live → ℕ → State → Did
bounded x v r s = run_row x (with_bound v r s (length (neighbours r x.links))) r

-- `threshold_guard`: a drained guard tells its row its bound.
unfoldable pub threshold_guard : Index → Live → Threshold → Did
threshold_guard x v t =
    let r = row_number x.rows t.terms in
    let g = guard_state (state_at v r) (bit v.marks.sure t.node) t.bound in
    elim g.changed [ true ↦ bounded x v r g.state | false ↦ did v Unchanged ]

-- The guard of a node that is a threshold; nothing for any other.
unfoldable pub guard_of : Index → Live → List Threshold → ℕ → Did
guard_of x v [] n = did v Unchanged
guard_of x v (t ∷ ts) n = elim (eqb t.node n) [ true ↦ threshold_guard x v t | false ↦ guard_of x v ts n ]

-- `threshold_condition`: the rows in which the node stands, in order.
unfoldable pub condition_from : Index → Bool → List Edge → Live → Did
condition_from x value [] v = did v Unchanged
condition_from x value (e ∷ es) v =
    let d = run_row x (with_state v e.row (drained value e.weight (state_at v e.row))) e.row in
    elim (contradicts d.step) [
      | true ↦ did d.live Contradiction
      | false ↦
          let more = condition_from x value es d.live in
          did more.live (joined d.step more.step)
    ]

unfoldable pub threshold_condition : Index → Live → ℕ → Did
threshold_condition x v node = condition_from x (bit v.marks.sure node) (edges_of x.rows node) v

-- How many terms a row has.
abbrev pub term_count : Index → ℕ → ℕ
term_count x r = length (get_or x.rows r no_row).terms

unfoldable pub prefixes_from : Index → ℕ → State → List ℕ → Live → Did
prefixes_from x row source [] v = did v Unchanged
prefixes_from x row source (r ∷ rs) v =
    let t = moved_state source (state_at v r) (term_count x row) (term_count x r) in
    elim t.changed [
      | false ↦ prefixes_from x row source rs v
      | true ↦
          let d = run_row x (with_dirty (with_state v r t.state) r) r in
          elim (contradicts d.step) [
            | true ↦ did d.live Contradiction
            | false ↦
                let more = prefixes_from x row source rs d.live in
                did more.live (joined Changed more.step)
          ]
    ]

-- `threshold_prefixes`: the row hands its bounds on to its neighbours, in order.
unfoldable pub threshold_prefixes : Index → Live → ℕ → Did
threshold_prefixes x v row = prefixes_from x row (state_at v row) (neighbours row x.links) v

-- The first state of each row, from row r on.
unfoldable pub first_states : ℕ → List Row → List State → List State
first_states r [] ss = ss
first_states r (x ∷ xs) ss = first_states (r + 1) xs (set ss r (state_of_row x))

-- `seed_thresholds`: each row is run once, in order, up to the first contradiction.
unfoldable pub seed_from : Index → ℕ → List Row → Live → Step → Did
seed_from x r [] v k = did v k
seed_from x r (_ ∷ rs) v k =
    elim (contradicts (run_row x v r).step)
    [ true ↦ did (run_row x v r).live Contradiction | false ↦ seed_from x (r + 1) rs (run_row x v r).live (joined k (run_row x v r).step) ]
