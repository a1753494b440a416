-- Row states and the live state, as the buffers hold them.
use Rattle.std.specs.Prelude.{ℕ, ◌≤◌, ◌≡◌, cond, List, [], ◌∷◌, map, length, get_or, eqb, ℤ, pos, Option, None, Some}
use Rattle.state.specs.declared.State.{State}
use Rattle.state.specs.State.{state_of, figures_of, cursors_of}
use Rattle.state.specs.Shape.{Figures}
use Rattle.queues.specs.declared.Ring.{Ring}
use Rattle.queues.specs.declared.Rings.{Rings}
use Rattle.queues.specs.Queue.{queue}
use Rattle.queues.specs.Slot.{rows_in}
use Rattle.queues.specs.Marks.{marks}
use Rattle.row_moves.specs.Between.{Live, live}

abbrev pub upper_of : ℕ → ℤ → Option ℤ
upper_of flag z = cond (eqb flag 1) (Some z) None

unfoldable pub row_state : List ℤ → List ℕ → State
row_state f c =
    state_of (get_or f 0 (pos 0)) (get_or f 1 (pos 0)) (get_or f 2 (pos 0)) (upper_of (get_or c 4 0) (get_or f 3 (pos 0))) (get_or c 0 0) (get_or c 1 0) (get_or c 2 0) (get_or c 3 0)

-- A state that can be run: its figures' differences fit, and its cursor from above stands in the list.
pub record Runs (s : State) (bounds : List ℤ) : Type 0 where
  pub figures : Figures s
  pub inside : s.never_guard ≤ length bounds

-- All states that the buffers hold.
unfoldable pub states_of : List (List ℤ) → List (List ℕ) → List State
states_of [] cs = []
states_of (f ∷ fs) [] = []
states_of (f ∷ fs) (c ∷ cs) = row_state f c ∷ states_of fs cs

-- Every word of the two buffers is that of the state they hold. It is kept by what stores states, so that the states tell the words.
pub record Tidy (fs : List (List ℤ)) (cs : List (List ℕ)) : Type 0 where
  pub figures : fs ≡ map figures_of (states_of fs cs)
  pub cursors : cs ≡ map cursors_of (states_of fs cs)

-- The live state as the buffers hold it, by where their queues stand.
abbrev pub live_of : List (List ℤ) → List (List ℕ) → List ℕ → List ℕ → List ℕ → List (List ℕ) → Rings → Live
live_of figures cursors sure never node_queue row_queues rings =
    live (states_of figures cursors) (marks sure never (queue node_queue rings.nodes)) (rows_in 0 row_queues rings.rows) (rows_in 2 row_queues rings.residuals)

-- Where the queues of nodes, of rows and of residuals stand.
abbrev pub standing : Ring → Ring → Ring → Rings
standing nodes rows residuals = record { nodes = nodes; rows = rows; residuals = residuals }

-- Its buffers are as long as they were.
pub record Same (fs₀ : List (List ℤ)) (cs₀ : List (List ℕ)) (s₀ n₀ l₀ : List ℕ) (q₀ : List (List ℕ)) (fs : List (List ℤ)) (cs : List (List ℕ)) (s n l : List ℕ)
    (q : List (List ℕ)) : Type 0 where
  pub figures : length fs ≡ length fs₀
  pub cursors : length cs ≡ length cs₀
  pub sure : length s ≡ length s₀
  pub never : length n ≡ length n₀
  pub node_queue : length l ≡ length l₀
  pub row_queues : length q ≡ length q₀
