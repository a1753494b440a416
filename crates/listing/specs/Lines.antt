-- The lines of the listing, read from the words that the buffers hold.
use Rattle.std.specs.Prelude.{ℕ, zero, suc, ◌+◌, ◌-◌, ◌*◌, ◌≤◌, ◌≡◌, true, cond, List, [], ◌++◌, length, get_or, take, eqb, ltb}
use Rattle.state.specs.declared.Step.{Step}
use Rattle.state.specs.declared.Step.TheVariants.{Unchanged, Changed, Contradiction}
use Rattle.state.specs.declared.State.{State}
use Rattle.state.specs.State.{no_state}
use Rattle.words.specs.Mask.{bit, count}
use Rattle.memory.specs.Limits.{max_nodes, max_thresholds}
use Rattle.files.specs.File.{Answer, settled, sifted}
use Rattle.files.specs.Listing.{text, figures, answer_line}
use Rattle.text.specs.Decimal.{decimal}
use Rattle.files.specs.declared.Given.{Given}
use Rattle.text.specs.Text.{joined}

abbrev pub max_step : ℕ
max_step = 13

abbrev pub max_figures : ℕ
max_figures = 87

abbrev pub max_answer_line : ℕ
max_answer_line = 40

abbrev pub max_node_line : ℕ
max_node_line = 32

abbrev pub max_row_line : ℕ
max_row_line = 113

abbrev pub max_last_line : ℕ
max_last_line = 53

abbrev pub max_node_lines : ℕ
max_node_lines = max_node_line * max_nodes

-- All lines in front of the rows.
abbrev pub max_front : ℕ
max_front = max_answer_line * 64 + max_node_lines

-- A step by its number, an answer by its number and visits.
unfoldable pub step_of : ℕ → Step
step_of zero = Unchanged
step_of (suc zero) = Changed
step_of (suc (suc n)) = Contradiction

unfoldable pub answer_of : ℕ → ℕ → Answer
answer_of number visits = cond (ltb number 4) (settled (step_of number)) (sifted (step_of (number - 4)) visits)

unfoldable pub answer_at : List (List ℕ) → ℕ → List ℕ
answer_at answers i = answer_line (answer_of (get_or (get_or answers i []) 0 0) (get_or (get_or answers i []) 1 0))

-- The line of a node: none if it is undecided.
unfoldable pub node_at : List ℕ → List ℕ → ℕ → List ℕ
node_at sure never n =
    cond (bit sure n) (text "node " ++ decimal n ++ text " sure\n") (cond (bit never n) (text "node " ++ decimal n ++ text " never\n") [])

unfoldable pub row_line : ℕ → State → List ℕ
row_line r s = text "row " ++ decimal r ++ text " " ++ figures s ++ text "\n"

abbrev pub row_at : List State → ℕ → List ℕ
row_at states r = row_line r (get_or states r no_state)

unfoldable pub end_line : ℕ → ℕ → List ℕ
end_line sures nevers = text "end " ++ decimal sures ++ text " " ++ decimal nevers ++ text "\n"

unfoldable pub refused_line : ℕ → ℕ → List ℕ
refused_line number offset = text "refused " ++ decimal number ++ text " at " ++ decimal offset ++ text "\n"

-- Nodes that a mask has in its 64 words.
abbrev pub decided : List ℕ → ℕ
decided mask = count (take 64 mask) max_nodes

-- THE LISTING, part by part: answers and, if sealed, nodes; the rows that are listed; the last line.

unfoldable pub node_text : Given → List ℕ → List ℕ → List ℕ
node_text g sure never = cond g.sealed (joined (node_at sure never) g.nodes) []

abbrev pub front_text : Given → List (List ℕ) → List ℕ → List ℕ → List ℕ
front_text g answers sure never = joined (answer_at answers) g.answered ++ node_text g sure never

abbrev pub row_count_of : Given → ℕ
row_count_of g = cond g.sealed g.rows 0

unfoldable pub last_text : Given → List ℕ → List ℕ → List ℕ
last_text g sure never = cond (eqb g.refused 0) (end_line (decided sure) (decided never)) (refused_line g.refused g.at)

abbrev pub listed : Given → List (List ℕ) → List State → List ℕ → List ℕ → List ℕ
listed g answers states sure never = front_text g answers sure never ++ joined (row_at states) (row_count_of g) ++ last_text g sure never

-- What is read lies inside the buffers, and is not more than any file leaves.
pub record InMasks (g : Given) (sure never : List ℕ) : Type 0 where
  pub nodes : g.nodes ≤ max_nodes
  pub in_sure_lem : g.nodes ≤ 64 * length sure
  pub in_never_lem : g.nodes ≤ 64 * length never

pub record Sealed (g : Given) (states : List State) (sure never : List ℕ) : Type 0 where
  pub masks : InMasks g sure never
  pub rows : g.rows ≤ max_thresholds
  pub in_states : g.rows ≤ length states

pub record Answered (g : Given) (answers : List (List ℕ)) : Type 0 where
  pub few : g.answered ≤ 64
  pub inside : g.answered ≤ length answers

pub record Listable (g : Given) (answers : List (List ℕ)) (states : List State) (sure never : List ℕ) : Type 0 where
  pub answered : Answered g answers
  pub sealed : g.sealed ≡ true → Sealed g states sure never
  pub ended : g.refused ≡ 0 → (64 ≤ length sure) × (64 ≤ length never)
