-- A part of a row's state put anew in the buffers: the sums that a drained term moves, or the cursors that a run moves.
use Rattle.std.specs.Prelude.{ℕ, ◌≡◌, List, [], ◌∷◌, get_or, set, ℤ, pos}
use Rattle.state.specs.declared.State.{State}
use Rattle.state.specs.State.{with_known, with_possible, with_guards, with_terms}
use Rattle.row_moves.specs.Numbers.{states_of, Tidy}

-- The buffers hold this state of the row, and the others as before; tidy words stay tidy.
pub record Stored (fs : List (List ℤ)) (cs : List (List ℕ)) (fs' : List (List ℤ)) (cs' : List (List ℕ)) (r : ℕ) (s : State) : Type 0 where
  pub states : states_of fs' cs' ≡ set (states_of fs cs) r s
  pub tidy : Tidy fs cs → Tidy fs' cs'

abbrev pub with_sums : State → ℤ → ℤ → State
with_sums s k p = with_possible (with_known s k) p

-- The cursors of the second state.
abbrev pub with_cursors : State → State → State
with_cursors s t = with_terms (with_guards s t.sure_guard t.never_guard) t.true_term t.false_term

-- The words of a row with them.
abbrev pub sum_words : List ℤ → ℤ → ℤ → List ℤ
sum_words f k p = k ∷ p ∷ get_or f 2 (pos 0) ∷ get_or f 3 (pos 0) ∷ []

abbrev pub cursor_words : List ℕ → State → List ℕ
cursor_words c t = t.sure_guard ∷ t.never_guard ∷ t.true_term ∷ t.false_term ∷ get_or c 4 0 ∷ []
