-- What the program prints, as bytes.
use Rattle.std.specs.Prelude.{ℕ, zero, suc, ◌+◌, true, false, cond, List, [], ◌∷◌, ◌++◌, get_or, eqb, ℤ, Option, None, Some}
use Prim.Native.Char.{code}
use Prim.Native.String.{String}
use Rattle.state.specs.declared.Step.{Step}
use Rattle.state.specs.declared.Step.TheVariants.{Unchanged, Changed, Contradiction}
use Rattle.state.specs.declared.State.{State}
use Rattle.state.specs.State.{no_state}
use Rattle.words.specs.Mask.{bit, count}
use Rattle.rows.specs.Rows.{Row, rows_of}
use Rattle.files.specs.File.{File, Answer, settled, sifted, Outcome}
use Rattle.text.specs.Decimal.{decimal, decimal_z}

-- The bytes of a text.
unfoldable pub text : String → List ℕ
text String.[] = []
text (String.◌∷◌ c s) = code c ∷ text s

abbrev pub step_word : Step → List ℕ
step_word Unchanged = text "unchanged"
step_word Changed = text "changed"
step_word Contradiction = text "contradiction"

-- `-` for no upper limit.
abbrev pub upper_text : Option ℤ → List ℕ
upper_text None = 45 ∷ []
upper_text (Some u) = decimal_z u

abbrev pub answer_line : Answer → List ℕ
answer_line (settled k) = text "settle " ++ step_word k ++ text "\n"
answer_line (sifted k n) = text "sift " ++ step_word k ++ text " " ++ decimal n ++ text "\n"

unfoldable pub answer_lines : List Answer → List ℕ
answer_lines [] = []
answer_lines (a ∷ as') = answer_line a ++ answer_lines as'

-- The nodes n, n + 1 .. of which there are so many.
unfoldable pub node_lines : File → ℕ → ℕ → List ℕ
node_lines f zero n = []
node_lines f (suc more) n =
    elim (bit f.live.marks.sure n) [
      | true ↦ text "node " ++ decimal n ++ text " sure\n" ++ node_lines f more (n + 1)
      | false ↦
          elim (bit f.live.marks.never n)
          [ true ↦ text "node " ++ decimal n ++ text " never\n" ++ node_lines f more (n + 1) | false ↦ node_lines f more (n + 1) ]
    ]

abbrev pub figures : State → List ℕ
figures s = decimal_z s.known ++ text " " ++ decimal_z s.possible ++ text " " ++ decimal_z s.lower ++ text " " ++ upper_text s.upper

unfoldable pub row_lines : File → List Row → ℕ → List ℕ
row_lines f [] r = []
row_lines f (x ∷ xs) r = text "row " ++ decimal r ++ text " " ++ figures (get_or f.live.states r no_state) ++ text "\n" ++ row_lines f xs (r + 1)

abbrev pub state_lines : File → List ℕ
state_lines f = cond f.sealed (node_lines f f.closed.nodes 0 ++ row_lines f (rows_of f.closed) 0) []

abbrev pub last_line : Outcome → List ℕ
last_line o =
    cond (eqb o.refused 0)
    (text "end " ++ decimal (count o.file.live.marks.sure o.file.draft.nodes) ++ text " "
    ++ decimal (count o.file.live.marks.never o.file.draft.nodes) ++ text "\n")
    (text "refused " ++ decimal o.refused ++ text " at " ++ decimal o.at ++ text "\n")

-- The fixed length of the buffer that the listing is made in: enough for every file.
abbrev pub max_listing : ℕ
max_listing = 262144

unfoldable pub listing : Outcome → List ℕ
listing o = answer_lines o.file.answers ++ state_lines o.file ++ last_line o
