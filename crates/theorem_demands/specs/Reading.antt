-- What the demands say of a file: its records, marks and job, read on behind a refusal 9, and the figures that two ends share.
use Rattle.std.specs.Prelude.{ℕ, zero, suc, ◌<◌, ◌≡◌, Bool, true, false, cond, ◌||◌, ◌&&◌, not, ◌↔◌, length, get_or, drop, eqb}
use mathlib.Core.List.{List, [], ◌∷◌, ◌++◌, map, Memᴰ}
use Rattle.numeric.specs.Layout.{Layout}
use Rattle.numeric.specs.Area.{job_of}
use Rattle.state.specs.declared.Step.TheVariants.{Unchanged}
use Rattle.state.specs.State.{no_state}
use Rattle.words.specs.Mask.{bit}
use Rattle.state.specs.Step.{contradicts, is_unchanged}
use Rattle.queues.specs.Queue.{is_empty, oldest}
use Rattle.queues.specs.Marks.{is_decided}
use Rattle.rows.specs.Rows.{no_row, rows_of}
use Rattle.intervals.specs.Residual.{threshold_residual}
use Rattle.searches.specs.declared.Search.{Search}
use Rattle.searches.specs.declared.Search.TheVariants.{Skipped, Fits, Nothing, Cut}
use Rattle.searches.specs.Search.{search, search_visits}
use Rattle.row_moves.specs.Between.{Index, Live, state_at}
use Rattle.drain.specs.Drain.{index_of, turns, settle}
use Rattle.drain.specs.Sift.{try_row}
use Rattle.theorem_table.specs.Table.{Table, start, known_of, possible_of}
use Rattle.records.specs.declared.Record.{Record}
use Rattle.records.specs.Record.{kind_of, body_length}
use Rattle.records.specs.Facts.{Action, begins, changes, closes, decides, settles, sifts, idles, action}
use Rattle.files.specs.File.{File, settled, told, act, record_at, unknown_kind, cut_body, refusal}

-- MARKS: node and value of each record that decides one, 0x05.
abbrev pub Marked : List Record → ℕ → Bool → Type 0
Marked rs n v = Memᴰ (decides n (cond v 1 0)) (map action rs)

abbrev pub SameMarks : List Record → List Record → Type 0
SameMarks rs qs = (n : ℕ) (v : Bool) → Marked rs n v ↔ Marked qs n v

-- No node is marked.
abbrev pub Unmarked : List Record → Type 0
Unmarked rs = (n : ℕ) (v : Bool) → Marked rs n v → ⊥

-- A layout agrees with the marks: it gives each marked node the mark's value.
abbrev pub Agrees : List Record → Layout → Type 0
Agrees rs v = (n : ℕ) (b : Bool) → Marked rs n b → v n ≡ b

-- The nodes marked with a value, as a set.
abbrev pub marks : Bool → Action → ℕ → Bool
marks b (begins x) n = false
marks b (changes x) n = false
marks b closes n = false
marks b (decides m v) n = eqb m n && eqb v (cond b 1 0)
marks b settles n = false
marks b sifts n = false
marks b (idles x) n = false

unfoldable pub marked_node : Bool → List Record → ℕ → Bool
marked_node b [] n = false
marked_node b (r ∷ rs) n = marks b (action r) n || marked_node b rs n

abbrev pub NoSift : List Record → Type 0
NoSift rs = Memᴰ sifts (map action rs) → ⊥

-- STARTS of the rule table.

-- The nodes that a file has decided.
abbrev pub decided_in : File → Table
decided_in f = start (bit f.live.marks.sure) (bit f.live.marks.never)

-- The same with one more.
abbrev pub decided_and : File → ℕ → Bool → Table
decided_and f n v =
    start (λ m. bit f.live.marks.sure m || (eqb m n && v)) (λ m. bit f.live.marks.never m || (eqb m n && not v))

-- The marks alone.
abbrev pub marks_only : List Record → Table
marks_only rs = start (marked_node true rs) (marked_node false rs)

-- ENDS.

-- The nodes of a file are those of a state of the table, and so are the four figures of each row.
pub record SameEnd (f : File) (t : Table) : Type 0 where
  pub sure : (n : ℕ) → bit f.live.marks.sure n ≡ t.sure n
  pub never : (n : ℕ) → bit f.live.marks.never n ≡ t.never n
  pub known : (r : ℕ) → r < length (rows_of f.closed) → (get_or f.live.states r no_state).known ≡ known_of (rows_of f.closed) t r
  pub possible : (r : ℕ) → r < length (rows_of f.closed) → (get_or f.live.states r no_state).possible ≡ possible_of (rows_of f.closed) t r
  pub lower : (r : ℕ) → r < length (rows_of f.closed) → (get_or f.live.states r no_state).lower ≡ t.lower r
  pub upper : (r : ℕ) → r < length (rows_of f.closed) → (get_or f.live.states r no_state).upper ≡ t.upper r

-- Two files end with one sealed job and equal nodes and row figures.
pub record SameFigures (f g : File) : Type 0 where
  pub sealed : f.sealed ≡ g.sealed
  pub closed : f.closed ≡ g.closed
  pub sure : (n : ℕ) → bit f.live.marks.sure n ≡ bit g.live.marks.sure n
  pub never : (n : ℕ) → bit f.live.marks.never n ≡ bit g.live.marks.never n
  pub known : (r : ℕ) → r < length (rows_of f.closed) → (get_or f.live.states r no_state).known ≡ (get_or g.live.states r no_state).known
  pub possible : (r : ℕ) → r < length (rows_of f.closed) → (get_or f.live.states r no_state).possible ≡ (get_or g.live.states r no_state).possible
  pub lower : (r : ℕ) → r < length (rows_of f.closed) → (get_or f.live.states r no_state).lower ≡ (get_or g.live.states r no_state).lower
  pub upper : (r : ℕ) → r < length (rows_of f.closed) → (get_or f.live.states r no_state).upper ≡ (get_or g.live.states r no_state).upper

-- SEARCHES of a sift.

-- A search that was begun, else the one before.
abbrev pub or_before : Search → Search → Search
or_before before Skipped = before
or_before before (Fits n) = Fits n
or_before before (Nothing n) = Nothing n
or_before before (Cut n) = Cut n

-- Trying the oldest residual row begins one only where divisibility leaves all as it was.
abbrev pub tried_search : Index → Live → List ℕ → Search → Search
tried_search x v gcds before =
    let r = oldest v.residuals.queue in
    let terms = (get_or x.rows r no_row).terms in
    let a = threshold_residual terms (state_at v r) v.marks gcds in
    elim (is_unchanged a.step) [ true ↦ or_before before (search terms (state_at v r) (is_decided a.marks)) | false ↦ before ]

-- The last search as a sift goes on from here; the first argument bounds the rows that are tried.
unfoldable pub last_from : ℕ → Index → Live → List ℕ → Search → Search
last_from zero x v gcds b = b
last_from (suc n) x v gcds b =
    let d = settle x v in
    elim (contradicts d.step || is_empty d.live.residuals.queue) [
      | true ↦ b
      | false ↦
          let t = try_row x d.live gcds (search_visits 0 b) in
          let c = tried_search x d.live gcds b in
          elim (contradicts t.step) [ true ↦ c | false ↦ last_from n x t.live t.gcds c ]
    ]

-- The last search of a sift of this file, Skipped if it has none.
abbrev pub last_search : File → Search
last_search f = last_from turns (index_of f.closed) f.live f.gcds Skipped

-- READING ON behind a refusal 9, as if 9 were not in the table.

-- All records of an input that is whole: every kind known, no body cut.
pub data Decoded : Type 0 where
  records : List Record → Decoded
  damaged : Decoded

unfoldable pub decode_from : ℕ → List ℕ → List Record → Decoded
decode_from zero bytes taken = records taken
decode_from (suc n) [] taken = records taken
decode_from (suc n) (kind ∷ rest) taken =
    elim (unknown_kind kind || cut_body kind rest)
    [ true ↦ damaged | false ↦ decode_from n (drop (body_length (kind_of kind)) rest) (taken ++ (record_at kind rest ∷ [])) ]

unfoldable pub decoded : List ℕ → Decoded
decoded bytes = decode_from (length bytes) bytes []

-- What a record does to all that needs neither masks nor queues: the job, whether it is sealed, how many have answered.
unfoldable pub plain : File → Action → File
plain f (begins n) = act f (begins n)
plain f (changes c) = act f (changes c)
plain f closes = told f (job_of f.draft) Unchanged f.live f.gcds f.answers
plain f (decides n v) = f
plain f settles = told f f.closed Unchanged f.live f.gcds (f.answers ++ (settled Unchanged ∷ []))
plain f sifts = told f f.closed Unchanged f.live f.gcds (f.answers ++ (settled Unchanged ∷ []))
plain f (idles x) = f

unfoldable pub plainly : File → Record → File
plainly f r = plain f (action r)

unfoldable pub plainly_all : File → List Record → File
plainly_all f [] = f
plainly_all f (r ∷ rs) = plainly_all (plainly f r) rs

-- Each record passes every check but 9.
unfoldable pub Passes : File → List Record → Type 0
Passes f [] = Unit {0}
Passes f (r ∷ rs) = (refusal f r ≡ 0) × Passes (plainly f r) rs
