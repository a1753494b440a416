-- The lent buffers (docs/BUFFERS.md): what is lent, the test of every length, and clearing.
use Rattle.std.specs.Prelude.{ℕ, Bool, true, false, ◌&&◌, List, [], ◌∷◌, ◌++◌, length, replicate, leb, ℤ, pos}
use Rattle.memory.specs.Limits.{max_nodes, max_terms, max_thresholds, max_links, search_words, max_gcds}

-- The job as the records gave it.
pub record RawLists : Type 0 where
  pub raw-conditions : List ℕ  -- of all terms, in the order of the records, areas joined
  pub raw-weights : List ℕ
  pub thresholds : List (List ℕ)  -- node; where its terms end

pub record Raw : Type 0 where
  pub lists : RawLists
  pub bounds : List ℤ  -- of each threshold

-- What the seal builds: rows, guards, and who stands where.
pub record HeldRows : Type 0 where
  pub row-conditions : List ℕ  -- the terms of the rows, one row behind the other
  pub row-weights : List ℕ
  pub rows : List (List ℕ)  -- where a row's terms, guards and neighbours end
  pub guard_bounds : List ℤ
  pub guard_nodes : List ℕ

pub record Built : Type 0 where
  pub held : HeldRows
  pub nodes : List (List ℕ)  -- a node's threshold, counted from 1 (0: none), that threshold's row, where its edges end
  pub edges : List (List ℕ)  -- row and weight, condition by condition
  pub links : List ℕ  -- the neighbours of each row

-- What marks, settles and sifts change.
pub record Kept : Type 0 where
  pub figures : List (List ℤ)  -- known, possible, lower, upper (0 for none)
  pub cursors : List (List ℕ)  -- the four cursors, then 1 if there is an upper
  pub sure : List ℕ
  pub never : List ℕ
  pub search : List ℕ  -- zero before and after each search
  pub gcds : List ℕ
  pub node_queue : List ℕ
  pub row_queues : List (List ℕ)  -- rows that wait to hand on their bounds, and at place r 1 if row r is one; the same for residuals
  pub answers : List (List ℕ)  -- an answer's number, its visits

pub record Work : Type 0 where
  pub raw : Raw
  pub built : Built
  pub kept : Kept

-- A group from its buffers, in the order of the parameters of the functions that are lent it.

abbrev pub raw_lists : List ℕ → List ℕ → List (List ℕ) → RawLists
raw_lists raw-conditions raw-weights thresholds = record { raw-conditions = raw-conditions; raw-weights = raw-weights; thresholds = thresholds }

abbrev pub raw : RawLists → List ℤ → Raw
raw lists bounds = record { lists = lists; bounds = bounds }

abbrev pub held_rows : List ℕ → List ℕ → List (List ℕ) → List ℤ → List ℕ → HeldRows
held_rows conditions weights rows bounds nodes =
    record { row-conditions = conditions; row-weights = weights; rows = rows; guard_bounds = bounds; guard_nodes = nodes }

abbrev pub built : HeldRows → List (List ℕ) → List (List ℕ) → List ℕ → Built
built held nodes edges links = record { held = held; nodes = nodes; edges = edges; links = links }

abbrev pub kept : List (List ℤ) → List (List ℕ) → List ℕ → List ℕ → List ℕ → List ℕ → List ℕ → List (List ℕ) → List (List ℕ) → Kept
kept figures cursors sure never search gcds nodes rows answers =
    record { figures = figures; cursors = cursors; sure = sure; never = never; search = search; gcds = gcds; node_queue = nodes; row_queues = rows; answers = answers }

abbrev pub work : Raw → Built → Kept → Work
work raw built kept = record { raw = raw; built = built; kept = kept }

-- THE TEST of every length: one list of what is needed, in the order of the buffers.

abbrev pub needed : List ℕ
needed =
    max_terms ∷ max_terms ∷ max_thresholds ∷ max_thresholds
    ∷ max_terms ∷ max_terms ∷ max_thresholds ∷ max_thresholds ∷ max_thresholds ∷ max_nodes ∷ max_terms ∷ max_links
    ∷ max_thresholds ∷ max_thresholds ∷ 64 ∷ 64 ∷ search_words ∷ max_gcds ∷ max_nodes ∷ max_thresholds ∷ 64 ∷ []

abbrev pub raw_lengths : Raw → List ℕ
raw_lengths w = length w.lists.raw-conditions ∷ length w.lists.raw-weights ∷ length w.lists.thresholds ∷ length w.bounds ∷ []

abbrev pub built_lengths : Built → List ℕ
built_lengths w =
    let h = w.held in
    length h.row-conditions ∷ length h.row-weights ∷ length h.rows ∷ length h.guard_bounds ∷ length h.guard_nodes
    ∷ length w.nodes ∷ length w.edges ∷ length w.links ∷ []

abbrev pub kept_lengths : Kept → List ℕ
kept_lengths w =
    length w.figures ∷ length w.cursors ∷ length w.sure ∷ length w.never ∷ length w.search ∷ length w.gcds
    ∷ length w.node_queue ∷ length w.row_queues ∷ length w.answers ∷ []

abbrev pub lengths : Work → List ℕ
lengths w = raw_lengths w.raw ++ built_lengths w.built ++ kept_lengths w.kept

-- Whether each length is at least the one needed.
unfoldable pub enough : List ℕ → List ℕ → Bool
enough [] ms = true
enough (n ∷ ns) [] = false
enough (n ∷ ns) (m ∷ ms) = leb n m && enough ns ms

abbrev pub longest_input : ℕ
longest_input = 65536

unfoldable pub fits_by : List ℕ → ℕ → Bool
fits_by ms input = enough needed ms && leb input longest_input

abbrev pub fits : List ℕ → Work → Bool
fits input w = fits_by (lengths w) (length input)

-- CLEARING: every element of every buffer, however long it is.

unfoldable pub zeros : {X : Type 0} → X → List X → List X
zeros z [] = []
zeros z (x ∷ xs) = z ∷ zeros z xs

unfoldable pub clear_raw : Raw → Raw
clear_raw w =
    raw (raw_lists (zeros 0 w.lists.raw-conditions) (zeros 0 w.lists.raw-weights) (zeros (replicate 2 0) w.lists.thresholds)) (zeros (pos 0) w.bounds)

abbrev pub clear_held : HeldRows → HeldRows
clear_held w =
    held_rows (zeros 0 w.row-conditions) (zeros 0 w.row-weights) (zeros (replicate 3 0) w.rows) (zeros (pos 0) w.guard_bounds) (zeros 0 w.guard_nodes)

unfoldable pub clear_built : Built → Built
clear_built w = built (clear_held w.held) (zeros (replicate 3 0) w.nodes) (zeros (replicate 2 0) w.edges) (zeros 0 w.links)

unfoldable pub clear_kept : Kept → Kept
clear_kept w =
    kept (zeros (replicate 4 (pos 0)) w.figures) (zeros (replicate 5 0) w.cursors) (zeros 0 w.sure) (zeros 0 w.never) (zeros 0 w.search)
    (zeros 0 w.gcds) (zeros 0 w.node_queue) (zeros (replicate 4 0) w.row_queues) (zeros (replicate 2 0) w.answers)

unfoldable pub cleared : Work → Work
cleared w = work (clear_raw w.raw) (clear_built w.built) (clear_kept w.kept)
