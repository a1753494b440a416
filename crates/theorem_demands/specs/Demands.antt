-- THE DEMANDS of the mission, the clauses a and c of document 01 and what document 02 asks for, as statements over the definitions.
-- They are what the proofs of this repository are for. A statement is met when a term of its type stands in a crate.
use Rattle.std.specs.Prelude.{ℕ, ◌+◌, ◌*◌, ◌≤◌, ◌<◌, ◌≡◌, Bool, true, false, cond, ◌⊎◌, ◌≢◌, ◌↔◌, length, get_or, take, drop, ℤ, eqb, Option, Some}
use mathlib.Core.List.{List, [], ◌∷◌, ◌++◌, Memᴰ}
use Rattle.numeric.specs.Threshold.{Term, Job}
use Rattle.numeric.specs.Area.{Entry, area, hundredths, joined, Single, job_of}
use Rattle.numeric.specs.Layout.{Layout, IsLayout}
use Rattle.numeric.specs.Least.{least_layout, NodesRise}
use Rattle.state.specs.declared.Step.{Step}
use Rattle.state.specs.declared.Step.TheVariants.{Unchanged, Contradiction}
use Rattle.state.specs.declared.State.{State}
use Rattle.state.specs.State.{no_state, limit, limited, figures_of, cursors_of}
use Rattle.words.specs.Mask.{bit}
use Rattle.queues.specs.Queue.{is_empty}
use Rattle.row.specs.Terms.{row_terms}
use Rattle.rows.specs.Rows.{Row, rows_of}
use Rattle.searches.specs.declared.Window.{Window}
use Rattle.searches.specs.declared.Search.TheVariants.{Cut}
use Rattle.searches.specs.Search.{plan, search, search_step, search_visits, Lands}
use Rattle.theorem_table.specs.Table.{Table, known_of, possible_of, Conflict, Run, steps, ReachesConflict, AtRest, Ended}
use Rattle.drain.specs.Drain.{at_rest}
use Rattle.records.specs.declared.Record.{Record}
use Rattle.records.specs.declared.Record.TheVariants.{Seal, Mark, Settle, Sift}
use Rattle.records.specs.Facts.{changes, adds}
use Rattle.files.specs.File.{File, contradicted, sifted, begun, standing, act, apply, after, refusal_at, planned, Passed}
use Rattle.memory.specs.Limits.{max_thresholds}
use Rattle.memory.specs.Buffers.{Work, needed, lengths, longest_input, fits, zeros}
use Rattle.base.specs.Laid.{over}
use Rattle.files.specs.Contents.{Out, out, served, whole}
use Rattle.files.specs.Planner.{Left, left}
use Rattle.files.specs.Planner as Planner
use Rattle.theorem_demands.specs.Reading.{Marked, SameMarks, Unmarked, Agrees, NoSift, last_search, decided_in, decided_and, marks_only, SameEnd, SameFigures, records, decoded, plainly_all, Passes}

-- What the call gave, but for its refusal.
abbrev pub accepted : Out → Out
accepted o =
    let g = o.given in out (record { refused = 0; at = g.at; sealed = g.sealed; nodes = g.nodes; rows = g.rows; last = g.last; answered = g.answered }) o.work

-- DEMAND 1. The program as a whole takes each record or refuses it by one of ten numbers, and always ends. After a refused
-- record all lent memory is as if the file had ended just before it. (That it makes every check itself is the public call's
-- contract, which has no `requires`.)
pub record Demand1 : Type 0 where
  -- 0 for no refusal, else one of ten
  pub numbers : (input : List ℕ) (w : Work) → (whole input w).given.refused ≤ 10
  -- a refusal other than 10: everything but the refusal is that of the file cut at its offset, which is accepted
  pub refused : (input : List ℕ) (w : Work) → (whole input w).given.refused ≢ 0 → (whole input w).given.refused ≢ 10
      → whole (take (whole input w).given.at input) w ≡ accepted (whole input w)
  -- 10 is given exactly if a buffer is too short or the input too long; its offset is 0 and it touches nothing
  pub ten : (input : List ℕ) (w : Work) → ((whole input w).given.refused ≡ 10) ↔ (fits input w ≡ false)
  pub ten_touches_nothing : (input : List ℕ) (w : Work) → (whole input w).given.refused ≡ 10 → ((whole input w).given.at ≡ 0) × ((whole input w).work ≡ w)
  -- the records that were taken are those that the bytes before the offset spell; one after the other they make the file, and
  -- each passed all checks on what those before it left
  pub spelled : (input : List ℕ) → decoded (take (planned input).at input) ≡ records (planned input).records
  pub taken : (input : List ℕ) → (planned input).file ≡ after begun (planned input).records
  pub passed : (input : List ℕ) → Passed begun (planned input).records
  -- with no refusal all bytes were read; else the number is that of the first check that applies to the record at the offset
  pub read_all : (input : List ℕ) → (planned input).refused ≡ 0 → (planned input).at ≡ length input
  pub first-check : (input : List ℕ) → (planned input).refused ≢ 0 → (planned input).refused ≢ 10
      → (kind : ℕ) × (rest : List ℕ) × (drop (planned input).at input ≡ kind ∷ rest) × ((planned input).refused ≡ refusal_at (planned input).file kind rest)
  -- a settle or a sift that does not contradict ends because nothing waits any more, and not for want of turns
  pub ends : (input : List ℕ) (before later : List Record) (r : Record) → (planned input).records ≡ before ++ (r ∷ later) → (r ≡ Settle) ⊎ (r ≡ Sift)
      → contradicted (after begun (before ++ (r ∷ []))) ≡ false → at_rest (after begun (before ++ (r ∷ []))).live ≡ true
  pub sift-ends : (input : List ℕ) (before later : List Record) → (planned input).records ≡ before ++ (Sift ∷ later)
      → contradicted (after begun (before ++ (Sift ∷ []))) ≡ false → is_empty (after begun (before ++ (Sift ∷ []))).live.residuals.queue ≡ true

-- DEMAND 2, as far as it can be proved: against the layouts of the job, in which a weighted row means what it means in OPB.
-- (That the figures are the Rust's is tried by running both.)
pub record Demand2 : Type 0 where
  -- what is decided is decided of the job that the last seal closed, which is the file's
  pub closed_job : (input : List ℕ) → (planned input).file.sealed ≡ true → (planned input).file.closed ≡ job_of (planned input).file.draft
  -- every layout that agrees with the marks agrees with each forced node
  pub forced_sure : (input : List ℕ) (v : Layout) → IsLayout (planned input).file.closed v → Agrees (planned input).records v
      → (n : ℕ) → bit (planned input).file.live.marks.sure n ≡ true → v n ≡ true
  pub forced_never : (input : List ℕ) (v : Layout) → IsLayout (planned input).file.closed v → Agrees (planned input).records v
      → (n : ℕ) → bit (planned input).file.live.marks.never n ≡ true → v n ≡ false
  -- a contradiction is given only if no such layout exists
  pub no_layout : (input : List ℕ) → contradicted (planned input).file ≡ true
      → (v : Layout) → IsLayout (planned input).file.closed v → Agrees (planned input).records v → ⊥
  -- a sum search planned and not cut short contradicts exactly if no choice of undecided terms lands in its window,
  -- for every row, every state of it and all decided nodes
  pub search_exact : (raw : List Term) (s : State) (decided : ℕ → Bool) (w : Window) → plan (row_terms raw) s ≡ Some w
      → ((n : ℕ) → search (row_terms raw) s decided ≢ Cut n)
      → (search_step (search (row_terms raw) s decided) ≡ Contradiction) ↔ ((choice : ℕ → Bool) → Lands w decided (row_terms raw) choice → ⊥)
  -- one that is cut short never contradicts
  pub cut_short : (raw : List Term) (s : State) (decided : ℕ → Bool) (n : ℕ) → search (row_terms raw) s decided ≡ Cut n
      → search_step (search (row_terms raw) s decided) ≡ Unchanged

-- The nodes and row figures after a record are those of every run of the table from a start, whatever the order of its rules:
-- where the record contradicts, every run that went on to its end ended in a conflict, and such a run exists; where it does
-- not, none did, and every end is the same. Every run can go on to its end, and none is longer than some number.
pub record ExactlyTheTable (rows : List Row) (s : Table) (f : File) : Type 0 where
  pub contradicts : contradicted f ≡ true → ReachesConflict rows s
  pub only_then : ReachesConflict rows s → contradicted f ≡ true
  pub every_conflict : contradicted f ≡ true → (t : Table) → Ended rows s t → Conflict rows t
  pub every_end : contradicted f ≡ false → (t : Table) → Ended rows s t → AtRest rows t × SameEnd f t
  pub some_end : (t : Table) → Run rows s t → (u : Table) × Ended rows t u
  pub bounded : (n : ℕ) × ((t : Table) (r : Run rows s t) → steps rows r ≤ n)

-- DEMAND 3, one claim about the whole list of a file's records, for every input: each record stands behind those before it,
-- on what they left.
pub record Demand3 : Type 0 where
  -- from one start all runs of the table, whatever their order, reach a conflict, or all end with equal nodes and row figures: for all
  -- rows and every start, those below among them
  pub one_end : (rows : List Row) (s t u : Table) → Ended rows s t → Ended rows s u → (Conflict rows t × Conflict rows u) ⊎ (t ≡ u)
  -- a seal contradicts only if the table, started from the nodes decided before it, reaches a conflict
  pub seals : (input : List ℕ) (before later : List Record) → (planned input).records ≡ before ++ (Seal ∷ later)
      → let f = after begun before in contradicted (apply f Seal) ≡ true → ReachesConflict (rows_of (job_of f.draft)) (decided_in f)
  -- a mark only if the table does, started from those nodes and the mark's own
  pub marks : (input : List ℕ) (before later : List Record) (n v : ℕ) → (planned input).records ≡ before ++ (Mark n v ∷ later)
      → let f = after begun before in
      contradicted (apply f (Mark n v)) ≡ true → ReachesConflict (rows_of f.closed) (decided_and f n (eqb v 1))
  -- a settling is exactly the table, from the nodes decided before it
  pub settles : (input : List ℕ) (before later : List Record) → (planned input).records ≡ before ++ (Settle ∷ later)
      → let f = after begun before in ExactlyTheTable (rows_of f.closed) (decided_in f) (apply f Settle)
  -- with no sifting before it, also from the marks alone
  pub settles_from_marks : (input : List ℕ) (before later : List Record) → (planned input).records ≡ before ++ (Settle ∷ later) → NoSift before
      → let f = after begun before in ExactlyTheTable (rows_of f.closed) (marks_only before) (apply f Settle)
  -- for every two files with one job and the same set of marks, no sifting, a settling last and no refusal but 9: a record
  -- answers Contradiction in both, or both end with equal nodes and row figures. Job and marks count behind a refusal 9 too.
  pub order_does_not_matter : (x y : List ℕ) (rs qs : List Record)
      → decoded x ≡ records (rs ++ (Settle ∷ [])) → decoded y ≡ records (qs ++ (Settle ∷ []))
      → Passes begun (rs ++ (Settle ∷ [])) → Passes begun (qs ++ (Settle ∷ []))
      → ((planned x).refused ≡ 0) ⊎ ((planned x).refused ≡ 9) → ((planned y).refused ≡ 0) ⊎ ((planned y).refused ≡ 9)
      → job_of (plainly_all begun rs).draft ≡ job_of (plainly_all begun qs).draft → SameMarks rs qs → NoSift rs → NoSift qs
      → ((contradicted (planned x).file ≡ true) × (contradicted (planned y).file ≡ true)) ⊎ SameFigures (planned x).file (planned y).file
  -- what that claim asks of its files, that they decode and pass every check but 9, every file has that is not refused
  pub accepted_pass : (input : List ℕ) → (planned input).refused ≡ 0 → (decoded input ≡ records (planned input).records) × Passes begun (planned input).records

-- AREAS OF ONE TILE ARE ADDED FIRST (document 02, section 1): what joining does to the list that the records gave one threshold.
pub record AreasAdded : Type 0 where
  -- an area that comes behind another of its condition is added to it in hundredths, where that stands, whatever stands between
  pub added : (before : List Entry) (c g : ℕ) (middle : List Entry) (h : ℕ) (behind : List Entry)
      → joined (before ++ (area c g ∷ (middle ++ (area c h ∷ behind)))) ≡ joined (before ++ (area c (g + h) ∷ (middle ++ behind)))
  -- nothing else is done: a list in which no condition has two areas stays as it is
  pub nothing_else : (es : List Entry) → Single es → joined es ≡ es
  -- so no condition has two areas then, and the one has the sum
  pub once : (es : List Entry) → Single (joined es)
  pub sums : (c : ℕ) (es : List Entry) → hundredths c (joined es) ≡ hundredths c es
  -- the limits count each record
  pub counted : (f : File) (x : Entry) → 0 < length f.draft.thresholds → let s = standing f in let t = standing (act f (changes (adds x))) in
      (t.last_terms ≡ s.last_terms + 1) × (t.terms ≡ s.terms + 1)

-- AN UNMARKED JOB ALWAYS HAS A LAYOUT (document 02, section 2): `least_layout` is one, and so there is no contradiction before a mark.
pub record UnmarkedHasLayout : Type 0 where
  -- it is a layout of every job whose thresholds have nodes that rise, whatever they list: themselves, or each other
  pub layout : (j : Job) → NodesRise j.thresholds → IsLayout j (least_layout j)
  -- and the least: what is true in it is true in every layout of the job
  pub least : (j : Job) (v : Layout) → IsLayout j v → (n : ℕ) → least_layout j n ≡ true → v n ≡ true
  -- the nodes of every file's thresholds rise, so it is one of the job that its records gave, and of the one that its last seal closed
  pub files : (input : List ℕ) → let f = (planned input).file in IsLayout (job_of f.draft) (least_layout (job_of f.draft)) × IsLayout f.closed (least_layout f.closed)
  -- as long as no mark was taken no record contradicts, be it a seal, a settle or a sift
  pub fine : (input : List ℕ) (before later : List Record) → (planned input).records ≡ before ++ later → Unmarked before → contradicted (after begun before) ≡ false
  -- so a file of which no mark was taken never meets refusal 9
  pub not_nine : (input : List ℕ) → Unmarked (planned input).records → (planned input).refused ≢ 9
  -- the same of what the call gives back, over all lent memory
  pub call_fine : (input : List ℕ) (w : Work) → Unmarked (planned input).records → (whole input w).given.last ≢ Contradiction
  pub call-not_nine : (input : List ℕ) (w : Work) → Unmarked (planned input).records → (whole input w).given.refused ≢ 9

-- DEMANDS 2 AND 3 ONCE MORE, as the caller meets them: of what the call gives back and of the words in its buffers.

-- The words of a row: its four figures, the last 0 where there is no upper, and the word that tells whether there is one.
pub record RowWords (o : Out) (r : ℕ) (known possible lower : ℤ) (upper : Option ℤ) : Type 0 where
  pub figures : get_or o.work.kept.figures r [] ≡ known ∷ possible ∷ lower ∷ limit upper ∷ []
  pub flag : get_or (get_or o.work.kept.cursors r []) 4 0 ≡ cond (limited upper) 1 0

-- The masks and the words of all rows are those of a state of the table.
pub record SaysTable (o : Out) (rows : List Row) (t : Table) : Type 0 where
  pub many : o.given.rows ≡ length rows
  pub sure : (n : ℕ) → bit o.work.kept.sure n ≡ t.sure n
  pub never : (n : ℕ) → bit o.work.kept.never n ≡ t.never n
  pub row : (r : ℕ) → r < o.given.rows → RowWords o r (known_of rows t r) (possible_of rows t r) (t.lower r) (t.upper r)

-- Two calls leave equal masks and words of rows.
pub record SaysSame (o p : Out) : Type 0 where
  pub sure : (n : ℕ) → bit o.work.kept.sure n ≡ bit p.work.kept.sure n
  pub never : (n : ℕ) → bit o.work.kept.never n ≡ bit p.work.kept.never n
  pub rows : o.given.rows ≡ p.given.rows
  pub figures : (r : ℕ) → r < o.given.rows → get_or o.work.kept.figures r [] ≡ get_or p.work.kept.figures r []
  pub flags : (r : ℕ) → r < o.given.rows → get_or (get_or o.work.kept.cursors r []) 4 0 ≡ get_or (get_or p.work.kept.cursors r []) 4 0

-- The call says Contradiction exactly if a run of the table reaches a conflict; else its words are those of every end.
pub record CallIsTheTable (rows : List Row) (s : Table) (o : Out) : Type 0 where
  pub contradicts : o.given.last ≡ Contradiction → ReachesConflict rows s
  pub only_then : ReachesConflict rows s → o.given.last ≡ Contradiction
  pub every_end : o.given.last ≢ Contradiction → (t : Table) → Ended rows s t → AtRest rows t × SaysTable o rows t

pub record Call : Type 0 where
  -- demand 2, of every input and all lent memory that fits
  pub forced_sure : (input : List ℕ) (w : Work) → fits input w ≡ true → (v : Layout) → IsLayout (planned input).file.closed v → Agrees (planned input).records v
      → (n : ℕ) → bit (whole input w).work.kept.sure n ≡ true → v n ≡ true
  pub forced_never : (input : List ℕ) (w : Work) → fits input w ≡ true → (v : Layout) → IsLayout (planned input).file.closed v → Agrees (planned input).records v
      → (n : ℕ) → bit (whole input w).work.kept.never n ≡ true → v n ≡ false
  pub no_layout : (input : List ℕ) (w : Work) → (whole input w).given.last ≡ Contradiction
      → (v : Layout) → IsLayout (planned input).file.closed v → Agrees (planned input).records v → ⊥
  -- demand 3, of a file whose last record is a seal, a mark or a settle
  pub seals : (input : List ℕ) (w : Work) (before : List Record) → (planned input).records ≡ before ++ (Seal ∷ [])
      → (whole input w).given.last ≡ Contradiction → let f = after begun before in ReachesConflict (rows_of (job_of f.draft)) (decided_in f)
  pub marks : (input : List ℕ) (w : Work) (before : List Record) (n v : ℕ) → (planned input).records ≡ before ++ (Mark n v ∷ [])
      → (whole input w).given.last ≡ Contradiction → let f = after begun before in ReachesConflict (rows_of f.closed) (decided_and f n (eqb v 1))
  pub settles : (input : List ℕ) (w : Work) → fits input w ≡ true → (before : List Record) → (planned input).records ≡ before ++ (Settle ∷ [])
      → let f = after begun before in CallIsTheTable (rows_of f.closed) (decided_in f) (whole input w)
  pub settles_from_marks : (input : List ℕ) (w : Work) → fits input w ≡ true → (before : List Record) → (planned input).records ≡ before ++ (Settle ∷ []) → NoSift before
      → let f = after begun before in CallIsTheTable (rows_of f.closed) (marks_only before) (whole input w)
  -- two files with one job and the same set of marks, as in Demand 3
  pub order_does_not_matter : (x y : List ℕ) (v w : Work) → fits x v ≡ true → fits y w ≡ true → (rs qs : List Record)
      → decoded x ≡ records (rs ++ (Settle ∷ [])) → decoded y ≡ records (qs ++ (Settle ∷ []))
      → Passes begun (rs ++ (Settle ∷ [])) → Passes begun (qs ++ (Settle ∷ []))
      → ((whole x v).given.refused ≡ 0) ⊎ ((whole x v).given.refused ≡ 9) → ((whole y w).given.refused ≡ 0) ⊎ ((whole y w).given.refused ≡ 9)
      → job_of (plainly_all begun rs).draft ≡ job_of (plainly_all begun qs).draft → SameMarks rs qs → NoSift rs → NoSift qs
      → (((whole x v).given.last ≡ Contradiction) × ((whole y w).given.last ≡ Contradiction)) ⊎ SaysSame (whole x v) (whole y w)

-- CLAUSE A. For every input definitions fix each answer, offset, visit count and buffer word, refusals too. `whole` is that
-- definition, and the public call's contract is an equation with it; what it gives depends on nothing that the lent memory
-- held before, and every buffer keeps its length.
pub record ClauseA : Type 0 where
  pub memory : (input : List ℕ) (v w : Work) → lengths v ≡ lengths w → fits input v ≡ true → whole input v ≡ whole input w
  pub lengths : (input : List ℕ) (w : Work) → lengths (whole input w).work ≡ lengths w
  -- what demands 2 and 3 say of a file they say of what the call gives and leaves in memory
  pub files : (input : List ℕ) (w : Work) → fits input w ≡ true → whole input w ≡ served (planned input) w

-- DEMAND 1 AND CLAUSE A ONCE MORE, of the public call's own definition: `plan` is `whole` with the row states lent as one more buffer,
-- and each claim speaks of that buffer too.

-- What the public call left, but for its refusal.
abbrev pub accepted_left : Left → Left
accepted_left l = left (accepted l.out) l.states

-- A buffer is shorter than it must be, or the input is too long.
abbrev pub TooShort : List ℕ → List State → Work → Type 0
TooShort input states w = (length states < max_thresholds) ⊎ ((i : ℕ) × (get_or (lengths w) i 0 < get_or needed i 0)) ⊎ (longest_input < length input)

pub record PublicCall : Type 0 where
  -- 0 for no refusal, else one of ten
  pub numbers : (input : List ℕ) (states : List State) (w : Work) → (Planner.plan input states w).out.given.refused ≤ 10
  -- a refusal other than 10: all lent memory is as if the file had ended just before the refused record
  pub refused : (input : List ℕ) (states : List State) (w : Work) → let l = Planner.plan input states w in l.out.given.refused ≢ 0 → l.out.given.refused ≢ 10
      → Planner.plan (take l.out.given.at input) states w ≡ accepted_left l
  -- 10 is given exactly if a buffer is too short or the input too long; its offset is 0 and it touches nothing
  pub ten : (input : List ℕ) (states : List State) (w : Work) → ((Planner.plan input states w).out.given.refused ≡ 10) ↔ TooShort input states w
  pub ten_touches_nothing : (input : List ℕ) (states : List State) (w : Work) → let l = Planner.plan input states w in
      l.out.given.refused ≡ 10 → (l.out.given.at ≡ 0) × (l.out.work ≡ w) × (l.states ≡ states)
  -- nothing depends on what the memory held before, and every buffer keeps its length
  pub memory : (input : List ℕ) (r s : List State) (v w : Work) → length r ≡ length s → lengths v ≡ lengths w → (TooShort input r v → ⊥)
      → Planner.plan input r v ≡ Planner.plan input s w
  pub lengths : (input : List ℕ) (states : List State) (w : Work) → let l = Planner.plan input states w in
      (lengths l.out.work ≡ lengths w) × (length l.states ≡ length states)
  -- where nothing is too short it leaves what the file leaves, the file's row states over cleared ones
  pub files : (input : List ℕ) (states : List State) (w : Work) → (TooShort input states w → ⊥)
      → Planner.plan input states w ≡ left (served (planned input) w) (over (planned input).file.live.states (zeros no_state states))
  -- what is said of `whole` is said of it, and of a row's state what is said of the row's words
  pub as_whole : (input : List ℕ) (states : List State) (w : Work) → max_thresholds ≤ length states → (Planner.plan input states w).out ≡ whole input w
  pub rows : (input : List ℕ) (states : List State) (w : Work) → (TooShort input states w → ⊥) → (r : ℕ) → r < max_thresholds → let l = Planner.plan input states w in
      (get_or l.out.work.kept.figures r [] ≡ figures_of (get_or l.states r no_state)) × (get_or l.out.work.kept.cursors r [] ≡ cursors_of (get_or l.states r no_state))

-- CLAUSE C. Planners that are shut out. Each line says what such a planner would do on all files, and that this one does not.
pub record ClauseC : Type 0 where
  -- one that cuts each search short before a visit: no sift would have visits
  pub cuts_each_search : ((input : List ℕ) (k : Step) (n : ℕ) → Memᴰ (sifted k n) (planned input).file.answers → n ≡ 0) → ⊥
  -- one that invents visits: no sift would have those of its last search; here every sift has them, and no search more than 4 for
  -- each term
  pub invents_visits : ((input : List ℕ) (before later : List Record) (k : Step) (n : ℕ) → (planned input).records ≡ before ++ (Sift ∷ later)
      → let f = after begun before in (apply f Sift).answers ≡ f.answers ++ (sifted k n ∷ []) → n ≢ search_visits 0 (last_search f)) → ⊥
  pub sift_visits : (input : List ℕ) (before later : List Record) → (planned input).records ≡ before ++ (Sift ∷ later)
      → let f = after begun before in (apply f Sift).answers ≡ f.answers ++ (sifted (apply f Sift).last (search_visits 0 (last_search f)) ∷ [])
  pub visits_allowed : (ts : List Term) (s : State) (d : ℕ → Bool) → search_visits 0 (search ts s d) ≤ 4 * length ts
  -- one that drains a single node per settling: where two waited, one would still wait
  pub drains_one_node : ((input : List ℕ) (before later : List Record) → (planned input).records ≡ before ++ (Settle ∷ later)
      → 2 ≤ (after begun before).live.marks.nodes.ring.count → is_empty (after begun (before ++ (Settle ∷ []))).live.marks.nodes ≡ false) → ⊥
  -- one that leaves all nodes undecided: some node is sure that no mark made sure
  pub leaves_all_undecided : ((input : List ℕ) (n : ℕ) → bit (planned input).file.live.marks.sure n ≡ true → Marked (planned input).records n true) → ⊥
  -- one that always contradicts
  pub always_contradicts : ((input : List ℕ) (before later : List Record) → (planned input).records ≡ before ++ (Settle ∷ later)
      → contradicted (after begun (before ++ (Settle ∷ []))) ≡ true) → ⊥
  -- one that refuses each file: over some memory one that is not empty is accepted
  pub refuses_each_file : ((input : List ℕ) (w : Work) → input ≢ [] → (whole input w).given.refused ≢ 0) → ⊥
