-- The cases P1 to P12 of document 01, an empty input and a file read on after a refusal 9, and those of joined areas and of unmarked jobs (document
-- 02, sections 1 and 2), rows of tables, proved by computing the definitions. Each table has one theorem in proofs/Cases.
use Rattle.std.specs.Prelude.{ℕ, zero, suc, ◌+◌, ◌-◌, ◌/◌, ◌%◌, ◌^◌, ◌≤◌, ◌≡◌, refl, Bool, true, false, cond, ℤ, pos, negsuc, None, Some}
use Prim.Native.String.{String}
use Rattle.std.proofs.Common.{arith}
use mathlib.Core.List.{List, [], ◌∷◌, ◌++◌}
use Rattle.base.specs.All.{All}
use Rattle.base.specs.Insertion as Insertion
use Rattle.numeric.specs.Area.{area, weighed}
use Rattle.numeric.specs.Area as Area
use Rattle.numeric.specs.Layout as Layout
use Rattle.numeric.specs.Least as Least
use Rattle.numeric.specs.Threshold.{Term, term}
use Rattle.state.specs.declared.Step.{Step}
use Rattle.state.specs.declared.Step.TheVariants.{Unchanged, Changed, Contradiction}
use Rattle.state.specs.declared.State.{State}
use Rattle.state.specs.State as States
use Rattle.words.specs.Mask as Mask
use Rattle.words.specs.Shift as Shift
use Rattle.queues.specs.Queue as Queues
use Rattle.queues.specs.Marks as Marks
use Rattle.row.specs.Terms as Terms
use Rattle.rows.specs.Rows as Rows
use Rattle.links.specs.Links as Links
use Rattle.divisors.specs.Gcd as Gcd
use Rattle.misses.specs.Misses as Misses
use Rattle.intervals.specs.Residual as Residuals
use Rattle.searches.specs.declared.Search.{Search}
use Rattle.searches.specs.declared.Search.TheVariants.{Cut}
use Rattle.searches.specs.Search as Searches
use Rattle.row_runs.specs.Scan as Scan
use Rattle.row_runs.specs.Row as Row
use Rattle.row_moves.specs.Between as Between
use Rattle.drain.specs.Drain as Drain
use Rattle.drain.specs.Sift as Sift
use Rattle.records.specs.declared.Record.{Record}
use Rattle.records.specs.declared.Record.TheVariants.{Header, Opens, Adds, Areas, Seal, Mark, Settle, Sift, Unknown}
use Rattle.records.specs.Record.{little_endian}
use Rattle.checks.specs.Checks as Checks
use Rattle.job.specs.Job as Job
use Rattle.files.specs.File as File
use Rattle.files.specs.Listing.{text, listing}
use Rattle.text.specs.Decimal as Decimal
use Rattle.files.specs.Listing as Listing
use Rattle.theorem_demands.specs.Reading as Reading

-- A number as so many bytes, the lowest first.
unfoldable pub bytes : ℕ → ℕ → List ℕ
bytes zero n = []
bytes (suc k) n = n % 256 ∷ bytes k (n / 256)

unfoldable pub twos : ℤ → ℕ
twos (pos n) = n
twos (negsuc n) = 2 ^ 64 - 1 - n

-- A record as it is written.
unfoldable pub written : Record → List ℕ
written (Header n) = 1 ∷ bytes 2 n
written (Opens n b) = 2 ∷ bytes 2 n ++ bytes 8 (twos b)
written (Adds c w) = 3 ∷ bytes 2 c ++ bytes 4 w
written Seal = 4 ∷ []
written (Mark n v) = 5 ∷ bytes 2 n ++ bytes 1 v
written Settle = 6 ∷ []
written Sift = 7 ∷ []
written (Areas c a) = 8 ∷ bytes 2 c ++ bytes 4 a
written Unknown = []

unfoldable pub written_all : List Record → List ℕ
written_all [] = []
written_all (r ∷ rs) = written r ++ written_all rs

-- A case: what is given, and what the papers say of it.
pub data Case : Type 0 where
  lists : (file : List Record) (listing : String) → Case
  conflicts : State → Bool → Case
  divides : (a b gcd : ℕ) → Case
  weighs : (hundredths weight : ℕ) → Case
  merges : (raw row : List Term) → Case
  searches : (row : List Term) → State → Search → Case
  misses : (row : List Term) → State → Case
  residual : (row : List Term) → State → Step → Case
  takes : (file : List Record) (answers : List File.Answer) (contradicted : Bool) → Case
  forces : (file : List Record) (node : ℕ) → Case
  drains : (file : List Record) (waiting : ℕ) → Case
  exhibits : (file : List Record) (nodes : List ℕ) (listing : String) → Case
  continues : (file : List Record) (listing : String) (marked : ℕ) → Case

-- What is claimed of a case: the definitions give it.
abbrev pub Right : Case → Type 0
Right (lists f t) = listing (File.planned (written_all f)) ≡ text t
Right (conflicts s b) = States.conflict s ≡ b
Right (divides a b g) = Gcd.gcd a b ≡ g
Right (weighs a w) = weighed (area 0 a ∷ []) ≡ term 0 w ∷ []
Right (merges raw row) = Terms.row_terms raw ≡ row
Right (searches row s r) = Searches.search row s (λ n. false) ≡ r
Right (misses row s) = (choice : ℕ → Bool) → Searches.Lands (Searches.window row s) (λ n. false) row choice → ⊥
Right (residual row s k) = (Residuals.threshold_residual row s (File.cleared).marks []).step ≡ k
Right (takes f as' b) =
    let o = File.planned (written_all f) in
    (o.refused ≡ 0) × (o.records ≡ f) × (o.file.answers ≡ as') × (File.contradicted o.file ≡ b)
Right (forces f n) = Mask.bit (File.planned (written_all f)).file.live.marks.sure n ≡ true
Right (drains f n) =
    let all = f ++ (Settle ∷ []) in
    ((File.planned (written_all all)).records ≡ all) × ((File.after File.begun f).live.marks.nodes.ring.count ≡ n)
    × (Queues.is_empty (File.after File.begun all).live.marks.nodes ≡ true)
Right (exhibits f ns t) = let o = File.planned (written_all f) in (Least.least_nodes o.file.closed ≡ ns) × (listing o ≡ text t)
-- read on after the refusal: all its records, each of which passes every check but 9, and a mark that was not taken
Right (continues f t n) =
    let o = File.planned (written_all f) in
    (listing o ≡ text t) × (Reading.decoded (written_all f) ≡ Reading.records f) × Reading.Passes File.begun f
    × (Reading.marked_node true o.records n ≡ false) × (Reading.marked_node true f n ≡ true)

-- A row state before its scans: known 0, possible, lower, upper.
abbrev fresh : ℕ → ℕ → ℕ → State
fresh p l u = States.state_of (pos 0) (pos p) (pos l) (Some (pos u)) 0 0 0 0

-- Files A and B of document 01.
abbrev pub file_A : List Record
file_A = Header 5 ∷ Opens 4 (pos 6) ∷ Adds 0 4 ∷ Adds 1 3 ∷ Adds 2 2 ∷ Seal ∷ Mark 4 1 ∷ Settle ∷ []

abbrev pub file_B : List Record
file_B =
    Header 6 ∷ Opens 4 (pos 6) ∷ Adds 0 5 ∷ Adds 1 5 ∷ Adds 2 4 ∷ Adds 3 4
    ∷ Opens 5 (pos 8) ∷ Adds 0 5 ∷ Adds 1 5 ∷ Adds 2 4 ∷ Adds 3 4 ∷ Seal ∷ Mark 4 1 ∷ Mark 5 0 ∷ Settle ∷ Sift ∷ []

abbrev pub cases : List Case
cases =
    lists (Header 1 ∷ Opens 0 (pos 0) ∷ Seal ∷ []) "node 0 sure\nrow 0 0 0 0 -\nend 1 0\n"  -- P1
    ∷ lists (Header 1 ∷ Opens 0 (pos 1) ∷ Seal ∷ []) "node 0 never\nrow 0 0 0 0 -\nend 0 1\n"  -- P2
    ∷ lists (Header 1 ∷ Opens 0 (negsuc 0) ∷ Seal ∷ []) "node 0 sure\nrow 0 0 0 0 -\nend 1 0\n"  -- P3
    ∷ divides 0 0 0 ∷ divides 0 6 6  -- P4
    ∷ lists file_A "settle changed\nnode 0 sure\nnode 4 sure\nrow 0 4 9 6 -\nend 2 0\n"  -- P5
    ∷ lists (Header 3 ∷ Opens 2 (pos 5) ∷ Adds 0 5 ∷ Adds 1 4 ∷ Seal ∷ Mark 2 0 ∷ Settle ∷ [])
    "settle changed\nnode 0 never\nnode 2 never\nrow 0 0 4 0 5\nend 0 2\n"  -- P6
    ∷ conflicts (States.state_of (pos 0) (pos 9) (pos 9) None 0 0 0 0) false  -- P7
    ∷ conflicts (States.state_of (pos 0) (pos 9) (pos 10) None 0 0 0 0) true
    ∷ lists file_B "settle unchanged\nsift contradiction 11\nnode 4 sure\nnode 5 never\nrow 0 0 18 6 8\nend 1 1\n"  -- P8
    ∷ searches (term 0 301 ∷ term 1 299 ∷ term 2 200 ∷ []) (fresh 800 400 431) (Cut 12)  -- P9
    ∷ misses (term 0 301 ∷ term 1 299 ∷ term 2 200 ∷ []) (fresh 800 400 431)
    ∷ lists (Header 5 ∷ Opens 3 (pos 400) ∷ Adds 0 301 ∷ Adds 1 299 ∷ Adds 2 200 ∷ Opens 4 (pos 431) ∷ Adds 0 301 ∷ Adds 1 299 ∷ Adds 2 200
    ∷ Seal ∷ Mark 3 1 ∷ Mark 4 0 ∷ Sift ∷ [])
    "sift unchanged 12\nnode 3 sure\nnode 4 never\nrow 0 0 800 400 431\nend 1 1\n"
    ∷ weighs 49 0 ∷ weighs 50 1 ∷ weighs 4294967295 42949673  -- P10
    ∷ merges (term 3 2 ∷ term 3 2 ∷ []) (term 3 4 ∷ [])  -- P11
    ∷ residual (term 0 4 ∷ term 1 4 ∷ term 2 4 ∷ term 3 3 ∷ []) (fresh 15 5 7) Contradiction  -- P12
    ∷ []

-- The job of file A, and two nodes that wait.
abbrev pub two_wait : List Record
two_wait = Header 5 ∷ Opens 4 (pos 6) ∷ Adds 0 4 ∷ Adds 1 3 ∷ Adds 2 2 ∷ Seal ∷ Mark 0 1 ∷ Mark 1 0 ∷ []

-- Files A and B once more, as clause c of document 01 needs them: both are taken, with their answers, and A forces node 0. Where two
-- nodes wait, a settle drains both.
abbrev pub shown : List Case
shown =
    takes file_A (File.settled Changed ∷ []) false
    ∷ takes file_B (File.settled Unchanged ∷ File.sifted Contradiction 11 ∷ []) true
    ∷ forces file_A 0
    ∷ drains two_wait 2
    ∷ []

-- An empty input is accepted. A mark against what the seal decided contradicts, the next record is refused by 9, and reading on finds a mark of node 2.
abbrev pub ended : List Case
ended =
    lists [] "end 0 0\n"
    ∷ takes [] [] false
    ∷ continues (Header 3 ∷ Opens 0 (pos 0) ∷ Adds 1 1 ∷ Seal ∷ Mark 0 0 ∷ Mark 2 1 ∷ Settle ∷ [])
    "node 0 sure\nrow 0 0 1 0 -\nrefused 9 at 26\n" 2
    ∷ []

-- P9: no choice of 301, 299 and 200 lands in 400 to 430.
between : (a b c : Bool) → 400 ≤ cond a 301 0 + (cond b 299 0 + (cond c 200 0 + 0)) → cond a 301 0 + (cond b 299 0 + (cond c 200 0 + 0)) ≤ 430 → ⊥
between true true c h k = omega arith
between true false true h k = omega arith
between true false false h k = omega arith
between false true true h k = omega arith
between false true false h k = omega arith
between false false true h k = omega arith
between false false false h k = omega arith

-- Areas of one condition are added first (document 02, section 1): across a term; in a threshold of their own; at the first one's place, so that the
-- row is shared with a plain list; beyond 32 bits; and a sum that rounds to 0 is listed.
abbrev pub joining : List Case
joining =
    lists (Header 3 ∷ Opens 0 (pos 0) ∷ Areas 2 30 ∷ Adds 1 7 ∷ Areas 2 30 ∷ Seal ∷ []) "node 0 sure\nrow 0 0 8 0 -\nend 1 0\n"
    ∷ lists (Header 4 ∷ Opens 2 (pos 1) ∷ Areas 0 30 ∷ Opens 3 (pos 1) ∷ Areas 0 30 ∷ Seal ∷ []) "node 2 never\nnode 3 never\nrow 0 0 0 0 -\nend 0 2\n"
    ∷ lists (Header 4 ∷ Opens 2 (pos 1) ∷ Areas 0 60 ∷ Adds 1 1 ∷ Areas 0 60 ∷ Opens 3 (pos 2) ∷ Adds 0 1 ∷ Adds 1 1 ∷ Seal ∷ []) "row 0 0 2 0 -\nend 0 0\n"
    ∷ lists (Header 2 ∷ Opens 1 (pos 0) ∷ Areas 0 4294967295 ∷ Areas 0 4294967295 ∷ Seal ∷ []) "node 1 sure\nrow 0 0 85899346 0 -\nend 1 0\n"
    ∷ lists (Header 4 ∷ Opens 2 (pos 1) ∷ Areas 0 20 ∷ Areas 0 29 ∷ Adds 1 1 ∷ Opens 3 (pos 1) ∷ Adds 1 1 ∷ Seal ∷ []) "row 0 0 1 0 -\nrow 1 0 1 0 -\nend 0 0\n"
    ∷ []

-- Unmarked jobs have a layout (document 02, section 2), in which these nodes are true: where two thresholds list each other and the bound of a third
-- is 0; where one lists itself and one lists a later one.
abbrev pub unmarked : List Case
unmarked =
    exhibits (Header 4 ∷ Opens 0 (pos 1) ∷ Adds 1 1 ∷ Opens 1 (pos 1) ∷ Adds 0 1 ∷ Opens 2 (pos 0) ∷ Adds 0 1 ∷ Seal ∷ Settle ∷ Sift ∷ []) (2 ∷ [])
    "settle unchanged\nsift unchanged 0\nnode 2 sure\nrow 0 0 1 0 -\nrow 1 0 1 0 -\nend 1 0\n"
    ∷ exhibits (Header 3 ∷ Opens 0 (pos 3) ∷ Adds 0 3 ∷ Opens 1 (pos 2) ∷ Adds 2 2 ∷ Opens 2 (negsuc 0) ∷ Adds 2 5 ∷ Seal ∷ Settle ∷ []) (1 ∷ 2 ∷ [])
    "settle changed\nnode 1 sure\nnode 2 sure\nrow 0 0 3 0 -\nrow 1 2 2 2 -\nrow 2 5 5 0 -\nend 2 0\n"
    ∷ []

pub computed : All Right cases × All Right shown × All Right joining × All Right unmarked × All Right ended
unfolding States.first_state States.no_state States.with_known States.with_possible States.with_lower States.with_upper States.with_guards States.with_terms States.drained States.conflict States.has_residual_interval Mask.set_bit Mask.learn Mask.count Shift.shift_word Shift.word_hits Shift.shift_from Shift.union_shifted Queues.push Queues.popped Queues.queue_row Queues.next_row Marks.decide Terms.merge Terms.merged Insertion.insert Insertion.sort_by Terms.total Terms.same_terms Rows.place Rows.place_all Rows.row_number Rows.has_nonunit Rows.edges_in Rows.edges_from Links.not_after Links.order_from Links.common Links.ancestors Links.stacked Links.linked Links.links_from Links.links Links.neighbours Gcd.gcd_in Gcd.gcd Misses.misses Misses.branch_misses Residuals.check_from Residuals.residual_check Residuals.fits_from Residuals.suffix_from Residuals.force_term Residuals.force_from Residuals.threshold_residual Searches.plan Searches.chosen Searches.search_from Searches.search Scan.scan Row.threshold_guards Row.true_terms Row.false_terms Row.scans Row.threshold_row Row.wants_residual Between.run_with Between.run_row Between.bounded Between.threshold_guard Between.condition_from Between.threshold_condition Between.prefixes_from Between.threshold_prefixes Between.first_states Between.seed_from Between.guard_of Drain.seal Drain.mark Drain.take_node Drain.take_row Drain.drain Sift.try_row Sift.sift_from File.begun Job.last_node_of Job.last_list Job.all_terms Checks.first File.refusal Job.on_last Area.hundredths Area.without Area.joined Layout.value Least.among Least.asked_nodes Least.grown File.sealed_file File.marked_file File.settled_file File.sifted_file File.act File.apply File.read_from File.file_of File.planned File.after Listing.text Decimal.digits Listing.answer_lines Listing.node_lines Listing.row_lines Listing.listing little_endian Reading.decode_from Reading.decoded Reading.plain Reading.plainly Reading.Passes Reading.marked_node bytes twos written written_all
computed = (
  (refl, (refl, (refl, (refl, (refl, (refl, (refl, (refl, (refl, (refl, (refl, (nothing-fits, (refl, (refl, (refl, (refl, (refl, (refl, tt)))))))))))))))))),
  ((refl, refl, refl, refl), ((refl, refl, refl, refl), (refl, ((refl, refl, refl), tt)))),
  (refl, (refl, (refl, (refl, (refl, tt))))),
  ((refl, refl), ((refl, refl), tt)),
  (refl, ((refl, refl, refl, refl), ((refl, refl, (refl, (refl, (refl, (refl, (refl, (refl, (refl, tt))))))), refl, refl), tt))),
)
  where
    nothing-fits : Right (misses (term 0 301 ∷ term 1 299 ∷ term 2 200 ∷ []) (fresh 800 400 431))
    nothing-fits choice h = between (choice 0) (choice 1) (choice 2) h.0 h.1
