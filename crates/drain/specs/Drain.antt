-- Seal, mark and settle: rows are run once, nodes are decided, and what waits is drained, in the order of document 01.
use Rattle.std.specs.Prelude.{ℕ, zero, suc, ◌^◌, Bool, true, false, ◌&&◌}
use Rattle.memory.specs.Limits.{max_nodes}
use Rattle.numeric.specs.Threshold.{Job}
use Rattle.state.specs.declared.Step.{Step}
use Rattle.state.specs.declared.Step.TheVariants.{Unchanged}
use Rattle.state.specs.Step.{joined, contradicts}
use Rattle.queues.specs.Queue.{is_empty, oldest, popped, next_row}
use Rattle.queues.specs.Marks.{marks, decide}
use Rattle.rows.specs.Rows.{rows_of}
use Rattle.links.specs.Links.{links}
use Rattle.row_moves.specs.Between.{Index, Live, Did, did, first_states, seed_from, guard_of, threshold_condition, threshold_prefixes, with_dirty_rows, with_marks, with_states}

-- What a seal builds of a job.
abbrev pub index_of : Job → Index
index_of j = record { thresholds = j.thresholds; rows = rows_of j; links = links (rows_of j) }

unfoldable pub seal : Index → Live → Did
seal x v = seed_from x 0 x.rows (with_states v (first_states 0 x.rows v.states)) Unchanged

-- A mark only decides its node, which then waits.
unfoldable pub mark : Live → ℕ → Bool → Did
mark v n value = did (with_marks v (decide value v.marks n).marks) (decide value v.marks n).step

-- The oldest node is taken: its guard, then, unless that contradicts, its condition.
unfoldable pub take_node : Index → Live → Did
take_node x v =
    let n = oldest v.marks.nodes in
    let m = marks v.marks.sure v.marks.never (popped max_nodes v.marks.nodes) in
    let g = guard_of x (with_marks v m) x.thresholds n in
    elim (contradicts g.step) [
      | true ↦ g
      | false ↦
          let c = threshold_condition x g.live n in
          did c.live (joined g.step c.step)
    ]

-- The oldest row is taken, and hands on its bounds.
unfoldable pub take_row : Index → Live → Did
take_row x v = threshold_prefixes x (with_dirty_rows v (next_row v.dirty)) (oldest v.dirty.queue)

-- Rows wait until no node does.
abbrev pub turn : Index → Live → Did
turn x v = elim (is_empty v.marks.nodes) [ true ↦ take_row x v | false ↦ take_node x v ]

abbrev pub at_rest : Live → Bool
at_rest v = is_empty v.marks.nodes && is_empty v.dirty.queue

-- Turns until nothing waits or one contradicts; the first argument bounds their number.
unfoldable pub drain : ℕ → Index → Live → Step → Did
drain zero x v k = did v k
drain (suc n) x v k =
    elim (at_rest v) [
      | true ↦ did v k
      | false ↦
          let d = turn x v in
          elim (contradicts d.step) [ true ↦ d | false ↦ drain n x d.live (joined k d.step) ]
    ]

-- More turns than any job can take: each takes a waiting node or row, a node waits once, and a row waits again only when
-- one of 2 * 1,024 bounds has moved inside a range of 2 ^ 53.
abbrev pub turns : ℕ
turns = 2 ^ 70

abbrev pub settle : Index → Live → Did
settle x v = drain turns x v Unchanged
