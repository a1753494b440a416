-- What every decision of a node below 4,096 keeps, every move keeps: ordered rows name no other.
use Rattle.std.specs.Prelude.{ℕ, ◌<◌, Bool, length, get_or}
use Rattle.memory.specs.Limits.{max_nodes}
use Rattle.numeric.specs.Threshold.{Threshold}
use Rattle.queues.specs.Marks.{Marks, decide}
use Rattle.rows.specs.Rows.{no_row}
use Rattle.row_moves.specs.Between.{Index, Live, run_row, threshold_guard, threshold_condition, threshold_prefixes}
use Rattle.row_moves.specs.KeepsLaws.{Small, run_named, guard-named, condition_named, prefixes_named}
use Rattle.row_moves.specs.Ready.{Names}
use Rattle.theorem_follows.specs.Ordered.{Ordered}

module _ (P : Marks → Type 0) (each : (value : Bool) (m : Marks) (n : ℕ) → n < max_nodes → P m → P (decide value m n).marks)
    (x : Index) (ordered : (r : ℕ) → r < length x.rows → Ordered (get_or x.rows r no_row)) where
  names : (r : ℕ) → r < length x.rows → Names Small (get_or x.rows r no_row)
  names r h = record { guards = (ordered r h).guards; terms = (ordered r h).terms }

  pub run_keeps : (v : Live) (r : ℕ) → P v.marks → P (run_row x v r).live.marks
  run_keeps v r p = run_named P Small each x names v r p

  pub guard_keeps : (v : Live) (t : Threshold) → P v.marks → P (threshold_guard x v t).live.marks
  guard_keeps v t p = guard-named P Small each x names v t p

  pub condition_keeps : (v : Live) (n : ℕ) → P v.marks → P (threshold_condition x v n).live.marks
  condition_keeps v n p = condition_named P Small each x names v n p

  pub prefixes_keeps : (v : Live) (row : ℕ) → P v.marks → P (threshold_prefixes x v row).live.marks
  prefixes_keeps v row p = prefixes_named P Small each x names v row p
