-- WHERE NOTHING WAITS: the nodes and figures of a file are a rest of the table, the only one that its start leads to. A settling that
-- does not contradict leaves such a file.
use Rattle.std.specs.Prelude.{ℕ, ◌<◌, ◌≡◌, refl, true, false, length}
use Rattle.numeric.specs.Threshold.{Job}
use Rattle.numeric.specs.Least.{NodesRise}
use Rattle.queues.specs.Waiting.{Flags}
use Rattle.rows.specs.Rows.{rows_of}
use Rattle.row_moves.specs.Between.{Live, state_at}
use Rattle.drain.specs.Drain.{index_of, at_rest}
use Rattle.records.specs.declared.Record.TheVariants.{Settle}
use Rattle.files.specs.File.{File, contradicted, refusal, settled_file, act, apply}
use Rattle.theorem_limits.specs.Good.{Fits}
use Rattle.theorem_limits.specs.FilesLaws.{taken, good_apply, rests_settle}
use Rattle.theorem_table.specs.Table.{Table, known_of, possible_of, AtRest, Ended}
use Rattle.theorem_table.proofs.TableLaws.{le_both, only_end, conflict_up}
use Rattle.theorem_follows.specs.DecideLaws.{Broken}
use Rattle.theorem_follows.specs.StandsLaws.{table_at}
use Rattle.theorem_demands.specs.TableJobsLaws.{job_built, job_ordered, job_single}
use Rattle.theorem_demands.specs.TableTurnsLaws as Turned
use Rattle.theorem_demands.specs.TableTurnsLaws.{Steady}
use Rattle.theorem_demands.specs.TableRecordsLaws.{From, Keeps, settle_from}

pub record Still (j : Job) (s : Table) (v : Live) : Type 0 where
  pub fits : Fits j
  pub rises : NodesRise j.thresholds
  pub steady : Steady (index_of j) s v
  pub rest : at_rest v ≡ true
  pub flags : Flags v.dirty

module _ (j : Job) (s : Table) (v : Live) (h : Still j s v) where
  pub rests : AtRest (rows_of j) (table_at v)
  rests = Turned.rests j (index_of j) (job_built j) (job_ordered j h.fits) (job_single j h.rises) s v h.steady h.rest h.flags

  pub every_end : {u : Table} → Ended (rows_of j) s u → u ≡ table_at v
  every_end e = only_end (rows_of j) h.steady.2.stands.follows h.steady.2.stands.above rests e

  -- no conflict follows, so none is reached
  pub not_broken : Broken (rows_of j) s → ⊥
  not_broken (t, f, c) = rests.0 (conflict_up (rows_of j) t (table_at v) (f (table_at v) h.steady.2.stands.above rests) c)

  pub known_is : (r : ℕ) → r < length (rows_of j) → (state_at v r).known ≡ known_of (rows_of j) (table_at v) r
  known_is r i = Turned.known_is j (index_of j) (job_built j) (job_ordered j h.fits) (job_single j h.rises) s v h.steady h.rest h.flags r i

  pub possible_is : (r : ℕ) → r < length (rows_of j) → (state_at v r).possible ≡ possible_of (rows_of j) (table_at v) r
  possible_is r i = Turned.possible_is j (index_of j) (job_built j) (job_ordered j h.fits) (job_single j h.rises) s v h.steady h.rest h.flags r i

-- TWO that began alike end alike
pub one_table : (j : Job) (s : Table) (v w : Live) → Still j s v → Still j s w → table_at v ≡ table_at w
one_table j s v w h k =
    le_both (table_at v) (table_at w) (h.steady.2.stands.follows (table_at w) k.steady.2.stands.above (rests j s w k))
    (k.steady.2.stands.follows (table_at v) h.steady.2.stands.above (rests j s v h))

-- A SETTLING THAT DOES NOT CONTRADICT
pub settle_still : (f : File) → Keeps f → refusal f Settle ≡ 0 → (s : Table) → From f s → contradicted (apply f Settle) ≡ false → Still f.closed s (apply f Settle).live
unfolding apply act settled_file
settle_still f k h s from c = record {
  fits = k.good.closed;
  rises = k.closed;
  steady = (settle_from f k s (taken f Settle h) from).0 refl c;
  rest = rests_settle f k.good c;
  flags = (good_apply f k.good Settle h).live.dirty;
}
