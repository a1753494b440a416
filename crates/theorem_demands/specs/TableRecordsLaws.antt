-- EVERY RECORD OF A FILE keeps the invariant of draining, from the nodes that are decided and from any other start that it began with;
-- a seal, a mark or a settling that contradicts shows that a conflict follows from its start.
use Rattle.std.specs.Prelude.{ℕ, ◌≡◌, Bool, true, false, List, [], ◌∷◌, ◌++◌, length, eqb}
use Rattle.std.proofs.Common.{arith, sym, subst}
use Rattle.std.proofs.Math.Path.{refl}
use Rattle.numeric.specs.Threshold.{Job}
use Rattle.numeric.specs.Area.{Draft, job_of}
use Rattle.numeric.specs.Least.{NodesRise}
use Rattle.rows.specs.Rows.{rows_of}
use Rattle.row_moves.specs.Between.{Live}
use Rattle.drain.specs.Drain as Drain
use Rattle.drain.specs.Drain.{index_of}
use Rattle.records.specs.declared.Record.{Record}
use Rattle.records.specs.Facts.{Change, opens, adds, Action, begins, changes, closes, decides, settles, sifts, idles, action, facts}
use Rattle.job.specs.Job.{changed}
use Rattle.files.specs.File.{File, contradicted, begun, refusal, sealed_file, marked_file, settled_file, sifted_file, act, apply, after, Passed}
use Rattle.theorem_limits.specs.BlankLaws.{blank-begun}
use Rattle.theorem_limits.specs.BuiltLaws.{fits_of}
use Rattle.theorem_limits.specs.FilesLaws.{good_begun, both, Taken, taken, building_turn, change_turn, serving_turn, node_small, good_apply}
use Rattle.theorem_limits.specs.Good.{Good}
use Rattle.theorem_table.specs.Table.{Table}
use Rattle.theorem_follows.specs.DecideLaws.{Broken, decide_as}
use Rattle.theorem_follows.specs.FirstLaws.{Undrained, undrained_from, undrained_none}
use Rattle.theorem_demands.specs.TableJobsLaws.{rises_opens, rises_on, rises_weighed, job_built, job_ordered, job_single}
use Rattle.theorem_demands.specs.TableTurnsLaws.{Steady, settle_goes}
use Rattle.theorem_demands.specs.TableSealsLaws.{own_start, seal_goes}
use Rattle.theorem_demands.specs.TableSiftsLaws.{mark_goes, steady_own, sift_keeps}

-- ---- what a file keeps

-- From a start: what is sealed and not contradicted stands by the rules.
abbrev pub From : File → Table → Type 0
From f s = f.sealed ≡ true → contradicted f ≡ false → Steady (index_of f.closed) s f.live

-- If it contradicted, a conflict follows.
abbrev pub Breaks : File → Table → Type 0
Breaks f s = contradicted f ≡ true → Broken (rows_of f.closed) s

pub record Keeps (f : File) : Type 0 where
  pub good : Good f
  pub rises : NodesRise f.draft.thresholds
  pub closed : NodesRise f.closed.thresholds
  pub undrained : f.sealed ≡ false → Undrained 0 f.live
  pub late : contradicted f ≡ true → f.sealed ≡ true
  pub steady : From f (own_start f.live)

pub keeps_begun : Keeps begun
unfolding begun
keeps_begun = record {
  good = good_begun;
  rises = tt;
  closed = tt;
  undrained = λ e. undrained_none begun.live good_begun.live.waits blank-begun.states blank-begun.bits;
  late = λ e. absurd (both e refl);
  steady = λ e. absurd (both e refl);
}

module _ (f : File) (k : Keeps f) where
  -- A SEAL
  pub seal_from : Taken f (facts closes) → From (act f closes) (own_start f.live) × Breaks (act f closes) (own_start f.live)
  unfolding act sealed_file
  seal_from t =
      let j = job_of f.draft in
      let a = seal_goes j (fits_of k.good.draft) (rises_weighed f.draft.thresholds k.rises) f.live k.good.live (undrained_from 0 (length (rows_of j)) f.live (omega arith) (k.undrained (building_turn f t.turn).1)) in
      (λ e c. a.0 c, a.1)

  -- A MARK
  pub mark_from : (n v : ℕ) (s : Table) → Taken f (facts (decides n v)) → From f s
      → From (act f (decides n v)) (decide_as (eqb v 1) s n) × Breaks (act f (decides n v)) (decide_as (eqb v 1) s n)
  unfolding act marked_file
  mark_from n v s t p =
      let a = mark_goes (index_of f.closed) s f.live n (eqb v 1) (node_small f k.good n t.nodes) (p (serving_turn f t.turn) t.fine) in
      (λ e c. a.0 c, a.1)

  -- A SETTLING
  pub settle_from : (s : Table) → Taken f (facts settles) → From f s → From (act f settles) s × Breaks (act f settles) s
  unfolding act settled_file
  settle_from s t p =
      let j = f.closed in
      let a = settle_goes j (index_of j) (job_built j) (job_ordered j k.good.closed) (job_single j k.closed) s f.live (p (serving_turn f t.turn) t.fine) in
      (λ e c. a.0 c, a.1)

  -- its own start
  own-marked : (value : Bool) (n : ℕ) (v w : Live) → Steady (index_of f.closed) (decide_as value (own_start v) n) w → Steady (index_of f.closed) (own_start w) w
  own-marked true n v w h = steady_own (index_of f.closed) _ _ w h
  own-marked false n v w h = steady_own (index_of f.closed) _ _ w h

  rises-changed : (c : Change) → Taken f (facts (changes c)) → NodesRise (changed c f.draft.thresholds)
  rises-changed (opens n b) t = rises_opens f.draft.thresholds (record { node = n; bound = b; terms = [] }) k.rises t.rising
  rises-changed (adds x) t = rises_on (λ l. l ++ (x ∷ [])) f.draft.thresholds k.rises

  -- before the seal; behind it
  early : (h : File) → Good h → NodesRise h.draft.thresholds → h.closed ≡ f.closed → h.live ≡ f.live → h.sealed ≡ false → f.sealed ≡ false → contradicted h ≡ false → Keeps h
  early h g r j l e q c = record {
    good = g;
    rises = r;
    closed = subst (λ (y : Job). NodesRise y.thresholds) (sym j) k.closed;
    undrained = λ z. subst (Undrained 0) (sym l) (k.undrained q);
    late = λ z. absurd (both z c);
    steady = λ z. absurd (both z e);
  }

  later : (h : File) → Good h → h.draft ≡ f.draft → NodesRise h.closed.thresholds → h.sealed ≡ true → From h (own_start h.live) → Keeps h
  later h g j r e from = record {
    good = g;
    rises = subst (λ (y : Draft). NodesRise y.thresholds) (sym j) k.rises;
    closed = r;
    undrained = λ z. absurd (both e z);
    late = λ z. e;
    steady = from;
  }

  kept : (a : Action) → Taken f (facts a) → Good (act f a) → Keeps (act f a)
  unfolding act sealed_file marked_file settled_file sifted_file Drain.mark
  kept (begins n) t g = let q = k.good.unstarted t.turn in early (act f (begins n)) g tt refl refl q q t.fine
  kept (changes c) t g = let q = (change_turn f c t).1 in early (act f (changes c)) g (rises-changed c t) refl refl q q t.fine
  kept closes t g =
      later (act f closes) g refl (rises_weighed f.draft.thresholds k.rises) refl (λ e c. steady_own (index_of (job_of f.draft)) _ _ (act f closes).live ((seal_from t).0 e c))
  kept (decides n v) t g =
      later (act f (decides n v)) g refl k.closed refl
      (λ e c. own-marked (eqb v 1) n f.live (act f (decides n v)).live ((mark_from n v (own_start f.live) t k.steady).0 e c))
  kept settles t g =
      later (act f settles) g refl k.closed refl
      (λ e c. steady_own (index_of f.closed) _ _ (act f settles).live ((settle_from (own_start f.live) t k.steady).0 e c))
  kept sifts t g =
      later (act f sifts) g refl k.closed refl
      (λ e c. sift_keeps f.closed k.good.closed k.closed f.live f.gcds (k.steady (serving_turn f t.turn) t.fine) c)
  kept (idles x) t g = k

  -- EVERY RECORD
  pub keeps_apply : (r : Record) → refusal f r ≡ 0 → Keeps (apply f r)
  unfolding apply
  keeps_apply r h = kept (action r) (taken f r h) (good_apply f k.good r h)

-- AND EVERY LIST OF THEM
pub keeps_after : (f : File) (rs : List Record) → Keeps f → Passed f rs → Keeps (after f rs)
unfolding after
keeps_after f [] k p = k
keeps_after f (r ∷ rs) k p = keeps_after (apply f r) rs (keeps_apply f k r p.0) p.1
