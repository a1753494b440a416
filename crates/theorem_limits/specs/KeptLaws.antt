-- What each record that is taken keeps: queues and gcds as long as they were cleared, answers within the limit.
use Rattle.std.specs.Prelude.{ℕ, ◌+◌, ◌%◌, ◌≤◌, ◌≡◌, refl, Bool, true, false, cond, get_or, set, eqb, leb}
use Rattle.std.proofs.Common.{arith, sym, ap, ◌∙◌, subst, length-append, length-set, leb-false}
use mathlib.Core.List.{List, [], ◌∷◌, ◌++◌}
use Rattle.std.proofs.Math.ListN.{length}
use Rattle.std.proofs.lemmas.List.{length-replicate}
use Rattle.numeric.specs.Area.{job_of}
use Rattle.memory.specs.Limits.{list_terms, max_gcds, max_nodes, max_thresholds}
use Rattle.state.specs.declared.Step.{Step}
use Rattle.state.specs.declared.Step.TheVariants.{Unchanged, Changed, Contradiction}
use Rattle.state.specs.declared.State.{State}
use Rattle.queues.specs.Queue.{Queue, Rows, rows, push, popped, queue_row, next_row, oldest}
use Rattle.queues.specs.Marks.{Marks, waiting, decide}
use Rattle.queues.proofs.MarksLaws.{decide-waits}
use Rattle.rows.specs.Rows.{Row, no_row}
use Rattle.row_runs.specs.Row.{wants_residual}
use Rattle.intervals.proofs.ForceLaws.{gcds_length}
use Rattle.row_moves.specs.Between.{Index, Live, live, state_at, residual_queued, run_with, run_row}
use Rattle.drain.specs.Drain.{index_of}
use Rattle.row_moves.specs.WalkLaws.{Moves}
use Rattle.row_moves.specs.KeepsLaws.{Small, run_named}
use Rattle.drain.specs.Drain as Drain
use Rattle.drain.proofs.DrainLaws.{seal_keeps, keep_turn, settle_keeps}
use Rattle.drain.specs.Sift.{try_row}
use Rattle.drain.specs.Sift as Sift
use Rattle.drain.specs.SiftLaws.{try_leaves, sift_keeps}
use Rattle.drain.specs.Steps.{try_terms}
use Rattle.records.specs.declared.Record.{Record}
use Rattle.records.specs.Facts.{Action, begins, changes, closes, decides, settles, sifts, idles, action, facts}
use Rattle.checks.specs.Checks.{too_many}
use Rattle.files.specs.File.{File, Answer, settled, sifted, begun, standing, refusal, sealed_file, marked_file, settled_file, sifted_file, act, apply, after, read_from, file_of, Passed}
use Rattle.files.specs.FileLaws.{read_taken}
use Rattle.theorem_ends.specs.KeepsLaws.{residual-named}
use Rattle.theorem_limits.specs.Good.{Good}
use Rattle.theorem_ends.specs.Sound.{Indexed}
use Rattle.theorem_limits.specs.BuiltLaws.{indexed}
use Rattle.theorem_limits.specs.SizeLaws.{row-terms_few}
use Rattle.theorem_limits.specs.FilesLaws.{good_begun, taken, good_apply, read_passed}

-- ---- QUEUES KEEP THEIR LENGTH

pub record Long (v : Live) : Type 0 where
  pub nodes : length v.marks.nodes.items ≡ max_nodes
  pub dirty : length v.dirty.queue.items ≡ max_thresholds
  pub residuals : length v.residuals.queue.items ≡ max_thresholds

waiting_long : (k : Step) (q : Queue) (n : ℕ) → length (waiting k q n).items ≡ length q.items
unfolding push
waiting_long Unchanged q n = refl
waiting_long Changed q n = length-set q.items ((q.ring.head + q.ring.count) % max_nodes) n
waiting_long Contradiction q n = refl

decide_long : (value : Bool) (m : Marks) (n : ℕ) → length (decide value m n).marks.nodes.items ≡ length m.nodes.items
decide_long value m n =
    ap (λ (q : Queue). length q.items) (decide-waits value m n) ∙ waiting_long (decide value m n).step m.nodes n

row_long : (q : Rows) (r : ℕ) → length (queue_row q r).queue.items ≡ length q.queue.items
unfolding queue_row push
row_long q r = by (eqb (get_or q.pending r 0) 1)
  where
    by : (b : Bool) → length (cond b q (rows (push max_thresholds q.queue r) (set q.pending r 1))).queue.items ≡ length q.queue.items
    by true = refl
    by false = length-set q.queue.items ((q.queue.ring.head + q.queue.ring.count) % max_thresholds) r

residual_long : (row : Row) (s : State) (q : Rows) (r : ℕ) → length (residual_queued row s q r).queue.items ≡ length q.queue.items
residual_long row s q r = by (wants_residual row s)
  where
    by : (b : Bool) → length (cond b (queue_row q r) q).queue.items ≡ length q.queue.items
    by true = row_long q r
    by false = refl

module _ (x : Index) where
  long-run : (v : Live) (r : ℕ) → Long v → Long (run_row x v r).live
  unfolding run_with run_row
  long-run v r l = record {
    nodes = run_named (λ (m : Marks). length m.nodes.items ≡ max_nodes) (λ (n : ℕ). Unit {0}) (λ value m n h p. decide_long value m n ∙ p) x (λ q h. record { guards = λ g i. tt; terms = λ t i. tt }) v r l.nodes;
    dirty = l.dirty;
    residuals = residual_long (get_or x.rows r no_row) (state_at v r) v.residuals r ∙ l.residuals;
  }

  moves : Moves x (λ (r : ℕ). Unit {0}) Long
  moves = record {
    run = λ v r k l. long-run v r l;
    put = λ v r s l. record { nodes = l.nodes; dirty = l.dirty; residuals = l.residuals };
    wait = λ v r k l. record { nodes = l.nodes; dirty = row_long v.dirty r ∙ l.dirty; residuals = l.residuals };
  }

  long-settle : (v : Live) → Long v → Long (Drain.settle x v).live
  unfolding popped next_row
  long-settle v l =
      settle_keeps x Long (keep_turn x Long moves (λ u k. record { nodes = k.nodes; dirty = k.dirty; residuals = k.residuals }) (λ u k. record { nodes = k.nodes; dirty = k.dirty; residuals = k.residuals })) v l

  long-seal : (v : Live) → Long v → Long (Drain.seal x v).live
  long-seal v l = seal_keeps x Long (λ u r h k. long-run u r k) v (record { nodes = l.nodes; dirty = l.dirty; residuals = l.residuals })

  -- ---- a sift: its queues, and its gcds

  module _ (ix : Indexed x) (few : (r : ℕ) → length (get_or x.rows r no_row).terms ≤ list_terms) where
    abbrev Sifts : Live → List ℕ → ℕ → Type 0
    Sifts v gcds visits = Long v × (length gcds ≡ max_gcds)

    sifts-try : (v : Live) (gcds : List ℕ) (visits : ℕ) → Sifts v gcds visits → let t = try_row x v gcds visits in Sifts t.live t.gcds t.visits
    unfolding next_row popped
    sifts-try v gcds visits l =
        let r = oldest v.residuals.queue in
        let ts = try_terms x v in
        try_leaves x v gcds visits (λ (w : Live) (g : List ℕ). Long w × (length g ≡ max_gcds)) (
          record {
            nodes = residual-named (λ (m : Marks). length m.nodes.items ≡ max_nodes) Small (λ value m n h p. decide_long value m n ∙ p) ts (ix.conditions r) (state_at v r) v.marks gcds l.0.nodes;
            dirty = l.0.dirty;
            residuals = l.0.residuals;
          },
          gcds_length ts (state_at v r) v.marks gcds (omega (arith, few r, l.1)) ∙ l.1,
        )

    sifts-long : (v : Live) (gcds : List ℕ) → Long v → length gcds ≡ max_gcds → let s = Sift.sift x v gcds in Sifts s.live s.gcds s.visits
    sifts-long v gcds l e = sift_keeps x Sifts (λ u g m p. (long-settle u p.0, p.1)) (λ u g m i p. sifts-try u g m p) v gcds (l, e)

-- ---- THE FILE

-- All that the buffers have to hold fits them.
pub record Kept (f : File) : Type 0 where
  pub good : Good f
  pub live : Long f.live
  pub gcds : length f.gcds ≡ max_gcds
  pub answers : length f.answers ≤ 64

pub kept-begun : Kept begun
unfolding begun
kept-begun = record {
  good = good_begun;
  live = record { nodes = length-replicate {A = ℕ} max_nodes 0; dirty = length-replicate {A = ℕ} max_thresholds 0; residuals = length-replicate {A = ℕ} max_thresholds 0 };
  gcds = length-replicate {A = ℕ} max_gcds 0;
  answers = omega arith;
}

module _ (f : File) (k : Kept f) where
  one_more : (a : Answer) → leb 64 (length f.answers) ≡ false → length (f.answers ++ (a ∷ [])) ≤ 64
  one_more a h = omega (arith, length-append f.answers (a ∷ []), leb-false 64 (length f.answers) h)

  kept_by_lem : (a : Action) → too_many (standing f) (facts a).counts ≡ false → Good (act f a) → Kept (act f a)
  unfolding act sealed_file marked_file settled_file sifted_file Drain.mark
  kept_by_lem (begins n) h g = record { good = g; live = k.live; gcds = k.gcds; answers = k.answers }
  kept_by_lem (changes c) h g = record { good = g; live = k.live; gcds = k.gcds; answers = k.answers }
  kept_by_lem closes h g = record {
    good = g;
    live = long-seal (index_of (job_of f.draft)) f.live k.live;
    gcds = k.gcds;
    answers = k.answers;
  }
  kept_by_lem (decides n v) h g = record {
    good = g;
    live = record { nodes = decide_long (eqb v 1) f.live.marks n ∙ k.live.nodes; dirty = k.live.dirty; residuals = k.live.residuals };
    gcds = k.gcds;
    answers = k.answers;
  }
  kept_by_lem settles h g =
      let x = index_of f.closed in
      record {
        good = g;
        live = long-settle x f.live k.live;
        gcds = k.gcds;
        answers = one_more (settled (Drain.settle x f.live).step) h;
      }
  kept_by_lem sifts h g =
      let x = index_of f.closed in
      let s = Sift.sift x f.live f.gcds in
      let q = sifts-long x (indexed f.closed k.good.closed) (row-terms_few f.closed k.good.closed) f.live f.gcds k.live k.gcds in
      record { good = g; live = q.0; gcds = q.1; answers = one_more (sifted s.step s.visits) h }
  kept_by_lem (idles x) h g = record { good = g; live = k.live; gcds = k.gcds; answers = k.answers }

  pub kept-apply : (r : Record) → refusal f r ≡ 0 → Kept (apply f r)
  unfolding apply
  kept-apply r h = kept_by_lem (action r) (taken f r h).room (good_apply f k.good r h)

pub kept-after : (f : File) (rs : List Record) → Kept f → Passed f rs → Kept (after f rs)
unfolding after
kept-after f [] k p = k
kept-after f (r ∷ rs) k p = kept-after (apply f r) rs (kept-apply f k r p.0) p.1

-- What the records from an offset on leave fits the buffers if the file before them does.
pub kept_read : (n o : ℕ) (bytes : List ℕ) (f : File) → Kept f → Kept (read_from n o bytes f []).file
unfolding after
kept_read n o bytes f k =
    subst Kept (sym (read_taken n o bytes f f [] refl)) (kept-after f (read_from n o bytes f []).records k (read_passed n o bytes f f [] refl tt))

-- WHAT EVERY FILE LEAVES FITS THE BUFFERS
pub kept-file : (input : List ℕ) → Kept (file_of input).file
unfolding file_of
kept-file input = kept_read (length input) 0 input begun kept-begun
