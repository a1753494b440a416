-- CLAUSE A, its second line: the call leaves every buffer as long as it was, since all that it lays into one fits there.
use Rattle.std.specs.Prelude.{ℕ, ◌≤◌, ◌≡◌, refl, Bool, true, false, cond, drop, replicate, pos}
use native.Mathlib.Omega.{arith}
use Rattle.std.proofs.Common.{sym, subst, ⊎_elim, length-append, length-drop}
use mathlib.Core.List.{List, [], ◌∷◌, ◌++◌, map}
use Rattle.std.proofs.Math.ListN.{length, length-map}
use Rattle.base.specs.TestLaws.{true-false}
use Rattle.base.specs.Laid.{over, join_all, ends, pairs, triples, quads, numbers}
use Rattle.numeric.specs.Threshold.{Term, Threshold}
use Rattle.numeric.specs.Area.{job_of}
use Rattle.rows.specs.Rows.{Row, Guard, rows_of}
use Rattle.rows.specs.Laid.{conditions, weights, term_lists, guard_lists, guard_bounds_of, guard_nodes_of, threshold_of, row_of_node, edge_lists, edge_row}
use Rattle.links.specs.Links.{neighbour_lists}
use Rattle.base.specs.LaidLaws.{length-numbers}
use Rattle.job.specs.RowsGivenLaidLaws.{length-ends}
use Rattle.state.specs.State.{figures_of, cursors_of}
use Rattle.memory.specs.Limits.{max_nodes, max_terms, max_thresholds, max_gcds, max_links}
use Rattle.memory.specs.Buffers.{Work, raw_lengths, built_lengths, kept_lengths, fits, zeros, cleared, clear_raw, clear_built, clear_kept}
use Rattle.memory.specs.LengthsLaws.{Sized, fits_sized}
use Rattle.job.specs.Job.{all_terms}
use Rattle.files.specs.File.{File, file_of}
use Rattle.job.specs.JobBuffers.{lists_of, raw_of, built_with, built_of}
use Rattle.files.specs.Contents.{answer_number, answer_visits, kept_of, laid, Out, whole}
use Rattle.theorem_limits.specs.BuiltLaws.{fits_of, rows_few}
use Rattle.theorem_limits.specs.SizeLaws.{zeros_long, terms_few, guards_few, edges_most, links-most, pairs_few, triples_few, quads_few}
use Rattle.theorem_demands.specs.MemoryLaws.{SameLengths}
use Rattle.theorem_demands.specs.RefusalLaws.{served_when, untouched_when}
use Rattle.theorem_limits.specs.KeptLaws.{Kept, kept-file}

-- A list that fits, laid into a cleared buffer.
pub laid_long : {X : Type 0} (z : X) (l b : List X) (n : ℕ) → length l ≤ n → n ≤ length b → length (over l (zeros z b)) ≡ length b
laid_long z l b n h k =
    omega (arith, length-append l (drop (length l) (zeros z b)), length-drop (length l) (zeros z b), zeros_long z b)

-- ---- the job

raw-terms : (ts : List Threshold) → length (join_all (map (λ (t : Threshold). t.terms) ts)) ≡ all_terms ts
unfolding join_all all_terms
raw-terms [] = refl
raw-terms (t ∷ ts) = omega (arith, length-append t.terms (join_all (map (λ (u : Threshold). u.terms) ts)), raw-terms ts)

module _ (f : File) (k : Kept f) (w : Work) (s : Sized w) where
  raw-long : raw_lengths (raw_of (job_of f.draft) (clear_raw w.raw)) ≡ raw_lengths w.raw
  unfolding raw_of clear_raw
  raw-long =
      let b = w.raw.lists in
      let j = job_of f.draft in
      let fits = fits_of k.good.draft in
      let ts = j.thresholds in
      let l = join_all (lists_of j) in
      let nodes = map (λ (t : Threshold). t.node) ts in
      let few = fits.few in
      let p0 = laid_long 0 (conditions l) b.raw-conditions max_terms (omega (arith, length-map l (λ (t : Term). t.condition), raw-terms ts, fits.terms)) (s 0) in
      let p1 = laid_long 0 (weights l) b.raw-weights max_terms (omega (arith, length-map l (λ (t : Term). t.weight), raw-terms ts, fits.terms)) (s 1) in
      let p2 = laid_long (replicate 2 0) (pairs nodes (ends 0 (lists_of j))) b.thresholds max_thresholds
      (omega (arith, pairs_few nodes (ends 0 (lists_of j)), length-map ts (λ (t : Threshold). t.node), few)) (s 2) in
      let p3 = laid_long (pos 0) (map (λ (t : Threshold). t.bound) ts) w.raw.bounds max_thresholds (omega (arith, length-map ts (λ (t : Threshold). t.bound), few)) (s 3) in
      λ i. p0 i ∷ p1 i ∷ p2 i ∷ p3 i ∷ []

  -- ---- what the seal builds

  built-long : built_lengths (built_of f.closed (clear_built w.built)) ≡ built_lengths w.built
  unfolding built_with clear_built
  built-long =
      let b = w.built.held in
      let rs = rows_of f.closed in
      let ts = f.closed.thresholds in
      let m = f.closed.nodes in
      let l = join_all (term_lists rs) in
      let g = join_all (guard_lists rs) in
      let e = join_all (edge_lists m rs) in
      let few : length rs ≤ max_thresholds = rows_few f.closed k.good.closed in
      let terms : length l ≤ max_terms = omega (arith, terms_few f.closed, k.good.closed.terms) in
      let guards : length g ≤ max_thresholds = omega (arith, guards_few f.closed, k.good.closed.few) in
      let firsts = map (threshold_of 0 ts) (numbers 0 m) in
      let seconds = map (row_of_node rs ts) (numbers 0 m) in
      let lasts = ends 0 (edge_lists m rs) in
      let p0 = laid_long 0 (conditions l) b.row-conditions max_terms (omega (arith, length-map l (λ (t : Term). t.condition), terms)) (s 4) in
      let p1 = laid_long 0 (weights l) b.row-weights max_terms (omega (arith, length-map l (λ (t : Term). t.weight), terms)) (s 5) in
      let p2 = laid_long (replicate 3 0) (triples (ends 0 (term_lists rs)) (ends 0 (guard_lists rs)) (ends 0 (neighbour_lists rs))) b.rows max_thresholds
      (omega (
        arith,
        triples_few (ends 0 (term_lists rs)) (ends 0 (guard_lists rs)) (ends 0 (neighbour_lists rs)),
        length-ends 0 (term_lists rs),
        length-map rs (λ (r : Row). r.terms),
        few,
      )) (s 6) in
      let p3 = laid_long (pos 0) (guard_bounds_of rs) b.guard_bounds max_thresholds (omega (arith, length-map g (λ (x : Guard). x.bound), guards)) (s 7) in
      let p4 = laid_long 0 (guard_nodes_of rs) b.guard_nodes max_thresholds (omega (arith, length-map g (λ (x : Guard). x.node), guards)) (s 8) in
      let p5 = laid_long (replicate 3 0) (triples firsts seconds lasts) w.built.nodes max_nodes
      (omega (arith, triples_few firsts seconds lasts, length-map (numbers 0 m) (threshold_of 0 ts), length-numbers 0 m, k.good.closed.nodes)) (s 9) in
      let p6 = laid_long (replicate 2 0) (map edge_row e) w.built.edges max_terms (omega (arith, length-map e edge_row, edges_most f.closed k.good.closed)) (s 10) in
      let p7 = laid_long 0 (join_all (neighbour_lists rs)) w.built.links max_links (links-most f.closed k.good.closed) (s 11) in
      λ i. p0 i ∷ p1 i ∷ p2 i ∷ p3 i ∷ p4 i ∷ p5 i ∷ p6 i ∷ p7 i ∷ []

  unbuilt-long : built_lengths (clear_built w.built) ≡ built_lengths w.built
  unfolding clear_built
  unbuilt-long =
      let b = w.built.held in
      λ i. zeros_long 0 b.row-conditions i ∷ zeros_long 0 b.row-weights i ∷ zeros_long (replicate 3 0) b.rows i
      ∷ zeros_long (pos 0) b.guard_bounds i ∷ zeros_long 0 b.guard_nodes i ∷ zeros_long (replicate 3 0) w.built.nodes i
      ∷ zeros_long (replicate 2 0) w.built.edges i ∷ zeros_long 0 w.built.links i ∷ []

  either-long : (sealed : Bool) → built_lengths (cond sealed (built_of f.closed (clear_built w.built)) (clear_built w.built)) ≡ built_lengths w.built
  either-long true = built-long
  either-long false = unbuilt-long

  -- ---- what marks, settles and sifts change

  kept-long : kept_lengths (kept_of f (clear_kept w.kept)) ≡ kept_lengths w.kept
  unfolding kept_of clear_kept
  kept-long =
      let b = w.kept in
      let v = f.live in
      let g = k.good.live in
      let d = v.dirty in
      let r = v.residuals in
      let p0 = laid_long (replicate 4 (pos 0)) (map figures_of v.states) b.figures max_thresholds (omega (arith, length-map v.states figures_of, g.long)) (s 12) in
      let p1 = laid_long (replicate 5 0) (map cursors_of v.states) b.cursors max_thresholds (omega (arith, length-map v.states cursors_of, g.long)) (s 13) in
      let p2 = laid_long 0 v.marks.sure b.sure 64 (omega (arith, g.waits.sures)) (s 14) in
      let p3 = laid_long 0 v.marks.never b.never 64 (omega (arith, g.waits.nevers)) (s 15) in
      let p4 = zeros_long 0 b.search in
      let p5 = laid_long 0 f.gcds b.gcds max_gcds (omega (arith, k.gcds)) (s 17) in
      let p6 = laid_long 0 v.marks.nodes.items b.node_queue max_nodes (omega (arith, k.live.nodes)) (s 18) in
      let p7 = laid_long (replicate 4 0) (quads d.queue.items d.pending r.queue.items r.pending) b.row_queues max_thresholds
      (omega (arith, quads_few d.queue.items d.pending r.queue.items r.pending, k.live.dirty)) (s 19) in
      let numbered = map answer_number f.answers in
      let p8 = laid_long (replicate 2 0) (pairs numbered (map answer_visits f.answers)) b.answers 64
      (omega (arith, pairs_few numbered (map answer_visits f.answers), length-map f.answers answer_number, k.answers)) (s 20) in
      λ i. p0 i ∷ p1 i ∷ p2 i ∷ p3 i ∷ p4 i ∷ p5 i ∷ p6 i ∷ p7 i ∷ p8 i ∷ []

  all_long : SameLengths (laid f (cleared w)) w
  unfolding laid cleared
  all_long = λ i. raw-long i ++ either-long f.sealed i ++ kept-long i

-- EVERY BUFFER KEEPS ITS LENGTH
pub lengths : (input : List ℕ) (w : Work) → SameLengths (whole input w).work w
lengths input w =
    ⊎_elim
    (λ (e : fits input w ≡ true).
    subst (λ (o : Out). SameLengths o.work w) (sym (served_when input w e)) (all_long (file_of input).file (kept-file input) w (fits_sized input w e)))
    (λ (e : fits input w ≡ false). subst (λ (o : Out). SameLengths o.work w) (sym (untouched_when input w e)) refl) (true-false (fits input w))
