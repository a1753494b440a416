-- What the phase lends is what the seal requires, and what it leaves is the file's, in every word. Assumes nothing.
use Rattle.std.specs.Prelude.{ℕ, zero, suc, ◌≤◌, ◌≡◌, refl, Bool, true, false, List, [], ◌∷◌, ◌++◌, map, length, get_or, take, drop, replicate, ℤ, pos}
use Rattle.std.proofs.Common.{not-suc-le-zero, le_of_suc-le-suc, arith, sym, ap₂, subst, ◌∙◌, length-append, length-drop, take-append-drop, length-take-le}
use Rattle.std.proofs.Math.Path.{ap}
use Rattle.std.proofs.lemmas.List.{length-replicate, length-map}
use Rattle.memory.specs.Limits.{max_nodes, max_terms, max_thresholds, max_gcds, search_words}
use Rattle.memory.specs.Buffers.{Raw, held_rows, Built, built, Kept, kept, zeros, clear_built, clear_kept}
use Rattle.base.specs.Laid.{over, join_all, ends, pairs, quads}
use Rattle.numeric.specs.Threshold.{Term, Job}
use Rattle.numeric.specs.Area.{weighed_threshold, job_of}
use Rattle.state.specs.declared.State.{State}
use Rattle.state.specs.declared.Step.TheVariants.{Unchanged}
use Rattle.state.specs.State.{no_state, figures_of, cursors_of}
use Rattle.queues.specs.declared.Rings.{Rings}
use Rattle.queues.specs.Queue.{queue, ring, rows}
use Rattle.queues.specs.Marks.{marks}
use Rattle.rows.specs.Rows.{Guard, rows_of}
use Rattle.rows.specs.Laid.{conditions, weights, term_lists, guard_lists, guard_bounds_of, guard_nodes_of, edge_lists, edge_row}
use Rattle.links.specs.Links.{neighbour_lists}
use Rattle.searches.specs.Shape.{Zeros}
use Rattle.row_moves.specs.Between.{Live, live}
use Rattle.row_moves.specs.Numbers.{row_state, states_of, Tidy}
use Rattle.job.specs.JobBuffers.{raw_of, row_entries, node_entries, built_with, built_of}
use Rattle.records.specs.declared.Standing.{Standing}
use Rattle.files.specs.File.{File, Answer, begun, standing, Outcome, outcome}
use Rattle.files.specs.declared.JobRead.{JobRead}
use Rattle.files.specs.Contents.{kept_of}
use Rattle.theorem_limits.specs.BuiltLaws.{fits_of, rows_few}
use Rattle.theorem_limits.specs.Good.{Fits}
use Rattle.theorem_limits.specs.SizeLaws.{terms_few, guards_few, edges_most}
use Rattle.theorem_keeps.specs.Serves.{Fresh}
use Rattle.theorem_holds.specs.Lent.{bounds_of, lent_of}
use Rattle.theorem_holds.proofs.LentLaws.{lendable_clear, bounds_lent}
use Rattle.theorem_holds.proofs.GoesLaws.{fresh-begun}
use Rattle.serve.specs.declared.Reached.{Reached}
use Rattle.serve.specs.Serve.{live_in, Lies, Seals, no_rings, Reaches, read_at, Same, fourfold}
use Rattle.answers.specs.Answers.{answers_of}
use Rattle.serve_phase.specs.Phase.{KeptRoom, cut_built, cut_kept, put_back, Blank, Stops, Sealable, Begins, ending, Leaves, LeavesOn}
use Rattle.job.specs.Rooms.{BuiltRoom}
use Rattle.memory.specs.ZerosLaws.{zeros-length}

-- ---- lists that are cut

take-over : {X : Type 0} (l b : List X) (n : ℕ) → length l ≤ n → n ≤ length b → take n (over l b) ≡ over l (take n b)
take-over [] b n h k = refl
take-over (x ∷ l) b zero h k = absurd (not-suc-le-zero h)
take-over (x ∷ l) [] (suc n) h k = absurd (not-suc-le-zero k)
take-over (x ∷ l) (y ∷ b) (suc n) h k = ap (λ (t : List _). x ∷ t) (take-over l b n (le_of_suc-le-suc h) (le_of_suc-le-suc k))

take-zeros : {X : Type 0} (z : X) (n : ℕ) (l : List X) → take n (zeros z l) ≡ zeros z (take n l)
unfolding zeros
take-zeros z zero l = refl
take-zeros z (suc n) [] = refl
take-zeros z (suc n) (x ∷ l) = ap (λ (t : List _). z ∷ t) (take-zeros z n l)

zeros_same : {X : Type 0} (z : X) (n : ℕ) (l : List X) → n ≤ length l → take n (zeros z l) ≡ replicate n z
unfolding zeros
zeros_same z zero l h = refl
zeros_same z (suc n) [] h = absurd (not-suc-le-zero h)
zeros_same z (suc n) (x ∷ l) h = ap (λ (t : List _). z ∷ t) (zeros_same z n l (le_of_suc-le-suc h))

-- ---- what was built, cut

abbrev narrow : Built → Built
narrow w =
    let h = w.held in
    built (held_rows (take max_terms h.row-conditions) (take max_terms h.row-weights) h.rows (take max_thresholds h.guard_bounds) (take max_thresholds h.guard_nodes))
    w.nodes (take max_terms w.edges) w.links

narrow_clear : (w : Built) → narrow (clear_built w) ≡ clear_built (narrow w)
unfolding clear_built
narrow_clear w =
    let h = w.held in
    let e1 = take-zeros 0 max_terms h.row-conditions in
    let e2 = take-zeros 0 max_terms h.row-weights in
    let e3 = take-zeros (pos 0) max_thresholds h.guard_bounds in
    let e4 = take-zeros 0 max_thresholds h.guard_nodes in
    let e5 = take-zeros (replicate 2 0) max_terms w.edges in
    λ i. built (held_rows (e1 i) (e2 i) (zeros (replicate 3 0) h.rows) (e3 i) (e4 i)) (zeros (replicate 3 0) w.nodes) (e5 i) (zeros 0 w.links)

cut-built : (j : Job) → Fits j → (w : Built) → BuiltRoom w → cut_built (length (rows_of j)) j.nodes (built_of j w) ≡ lent_of j (built_of j (narrow w))
unfolding built_with
cut-built j f w r =
    let h = w.held in
    let rs = rows_of j in
    let ts = join_all (term_lists rs) in
    let gs = join_all (guard_lists rs) in
    let es = join_all (edge_lists j.nodes rs) in
    let e1 = take-over (map (λ (t : Term). t.condition) ts) h.row-conditions max_terms (omega (arith, length-map ts (λ (t : Term). t.condition), terms_few j, f.terms)) r.conditions in
    let e2 = take-over (map (λ (t : Term). t.weight) ts) h.row-weights max_terms (omega (arith, length-map ts (λ (t : Term). t.weight), terms_few j, f.terms)) r.weights in
    let e3 = take-over (map (λ (g : Guard). g.bound) gs) h.guard_bounds max_thresholds (omega (arith, length-map gs (λ (g : Guard). g.bound), guards_few j, f.few)) r.bounds in
    let e4 = take-over (map (λ (g : Guard). g.node) gs) h.guard_nodes max_thresholds (omega (arith, length-map gs (λ (g : Guard). g.node), guards_few j, f.few)) r.guards in
    let e5 = take-over (map edge_row es) w.edges max_terms (omega (arith, length-map es edge_row, edges_most j f)) r.edges in
    let o = cut_built (length rs) j.nodes (built_of j w) in
    λ i. built (held_rows (e1 i) (e2 i) o.held.rows (e3 i) (e4 i)) o.nodes (e5 i) o.links

room_clear : (w : Built) → BuiltRoom w → BuiltRoom (clear_built w)
unfolding clear_built
room_clear w r = record {
  conditions = omega (arith, zeros-length 0 w.held.row-conditions, r.conditions);
  weights = omega (arith, zeros-length 0 w.held.row-weights, r.weights);
  rows = omega (arith, zeros-length (replicate 3 0) w.held.rows, r.rows);
  bounds = omega (arith, zeros-length (pos 0) w.held.guard_bounds, r.bounds);
  guards = omega (arith, zeros-length 0 w.held.guard_nodes, r.guards);
  nodes = omega (arith, zeros-length (replicate 3 0) w.nodes, r.nodes);
  edges = omega (arith, zeros-length (replicate 2 0) w.edges, r.edges);
}

phase_seals : (bs : List ℤ) (b : Built) (f : File) (n : ℕ) → Sealable bs b f n → Seals (take (length f.draft.thresholds) bs) (cut_built n f.draft.nodes b) f
phase_seals bs b f n z =
    let s = z.stops in
    let w = s.from in
    let j = job_of f.draft in
    let r : BuiltRoom (clear_built w) = room_clear w s.room in
    record {
      good = s.good;
      light = s.light;
      from = clear_built (narrow w);
      lendable = lendable_clear (narrow w)
          (length-take-le max_terms w.held.row-weights s.room.weights ∙ sym (length-take-le max_terms w.held.row-conditions s.room.conditions))
          (length-take-le max_thresholds w.held.guard_nodes s.room.guards ∙ sym (length-take-le max_thresholds w.held.guard_bounds s.room.bounds))
          (omega (arith, length-take-le max_terms w.edges s.room.edges));
      built = ap₂ (λ (i : ℕ) (y : Built). cut_built i j.nodes y) s.counted s.built ∙ cut-built j (fits_of s.good.draft) (clear_built w) r
          ∙ ap (λ (y : Built). lent_of j (built_of j y)) (narrow_clear w);
      bounds = ap₂ take (sym (length-map f.draft.thresholds weighed_threshold)) s.bounds ∙ bounds_lent j s.raw;
      fresh = z.fresh;
    }

-- Cleared memory can be sealed.
pub sealable_blank : (bs : List ℤ) (b : Built) (f : File) (n : ℕ) → Stops bs b f n → Blank f → Sealable bs b f n
sealable_blank bs b f n s z =
    let c = cut_built n f.draft.nodes b in
    record { stops = s; fresh = subst (Fresh c) (sym z.live) (fresh-begun c) }

-- ---- cleared memory holds a blank file

states_none : (n : ℕ) → states_of (replicate n (replicate 4 (pos 0))) (replicate n (replicate 5 0)) ≡ replicate n no_state
unfolding states_of row_state no_state
states_none zero = refl
states_none (suc n) = ap (λ (t : List State). no_state ∷ t) (states_none n)

map_same : {X Y : Type 0} (f : X → Y) (x : X) (n : ℕ) → map f (replicate n x) ≡ replicate n (f x)
map_same f x zero = refl
map_same f x (suc n) = ap (λ (t : List _). f x ∷ t) (map_same f x n)

tidy_none : (n : ℕ) → Tidy (replicate n (replicate 4 (pos 0))) (replicate n (replicate 5 0))
unfolding no_state
tidy_none n = record {
  figures = sym (ap (λ (l : List State). map figures_of l) (states_none n) ∙ map_same figures_of no_state n);
  cursors = sym (ap (λ (l : List State). map cursors_of l) (states_none n) ∙ map_same cursors_of no_state n);
}

get_d_same : (n i : ℕ) → ◌≡◌ {A = ℕ} (get_or (replicate n 0) i 0) 0
get_d_same zero i = refl
get_d_same (suc n) zero = refl
get_d_same (suc n) (suc i) = get_d_same n i

abbrev blank_kept : List (List ℕ) → Kept
blank_kept base =
    kept (replicate max_thresholds (replicate 4 (pos 0))) (replicate max_thresholds (replicate 5 0)) (replicate 64 0) (replicate 64 0) (replicate search_words 0) (replicate max_gcds 0)
    (replicate max_nodes 0) (replicate max_thresholds (replicate 4 0)) base

blank-live : (base : List (List ℕ)) → live_in (blank_kept base) no_rings ≡ begun.live
unfolding begun
blank-live base =
    let s = states_none max_thresholds in
    let c = map_same (λ (v : List ℕ). get_or v 0 0) (replicate 4 0) max_thresholds in
    let d = map_same (λ (v : List ℕ). get_or v 1 0) (replicate 4 0) max_thresholds in
    let e = map_same (λ (v : List ℕ). get_or v 2 0) (replicate 4 0) max_thresholds in
    let h = map_same (λ (v : List ℕ). get_or v 3 0) (replicate 4 0) max_thresholds in
    λ i.
    live (s i) (marks (replicate 64 0) (replicate 64 0) (queue (replicate max_nodes 0) (ring 0 0))) (rows (queue (c i) (ring 0 0)) (d i)) (rows (queue (e i) (ring 0 0)) (h i))

cut_clear : (k : Kept) → KeptRoom k → cut_kept (clear_kept k) ≡ blank_kept (zeros (replicate 2 0) k.answers)
unfolding clear_kept
cut_clear k r =
    let e1 = zeros_same (replicate 4 (pos 0)) max_thresholds k.figures r.figures in
    let e2 = zeros_same (replicate 5 0) max_thresholds k.cursors r.cursors in
    let e3 = zeros_same 0 64 k.sure r.sure in
    let e4 = zeros_same 0 64 k.never r.never in
    let e5 = zeros_same 0 search_words k.search r.search in
    let e6 = zeros_same 0 max_gcds k.gcds r.gcds in
    let e7 = zeros_same 0 max_nodes k.node_queue r.node_queue in
    let e8 = zeros_same (replicate 4 0) max_thresholds k.row_queues r.row_queues in
    λ i. kept (e1 i) (e2 i) (e3 i) (e4 i) (e5 i) (e6 i) (e7 i) (e8 i) (zeros (replicate 2 0) k.answers)

blank_lies : (f : File) → Blank f → (base : List (List ℕ)) → 64 ≤ length base → Lies base f (blank_kept base) no_rings
unfolding begun pairs
blank_lies f z base h = record {
  live = blank-live base ∙ sym z.live;
  tidy = tidy_none max_thresholds;
  gcds = sym z.gcds;
  scratch = record { room = omega (arith, length-replicate {A = ℕ} max_gcds 0); long = omega (arith, length-replicate {A = ℕ} search_words 0); zero = λ i. get_d_same search_words i };
  answers = ap (λ (l : List Answer). over (answers_of l) base) (sym z.answers);
  room = h;
}

pub phase_lies : (f : File) → Blank f → (k : Kept) → KeptRoom k → Lies (zeros (replicate 2 0) k.answers) f (cut_kept (clear_kept k)) no_rings
phase_lies f z k r =
    let base = zeros (replicate 2 0) k.answers in
    subst (λ (m : Kept). Lies base f m no_rings) (sym (cut_clear k r)) (blank_lies f z base (omega (arith, zeros-length (replicate 2 0) k.answers, r.answers)))

-- ---- what is left, with what stands behind the cuts

-- Each buffer as long as it is listed.
pub record Listed (m : Kept) : Type 0 where
  pub figures : length m.figures ≡ max_thresholds
  pub cursors : length m.cursors ≡ max_thresholds
  pub sure : length m.sure ≡ 64
  pub never : length m.never ≡ 64
  pub search : length m.search ≡ search_words
  pub gcds : length m.gcds ≡ max_gcds
  pub node_queue : length m.node_queue ≡ max_nodes
  pub row_queues : length m.row_queues ≡ max_thresholds

part : {X : Type 0} (x y b : List X) (n : ℕ) → length x ≡ n → x ≡ y → x ++ drop n b ≡ over y b
part x y b n h e = ap (λ (k : ℕ). x ++ drop k b) (sym h) ∙ ap (λ (t : List _). t ++ drop (length t) b) e

zero_list : (l : List ℕ) → Zeros l → l ≡ zeros 0 l
unfolding zeros
zero_list [] z = refl
zero_list (x ∷ l) z = ap₂ (λ (y : ℕ) (t : List ℕ). y ∷ t) (z 0) (zero_list l (λ i. z (suc i)))

zeros-whole : (m b : List ℕ) (n : ℕ) → length m ≡ n → Zeros m → n ≤ length b → m ++ drop n (zeros 0 b) ≡ zeros 0 b
unfolding zeros
zeros-whole [] b zero h z k = refl
zeros-whole [] b (suc n) h z k = absurd (omega arith)
zeros-whole (x ∷ m) b zero h z k = absurd (omega arith)
zeros-whole (x ∷ m) [] (suc n) h z k = absurd (not-suc-le-zero k)
zeros-whole (x ∷ m) (y ∷ b) (suc n) h z k = ap₂ (λ (i : ℕ) (t : List ℕ). i ∷ t) (z 0) (zeros-whole m b n (omega arith) (λ i. z (suc i)) (le_of_suc-le-suc k))

phase_words : (k : Kept) → KeptRoom k → (g : File) (m : Kept) (rings : Rings) → Lies (zeros (replicate 2 0) k.answers) g m rings → Listed m → fourfold m.row_queues ≡ m.row_queues
    → put_back m (clear_kept k) ≡ kept_of g (clear_kept k)
unfolding clear_kept kept_of
phase_words k r g m rings l n four =
    let v = ap (λ (u : Live). u.states) l.live in
    let e1 = part m.figures (map figures_of g.live.states) (zeros (replicate 4 (pos 0)) k.figures) max_thresholds n.figures (l.tidy.figures ∙ ap (λ (t : List State). map figures_of t) v) in
    let e2 = part m.cursors (map cursors_of g.live.states) (zeros (replicate 5 0) k.cursors) max_thresholds n.cursors (l.tidy.cursors ∙ ap (λ (t : List State). map cursors_of t) v) in
    let e3 = part m.sure g.live.marks.sure (zeros 0 k.sure) 64 n.sure (ap (λ (u : Live). u.marks.sure) l.live) in
    let e4 = part m.never g.live.marks.never (zeros 0 k.never) 64 n.never (ap (λ (u : Live). u.marks.never) l.live) in
    let e5 = zeros-whole m.search k.search search_words n.search l.scratch.zero r.search in
    let e6 = part m.gcds g.gcds (zeros 0 k.gcds) max_gcds n.gcds l.gcds in
    let e7 = part m.node_queue g.live.marks.nodes.items (zeros 0 k.node_queue) max_nodes n.node_queue (ap (λ (u : Live). u.marks.nodes.items) l.live) in
    let e8 = part m.row_queues (quads g.live.dirty.queue.items g.live.dirty.pending g.live.residuals.queue.items g.live.residuals.pending) (zeros (replicate 4 0) k.row_queues) max_thresholds
    n.row_queues (sym four ∙ ap (λ (u : Live). quads u.dirty.queue.items u.dirty.pending u.residuals.queue.items u.residuals.pending) l.live) in
    λ i. kept (e1 i) (e2 i) (e3 i) (e4 i) (e5 i) (e6 i) (e7 i) (e8 i) (l.answers i)

-- WHAT THE PHASE LEAVES
phase_leaves : (bs : List ℤ) (b : Built) (k : Kept) → KeptRoom k → (o : Outcome) (m : Kept) (r : Reached) → Reaches bs b (zeros (replicate 2 0) k.answers) m r o → Listed m
    → fourfold m.row_queues ≡ m.row_queues → Leaves k (put_back m (clear_kept k)) r o
phase_leaves bs b k h o m r z n four = record {
  words = phase_words k h o.file m r.rings z.lies n four;
  standing = z.standing;
  last = z.last;
  refused = z.refused;
  at = z.at;
}

fourfold_same : (n : ℕ) → fourfold (replicate n (replicate 4 0)) ≡ replicate n (replicate 4 0)
unfolding quads
fourfold_same zero = refl
fourfold_same (suc n) = ap (λ (t : List (List ℕ)). replicate 4 0 ∷ t) (fourfold_same n)

over_room : {X : Type 0} (l b : List X) (n : ℕ) → n ≤ length b → n ≤ length (over l b)
over_room l b n h = omega (arith, length-append l (drop (length l) b), length-drop (length l) b)

built_room : (j : Job) (w : Built) → BuiltRoom w → BuiltRoom (built_of j w)
unfolding built_with
built_room j w r =
    let rs = rows_of j in
    let ts = join_all (term_lists rs) in
    record {
      conditions = over_room (conditions ts) w.held.row-conditions max_terms r.conditions;
      weights = over_room (weights ts) w.held.row-weights max_terms r.weights;
      rows = over_room (row_entries j (ends 0 (neighbour_lists rs))) w.held.rows max_thresholds r.rows;
      bounds = over_room (guard_bounds_of rs) w.held.guard_bounds max_thresholds r.bounds;
      guards = over_room (guard_nodes_of rs) w.held.guard_nodes max_thresholds r.guards;
      nodes = over_room (node_entries j) w.nodes max_nodes r.nodes;
      edges = over_room (map edge_row (join_all (edge_lists j.nodes rs))) w.edges max_terms r.edges;
    }

bounds_room : (j : Job) (w : Raw) → max_thresholds ≤ length w.bounds → max_thresholds ≤ length (raw_of j w).bounds
unfolding raw_of
bounds_room j w h = over_room (bounds_of j) w.bounds max_thresholds h

clear_room : (k : Kept) → KeptRoom k → KeptRoom (clear_kept k)
unfolding clear_kept
clear_room k r = record {
  figures = omega (arith, zeros-length (replicate 4 (pos 0)) k.figures, r.figures);
  cursors = omega (arith, zeros-length (replicate 5 0) k.cursors, r.cursors);
  sure = omega (arith, zeros-length 0 k.sure, r.sure);
  never = omega (arith, zeros-length 0 k.never, r.never);
  search = omega (arith, zeros-length 0 k.search, r.search);
  gcds = omega (arith, zeros-length 0 k.gcds, r.gcds);
  node_queue = omega (arith, zeros-length 0 k.node_queue, r.node_queue);
  row_queues = omega (arith, zeros-length (replicate 4 0) k.row_queues, r.row_queues);
  answers = omega (arith, zeros-length (replicate 2 0) k.answers, r.answers);
}

-- ---- AS THE CODE HAS THEM: room for the cuts, what is lent, what comes back

module _ (bs : List ℤ) (b : Built) (f : File) (n : ℕ) (s : Stops bs b f n) where
  pub phase_room : BuiltRoom b
  phase_room = subst BuiltRoom (sym s.built) (built_room (job_of f.draft) (clear_built s.from) (room_clear s.from s.room))

  pub phase_rows : n ≤ length b.held.rows
  phase_rows = omega (arith, s.counted, rows_few (job_of f.draft) (fits_of s.good.draft), phase_room.rows)

  module _ (at : Standing) (e : at ≡ standing f) where
    pub phase_nodes : at.nodes ≤ length b.nodes
    phase_nodes = omega (arith, ap (λ (z : Standing). z.nodes) e, s.good.draft.nodes, phase_room.nodes)

    pub phase_bounds : at.thresholds ≤ length bs
    phase_bounds = omega (arith, ap (λ (z : Standing). z.thresholds) e, s.good.draft.few, bounds_room (job_of f.draft) s.raw s.many, ap (λ (l : List ℤ). length l) s.bounds)

    pub phase_lent : Fresh (cut_built n f.draft.nodes b) f.live → Seals (take at.thresholds bs) (cut_built n at.nodes b) f
    phase_lent z =
        subst (λ (y : Standing). Seals (take y.thresholds bs) (cut_built n y.nodes b) f) (sym e) (phase_seals bs b f n (record { stops = s; fresh = z }))

module _ (k : Kept) (r : KeptRoom k) (now : Kept) (e : now ≡ clear_kept k) where
  -- MEMORY BEGINS CLEARED
  pub begins_clear : (f : File) → Blank f → Begins k f now no_rings
  begins_clear f z = record {
    whole = r;
    room = subst KeptRoom (sym e) (clear_room k r);
    lies = subst (λ (m : Kept). Lies (zeros (replicate 2 0) k.answers) f (cut_kept m) no_rings) (sym e) (phase_lies f z k r);
    fours = let q = ap (λ (m : Kept). (cut_kept m).row_queues) e ∙ ap (λ (m : Kept). m.row_queues) (cut_clear k r) in ap fourfold q ∙ fourfold_same max_thresholds ∙ sym q;
    behind = λ m. ap (put_back m) e;
  }

-- ---- AND GOES ON as it was left

take-front : {X : Type 0} (x y : List X) (n : ℕ) → length x ≡ n → take n (x ++ y) ≡ x
take-front [] y zero h = refl
take-front [] y (suc n) h = absurd (omega arith)
take-front (a ∷ x) y zero h = absurd (omega arith)
take-front (a ∷ x) y (suc n) h = ap (λ (t : List _). a ∷ t) (take-front x y n (omega arith))

drop-front : {X : Type 0} (x y : List X) (n : ℕ) → length x ≡ n → drop n (x ++ y) ≡ y
drop-front [] y zero h = refl
drop-front [] y (suc n) h = absurd (omega arith)
drop-front (a ∷ x) y zero h = absurd (omega arith)
drop-front (a ∷ x) y (suc n) h = drop-front x y n (omega arith)

front_room : {X : Type 0} (x y : List X) (n : ℕ) → length x ≡ n → n ≤ length (x ++ y)
front_room x y n h = omega (arith, length-append x y, h)

cut_back : (m k : Kept) → Listed m → cut_kept (put_back m k) ≡ m
cut_back m k n =
    let e1 = take-front m.figures (drop max_thresholds k.figures) max_thresholds n.figures in
    let e2 = take-front m.cursors (drop max_thresholds k.cursors) max_thresholds n.cursors in
    let e3 = take-front m.sure (drop 64 k.sure) 64 n.sure in
    let e4 = take-front m.never (drop 64 k.never) 64 n.never in
    let e5 = take-front m.search (drop search_words k.search) search_words n.search in
    let e6 = take-front m.gcds (drop max_gcds k.gcds) max_gcds n.gcds in
    let e7 = take-front m.node_queue (drop max_nodes k.node_queue) max_nodes n.node_queue in
    let e8 = take-front m.row_queues (drop max_thresholds k.row_queues) max_thresholds n.row_queues in
    λ i. kept (e1 i) (e2 i) (e3 i) (e4 i) (e5 i) (e6 i) (e7 i) (e8 i) m.answers

back_twice : (l m k : Kept) → Listed m → put_back l (put_back m k) ≡ put_back l k
back_twice l m k n =
    let e1 = drop-front m.figures (drop max_thresholds k.figures) max_thresholds n.figures in
    let e2 = drop-front m.cursors (drop max_thresholds k.cursors) max_thresholds n.cursors in
    let e3 = drop-front m.sure (drop 64 k.sure) 64 n.sure in
    let e4 = drop-front m.never (drop 64 k.never) 64 n.never in
    let e5 = drop-front m.search (drop search_words k.search) search_words n.search in
    let e6 = drop-front m.gcds (drop max_gcds k.gcds) max_gcds n.gcds in
    let e7 = drop-front m.node_queue (drop max_nodes k.node_queue) max_nodes n.node_queue in
    let e8 = drop-front m.row_queues (drop max_thresholds k.row_queues) max_thresholds n.row_queues in
    λ i. kept (l.figures ++ e1 i) (l.cursors ++ e2 i) (l.sure ++ e3 i) (l.never ++ e4 i) (l.search ++ e5 i) (l.gcds ++ e6 i) (l.node_queue ++ e7 i) (l.row_queues ++ e8 i) l.answers

module _ (k : Kept) (f : File) (now : Kept) (rings : Rings) (g : Begins k f now rings) (m : Kept) (s : Same (cut_kept now) m) where
  -- What comes back is as long as what was lent.
  begins-listed : Listed m
  begins-listed =
      let h = g.room in record {
        figures = s.figures ∙ length-take-le max_thresholds now.figures h.figures;
        cursors = s.cursors ∙ length-take-le max_thresholds now.cursors h.cursors;
        sure = s.sure ∙ length-take-le 64 now.sure h.sure;
        never = s.never ∙ length-take-le 64 now.never h.never;
        search = s.search ∙ length-take-le search_words now.search h.search;
        gcds = s.gcds ∙ length-take-le max_gcds now.gcds h.gcds;
        node_queue = s.node_queue ∙ length-take-le max_nodes now.node_queue h.node_queue;
        row_queues = s.row_queues ∙ length-take-le max_thresholds now.row_queues h.row_queues;
      }

  back-room : KeptRoom (put_back m now)
  back-room =
      let n = begins-listed in record {
        figures = front_room m.figures (drop max_thresholds now.figures) max_thresholds n.figures;
        cursors = front_room m.cursors (drop max_thresholds now.cursors) max_thresholds n.cursors;
        sure = front_room m.sure (drop 64 now.sure) 64 n.sure;
        never = front_room m.never (drop 64 now.never) 64 n.never;
        search = front_room m.search (drop search_words now.search) search_words n.search;
        gcds = front_room m.gcds (drop max_gcds now.gcds) max_gcds n.gcds;
        node_queue = front_room m.node_queue (drop max_nodes now.node_queue) max_nodes n.node_queue;
        row_queues = front_room m.row_queues (drop max_thresholds now.row_queues) max_thresholds n.row_queues;
        answers = omega (arith, s.answers, g.room.answers);
      }

  module _ (bs : List ℤ) (b : Built) (o : Outcome) (at : Reached) (z : Reaches bs b (zeros (replicate 2 0) k.answers) m at o) where
    -- WHAT A PHASE LEAVES, however its memory began, and what the next one can begin with
    pub begins_leaves : fourfold m.row_queues ≡ m.row_queues → LeavesOn k (put_back m now) at o
    begins_leaves four = record {
      leaves = subst (λ (y : Kept). Leaves k y at o) (sym (g.behind m)) (phase_leaves bs b k g.whole o m at z begins-listed four);
      begins = record {
        whole = g.whole;
        room = back-room;
        lies = subst (λ (y : Kept). Lies (zeros (replicate 2 0) k.answers) o.file y at.rings) (sym (cut_back m now begins-listed)) z.lies;
        fours = let q = ap (λ (y : Kept). y.row_queues) (cut_back m now begins-listed) in ap fourfold q ∙ four ∙ sym q;
        behind = λ l. back_twice l m now begins-listed ∙ g.behind l;
      };
    }

-- The file ends behind its seal, or where its job ended.
module _ (input : List ℕ) (f : File) (j : JobRead) where
  ends_by : Bool → Outcome
  ends_by b = elim b [ true ↦ read_at (length input) input j.at f | false ↦ outcome f [] j.refusal j.at ]

  pub ending_seals : j.sealing ≡ true → ending input f j ≡ read_at (length input) input j.at f
  unfolding ends_by
  ending_seals e = ap ends_by e

  pub ending-none : j.sealing ≡ false → ending input f j ≡ outcome f [] j.refusal j.at
  unfolding ends_by
  ending-none e = ap ends_by e

-- WHERE NO SEAL COMES, memory is that of the file, however it began.
whole_back : (k : Kept) → put_back (cut_kept k) k ≡ k
whole_back k =
    let e1 = take-append-drop max_thresholds k.figures in
    let e2 = take-append-drop max_thresholds k.cursors in
    let e3 = take-append-drop 64 k.sure in
    let e4 = take-append-drop 64 k.never in
    let e5 = take-append-drop search_words k.search in
    let e6 = take-append-drop max_gcds k.gcds in
    let e7 = take-append-drop max_nodes k.node_queue in
    let e8 = take-append-drop max_thresholds k.row_queues in
    λ i. kept (e1 i) (e2 i) (e3 i) (e4 i) (e5 i) (e6 i) (e7 i) (e8 i) k.answers

module _ (k : Kept) (f : File) (now : Kept) (rings : Rings) (g : Begins k f now rings) where
  begins-none : now ≡ kept_of f (clear_kept k)
  begins-none =
      let same : Same (cut_kept now) (cut_kept now) = record { figures = refl; cursors = refl; sure = refl; never = refl; search = refl; gcds = refl; node_queue = refl; row_queues = refl; answers = refl } in
      sym (whole_back now) ∙ g.behind (cut_kept now)
      ∙ phase_words k g.whole f (cut_kept now) rings g.lies (begins-listed k f now rings g (cut_kept now) same) g.fours

  pub leaves_begun : (j : JobRead) → j.standing ≡ standing f → (r : Reached) → r.standing ≡ j.standing → r.last ≡ f.last → r.refused ≡ j.refusal → r.at ≡ j.at → r.rings ≡ rings
      → LeavesOn k now r (outcome f [] j.refusal j.at)
  leaves_begun j d r es el en ea er = record {
    leaves = record { words = begins-none; standing = es ∙ d; last = el; refused = en; at = ea };
    begins = subst (Begins k f now) (sym er) g;
  }

-- Of a file whose first seal did not come.
pub leaves_none : (k : Kept) → KeptRoom k → (now : Kept) → now ≡ clear_kept k → (f : File) → Blank f → (j : JobRead) → j.standing ≡ standing f → (r : Reached)
    → r.standing ≡ j.standing → r.last ≡ Unchanged → r.refused ≡ j.refusal → r.at ≡ j.at → r.rings ≡ no_rings → LeavesOn k now r (outcome f [] j.refusal j.at)
leaves_none k room now e f z j d r es el en ea er =
    leaves_begun k f now no_rings (begins_clear k room now e f z) j d r es (el ∙ sym z.last) en ea er
