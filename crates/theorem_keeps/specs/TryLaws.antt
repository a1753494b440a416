-- A row that is tried: what the code puts together is the definition's, and what can be drained stays such. Assumes nothing.
use Rattle.std.specs.Prelude.{ℕ, ◌<◌, ◌≤◌, ◌≡◌, refl, Bool, true, false, List, length, get_or, ℤ}
use Rattle.std.proofs.Common.{arith, sym, ap, subst, ◌∙◌}
use Rattle.std.proofs.lemmas.Bool.{eqb-false}
use Rattle.memory.specs.Limits.{list_terms}
use Rattle.memory.specs.Buffers.{HeldRows, Built}
use Rattle.numeric.specs.Threshold.{Term}
use Rattle.numeric.specs.Slices.{terms}
use Rattle.state.specs.declared.State.{State}
use Rattle.state.specs.declared.Step.{Step}
use Rattle.state.specs.declared.Step.TheVariants.{Unchanged, Changed, Contradiction}
use Rattle.state.specs.Step.{step_number, is_unchanged}
use Rattle.state.specs.Shape.{Figures}
use Rattle.queues.specs.Queue.{Rows, is_empty, oldest, next_row}
use Rattle.queues.specs.RowsLaws.{flags_next}
use Rattle.queues.specs.Marks.{is_decided}
use Rattle.rows.specs.Rows.{no_row}
use Rattle.base.specs.Parts.{stretch}
use Rattle.rows.specs.ListsLaws.{stretch-length}
use Rattle.intervals.specs.Residual.{Residual, threshold_residual}
use Rattle.searches.specs.declared.Search.{Search}
use Rattle.searches.specs.Search.{search, search_step, search_visits}
use Rattle.row_moves.specs.Between.{Index, Live, state_at, with_dirty_rows, with_residuals, with_marks}
use Rattle.row_moves.specs.Held.{start_by, end_by, held_terms}
use Rattle.row_moves.specs.KeepsLaws.{Small, member_all}
use Rattle.drain.specs.Sift.{Sifted, sifted, try_row}
use Rattle.drain.specs.SiftLaws.{try_row_lem, try_leaves}
use Rattle.drain.specs.Steps.{try_terms, try_residual, try_live}
use Rattle.theorem_ends.specs.KeepsLaws.{residual-named}
use Rattle.theorem_ends.proofs.SettlesLaws.{fall_try}
use Rattle.theorem_follows.specs.WaitingLaws.{queued_decide}
use Rattle.queues.specs.Waiting.{Queued}
use Rattle.theorem_keeps.specs.Serves.{Serves, Low, Within, Going}
use Rattle.theorem_keeps.specs.KeepingLaws.{among_next, oldest-among, low_decide}
use Rattle.theorem_keeps.specs.Tries.{Tries, tried}

-- ---- by the terms of a row

unchanged_yes : (k : Step) → step_number k ≡ 0 → is_unchanged k ≡ true
unchanged_yes Unchanged e = refl
unchanged_yes Changed e = absurd (omega arith)
unchanged_yes Contradiction e = absurd (omega arith)

unchanged_no : (k : Step) → (step_number k ≡ 0 → ⊥) → is_unchanged k ≡ false
unchanged_no Unchanged h = absurd (h refl)
unchanged_no Changed h = refl
unchanged_no Contradiction h = refl

module _ (ts : List Term) (s : State) (v : Live) (gcds : List ℕ) (visits : ℕ) (a : Residual) (made : a ≡ threshold_residual ts s v.marks gcds) (n : ℕ) (is : n ≡ step_number a.step) where
  abbrev goes : Residual → Bool → Sifted
  goes r b = elim b [
    | true ↦ sifted (with_marks v r.marks) r.gcds (search_step (search ts s (is_decided r.marks))) (search_visits visits (search ts s (is_decided r.marks)))
    | false ↦ sifted (with_marks v r.marks) r.gcds r.step visits
  ]

  goes-is : (b : Bool) → is_unchanged a.step ≡ b → goes a b ≡ tried ts s v gcds visits
  goes-is b e = ap (goes a) (sym e) ∙ ap (λ (r : Residual). goes r (is_unchanged r.step)) made

  pub tried-search : n ≡ 0 → (b : Search) → b ≡ search ts s (is_decided a.marks) → (k : Step) → k ≡ search_step b → (i : ℕ) → i ≡ search_visits visits b
      → sifted (with_marks v a.marks) a.gcds k i ≡ tried ts s v gcds visits
  tried-search z b f k g i j =
      ap (λ (o : Step). sifted (with_marks v a.marks) a.gcds o i) g
      ∙ ap (sifted (with_marks v a.marks) a.gcds (search_step b)) j
      ∙ ap (λ (o : Search). sifted (with_marks v a.marks) a.gcds (search_step o) (search_visits visits o)) f
      ∙ goes-is true (unchanged_yes a.step (sym is ∙ z))

  pub tried-not : (n ≡ 0 → ⊥) → sifted (with_marks v a.marks) a.gcds a.step visits ≡ tried ts s v gcds visits
  tried-not h = goes-is false (unchanged_no a.step (λ (e : step_number a.step ≡ 0). h (is ∙ e)))

-- ---- by the row that waits

-- The terms from a to b of the rows are few enough to be tried.
pub record Cut (h : HeldRows) (a b : ℕ) : Type 0 where
  pub rises : a ≤ b
  pub conditions : b ≤ length h.row-conditions
  pub weights : b ≤ length h.row-weights
  pub few : length (stretch a b h.row-weights) ≤ list_terms

module _ (h : HeldRows) (v : Live) (gcds words : List ℕ) (t : Tries h v gcds words) (r : ℕ) (e : r ≡ oldest v.residuals.queue) where
  pub try_inside : r < length h.rows
  try_inside = omega (arith, oldest-among (length h.rows) v.residuals t.ready.flags t.some t.among)

  pub try_state : r < length v.states
  try_state = omega (arith, try_inside, t.ready.long)

  pub try_figures : (s : State) → s ≡ state_at v r → Figures s
  try_figures s f =
      let y = t.ready.fit r try_inside in
      subst Figures (sym f) (record { known = y.known; possible = y.possible; lower = y.lower; upper = y.upper })

  module _ (a b : ℕ) (p : a ≡ start_by 0 h.rows r) (i : b ≡ end_by 0 h.rows r) where
    pub try_cut : Cut h a b
    try_cut =
        let ends = t.shaped.terms.ends r try_inside in
        let weights : b ≤ length h.row-weights = omega (arith, ends, t.shaped.weighed) in record {
          rises = omega (arith, t.shaped.terms.rising r try_inside);
          conditions = omega (arith, ends);
          weights = weights;
          few = omega (arith, stretch-length a b h.row-weights weights, t.short r try_inside);
        }

    -- What was tried is the row of the index that waited longest; the queues of rows are given as the code has them.
    pub try_is : (s : State) → s ≡ state_at v r → (rows : Rows) → rows ≡ v.dirty → (residuals : Rows) → residuals ≡ next_row v.residuals → (x : Index) (visits : ℕ)
        → (get_or x.rows r no_row).terms ≡ held_terms h r → (o : Sifted)
        → o ≡ tried (terms (stretch a b h.row-conditions) (stretch a b h.row-weights)) s (with_residuals (with_dirty_rows v rows) residuals) gcds visits → o ≡ try_row x v gcds visits
    try_is s f rows k residuals g x visits z o made =
        made
        ∙ ap (λ (j : ℕ). tried (terms (stretch j b h.row-conditions) (stretch j b h.row-weights)) s (with_residuals (with_dirty_rows v rows) residuals) gcds visits) p
        ∙ ap (λ (j : ℕ). tried (terms (stretch (start_by 0 h.rows r) j h.row-conditions) (stretch (start_by 0 h.rows r) j h.row-weights)) s (with_residuals (with_dirty_rows v rows) residuals) gcds visits) i
        ∙ ap (λ (ts : List Term). tried ts s (with_residuals (with_dirty_rows v rows) residuals) gcds visits) (sym z)
        ∙ ap (λ (u : State). tried (get_or x.rows r no_row).terms u (with_residuals (with_dirty_rows v rows) residuals) gcds visits) f
        ∙ ap (λ (q : Rows). tried (get_or x.rows r no_row).terms (state_at v r) (with_residuals (with_dirty_rows v q) residuals) gcds visits) k
        ∙ ap (λ (q : Rows). tried (get_or x.rows r no_row).terms (state_at v r) (with_residuals v q) gcds visits) g
        ∙ ap (λ (j : ℕ). tried (get_or x.rows j no_row).terms (state_at v j) (with_residuals v (next_row v.residuals)) gcds visits) e ∙ sym (try_row_lem x v gcds visits)

-- ---- what can be drained stays such

module _ (x : Index) (bounds : List ℤ) (b : Built) (s : Serves x bounds b) (v : Live) (g : Going b.held b.nodes v) (some : 0 < v.residuals.queue.ring.count) (gcds : List ℕ) (visits : ℕ) where
  abbrev r : ℕ
  r = oldest v.residuals.queue

  abbrev a : Residual
  a = try_residual x v gcds

  abbrev w : Within b.held b.nodes v
  w = g.within

  queued : Queued w.taken a.marks
  queued = residual-named (Queued w.taken) Small (queued_decide w.taken) (try_terms x v) (s.indexed.conditions r) (state_at v r) v.marks gcds w.tracked.queued

  low : Low (length b.nodes) a.marks
  low =
      let are = (s.names r (omega (arith, s.holds.many, oldest-among (length b.held.rows) v.residuals g.sound.residuals some w.tracked.residuals))).terms in
      residual-named (Low (length b.nodes)) (λ (n : ℕ). n < length b.nodes) (low_decide (length b.nodes)) (try_terms x v)
      (member_all (λ (t : Term). t.condition < length b.nodes) (try_terms x v) are) (state_at v r) v.marks gcds w.tracked.low

  within-after : Within b.held b.nodes (try_live x v gcds)
  within-after = record {
    taken = w.taken;
    tracked = record {
      queued = queued;
      low = low;
      dirty = w.tracked.dirty;
      residuals = among_next (length b.held.rows) v.residuals g.sound.residuals some w.tracked.residuals;
    };
    range = w.range;
    runnable = record {
      ready = record { long = w.runnable.ready.long; fit = w.runnable.ready.fit; waits = queued.queue; flags = flags_next v.residuals g.sound.residuals some };
      dirty = w.runnable.dirty;
    };
    room = w.room;
  }

  within-try : Within b.held b.nodes (try_row x v gcds visits).live
  within-try = try_leaves x v gcds visits (λ (u : Live) (c : List ℕ). Within b.held b.nodes u) within-after

pub going_try : (x : Index) (bounds : List ℤ) (b : Built) → Serves x bounds b → (v : Live) → Going b.held b.nodes v → (gcds : List ℕ) (visits : ℕ) → is_empty v.residuals.queue ≡ false
    → Going b.held b.nodes (try_row x v gcds visits).live
going_try x bounds b s v g gcds visits e = record {
  sound = (fall_try x s.indexed v gcds visits g.sound e).0;
  within = within-try x bounds b s v g (omega (arith, eqb-false v.residuals.queue.ring.count 0 e)) gcds visits;
}
