-- A SETTLING ENDS because nothing waits any more, or in a contradiction, and so does a sifting: each of their turns leaves less to do.
-- Assumes nothing.
use Rattle.std.specs.Prelude.{ℕ, ◌≤◌, ◌<◌, ◌≡◌, true, false}
use Rattle.std.proofs.Math.Nat.{le_refl}
use Rattle.std.proofs.Common.{not-suc-le-zero, arith, sym, ◌∙◌}
use mathlib.Core.List.{List}
use borrow.Author.Tests.{eqb-false}
use Rattle.state.specs.Step.{contradicts}
use Rattle.queues.specs.Queue.{is_empty, oldest, popped, next_row}
use Rattle.queues.specs.RowsLaws.{flags_next}
use Rattle.queues.specs.Marks.{Marks}
use Rattle.queues.proofs.MarksLaws.{waits-popped}
use Rattle.queues.specs.Waiting.{Waits}
use Rattle.base.specs.TestLaws.{contrary}
use Rattle.row_moves.specs.Between.{Index, Live, Did, state_at}
use Rattle.row_moves.specs.KeepsLaws.{Small}
use Rattle.drain.specs.Drain.{take_node, take_row, turn, at_rest, settle}
use Rattle.drain.proofs.DrainLaws.{node_ends, row_ends_lem, turn-ends, settle_walks, settle_keeps}
use Rattle.drain.specs.Steps.{untaken, unrowed, node_told, node_drained, try_terms}
use Rattle.drain.specs.Sift.{Sifted, try_row, sift}
use Rattle.drain.specs.SiftLaws.{try_leaves, sift_walks, sift_keeps}
use Rattle.theorem_ends.specs.LeftLaws.{load, load_popped}
use Rattle.theorem_ends.specs.KeepsLaws.{residual-named}
use Rattle.theorem_ends.specs.TurnsLaws.{left, left-most}
use Rattle.theorem_ends.proofs.TurnsLaws.{Then, then, less_decide, run_guards, run_condition, run_prefixes}
use Rattle.theorem_ends.specs.Sound.{Indexed, Sound}

-- One came of the other, and has less left to do; or no more.
abbrev pub Falls : Live → Live → Type 0
Falls v w = Sound w × (left w < left v)

abbrev pub Stays : Live → Live → Type 0
Stays v w = Sound w × (left w ≤ left v)

module _ (x : Index) (ix : Indexed x) where
  -- A node is taken.
  fall-node : (v : Live) → Sound v → 0 < v.marks.nodes.ring.count → Falls v (take_node x v).live
  fall-node v s some = node_ends x v (λ (d : Did). Falls v d.live) (λ e. falls (node_told x v).live first) (λ e. falls (node_drained x v).live second)
    where
      w : Live
      w = untaken v

      sound : Sound w
      sound = record { long = s.long; states = s.states; waits = waits-popped v.marks s.waits some; dirty = s.dirty; residuals = s.residuals }

      first : Then w (node_told x v).live
      first = run_guards x ix w (oldest v.marks.nodes) sound

      second : Then w (node_drained x v).live
      second = then w (node_told x v).live (node_drained x v).live first (run_condition x ix (node_told x v).live (oldest v.marks.nodes) first.sound)

      falls : (u : Live) → Then w u → Falls v u
      falls u t = (t.sound, omega (arith, t.core, load_popped v.marks some, t.sound.residuals.held.count))

  -- A row is taken.
  fall-row : (v : Live) → Sound v → 0 < v.dirty.queue.ring.count → Falls v (take_row x v).live
  unfolding next_row popped
  fall-row v s some =
      let sound : Sound (unrowed v) = record { long = s.long; states = s.states; waits = s.waits; dirty = flags_next v.dirty s.dirty some; residuals = s.residuals } in
      let a = run_prefixes x ix (unrowed v) (oldest v.dirty.queue) sound in
      row_ends_lem x v (λ (d : Did). Falls v d.live) (a.0, omega (arith, a.1, some))

  -- A TURN LEAVES LESS TO DO
  pub fall_turn : (v : Live) → Sound v → at_rest v ≡ false → Falls v (turn x v).live
  fall_turn v s h = turn-ends x v (λ (d : Did). Falls v d.live) h (fall-node v s) (fall-row v s)

  -- A SETTLING ENDS AT REST
  pub settle_stays : (v : Live) → Sound v → Stays v (settle x v).live
  settle_stays v s = settle_keeps x (Stays v) (λ u e p. let f = fall_turn u p.0 e in (f.0, omega (arith, f.1, p.1))) v (s, le_refl (left v))

  pub settle-ends : (v : Live) → Sound v → contradicts (settle x v).step ≡ false → at_rest (settle x v).live ≡ true
  settle-ends v s =
      settle_walks x (λ (n : ℕ) (u : Live). Sound u × (left u < n)) (λ (d : Did). contradicts d.step ≡ false → at_rest d.live ≡ true)
      (λ u k c p. absurd (not-suc-le-zero p.1)) (λ n u k c p e d. e) (λ n u p e f d. contrary (sym f ∙ d)) (λ n u p e f. let a = fall_turn u p.0 e in (a.0, omega (arith, a.1, p.1)))
      v (s, left-most v s)

  -- A ROW IS TRIED
  pub fall_try : (v : Live) (gcds : List ℕ) (visits : ℕ) → Sound v → is_empty v.residuals.queue ≡ false → Falls v (try_row x v gcds visits).live
  unfolding next_row popped
  fall_try v gcds visits s e =
      let some : 0 < v.residuals.queue.ring.count = omega (arith, eqb-false v.residuals.queue.ring.count 0 e) in
      let r = oldest v.residuals.queue in
      let marked = residual-named (λ (k : Marks). Waits k × (load k ≤ load v.marks)) Small (less_decide v.marks) (try_terms x v) (ix.conditions r) (state_at v r) v.marks gcds
      (s.waits, le_refl (load v.marks)) in
      try_leaves x v gcds visits (λ (w : Live) (g : List ℕ). Falls v w) (
        record { long = s.long; states = s.states; waits = marked.0; dirty = s.dirty; residuals = flags_next v.residuals s.residuals some },
        omega (arith, marked.1, some),
      )

  -- A SIFTING ENDS AT REST, and no row waits for a residual
  pub sift_sound : (v : Live) (gcds : List ℕ) → Sound v → Sound (sift x v gcds).live
  sift_sound v gcds s =
      sift_keeps x (λ (u : Live) (g : List ℕ) (m : ℕ). Sound u) (λ u g m p. (settle_stays u p).0) (λ u g m e p. (fall_try u g m p e).0) v gcds s

  pub sift-ends : (v : Live) (gcds : List ℕ) → Sound v → contradicts (sift x v gcds).step ≡ false
      → (at_rest (sift x v gcds).live ≡ true) × (is_empty (sift x v gcds).live.residuals.queue ≡ true)
  sift-ends v gcds s =
      sift_walks x (λ (n : ℕ) (u : Live) (g : List ℕ) (m : ℕ). Sound u × (left u < n))
      (λ (t : Sifted). contradicts t.step ≡ false → (at_rest t.live ≡ true) × (is_empty t.live.residuals.queue ≡ true))
      (λ u g m k c p. absurd (not-suc-le-zero p.1)) (λ n u g m p e d. contrary d) (λ n u g m k c p e i d. (settle-ends u p.0 e, i)) (λ n u g m p e i f d. contrary (sym f ∙ d))
      (λ n u g m p e i f. let a = settle_stays u p.0 in let b = fall_try (settle x u).live g m a.0 i in (b.0, omega (arith, a.1, b.1, p.1))) v gcds (s, left-most v s)
