-- The loop of `threshold_condition` over a node's edges: what holds at each place. Assumes nothing.
use Rattle.std.specs.Prelude.{ℕ, ◌+◌, ◌-◌, ◌*◌, ◌<◌, ◌≤◌, ◌≡◌, refl, Bool, true, false, List, [], ◌∷◌, length, get_or, set, ℤ}
use Rattle.std.proofs.Common.{arith, sym, ap, subst, ◌∙◌}
use Rattle.memory.specs.Buffers.{HeldRows}
use Rattle.state.specs.declared.Step.{Step}
use Rattle.state.specs.declared.Step.TheVariants.{Unchanged}
use Rattle.state.specs.Step.{joined, contradicts}
use Rattle.state.specs.declared.State.{State}
use Rattle.state.specs.State.{no_state, drained}
use Rattle.words.specs.Mask.{bit}
use Rattle.rows.specs.Rows.{Edge, edges_of}
use Rattle.base.specs.Parts.{stretch}
use Rattle.memory.specs.Limits.{max_terms}
use Rattle.memory.specs.Ranges.{figure_limit, room_limit, weight_limit, drain_limit}
use Rattle.row_moves.specs.Between.{Index, Live, state_at, with_state, did, run_with, run_row, condition_from, threshold_condition}
use Rattle.row_moves.specs.Handing.{after, edge_run}
use Rattle.row_moves.specs.Held.{start_by, end_by, held_row, edge_in, edges_in, Shaped, EdgesShaped, Holds, HoldsEdges}
use Rattle.row_moves.specs.HeldLaws.{stretch_cons, stretch-none, run_held, edges_back}
use Rattle.row_moves.specs.Ready.{ReadyLive}
use Rattle.row_moves.specs.ReadyLaws.{ready_more, ready_set, ready_run, ready_by, fit_drained}
use Rattle.row_moves.specs.Numbers.{states_of}
use Rattle.row_moves.specs.Stored.{Stored, sum_words, with_sums}
use Rattle.row_moves.specs.StoredLaws.{stored_sums, sums_drained}
use Rattle.row_moves.specs.LoopLaws.{walk_next, walk_stop, walk_end, condition_walk}

-- The sums of a drained state, stored, are its state stored.
pub drained_stored : (fs fs' : List (List ℤ)) (cs : List (List ℕ)) (r w : ℕ) (value : Bool) (s n : State) → r < length (states_of fs cs) → n ≡ drained value w s
    → fs' ≡ set fs r (sum_words (get_or fs r []) n.known n.possible) → s ≡ get_or (states_of fs cs) r no_state → Stored fs cs fs' cs r (drained value w s)
drained_stored fs fs' cs r w value s n k e words at =
    subst (λ (y : State). Stored fs cs fs' cs r y) (ap (λ (y : State). with_sums y n.known n.possible) (sym at) ∙ sums_drained value w s n e) (stored_sums fs cs r k fs' n.known n.possible words)

-- The edges from one place to another: each names a row, and is light.
pub record Edges (h : HeldRows) (edges : List (List ℕ)) (from end : ℕ) : Type 0 where
  pub inside : end ≤ length edges
  pub few : end ≤ max_terms
  pub rows : (at r : ℕ) → from ≤ at → at < end → r ≡ (edge_in (get_or edges at [])).row → r < length h.rows
  pub light : (at w : ℕ) → from ≤ at → at < end → w ≡ (edge_in (get_or edges at [])).weight → w < weight_limit

-- Those of a node are such.
pub edges_of_lem : (h : HeldRows) (nodes edges : List (List ℕ)) → EdgesShaped h nodes edges → (n : ℕ) → n < length nodes → (a e : ℕ) → a ≡ start_by 2 nodes n → e ≡ end_by 2 nodes n
    → Edges h edges a e
edges_of_lem h nodes edges y n k a e p q = record {
  inside = omega (arith, y.inside.ends n k);
  few = omega (arith, y.inside.ends n k, y.few);
  rows = λ at r f g i. omega (arith, y.rows n at k (omega arith) (omega arith));
  light = λ at w f g i. omega (arith, y.light n at k (omega arith) (omega arith));
}

-- Known and possible after so many edges.
abbrev pub reach : ℕ → ℕ
reach n = room_limit + n * drain_limit

-- What was done up to a place, joined with the edges from there on, is the whole; the range grows with the places.
pub record Draining (h : HeldRows) (edges : List (List ℕ)) (value : Bool) (from end : ℕ) (v₀ : Live) (at : ℕ) (k : Step) (v : Live) : Type 0 where
  pub above : from ≤ at
  pub own : Edges h edges from end
  pub ready : ReadyLive h (reach (at - from)) v
  pub whole : (x : Index) → Holds x h → after k (condition_from x value (edges_in (stretch at end edges)) v) ≡ condition_from x value (edges_in (stretch from end edges)) v₀

module _ (h : HeldRows) (edges : List (List ℕ)) (value : Bool) (from end : ℕ) (v₀ : Live) where
  pub draining_first : Edges h edges from end → ReadyLive h room_limit v₀ → Draining h edges value from end v₀ from Unchanged v₀
  draining_first o y = record {
    above = omega arith;
    own = o;
    ready = ready_more h room_limit (reach (from - from)) v₀.states v₀.marks v₀.residuals (omega arith) y;
    whole = λ x z. refl;
  }

  module _ (at : ℕ) (k : Step) (v : Live) (l : Draining h edges value from end v₀ at k v) where
    -- Known and possible can take one more edge.
    pub draining_ready : at < end → ReadyLive h (figure_limit - drain_limit) v
    draining_ready s = ready_more h (reach (at - from)) (figure_limit - drain_limit) v.states v.marks v.residuals (omega (arith, l.above, l.own.few)) l.ready

    pub draining_end : end ≤ at → (x : Index) → Holds x h → did v k ≡ condition_from x value (edges_in (stretch from end edges)) v₀
    draining_end t x z =
        walk_end (condition_walk x value) v k
        ∙ ap (λ (es : List (List ℕ)). after k (condition_from x value (edges_in es) v)) (sym (stretch-none edges at end t)) ∙ l.whole x z

    module _ (y : Shaped h) (here : at < end) (r w : ℕ) (row : r ≡ (edge_in (get_or edges at [])).row) (weight : w ≡ (edge_in (get_or edges at [])).weight) (v' : Live) (j : Step)
        (made : did v' j ≡ run_with (held_row h r) (with_state v r (drained value w (state_at v r))) r) where
      is : r < length h.rows
      is = l.own.rows at r l.above here row

      -- The turn, as the definition takes it.
      turned : (x : Index) → Holds x h → did v' j ≡ edge_run x value (edge_in (get_or edges at [])) v
      turned x z =
          made ∙ run_held x h z (with_state v r (drained value w (state_at v r))) r is
          ∙ ap (λ (i : ℕ). run_row x (with_state v r (drained value i (state_at v r))) r) weight
          ∙ ap (λ (i : ℕ). run_row x (with_state v i (drained value (edge_in (get_or edges at [])).weight (state_at v i))) i) row

      next : (x : Index) (b : Step) → after b (condition_from x value (edge_in (get_or edges at []) ∷ edges_in (stretch (at + 1) end edges)) v)
          ≡ after b (condition_from x value (edges_in (stretch at end edges)) v)
      next x b = ap (λ (es : List (List ℕ)). after b (condition_from x value (edges_in es) v)) (sym (stretch_cons [] edges at end here l.own.inside))

      pub draining_next : contradicts j ≡ false → (b : Step) → b ≡ joined k j → Draining h edges value from end v₀ (at + 1) b v'
      draining_next c b e =
          let n = reach (at - from) in
          let s = drained value w (state_at v r) in
          let more = ready_more h n (n + drain_limit) v.states v.marks v.residuals (omega arith) l.ready in
          let set = ready_set h (n + drain_limit) v.states v.marks v.residuals more r s (fit_drained h n r (state_at v r) value w (l.own.light at w l.above here weight) (l.ready.fit r is)) in
          let run = ready_run h (n + drain_limit) y (with_state v r s) set r is in
          record {
            above = omega (arith, l.above);
            own = l.own;
            ready = ready_more h (n + drain_limit) (reach (at + 1 - from)) v'.states v'.marks v'.residuals (omega (arith, l.above))
                (ready_by h (n + drain_limit) (did v' j) (run_with (held_row h r) (with_state v r s) r) made run);
            whole = λ x z.
                ap (λ (i : Step). after i (condition_from x value (edges_in (stretch (at + 1) end edges)) v')) e
                ∙ walk_next (condition_walk x value) (edge_in (get_or edges at [])) (edges_in (stretch (at + 1) end edges)) v k (did v' j) (turned x z) c ∙ next x k ∙ l.whole x z;
          }

      pub draining_stop : contradicts j ≡ true → (x : Index) → Holds x h → did v' j ≡ condition_from x value (edges_in (stretch from end edges)) v₀
      draining_stop c x z =
          walk_stop (condition_walk x value) (edge_in (get_or edges at [])) (edges_in (stretch (at + 1) end edges)) v k (did v' j) (turned x z) c ∙ next x k ∙ l.whole x z

-- The edges of the buffers are those of the index.
pub condition_held : (x : Index) (nodes edges : List (List ℕ)) → HoldsEdges x nodes edges → (n : ℕ) → n < length nodes → (a e : ℕ) → a ≡ start_by 2 nodes n → e ≡ end_by 2 nodes n
    → (v : Live) (value : Bool) → value ≡ bit v.marks.sure n → condition_from x value (edges_in (stretch a e edges)) v ≡ threshold_condition x v n
unfolding threshold_condition
condition_held x nodes edges y n k a e p q v value b =
    ap (λ (i : ℕ). condition_from x value (edges_in (stretch i e edges)) v) p
    ∙ ap (λ (i : ℕ). condition_from x value (edges_in (stretch (start_by 2 nodes n) i edges)) v) q
    ∙ ap (λ (es : List (List ℕ)). condition_from x value (edges_in es) v) (sym (y n k))
    ∙ ap (λ (es : List Edge). condition_from x value es v) (edges_back (edges_of x.rows n))
    ∙ ap (λ (c : Bool). condition_from x c (edges_of x.rows n) v) b
