-- A ROW THAT IS RUN keeps the bounds of all rows and queues no row to hand them on: bounds move only where a guard or a link moves them.
use Rattle.std.specs.Prelude.{ℕ, ◌<◌, ◌≡◌, ◌≢◌, length, get_or, set}
use Rattle.std.proofs.Common.{arith, ap, ◌∙◌, length-set, get_or-set_same, get_or-set_other}
use Rattle.std.proofs.Math.Path.{refl}
use Rattle.state.specs.declared.State.{State}
use Rattle.state.specs.State.{no_state}
use Rattle.queues.specs.Queue.{Rows}
use Rattle.rows.specs.Rows.{no_row}
use Rattle.row_moves.specs.Between.{Index, Live, state_at, run_row, run_with, with_dirty_rows, with_residuals, with_state}
use Rattle.theorem_follows.specs.CursorsLaws.{row_goes}
use Rattle.theorem_follows.specs.StandsLaws.{put_state}

-- Two states with the same bounds.
pub record SameBounds (a b : State) : Type 0 where
  pub lower : a.lower ≡ b.lower
  pub upper : a.upper ≡ b.upper

pub same_bounds : (a : State) → SameBounds a a
same_bounds a = record { lower = refl; upper = refl }

module _ (x : Index) (v : Live) (r : ℕ) (room : r < length v.states) where
  pub run_bounds : (q : ℕ) → SameBounds (state_at (run_row x v r).live q) (state_at v q)
  unfolding run_row run_with
  run_bounds =
      put_state (λ (q : ℕ) (t : State). SameBounds t (state_at v q)) v.states r _ room
      (let g = (row_goes (get_or x.rows r no_row) (state_at v r) v.marks).0 in record { lower = g.lower; upper = g.upper }) (λ q e. same_bounds (state_at v q))

  pub run_dirty : (run_row x v r).live.dirty ≡ v.dirty
  unfolding run_row run_with
  run_dirty = refl

-- A STATE PUT ANEW, AND ITS ROW RUN: the row has the new bounds, all others have theirs
module _ (x : Index) (v : Live) (r : ℕ) (room : r < length v.states) (st : State) (d q : Rows) where
  abbrev put : Live
  put = with_residuals (with_dirty_rows (with_state v r st) d) q

  room-put : r < length (set v.states r st)
  room-put = let z = length-set v.states r st in omega arith

  pub put_here : SameBounds (state_at (run_row x put r).live r) st
  put_here =
      let b = run_bounds x put r room-put r in
      let e = get_or-set_same v.states r st no_state room in
      record { lower = b.lower ∙ ap (λ (t : State). t.lower) e; upper = b.upper ∙ ap (λ (t : State). t.upper) e }

  pub put_there : (k : ℕ) → k ≢ r → SameBounds (state_at (run_row x put r).live k) (state_at v k)
  put_there k n =
      let b = run_bounds x put r room-put k in
      let e = get_or-set_other v.states r k st no_state n in
      record { lower = b.lower ∙ ap (λ (t : State). t.lower) e; upper = b.upper ∙ ap (λ (t : State). t.upper) e }
