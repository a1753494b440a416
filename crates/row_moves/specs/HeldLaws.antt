-- Rows in buffers: stretches place by place, and a row run as the buffers hold it. Assumes nothing.
use Rattle.std.specs.Prelude.{ℕ, suc, ◌+◌, ◌-◌, ◌<◌, ◌≤◌, ◌^◌, ◌≡◌, refl, List, [], ◌∷◌, map, length, get_or, drop}
use Rattle.std.proofs.Common.{add-one, arith, sym, ap, ap₂, subst, ◌∙◌, length-take, length-drop, drop-cons, get_or-drop, get_or-take}
use Rattle.memory.specs.Limits.{max_nodes}
use Rattle.memory.specs.Buffers.{HeldRows}
use Rattle.numeric.specs.Threshold.{Term}
use Rattle.state.specs.declared.State.{State}
use Rattle.queues.specs.Marks.{Marks}
use Rattle.rows.specs.Rows.{Row, row_of, no_row, Guard, Edge}
use Rattle.base.specs.Parts.{stretch}
use Rattle.rows.specs.ListsLaws.{stretch-length}
use Rattle.rows.specs.Laid.{edge_row}
use Rattle.numeric.specs.Slices.{Below, terms}
use Rattle.row_runs.specs.Shape.{TermSlices, GuardSlices}
use Rattle.row_runs.specs.Guards.{guards}
use Rattle.row_runs.specs.Row.{Ran, wants_residual}
use Rattle.row_runs.proofs.RowLaws.{row-raw}
use Rattle.resting.specs.Rest.{Rests}
use Rattle.row_moves.specs.Between.{Index, Live, Did, did, state_at, residual_queued, run_with, run_row, with_marks, with_residuals, with_state}
use Rattle.row_moves.specs.Held.{end_by, start_by, held_row, edges_in, Shaped, Holds}

-- ---- stretches

pub stretch_cons : {X : Type 0} (d : X) (l : List X) (a e : ℕ) → a < e → e ≤ length l → stretch a e l ≡ get_or l a d ∷ stretch (a + 1) e l
stretch_cons d l a e h k =
    let z : e - a ≡ suc (e - (a + 1)) = omega arith in
    rw (z, drop-cons l a d (omega arith), ← add-one a)

-- Place i of a stretch.
pub stretch-at : {X : Type 0} (d : X) (l : List X) (a e i : ℕ) → i < e - a → get_or (stretch a e l) i d ≡ get_or l (a + i) d
stretch-at d l a e i h = get_or-take (e - a) (drop a l) i d h ∙ get_or-drop a l i d

pub stretch-none : {X : Type 0} (l : List X) (a e : ℕ) → e ≤ a → stretch a e l ≡ []
stretch-none l a e h = let z : e - a ≡ 0 = omega arith in rw z

pub below-stretch : (n : ℕ) (l : List ℕ) (a e : ℕ) → Below n l → Below n (stretch a e l)
below-stretch n l a e h i k =
    let t = length-take (e - a) (drop a l) in
    let d = length-drop a l in
    let q = get_or-take (e - a) (drop a l) i 0 (omega arith) ∙ get_or-drop a l i 0 in
    omega (arith, q, h (a + i) (omega arith))

-- ---- a row's own slices

module _ (h : HeldRows) (s : Shaped h) (r : ℕ) (k : r < length h.rows) where
  pub term_slices : (a e : ℕ) → a ≡ start_by 0 h.rows r → e ≡ end_by 0 h.rows r → TermSlices (stretch a e h.row-conditions) (stretch a e h.row-weights)
  term_slices a e p q = record {
    same =
        stretch-length a e h.row-conditions (omega (arith, s.terms.ends r k))
        ∙ sym (stretch-length a e h.row-weights (omega (arith, s.terms.ends r k, s.weighed)));
    below = below-stretch max_nodes h.row-conditions a e s.nodes;
    light = below-stretch (2 ^ 63) h.row-weights a e s.light;
  }

  pub guard_slices : (a e : ℕ) → a ≡ start_by 1 h.rows r → e ≡ end_by 1 h.rows r → GuardSlices (stretch a e h.guard_bounds) (stretch a e h.guard_nodes)
  guard_slices a e p q = record {
    same =
        stretch-length a e h.guard_bounds (omega (arith, s.guards.ends r k))
        ∙ sym (stretch-length a e h.guard_nodes (omega (arith, s.guards.ends r k, s.named)));
    below = below-stretch max_nodes h.guard_nodes a e s.guarded;
  }

-- ---- a row that the buffers hold

pub run_raw : (raw raw' ts : List Term) (gs : List Guard) (v : Live) (r : ℕ) → run_with (row_of raw ts gs) v r ≡ run_with (row_of raw' ts gs) v r
unfolding run_with wants_residual
run_raw raw raw' ts gs v r =
    ap (λ (a : Ran). did (with_residuals (with_marks (with_state v r a.state) a.marks) (residual_queued (row_of raw ts gs) (state_at v r) v.residuals r)) a.step)
    (row-raw raw raw' ts gs (state_at v r) v.marks)

-- It is run as the row of the index.
pub run_held : (x : Index) (h : HeldRows) → Holds x h → (v : Live) (r : ℕ) → r < length h.rows → run_with (held_row h r) v r ≡ run_row x v r
unfolding run_row
run_held x h y v r k =
    let row = get_or x.rows r no_row in
    ap₂ (λ (ts : List Term) (gs : List Guard). run_with (row_of [] ts gs) v r) (sym (y.terms r k)) (sym (y.guards r k))
    ∙ run_raw [] row.raw row.terms row.guards v r

-- ---- edges

pub edges_back : (es : List Edge) → edges_in (map edge_row es) ≡ es
edges_back [] = refl
edges_back (e ∷ es) = ap (λ (l : List Edge). e ∷ l) (edges_back es)

-- A row cut out of the buffers is the row that they hold.
pub run_cut : (h : HeldRows) (r a e b f : ℕ) → a ≡ start_by 0 h.rows r → e ≡ end_by 0 h.rows r → b ≡ start_by 1 h.rows r → f ≡ end_by 1 h.rows r → (v : Live) (o : Did)
    → o ≡ run_with (row_of [] (terms (stretch a e h.row-conditions) (stretch a e h.row-weights)) (guards (stretch b f h.guard_bounds) (stretch b f h.guard_nodes))) v r
    → o ≡ run_with (held_row h r) v r
run_cut h r a e b f p q s t v o made = made ∙ rw (p, q, s, t)

pub rests_cut : (h : HeldRows) (r a e b f : ℕ) → a ≡ start_by 0 h.rows r → e ≡ end_by 0 h.rows r → b ≡ start_by 1 h.rows r → f ≡ end_by 1 h.rows r → (s : State) (m : Marks)
    → Rests (row_of [] (terms (stretch a e h.row-conditions) (stretch a e h.row-weights)) (guards (stretch b f h.guard_bounds) (stretch b f h.guard_nodes))) s m
    → Rests (held_row h r) s m
rests_cut h r a e b f p q i j s m y =
    let cut = row_of [] (terms (stretch a e h.row-conditions) (stretch a e h.row-weights)) (guards (stretch b f h.guard_bounds) (stretch b f h.guard_nodes)) in
    let same : cut ≡ held_row h r = rw (p, q, i, j) in
    subst (λ (x : Row). Rests x s m) same y
