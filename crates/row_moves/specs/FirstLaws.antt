-- The first states of all rows: written row by row, and ready to be run. Assumes nothing.
use Rattle.std.specs.Prelude.{ℕ, zero, suc, ◌+◌, ◌-◌, ◌<◌, ◌≤◌, ◌≡◌, refl, get_or, set, drop, ℤ}
use Rattle.std.proofs.Common.{add-one, arith, sym, ap₂, ◌∙◌, drop_of_length-le, drop-cons, get_or-set_same, get_or-set_other}
use Rattle.std.proofs.Math.Path.{ap}
use mathlib.Core.List.{List, [], ◌∷◌}
use Rattle.std.proofs.Math.ListN.{length, length-set}
use Rattle.memory.specs.Buffers.{HeldRows, held_rows}
use Rattle.numeric.specs.Slices.{terms}
use Rattle.state.specs.declared.State.{State}
use Rattle.state.specs.State.{first_state, no_state}
use Rattle.row.specs.Terms.{total}
use Rattle.queues.specs.Queue.{Rows}
use Rattle.queues.specs.Marks.{Marks}
use Rattle.queues.specs.Waiting.{Waits, Flags}
use Rattle.rows.specs.Rows.{Row, no_row, Guard, state_of_row}
use Rattle.base.specs.Parts.{stretch}
use Rattle.rows.specs.ListsLaws.{stretch-length}
use Rattle.row_runs.specs.GuardsLaws.{length-guards}
use Rattle.row_moves.specs.Between.{Index, first_states}
use Rattle.row_moves.specs.Held.{start_by, end_by, stretch_by, held_guards, Shaped, Holds}
use Rattle.row_moves.specs.Ready.{Ready, first_at, Totals}

-- As many guards as the stretch is long.
guards_many : (h : HeldRows) → Shaped h → (r : ℕ) → r < length h.rows → length (held_guards h r) ≡ end_by 1 h.rows r - start_by 1 h.rows r
guards_many h y r k =
    let a = start_by 1 h.rows r in
    let e = end_by 1 h.rows r in
    length-guards (stretch a e h.guard_bounds) (stretch a e h.guard_nodes)
    ∙ omega (arith, stretch-length a e h.guard_bounds (y.guards.ends r k), stretch-length a e h.guard_nodes (omega (arith, y.guards.ends r k, y.named)))

-- The same, cut out of the buffers.
pub first-cut : (cs ws : List ℕ) (rows : List (List ℕ)) (r a e g n : ℕ) → a ≡ start_by 0 rows r → e ≡ end_by 0 rows r
    → n ≡ total (terms (stretch a e cs) (stretch a e ws)) → g ≡ end_by 1 rows r - start_by 1 rows r → first_state n g ≡ first_at cs ws rows r
first-cut cs ws rows r a e g n p q s t = ap₂ first_state (s ∙ (rw (p, q))) t

pub small_cut : (cs ws : List ℕ) (rows : List (List ℕ)) (r a e n : ℕ) → a ≡ start_by 0 rows r → e ≡ end_by 0 rows r
    → total (terms (stretch_by 0 rows r cs) (stretch_by 0 rows r ws)) < n → total (terms (stretch a e cs) (stretch a e ws)) < n
small_cut cs ws rows r a e n p q h = rw (p, q) h

first_held : (x : Index) (h : HeldRows) → Holds x h → Shaped h → (r : ℕ) → r < length h.rows → first_at h.row-conditions h.row-weights h.rows r ≡ state_of_row (get_or x.rows r no_row)
first_held x h z y r k =
    ap₂ first_state (ap total (sym (z.terms r k))) (sym (guards_many h y r k) ∙ ap (λ (gs : List Guard). length gs) (sym (z.guards r k)))

-- ---- the loop

pub record Starting (cs ws : List ℕ) (rows : List (List ℕ)) (ss₀ : List State) (row : ℕ) (ss : List State) : Type 0 where
  pub long : length ss ≡ length ss₀
  pub whole : (x : Index) (bs : List ℤ) (ns : List ℕ) → Shaped (held_rows cs ws rows bs ns) → Holds x (held_rows cs ws rows bs ns)
      → first_states row (drop row x.rows) ss ≡ first_states 0 x.rows ss₀

module _ (cs ws : List ℕ) (rows : List (List ℕ)) (ss₀ : List State) where
  pub starting_first : Starting cs ws rows ss₀ 0 ss₀
  starting_first = record { long = refl; whole = λ x bs ns y z. refl }

  module _ (row : ℕ) (ss : List State) (l : Starting cs ws rows ss₀ row ss) where
    pub starting_end : length rows ≤ row → (x : Index) (bs : List ℤ) (ns : List ℕ) → Shaped (held_rows cs ws rows bs ns) → Holds x (held_rows cs ws rows bs ns)
        → ss ≡ first_states 0 x.rows ss₀
    unfolding first_states
    starting_end t x bs ns y z =
        ap (λ (rs : List Row). first_states row rs ss) (sym (drop_of_length-le x.rows {i = row} (omega (arith, z.many)))) ∙ l.whole x bs ns y z

    pub starting_next : row < length rows → (s : State) → s ≡ first_at cs ws rows row → (ss' : List State) → ss' ≡ set ss row s → Starting cs ws rows ss₀ (row + 1) ss'
    unfolding first_states
    starting_next k s e ss' f = record {
      long = ap (λ (y : List State). length y) f ∙ length-set ss row s ∙ l.long;
      whole = λ x bs ns y z.
          ap (first_states (row + 1) (drop (row + 1) x.rows)) (f ∙ ap (set ss row) (e ∙ first_held x (held_rows cs ws rows bs ns) z y row k))
          ∙ ap (λ (i : ℕ). first_states (row + 1) (drop i x.rows) (set ss row (state_of_row (get_or x.rows row no_row)))) (add-one row)
          ∙ ap (λ (rs : List Row). first_states row rs ss) (sym (drop-cons x.rows row no_row (omega (arith, z.many)))) ∙ l.whole x bs ns y z;
    }

-- ---- ready

first_long : (r : ℕ) (rs : List Row) (ss : List State) → length (first_states r rs ss) ≡ length ss
unfolding first_states
first_long r [] ss = refl
first_long r (x ∷ rs) ss = first_long (r + 1) rs (set ss r (state_of_row x)) ∙ length-set ss r (state_of_row x)

first-before : (r : ℕ) (rs : List Row) (ss : List State) (i : ℕ) → i < r → get_or (first_states r rs ss) i no_state ≡ get_or ss i no_state
unfolding first_states
first-before r [] ss i h = refl
first-before r (x ∷ rs) ss i h = first-before (r + 1) rs (set ss r (state_of_row x)) i (omega arith) ∙ get_or-set_other ss r i (state_of_row x) no_state (λ (e : i ≡ r). omega arith)

first_there : (r : ℕ) (rs : List Row) (ss : List State) (i : ℕ) → i < length rs → r + length rs ≤ length ss → get_or (first_states r rs ss) (r + i) no_state ≡ state_of_row (get_or rs i no_row)
unfolding first_states
first_there r [] ss i h k = absurd (omega arith)
first_there r (x ∷ rs) ss zero h k =
    ap (λ (j : ℕ). get_or (first_states (r + 1) rs (set ss r (state_of_row x))) j no_state) (omega arith)
    ∙ first-before (r + 1) rs (set ss r (state_of_row x)) r (omega arith) ∙ get_or-set_same ss r (state_of_row x) no_state (omega arith)
first_there r (x ∷ rs) ss (suc i) h k =
    ap (λ (j : ℕ). get_or (first_states (r + 1) rs (set ss r (state_of_row x))) j no_state) (omega arith)
    ∙ first_there (r + 1) rs (set ss r (state_of_row x)) i (omega arith) (omega (arith, length-set ss r (state_of_row x)))

-- With every total in range, all is ready.
pub ready_first : (x : Index) (h : HeldRows) → Holds x h → Shaped h → (n : ℕ) → Totals n h.row-conditions h.row-weights h.rows
    → (ss : List State) → length h.rows ≤ length ss → (m : Marks) → Waits m → (q : Rows) → Flags q → Ready h n (first_states 0 x.rows ss) m q
unfolding first_state
ready_first x h z y n small ss l m w q f = record {
  long = omega (arith, first_long 0 x.rows ss);
  fit = λ r k. rw (at r k)
      (record {
        known = omega (arith, small r k);
        possible = small r k;
        lower = omega arith;
        upper = omega arith;
        inside = omega arith;
      });
  waits = w;
  flags = f;
}
  where
    at : (r : ℕ) → r < length h.rows → get_or (first_states 0 x.rows ss) r no_state ≡ first_at h.row-conditions h.row-weights h.rows r
    at r k =
        ap (λ (j : ℕ). get_or (first_states 0 x.rows ss) j no_state) (omega arith)
        ∙ first_there 0 x.rows ss r (omega (arith, z.many)) (omega (arith, z.many)) ∙ sym (first_held x h z y r k)
