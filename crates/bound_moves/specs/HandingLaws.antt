-- The loop of `threshold_prefixes` over a row's neighbours: what holds at each place. Assumes nothing.
use Rattle.std.specs.Prelude.{ℕ, ◌+◌, ◌-◌, ◌<◌, ◌≤◌, ◌≡◌, refl, Bool, true, false, List, ◌∷◌, length, get_or, ℤ}
use Rattle.std.proofs.Common.{arith, sym, ◌∙◌}
use Rattle.std.proofs.Math.Path.{ap}
use Rattle.std.proofs.Math.Bool.{cond}
use Rattle.std.specs.Int.Signed.{mag}
use Rattle.memory.specs.Buffers.{HeldRows}
use Rattle.numeric.specs.Threshold.{Term}
use Rattle.numeric.specs.TermsLaws.{length-terms}
use Rattle.state.specs.declared.Step.{Step}
use Rattle.state.specs.declared.Step.TheVariants.{Unchanged}
use Rattle.state.specs.declared.State.{State}
use Rattle.state.specs.Step.{joined, contradicts}
use Rattle.state.specs.State.{limit}
use Rattle.queues.specs.RowsLaws.{flags_queue}
use Rattle.queues.specs.Waiting.{Flags}
use Rattle.rows.specs.Rows.{Row, no_row}
use Rattle.base.specs.Parts.{stretch}
use Rattle.rows.specs.ListsLaws.{stretch-length}
use Rattle.links.specs.Links.{neighbours}
use Rattle.tightening.specs.Told.{Tightened, moved_state, guard_state}
use Rattle.memory.specs.Ranges.{figure_limit}
use Rattle.row_moves.specs.Between.{Index, Live, Did, did, state_at, with_state, with_dirty, run_with, run_row, term_count, prefixes_from, threshold_prefixes}
use Rattle.row_moves.specs.Handing.{after, told_step, handed_on}
use Rattle.row_moves.specs.Held.{start_by, end_by, held_row, Shaped, LinksShaped, Holds, HoldsLinks}
use Rattle.row_moves.specs.HeldLaws.{stretch_cons, stretch-none, run_held}
use Rattle.row_moves.specs.Ready.{Fit, ReadyLive, Runnable}
use Rattle.row_moves.specs.ReadyLaws.{ready_set, ready_run, ready_by, fit_prefix, fit_guard}
use Rattle.row_moves.specs.LoopLaws.{walk_next, walk_stop, walk_end, prefix_walk}

-- ---- one neighbour

-- Told something new, or not.
module _ (row : Row) (v : Live) (r : ℕ) (t u : Tightened) (e : u ≡ t) where
  pub handed_new : u.changed ≡ true → (o : Did) → o ≡ run_with row (with_dirty (with_state v r u.state) r) r → (k : Step) → k ≡ told_step o.step
      → did o.live k ≡ handed_on row v r t
  unfolding handed_on
  handed_new h o f k g =
      ap (did o.live) g ∙ ap (λ (y : Did). did y.live (told_step y.step)) f
      ∙ ap (λ (b : Bool). cond b (did (run_with row (with_dirty (with_state v r u.state) r) r).live (told_step (run_with row (with_dirty (with_state v r u.state) r) r).step)) (did v Unchanged)) (sym h)
      ∙ ap (handed_on row v r) e

  pub handed_none : u.changed ≡ false → did v Unchanged ≡ handed_on row v r t
  unfolding handed_on
  handed_none h =
      ap (λ (b : Bool). cond b (did (run_with row (with_dirty (with_state v r u.state) r) r).live (told_step (run_with row (with_dirty (with_state v r u.state) r) r).step)) (did v Unchanged)) (sym h)
      ∙ ap (handed_on row v r) e

-- The row that the buffers hold is told what the row of the index is.
pub handed_held : (x : Index) (h : HeldRows) → Holds x h → (v : Live) (r : ℕ) → r < length h.rows → (t : Tightened)
    → handed_on (held_row h r) v r t ≡ handed_on (get_or x.rows r no_row) v r t
unfolding handed_on run_row
handed_held x h y v r k t =
    ap (λ (d : Did). cond t.changed (did d.live (told_step d.step)) (did v Unchanged)) (run_held x h y (with_dirty (with_state v r t.state) r) r k)

-- What is ready stays so.
module _ (h : HeldRows) (y : Shaped h) (n : ℕ) (v : Live) (w : ReadyLive h n v) (r : ℕ) (k : r < length h.rows) (t : Tightened) where
  pub ready_handed : Fit h n r t.state → ReadyLive h n (handed_on (held_row h r) v r t).live
  unfolding handed_on
  ready_handed f = by t.changed
    where
      d : Did
      d = run_with (held_row h r) (with_dirty (with_state v r t.state) r) r

      by : (b : Bool) → ReadyLive h n (cond b (did d.live (told_step d.step)) (did v Unchanged)).live
      by true = ready_run h n y (with_dirty (with_state v r t.state) r) (ready_set h n v.states v.marks v.residuals w r t.state f) r k
      by false = w

  pub flags_handed : Flags v.dirty → Flags (handed_on (held_row h r) v r t).live.dirty
  unfolding handed_on run_with
  flags_handed f = by t.changed
    where
      d : Did
      d = run_with (held_row h r) (with_dirty (with_state v r t.state) r) r

      by : (b : Bool) → Flags (cond b (did d.live (told_step d.step)) (did v Unchanged)).live.dirty
      by true = flags_queue v.dirty f r (omega (arith, y.few))
      by false = f

flags_by : (c d : Did) → c ≡ d → Flags d.live.dirty → Flags c.live.dirty
flags_by c d e f = rw e f

-- As many terms as the stretch is long.
pub count_held : (x : Index) (h : HeldRows) → Holds x h → Shaped h → (r : ℕ) → r < length h.rows → term_count x r ≡ end_by 0 h.rows r - start_by 0 h.rows r
count_held x h z y r k =
    let a = start_by 0 h.rows r in
    let e = end_by 0 h.rows r in
    ap (λ (ts : List Term). length ts) (z.terms r k)
    ∙ length-terms (stretch a e h.row-conditions) (stretch a e h.row-weights)
    ∙ omega (arith, stretch-length a e h.row-conditions (y.terms.ends r k), stretch-length a e h.row-weights (omega (arith, y.terms.ends r k, y.weighed)))

-- What a row takes of a source, of a neighbour's bounds or of a guard's, fits it.
pub fit_taken : (h : HeldRows) (n r : ℕ) (source s t : State) (many own : ℕ) (u : Tightened) → mag source.lower < figure_limit → mag (limit source.upper) < figure_limit
    → s ≡ t → Fit h n r t → u ≡ moved_state source s many own → Fit h n r u.state
fit_taken h n r source s t many own u lo up e f g = rw (g, e) (fit_prefix h n r source t many own lo up f)

pub fit_told : (h : HeldRows) (n r : ℕ) (s t : State) (value : Bool) (b : ℤ) (u : Tightened) → mag b < figure_limit → s ≡ t → Fit h n r t → u ≡ guard_state s value b
    → Fit h n r u.state
fit_told h n r s t value b u l e f g = rw (g, e) (fit_guard h n r t value b l f)

-- ---- the loop

-- The neighbours from one place to another: each is a row.
pub record Links (h : HeldRows) (links : List ℕ) (from end : ℕ) : Type 0 where
  pub inside : end ≤ length links
  pub rows : (at r : ℕ) → from ≤ at → at < end → r ≡ get_or links at 0 → r < length h.rows

-- Those of a row are such.
pub links_of : (h : HeldRows) (links : List ℕ) → LinksShaped h links → (r : ℕ) → r < length h.rows → (a e : ℕ) → a ≡ start_by 2 h.rows r → e ≡ end_by 2 h.rows r
    → Links h links a e
links_of h links y r k a e p q = record {
  inside = omega (arith, y.inside.ends r k);
  rows = λ at o f g i. omega (arith, y.rows r at k (omega arith) (omega arith));
}

-- What was done up to a place, joined with the neighbours from there on, is the whole.
pub record Handing (h : HeldRows) (links : List ℕ) (row : ℕ) (source : State) (from end : ℕ) (v₀ : Live) (at : ℕ) (k : Step) (v : Live) : Type 0 where
  pub above : from ≤ at
  pub own : Links h links from end
  pub runnable : Runnable h figure_limit v
  pub whole : (x : Index) → Holds x h → after k (prefixes_from x row source (stretch at end links) v) ≡ prefixes_from x row source (stretch from end links) v₀

module _ (h : HeldRows) (links : List ℕ) (row : ℕ) (source : State) (from end : ℕ) (v₀ : Live) where
  pub handing_first : Links h links from end → Runnable h figure_limit v₀ → Handing h links row source from end v₀ from Unchanged v₀
  handing_first o y = record { above = omega arith; own = o; runnable = y; whole = λ x z. refl }

  module _ (at : ℕ) (k : Step) (v : Live) (l : Handing h links row source from end v₀ at k v) where
    pub handing_end : end ≤ at → (x : Index) → Holds x h → did v k ≡ prefixes_from x row source (stretch from end links) v₀
    handing_end t x z =
        walk_end (prefix_walk x row source) v k
        ∙ ap (λ (rs : List ℕ). after k (prefixes_from x row source rs v)) (sym (stretch-none links at end t)) ∙ l.whole x z

    module _ (y : Shaped h) (here : at < end) (own : row < length h.rows) (many : ℕ) (mine : many ≡ end_by 0 h.rows row - start_by 0 h.rows row)
        (r : ℕ) (other : r ≡ get_or links at 0) (count : ℕ) (its : count ≡ end_by 0 h.rows r - start_by 0 h.rows r) (v' : Live) (j : Step)
        (made : did v' j ≡ handed_on (held_row h r) v r (moved_state source (state_at v r) many count)) where
      is : r < length h.rows
      is = l.own.rows at r l.above here other

      -- The turn, as the definition takes it.
      turned : (x : Index) → Holds x h → did v' j ≡ handed_on (get_or x.rows (get_or links at 0) no_row) v (get_or links at 0)
          (moved_state source (state_at v (get_or links at 0)) (term_count x row) (term_count x (get_or links at 0)))
      turned x z =
          made ∙ handed_held x h z v r is (moved_state source (state_at v r) many count)
          ∙ ap (λ (i : ℕ). handed_on (get_or x.rows r no_row) v r (moved_state source (state_at v r) i count)) (mine ∙ sym (count_held x h z y row own))
          ∙ ap (λ (i : ℕ). handed_on (get_or x.rows r no_row) v r (moved_state source (state_at v r) (term_count x row) i)) (its ∙ sym (count_held x h z y r is))
          ∙ ap (λ (i : ℕ). handed_on (get_or x.rows i no_row) v i (moved_state source (state_at v i) (term_count x row) (term_count x i))) other

      next : (x : Index) (b : Step) → after b (prefixes_from x row source (get_or links at 0 ∷ stretch (at + 1) end links) v) ≡ after b (prefixes_from x row source (stretch at end links) v)
      next x b = ap (λ (rs : List ℕ). after b (prefixes_from x row source rs v)) (sym (stretch_cons 0 links at end here l.own.inside))

      pub handing_next : mag source.lower < figure_limit → mag (limit source.upper) < figure_limit → contradicts j ≡ false → (b : Step) → b ≡ joined k j
          → Handing h links row source from end v₀ (at + 1) b v'
      handing_next lo up c b e =
          let t = moved_state source (state_at v r) many count in
          let f = fit_prefix h figure_limit r source (state_at v r) many count lo up (l.runnable.ready.fit r is) in
          let o = handed_on (held_row h r) v r t in
          record {
            above = omega (arith, l.above);
            own = l.own;
            runnable = record {
              ready = ready_by h figure_limit (did v' j) o made (ready_handed h y figure_limit v l.runnable.ready r is t f);
              dirty = flags_by (did v' j) o made (flags_handed h y figure_limit v l.runnable.ready r is t l.runnable.dirty);
            };
            whole = λ x z.
                ap (λ (i : Step). after i (prefixes_from x row source (stretch (at + 1) end links) v')) e
                ∙ walk_next (prefix_walk x row source) (get_or links at 0) (stretch (at + 1) end links) v k (did v' j) (turned x z) c
                ∙ next x k ∙ l.whole x z;
          }

      pub handing_stop : contradicts j ≡ true → (x : Index) → Holds x h → did v' j ≡ prefixes_from x row source (stretch from end links) v₀
      handing_stop c x z =
          walk_stop (prefix_walk x row source) (get_or links at 0) (stretch (at + 1) end links) v k (did v' j) (turned x z) c ∙ next x k ∙ l.whole x z

-- The neighbours of the buffers are those of the index.
pub prefixes_held : (x : Index) (h : HeldRows) (links : List ℕ) → HoldsLinks x h links → (r : ℕ) → r < length h.rows → (a e : ℕ) → a ≡ start_by 2 h.rows r → e ≡ end_by 2 h.rows r
    → (v : Live) (source : State) → source ≡ state_at v r → prefixes_from x r source (stretch a e links) v ≡ threshold_prefixes x v r
unfolding threshold_prefixes
prefixes_held x h links y r k a e p q v source s =
    ap (λ (i : ℕ). prefixes_from x r source (stretch i e links) v) p
    ∙ ap (λ (i : ℕ). prefixes_from x r source (stretch (start_by 2 h.rows r) i links) v) q
    ∙ ap (λ (rs : List ℕ). prefixes_from x r source rs v) (sym (y r k))
    ∙ ap (λ (t : State). prefixes_from x r t (neighbours r x.links) v) s
