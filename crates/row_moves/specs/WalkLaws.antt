-- WHAT MOVES BETWEEN ROWS, WALKED ONCE: moves are made one after the other up to the first that contradicts. Whoever says what holds
-- before each move gets what holds of the whole, with its answer; for a guard, a condition, handed-on bounds and a seeding. Assumes nothing.
use Rattle.std.specs.Prelude.{ℕ, ◌+◌, ◌<◌, ◌≡◌, Bool, cond, ◌≢◌, length}
use Rattle.std.proofs.Common.{arith, sym, ◌∙◌, eqb-true}
use Rattle.std.proofs.Math.Path.{refl, subst}
use Rattle.std.proofs.Math.Bool.{true, false}
use mathlib.Core.List.Memᴰ
use mathlib.Core.List.{List, [], ◌∷◌, Memᴰ}
use Rattle.std.proofs.Math.Logic.{⊎_elim}
use Rattle.std.proofs.Math.Dec.{eqb}
use Rattle.std.proofs.lemmas.Bool.{eqb-false}
use Rattle.state.specs.StepLaws.{joined_fine, contradiction_is}
use Rattle.numeric.specs.Threshold.{Threshold}
use Rattle.state.specs.declared.Step.{Step}
use Rattle.state.specs.declared.Step.TheVariants.{Unchanged, Contradiction}
use Rattle.state.specs.declared.State.{State}
use Rattle.state.specs.Step.{joined, contradicts}
use Rattle.words.specs.Mask.{bit}
use Rattle.queues.specs.Queue.{queue_row}
use Rattle.rows.specs.Rows.{Row, Edge, edges_of, row_number}
use Rattle.links.specs.Links.{neighbours}
use Rattle.base.specs.TestLaws.{contrary}
use Rattle.row_moves.specs.Between.{Index, Live, state_at, with_state, with_dirty, Did, did, run_row, bounded, threshold_guard, guard_of, condition_from, threshold_condition, prefixes_from, threshold_prefixes, seed_from, with_dirty_rows}
use Rattle.row_moves.specs.Handing.{after, told_step, after-told, edge_run, moved, moved_run, hand_run, guard_row, guard_told, guard_run, Among}
use Rattle.row_moves.specs.LoopLaws.{Walk, walk_end, walk_next, walk_stop, condition_walk, hand_ends, prefix_walk, seed_next, seed_stop, seed_end}

-- ---- THE PRINCIPLE

-- `P` holds before each move, with what is left to walk; `G` is what comes of it.
module _ {A : Type 0} {walk : List A → Live → Did} {move : A → Live → Did} (w : Walk walk move) (all : List A) (P : List A → Live → Type 0) (G : Did → Type 0)
    (end : (v : Live) (k : Step) → contradicts k ≡ false → P [] v → G (did v k))
    (stop : (a : A) (as' : List A) (v : Live) → Memᴰ a all → P (a ∷ as') v → contradicts (move a v).step ≡ true → G (move a v))
    (next : (a : A) (as' : List A) (v : Live) → Memᴰ a all → P (a ∷ as') v → contradicts (move a v).step ≡ false → P as' (move a v).live) where
  walk_from : (as' : List A) → ((a : A) → Memᴰ a as' → Memᴰ a all) → (v : Live) (k : Step) → contradicts k ≡ false → P as' v → G (after k (walk as' v))
  walk_from [] sub v k c p = subst G (walk_end w v k) (end v k c p)
  walk_from (a ∷ as') sub v k c p = by (λ u j d q. walk_from as' (λ b m. sub b (Memᴰ.tail m)) u j d q) (contradicts (move a v).step) refl
    where
      m : Memᴰ a all
      m = sub a (Memᴰ.head refl)

      by : ((u : Live) (j : Step) → contradicts j ≡ false → P as' u → G (after j (walk as' u))) → (t : Bool) → contradicts (move a v).step ≡ t → G (after k (walk (a ∷ as') v))
      by later true h = subst G (walk_stop w a as' v k (move a v) refl h) (stop a as' v m p h)
      by later false h =
          subst G (walk_next w a as' v k (move a v) refl h)
          (later (move a v).live (joined k (move a v).step) (joined_fine k (move a v).step c h) (next a as' v m p h))

  pub walks : (v : Live) → P all v → G (walk all v)
  walks v p = walk_from all (λ a m. m) v Unchanged refl p

-- What holds before each move that does not contradict holds at an end that does not.
pub walk_fine : {A : Type 0} {walk : List A → Live → Did} {move : A → Live → Did} → Walk walk move → (all : List A) (P : List A → Live → Type 0)
    → ((a : A) (as' : List A) (v : Live) → Memᴰ a all → P (a ∷ as') v → contradicts (move a v).step ≡ false → P as' (move a v).live)
    → (v : Live) → P all v → contradicts (walk all v).step ≡ false → P [] (walk all v).live
walk_fine w all P next v p =
    walks w all P (λ (d : Did). contradicts d.step ≡ false → P [] d.live) (λ u k c q e. q) (λ a as' u m q c e. contrary (sym c ∙ e)) next v p

-- What each move keeps where it is made, the walk keeps, whatever it answers.
module _ {A : Type 0} {walk : List A → Live → Did} {move : A → Live → Did} (w : Walk walk move) (Q : Live → Type 0) (all : List A) (v : Live)
    (one : (a : A) (u : Live) → Among move all v a u → Q u → Q (move a u).live) where
  pub walk_keeps : Q v → Q (walk all v).live
  walk_keeps q =
      walks w all (λ (as' : List A) (u : Live). Q u × ((b : A) (t : Live) → Among move as' u b t → Among move all v b t)) (λ (d : Did). Q d.live)
      (λ u k c p. p.0) (λ a as' u m p c. one a u (p.1 a u Among.here) p.0)
      (λ a as' u m p c. (one a u (p.1 a u Among.here) p.0, λ b t i. p.1 b t (Among.later c i))) v (q, λ b t i. i)

-- ---- BOUNDS HANDED ON: a neighbour takes nothing, or takes something and is run

told-true : (k : Step) → contradicts (told_step k) ≡ contradicts k
told-true k = by (contradicts k) refl
  where
    by : (b : Bool) → contradicts k ≡ b → contradicts (told_step k) ≡ contradicts k
    by true e = rw e
    by false e = rw e

module _ (x : Index) (row : ℕ) (source : State) (all : List ℕ) (P : List ℕ → Live → Type 0) (G : Did → Type 0)
    (end : (v : Live) (k : Step) → contradicts k ≡ false → P [] v → G (did v k))
    (skip : (r : ℕ) (rs : List ℕ) (v : Live) → Memᴰ r all → P (r ∷ rs) v → (moved x row source r v).changed ≡ false → P rs v)
    (stop : (r : ℕ) (rs : List ℕ) (v : Live) → Memᴰ r all → P (r ∷ rs) v → (moved x row source r v).changed ≡ true → contradicts (moved_run x row source r v).step ≡ true
    → G (did (moved_run x row source r v).live Contradiction))
    (next : (r : ℕ) (rs : List ℕ) (v : Live) → Memᴰ r all → P (r ∷ rs) v → (moved x row source r v).changed ≡ true → contradicts (moved_run x row source r v).step ≡ false
    → P rs (moved_run x row source r v).live) where
  hand-stop : (r : ℕ) (rs : List ℕ) (v : Live) → Memᴰ r all → P (r ∷ rs) v → contradicts (hand_run x row source r v).step ≡ true → G (hand_run x row source r v)
  hand-stop r rs v m p = hand_ends x row source r v (λ (d : Did). contradicts d.step ≡ true → G d) (λ e h. contrary (sym h)) taken
    where
      d : Did
      d = moved_run x row source r v

      taken : (moved x row source r v).changed ≡ true → contradicts (told_step d.step) ≡ true → G (after-told d)
      taken e h = subst (λ (k : Step). G (did d.live k)) (sym (contradiction_is (told_step d.step) h)) (stop r rs v m p e (sym (told-true d.step) ∙ h))

  hand-next : (r : ℕ) (rs : List ℕ) (v : Live) → Memᴰ r all → P (r ∷ rs) v → contradicts (hand_run x row source r v).step ≡ false → P rs (hand_run x row source r v).live
  hand-next r rs v m p =
      hand_ends x row source r v (λ (d : Did). contradicts d.step ≡ false → P rs d.live) (λ e h. skip r rs v m p e)
      (λ e h. next r rs v m p e (sym (told-true (moved_run x row source r v).step) ∙ h))

  pub prefix_walks : (v : Live) → P all v → G (prefixes_from x row source all v)
  prefix_walks v p = walks (prefix_walk x row source) all P G end hand-stop hand-next v p

pub prefix_fine : (x : Index) (row : ℕ) (source : State) (all : List ℕ) (P : List ℕ → Live → Type 0)
    → ((r : ℕ) (rs : List ℕ) (v : Live) → Memᴰ r all → P (r ∷ rs) v → (moved x row source r v).changed ≡ false → P rs v)
    → ((r : ℕ) (rs : List ℕ) (v : Live) → Memᴰ r all → P (r ∷ rs) v → contradicts (moved_run x row source r v).step ≡ false → P rs (moved_run x row source r v).live)
    → (v : Live) → P all v → contradicts (prefixes_from x row source all v).step ≡ false → P [] (prefixes_from x row source all v).live
prefix_fine x row source all P skip next v p =
    prefix_walks x row source all P (λ (d : Did). contradicts d.step ≡ false → P [] d.live) (λ u k c q e. q) skip (λ r rs u m q t c e. contrary e) (λ r rs u m q t c. next r rs u m q c) v p

-- ---- A DRAINED GUARD: nothing new, or its row is told, and run

module _ (x : Index) (v : Live) (t : Threshold) where
  pub guard-ends : (G : Did → Type 0) → ((guard_told x v t).changed ≡ false → G (did v Unchanged)) → ((guard_told x v t).changed ≡ true → G (guard_run x v t)) → G (threshold_guard x v t)
  unfolding threshold_guard bounded
  guard-ends G none some = by (guard_told x v t).changed refl
    where
      by : (c : Bool) → (guard_told x v t).changed ≡ c → G (elim c [ true ↦ bounded x v (guard_row x t) (guard_told x v t).state | false ↦ did v Unchanged ])
      by true e = some e
      by false e = none e

-- The guard of a node, or none.
module _ (x : Index) (v : Live) (n : ℕ) (G : Did → Type 0) where
  pub guard_of_ends : (ts : List Threshold) → ((t : Threshold) → Memᴰ t ts → t.node ≡ n → G (threshold_guard x v t)) → (((t : Threshold) → Memᴰ t ts → t.node ≢ n) → G (did v Unchanged))
      → G (guard_of x v ts n)
  unfolding guard_of
  guard_of_ends [] some none = none (λ t m. absurd (Memᴰ.not-nil m))
  guard_of_ends (t ∷ ts) some none = by (λ f. guard_of_ends ts (λ u m. some u (Memᴰ.tail m)) f) (eqb t.node n) refl
    where
      by : ((((u : Threshold) → Memᴰ u ts → u.node ≢ n) → G (did v Unchanged)) → G (guard_of x v ts n)) → (c : Bool) → eqb t.node n ≡ c
          → G (elim c [ true ↦ threshold_guard x v t | false ↦ guard_of x v ts n ])
      by later true e = some t (Memᴰ.head refl) (eqb-true t.node n e)
      by later false e = later (λ f. none (λ u m. ⊎_elim (λ (q : u ≡ t). subst (λ (y : Threshold). y.node ≢ n) (sym q) (eqb-false t.node n e)) (f u) (Memᴰ.cases_cons m)))

-- ---- A SEEDING: `P` holds before each row is run

module _ (x : Index) (P : ℕ → Live → Type 0) (G : Did → Type 0)
    (end : (v : Live) (k : Step) → contradicts k ≡ false → P (length x.rows) v → G (did v k))
    (stop : (r : ℕ) (v : Live) → r < length x.rows → P r v → contradicts (run_row x v r).step ≡ true → G (run_row x v r))
    (next : (r : ℕ) (v : Live) → r < length x.rows → P r v → contradicts (run_row x v r).step ≡ false → P (r + 1) (run_row x v r).live) where
  seed-from : (rs : List Row) (r : ℕ) (v : Live) (k : Step) → r + length rs ≡ length x.rows → contradicts k ≡ false → P r v → G (seed_from x r rs v k)
  seed-from [] r v k l c p = subst G (seed_end x r v k) (end v k c (subst (λ (i : ℕ). P i v) (omega arith) p))
  seed-from (y ∷ rs) r v k l c p = by (λ u j d q. seed-from rs (r + 1) u j (omega arith) d q) (contradicts (run_row x v r).step) refl
    where
      by : ((u : Live) (j : Step) → contradicts j ≡ false → P (r + 1) u → G (seed_from x (r + 1) rs u j)) → (t : Bool) → contradicts (run_row x v r).step ≡ t → G (seed_from x r (y ∷ rs) v k)
      by later true h = subst G (seed_stop x r y rs v k (run_row x v r) refl h) (stop r v (omega arith) p h)
      by later false h =
          subst G (seed_next x r y rs v k (run_row x v r) refl h)
          (later (run_row x v r).live (joined k (run_row x v r).step) (joined_fine k (run_row x v r).step c h) (next r v (omega arith) p h))

  pub seed_walks : (v : Live) → P 0 v → G (seed_from x 0 x.rows v Unchanged)
  seed_walks v p = seed-from x.rows 0 v Unchanged (omega arith) refl p

-- ---- WHAT EVERY MOVE KEEPS the walks keep, whatever they answer

module _ (x : Index) (Q : Live → Type 0) where
  pub condition_keeps : (value : Bool) (es : List Edge) → ((e : Edge) (v : Live) → Memᴰ e es → Q v → Q (edge_run x value e v).live) → (v : Live) → Q v → Q (condition_from x value es v).live
  condition_keeps value es one v q =
      walks (condition_walk x value) es (λ (_ : List Edge). Q) (λ (d : Did). Q d.live) (λ u k c p. p) (λ e fs u m p c. one e u m p) (λ e fs u m p c. one e u m p) v q

  pub prefix_keeps : (row : ℕ) (source : State) (rs : List ℕ) → ((r : ℕ) (v : Live) → Memᴰ r rs → (moved x row source r v).changed ≡ true → Q v → Q (moved_run x row source r v).live)
      → (v : Live) → Q v → Q (prefixes_from x row source rs v).live
  prefix_keeps row source rs one v q =
      prefix_walks x row source rs (λ (_ : List ℕ). Q) (λ (d : Did). Q d.live) (λ u k c p. p) (λ r qs u m p e. p) (λ r qs u m p e c. one r u m e p) (λ r qs u m p e c. one r u m e p) v q

-- The same by what a run, a stored state and a queued row keep, of rows of some kind.
pub record Moves (x : Index) (Ok : ℕ → Type 0) (Q : Live → Type 0) : Type 0 where
  pub run : (v : Live) (r : ℕ) → Ok r → Q v → Q (run_row x v r).live
  pub put : (v : Live) (r : ℕ) (s : State) → Q v → Q (with_state v r s)
  pub wait : (v : Live) (r : ℕ) → Ok r → Q v → Q (with_dirty v r)

module _ (x : Index) (Ok : ℕ → Type 0) (Q : Live → Type 0) (h : Moves x Ok Q) where
  pub keep_guard : (v : Live) (t : Threshold) → Ok (row_number x.rows t.terms) → Q v → Q (threshold_guard x v t).live
  keep_guard v t k q =
      guard-ends x v t (λ (d : Did). Q d.live) (λ e. q) (λ e. h.run _ r k (by (eqb (length (neighbours r x.links)) 0)))
    where
      r : ℕ
      r = guard_row x t

      w : Live
      w = with_state v r (guard_told x v t).state

      by : (b : Bool) → Q (with_dirty_rows w (cond b w.dirty (queue_row w.dirty r)))
      by true = h.put v r _ q
      by false = h.wait w r k (h.put v r _ q)

  pub keep_guards : (v : Live) (ts : List Threshold) (n : ℕ) → ((t : Threshold) → Memᴰ t ts → Ok (row_number x.rows t.terms)) → Q v → Q (guard_of x v ts n).live
  keep_guards v ts n are q = guard_of_ends x v n (λ (d : Did). Q d.live) ts (λ t m e. keep_guard v t (are t m) q) (λ f. q)

  pub keep_condition : (v : Live) (n : ℕ) → ((e : Edge) → Memᴰ e (edges_of x.rows n) → Ok e.row) → Q v → Q (threshold_condition x v n).live
  unfolding threshold_condition
  keep_condition v n are q = condition_keeps x Q (bit v.marks.sure n) (edges_of x.rows n) (λ e u m p. h.run _ e.row (are e m) (h.put u e.row _ p)) v q

  pub keep_prefixes : (v : Live) (row : ℕ) → ((r : ℕ) → Memᴰ r (neighbours row x.links) → Ok r) → Q v → Q (threshold_prefixes x v row).live
  unfolding threshold_prefixes
  keep_prefixes v row are q =
      prefix_keeps x Q row (state_at v row) (neighbours row x.links) (λ r u m e p. h.run _ r (are r m) (h.wait _ r (are r m) (h.put u r _ p))) v q
