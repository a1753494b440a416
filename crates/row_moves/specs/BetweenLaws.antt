-- What moves between rows, case by case as the code tells them apart. Assumes nothing.
use Rattle.std.specs.Prelude.{ℕ, ◌<◌, ◌≡◌, ◌≢◌, Bool, true, false, List, length, set, ℤ}
use Rattle.std.proofs.Common.{sym, ap₂, subst, ◌∙◌, get_or-set_same, eq-eqb, ne_eqb}
use Rattle.std.proofs.Math.Path.{ap}
use Rattle.std.proofs.lemmas.List.{set-get_or}
use Rattle.memory.specs.Buffers.{HeldRows}
use Rattle.links.specs.Links.{neighbours}
use Rattle.numeric.specs.Threshold.{Threshold}
use Rattle.words.specs.Mask.{bit}
use Rattle.state.specs.declared.State.{State}
use Rattle.state.specs.State.{no_state}
use Rattle.state.specs.declared.Step.{Step}
use Rattle.state.specs.declared.Step.TheVariants.{Unchanged}
use Rattle.queues.specs.declared.Rings.{Rings}
use Rattle.queues.specs.Queue.{Rows, queue_row}
use Rattle.rows.specs.Rows.{Row, row_number}
use Rattle.row_moves.specs.Between.{Index, Live, live, state_at, with_state, with_dirty, with_bound, Did, did, residual_queued, linked_queued, run_with, bounded, threshold_guard, with_dirty_rows, with_marks, with_residuals, with_states}
use Rattle.row_moves.specs.Held.{Holds, held_row}
use Rattle.row_moves.specs.HeldLaws.{run_held}
use Rattle.row_moves.specs.WalkLaws.{guard-ends}
use Rattle.row_moves.specs.Handing.{guard_row}
use Rattle.base.specs.TestLaws.{contrary}
use Rattle.tightening.specs.Told.{Tightened, guard_state}
use Rattle.row_runs.specs.Row.{Ran, ran, threshold_row, wants_residual}
use Rattle.resting.specs.Rest.{Rests}

-- A residual is queued, or not.
pub residual-waits : (row : Row) (s : State) (q : Rows) (r : ℕ) → wants_residual row s ≡ true → queue_row q r ≡ residual_queued row s q r
residual-waits row s q r h = rw h

pub residual-not : (row : Row) (s : State) (q : Rows) (r : ℕ) → wants_residual row s ≡ false → q ≡ residual_queued row s q r
residual-not row s q r h = rw h

-- A run, from the row's state and what its run gave.
pub run_made : (row : Row) (v : Live) (r : ℕ) (s : State) → state_at v r ≡ s → (v' : Live) (t : State) (k : Step)
    → ran t v'.marks k ≡ threshold_row row s v.marks → v'.states ≡ set v.states r t → v'.dirty ≡ v.dirty → v'.residuals ≡ residual_queued row s v.residuals r
    → did v' k ≡ run_with row v r
unfolding run_with
run_made row v r s f v' t k g states dirty residuals =
    let run = g ∙ ap (λ (y : State). threshold_row row y v.marks) (sym f) in
    let ss = states ∙ ap (λ (y : Ran). set v.states r y.state) run in
    let q = residuals ∙ ap (λ (y : State). residual_queued row y v.residuals r) (sym f) in
    (λ i. did (live (ss i) (run i).marks (dirty i) (q i)) (run i).step)

-- A row that rests is run with nothing changed, where its state stands already and where it was told.
pub rest_run : (row : Row) (v : Live) (r : ℕ) → Rests row (state_at v r) v.marks → did v Unchanged ≡ run_with row v r
unfolding run_with
rest_run row v r y =
    let s = state_at v r in
    sym (ap (λ (a : Ran). did (with_residuals (with_marks (with_state v r a.state) a.marks) (residual_queued row s v.residuals r)) a.step) y.run
    ∙ ap₂ (λ (ss : List State) (q : Rows). did (with_residuals (with_states v ss) q) Unchanged) (set-get_or v.states r no_state) (sym (residual-not row s v.residuals r y.residual)))

pub rest_told : (row : Row) (v : Live) (r : ℕ) (s : State) → r < length v.states → Rests row s v.marks → (v' : Live) → v'.states ≡ set v.states r s → v'.marks ≡ v.marks
    → v'.dirty ≡ queue_row v.dirty r → v'.residuals ≡ v.residuals → did v' Unchanged ≡ run_with row (with_dirty (with_state v r s) r) r
rest_told row v r s k y v' states marks dirty residuals =
    let w = with_dirty (with_state v r s) r in
    let there = subst (λ (x : State). Rests row x v.marks) (sym (get_or-set_same v.states r s no_state k)) y in
    (λ i. did (live (states i) (marks i) (dirty i) (residuals i)) Unchanged) ∙ rest_run row w r there

-- What is given back stands for what it equals.
pub stood_as : (f : Rings → Live) (r r' : Rings) (k k' : Step) → r ≡ r' → k ≡ k' → (o : Did) → did (f r') k' ≡ o → did (f r) k ≡ o
stood_as f r r' k k' e g o made = ap₂ (λ (y : Rings) (z : Step). did (f y) z) e g ∙ made

-- A row with links waits.
pub linked-waits : (n : ℕ) (q : Rows) (r : ℕ) → n ≢ 0 → queue_row q r ≡ linked_queued n q r
linked-waits n q r h = rw (ne_eqb n 0 h)

pub linked-not : (n : ℕ) (q : Rows) (r : ℕ) → n ≡ 0 → q ≡ linked_queued n q r
linked-not n q r h = rw (eq-eqb n 0 h)

-- A state is stored, and the row run; a moved bound waits to be handed on before.
pub store_run : (row : Row) (v : Live) (r : ℕ) (s : State) (ss : List State) → ss ≡ set v.states r s → (o : Did)
    → o ≡ run_with row (with_states v ss) r → o ≡ run_with row (with_state v r s) r
store_run row v r s ss e o made = made ∙ ap (λ (y : List State). run_with row (with_states v y) r) e

pub linked_run : (row : Row) (v : Live) (r n : ℕ) (s : State) (d q : Rows) → d ≡ linked_queued n v.dirty r → q ≡ v.residuals → (o : Did)
    → o ≡ run_with row (with_residuals (with_dirty_rows (with_state v r s) d) q) r → o ≡ run_with row (with_bound v r s n) r
linked_run row v r n s d q e f o made = made ∙ ap₂ (λ (y z : Rows). run_with row (with_residuals (with_dirty_rows (with_state v r s) y) z) r) e f

pub bounded_held : (x : Index) (h : HeldRows) → Holds x h → (v : Live) (r : ℕ) (s : State) (n : ℕ) → r < length h.rows → length (neighbours r x.links) ≡ n → (o : Did)
    → o ≡ run_with (held_row h r) (with_bound v r s n) r → o ≡ bounded x v r s
unfolding bounded
bounded_held x h y v r s n k e o made =
    made ∙ ap (λ (j : ℕ). run_with (held_row h r) (with_bound v r s j) r) (sym e) ∙ run_held x h y (with_bound v r s (length (neighbours r x.links))) r k

-- A drained guard: its bound is new, or not.
module _ (x : Index) (v : Live) (t : Threshold) (r : ℕ) (row : row_number x.rows t.terms ≡ r) (s : State) (at : state_at v r ≡ s) (n : ℕ) (node : t.node ≡ n)
    (b : ℤ) (bound : t.bound ≡ b) (value : Bool) (has : bit v.marks.sure n ≡ value) (g : Tightened) (told : g ≡ guard_state s value b) where
  same : guard_state (state_at v (row_number x.rows t.terms)) (bit v.marks.sure t.node) t.bound ≡ g
  same =
      ap (λ (k : ℕ). guard_state (state_at v k) (bit v.marks.sure t.node) t.bound) row
      ∙ ap (λ (y : State). guard_state y (bit v.marks.sure t.node) t.bound) at
      ∙ ap (λ (k : ℕ). guard_state s (bit v.marks.sure k) t.bound) node
      ∙ ap (λ (y : Bool). guard_state s y t.bound) has ∙ ap (guard_state s value) bound ∙ sym told

  pub guard_moves : g.changed ≡ true → (o : Did) → o ≡ bounded x v r g.state → o ≡ threshold_guard x v t
  unfolding bounded
  guard_moves h o e =
      guard-ends x v t (λ (d : Did). o ≡ d) (λ f. contrary (sym (ap (λ (y : Tightened). y.changed) same ∙ h) ∙ f))
      (λ f. e ∙ ap (λ (k : ℕ). bounded x v k g.state) (sym row) ∙ ap (λ (y : Tightened). bounded x v (guard_row x t) y.state) (sym same))

  pub guard_tells_nothing : g.changed ≡ false → did v Unchanged ≡ threshold_guard x v t
  guard_tells_nothing h = guard-ends x v t (λ (d : Did). did v Unchanged ≡ d) (λ f i. did v Unchanged) (λ f. contrary (sym f ∙ (ap (λ (y : Tightened). y.changed) same ∙ h)))
