-- SEALING AND SETTLING, WALKED ONCE: what holds before each row that is run, and before each turn, holds of the whole, with its answer.
-- Only this file opens a turn and the draining. Assumes nothing.
use Prim.Native.Nat.{ℕ, zero, suc, ◌+◌, ◌<◌}
use Rattle.std.proofs.Common.{arith, sym, ap, ◌∙◌}
use Rattle.std.specs.Prelude.{◌≡◌, Bool, ◌&&◌, length}
use Rattle.std.proofs.Math.Path.{refl}
use Rattle.std.proofs.Math.Bool.{true, false}
use Rattle.std.proofs.lemmas.Bool.{eqb-false}
use Rattle.state.specs.StepLaws.{joined_fine}
use Rattle.state.specs.declared.Step.{Step}
use Rattle.state.specs.declared.Step.TheVariants.{Unchanged}
use Rattle.state.specs.Step.{joined, contradicts}
use Rattle.queues.specs.Queue.{is_empty, oldest}
use Rattle.row_moves.specs.Between.{Index, Live, Did, did, run_row, threshold_prefixes}
use Rattle.row_moves.specs.Handing.{after}
use Rattle.row_moves.specs.WalkLaws.{seed_walks, Moves, keep_guards, keep_condition, keep_prefixes}
use Rattle.drain.specs.Drain.{seal, take_node, take_row, turn, at_rest, drain, turns, settle}
use Rattle.drain.specs.Steps.{begun, untaken, unrowed, node_told, node_drained}

-- ---- A SEAL

module _ (x : Index) (P : ℕ → Live → Type 0) (G : Did → Type 0)
    (end : (v : Live) (k : Step) → contradicts k ≡ false → P (length x.rows) v → G (did v k))
    (stop : (r : ℕ) (v : Live) → r < length x.rows → P r v → contradicts (run_row x v r).step ≡ true → G (run_row x v r))
    (next : (r : ℕ) (v : Live) → r < length x.rows → P r v → contradicts (run_row x v r).step ≡ false → P (r + 1) (run_row x v r).live) where
  pub seal_walks : (v : Live) → P 0 (begun x v) → G (seal x v)
  unfolding seal
  seal_walks v p = seed_walks x P G end stop next (begun x v) p

pub seal_keeps : (x : Index) (Q : Live → Type 0) → ((v : Live) (r : ℕ) → r < length x.rows → Q v → Q (run_row x v r).live) → (v : Live) → Q (begun x v) → Q (seal x v).live
seal_keeps x Q one v q = seal_walks x (λ (_ : ℕ). Q) (λ (d : Did). Q d.live) (λ u k c p. p) (λ r u l p c. one u r l p) (λ r u l p c. one u r l p) v q

-- ---- A TURN

module _ (x : Index) (v : Live) where
  module _ (G : Did → Type 0) where
    pub node_ends : (contradicts (node_told x v).step ≡ true → G (node_told x v))
        → (contradicts (node_told x v).step ≡ false → G (after (node_told x v).step (node_drained x v))) → G (take_node x v)
    unfolding take_node
    node_ends stop go = by (contradicts (node_told x v).step) refl
      where
        by : (b : Bool) → contradicts (node_told x v).step ≡ b → G (elim b [ true ↦ node_told x v | false ↦ after (node_told x v).step (node_drained x v) ])
        by true e = stop e
        by false e = go e

    pub row_ends_lem : G (threshold_prefixes x (unrowed v) (oldest v.dirty.queue)) → G (take_row x v)
    unfolding take_row
    row_ends_lem g = g

    -- Where something waits, a node does, or a row.
    pub turn-ends : at_rest v ≡ false → (0 < v.marks.nodes.ring.count → G (take_node x v)) → (0 < v.dirty.queue.ring.count → G (take_row x v)) → G (turn x v)
    turn-ends h node row = by (is_empty v.marks.nodes) refl
      where
        by : (b : Bool) → is_empty v.marks.nodes ≡ b → G (elim b [ true ↦ take_row x v | false ↦ take_node x v ])
        by true e = row (omega (arith, eqb-false v.dirty.queue.ring.count 0 (sym (ap (λ (a : Bool). a && is_empty v.dirty.queue) e) ∙ h)))
        by false e = node (omega (arith, eqb-false v.marks.nodes.ring.count 0 e))

-- What every move and the two takings keep, a turn keeps.
pub keep_turn : (x : Index) (Q : Live → Type 0) → Moves x (λ (r : ℕ). Unit {0}) Q → ((v : Live) → Q v → Q (untaken v)) → ((v : Live) → Q v → Q (unrowed v))
    → (v : Live) → at_rest v ≡ false → Q v → Q (turn x v).live
keep_turn x Q m node row v h q =
    turn-ends x v Kept h (λ some. node_ends x v Kept (λ e. told) (λ e. keep_condition x Any Q m (node_told x v).live (oldest v.marks.nodes) (λ i k. tt) told))
    (λ some. row_ends_lem x v Kept (keep_prefixes x Any Q m (unrowed v) (oldest v.dirty.queue) (λ r k. tt) (row v q)))
  where
    Any : ℕ → Type 0
    Any r = Unit {0}

    Kept : Did → Type 0
    Kept d = Q d.live

    told : Q (node_told x v).live
    told = keep_guards x Any Q m (untaken v) x.thresholds (oldest v.marks.nodes) (λ t k. tt) (node v q)

-- ---- DRAINING

-- One round, by the answers to its tests.
abbrev pub goes : Index → ℕ → Live → Step → Did → Bool → Bool → Did
goes x n v k t rest contradiction = elim rest [ true ↦ did v k | false ↦ elim contradiction [ true ↦ t | false ↦ drain n x t.live (joined k t.step) ] ]

pub drain_goes : (x : Index) (n : ℕ) (v : Live) (k : Step) (a c : Bool) → at_rest v ≡ a → contradicts (turn x v).step ≡ c → drain (suc n) x v k ≡ goes x n v k (turn x v) a c
unfolding drain
drain_goes x n v k a c e f = ap (λ (i : Bool). goes x n v k (turn x v) i (contradicts (turn x v).step)) e ∙ ap (goes x n v k (turn x v) a) f

-- `P` holds before each turn, with the number of turns that are left.
module _ (x : Index) (P : ℕ → Live → Type 0) (G : Did → Type 0)
    (out : (v : Live) (k : Step) → contradicts k ≡ false → P 0 v → G (did v k))
    (rest : (n : ℕ) (v : Live) (k : Step) → contradicts k ≡ false → P (suc n) v → at_rest v ≡ true → G (did v k))
    (stop : (n : ℕ) (v : Live) → P (suc n) v → at_rest v ≡ false → contradicts (turn x v).step ≡ true → G (turn x v))
    (next : (n : ℕ) (v : Live) → P (suc n) v → at_rest v ≡ false → contradicts (turn x v).step ≡ false → P n (turn x v).live) where
  drain-from : (n : ℕ) (v : Live) (k : Step) → contradicts k ≡ false → P n v → G (drain n x v k)
  unfolding drain
  drain-from zero v k c p = out v k c p
  drain-from (suc n) v k c p = by (λ u j d q. drain-from n u j d q) (at_rest v) refl (contradicts (turn x v).step) refl
    where
      by : ((u : Live) (j : Step) → contradicts j ≡ false → P n u → G (drain n x u j)) → (a : Bool) → at_rest v ≡ a → (b : Bool) → contradicts (turn x v).step ≡ b → G (goes x n v k (turn x v) a b)
      by later true e b f = rest n v k c p e
      by later false e true f = stop n v p e f
      by later false e false f = later (turn x v).live (joined k (turn x v).step) (joined_fine k (turn x v).step c f) (next n v p e f)

  pub settle_walks : (v : Live) → P turns v → G (settle x v)
  settle_walks v p = drain-from turns v Unchanged refl p

pub settle_keeps : (x : Index) (Q : Live → Type 0) → ((v : Live) → at_rest v ≡ false → Q v → Q (turn x v).live) → (v : Live) → Q v → Q (settle x v).live
settle_keeps x Q one v q =
    settle_walks x (λ (_ : ℕ). Q) (λ (d : Did). Q d.live) (λ u k c p. p) (λ n u k c p e. p) (λ n u p e f. one u e p) (λ n u p e f. one u e p) v q
