-- SIFTING, WALKED ONCE: what holds before each round holds of the whole, with its answer, its gcds and its visits. Only this file
-- opens a tried row and the sifting. Assumes nothing.
use Prim.Native.Nat.{ℕ, zero, suc}
use Rattle.std.specs.Prelude.{◌≡◌, Bool, true, false, List}
use Rattle.std.proofs.Math.Path.{refl}
use Rattle.std.proofs.Common.{sym, subst}
use Rattle.state.specs.StepLaws.{joined_fine}
use Rattle.state.specs.declared.Step.{Step}
use Rattle.state.specs.declared.Step.TheVariants.{Unchanged, Contradiction}
use Rattle.state.specs.Step.{joined, contradicts, is_unchanged}
use Rattle.queues.specs.Queue.{is_empty}
use Rattle.row_moves.specs.Between.{Index, Live, Did}
use Rattle.drain.specs.Drain.{settle, turns}
use Rattle.drain.specs.Sift.{Sifted, sifted, try_row, sift_from, sift}
use Rattle.drain.specs.Steps.{try_residual, try_live, tried}

-- ---- A ROW IS TRIED: divisibility, and if that leaves all as it was, a search

module _ (x : Index) (v : Live) (gcds : List ℕ) where
  module _ (visits : ℕ) where
    pub try_row_lem : try_row x v gcds visits ≡ tried x v gcds visits (is_unchanged (try_residual x v gcds).step)
    unfolding try_row
    try_row_lem = refl

    pub try_ends : (G : Sifted → Type 0) → (is_unchanged (try_residual x v gcds).step ≡ true → G (tried x v gcds visits true))
        → (is_unchanged (try_residual x v gcds).step ≡ false → G (tried x v gcds visits false)) → G (try_row x v gcds visits)
    try_ends G searched not = subst G (sym try_row_lem) (by (is_unchanged (try_residual x v gcds).step) refl)
      where
        by : (b : Bool) → is_unchanged (try_residual x v gcds).step ≡ b → G (tried x v gcds visits b)
        by true e = searched e
        by false e = not e

    -- the live state and the gcds are the same with a search and without
    pub try_leaves : (Q : Live → List ℕ → Type 0) → Q (try_live x v gcds) (try_residual x v gcds).gcds → Q (try_row x v gcds visits).live (try_row x v gcds visits).gcds
    try_leaves Q q = try_ends (λ (t : Sifted). Q t.live t.gcds) (λ e. q) (λ e. q)

-- ---- SIFTING

-- One round, by the answers to its tests.
abbrev pub tries : (Live → List ℕ → Step → ℕ → Sifted) → Did → Sifted → List ℕ → ℕ → Step → Bool → Bool → Bool → Sifted
tries next d t gcds visits k settled none failed = elim settled [
  | true ↦ sifted d.live gcds Contradiction visits
  | false ↦ elim none [
    | true ↦ sifted d.live gcds (joined k d.step) visits
    | false ↦ elim failed [ true ↦ t | false ↦ next t.live t.gcds (joined (joined k d.step) t.step) t.visits ]
  ]
]

pub sift_tries : (x : Index) (n : ℕ) (v : Live) (gcds : List ℕ) (k : Step) (visits : ℕ)
    → let d = settle x v in let t = try_row x d.live gcds visits in
    sift_from (suc n) x v gcds k visits ≡ tries (sift_from n x) d t gcds visits k (contradicts d.step) (is_empty d.live.residuals.queue) (contradicts t.step)
unfolding sift_from
sift_tries x n v gcds k visits = refl

pub sift-none : (x : Index) (v : Live) (gcds : List ℕ) (k : Step) (visits : ℕ) → sift_from 0 x v gcds k visits ≡ sifted v gcds k visits
unfolding sift_from
sift-none x v gcds k visits = refl

-- `P` holds before each round, with the number of rounds that are left.
module _ (x : Index) (P : ℕ → Live → List ℕ → ℕ → Type 0) (G : Sifted → Type 0)
    (out : (v : Live) (gcds : List ℕ) (visits : ℕ) (k : Step) → contradicts k ≡ false → P 0 v gcds visits → G (sifted v gcds k visits))
    (stop : (n : ℕ) (v : Live) (gcds : List ℕ) (visits : ℕ) → P (suc n) v gcds visits → contradicts (settle x v).step ≡ true → G (sifted (settle x v).live gcds Contradiction visits))
    (rest : (n : ℕ) (v : Live) (gcds : List ℕ) (visits : ℕ) (k : Step) → contradicts k ≡ false → P (suc n) v gcds visits → contradicts (settle x v).step ≡ false
    → is_empty (settle x v).live.residuals.queue ≡ true → G (sifted (settle x v).live gcds k visits))
    (fail : (n : ℕ) (v : Live) (gcds : List ℕ) (visits : ℕ) → P (suc n) v gcds visits → contradicts (settle x v).step ≡ false → is_empty (settle x v).live.residuals.queue ≡ false
    → let t = try_row x (settle x v).live gcds visits in contradicts t.step ≡ true → G t)
    (next : (n : ℕ) (v : Live) (gcds : List ℕ) (visits : ℕ) → P (suc n) v gcds visits → contradicts (settle x v).step ≡ false → is_empty (settle x v).live.residuals.queue ≡ false
    → let t = try_row x (settle x v).live gcds visits in contradicts t.step ≡ false → P n t.live t.gcds t.visits) where
  sift-from : (n : ℕ) (v : Live) (gcds : List ℕ) (k : Step) (visits : ℕ) → contradicts k ≡ false → P n v gcds visits → G (sift_from n x v gcds k visits)
  unfolding sift_from
  sift-from zero v gcds k visits c p = out v gcds visits k c p
  sift-from (suc n) v gcds k visits c p =
      by (λ u g j m f q. sift-from n u g j m f q) (contradicts d.step) refl (is_empty d.live.residuals.queue) refl (contradicts t.step) refl
    where
      d : Did
      d = settle x v

      t : Sifted
      t = try_row x d.live gcds visits

      by : ((u : Live) (g : List ℕ) (j : Step) (m : ℕ) → contradicts j ≡ false → P n u g m → G (sift_from n x u g j m)) → (a : Bool) → contradicts d.step ≡ a
          → (b : Bool) → is_empty d.live.residuals.queue ≡ b → (f : Bool) → contradicts t.step ≡ f → G (tries (sift_from n x) d t gcds visits k a b f)
      by later true e b i f h = stop n v gcds visits p e
      by later false e true i f h = rest n v gcds visits (joined k d.step) (joined_fine k d.step c e) p e i
      by later false e false i true h = fail n v gcds visits p e i h
      by later false e false i false h =
          later t.live t.gcds (joined (joined k d.step) t.step) t.visits (joined_fine (joined k d.step) t.step (joined_fine k d.step c e) h) (next n v gcds visits p e i h)

  pub sift_walks : (v : Live) (gcds : List ℕ) → P turns v gcds 0 → G (sift x v gcds)
  sift_walks v gcds p = sift-from turns v gcds Unchanged 0 refl p

-- What a settling and a tried row keep.
pub sift_keeps : (x : Index) (Q : Live → List ℕ → ℕ → Type 0) → ((v : Live) (gcds : List ℕ) (visits : ℕ) → Q v gcds visits → Q (settle x v).live gcds visits)
    → ((v : Live) (gcds : List ℕ) (visits : ℕ) → is_empty v.residuals.queue ≡ false → Q v gcds visits → let t = try_row x v gcds visits in Q t.live t.gcds t.visits)
    → (v : Live) (gcds : List ℕ) → Q v gcds 0 → let s = sift x v gcds in Q s.live s.gcds s.visits
sift_keeps x Q settled tried v gcds q =
    sift_walks x (λ (_ : ℕ). Q) (λ (s : Sifted). Q s.live s.gcds s.visits) (λ u g m k c p. p) (λ n u g m p e. settled u g m p) (λ n u g m k c p e i. settled u g m p)
    (λ n u g m p e i f. tried _ g m i (settled u g m p)) (λ n u g m p e i f. tried _ g m i (settled u g m p)) v gcds q
