-- Laws of clearing: a buffer cleared from its start on, and a group whose buffers are cleared one after the other.
use Rattle.std.specs.Prelude.{ℕ, zero, suc, ◌+◌, ◌<◌, ◌≤◌, ◌≡◌, refl, List, [], ◌∷◌, length, set, replicate, ℤ, pos}
use Rattle.std.proofs.Common.{add-one, arith, sym, ap, ◌∙◌, length-set}
use Rattle.memory.specs.Buffers.{Raw, Built, Kept, raw_lists, raw, held_rows, built, kept, zeros, clear_raw, clear_built, clear_kept}

-- The first n elements z, the others as they were.
unfoldable pub zeros_n : {X : Type 0} → ℕ → X → List X → List X
zeros_n zero z l = l
zeros_n (suc n) z [] = []
zeros_n (suc n) z (x ∷ xs) = z ∷ zeros_n n z xs

zeros_n_suc : {X : Type 0} (z : X) (l : List X) (n : ℕ) → set (zeros_n n z l) n z ≡ zeros_n (suc n) z l
unfolding zeros_n
zeros_n_suc z [] zero = refl
zeros_n_suc z [] (suc n) = refl
zeros_n_suc z (x ∷ xs) zero = refl
zeros_n_suc z (x ∷ xs) (suc n) = ap (λ (t : List _). z ∷ t) (zeros_n_suc z xs n)

zeros_n_all : {X : Type 0} (z : X) (l : List X) → zeros_n (length l) z l ≡ zeros z l
unfolding zeros_n zeros
zeros_n_all z [] = refl
zeros_n_all z (x ∷ xs) = ap (λ (t : List _). z ∷ t) (zeros_n_all z xs)

-- The buffer m is l with its first n elements cleared: what holds in each clearing loop.
pub record Clearing {X : Type 0} (z : X) (l : List X) (n : ℕ) (m : List X) : Type 0 where
  pub inside : n ≤ length l
  pub same_length : length m ≡ length l
  pub so_far : m ≡ zeros_n n z l

pub clearing_start : {X : Type 0} (z : X) (l : List X) → Clearing z l 0 l
unfolding zeros_n
clearing_start z l = record { inside = omega arith; same_length = refl; so_far = refl }

pub clearing_next : {X : Type 0} (z : X) (l m : List X) (n : ℕ) → Clearing z l n m → n < length m → Clearing z l (n + 1) (set m n z)
clearing_next z l m n c h = record {
  inside = let s = c.same_length in omega arith;
  same_length = simp length-set c.same_length;
  so_far = ap (λ (t : List _). set t n z) c.so_far ∙ zeros_n_suc z l n ∙ ap (λ (k : ℕ). zeros_n k z l) (sym (add-one n));
}

pub clearing_end : {X : Type 0} (z : X) (l m : List X) (n : ℕ) → Clearing z l n m → length m ≤ n → m ≡ zeros z l
clearing_end z l m n c h =
    let a = c.inside in
    let s = c.same_length in
    let e : n ≡ length l = omega arith in
    c.so_far ∙ ap (λ (k : ℕ). zeros_n k z l) e ∙ zeros_n_all z l

-- Buffers that are each cleared are the group cleared.

pub by_raw : {raw-conditions raw-weights : List ℕ} {thresholds : List (List ℕ)} {bounds : List ℤ} (w : Raw)
    → raw-conditions ≡ zeros 0 w.lists.raw-conditions → raw-weights ≡ zeros 0 w.lists.raw-weights
    → thresholds ≡ zeros (replicate 2 0) w.lists.thresholds → bounds ≡ zeros (pos 0) w.bounds
    → raw (raw_lists raw-conditions raw-weights thresholds) bounds ≡ clear_raw w
unfolding clear_raw
by_raw w e0 e1 e2 e3 = λ i. raw (raw_lists (e0 i) (e1 i) (e2 i)) (e3 i)

pub by_built : {row-conditions row-weights : List ℕ} {rows : List (List ℕ)} {guard_bounds : List ℤ} {guard_nodes : List ℕ}
    {nodes edges : List (List ℕ)} {links : List ℕ} (w : Built)
    → row-conditions ≡ zeros 0 w.held.row-conditions → row-weights ≡ zeros 0 w.held.row-weights
    → rows ≡ zeros (replicate 3 0) w.held.rows → guard_bounds ≡ zeros (pos 0) w.held.guard_bounds
    → guard_nodes ≡ zeros 0 w.held.guard_nodes → nodes ≡ zeros (replicate 3 0) w.nodes
    → edges ≡ zeros (replicate 2 0) w.edges → links ≡ zeros 0 w.links
    → built (held_rows row-conditions row-weights rows guard_bounds guard_nodes) nodes edges links ≡ clear_built w
unfolding clear_built
by_built w e0 e1 e2 e3 e4 e5 e6 e7 = λ i. built (held_rows (e0 i) (e1 i) (e2 i) (e3 i) (e4 i)) (e5 i) (e6 i) (e7 i)

pub by_kept : {figures : List (List ℤ)} {cursors : List (List ℕ)} {sure never search gcds node_queue : List ℕ}
    {row_queues answers : List (List ℕ)} (w : Kept)
    → figures ≡ zeros (replicate 4 (pos 0)) w.figures → cursors ≡ zeros (replicate 5 0) w.cursors → sure ≡ zeros 0 w.sure
    → never ≡ zeros 0 w.never → search ≡ zeros 0 w.search → gcds ≡ zeros 0 w.gcds → node_queue ≡ zeros 0 w.node_queue
    → row_queues ≡ zeros (replicate 4 0) w.row_queues → answers ≡ zeros (replicate 2 0) w.answers
    → kept figures cursors sure never search gcds node_queue row_queues answers ≡ clear_kept w
unfolding clear_kept
by_kept w e0 e1 e2 e3 e4 e5 e6 e7 e8 = λ i. kept (e0 i) (e1 i) (e2 i) (e3 i) (e4 i) (e5 i) (e6 i) (e7 i) (e8 i)
