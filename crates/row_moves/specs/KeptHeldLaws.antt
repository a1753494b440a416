-- For callers: edges, neighbours and guards that the buffers hold are such as keep all ready. Assumes nothing.
use Rattle.std.specs.Prelude.{ℕ, zero, suc, ◌+◌, ◌-◌, ◌*◌, ◌<◌, ◌≤◌, ◌≡◌, refl, List, [], ◌∷◌, map, length, get_or, ℤ}
use Rattle.std.proofs.Common.{arith, sym, ap, subst, ◌∙◌}
use Rattle.base.specs.All.{All}
use Rattle.memory.specs.Buffers.{HeldRows}
use Rattle.words.specs.Mask.{bit}
use Rattle.rows.specs.Rows.{Edge, edges_of}
use Rattle.base.specs.Parts.{stretch}
use Rattle.rows.specs.ListsLaws.{stretch-length}
use Rattle.rows.specs.Laid.{edge_row}
use Rattle.links.specs.Links.{neighbours}
use Rattle.memory.specs.Ranges.{drain_limit}
use Rattle.row_moves.specs.Between.{Index, Live, Did, guard_of, threshold_condition, threshold_prefixes}
use Rattle.row_moves.specs.Held.{start_by, end_by, edge_in, edges_in, Shaped, EdgesShaped, LinksShaped, GuardsShaped, Holds, HoldsEdges, HoldsLinks, HoldsGuards}
use Rattle.row_moves.specs.HeldLaws.{stretch_cons, stretch-none, edges_back}
use Rattle.row_moves.specs.GuardLaws.{guard_held}
use Rattle.row_moves.specs.Ready.{Runnable}
use Rattle.row_moves.specs.KeptLaws.{Light, kept_condition, kept-guard, kept-row_prefixes}

-- What holds at every place of a stretch holds of all in it.
all_stretch : {X : Type 0} (P : X → Type 0) (d : X) (l : List X) (e : ℕ) → e ≤ length l → (m a : ℕ) → e - a ≡ m → ((i : ℕ) → a ≤ i → i < e → P (get_or l i d)) → All P (stretch a e l)
all_stretch P d l e k zero a s f = rw (stretch-none l a e (omega arith)) Prim.tt
all_stretch P d l e k (suc m) a s f =
    rw (stretch_cons d l a e (omega arith) k)
    (f a (omega arith) (omega arith), all_stretch P d l e k m (a + 1) (omega arith) (λ i g h. f i (omega arith) h))

all_edges : (P : Edge → Type 0) (ls : List (List ℕ)) → All (λ (l : List ℕ). P (edge_in l)) ls → All P (edges_in ls)
all_edges P [] h = h
all_edges P (l ∷ ls) h = (h.0, all_edges P ls h.1)

length-rows : (es : List Edge) → length (map edge_row es) ≡ length es
length-rows [] = refl
length-rows (e ∷ es) = ap suc (length-rows es)

module _ (x : Index) (h : HeldRows) (nodes edges : List (List ℕ)) (y : EdgesShaped h nodes edges) (z : HoldsEdges x nodes edges) (n : ℕ) (k : n < length nodes) where
  pub edges_light : All (Light h) (edges_of x.rows n)
  edges_light =
      let a = start_by 2 nodes n in
      let e = end_by 2 nodes n in
      let s = all_stretch (λ (l : List ℕ). Light h (edge_in l)) [] edges e (y.inside.ends n k) (e - a) a refl (λ i f g. record { row = y.rows n i k f g; weight = y.light n i k f g }) in
      subst (All (Light h)) (ap edges_in (sym (z n k)) ∙ edges_back (edges_of x.rows n)) (all_edges (Light h) (stretch a e edges) s)

  -- As many edges as the stretch is long.
  pub edges_many : length (edges_of x.rows n) ≡ end_by 2 nodes n - start_by 2 nodes n
  edges_many =
      sym (length-rows (edges_of x.rows n)) ∙ ap (λ (l : List (List ℕ)). length l) (z n k)
      ∙ stretch-length (start_by 2 nodes n) (end_by 2 nodes n) edges (y.inside.ends n k)

  pub kept_node : Holds x h → Shaped h → (m : ℕ) (v : Live) → Runnable h m v
      → Runnable h (m + length (edges_of x.rows n) * drain_limit) (threshold_condition x v n).live
  unfolding threshold_condition
  kept_node o s m v a = kept_condition x h o s (bit v.marks.sure n) (edges_of x.rows n) m v edges_light a

module _ (x : Index) (h : HeldRows) (links : List ℕ) (y : LinksShaped h links) (z : HoldsLinks x h links) (r : ℕ) (k : r < length h.rows) where
  -- The rows tell how many neighbours each has.
  pub counts-links : length (neighbours r x.links) ≡ end_by 2 h.rows r - start_by 2 h.rows r
  counts-links = ap (λ (l : List ℕ). length l) (z r k) ∙ stretch-length (start_by 2 h.rows r) (end_by 2 h.rows r) links (y.inside.ends r k)

  -- Each is a row.
  pub links_inside : All (λ (i : ℕ). i < length h.rows) (neighbours r x.links)
  links_inside =
      let p = start_by 2 h.rows r in
      let e = end_by 2 h.rows r in
      let w = all_stretch (λ (i : ℕ). i < length h.rows) 0 links e (y.inside.ends r k) (e - p) p refl (λ i f g. y.rows r i k f g) in
      subst (All (λ (i : ℕ). i < length h.rows)) (sym (z r k)) w

  pub kept-links : Holds x h → Shaped h → (m : ℕ) (v : Live) → Runnable h m v → Runnable h m (threshold_prefixes x v r).live
  kept-links o s m v a = kept-row_prefixes x h o s m v r k links_inside a

-- The guard of a node.
pub kept-guard_of : (x : Index) (h : HeldRows) (nodes : List (List ℕ)) (bounds : List ℤ) → GuardsShaped h nodes bounds → HoldsGuards x nodes bounds → (n : ℕ) → n < length nodes
    → Holds x h → Shaped h → (m : ℕ) (v : Live) → Runnable h m v → Runnable h m (guard_of x v x.thresholds n).live
kept-guard_of x h nodes bounds y z n k o s m v a = guard_held x h nodes bounds y z n k v (λ (d : Did). Runnable h m d.live) a (λ t r c. kept-guard x h o s m v t r c a)
