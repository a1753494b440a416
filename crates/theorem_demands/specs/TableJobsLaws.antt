-- A JOB OF A FILE meets what the invariant of draining asks: its nodes are in range, and as the nodes of its thresholds rise, none
-- guards twice.
use Rattle.std.specs.Prelude.{ℕ, suc, ◌≤◌, ◌<◌, ◌≡◌, refl, Bool, false, not, ◌&&◌, ◌⊎◌, length, get_or, eqb, leb}
use Rattle.std.proofs.Common.{le_refl, sym, ap, ◌∙◌, inl, inr, leb-false, ne_eqb}
use native.Mathlib.Omega.{arith}
use mathlib.Core.List.Memᴰ
use mathlib.Core.List.{List, [], ◌∷◌, ◌++◌, map, Memᴰ}
use Rattle.base.specs.All.{All}
use Rattle.base.specs.AllLaws.{all_each}
use Rattle.numeric.specs.Threshold.{ThresholdOf, Threshold, Job}
use Rattle.numeric.specs.Area.{Entry, weighed_threshold}
use Rattle.numeric.specs.Least.{NodesRise}
use Rattle.row.specs.TermsLaws.{all_map}
use Rattle.rows.specs.Rows.{no_row, rows_of}
use Rattle.drain.specs.Drain.{index_of}
use Rattle.job.specs.Job.{last_node_of, on_last}
use Rattle.job.specs.JobLaws.{every_on}
use Rattle.theorem_limits.specs.BuiltLaws.{every_last, fits_node, fits_condition}
use Rattle.theorem_limits.specs.Good.{Fits}
use Rattle.theorem_table.specs.Table.{IsRow}
use Rattle.theorem_follows.specs.Ordered.{Ordered}
use Rattle.theorem_follows.specs.BuiltLaws.{Built, built, rows-ordered}
use Rattle.theorem_follows.specs.ToldLaws.{Single, rows_single}

-- ---- nodes that rise

rises_unique : (ts : List Threshold) → NodesRise ts → (t u : Threshold) → Memᴰ t ts → Memᴰ u ts → t.node ≡ u.node → t ≡ u
rises_unique [] h t u m n e = absurd (Memᴰ.not-nil m)
rises_unique (y ∷ ys) h t u m n e = by (λ a b. rises_unique ys h.1 t u a b e) (Memᴰ.cases_cons m) (Memᴰ.cases_cons n)
  where
    above : (w : Threshold) → Memᴰ w ys → y.node < w.node
    above w k = all_each (λ (z : Threshold). y.node < z.node) ys h.0 w k

    by : (Memᴰ t ys → Memᴰ u ys → t ≡ u) → (t ≡ y) ⊎ Memᴰ t ys → (u ≡ y) ⊎ Memᴰ u ys → t ≡ u
    by ih (inl a) (inl b) = a ∙ sym b
    by ih (inl a) (inr b) = absurd (let k = above u b in let q = ap (λ (z : Threshold). z.node) a in omega arith)
    by ih (inr a) (inl b) = absurd (let k = above t a in let q = ap (λ (z : Threshold). z.node) b in omega arith)
    by ih (inr a) (inr b) = ih a b

-- the last is the highest
module _ {X : Type 0} where
  below_last : (t : ThresholdOf X) (ts : List (ThresholdOf X)) → NodesRise (t ∷ ts) → All (λ (u : ThresholdOf X). u.node ≤ last_node_of (t ∷ ts)) (t ∷ ts)
  unfolding last_node_of
  below_last t [] h = (le_refl t.node, tt)
  below_last t (u ∷ us) h = let k = below_last u us h.1 in (let a = h.0.0 in let c = k.0 in omega arith, k)

  rises-last : (ts : List (ThresholdOf X)) (x : ThresholdOf X) → NodesRise ts → All (λ (u : ThresholdOf X). u.node < x.node) ts → NodesRise (ts ++ (x ∷ []))
  rises-last [] x h e = (tt, tt)
  rises-last (t ∷ ts) x h e = (every_last (λ (u : ThresholdOf X). t.node < u.node) ts x h.0 e.0, rises-last ts x h.1 e.1)

  pub rises_opens : (ts : List (ThresholdOf X)) (x : ThresholdOf X) → NodesRise ts → (not (eqb (length ts) 0) && leb x.node (last_node_of ts)) ≡ false → NodesRise (ts ++ (x ∷ []))
  rises_opens [] x h e = (tt, tt)
  rises_opens (t ∷ ts) x h e =
      let some = ne_eqb (length (t ∷ ts)) 0 (λ (z : suc (length ts) ≡ 0). omega arith) in
      let k = leb-false x.node (last_node_of (t ∷ ts)) (sym (ap (λ (b : Bool). not b && leb x.node (last_node_of (t ∷ ts))) some) ∙ e) in
      rises-last (t ∷ ts) x h
      (all_map (λ (u : ThresholdOf X). u.node ≤ last_node_of (t ∷ ts)) (λ (u : ThresholdOf X). u.node < x.node) (t ∷ ts) (λ u l. omega arith) (below_last t ts h))

  -- another list leaves all nodes as they were
  pub rises_on : (g : List X → List X) (ts : List (ThresholdOf X)) → NodesRise ts → NodesRise (on_last g ts)
  unfolding on_last
  rises_on g [] h = tt
  rises_on g (t ∷ []) h = (tt, tt)
  rises_on g (t ∷ u ∷ us) h = (every_on (λ (y : ThresholdOf X). t.node < y.node) g (u ∷ us) h.0 (λ y e q. q), rises_on g (u ∷ us) h.1)

-- and so does weighing what was listed
pub rises_weighed : (ds : List (ThresholdOf Entry)) → NodesRise ds → NodesRise (map weighed_threshold ds)
rises_weighed [] h = tt
rises_weighed (t ∷ ds) h = (above ds h.0, rises_weighed ds h.1)
  where
    above : (us : List (ThresholdOf Entry)) → All (λ (u : ThresholdOf Entry). t.node < u.node) us → All (λ (u : Threshold). t.node < u.node) (map weighed_threshold us)
    above [] a = tt
    above (u ∷ us) a = (a.0, above us a.1)

-- ---- what the invariant asks

pub job_built : (j : Job) → Built j (index_of j)
job_built j = built j (index_of j) refl refl refl

pub job_ordered : (j : Job) → Fits j → (r : ℕ) → IsRow (rows_of j) r → Ordered (get_or (rows_of j) r no_row)
job_ordered j f = rows-ordered j (record { nodes = fits_node j f; conditions = fits_condition j f })

pub job_single : (j : Job) → NodesRise j.thresholds → Single (rows_of j)
job_single j h = rows_single j (rises_unique j.thresholds h)
