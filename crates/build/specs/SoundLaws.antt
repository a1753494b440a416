-- A gathered job, cut to its counts, is one that `prepare` takes; the invariant holds of a job with no thresholds.
use Rattle.std.specs.Prelude.{ℕ, zero, suc, ◌+◌, ◌<◌, ◌≤◌, ◌≡◌, refl, List, [], ◌∷◌, length, get_or, take, replicate, ℤ, pos}
use Rattle.std.proofs.Common.{not-suc-le-zero, arith, sym, ap, ◌∙◌, subst, get_or-take, length-take-le}
use Rattle.std.proofs.Math.Decide.{dec_lt}
use Rattle.std.proofs.Math.ListN.{get_or-eq_default}
use Rattle.base.specs.Parts.{end_by, start_by}
use Rattle.memory.specs.Ranges.{raw_limit}
use Rattle.memory.specs.Buffers.{Built, built}
use Rattle.rows.specs.Lists.{Lists}
use Rattle.rows.specs.Guards.{Bound, node_at}
use Rattle.prepare.specs.Prepare.{Sound, Ample}
use Rattle.records.specs.declared.Standing.{Standing}
use Rattle.job.specs.Gathered.{cut, Gathered}
use Rattle.job.specs.GatheredLaws.{start-cut}
use Rattle.build.specs.Built.{Roomy, Spare}

module _ (k : Standing) (cs ws : List ℕ) (ts : List (List ℕ)) (bs : List ℤ) (g : Gathered k cs ws ts bs) where
  pub long : length (take k.thresholds ts) ≡ k.thresholds
  long = length-take-le k.thresholds ts (let a = g.listed.room in let b = g.listed.many in omega (arith, a, b))

  pub bounds_long : length (take k.thresholds bs) ≡ k.thresholds
  bounds_long = length-take-le k.thresholds bs (let a = g.bounded.room in let b = g.listed.many in omega (arith, a, b))

  pub conditions_long : length (take k.raw_terms cs) ≡ k.raw_terms
  conditions_long = length-take-le k.raw_terms cs (let a = g.termed.conditions in let b = g.listed.terms in omega (arith, a, b))

  pub weights_long : length (take k.raw_terms ws) ≡ k.raw_terms
  weights_long = length-take-le k.raw_terms ws (let a = g.termed.weights in let b = g.listed.terms in omega (arith, a, b))

  same : (t : ℕ) → t < k.thresholds → get_or (take k.thresholds ts) t [] ≡ get_or ts t []
  same t q = get_or-take k.thresholds ts t [] q

  starts : (t : ℕ) → t < k.thresholds → start_by 1 (take k.thresholds ts) t ≡ start_by 1 ts t
  starts t q = start-cut k.thresholds t ts (omega arith)

  end_same : (t : ℕ) → t < k.thresholds → end_by 1 (take k.thresholds ts) t ≡ end_by 1 ts t
  end_same t q = ap (λ (p : List ℕ). get_or p 1 0) (same t q)

  node-same : (t : ℕ) → t < k.thresholds → node_at (take k.thresholds ts) t ≡ node_at ts t
  node-same t q = ap (λ (p : List ℕ). get_or p 0 0) (same t q)

  cut-lists : Lists (cut k cs ws ts) k.thresholds
  cut-lists = record {
    many = g.listed.many;
    held = let l = long in omega (arith, l);
    wide = λ t q. ap length (same t q) ∙ g.listed.wide t q;
    rising = λ t q. let a = starts t q in let e = end_same t q in let r = g.listed.rising t q in omega (arith, a, e, r);
    short = λ t q. let a = starts t q in let e = end_same t q in let r = g.listed.short t q in omega (arith, a, e, r);
    inside = λ t q. let e = end_same t q in let r = g.listed.within t q in let l = conditions_long in omega (arith, e, r, l);
    weighed = weights_long ∙ sym conditions_long;
    light = λ i. light i (dec_lt i k.raw_terms);
  }
    where
      light : (i : ℕ) → Dec (i < k.raw_terms) → get_or (take k.raw_terms ws) i 0 < raw_limit
      light i (yes q) = subst (λ (x : ℕ). x < raw_limit) (sym (get_or-take k.raw_terms ws i 0 q)) (g.termed.light i q)
      light i (no q) =
          let l = weights_long in let e = get_or-eq_default (take k.raw_terms ws) 0 {n = i} (omega arith) in omega (arith, e)

  -- WHAT `prepare` ASKS of the job
  pub gathered_sound : (m : ℕ) → m ≡ k.nodes → Sound (cut k cs ws ts) (take k.thresholds bs) m
  gathered_sound m e = record {
    lists = subst (Lists (cut k cs ws ts)) (sym long) cut-lists;
    even = bounds_long ∙ sym long;
    bounded = λ t q. let u : t < k.thresholds = subst (λ (x : ℕ). t < x) bounds_long q in
        subst Bound (sym (get_or-take k.thresholds bs t (pos 0) u)) (g.bounded.bound t u);
    inside = λ t q. let u : t < k.thresholds = subst (λ (x : ℕ). t < x) long q in
        let s = node-same t u in let r = g.listed.inside t u in omega (arith, s, r, e);
    rising = λ t q. let u : t + 1 < k.thresholds = subst (λ (x : ℕ). t + 1 < x) long q in
        let s = node-same t (omega arith) in let n = node-same (t + 1) u in let r = g.listed.ordered t u in omega (arith, s, n, r);
    below = λ i q. let u : i < k.raw_terms = subst (λ (x : ℕ). i < x) conditions_long q in
        let s = get_or-take k.raw_terms cs i 0 u in let r = g.termed.below i u in omega (arith, s, r, e);
    few = let r = g.listed.nodes in omega (arith, r, e);
    short = let l = conditions_long in let r = g.listed.terms in omega (arith, l, r);
  }

  pub nodes_inside : (b : Built) → Roomy b → k.nodes ≤ length b.nodes
  nodes_inside b h = let z = h.nodes in let r = g.listed.nodes in omega (arith, z, r)

  -- The buffers of docs/BUFFERS.md have room for it, the nodes cut to their number.
  pub gathered_ample : (b : Built) (sc : List ℕ) → Roomy b → Spare sc
      → Ample (length (take k.raw_terms cs)) (length (take k.thresholds ts)) (built b.held (take k.nodes b.nodes) b.edges b.links) sc
  gathered_ample b sc h w =
      let t = conditions_long in let l = long in let x = g.listed.terms in let y = g.listed.many in record {
        conditions = let z = h.conditions in omega (arith, t, x, z);
        weights = let z = h.weights in omega (arith, t, x, z);
        spare = let z = h.weights in omega (arith, l, y, z);
        rows = let z = h.rows in omega (arith, l, y, z);
        bounds = let z = h.bounds in omega (arith, l, y, z);
        guards = h.guards;
        edges = let z = h.edges in omega (arith, t, x, z);
        words = w.words;
        conditions_clear = h.conditions_clear;
        weights_clear = h.weights_clear;
        guards_clear = h.guards_clear;
        nodes_clear =
            ap (take k.nodes) h.nodes_clear ∙ front k.nodes (length b.nodes) (nodes_inside b h)
            ∙ ap (λ (n : ℕ). replicate n (replicate 3 0)) (sym (length-take-le k.nodes b.nodes (nodes_inside b h)));
        words_clear = w.words_clear;
      }
    where
      front : (n m : ℕ) → n ≤ m → take {A = List ℕ} n (replicate m (replicate 3 0)) ≡ replicate n (replicate 3 0)
      front zero m q = refl
      front (suc n) zero q = absurd (not-suc-le-zero q)
      front (suc n) (suc m) q = ap (λ (l : List (List ℕ)). replicate 3 0 ∷ l) (front n m (omega arith))

-- Whatever the links are.
pub roomy_links : (b : Built) (links : List ℕ) → Roomy b → Roomy (built b.held b.nodes b.edges links)
roomy_links b links h = record {
  conditions = h.conditions;
  weights = h.weights;
  rows = h.rows;
  bounds = h.bounds;
  guards = h.guards;
  nodes = h.nodes;
  edges = h.edges;
  conditions_clear = h.conditions_clear;
  weights_clear = h.weights_clear;
  guards_clear = h.guards_clear;
  nodes_clear = h.nodes_clear;
}
