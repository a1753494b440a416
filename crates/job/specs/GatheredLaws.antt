-- Laws of the job that the buffers hold: its thresholds one by one.
use Prim.Native.Nat.{ℕ, zero, suc, ◌+◌, ◌-◌, ◌<◌, ◌≤◌}
use Rattle.std.proofs.Math.Decide.{dec_lt}
use Rattle.std.proofs.Common.{arith, ◌∙◌, subst, get_or-take, length-take-le}
use Rattle.std.specs.Prelude.{◌≡◌, List, [], ◌∷◌, ◌++◌, map, length, get_or, take, ℤ, pos}
use Rattle.std.proofs.Math.Path.{refl, sym, ap, ap₂}
use Rattle.std.proofs.lemmas.List.{length-map}
use Rattle.base.specs.Parts.{end_by, start_by, stretch}
use Rattle.base.specs.Laid.{numbers}
use Rattle.numeric.specs.Threshold.{Term, Threshold}
use Rattle.numeric.specs.Slices.{terms}
use Rattle.memory.specs.Buffers.{RawLists, raw_lists}
use Rattle.rows.specs.Lists.{list_at}
use Rattle.rows.specs.ListsLaws.{length-terms, stretch-length}
use Rattle.base.specs.LaidLaws.{length-numbers}
use Rattle.job.specs.Given.{threshold_at, given}
use Rattle.records.specs.declared.Standing.{Standing}
use Rattle.job.specs.Job.{all_terms}
use Rattle.job.specs.Gathered.{cut, Listed, Termed, Gathered}
use Rattle.job.specs.JobLaws.{map_more, map_same, all_more, stretch-cut}
use Rattle.memory.specs.Limits.{max_nodes, max_terms, max_thresholds}

pub threshold_by : {n m : ℕ} {b d : ℤ} {l r : List Term} → n ≡ m → b ≡ d → l ≡ r
    → ◌≡◌ {A = Threshold} (record { node = n; bound = b; terms = l }) (record { node = m; bound = d; terms = r })
threshold_by e f g = λ i. record { node = e i; bound = f i; terms = g i }

-- What holds below a number and at it holds below the next.
pub by_last : (P : ℕ → Type 0) (n m : ℕ) → m ≡ n + 1 → ((t : ℕ) → t < n → P t) → P n → (t : ℕ) → t < m → P t
by_last P n m e h p t q = by (dec_lt t n)
  where
    by : Dec (t < n) → P t
    by (yes d) = h t d
    by (no d) = subst P (let z : n ≡ t = omega arith in z) p

pub start-cut : (n t : ℕ) (ts : List (List ℕ)) → t ≤ n → start_by 1 (take n ts) t ≡ start_by 1 ts t
unfolding start_by
start-cut n zero ts h = refl
start-cut n (suc t) ts h = ap (λ (p : List ℕ). get_or p 1 0) (get_or-take n ts t [] h)

pub list_by : (r s : RawLists) (t : ℕ) → start_by 1 r.thresholds t ≡ start_by 1 s.thresholds t → end_by 1 r.thresholds t ≡ end_by 1 s.thresholds t
    → stretch (start_by 1 s.thresholds t) (end_by 1 s.thresholds t) r.raw-conditions ≡ stretch (start_by 1 s.thresholds t) (end_by 1 s.thresholds t) s.raw-conditions
    → stretch (start_by 1 s.thresholds t) (end_by 1 s.thresholds t) r.raw-weights ≡ stretch (start_by 1 s.thresholds t) (end_by 1 s.thresholds t) s.raw-weights
    → list_at r t ≡ list_at s t
unfolding list_at
list_by r s t a e c w = ap₂ (λ (x y : ℕ). terms (stretch x y r.raw-conditions) (stretch x y r.raw-weights)) a e ∙ ap₂ terms c w

module _ (k : Standing) (cs ws : List ℕ) (ts : List (List ℕ)) (bs : List ℤ) (g : Listed k ts) where
  abbrev at : ℕ → Threshold
  at t = threshold_at (raw_lists cs ws ts) bs t

  at_cut : (t : ℕ) → t < k.thresholds → threshold_at (cut k cs ws ts) (take k.thresholds bs) t ≡ at t
  at_cut t h =
      threshold_by (ap (λ (p : List ℕ). get_or p 0 0) (get_or-take k.thresholds ts t [] h)) (get_or-take k.thresholds bs t (pos 0) h)
      (list_by (cut k cs ws ts) (raw_lists cs ws ts) t (start-cut k.thresholds t ts (omega arith)) (ap (λ (p : List ℕ). get_or p 1 0) (get_or-take k.thresholds ts t [] h))
      (stretch-cut (start_by 1 ts t) (end_by 1 ts t) k.raw_terms cs (g.rising t h) (g.within t h))
      (stretch-cut (start_by 1 ts t) (end_by 1 ts t) k.raw_terms ws (g.rising t h) (g.within t h)))

  -- THE THRESHOLDS ONE BY ONE, of whole buffers.
  pub gathered : given (cut k cs ws ts) (take k.thresholds bs) ≡ map at (numbers 0 k.thresholds)
  gathered =
      ap (λ (n : ℕ). map (threshold_at (cut k cs ws ts) (take k.thresholds bs)) (numbers 0 n))
      (length-take-le k.thresholds ts (let q = g.room in let u = g.many in omega arith))
      ∙ map_same (threshold_at (cut k cs ws ts) (take k.thresholds bs)) at k.thresholds at_cut

  pub gathered_last : (m : ℕ) → k.thresholds ≡ suc m → given (cut k cs ws ts) (take k.thresholds bs) ≡ map at (numbers 0 m) ++ (at m ∷ [])
  gathered_last m e = gathered ∙ ap (λ (n : ℕ). map at (numbers 0 n)) e ∙ map_more at m

  pub many : length (given (cut k cs ws ts) (take k.thresholds bs)) ≡ k.thresholds
  many = ap length gathered ∙ length-map (numbers 0 k.thresholds) at ∙ length-numbers 0 k.thresholds

  -- The terms of the first thresholds end where the next begins.
  module _ (h : Termed k cs ws) where
    pub length_at : (t : ℕ) → t < k.thresholds → length (list_at (raw_lists cs ws ts) t) ≡ end_by 1 ts t - start_by 1 ts t
    unfolding list_at
    length_at t q =
        let c = stretch-length (start_by 1 ts t) (end_by 1 ts t) cs (let a = g.within t q in let b = g.terms in let d = h.conditions in omega arith) in
        let w = stretch-length (start_by 1 ts t) (end_by 1 ts t) ws (let a = g.within t q in let b = g.terms in let d = h.weights in omega arith) in
        length-terms (stretch (start_by 1 ts t) (end_by 1 ts t) cs) (stretch (start_by 1 ts t) (end_by 1 ts t) ws) (w ∙ sym c) ∙ c

    all-to : (n : ℕ) → n ≤ k.thresholds → all_terms (map at (numbers 0 n)) ≡ start_by 1 ts n
    unfolding start_by all_terms numbers
    all-to zero q = refl
    all-to (suc n) q =
        ap all_terms (map_more at n) ∙ all_more (at n) (map at (numbers 0 n))
        ∙ ap₂ (λ (x y : ℕ). x + y) (all-to n (omega arith)) (length_at n q) ∙ (let r = g.rising n q in omega (arith, r))

    pub all_terms_lem : all_terms (given (cut k cs ws ts) (take k.thresholds bs)) ≡ k.raw_terms
    all_terms_lem = ap all_terms gathered ∙ all-to k.thresholds (omega arith) ∙ g.ended

-- NO THRESHOLDS YET
pub gathered_none : (k : Standing) (cs ws : List ℕ) (ts : List (List ℕ)) (bs : List ℤ) → k.nodes ≤ max_nodes → k.thresholds ≡ 0 → k.raw_terms ≡ 0
    → max_terms ≤ length cs → max_terms ≤ length ws → max_thresholds ≤ length ts → max_thresholds ≤ length bs → Gathered k cs ws ts bs
unfolding start_by
gathered_none k cs ws ts bs h e z c w t b = record {
  listed = record {
    nodes = h;
    terms = omega (arith, z);
    fewer = omega (arith, z);
    many = omega (arith, e);
    room = t;
    wide = λ t q. absurd (omega (arith, e, q));
    rising = λ t q. absurd (omega (arith, e, q));
    short = λ t q. absurd (omega (arith, e, q));
    within = λ t q. absurd (omega (arith, e, q));
    ended = ap (start_by 1 ts) e ∙ sym z;
    inside = λ t q. absurd (omega (arith, e, q));
    ordered = λ t q. absurd (omega (arith, e, q));
    last = λ t q. absurd (omega (arith, e, q));
    filled = λ t q. absurd (omega (arith, e, q));
  };
  bounded = record { room = b; bound = λ t q. absurd (omega (arith, e, q)) };
  termed = record { conditions = c; weights = w; below = λ i q. absurd (omega (arith, z, q)); light = λ i q. absurd (omega (arith, z, q)) };
}
