-- The guard of a node, found by the number of its threshold. Assumes nothing.
use Rattle.std.specs.Prelude.{ℕ, zero, suc, ◌+◌, ◌-◌, ◌<◌, ◌≡◌, refl, Bool, true, false, List, [], ◌∷◌, eqb, ℤ, pos, length, get_or}
use Rattle.std.proofs.Math.Decide.{ℕ_discrete}
use Rattle.std.proofs.Common.{arith, sym, ap, subst, ◌∙◌, eqb-true}
use Rattle.std.proofs.Math.ListN.{get_or-map}
use Rattle.std.specs.Int.Signed.{mag}
use Rattle.memory.specs.Ranges.{figure_limit}
use Rattle.memory.specs.Buffers.{HeldRows}
use Rattle.numeric.specs.Threshold.{Threshold}
use Rattle.state.specs.declared.Step.TheVariants.{Unchanged}
use Rattle.rows.specs.Rows.{row_number}
use Rattle.rows.specs.Laid.{threshold_of}
use Rattle.row_moves.specs.Between.{Index, Live, Did, did, threshold_guard, guard_of}
use Rattle.row_moves.specs.Held.{end_by, no_threshold, row_at, GuardsShaped, HoldsGuards}

above : (k : ℕ) (ts : List Threshold) (n : ℕ) → 0 < threshold_of k ts n → k < threshold_of k ts n
unfolding threshold_of
above k [] n h = absurd (omega arith)
above k (t ∷ ts) n h = by (λ g. above (k + 1) ts n g) (eqb t.node n) refl
  where
    by : (0 < threshold_of (k + 1) ts n → k + 1 < threshold_of (k + 1) ts n) → (b : Bool) → eqb t.node n ≡ b → k < threshold_of k (t ∷ ts) n
    by more true e = rw (e, threshold_of) (omega arith)
    by more false e = rw (e, threshold_of) (let g : 0 < threshold_of (k + 1) ts n = rw (e, threshold_of) at h in omega (arith, more g))

-- No threshold has the node.
pub guard_none : (x : Index) (v : Live) (k : ℕ) (ts : List Threshold) (n : ℕ) → threshold_of k ts n ≡ 0 → did v Unchanged ≡ guard_of x v ts n
unfolding threshold_of guard_of
guard_none x v k [] n e = refl
guard_none x v k (t ∷ ts) n e = by (λ f. guard_none x v (k + 1) ts n f) (eqb t.node n) refl
  where
    by : (threshold_of (k + 1) ts n ≡ 0 → did v Unchanged ≡ guard_of x v ts n) → (b : Bool) → eqb t.node n ≡ b → did v Unchanged ≡ guard_of x v (t ∷ ts) n
    by more true h = absurd (let g : k + 1 ≡ 0 = rw (h, threshold_of) at e in omega arith)
    by more false h = rw (h, guard_of) (more (rw (h, threshold_of) at e))

-- The threshold with this number has it, and is the one whose guard is told.
pub record Found (x : Index) (v : Live) (ts : List Threshold) (n i : ℕ) : Type 0 where
  pub node : (get_or ts i no_threshold).node ≡ n
  pub guard : threshold_guard x v (get_or ts i no_threshold) ≡ guard_of x v ts n

pub guard_found : (x : Index) (v : Live) (k : ℕ) (ts : List Threshold) (n i : ℕ) → threshold_of k ts n ≡ k + suc i → Found x v ts n i
unfolding threshold_of guard_of
guard_found x v k [] n i e = absurd (omega arith)
guard_found x v k (t ∷ ts) n i e = by (λ j f. guard_found x v (k + 1) ts n j f) (eqb t.node n) refl i e
  where
    by : ((j : ℕ) → threshold_of (k + 1) ts n ≡ k + 1 + suc j → Found x v ts n j) → (b : Bool) → eqb t.node n ≡ b
        → (j : ℕ) → threshold_of k (t ∷ ts) n ≡ k + suc j → Found x v (t ∷ ts) n j
    by more true h zero g = record { node = eqb-true t.node n h; guard = rw (h, guard_of) }
    by more true h (suc j) g = absurd (let f : k + 1 ≡ k + suc (suc j) = rw (h, threshold_of) at g in omega arith)
    by more false h zero g = absurd (let f : threshold_of (k + 1) ts n ≡ k + 1 = rw (h, threshold_of) at g in omega (arith, above (k + 1) ts n (omega arith)))
    by more false h (suc j) g =
        let f : threshold_of (k + 1) ts n ≡ k + suc (suc j) = rw (h, threshold_of) at g in
        let m = more j (f ∙ omega arith) in
        record { node = m.node; guard = rw (h, guard_of) m.guard }

-- The guard of a node, from the buffers.
module _ (x : Index) (nodes : List (List ℕ)) (bounds : List ℤ) (y : HoldsGuards x nodes bounds) (n : ℕ) (k : n < length nodes) (v : Live) (t : ℕ) (p : t ≡ end_by 0 nodes n) where
  pub guard-not : t ≡ 0 → did v Unchanged ≡ guard_of x v x.thresholds n
  guard-not e = guard_none x v 0 x.thresholds n (y.number n k ∙ sym p ∙ e)

  pub guard_is : 0 < t → Found x v x.thresholds n (t - 1)
  guard_is h = guard_found x v 0 x.thresholds n (t - 1) (y.number n k ∙ sym p ∙ omega arith)

  pub guard_bound : (get_or x.thresholds (t - 1) no_threshold).bound ≡ get_or bounds (t - 1) (pos 0)
  guard_bound = sym (get_or-map (λ (s : Threshold). s.bound) x.thresholds (t - 1) no_threshold) ∙ ap (λ (l : List ℤ). get_or l (t - 1) (pos 0)) y.bounds

  pub guard-row : 0 < t → (r : ℕ) → r ≡ end_by 1 nodes n → row_at x (t - 1) ≡ r
  guard-row h r e = sym (e ∙ y.row n (t - 1) k (sym p ∙ omega arith))

-- Where the buffers hold the guards, that of a node tells nothing, or is that of a threshold with a row and a bound in range.
pub guard_held : (x : Index) (h : HeldRows) (nodes : List (List ℕ)) (bounds : List ℤ) → GuardsShaped h nodes bounds → HoldsGuards x nodes bounds → (n : ℕ) → n < length nodes → (v : Live) (G : Did → Type 0)
    → G (did v Unchanged) → ((t : Threshold) → row_number x.rows t.terms < length h.rows → mag t.bound < figure_limit → G (threshold_guard x v t)) → G (guard_of x v x.thresholds n)
guard_held x h nodes bounds y z n k v G none some = by (ℕ_discrete t 0)
  where
    t : ℕ
    t = end_by 0 nodes n

    by : Dec (t ≡ 0) → G (guard_of x v x.thresholds n)
    by (yes e) = subst G (guard-not x nodes bounds z n k v t refl e) none
    by (no e) =
        let p : 0 < t = omega arith in
        let b = guard_bound x nodes bounds z n k v t refl in
        let r : row_at x (t - 1) < length h.rows = rw (guard-row x nodes bounds z n k v t refl p (end_by 1 nodes n) refl) (y.rows n k p) in
        let c : mag (get_or x.thresholds (t - 1) no_threshold).bound < figure_limit = rw b (y.small (t - 1) (omega (arith, y.inside n k))) in
        subst G (guard_is x nodes bounds z n k v t refl p).guard (some (get_or x.thresholds (t - 1) no_threshold) r c)
