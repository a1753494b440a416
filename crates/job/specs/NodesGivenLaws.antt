-- The nodes as the loop over the thresholds leaves them: each has its threshold and that threshold's row.
use Prim.Native.Nat.{ℕ, zero, suc, ◌+◌, ◌<◌, ◌≤◌}
use Rattle.std.proofs.Common.{not-suc-le-zero, zero-add, add-one, arith, sym, ap₂, ◌∙◌, subst, inl, inr, length-set, get_or-set_same, get_or-set_other, ext_get_or, eqb-true}
use Rattle.std.proofs.Math.Decide.{ℕ_discrete}
use Rattle.std.specs.Prelude.{◌≡◌, ◌⊎◌, false, List, [], ◌∷◌, map, length, get_or, set, replicate, ℤ, eqb}
use Rattle.std.proofs.Math.Path.{refl, ap}
use Rattle.std.proofs.lemmas.List.{length-map, length-replicate, get_or-replicate}
use Rattle.std.proofs.lemmas.Bool.{eqb-false}
use Rattle.base.specs.Laid.{numbers, triples}
use Rattle.base.specs.Columns.{column, Wide}
use Rattle.numeric.specs.Threshold.{Threshold}
use Rattle.row.specs.TermsLaws.{either}
use Rattle.memory.specs.Buffers.{RawLists}
use Rattle.rows.specs.Lists.{list_at}
use Rattle.rows.specs.Rows.{Row, row_number}
use Rattle.rows.specs.Laid.{threshold_of, row_of_node}
use Rattle.rows.specs.Guards.{node_at, row_at}
use Rattle.job.specs.Shared.{nodes_to, node_entry, row_to, NodesRise}
use Rattle.base.specs.LaidLaws.{length-numbers}
use Rattle.job.specs.Given.{threshold_at, given, given_rows}
use Rattle.job.specs.RowsGivenLaws.{row-given}

-- ---- the first threshold of a node among thresholds k, k + 1 .. of which there are so many

module _ (f : ℕ → Threshold) (rs : List Row) (i : ℕ) where
  threshold-none : (k c : ℕ) → ((t : ℕ) → k ≤ t → t < k + c → (f t).node ≡ i → ⊥) → threshold_of k (map f (numbers k c)) i ≡ 0
  unfolding threshold_of numbers
  threshold-none k zero h = refl
  threshold-none k (suc c) h =
      either (λ (x : ℕ). x ≡ 0) (eqb (f k).node i) (λ e. absurd (h k (omega arith) (omega arith) (eqb-true (f k).node i e)))
      (λ e. threshold-none (k + 1) c (λ t a b. h t (omega arith) (omega arith)))

  row-none : (k c : ℕ) → ((t : ℕ) → k ≤ t → t < k + c → (f t).node ≡ i → ⊥) → row_of_node rs (map f (numbers k c)) i ≡ 0
  unfolding row_of_node numbers
  row-none k zero h = refl
  row-none k (suc c) h =
      either (λ (x : ℕ). x ≡ 0) (eqb (f k).node i) (λ e. absurd (h k (omega arith) (omega arith) (eqb-true (f k).node i e)))
      (λ e. row-none (k + 1) c (λ t a b. h t (omega arith) (omega arith)))

  module _ (t : ℕ) (own : (f t).node ≡ i) where
    -- what stands first is t, or comes before it
    first : (k : ℕ) → k ≤ t → ((s : ℕ) → k ≤ s → s < t → (f s).node ≡ i → ⊥) → (f k).node ≡ i → k ≡ t
    first k a n e = by (ℕ_discrete k t)
      where
        by : Dec (k ≡ t) → k ≡ t
        by (yes q) = q
        by (no q) = absurd (n k (omega arith) (omega arith) e)

    beyond : (k : ℕ) → k ≤ t → eqb (f k).node i ≡ false → k + 1 ≤ t
    beyond k a e = by (ℕ_discrete k t)
      where
        by : Dec (k ≡ t) → k + 1 ≤ t
        by (yes q) = absurd (eqb-false (f k).node i e (ap (λ (s : ℕ). (f s).node) q ∙ own))
        by (no q) = omega arith

    threshold-own : (k c : ℕ) → k ≤ t → t < k + c → ((s : ℕ) → k ≤ s → s < t → (f s).node ≡ i → ⊥) → threshold_of k (map f (numbers k c)) i ≡ t + 1
    unfolding threshold_of numbers
    threshold-own k zero a b n = absurd (omega arith)
    threshold-own k (suc c) a b n =
        either (λ (x : ℕ). x ≡ t + 1) (eqb (f k).node i) (λ e. ap (λ (s : ℕ). s + 1) (first k a n (eqb-true (f k).node i e)))
        (λ e. threshold-own (k + 1) c (beyond k a e) (omega arith) (λ s p q. n s (omega arith) q))

    row-own : (k c : ℕ) → k ≤ t → t < k + c → ((s : ℕ) → k ≤ s → s < t → (f s).node ≡ i → ⊥) → row_of_node rs (map f (numbers k c)) i ≡ row_number rs (f t).terms
    unfolding row_of_node numbers
    row-own k zero a b n = absurd (omega arith)
    row-own k (suc c) a b n =
        either (λ (x : ℕ). x ≡ row_number rs (f t).terms) (eqb (f k).node i)
        (λ e. ap (λ (s : ℕ). row_number rs (f s).terms) (first k a n (eqb-true (f k).node i e)))
        (λ e. row-own (k + 1) c (beyond k a e) (omega arith) (λ s p q. n s (omega arith) q))

-- Some number below n has value i, or none has.
found : (f : ℕ → ℕ) (i n : ℕ) → ((t : ℕ) × (t < n) × (f t ≡ i)) ⊎ ((t : ℕ) → t < n → f t ≡ i → ⊥)
found f i zero = inr (λ t h e. not-suc-le-zero h)
found f i (suc n) = by (found f i n) (ℕ_discrete (f n) i)
  where
    by : ((t : ℕ) × (t < n) × (f t ≡ i)) ⊎ ((t : ℕ) → t < n → f t ≡ i → ⊥) → Dec (f n ≡ i)
        → ((t : ℕ) × (t < suc n) × (f t ≡ i)) ⊎ ((t : ℕ) → t < suc n → f t ≡ i → ⊥)
    by (inl (t, h, e)) d = inl (t, omega arith, e)
    by (inr none) (yes e) = inl (n, omega arith, e)
    by (inr none) (no q) = inr (λ t h e. last t h e (ℕ_discrete t n))
      where
        last : (t : ℕ) → t < suc n → f t ≡ i → Dec (t ≡ n) → ⊥
        last t h e (yes p) = q (ap f (sym p) ∙ e)
        last t h e (no p) = none t (omega arith) e

-- ---- what the loop leaves at a node

pub length_nodes : (r : RawLists) (nodes : List (List ℕ)) (n : ℕ) → length (nodes_to r nodes n) ≡ length nodes
unfolding nodes_to
length_nodes r nodes zero = refl
length_nodes r nodes (suc n) = length-set (nodes_to r nodes n) (node_at r.thresholds n) (node_entry n (row_to r n)) ∙ length_nodes r nodes n

node_none : (r : RawLists) (nodes : List (List ℕ)) (n i : ℕ) → ((t : ℕ) → t < n → node_at r.thresholds t ≡ i → ⊥)
    → get_or (nodes_to r nodes n) i [] ≡ get_or nodes i []
unfolding nodes_to
node_none r nodes zero i h = refl
node_none r nodes (suc n) i h =
    get_or-set_other (nodes_to r nodes n) (node_at r.thresholds n) i (node_entry n (row_to r n)) [] (λ e. h n (omega arith) (sym e))
    ∙ node_none r nodes n i (λ t k. h t (omega arith))

node_own : (r : RawLists) (nodes : List (List ℕ)) (n t : ℕ) → t < n → node_at r.thresholds t < length nodes
    → ((s : ℕ) → t < s → s < n → node_at r.thresholds s ≡ node_at r.thresholds t → ⊥)
    → get_or (nodes_to r nodes n) (node_at r.thresholds t) [] ≡ node_entry t (row_to r t)
unfolding nodes_to
node_own r nodes zero t h k d = absurd (not-suc-le-zero h)
node_own r nodes (suc n) t h k d = by (λ q. node_own r nodes n t q k (λ s a b. d s a (omega arith))) (ℕ_discrete n t)
  where
    by : (t < n → get_or (nodes_to r nodes n) (node_at r.thresholds t) [] ≡ node_entry t (row_to r t)) → Dec (n ≡ t)
        → get_or (nodes_to r nodes (suc n)) (node_at r.thresholds t) [] ≡ node_entry t (row_to r t)
    by ih (yes e) =
        ap (λ (s : ℕ). get_or (set (nodes_to r nodes n) (node_at r.thresholds s) (node_entry s (row_to r s))) (node_at r.thresholds t) []) e
        ∙ get_or-set_same (nodes_to r nodes n) (node_at r.thresholds t) (node_entry t (row_to r t)) [] (let q = length_nodes r nodes n in omega arith)
    by ih (no e) =
        get_or-set_other (nodes_to r nodes n) (node_at r.thresholds n) (node_at r.thresholds t) (node_entry n (row_to r n)) []
        (λ q. d n (omega arith) (omega arith) (sym q))
        ∙ ih (omega arith)

pub nodes_rise : (ths : List (List ℕ)) → NodesRise ths → (s t : ℕ) → s < t → t < length ths → node_at ths s < node_at ths t
nodes_rise ths h s zero a b = absurd (not-suc-le-zero a)
nodes_rise ths h s (suc t) a b = by (λ q. nodes_rise ths h s t q (omega arith)) (ℕ_discrete s t)
  where
    next : node_at ths t < node_at ths (suc t)
    next = subst (λ (k : ℕ). node_at ths t < node_at ths k) (add-one t) (h t (omega arith))

    by : (s < t → node_at ths s < node_at ths t) → Dec (s ≡ t) → node_at ths s < node_at ths (suc t)
    by ih (yes e) = subst (λ (k : ℕ). node_at ths k < node_at ths (suc t)) (sym e) next
    by ih (no e) = let p = ih (omega arith) in let q = next in omega arith

-- ---- lists over the first numbers

mapped_at : (g : ℕ → ℕ) (n k i : ℕ) → i < k → get_or (map g (numbers n k)) i 0 ≡ g (n + i)
unfolding numbers
mapped_at g n zero i h = absurd (not-suc-le-zero h)
mapped_at g n (suc k) zero h = ap g (omega arith)
mapped_at g n (suc k) (suc i) h = mapped_at g (n + 1) k i (omega arith) ∙ ap g (omega arith)

triples-at : (xs ys zs : List ℕ) (i : ℕ) → i < length xs → i < length ys → i < length zs
    → get_or (triples xs ys zs) i [] ≡ get_or xs i 0 ∷ get_or ys i 0 ∷ get_or zs i 0 ∷ []
unfolding triples
triples-at [] ys zs i a b c = absurd (not-suc-le-zero a)
triples-at (x ∷ xs) [] zs i a b c = absurd (not-suc-le-zero b)
triples-at (x ∷ xs) (y ∷ ys) [] i a b c = absurd (not-suc-le-zero c)
triples-at (x ∷ xs) (y ∷ ys) (z ∷ zs) zero a b c = refl
triples-at (x ∷ xs) (y ∷ ys) (z ∷ zs) (suc i) a b c = triples-at xs ys zs i (omega arith) (omega arith) (omega arith)

length-triples : (xs ys zs : List ℕ) → length ys ≡ length xs → length zs ≡ length xs → length (triples xs ys zs) ≡ length xs
unfolding triples
length-triples [] ys zs a b = refl
length-triples (x ∷ xs) [] zs a b = absurd (omega arith)
length-triples (x ∷ xs) (y ∷ ys) [] a b = absurd (omega arith)
length-triples (x ∷ xs) (y ∷ ys) (z ∷ zs) a b = ap suc (length-triples xs ys zs (omega arith) (omega arith))

-- The three columns of triples.
pub triples_columns : (xs ys zs : List ℕ) → length ys ≡ length xs → length zs ≡ length xs
    → (column 0 (triples xs ys zs) ≡ xs) × (column 1 (triples xs ys zs) ≡ ys) × (column 2 (triples xs ys zs) ≡ zs)
unfolding triples
triples_columns [] [] [] a b = (refl, refl, refl)
triples_columns [] (y ∷ ys) zs a b = absurd (omega arith)
triples_columns [] [] (z ∷ zs) a b = absurd (omega arith)
triples_columns (x ∷ xs) [] zs a b = absurd (omega arith)
triples_columns (x ∷ xs) (y ∷ ys) [] a b = absurd (omega arith)
triples_columns (x ∷ xs) (y ∷ ys) (z ∷ zs) a b =
    let q = triples_columns xs ys zs (omega arith) (omega arith) in
    (ap (λ (l : List ℕ). x ∷ l) q.0, ap (λ (l : List ℕ). y ∷ l) q.1, ap (λ (l : List ℕ). z ∷ l) q.2)

-- A list of m entries, each made of two figures of its number and 0.
entries-triples : (l : List (List ℕ)) (g h : ℕ → ℕ) (m : ℕ) → length l ≡ m → ((i : ℕ) → i < m → get_or l i [] ≡ g i ∷ h i ∷ 0 ∷ [])
    → l ≡ triples (map g (numbers 0 m)) (map h (numbers 0 m)) (replicate m 0)
entries-triples l g h m e f =
    let xs = map g (numbers 0 m) in
    let ys = map h (numbers 0 m) in
    let zs = replicate {A = ℕ} m 0 in
    let lx = length-map (numbers 0 m) g ∙ length-numbers 0 m in
    let ly = length-map (numbers 0 m) h ∙ length-numbers 0 m in
    let lz = length-replicate {A = ℕ} m 0 in
    ext_get_or [] l (triples xs ys zs) (e ∙ sym (length-triples xs ys zs (ly ∙ sym lx) (lz ∙ sym lx) ∙ lx))
    (λ i k.
    let q : i < m = omega arith in
    f i q ∙ ap₂ (λ (a b : ℕ). a ∷ b ∷ 0 ∷ []) (sym (mapped_at g 0 m i q ∙ ap g (zero-add i))) (sym (mapped_at h 0 m i q ∙ ap h (zero-add i)))
    ∙ ap (λ (c : ℕ). get_or xs i 0 ∷ get_or ys i 0 ∷ c ∷ []) (sym (get_or-replicate m i 0 0 q))
    ∙ sym (triples-at xs ys zs i (omega arith) (omega arith) (omega arith)))

-- ---- THE NODES OF THE JOB

module _ (r : RawLists) (bounds : List ℤ) (nodes : List (List ℕ)) (m : ℕ) (clear : nodes ≡ replicate m (replicate 3 0))
    (inside : (t : ℕ) → t < length r.thresholds → node_at r.thresholds t < m) (rise : NodesRise r.thresholds) where
  abbrev n : ℕ
  n = length r.thresholds

  cleared-long : length nodes ≡ m
  cleared-long = ap length clear ∙ length-replicate m (replicate 3 0)

  pub nodes_long : length (nodes_to r nodes (length r.thresholds)) ≡ m
  nodes_long = length_nodes r nodes n ∙ cleared-long

  own : (t : ℕ) → t < n → get_or (nodes_to r nodes n) (node_at r.thresholds t) [] ≡ node_entry t (row_to r t)
  own t h =
      node_own r nodes n t h (let p = inside t h in let q = cleared-long in omega arith)
      (λ s a b e. let q = nodes_rise r.thresholds rise t s a b in omega arith)

  -- each node with its threshold and its row
  pub nodes_entry : (i : ℕ) → i < m
      → get_or (nodes_to r nodes (length r.thresholds)) i [] ≡ threshold_of 0 (given r bounds) i ∷ row_of_node (given_rows r bounds) (given r bounds) i ∷ 0 ∷ []
  nodes_entry i h = by (found (node_at r.thresholds) i n)
    where
      by : ((t : ℕ) × (t < n) × (node_at r.thresholds t ≡ i)) ⊎ ((t : ℕ) → t < n → node_at r.thresholds t ≡ i → ⊥)
          → get_or (nodes_to r nodes n) i [] ≡ threshold_of 0 (given r bounds) i ∷ row_of_node (given_rows r bounds) (given r bounds) i ∷ 0 ∷ []
      by (inl (t, k, e)) =
          let d : (s : ℕ) → 0 ≤ s → s < t → node_at r.thresholds s ≡ i → ⊥ =
          λ s a b q. let z = nodes_rise r.thresholds rise s t b k in omega arith in
          let p = threshold-own (threshold_at r bounds) (given_rows r bounds) i t e 0 n (omega arith) (omega arith) d in
          let q = row-own (threshold_at r bounds) (given_rows r bounds) i t e 0 n (omega arith) (omega arith) d in
          ap (λ (j : ℕ). get_or (nodes_to r nodes n) j []) (sym e) ∙ own t k
          ∙ ap₂ (λ (a b : ℕ). a ∷ b ∷ 0 ∷ []) (sym p) (row-given r bounds t k ∙ sym q)
      by (inr none) =
          let p = threshold-none (threshold_at r bounds) (given_rows r bounds) i 0 n (λ t a b e. none t (omega arith) e) in
          let q = row-none (threshold_at r bounds) (given_rows r bounds) i 0 n (λ t a b e. none t (omega arith) e) in
          node_none r nodes n i none ∙ ap (λ (l : List (List ℕ)). get_or l i []) clear ∙ get_or-replicate m i (replicate 3 0) [] h
          ∙ ap₂ (λ (a b : ℕ). a ∷ b ∷ 0 ∷ []) (sym p) (sym q)

  -- THE NODES THAT THE LOOP LEAVES ARE THE JOB'S, WITHOUT EDGES YET.
  pub nodes_given : nodes_to r nodes (length r.thresholds)
      ≡ triples (map (threshold_of 0 (given r bounds)) (numbers 0 m)) (map (row_of_node (given_rows r bounds) (given r bounds)) (numbers 0 m)) (replicate m 0)
  nodes_given =
      entries-triples (nodes_to r nodes n) (threshold_of 0 (given r bounds)) (row_of_node (given_rows r bounds) (given r bounds)) m nodes_long nodes_entry

  columns : (column 0 (nodes_to r nodes n) ≡ map (threshold_of 0 (given r bounds)) (numbers 0 m))
      × (column 1 (nodes_to r nodes n) ≡ map (row_of_node (given_rows r bounds) (given r bounds)) (numbers 0 m)) × (column 2 (nodes_to r nodes n) ≡ replicate m 0)
  columns =
      let xs = map (threshold_of 0 (given r bounds)) (numbers 0 m) in
      let ys = map (row_of_node (given_rows r bounds) (given r bounds)) (numbers 0 m) in
      let lx = length-map (numbers 0 m) (threshold_of 0 (given r bounds)) ∙ length-numbers 0 m in
      let ly = length-map (numbers 0 m) (row_of_node (given_rows r bounds) (given r bounds)) ∙ length-numbers 0 m in
      let q = triples_columns xs ys (replicate m 0) (ly ∙ sym lx) (length-replicate {A = ℕ} m 0 ∙ sym lx) in
      (ap (column 0) nodes_given ∙ q.0, ap (column 1) nodes_given ∙ q.1, ap (column 2) nodes_given ∙ q.2)

  -- Column by column: thresholds, rows, and room for the ends of edges.
  pub nodes_thresholds : column 0 (nodes_to r nodes (length r.thresholds)) ≡ map (threshold_of 0 (given r bounds)) (numbers 0 m)
  nodes_thresholds = columns.0

  pub nodes_rows : column 1 (nodes_to r nodes (length r.thresholds)) ≡ map (row_of_node (given_rows r bounds) (given r bounds)) (numbers 0 m)
  nodes_rows = columns.1

  pub nodes_clear : column 2 (nodes_to r nodes (length r.thresholds)) ≡ replicate m 0
  nodes_clear = columns.2

  -- Each entry has three figures.
  pub nodes_three : (i : ℕ) → i < m → length (get_or (nodes_to r nodes (length r.thresholds)) i []) ≡ 3
  nodes_three i h = ap length (nodes_entry i h)

  pub nodes_wide : Wide 2 (nodes_to r nodes (length r.thresholds))
  nodes_wide i h = let q = nodes_three i (subst (λ (k : ℕ). i < k) nodes_long h) in omega arith

  -- THE ROW OF A THRESHOLD IS READ FROM ITS NODE.
  pub nodes_row-at : (t : ℕ) → t < length r.thresholds
      → row_at r.thresholds (nodes_to r nodes (length r.thresholds)) t ≡ row_number (given_rows r bounds) (list_at r t)
  nodes_row-at t h = ap (λ (v : List ℕ). get_or v 1 0) (own t h) ∙ row-given r bounds t h
