-- What links mean. Bounds that move over links, from a prefix to its extension and either way between rows of equal terms, come
-- just as far as rule 6 of the rule table says: from a row to every row whose terms begin with its own. Assumes nothing.
use Prim.Native.Nat.{ℕ, suc, ◌+◌, ◌-◌, ◌<◌, ◌≤◌}
use native.Mathlib.Omega.{arith}
use Rattle.std.proofs.Math.Decide.{ℕ_discrete}
use Rattle.std.specs.Prelude.{◌≡◌, ◌⊎◌, ◌↔◌, Bool}
use Rattle.std.proofs.Math.Path.{refl, sym, ap, ap₂}
use Rattle.std.proofs.Common.{◌∙◌, subst, ⊎_elim, ltb-true, ltb-false, eqb-true, eq-eqb, ne_eqb}
use Rattle.std.proofs.Math.Logic.{inl, inr}
use Rattle.std.proofs.Math.Bool.{true, false}
use mathlib.Core.List.Memᴰ
use mathlib.Core.List.{List, [], ◌∷◌, ◌++◌, map, Memᴰ}
use Rattle.std.proofs.lemmas.Bool.{eqb-false}
use Rattle.std.proofs.Math.Dec.{eqb, ltb}
use Rattle.std.proofs.Math.ListN.{length, length-append}
use Rattle.base.specs.Laid.{numbers}
use Rattle.numeric.specs.Threshold.{Term}
use Rattle.rows.specs.Rows.{Row}
use Rattle.links.specs.Links.{terms_at, not_after, order_from, common, Link, ancestors, stacked, linked, links_from, links, neighbours, neighbour_lists}
use Rattle.links.proofs.WordsLaws.{Starts, starts_common, common_starts, common_sym, common_right, common_through, common-between, common_back, common_self, not_after_refl, not_after_trans}
use Rattle.links.proofs.OrderLaws.{Rising, Distinct, order_rising, order_has, order_range, order_length, order_distinct, order_same}

abbrev pub link : ℕ → ℕ → Link
link p e = record { prefix = p; extension = e }

-- Ways over links along which the terms of a row stay at the start.
pub data Climbs (rs : List Row) (ls : List Link) : ℕ → ℕ → Type 0 where
  stay : (r : ℕ) → Climbs rs ls r r
  up : {p e : ℕ} → Memᴰ (link p e) ls → Climbs rs ls p e
  across : {p e : ℕ} → Memᴰ (link p e) ls → length (terms_at rs e) ≡ length (terms_at rs p) → Climbs rs ls e p
  onward : {r q s : ℕ} → Climbs rs ls r q → Climbs rs ls q s → Climbs rs ls r s

-- The terms of row r stand at the start of row q's, in numbers.
abbrev pub Begins : List Row → ℕ → ℕ → Type 0
Begins rs r q = length (terms_at rs r) ≤ common (terms_at rs r) (terms_at rs q)

-- ---- what a way says

module _ (rs : List Row) (ls : List Link) (each : (p e : ℕ) → Memᴰ (link p e) ls → Begins rs p e) where
  climbs-begins : {r q : ℕ} → Climbs rs ls r q → Begins rs r q
  climbs-begins (stay r) = common_self (terms_at rs r)
  climbs-begins (up {p} {e} m) = each p e m
  climbs-begins (across {p} {e} m h) = let k = each p e m in omega (arith, common_sym (terms_at rs e) (terms_at rs p))
  climbs-begins (onward {r} {q} {s} c d) =
      let x = climbs-begins c in
      let y = climbs-begins d in
      omega (arith, common_right (terms_at rs r) (terms_at rs q), common_through (terms_at rs r) (terms_at rs q) (terms_at rs s))

  -- a way between rows of one length can be gone back
  climbs-back : {r q : ℕ} → Climbs rs ls r q → length (terms_at rs q) ≤ length (terms_at rs r) → Climbs rs ls q r
  climbs-back (stay r) h = stay r
  climbs-back (up {p} {e} m) h = let k = each p e m in across m (omega (arith, common_right (terms_at rs p) (terms_at rs e)))
  climbs-back (across m e) h = up m
  climbs-back (onward {r} {q} {s} c d) h =
      let x = climbs-begins c in
      let y = climbs-begins d in
      let u = common_right (terms_at rs r) (terms_at rs q) in
      let v = common_right (terms_at rs q) (terms_at rs s) in
      onward (climbs-back d (omega arith)) (climbs-back c (omega arith))

-- ---- the ancestors that are kept

module _ (rs : List Row) (ls : List Link) where
  -- from the top down each is shorter, and climbs to all above
  abbrev pub Tower : List ℕ → Type 0
  Tower [] = Unit {0}
  Tower (a ∷ more) = ((b : ℕ) → Memᴰ b more → (length (terms_at rs b) < length (terms_at rs a)) × Climbs rs ls b a) × Tower more

  pub pop : (c a : ℕ) (more : List ℕ) → ltb c (length (terms_at rs a)) ≡ true → ancestors rs c (a ∷ more) ≡ ancestors rs c more
  unfolding ancestors
  pop c a more e = rw (e, ancestors)

  pub keep : (c a : ℕ) (more : List ℕ) → ltb c (length (terms_at rs a)) ≡ false → ancestors rs c (a ∷ more) ≡ a ∷ more
  unfolding ancestors
  keep c a more e = rw (e, ancestors)

  kept-tower : (c : ℕ) (st : List ℕ) → Tower st → Tower (ancestors rs c st)
  unfolding ancestors
  kept-tower c [] t = tt
  kept-tower c (a ∷ more) t = by (kept-tower c more t.1) (ltb c (length (terms_at rs a))) refl
    where
      by : Tower (ancestors rs c more) → (s : Bool) → ltb c (length (terms_at rs a)) ≡ s → Tower (ancestors rs c (a ∷ more))
      by ih true e = rw (pop c a more e) ih
      by ih false e = rw (keep c a more e) t

  pub kept_from : (c b : ℕ) (st : List ℕ) → Memᴰ b (ancestors rs c st) → Memᴰ b st
  unfolding ancestors
  kept_from c b [] i = i
  kept_from c b (a ∷ more) i = by (λ j. kept_from c b more j) (ltb c (length (terms_at rs a))) refl
    where
      by : (Memᴰ b (ancestors rs c more) → Memᴰ b more) → (s : Bool) → ltb c (length (terms_at rs a)) ≡ s → Memᴰ b (a ∷ more)
      by ih true e = Memᴰ.tail (ih (rw (pop c a more e) at i))
      by ih false e = rw (keep c a more e) at i

  kept-short : (c b : ℕ) (st : List ℕ) → Tower st → Memᴰ b (ancestors rs c st) → length (terms_at rs b) ≤ c
  unfolding ancestors
  kept-short c b [] t i = absurd (Memᴰ.not-nil i)
  kept-short c b (a ∷ more) t i = by (λ j. kept-short c b more t.1 j) (ltb c (length (terms_at rs a))) refl
    where
      below : length (terms_at rs a) ≤ c → (b ≡ a) ⊎ Memᴰ b more → length (terms_at rs b) ≤ c
      below h (inl e) = rw e h
      below h (inr j) = let k = (t.0 b j).0 in omega arith

      by : (Memᴰ b (ancestors rs c more) → length (terms_at rs b) ≤ c) → (s : Bool) → ltb c (length (terms_at rs a)) ≡ s → length (terms_at rs b) ≤ c
      by ih true e = ih (rw (pop c a more e) at i)
      by ih false e = below (ltb-false c (length (terms_at rs a)) e) (Memᴰ.cases_cons (rw (keep c a more e) at i))

  kept_in : (c b : ℕ) (st : List ℕ) → Memᴰ b st → length (terms_at rs b) ≤ c → Memᴰ b (ancestors rs c st)
  unfolding ancestors
  kept_in c b [] i h = i
  kept_in c b (a ∷ more) i h = by (λ j. kept_in c b more j h) (ltb c (length (terms_at rs a))) refl
    where
      deeper : (Memᴰ b more → Memᴰ b (ancestors rs c more)) → c < length (terms_at rs a) → (b ≡ a) ⊎ Memᴰ b more → Memᴰ b (ancestors rs c more)
      deeper ih l (inl e) = absurd (let k : length (terms_at rs a) ≤ c = rw e at h in omega arith)
      deeper ih l (inr j) = ih j

      by : (Memᴰ b more → Memᴰ b (ancestors rs c more)) → (s : Bool) → ltb c (length (terms_at rs a)) ≡ s → Memᴰ b (ancestors rs c (a ∷ more))
      by ih true e = rw (pop c a more e) (deeper ih (ltb-true c (length (terms_at rs a)) e) (Memᴰ.cases_cons i))
      by ih false e = rw (keep c a more e) i

  -- ---- one row more

  -- What holds once the rows of Seen have passed, the last with the terms `previous`.
  pub record Path (Seen : ℕ → Type 0) (previous : List Term) (st : List ℕ) : Type 0 where
    pub low : (x : ℕ) → Seen x → not_after (terms_at rs x) previous ≡ true
    pub closed : (x y : ℕ) → Seen x → Seen y → Begins rs x y → Climbs rs ls x y
    pub found : (x : ℕ) → Seen x → length (terms_at rs x) ≤ common (terms_at rs x) previous
        → (a : ℕ) × Memᴰ a st × (length (terms_at rs a) ≡ length (terms_at rs x)) × Climbs rs ls x a
    pub starts : (a : ℕ) → Memᴰ a st → length (terms_at rs a) ≤ common (terms_at rs a) previous
    pub tower : Tower st

  -- and of the ancestors that the next row keeps
  record Kept (Seen : ℕ → Type 0) (r : ℕ) (kept : List ℕ) : Type 0 where
    found : (x : ℕ) → Seen x → Begins rs x r → (a : ℕ) × Memᴰ a kept × (length (terms_at rs a) ≡ length (terms_at rs x)) × Climbs rs ls x a
    starts : (a : ℕ) → Memᴰ a kept → Begins rs a r
    tower : Tower kept

  keeps : (Seen : ℕ → Type 0) (previous : List Term) (st : List ℕ) (r : ℕ) → Path Seen previous st → not_after previous (terms_at rs r) ≡ true
      → Kept Seen r (ancestors rs (common previous (terms_at rs r)) st)
  keeps Seen previous st r p h =
      record {
        found =
            λ x s b.
            let k = common-between (terms_at rs x) previous (terms_at rs r) (p.low x s) h in
            let f = p.found x s (omega arith) in
            let e = f.2 in
            (f.0, kept_in (common previous (terms_at rs r)) f.0 st f.1 (omega arith), f.2, f.3);
        starts =
            λ a i.
            let u = p.starts a (kept_from (common previous (terms_at rs r)) a st i) in
            let v = kept-short (common previous (terms_at rs r)) a st p.tower i in
            omega (arith, common_through (terms_at rs a) previous (terms_at rs r));
        tower = kept-tower (common previous (terms_at rs r)) st p.tower;
      }

  -- whoever begins the next row climbs to it
  reaches : (Seen : ℕ → Type 0) (r : ℕ) (kept : List ℕ) → Kept Seen r kept → ((p e : ℕ) → Memᴰ (link p e) (linked r kept) → Memᴰ (link p e) ls)
      → (x : ℕ) → Seen x → Begins rs x r → Climbs rs ls x r
  unfolding linked
  reaches Seen r [] k m x s b = absurd (Memᴰ.not-nil (k.found x s b).1)
  reaches Seen r (a ∷ more) k m x s b =
      let f = k.found x s b in
      onward f.3 (by f.0 (Memᴰ.cases_cons f.1))
    where
      top : Climbs rs ls a r
      top = up (m a r (Memᴰ.head refl))

      by : (c : ℕ) → (c ≡ a) ⊎ Memᴰ c more → Climbs rs ls c r
      by c (inl e) = rw e top
      by c (inr i) = onward (k.tower.0 c i).1 top

  pub replaced : (r a : ℕ) (more : List ℕ) → eqb (length (terms_at rs a)) (length (terms_at rs r)) ≡ true → stacked rs r (a ∷ more) ≡ r ∷ more
  unfolding stacked
  replaced r a more e = rw (e, stacked)

  pub topped : (r a : ℕ) (more : List ℕ) → eqb (length (terms_at rs a)) (length (terms_at rs r)) ≡ false → stacked rs r (a ∷ more) ≡ r ∷ a ∷ more
  unfolding stacked
  topped r a more e = rw (e, stacked)

  -- the row on top of what is kept
  abbrev With : (ℕ → Type 0) → ℕ → ℕ → Type 0
  With Seen r x = Seen x ⊎ (x ≡ r)

  -- what the new stack holds
  record Placed (Seen : ℕ → Type 0) (r : ℕ) (st : List ℕ) : Type 0 where
    found : (x : ℕ) → With Seen r x → Begins rs x r → (a : ℕ) × Memᴰ a st × (length (terms_at rs a) ≡ length (terms_at rs x)) × Climbs rs ls x a
    starts : (a : ℕ) → Memᴰ a st → Begins rs a r
    tower : Tower st

  module _ (Seen : ℕ → Type 0) (r : ℕ) where
    placed-alone : Kept Seen r [] → Placed Seen r (r ∷ [])
    placed-alone k =
        record {
          found = λ x s b. ⊎_elim (λ (v : Seen x). absurd (Memᴰ.not-nil (k.found x v b).1)) (λ (e : x ≡ r). (r, Memᴰ.head refl, ap (λ (y : ℕ). length (terms_at rs y)) (sym e), rw e (stay r))) s;
          starts = λ a i. rw (Memᴰ.eq_of_singleton i) (common_self (terms_at rs r));
          tower = ((λ b i. absurd (Memᴰ.not-nil i)), tt);
        }

    placed-over : (a : ℕ) (more : List ℕ) → Kept Seen r (a ∷ more) → Climbs rs ls a r → ((x : ℕ) → Seen x → Begins rs x r → Climbs rs ls x r)
        → Placed Seen r (stacked rs r (a ∷ more))
    placed-over a more k c h = by (eqb (length (terms_at rs a)) (length (terms_at rs r))) refl
      where
        same : length (terms_at rs a) ≡ length (terms_at rs r) → (x y : ℕ) → Seen x → Begins rs x r → (y ≡ a) ⊎ Memᴰ y more → length (terms_at rs y) ≡ length (terms_at rs x) → Climbs rs ls x y
            → (b : ℕ) × Memᴰ b (r ∷ more) × (length (terms_at rs b) ≡ length (terms_at rs x)) × Climbs rs ls x b
        same l x y s b (inl e) q w = (r, Memᴰ.head refl, sym l ∙ ap (λ (z : ℕ). length (terms_at rs z)) (sym e) ∙ q, h x s b)
        same l x y s b (inr i) q w = (y, Memᴰ.tail i, q, w)

        found-same : length (terms_at rs a) ≡ length (terms_at rs r) → (x : ℕ) → With Seen r x → Begins rs x r
            → (b : ℕ) × Memᴰ b (r ∷ more) × (length (terms_at rs b) ≡ length (terms_at rs x)) × Climbs rs ls x b
        found-same l x (inl s) b = let f = k.found x s b in same l x f.0 s b (Memᴰ.cases_cons f.1) f.2 f.3
        found-same l x (inr e) b = (r, Memᴰ.head refl, ap (λ (y : ℕ). length (terms_at rs y)) (sym e), rw e (stay r))

        found-top : (x : ℕ) → With Seen r x → Begins rs x r → (b : ℕ) × Memᴰ b (r ∷ a ∷ more) × (length (terms_at rs b) ≡ length (terms_at rs x)) × Climbs rs ls x b
        found-top x (inl s) b = let f = k.found x s b in (f.0, Memᴰ.tail f.1, f.2, f.3)
        found-top x (inr e) b = (r, Memᴰ.head refl, ap (λ (y : ℕ). length (terms_at rs y)) (sym e), rw e (stay r))

        starts-in : (st : List ℕ) → ((b : ℕ) → Memᴰ b st → Begins rs b r) → (b : ℕ) → (b ≡ r) ⊎ Memᴰ b st → Begins rs b r
        starts-in st f b (inl e) = rw e (common_self (terms_at rs r))
        starts-in st f b (inr i) = f b i

        shorter : (length (terms_at rs a) ≡ length (terms_at rs r) → ⊥) → (b : ℕ) → (b ≡ a) ⊎ Memᴰ b more → (length (terms_at rs b) < length (terms_at rs r)) × Climbs rs ls b r
        shorter n b (inl e) =
            let u = k.starts a (Memᴰ.head refl) in
            let v = common_right (terms_at rs a) (terms_at rs r) in
            rw e (omega arith, c)
        shorter n b (inr i) =
            let u = k.starts a (Memᴰ.head refl) in
            let v = common_right (terms_at rs a) (terms_at rs r) in
            let w = k.tower.0 b i in
            (omega arith, onward w.1 c)

        by : (s : Bool) → eqb (length (terms_at rs a)) (length (terms_at rs r)) ≡ s → Placed Seen r (stacked rs r (a ∷ more))
        by true e =
            let l = eqb-true (length (terms_at rs a)) (length (terms_at rs r)) e in
            rw (replaced r a more e)
            (record {
              found = found-same l;
              starts = λ b i. starts-in more (λ d j. k.starts d (Memᴰ.tail j)) b (Memᴰ.cases_cons i);
              tower = ((λ b i. let w = k.tower.0 b i in (omega arith, onward w.1 c)), k.tower.1);
            })
        by false e =
            let n = eqb-false (length (terms_at rs a)) (length (terms_at rs r)) e in
            rw (topped r a more e)
            (record {
              found = found-top;
              starts = λ b i. starts-in (a ∷ more) (λ d j. k.starts d j) b (Memᴰ.cases_cons i);
              tower = ((λ b i. shorter n b (Memᴰ.cases_cons i)), k.tower);
            })

    placed : (kept : List ℕ) → Kept Seen r kept → ((p e : ℕ) → Memᴰ (link p e) (linked r kept) → Memᴰ (link p e) ls) → Placed Seen r (stacked rs r kept)
    unfolding linked stacked
    placed [] k m = placed-alone k
    placed (a ∷ more) k m = placed-over a more k (up (m a r (Memᴰ.head refl))) (reaches Seen r (a ∷ more) k m)

  module _ (each : (p e : ℕ) → Memᴰ (link p e) ls → Begins rs p e) where
    passed : (Seen : ℕ → Type 0) (previous : List Term) (st : List ℕ) (r : ℕ) → Path Seen previous st → not_after previous (terms_at rs r) ≡ true
        → ((p e : ℕ) → Memᴰ (link p e) (linked r (ancestors rs (common previous (terms_at rs r)) st)) → Memᴰ (link p e) ls)
        → Path (With Seen r) (terms_at rs r) (stacked rs r (ancestors rs (common previous (terms_at rs r)) st))
    passed Seen previous st r p h m =
        record { low = low; closed = closed; found = d.found; starts = d.starts; tower = d.tower }
      where
        k : Kept Seen r (ancestors rs (common previous (terms_at rs r)) st)
        k = keeps Seen previous st r p h

        d : Placed Seen r (stacked rs r (ancestors rs (common previous (terms_at rs r)) st))
        d = placed Seen r (ancestors rs (common previous (terms_at rs r)) st) k m

        goes : (x : ℕ) → Seen x → Begins rs x r → Climbs rs ls x r
        goes = reaches Seen r (ancestors rs (common previous (terms_at rs r)) st) k m

        low : (x : ℕ) → With Seen r x → not_after (terms_at rs x) (terms_at rs r) ≡ true
        low x (inl s) = not_after_trans (terms_at rs x) previous (terms_at rs r) (p.low x s) h
        low x (inr e) = rw e (not_after_refl (terms_at rs r))

        back : (y : ℕ) → Seen y → Begins rs r y → Climbs rs ls r y
        back y s b =
            let u = common_sym (terms_at rs r) (terms_at rs y) in
            let v = common_back (terms_at rs y) (terms_at rs r) (low y (inl s)) (omega arith) in
            let w = common_right (terms_at rs r) (terms_at rs y) in
            climbs-back rs ls each (goes y s v) (omega arith)

        closed : (x y : ℕ) → With Seen r x → With Seen r y → Begins rs x y → Climbs rs ls x y
        closed x y (inl s) (inl t) b = p.closed x y s t b
        closed x y (inl s) (inr f) b = rw f (goes x s (rw f at b))
        closed x y (inr e) (inl t) b = rw e (back y t (rw e at b))
        closed x y (inr e) (inr f) b = rw (e, f) (stay r)

    -- every pair of rows, one after the other
    walked : (Seen : ℕ → Type 0) (order : List ℕ) (previous : List Term) (st : List ℕ) → Path Seen previous st → Rising rs previous order
        → ((p e : ℕ) → Memᴰ (link p e) (links_from rs order previous st) → Memᴰ (link p e) ls)
        → (x y : ℕ) → Seen x ⊎ Memᴰ x order → Seen y ⊎ Memᴰ y order → Begins rs x y → Climbs rs ls x y
    unfolding links_from
    walked Seen [] previous st p h m x y (inl s) (inl t) b = p.closed x y s t b
    walked Seen [] previous st p h m x y (inl s) (inr j) b = absurd (Memᴰ.not-nil j)
    walked Seen [] previous st p h m x y (inr i) t b = absurd (Memᴰ.not-nil i)
    walked Seen (r ∷ more) previous st p h m x y s t b =
        walked (With Seen r) more (terms_at rs r) (stacked rs r kept)
        (passed Seen previous st r p h.0 (λ q e i. m q e (Memᴰ.append_left (links_from rs more (terms_at rs r) (stacked rs r kept)) i)))
        h.1 (λ q e i. m q e (Memᴰ.append_right (linked r kept) i)) x y (moved x s) (moved y t) b
      where
        kept : List ℕ
        kept = ancestors rs (common previous (terms_at rs r)) st

        split : (z : ℕ) → (z ≡ r) ⊎ Memᴰ z more → With Seen r z ⊎ Memᴰ z more
        split z (inl e) = inl (inr e)
        split z (inr i) = inr i

        moved : (z : ℕ) → Seen z ⊎ Memᴰ z (r ∷ more) → With Seen r z ⊎ Memᴰ z more
        moved z (inl v) = inl (inl v)
        moved z (inr i) = split z (Memᴰ.cases_cons i)

  -- ---- each link

  linked-begins : (r : ℕ) (kept : List ℕ) → ((a : ℕ) → Memᴰ a kept → Begins rs a r) → (p e : ℕ) → Memᴰ (link p e) (linked r kept) → Begins rs p e
  unfolding linked
  linked-begins r [] f p e i = absurd (Memᴰ.not-nil i)
  linked-begins r (a ∷ more) f p e i =
      let q = Memᴰ.eq_of_singleton i in
      rw (ap (λ (l : Link). l.prefix) q, ap (λ (l : Link). l.extension) q) (f a (Memᴰ.head refl))

  none_seen : (previous : List Term) (st : List ℕ) → ((a : ℕ) → Memᴰ a st → length (terms_at rs a) ≤ common (terms_at rs a) previous) → Tower st
      → Path (λ x. ⊥) previous st
  none_seen previous st f t = record { low = λ x s. absurd s; closed = λ x y s v b. absurd s; found = λ x s b. absurd s; starts = f; tower = t }

  each-begins : (order : List ℕ) (previous : List Term) (st : List ℕ) → Path (λ x. ⊥) previous st → Rising rs previous order
      → ((p e : ℕ) → Memᴰ (link p e) (links_from rs order previous st) → Memᴰ (link p e) ls)
      → (p e : ℕ) → Memᴰ (link p e) (links_from rs order previous st) → Begins rs p e
  unfolding links_from
  each-begins [] previous st w h m p e i = absurd (Memᴰ.not-nil i)
  each-begins (r ∷ more) previous st w h m p e i = by (Memᴰ.append_cases (linked r kept) i)
      (λ j. each-begins more (terms_at rs r) (stacked rs r kept) (none_seen (terms_at rs r) (stacked rs r kept) d.starts d.tower) h.1
      (λ q f g. m q f (Memᴰ.append_right (linked r kept) g)) p e j)
    where
      kept : List ℕ
      kept = ancestors rs (common previous (terms_at rs r)) st

      k : Kept (λ x. ⊥) r kept
      k = keeps (λ x. ⊥) previous st r w h.0

      d : Placed (λ x. ⊥) r (stacked rs r kept)
      d = placed (λ x. ⊥) r kept k (λ q f g. m q f (Memᴰ.append_left (links_from rs more (terms_at rs r) (stacked rs r kept)) g))

      by : Memᴰ (link p e) (linked r kept) ⊎ Memᴰ (link p e) (links_from rs more (terms_at rs r) (stacked rs r kept))
          → (Memᴰ (link p e) (links_from rs more (terms_at rs r) (stacked rs r kept)) → Begins rs p e) → Begins rs p e
      by (inl j) ih = linked-begins r kept k.starts p e j
      by (inr j) ih = ih j

-- ---- the links of all rows

module _ (rs : List Row) where
  start : Path rs (links rs) (λ x. ⊥) [] []
  start = none_seen rs (links rs) [] [] (λ a i. absurd (Memᴰ.not-nil i)) tt

  links-begin : (p e : ℕ) → Memᴰ (link p e) (links rs) → Begins rs p e
  unfolding links
  links-begin p e i = each-begins rs (links rs) (order_from rs 0 rs) [] [] start (order_rising rs 0 rs) (λ q f g. g) p e i

  -- EVERY LINK: the terms of its prefix stand at the start of its extension's.
  pub link_starts : (p e : ℕ) → Memᴰ (link p e) (links rs) → Starts (terms_at rs p) (terms_at rs e)
  link_starts p e i = common_starts (terms_at rs p) (terms_at rs e) (links-begin p e i)

  -- LINKS REACH JUST WHAT RULE 6 SAYS: a way climbs from one row to another exactly if the one's terms stand at the start of the other's.
  pub climbs_exactly : (r q : ℕ) → r < length rs → q < length rs → Starts (terms_at rs r) (terms_at rs q) ↔ Climbs rs (links rs) r q
  unfolding links
  climbs_exactly r q h k = (
    λ s. walked rs (links rs) links-begin (λ x. ⊥) (order_from rs 0 rs) [] [] start (order_rising rs 0 rs) (λ p e i. i) r q
        (inr (order_has rs 0 rs r (omega arith) (omega arith))) (inr (order_has rs 0 rs q (omega arith) (omega arith)))
        (starts_common (terms_at rs r) (terms_at rs q) s),
    λ c. common_starts (terms_at rs r) (terms_at rs q) (climbs-begins rs (links rs) links-begin c),
  )

  -- ---- how many

  linked-few : (r : ℕ) (kept : List ℕ) → length (linked r kept) ≤ 1
  unfolding linked
  linked-few r [] = omega arith
  linked-few r (a ∷ more) = omega arith

  from-few : (order : List ℕ) (previous : List Term) (st : List ℕ) → length (links_from rs order previous st) ≤ length order
  unfolding links_from
  from-few [] previous st = omega arith
  from-few (r ∷ more) previous st = by (ancestors rs (common previous (terms_at rs r)) st) (λ v. from-few more (terms_at rs r) v)
    where
      by : (kept : List ℕ) → ((v : List ℕ) → length (links_from rs more (terms_at rs r) v) ≤ length more)
          → length (linked r kept ++ links_from rs more (terms_at rs r) (stacked rs r kept)) ≤ suc (length more)
      by kept ih =
          let k = ih (stacked rs r kept) in
          omega (arith, length-append (linked r kept) (links_from rs more (terms_at rs r) (stacked rs r kept)), linked-few r kept)

  first-none : (order : List ℕ) → length (links_from rs order [] []) ≤ length order - 1
  unfolding links_from ancestors linked
  first-none [] = omega arith
  first-none (r ∷ more) = let k = from-few more (terms_at rs r) (stacked rs r []) in omega arith

  -- One link less than rows, at most.
  pub links_few : length (links rs) ≤ length rs - 1
  unfolding links
  links_few = let k = first-none (order_from rs 0 rs) in omega (arith, order_length rs 0 rs)

  -- ---- which rows

  abbrev pub extensions : List Link → List ℕ
  extensions ls = map (λ (l : Link). l.extension) ls

  pub stacked_from : (r b : ℕ) (kept : List ℕ) → Memᴰ b (stacked rs r kept) → (b ≡ r) ⊎ Memᴰ b kept
  unfolding stacked
  stacked_from r b [] i = Memᴰ.cases_cons i
  stacked_from r b (a ∷ more) i = by (eqb (length (terms_at rs a)) (length (terms_at rs r))) refl
    where
      deeper : (b ≡ r) ⊎ Memᴰ b more → (b ≡ r) ⊎ Memᴰ b (a ∷ more)
      deeper (inl e) = inl e
      deeper (inr j) = inr (Memᴰ.tail j)

      by : (s : Bool) → eqb (length (terms_at rs a)) (length (terms_at rs r)) ≡ s → (b ≡ r) ⊎ Memᴰ b (a ∷ more)
      by true e = deeper (Memᴰ.cases_cons (rw (replaced rs [] r a more e) at i))
      by false e = Memᴰ.cases_cons (rw (topped rs [] r a more e) at i)

  linked-range : (P : ℕ → Type 0) (r : ℕ) (kept : List ℕ) → ((x : ℕ) → Memᴰ x kept → P x) → P r → (p e : ℕ) → Memᴰ (link p e) (linked r kept) → P p × P e
  unfolding linked
  linked-range P r [] f h p e i = absurd (Memᴰ.not-nil i)
  linked-range P r (a ∷ more) f h p e i =
      let q = Memᴰ.eq_of_singleton i in
      rw (ap (λ (l : Link). l.prefix) q, ap (λ (l : Link). l.extension) q) (f a (Memᴰ.head refl), h)

  -- what holds of the rows and of the stack holds of both ends of each link
  pub from_range : (P : ℕ → Type 0) (order : List ℕ) (previous : List Term) (st : List ℕ) → ((x : ℕ) → Memᴰ x order → P x) → ((x : ℕ) → Memᴰ x st → P x)
      → (p e : ℕ) → Memᴰ (link p e) (links_from rs order previous st) → P p × P e
  unfolding links_from
  from_range P [] previous st f g p e i = absurd (Memᴰ.not-nil i)
  from_range P (r ∷ more) previous st f g p e i = by (Memᴰ.append_cases (linked r kept) i)
      (λ j. from_range P more (terms_at rs r) (stacked rs r kept) (λ x k. f x (Memᴰ.tail k)) (λ x k. new x (stacked_from r x kept k)) p e j)
    where
      kept : List ℕ
      kept = ancestors rs (common previous (terms_at rs r)) st

      held : (x : ℕ) → Memᴰ x kept → P x
      held x k = g x (kept_from rs [] (common previous (terms_at rs r)) x st k)

      new : (x : ℕ) → (x ≡ r) ⊎ Memᴰ x kept → P x
      new x (inl q) = rw q (f r (Memᴰ.head refl))
      new x (inr k) = held x k

      by : Memᴰ (link p e) (linked r kept) ⊎ Memᴰ (link p e) (links_from rs more (terms_at rs r) (stacked rs r kept))
          → (Memᴰ (link p e) (links_from rs more (terms_at rs r) (stacked rs r kept)) → P p × P e) → P p × P e
      by (inl j) ih = linked-range P r kept held (f r (Memᴰ.head refl)) p e j
      by (inr j) ih = ih j

  -- BOTH ENDS OF A LINK ARE ROWS
  pub links_range : (p e : ℕ) → Memᴰ (link p e) (links rs) → (p < length rs) × (e < length rs)
  unfolding links
  links_range p e i =
      from_range (λ x. x < length rs) (order_from rs 0 rs) [] [] (λ x k. let h = order_range rs 0 rs x k in omega arith) (λ x k. absurd (Memᴰ.not-nil k)) p e i

  -- ---- a row is the extension of one link at most

  mem-linked : (x r : ℕ) (kept : List ℕ) (more : List Link) → Memᴰ x (extensions (linked r kept ++ more)) → (x ≡ r) ⊎ Memᴰ x (extensions more)
  unfolding linked
  mem-linked x r [] more i = inr i
  mem-linked x r (a ∷ as') more i = Memᴰ.cases_cons i

  pub from_mem : (order : List ℕ) (previous : List Term) (st : List ℕ) (x : ℕ) → Memᴰ x (extensions (links_from rs order previous st)) → Memᴰ x order
  unfolding links_from
  from_mem [] previous st x i = absurd (Memᴰ.not-nil i)
  from_mem (r ∷ more) previous st x i =
      by (ancestors rs (common previous (terms_at rs r)) st) (λ v j. from_mem more (terms_at rs r) v x j) i
    where
      split : (kept : List ℕ) → ((v : List ℕ) → Memᴰ x (extensions (links_from rs more (terms_at rs r) v)) → Memᴰ x more)
          → (x ≡ r) ⊎ Memᴰ x (extensions (links_from rs more (terms_at rs r) (stacked rs r kept))) → Memᴰ x (r ∷ more)
      split kept ih (inl e) = Memᴰ.head e
      split kept ih (inr j) = Memᴰ.tail (ih (stacked rs r kept) j)

      by : (kept : List ℕ) → ((v : List ℕ) → Memᴰ x (extensions (links_from rs more (terms_at rs r) v)) → Memᴰ x more)
          → Memᴰ x (extensions (linked r kept ++ links_from rs more (terms_at rs r) (stacked rs r kept))) → Memᴰ x (r ∷ more)
      by kept ih j = split kept ih (mem-linked x r kept (links_from rs more (terms_at rs r) (stacked rs r kept)) j)

  linked-distinct : (r : ℕ) (kept : List ℕ) (more : List Link) → (Memᴰ r (extensions more) → ⊥) → Distinct (extensions more) → Distinct (extensions (linked r kept ++ more))
  unfolding linked
  linked-distinct r [] more h d = d
  linked-distinct r (a ∷ as') more h d = (h, d)

  from-distinct : (order : List ℕ) (previous : List Term) (st : List ℕ) → Distinct order → Distinct (extensions (links_from rs order previous st))
  unfolding links_from
  from-distinct [] previous st d = tt
  from-distinct (r ∷ more) previous st d =
      by (ancestors rs (common previous (terms_at rs r)) st) (λ v. from-distinct more (terms_at rs r) v d.1)
    where
      by : (kept : List ℕ) → ((v : List ℕ) → Distinct (extensions (links_from rs more (terms_at rs r) v)))
          → Distinct (extensions (linked r kept ++ links_from rs more (terms_at rs r) (stacked rs r kept)))
      by kept ih =
          linked-distinct r kept (links_from rs more (terms_at rs r) (stacked rs r kept))
          (λ i. d.0 (from_mem more (terms_at rs r) (stacked rs r kept) r i)) (ih (stacked rs r kept))

  pub links-once : Distinct (extensions (links rs))
  unfolding links
  links-once = from-distinct (order_from rs 0 rs) [] [] (order_distinct rs 0 rs)

  -- ---- no row is its own prefix

  linked-ends : (r : ℕ) (kept : List ℕ) (p e : ℕ) → Memᴰ (link p e) (linked r kept) → Memᴰ p kept × (e ≡ r)
  unfolding linked
  linked-ends r [] p e i = absurd (Memᴰ.not-nil i)
  linked-ends r (a ∷ more) p e i = let q = Memᴰ.eq_of_singleton i in (Memᴰ.head (ap (λ (l : Link). l.prefix) q), ap (λ (l : Link). l.extension) q)

  from-apart : (order : List ℕ) (q : List Term) (st : List ℕ) → Distinct order → ((a : ℕ) → Memᴰ a st → Memᴰ a order → ⊥)
      → (p e : ℕ) → Memᴰ (link p e) (links_from rs order q st) → p ≡ e → ⊥
  unfolding links_from
  from-apart [] q st d f p e i s = Memᴰ.not-nil i
  from-apart (r ∷ more) q st d f p e i s = by (Memᴰ.append_cases (linked r kept) i)
      (λ j. from-apart more (terms_at rs r) (stacked rs r kept) d.1 (λ a k l. new a l (stacked_from r a kept k)) p e j s)
    where
      kept : List ℕ
      kept = ancestors rs (common q (terms_at rs r)) st

      old : (a : ℕ) → Memᴰ a kept → Memᴰ a st
      old a k = kept_from rs [] (common q (terms_at rs r)) a st k

      new : (a : ℕ) → Memᴰ a more → (a ≡ r) ⊎ Memᴰ a kept → ⊥
      new a l (inl z) = d.0 (subst (λ (y : ℕ). Memᴰ y more) z l)
      new a l (inr k) = f a (old a k) (Memᴰ.tail l)

      by : Memᴰ (link p e) (linked r kept) ⊎ Memᴰ (link p e) (links_from rs more (terms_at rs r) (stacked rs r kept))
          → (Memᴰ (link p e) (links_from rs more (terms_at rs r) (stacked rs r kept)) → ⊥) → ⊥
      by (inl j) ih = let w = linked-ends r kept p e j in f p (old p w.0) (Memᴰ.head (s ∙ w.1))
      by (inr j) ih = ih j

  pub links_apart : (p e : ℕ) → Memᴰ (link p e) (links rs) → p ≡ e → ⊥
  unfolding links
  links_apart p e i = from-apart (order_from rs 0 rs) [] [] (order_distinct rs 0 rs) (λ a k l. Memᴰ.not-nil k) p e i

-- ---- neighbours

-- how the neighbours of a row go on at one link
pub neighbours_prefix : (r : ℕ) (l : Link) (ls : List Link) → l.prefix ≡ r → neighbours r (l ∷ ls) ≡ l.extension ∷ neighbours r ls
unfolding neighbours
neighbours_prefix r l ls e = rw (eq-eqb l.prefix r e, neighbours)

pub neighbours_extension : (r : ℕ) (l : Link) (ls : List Link) → (l.prefix ≡ r → ⊥) → l.extension ≡ r → neighbours r (l ∷ ls) ≡ l.prefix ∷ neighbours r ls
unfolding neighbours
neighbours_extension r l ls n e = rw (ne_eqb l.prefix r n, eq-eqb l.extension r e, neighbours)

pub neighbours_other : (r : ℕ) (l : Link) (ls : List Link) → (l.prefix ≡ r → ⊥) → (l.extension ≡ r → ⊥) → neighbours r (l ∷ ls) ≡ neighbours r ls
unfolding neighbours
neighbours_other r l ls n m = rw (ne_eqb l.prefix r n, ne_eqb l.extension r m, neighbours)

-- a link's ends are neighbours, and neighbours are a link's ends
pub data Joined (r q : ℕ) (l : Link) : Type 0 where
  downward : l.prefix ≡ r → l.extension ≡ q → Joined r q l
  upward : l.extension ≡ r → l.prefix ≡ q → Joined r q l

pub neighbours-joined : (r q : ℕ) (ls : List Link) → Memᴰ q (neighbours r ls) → (l : Link) × Memᴰ l ls × Joined r q l
unfolding neighbours
neighbours-joined r q [] i = absurd (Memᴰ.not-nil i)
neighbours-joined r q (l ∷ ls) i = by (λ j. neighbours-joined r q ls j) (ℕ_discrete l.prefix r) (ℕ_discrete l.extension r)
  where
    deeper : (m : Link) × Memᴰ m ls × Joined r q m → (m : Link) × Memᴰ m (l ∷ ls) × Joined r q m
    deeper (m, j, c) = (m, Memᴰ.tail j, c)

    first : (Memᴰ q (neighbours r ls) → (m : Link) × Memᴰ m ls × Joined r q m) → (x : ℕ) → (q ≡ x → Joined r q l) → (q ≡ x) ⊎ Memᴰ q (neighbours r ls)
        → (m : Link) × Memᴰ m (l ∷ ls) × Joined r q m
    first ih x f (inl e) = (l, Memᴰ.head refl, f e)
    first ih x f (inr j) = deeper (ih j)

    by : (Memᴰ q (neighbours r ls) → (m : Link) × Memᴰ m ls × Joined r q m) → Dec (l.prefix ≡ r) → Dec (l.extension ≡ r)
        → (m : Link) × Memᴰ m (l ∷ ls) × Joined r q m
    by ih (yes e) d = first ih l.extension (λ f. downward e (sym f)) (Memᴰ.cases_cons (rw (neighbours_prefix r l ls e) at i))
    by ih (no n) (yes e) = first ih l.prefix (λ f. upward e (sym f)) (Memᴰ.cases_cons (rw (neighbours_extension r l ls n e) at i))
    by ih (no n) (no m) = deeper (ih (rw (neighbours_other r l ls n m) at i))

pub joined-neighbours : (r q : ℕ) (ls : List Link) (l : Link) → Memᴰ l ls → Joined r q l → Memᴰ q (neighbours r ls)
unfolding neighbours
joined-neighbours r q [] l i c = absurd (Memᴰ.not-nil i)
joined-neighbours r q (m ∷ ls) l i c = by (λ j. joined-neighbours r q ls l j c) (ℕ_discrete m.prefix r) (ℕ_discrete m.extension r)
  where
    here : Joined r q l → l ≡ m → Joined r q m
    here (downward e f) p = downward (ap (λ (x : Link). x.prefix) (sym p) ∙ e) (ap (λ (x : Link). x.extension) (sym p) ∙ f)
    here (upward e f) p = upward (ap (λ (x : Link). x.extension) (sym p) ∙ e) (ap (λ (x : Link). x.prefix) (sym p) ∙ f)

    at-prefix : m.prefix ≡ r → Joined r q m → q ≡ m.extension
    at-prefix p (downward e f) = sym f
    at-prefix p (upward e f) = sym f ∙ p ∙ sym e

    at-extension : (m.prefix ≡ r → ⊥) → Joined r q m → q ≡ m.prefix
    at-extension n (downward e f) = absurd (n e)
    at-extension n (upward e f) = sym f

    at_none : (m.prefix ≡ r → ⊥) → (m.extension ≡ r → ⊥) → Joined r q m → ⊥
    at_none n o (downward e f) = n e
    at_none n o (upward e f) = o e

    first : (Memᴰ l ls → Memᴰ q (neighbours r ls)) → (x : ℕ) → (Joined r q m → q ≡ x) → (l ≡ m) ⊎ Memᴰ l ls → Memᴰ q (x ∷ neighbours r ls)
    first ih x f (inl p) = Memᴰ.head (f (here c p))
    first ih x f (inr j) = Memᴰ.tail (ih j)

    later : (Memᴰ l ls → Memᴰ q (neighbours r ls)) → (Joined r q m → ⊥) → (l ≡ m) ⊎ Memᴰ l ls → Memᴰ q (neighbours r ls)
    later ih f (inl p) = absurd (f (here c p))
    later ih f (inr j) = ih j

    by : (Memᴰ l ls → Memᴰ q (neighbours r ls)) → Dec (m.prefix ≡ r) → Dec (m.extension ≡ r) → Memᴰ q (neighbours r (m ∷ ls))
    by ih (yes e) d = rw (neighbours_prefix r m ls e) (first ih m.extension (at-prefix e) (Memᴰ.cases_cons i))
    by ih (no n) (yes e) = rw (neighbours_extension r m ls n e) (first ih m.prefix (at-extension n) (Memᴰ.cases_cons i))
    by ih (no n) (no o) = rw (neighbours_other r m ls n o) (later ih (at_none n o) (Memᴰ.cases_cons i))

-- IF q IS A NEIGHBOUR OF r, r IS ONE OF q
pub neighbours_both : (r q : ℕ) (ls : List Link) → Memᴰ q (neighbours r ls) → Memᴰ r (neighbours q ls)
neighbours_both r q ls i = let j = neighbours-joined r q ls i in joined-neighbours q r ls j.0 j.1 (turned j.0 j.2)
  where
    turned : (l : Link) → Joined r q l → Joined q r l
    turned l (downward e f) = upward f e
    turned l (upward e f) = downward f e

-- ---- rows with the same terms have the same links: raw lists and guards play no part

module _ (rs rs' : List Row) (same : (r : ℕ) → terms_at rs r ≡ terms_at rs' r) where
  long : (a : ℕ) → length (terms_at rs a) ≡ length (terms_at rs' a)
  long a = ap length (same a)

  ancestors-same : (c : ℕ) (st : List ℕ) → ancestors rs c st ≡ ancestors rs' c st
  unfolding ancestors
  ancestors-same c [] = refl
  ancestors-same c (a ∷ more) = by (ancestors-same c more) (ltb c (length (terms_at rs a))) refl
    where
      by : ancestors rs c more ≡ ancestors rs' c more → (b : Bool) → ltb c (length (terms_at rs a)) ≡ b → ancestors rs c (a ∷ more) ≡ ancestors rs' c (a ∷ more)
      by ih true e = pop rs [] c a more e ∙ ih ∙ sym (pop rs' [] c a more (ap (ltb c) (sym (long a)) ∙ e))
      by ih false e = keep rs [] c a more e ∙ sym (keep rs' [] c a more (ap (ltb c) (sym (long a)) ∙ e))

  stacked-same : (r : ℕ) (st : List ℕ) → stacked rs r st ≡ stacked rs' r st
  unfolding stacked
  stacked-same r [] = refl
  stacked-same r (a ∷ more) = by (eqb (length (terms_at rs a)) (length (terms_at rs r))) refl
    where
      moved : eqb (length (terms_at rs' a)) (length (terms_at rs' r)) ≡ eqb (length (terms_at rs a)) (length (terms_at rs r))
      moved = ap₂ eqb (sym (long a)) (sym (long r))

      by : (b : Bool) → eqb (length (terms_at rs a)) (length (terms_at rs r)) ≡ b → stacked rs r (a ∷ more) ≡ stacked rs' r (a ∷ more)
      by true e = replaced rs [] r a more e ∙ sym (replaced rs' [] r a more (moved ∙ e))
      by false e = topped rs [] r a more e ∙ sym (topped rs' [] r a more (moved ∙ e))

  from-same : (order : List ℕ) (p : List Term) (st : List ℕ) → links_from rs order p st ≡ links_from rs' order p st
  unfolding links_from
  from-same [] p st = refl
  from-same (r ∷ more) p st =
      ap₂ (λ (k : List ℕ) (l : List Link). linked r k ++ l) kept_same
      (ap (λ (k : List ℕ). links_from rs more (terms_at rs r) k) (stacked-same r kept ∙ ap (stacked rs' r) kept_same)
      ∙ from-same more (terms_at rs r) (stacked rs' r kept') ∙ ap (λ (t : List Term). links_from rs' more t (stacked rs' r kept')) (same r))
    where
      kept : List ℕ
      kept = ancestors rs (common p (terms_at rs r)) st

      kept' : List ℕ
      kept' = ancestors rs' (common p (terms_at rs' r)) st

      kept_same : kept ≡ kept'
      kept_same = ancestors-same (common p (terms_at rs r)) st ∙ ap (λ (t : List Term). ancestors rs' (common p t) st) (same r)

  pub links_same : length rs ≡ length rs' → links rs ≡ links rs'
  unfolding links
  links_same e = ap (λ (o : List ℕ). links_from rs o [] []) (order_same rs rs' same 0 rs rs' e) ∙ from-same (order_from rs' 0 rs') [] []

  pub neighbour_lists_same : length rs ≡ length rs' → neighbour_lists rs ≡ neighbour_lists rs'
  neighbour_lists_same e = ap₂ (λ (ls : List Link) (n : ℕ). map (λ (r : ℕ). neighbours r ls) (numbers 0 n)) (links_same e) e
