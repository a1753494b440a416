-- Laws of the pass over the order. Assumes nothing.
use Rattle.std.specs.Prelude.{ℕ, zero, suc, ◌+◌, ◌-◌, ◌*◌, ◌/◌, ◌%◌, ◌<◌, ◌≤◌, ◌≡◌, ◌⊎◌, Bool, set, take, drop}
use Rattle.std.proofs.Common.{add-one, ◌∙◌, subst, inl, inr, lt-ltb, le-ltb, eq-eqb, ne_eqb, length-set, drop_of_length-le, drop-cons, take_all, take-suc-set, get_or-set_same, get_or-set_other}
use Rattle.std.proofs.Math.Decide.{ℕ_discrete}
use native.Mathlib.Omega.{arith}
use Rattle.std.proofs.Math.Path.{refl, sym, ap, ap₂}
use Rattle.std.proofs.Math.Bool.{true, false}
use mathlib.Core.List.Memᴰ
use mathlib.Core.List.{List, [], ◌∷◌, ◌++◌, append_assoc, append-nil, Memᴰ}
use Rattle.std.proofs.Math.Dec.{eqb, ltb}
use Rattle.std.proofs.Math.ListN.{length, get_or, get_or-map}
use Rattle.std.proofs.lemmas.List.{length-map}
use Rattle.base.specs.Parts.{end_by, start_by}
use Rattle.memory.specs.Limits.{max_thresholds}
use Rattle.numeric.specs.Threshold.{Term}
use Rattle.rows.specs.Rows.{Row}
use Rattle.links.specs.Links.{Link, terms_at, common, order_from, ancestors, stacked, linked, links_from, links}
use Rattle.links.proofs.WordsLaws.{common_right}
use Rattle.links.proofs.OrderLaws.{Distinct, order_distinct, order_length, order_range}
use Rattle.row_order.specs.Held.{held_terms, rows_held, Held}
use Rattle.row_order.specs.HeldLaws.{held_terms_lem, held_length, stretch-length}
use Rattle.links.specs.Neighbours.{word_link, links_in}
use Rattle.links.proofs.NeighboursLaws.{links-append}
use Rattle.prefixes.specs.Pass.{Chain, length_at, kept_by, under_by, depth, Falling, named, head_word, Popped, Under, Fresh}
use Rattle.row_order.specs.Merge.{rows_in}

-- ---- popping

pub depth-row : (rows : List (List ℕ)) (t : ℕ) → 0 < t → depth rows t ≡ suc (length_at rows (t - 1))
unfolding depth
depth-row rows zero h = absurd (omega arith)
depth-row rows (suc a) h = let e : a ≡ suc a - 1 = omega arith in ap (λ (n : ℕ). suc (length_at rows n)) e

pub depth_next : (rows : List (List ℕ)) (a : ℕ) → depth rows (a + 1) ≡ suc (length_at rows a)
depth_next rows a = let e : a + 1 - 1 ≡ a = omega arith in depth-row rows (a + 1) (omega arith) ∙ ap (λ (n : ℕ). suc (length_at rows n)) e

depth-none : (rows : List (List ℕ)) → depth rows 0 ≡ 0
unfolding depth
depth-none rows = refl

module _ (L : ℕ → ℕ) where
  kept-pop : (c a : ℕ) (more : List ℕ) → c < L a → kept_by L c (a ∷ more) ≡ kept_by L c more
  unfolding kept_by
  kept-pop c a more h = rw (lt-ltb c (L a) h, kept_by)

  kept-keep : (c a : ℕ) (more : List ℕ) → L a ≤ c → kept_by L c (a ∷ more) ≡ a ∷ more
  unfolding kept_by
  kept-keep c a more h = rw (le-ltb c (L a) h, kept_by)

  under_same : (r a : ℕ) (more : List ℕ) → L a ≡ L r → under_by L r (a ∷ more) ≡ more
  unfolding under_by
  under_same r a more e = rw (eq-eqb (L a) (L r) e, under_by)

  under-other : (r a : ℕ) (more : List ℕ) → (L a ≡ L r → ⊥) → under_by L r (a ∷ more) ≡ a ∷ more
  unfolding under_by
  under-other r a more n = rw (ne_eqb (L a) (L r) n, under_by)

-- Where popping stands: what is kept of the stack is what is kept of the rest.
abbrev pub Popping : List (List ℕ) → List ℕ → ℕ → ℕ → ℕ → Type 0
Popping rows s top shared t = (st : List ℕ) → Chain s top st → (rest : List ℕ) × Chain s t rest × (kept_by (length_at rows) shared st ≡ kept_by (length_at rows) shared rest)

module _ (rows : List (List ℕ)) (s : List ℕ) (shared : ℕ) where
  pub popping_start : (top : ℕ) → Popping rows s top shared top
  popping_start top st c = (st, c, refl)

  keep_all : (t : ℕ) → 0 < t → length_at rows (t - 1) ≤ shared → (st : List ℕ) → Chain s t st → kept_by (length_at rows) shared st ≡ st
  keep_all t h l [] c = absurd (omega arith)
  keep_all t h l (a ∷ more) c =
      let e : t - 1 ≡ a = let z = c.0 in omega arith in
      kept-keep (length_at rows) shared a more (subst (λ (n : ℕ). length_at rows n ≤ shared) e l)

  pub pop_stop : (top t : ℕ) → t ≤ length rows → Popping rows s top shared t → 0 < t → length_at rows (t - 1) ≤ shared → Popped rows s top shared t
  pop_stop top t b f h l =
      record {
        row = b;
        short = omega (arith, depth-row rows t h);
        chain = λ st c. let g = f st c in rw (g.2 ∙ keep_all t h l g.0 g.1) g.1;
      }

  pub pop_next : (top t : ℕ) → Popping rows s top shared t → 0 < t → shared < length_at rows (t - 1) → Popping rows s top shared (get_or s (t - 1) 0)
  pop_next top t f h l st c = let g = f st c in go g.0 g.1 g.2
    where
      go : (rest : List ℕ) → Chain s t rest → kept_by (length_at rows) shared st ≡ kept_by (length_at rows) shared rest
          → (more : List ℕ) × Chain s (get_or s (t - 1) 0) more × (kept_by (length_at rows) shared st ≡ kept_by (length_at rows) shared more)
      go [] d e = absurd (omega arith)
      go (a ∷ more) d e =
          let z = d.0 in
          let p : t - 1 ≡ a = omega arith in
          (more, subst (λ (n : ℕ). Chain s (get_or s n 0) more) (sym p) d.1, e ∙ kept-pop (length_at rows) shared a more (subst (λ (n : ℕ). shared < length_at rows n) p l))

  pub pop_none : (top t : ℕ) → Popping rows s top shared t → t ≡ 0 → Popped rows s top shared 0
  unfolding kept_by
  pop_none top t f z = record { row = omega arith; short = omega (arith, depth-none rows); chain = λ st c. let g = f st c in rw g.2 (go g.0 g.1) }
    where
      go : (rest : List ℕ) → Chain s t rest → Chain s 0 (kept_by (length_at rows) shared rest)
      go [] d = refl
      go (a ∷ more) d = absurd (let w = d.0 in omega arith)

  -- the measure falls
  pub pop_falls : (t : ℕ) → Falling rows s → 0 < t → t ≤ length rows → (get_or s (t - 1) 0 ≤ length rows) × (depth rows (get_or s (t - 1) 0) < depth rows t)
  pop_falls t f h l =
      let d : t - 1 + 1 ≡ t = omega arith in
      subst (λ (n : ℕ). (get_or s (t - 1) 0 ≤ length rows) × (depth rows (get_or s (t - 1) 0) < depth rows n)) d (f (t - 1) (omega arith))

-- ---- the row that a word names

pub named_none : (T : ℕ → List Term) (t : ℕ) (b : List Term) → t ≡ 0 → 0 ≡ common (named T t) b
unfolding named common
named_none T zero b e = refl
named_none T (suc a) b e = absurd (omega arith)

pub named-row : (T : ℕ → List Term) (t : ℕ) → (t ≡ 0 → ⊥) → named T t ≡ T (t - 1)
unfolding named
named-row T zero n = absurd (n refl)
named-row T (suc a) n = let e : a ≡ suc a - 1 = omega arith in ap T e

-- ---- what goes below

module _ (rows : List (List ℕ)) (s : List ℕ) (t r : ℕ) where
  pub under_none : t ≡ 0 → Under rows s t r 0
  unfolding under_by
  under_none z = record { row = omega arith; falls = omega (arith, depth-none rows, depth_next rows r); chain = go }
    where
      go : (st : List ℕ) → Chain s t st → Chain s 0 (under_by (length_at rows) r st)
      go [] d = refl
      go (a ∷ more) d = absurd (let w = d.0 in omega arith)

  pub under_replaced : Falling rows s → 0 < t → t ≤ length rows → length_at rows (t - 1) ≡ length_at rows r → Under rows s t r (get_or s (t - 1) 0)
  under_replaced f h l e =
      let g = pop_falls rows s 0 t f h l in
      record { row = g.0; falls = omega (arith, depth_next rows r, depth-row rows t h, g.1); chain = go }
    where
      go : (st : List ℕ) → Chain s t st → Chain s (get_or s (t - 1) 0) (under_by (length_at rows) r st)
      go [] d = absurd (omega arith)
      go (a ∷ more) d =
          let w = d.0 in
          let p : t - 1 ≡ a = omega arith in
          rw (under_same (length_at rows) r a more (subst (λ (n : ℕ). length_at rows n ≡ length_at rows r) p e)) (subst (λ (n : ℕ). Chain s (get_or s n 0) more) (sym p) d.1)

  pub under_top : 0 < t → t ≤ length rows → length_at rows (t - 1) ≤ length_at rows r → (length_at rows (t - 1) ≡ length_at rows r → ⊥) → Under rows s t r t
  under_top h b l n = record { row = b; falls = omega (arith, depth_next rows r, depth-row rows t h); chain = go }
    where
      go : (st : List ℕ) → Chain s t st → Chain s t (under_by (length_at rows) r st)
      go [] d = absurd (omega arith)
      go (a ∷ more) d =
          let w = d.0 in
          let p : t - 1 ≡ a = omega arith in
          rw (under-other (length_at rows) r a more (λ z. n (ap (length_at rows) p ∙ z))) d

-- ---- chains

chain_head : (s : List ℕ) (t : ℕ) (st : List ℕ) → Chain s t st → t ≡ head_word st
unfolding head_word
chain_head s t [] c = c
chain_head s t (a ∷ more) c = c.0

-- a chain goes on as it was where its words are the same
chain_same : (s s' : List ℕ) (t : ℕ) (st : List ℕ) → ((a : ℕ) → Memᴰ a st → get_or s' a 0 ≡ get_or s a 0) → Chain s t st → Chain s' t st
chain_same s s' t [] f c = c
chain_same s s' t (a ∷ more) f c =
    (c.0, subst (λ (n : ℕ). Chain s' n more) (sym (f a (Memᴰ.head refl))) (chain_same s s' (get_or s a 0) more (λ b i. f b (Memᴰ.tail i)) c.1))

-- ---- what is kept and what goes below, by the rows' own lengths

module _ (rs : List Row) (L : ℕ → ℕ) where
  kept_from : (c b : ℕ) (st : List ℕ) → Memᴰ b (kept_by L c st) → Memᴰ b st
  unfolding kept_by
  kept_from c b [] i = i
  kept_from c b (a ∷ more) i = by (ltb c (L a)) refl (λ j. kept_from c b more j)
    where
      by : (v : Bool) → ltb c (L a) ≡ v → (Memᴰ b (kept_by L c more) → Memᴰ b more) → Memᴰ b (a ∷ more)
      by true e ih = Memᴰ.tail (ih (rw (e, kept_by) at i))
      by false e ih = rw (e, kept_by) at i

  under-from : (r b : ℕ) (st : List ℕ) → Memᴰ b (under_by L r st) → Memᴰ b st
  unfolding under_by
  under-from r b [] i = i
  under-from r b (a ∷ more) i = by (eqb (L a) (L r)) refl
    where
      by : (v : Bool) → eqb (L a) (L r) ≡ v → Memᴰ b (a ∷ more)
      by true e = Memᴰ.tail (rw (e, under_by) at i)
      by false e = rw (e, under_by) at i

  kept-is : (c : ℕ) (st : List ℕ) → ((a : ℕ) → Memᴰ a st → L a ≡ length (terms_at rs a)) → ancestors rs c st ≡ kept_by L c st
  unfolding kept_by ancestors
  kept-is c [] f = refl
  kept-is c (a ∷ more) f = by (ltb c (L a)) refl (kept-is c more (λ b i. f b (Memᴰ.tail i)))
    where
      moved : ltb c (length (terms_at rs a)) ≡ ltb c (L a)
      moved = ap (ltb c) (sym (f a (Memᴰ.head refl)))

      by : (v : Bool) → ltb c (L a) ≡ v → ancestors rs c more ≡ kept_by L c more → ancestors rs c (a ∷ more) ≡ kept_by L c (a ∷ more)
      by true e ih = rw (moved ∙ e, e, ancestors, kept_by) ih
      by false e ih = rw (moved ∙ e, e, ancestors, kept_by)

  under-is : (r : ℕ) (st : List ℕ) → L r ≡ length (terms_at rs r) → ((a : ℕ) → Memᴰ a st → L a ≡ length (terms_at rs a)) → stacked rs r st ≡ r ∷ under_by L r st
  unfolding under_by stacked
  under-is r [] h f = refl
  under-is r (a ∷ more) h f = by (eqb (L a) (L r)) refl
    where
      moved : eqb (length (terms_at rs a)) (length (terms_at rs r)) ≡ eqb (L a) (L r)
      moved = ap₂ eqb (sym (f a (Memᴰ.head refl))) (sym h)

      by : (v : Bool) → eqb (L a) (L r) ≡ v → stacked rs r (a ∷ more) ≡ r ∷ under_by L r (a ∷ more)
      by true e = rw (moved ∙ e, e, stacked, under_by)
      by false e = rw (moved ∙ e, e, stacked, under_by)

-- ---- distinct numbers, by place

pub mem_at : (l : List ℕ) (i : ℕ) → i < length l → Memᴰ (get_or l i 0) l
mem_at [] i h = absurd (omega arith)
mem_at (x ∷ l) zero h = Memᴰ.head refl
mem_at (x ∷ l) (suc i) h = Memᴰ.tail (mem_at l i (omega arith))

distinct_at : (l : List ℕ) → Distinct l → (i k : ℕ) → i < k → k < length l → get_or l i 0 ≡ get_or l k 0 → ⊥
distinct_at [] d i k h j e = omega arith
distinct_at (x ∷ l) d i zero h j e = omega arith
distinct_at (x ∷ l) d zero (suc k) h j e = d.0 (subst (λ (n : ℕ). Memᴰ n l) (sym e) (mem_at l k (omega arith)))
distinct_at (x ∷ l) d (suc i) (suc k) h j e = distinct_at l d.1 i k (omega arith) (omega arith) e

-- ---- the loop

pub links_step : (rs : List Row) (r : ℕ) (more : List ℕ) (p : List Term) (st : List ℕ)
    → links_from rs (r ∷ more) p st ≡ linked r (ancestors rs (common p (terms_at rs r)) st) ++ links_from rs more (terms_at rs r) (stacked rs r (ancestors rs (common p (terms_at rs r)) st))
unfolding links_from
links_step rs r more p st = refl

links-over : (rs : List Row) (p : List Term) (st : List ℕ) → links_from rs [] p st ≡ []
unfolding links_from
links-over rs p st = refl

named_next : (T : ℕ → List Term) (r : ℕ) → named T (r + 1) ≡ T r
named_next T r = let e : r + 1 - 1 ≡ r = omega arith in named-row T (r + 1) (omega arith) ∙ ap T e

named-zero : (T : ℕ → List Term) → named T 0 ≡ []
unfolding named
named-zero T = refl

named_same : (T U : ℕ → List Term) (t n : ℕ) → t ≤ n → ((a : ℕ) → a < n → T a ≡ U a) → named T t ≡ named U t
unfolding named
named_same T U zero n h f = refl
named_same T U (suc a) n h f = f a h

-- the word of a row's link

word_head : (t r : ℕ) (kept : List ℕ) → t ≡ head_word kept → word_link t r ≡ linked r kept
unfolding head_word linked word_link
word_head t r [] e = rw e
word_head t r (a ∷ more) e = rw (e, add-one)

pub word_links : (t r : ℕ) (kept : List ℕ) → t ≡ head_word kept → r < max_thresholds → links_in ((t * max_thresholds + r) ∷ []) ≡ linked r kept
unfolding links_in
word_links t r kept e h =
    let q : (t * max_thresholds + r) / max_thresholds ≡ t = omega arith in
    let m : (t * max_thresholds + r) % max_thresholds ≡ r = omega arith in
    append-nil (word_link ((t * max_thresholds + r) / max_thresholds) ((t * max_thresholds + r) % max_thresholds)) ∙ ap₂ word_link q m ∙ word_head t r kept e

module _ (rows : List (List ℕ)) (cs ws : List ℕ) where
  abbrev rs : List Row
  rs = rows_held rows cs ws (length rows)

  abbrev order : List ℕ
  order = order_from rs 0 rs

  abbrev T : ℕ → List Term
  T = terms_at rs

  abbrev L : ℕ → ℕ
  L = length_at rows

  -- The words after i rows of the order, with the last of them named by top: the first i name links, the others rows.
  pub record Passing (words stack : List ℕ) (i top : ℕ) : Type 0 where
    pub many : i ≤ length rows
    pub sized : length words ≡ length rows
    pub later : (k : ℕ) → i ≤ k → k < length rows → get_or words k 0 % max_thresholds ≡ get_or order k 0
    pub tall : length rows ≤ length stack
    pub falling : Falling rows stack
    pub on : top ≤ length rows
    pub path : List ℕ
    pub chain : Chain stack top path
    pub passed : (a : ℕ) → Memᴰ a path → (k : ℕ) × (k < i) × (get_or order k 0 ≡ a)
    pub rest : links_in (take i words) ++ links_from rs (drop i order) (named T top) path ≡ links rs

  many-rows : length order ≡ length rows
  many-rows = order_length rs 0 rs ∙ held_length rows cs ws (length rows)

  order_row : (k : ℕ) → k < length rows → get_or order k 0 < length rows
  order_row k h =
      let m = order_range rs 0 rs (get_or order k 0) (mem_at order k (omega (arith, many-rows))) in
      omega (arith, held_length rows cs ws (length rows))

  order-once : (i k : ℕ) → i < k → k < length rows → get_or order i 0 ≡ get_or order k 0 → ⊥
  order-once i k h l e = distinct_at order (order_distinct rs 0 rs) i k h (omega (arith, many-rows)) e

  pub passing_start : (words stack : List ℕ) → rows_in words ≡ order → Fresh (length rows) stack → Passing words stack 0 0
  unfolding links_in links
  passing_start words stack e z =
      record {
        many = omega arith;
        sized = sym (length-map words (λ (w : ℕ). w % max_thresholds)) ∙ ap length e ∙ many-rows;
        later = λ k h l. sym (get_or-map (λ (w : ℕ). w % max_thresholds) words k 0) ∙ ap (λ (l : List ℕ). get_or l k 0) e;
        tall = z.0;
        falling = λ a h. let y = z.1 a h in rw y (omega arith, omega (arith, depth-none rows, depth_next rows a));
        on = omega arith;
        path = [];
        chain = refl;
        passed = λ a i. absurd (Memᴰ.not-nil i);
        rest = ap (λ (p : List Term). links_from rs order p []) (named-zero T);
      }

  module _ (held : Held rows cs ws (length rows)) (small : length rows ≤ max_thresholds) where
    pub row-length_is : (a : ℕ) → a < length rows → L a ≡ length (T a)
    row-length_is a h =
        let r = held a h in
        sym (ap length (held_terms_lem rows cs ws (length rows) a h) ∙ stretch-length cs ws (start_by 0 rows a) (end_by 0 rows a) r.conditions r.weights)

    module _ (words stack : List ℕ) (i top : ℕ) (p : Passing words stack i top) (more : i < length rows) where
      -- the next row
      abbrev r : ℕ
      r = get_or words i 0 % max_thresholds

      pub next_small : get_or words i 0 % max_thresholds < length rows
      next_small = let h = order_row i more in omega (arith, p.later i (omega arith) more)

      module _ (shared t u : ℕ) (e : shared ≡ common (named (held_terms rows cs ws) top) (held_terms rows cs ws r))
          (popped : Popped rows stack top shared t) (under : Under rows stack t r u) where
        abbrev K : List ℕ
        K = kept_by L shared p.path

        abbrev words' : List ℕ
        words' = set words i (t * max_thresholds + r)

        abbrev stack' : List ℕ
        stack' = set stack r u

        next_row : r ≡ get_or order i 0
        next_row = p.later i (omega arith) more

        st-row : (a : ℕ) → Memᴰ a p.path → a < length rows
        st-row a m = let q = p.passed a m in let h = order_row q.0 (let z = q.1 in omega arith) in let y = q.2 in omega arith

        st-old : (a : ℕ) → Memᴰ a p.path → a ≡ r → ⊥
        st-old a m q = let w = p.passed a m in order-once w.0 i w.1 more (w.2 ∙ q ∙ next_row)

        up_at : get_or stack' r 0 ≡ u
        up_at = let z = next_small in let l = p.tall in get_or-set_same stack r u 0 (omega arith)

        up-else : (a : ℕ) → (a ≡ r → ⊥) → get_or stack' a 0 ≡ get_or stack a 0
        up-else a m = get_or-set_other stack r a u 0 m

        K-mem : (a : ℕ) → Memᴰ a K → Memᴰ a p.path
        K-mem a m = kept_from rs L shared a p.path m

        lengths : (a : ℕ) → Memᴰ a p.path → L a ≡ length (T a)
        lengths a m = row-length_is a (st-row a m)

        shared-is : shared ≡ common (named T top) (T r)
        shared-is =
            e ∙ ap₂ common (named_same (held_terms rows cs ws) T top (length rows) p.on (λ a h. sym (held_terms_lem rows cs ws (length rows) a h)))
            (sym (held_terms_lem rows cs ws (length rows) r next_small))

        kept_here : ancestors rs (common (named T top) (T r)) p.path ≡ K
        kept_here = ap (λ (c : ℕ). ancestors rs c p.path) (sym shared-is) ∙ kept-is rs L shared p.path lengths

        stack-here : stacked rs r K ≡ r ∷ under_by L r K
        stack-here = under-is rs L r K (row-length_is r next_small) (λ a m. lengths a (K-mem a m))

        chain-K : Chain stack t K
        chain-K = popped.chain p.path p.chain

        new-mem : (a : ℕ) → (a ≡ r) ⊎ Memᴰ a (under_by L r K) → (k : ℕ) × (k < i + 1) × (get_or order k 0 ≡ a)
        new-mem a (inl q) = (i, omega arith, sym next_row ∙ sym q)
        new-mem a (inr m) = let w = p.passed a (K-mem a (under-from rs L r a K m)) in (w.0, (let z = w.1 in omega arith), w.2)

        new-falling : (a : ℕ) → a < length rows → Dec (a ≡ r) → (get_or stack' a 0 ≤ length rows) × (depth rows (get_or stack' a 0) < depth rows (a + 1))
        new-falling a h (yes q) = rw (q, up_at) (under.row, under.falls)
        new-falling a h (no m) = rw (up-else a m) (p.falling a h)

        drop_here : drop i order ≡ r ∷ drop (i + 1) order
        drop_here = drop-cons order i 0 (omega (arith, many-rows)) ∙ ap₂ (λ (x : ℕ) (k : ℕ). x ∷ drop k order) (sym next_row) (sym (add-one i))

        new-links : links_in (take (i + 1) words') ≡ links_in (take i words) ++ linked r K
        new-links =
            let z = next_small in
            let l = p.sized in
            ap (λ (n : ℕ). links_in (take n words')) (add-one i) ∙ ap links_in (take-suc-set words i (t * max_thresholds + r) (omega arith))
            ∙ links-append (take i words) ((t * max_thresholds + r) ∷ [])
            ∙ ap (λ (l : List Link). links_in (take i words) ++ l) (word_links t r K (chain_head stack t K chain-K) (omega arith))

        new-rest : links_in (take (i + 1) words') ++ links_from rs (drop (i + 1) order) (named T (r + 1)) (r ∷ under_by L r K) ≡ links rs
        new-rest =
            ap (λ (l : List Link). l ++ links_from rs (drop (i + 1) order) (named T (r + 1)) (r ∷ under_by L r K)) new-links
            ∙ append_assoc (links_in (take i words)) (linked r K) (links_from rs (drop (i + 1) order) (named T (r + 1)) (r ∷ under_by L r K))
            ∙ ap₂ (λ (q : List Term) (st : List ℕ). links_in (take i words) ++ (linked r K ++ links_from rs (drop (i + 1) order) q st)) (named_next T r) (sym stack-here)
            ∙ ap (λ (k : List ℕ). links_in (take i words) ++ (linked r k ++ links_from rs (drop (i + 1) order) (T r) (stacked rs r k))) (sym kept_here)
            ∙ ap (λ (l : List Link). links_in (take i words) ++ l) (sym (links_step rs r (drop (i + 1) order) (named T top) p.path))
            ∙ ap (λ (l : List ℕ). links_in (take i words) ++ links_from rs l (named T top) p.path) (sym drop_here) ∙ p.rest

        -- ONE ROW MORE
        pub passing_next : Passing (set words i (t * max_thresholds + get_or words i 0 % max_thresholds)) (set stack (get_or words i 0 % max_thresholds) u) (i + 1) (get_or words i 0 % max_thresholds + 1)
        passing_next =
            record {
              many = omega arith;
              sized = length-set words i (t * max_thresholds + r) ∙ p.sized;
              later = λ k h l. ap (λ (w : ℕ). w % max_thresholds) (get_or-set_other words i k (t * max_thresholds + r) 0 (λ q. omega arith)) ∙ p.later k (omega arith) l;
              tall = let l = p.tall in let q = length-set stack r u in omega arith;
              falling = λ a h. new-falling a h (ℕ_discrete a r);
              on = let z = next_small in omega arith;
              path = r ∷ under_by L r K;
              chain = (
                refl,
                subst (λ (w : ℕ). Chain stack' w (under_by L r K)) (sym up_at)
                    (chain_same stack stack' u (under_by L r K) (λ a m. up-else a (st-old a (K-mem a (under-from rs L r a K m)))) (under.chain K chain-K)),
              );
              passed = λ a m. new-mem a (Memᴰ.cases_cons m);
              rest = new-rest;
            }

      -- what a row on the stack may hold of terms
      pub short_enough : (shared t : ℕ) → shared ≡ common (named (held_terms rows cs ws) top) (held_terms rows cs ws (get_or words i 0 % max_thresholds)) → Popped rows stack top shared t
          → depth rows t ≤ length_at rows (get_or words i 0 % max_thresholds) + 1
      short_enough shared t e q =
          let k = common_right (named (held_terms rows cs ws) top) (held_terms rows cs ws r) in
          let l = row-length_is r next_small ∙ ap length (held_terms_lem rows cs ws (length rows) r next_small) in
          omega (arith, q.short)

  -- and all of them
  pub passing_end : (words stack : List ℕ) (i top : ℕ) → Passing words stack i top → i ≡ length rows → links_in words ≡ links (rows_held rows cs ws (length rows))
  passing_end words stack i top p e =
      let s = p.sized in
      let m = many-rows in
      ap links_in (sym (take_all i words (omega arith))) ∙ sym (append-nil (links_in (take i words)))
      ∙ ap (λ (l : List Link). links_in (take i words) ++ l) (sym (ap (λ (l : List ℕ). links_from rs l (named T top) p.path) (drop_of_length-le order {i = i} (omega arith)) ∙ links-over rs (named T top) p.path))
      ∙ p.rest
