-- Laws of the tree of rows: a search comes to the row that has its list, and a row put at the link where a search ends is found from then on.
use Prim.Native.Nat.{ℕ, zero, suc, ◌+◌, ◌-◌, ◌*◌, ◌/◌, ◌%◌, ◌<◌, ◌≤◌}
use Rattle.std.proofs.Common.{not-suc-le-zero, ◌∙◌, length-append, length-set, get_or-take, get_or-drop, drop-set-lt, ltb-false, eq-eqb}
use Rattle.std.proofs.Math.Decide.{dec_lt, ℕ_discrete}
use native.Mathlib.Omega.{arith}
use Rattle.std.specs.Prelude.{◌≡◌, Bool, true, false, cond, take, drop, set, replicate, ltb, Ok, Err}
use Rattle.std.proofs.Math.Path.{refl, sym, ap, ap₂, subst}
use Rattle.std.proofs.lemmas.Bool.{false≢true}
use mathlib.Core.List.{List, [], ◌∷◌, ◌++◌, map}
use Rattle.std.proofs.Math.ListN.{length, get_or, get_or-append}
use Rattle.std.proofs.lemmas.List.{get_or-replicate}
use Rattle.std.proofs.Math.Seq.{get_or-append_seam, get_or-set_same, get_or-set_other, map-set_same, take-set-lt}
use Rattle.base.specs.Parts.{end_by, start_by, stretch}
use Rattle.memory.specs.Limits.{max_thresholds}
use Rattle.numeric.specs.Threshold.{Term}
use Rattle.numeric.specs.Slices.{terms}
use Rattle.numeric.specs.TermsLaws.{no_term, get_d_terms}
use Rattle.row.specs.Terms.{same_terms}
use Rattle.memory.specs.Buffers.{RawLists}
use Rattle.thresholds.specs.Raw.{prints, mixed, fingerprint}
use Rattle.job.specs.Shared.{number_in, raws_to, row_to}
use Rattle.rows.specs.Lists.{list_at, Lists}
use Rattle.job.specs.RowsLaws.{number_most}
use Rattle.rows.specs.ListsLaws.{same_is, same_refl, length-terms, stretch-length}
use Rattle.thresholds.specs.Tree.{
  shorts,
  mark,
  links_in,
  link_in,
  with_link,
  print_in,
  marked_list,
  class_of,
  class_count,
  word_at,
  Way,
  way,
  meets,
  side_at,
  next_place,
  next_rest,
  on_from,
  onward,
  walk,
  head_of,
  begin,
  Marked,
  Treed,
  Under,
  Came,
  Own,
  Searching,
  Finds,
  linked_marks,
  linked_heads,
}

-- ---- marks as words

-- A print is below 2 ^ 32, so that a mark fits its word and is taken apart again.
mixed_small : (h : ℕ) (ts : List Term) → h < prints → mixed h ts < prints
unfolding mixed
mixed_small h [] q = q
mixed_small h (t ∷ ts) q = mixed_small ((h * 65599 + t.condition * 257 + t.weight) % prints) ts (omega arith)

list_short : (r : RawLists) (t : ℕ) → Lists r (length r.thresholds) → t < length r.thresholds → length (list_at r t) < prints
unfolding list_at
list_short r t l h =
    let a = start_by 1 r.thresholds t in
    let e = end_by 1 r.thresholds t in
    let i = l.inside t h in
    let s = l.short t h in
    let w = l.weighed in
    let c = stretch-length a e r.raw-conditions (omega arith) in
    let d = stretch-length a e r.raw-weights (omega arith) in
    let n = length-terms (stretch a e r.raw-conditions) (stretch a e r.raw-weights) (omega arith) in
    omega arith

pub print_small : (r : RawLists) (t : ℕ) → Lists r (length r.thresholds) → t < length r.thresholds → fingerprint (list_at r t) < prints
unfolding fingerprint
print_small r t l h = mixed_small (length (list_at r t)) (list_at r t) (list_short r t l h)

pub mark-first : (p t : ℕ) → t < max_thresholds → mark p t % max_thresholds ≡ t
mark-first p t h = omega arith

pub mark_print : (p t : ℕ) → t < max_thresholds → print_in (mark p t) ≡ p % shorts
mark_print p t h = omega arith

pub mark-links : (p t s : ℕ) → t < max_thresholds → link_in s (mark p t) ≡ 0
unfolding link_in
mark-links p t zero h = omega arith
mark-links p t (suc zero) h = omega arith
mark-links p t (suc (suc s)) h = omega arith

pub link_zero : (s m : ℕ) → s ≡ 0 → links_in m % 2048 ≡ link_in s m
unfolding link_in
link_zero zero m e = refl
link_zero (suc s) m e = absurd (omega arith)

pub link_one : (s m : ℕ) → s ≡ 1 → links_in m / 2048 % 2048 ≡ link_in s m
unfolding link_in
link_one zero m e = absurd (omega arith)
link_one (suc zero) m e = refl
link_one (suc (suc s)) m e = absurd (omega arith)

pub link_two : (s m : ℕ) → (s ≡ 0 → ⊥) → (s ≡ 1 → ⊥) → links_in m / 4194304 ≡ link_in s m
unfolding link_in
link_two zero m a b = absurd (a refl)
link_two (suc zero) m a b = absurd (b refl)
link_two (suc (suc s)) m a b = refl

pub with_zero : (s v m : ℕ) → s ≡ 0 → m + v * 2147483648 ≡ with_link s v m
unfolding with_link
with_zero zero v m e = refl
with_zero (suc s) v m e = absurd (omega arith)

pub with_one : (s v m : ℕ) → s ≡ 1 → m + v * 4398046511104 ≡ with_link s v m
unfolding with_link
with_one zero v m e = absurd (omega arith)
with_one (suc zero) v m e = refl
with_one (suc (suc s)) v m e = absurd (omega arith)

pub with_two : (s v m : ℕ) → (s ≡ 0 → ⊥) → (s ≡ 1 → ⊥) → m + v * 9007199254740992 ≡ with_link s v m
unfolding with_link
with_two zero v m a b = absurd (a refl)
with_two (suc zero) v m a b = absurd (b refl)
with_two (suc (suc s)) v m a b = refl

-- A link changes nothing else of its mark.
link_first : (s v m : ℕ) → with_link s v m % max_thresholds ≡ m % max_thresholds
unfolding with_link
link_first zero v m = omega arith
link_first (suc zero) v m = omega arith
link_first (suc (suc s)) v m = omega arith

link_print : (s v m : ℕ) → print_in (with_link s v m) ≡ print_in m
unfolding with_link
link_print zero v m = omega arith
link_print (suc zero) v m = omega arith
link_print (suc (suc s)) v m = omega arith

link_same : (s v m : ℕ) → v < 2048 → link_in s m ≡ 0 → link_in s (with_link s v m) ≡ v
unfolding link_in with_link
link_same zero v m h e = omega arith
link_same (suc zero) v m h e = omega arith
link_same (suc (suc s)) v m h e = omega arith

link_other : (s u v m : ℕ) → s < 3 → u < 3 → v < 2048 → link_in s m ≡ 0 → (u ≡ s → ⊥) → link_in u (with_link s v m) ≡ link_in u m
unfolding link_in with_link
link_other zero zero v m a b h e n = absurd (n refl)
link_other zero (suc zero) v m a b h e n = omega arith
link_other zero (suc (suc zero)) v m a b h e n = omega arith
link_other (suc zero) zero v m a b h e n = omega arith
link_other (suc zero) (suc zero) v m a b h e n = absurd (n refl)
link_other (suc zero) (suc (suc zero)) v m a b h e n = omega arith
link_other (suc (suc zero)) zero v m a b h e n = omega arith
link_other (suc (suc zero)) (suc zero) v m a b h e n = omega arith
link_other (suc (suc zero)) (suc (suc zero)) v m a b h e n = absurd (n refl)
link_other zero (suc (suc (suc u))) v m a b h e n = absurd (omega arith)
link_other (suc zero) (suc (suc (suc u))) v m a b h e n = absurd (omega arith)
link_other (suc (suc zero)) (suc (suc (suc u))) v m a b h e n = absurd (omega arith)
link_other (suc (suc (suc s))) u v m a b h e n = absurd (omega arith)

sides : (s m : ℕ) → 2 ≤ s → link_in 2 m ≡ link_in s m
unfolding link_in
sides zero m h = absurd (omega arith)
sides (suc zero) m h = absurd (omega arith)
sides (suc (suc s)) m h = refl

pub class_is : (p : ℕ) → p * 2654435769 / 4194304 % class_count ≡ class_of p
unfolding class_of
class_is p = refl

pub class_under : (p : ℕ) → p * 2654435769 / 4194304 % class_count < class_count
class_under p = omega arith

pub class_small : (p : ℕ) → class_of p < class_count
unfolding class_of
class_small p = class_under p

-- ---- the words of a list's terms

word_in : (ts : List Term) (p : ℕ) → p < length ts → word_at ts p ≡ 1 + (get_or ts p no_term).condition + (get_or ts p no_term).weight * 65536
unfolding word_at
word_in [] p h = absurd (not-suc-le-zero h)
word_in (t ∷ ts) zero h = refl
word_in (t ∷ ts) (suc p) h = word_in ts p (omega arith)

word_none : (ts : List Term) (p : ℕ) → length ts ≤ p → word_at ts p ≡ 0
unfolding word_at
word_none [] p h = refl
word_none (t ∷ ts) zero h = absurd (not-suc-le-zero h)
word_none (t ∷ ts) (suc p) h = word_none ts p (omega arith)

module _ (cs ws : List ℕ) (a e p : ℕ) (w : length ws ≡ length cs) (h : e ≤ length cs) where
  abbrev part : List Term
  part = terms (stretch a e cs) (stretch a e ws)

  part-long : length part ≡ e - a
  part-long =
      let c = stretch-length a e cs h in
      let d = stretch-length a e ws (omega arith) in
      length-terms (stretch a e cs) (stretch a e ws) (omega arith) ∙ c

  pub word_past : e - a ≤ p → word_at part p ≡ 0
  word_past q = word_none part p (let n = part-long in omega arith)

  pub word_here : p < e - a → word_at part p ≡ 1 + get_or cs (a + p) 0 + get_or ws (a + p) 0 * 65536
  word_here q =
      let c = stretch-length a e cs h in
      let d = stretch-length a e ws (omega arith) in
      let t = get_d_terms (stretch a e cs) (stretch a e ws) p (omega arith) (omega arith) in
      let f : get_or (stretch a e cs) p 0 ≡ get_or cs (a + p) 0 = get_or-take (e - a) (drop a cs) p 0 q ∙ get_or-drop a cs p 0 in
      let g : get_or (stretch a e ws) p 0 ≡ get_or ws (a + p) 0 = get_or-take (e - a) (drop a ws) p 0 q ∙ get_or-drop a ws p 0 in
      word_in part p (let n = part-long in omega arith)
      ∙ ap (λ (t : Term). 1 + t.condition + t.weight * 65536) t
      ∙ ap₂ (λ (x y : ℕ). 1 + x + y * 65536) f g

pub side_most : (b : Bool) (q : ℕ) → cond b 2 (q % 2) < 3
side_most true q = omega arith
side_most false q = omega arith

side_small : (v x : List Term) (p q : ℕ) → side_at v x p q < 3
side_small v x p q = side_most (meets v x p) q

-- Lists with different terms at a place differ.
pub words_differ : (v x : List Term) (p : ℕ) → meets v x p ≡ false → same_terms v x ≡ false
words_differ v x p n = by (same_terms v x) refl
  where
    by : (b : Bool) → same_terms v x ≡ b → same_terms v x ≡ false
    by true e = absurd (false≢true (sym n ∙ eq-eqb (word_at v p) (word_at x p) (ap (λ (l : List Term). word_at l p) (same_is v x e))))
    by false e = e

-- The word at the place that a search goes on to.
pub word_next : (v x : List Term) (p w : ℕ) → w ≡ word_at x p → cond (meets v x p) (word_at x (p + 1)) w ≡ word_at x (next_place v x p)
word_next v x p w e = by (meets v x p)
  where
    by : (b : Bool) → cond b (word_at x (p + 1)) w ≡ word_at x (cond b (p + 1) p)
    by true = refl
    by false = e

-- ---- a walk

module _ (r : RawLists) (ms : List ℕ) (x : List Term) where
  walk_none : (d p q : ℕ) → (walk r ms x d (way 0 p q)).row ≡ 0
  unfolding walk on_from
  walk_none zero p q = refl
  walk_none (suc d) p q = walk_none d p q

  walk_more : (d : ℕ) (w : Way) → walk r ms x (suc d) w ≡ onward r ms x (walk r ms x d w)
  unfolding walk
  walk_more zero w = refl
  walk_more (suc d) w = walk_more d (onward r ms x w)

-- A walk goes the same way among marks that have gained links and rows.
record Grows (r : RawLists) (ms ns : List ℕ) : Type 0 where
  lists : (j : ℕ) → j < length ms → marked_list r (get_or ns j 0) ≡ marked_list r (get_or ms j 0)
  links : (j s v : ℕ) → j < length ms → s < 3 → link_in s (get_or ms j 0) ≡ suc v → link_in s (get_or ns j 0) ≡ suc v

module _ (r : RawLists) (ms ns : List ℕ) (x : List Term) (few : (j s : ℕ) → j < length ms → link_in s (get_or ms j 0) ≤ length ms) (g : Grows r ms ns) where
  walk_kept : (d k p q i : ℕ) → k ≤ length ms → (walk r ms x d (way k p q)).row ≡ suc i → walk r ns x d (way k p q) ≡ walk r ms x d (way k p q)
  unfolding walk on_from
  walk_kept zero k p q i h e = refl
  walk_kept (suc d) zero p q i h e = absurd (let n = walk_none r ms x d p q in let z : 0 ≡ suc i = sym n ∙ e in omega arith)
  walk_kept (suc d) (suc j) p q i h e = by (walk_kept d) (link_in s m) refl
    where
      m : ℕ
      m = get_or ms j 0

      n : ℕ
      n = get_or ns j 0

      v : List Term
      v = marked_list r m

      s : ℕ
      s = side_at v x p q

      there : j < length ms
      there = omega arith

      by : ((k p q i : ℕ) → k ≤ length ms → (walk r ms x d (way k p q)).row ≡ suc i → walk r ns x d (way k p q) ≡ walk r ms x d (way k p q))
          → (l : ℕ) → link_in s m ≡ l → walk r ns x d (on_from r ns x (suc j) p q) ≡ walk r ms x d (on_from r ms x (suc j) p q)
      by ih zero z =
          absurd
          (let a = ap (λ (l : ℕ). (walk r ms x d (way l (next_place v x p) (next_rest v x p q))).row) (sym z) in
          let b = walk_none r ms x d (next_place v x p) (next_rest v x p q) in
          let f : 0 ≡ suc i = sym b ∙ a ∙ e in
          omega arith)
      by ih (suc l) z =
          let a : on_from r ns x (suc j) p q ≡ on_from r ms x (suc j) p q =
          ap (λ (y : List Term). way (link_in (side_at y x p q) n) (next_place y x p) (next_rest y x p q)) (g.lists j there)
          ∙ ap (λ (k : ℕ). way k (next_place v x p) (next_rest v x p q)) (g.links j s l there (side_small v x p q) z ∙ sym z) in
          ap (walk r ns x d) a ∙ ih (link_in s m) (next_place v x p) (next_rest v x p q) i (few j s there) e

-- ---- a row more, at the link where a search ended

pub length-marks : (a v : ℕ) (ms : List ℕ) → length (linked_marks a v ms) ≡ length ms
unfolding linked_marks
length-marks zero v ms = refl
length-marks (suc a) v ms = length-set ms (suc a / 3 - 1) (with_link (suc a % 3) v (get_or ms (suc a / 3 - 1) 0))

length_heads : (a c v : ℕ) (heads : List ℕ) → length (linked_heads a c v heads) ≡ length heads
unfolding linked_heads
length_heads zero c v heads = length-set heads c v
length_heads (suc a) c v heads = refl

pub marks-first : (a v : ℕ) (ms : List ℕ) → a ≡ 0 → ms ≡ linked_marks a v ms
unfolding linked_marks
marks-first zero v ms e = refl
marks-first (suc a) v ms e = absurd (omega arith)

pub marks_later : (a v : ℕ) (ms : List ℕ) → 0 < a → set ms (a / 3 - 1) (with_link (a % 3) v (get_or ms (a / 3 - 1) 0)) ≡ linked_marks a v ms
unfolding linked_marks
marks_later zero v ms h = absurd (not-suc-le-zero h)
marks_later (suc a) v ms h = refl

pub heads_first : (a c v : ℕ) (heads : List ℕ) → a ≡ 0 → set heads c v ≡ linked_heads a c v heads
unfolding linked_heads
heads_first zero c v heads e = refl
heads_first (suc a) c v heads e = absurd (omega arith)

pub heads_later : (a c v : ℕ) (heads : List ℕ) → 0 < a → heads ≡ linked_heads a c v heads
unfolding linked_heads
heads_later zero c v heads h = absurd (not-suc-le-zero h)
heads_later (suc a) c v heads h = refl

-- The same in a longer list: after the marks nothing changes.
pub linked-take : (a v n : ℕ) (l : List ℕ) → (0 < a → a / 3 - 1 < n) → take n (linked_marks a v l) ≡ linked_marks a v (take n l)
unfolding linked_marks
linked-take zero v n l h = refl
linked-take (suc a) v n l h =
    let q = h (omega arith) in
    take-set-lt n l (suc a / 3 - 1) (with_link (suc a % 3) v (get_or l (suc a / 3 - 1) 0)) q
    ∙ ap (λ (m : ℕ). set (take n l) (suc a / 3 - 1) (with_link (suc a % 3) v m)) (sym (get_or-take n l (suc a / 3 - 1) 0 q))

pub linked-drop : (a v n : ℕ) (l : List ℕ) → (0 < a → a / 3 - 1 < n) → drop n (linked_marks a v l) ≡ drop n l
unfolding linked_marks
linked-drop zero v n l h = refl
linked-drop (suc a) v n l h = drop-set-lt n l (suc a / 3 - 1) (with_link (suc a % 3) v (get_or l (suc a / 3 - 1) 0)) (h (omega arith))

pub linked_lists : (r : RawLists) (a v : ℕ) (ms : List ℕ) → map (marked_list r) (linked_marks a v ms) ≡ map (marked_list r) ms
unfolding linked_marks
linked_lists r zero v ms = refl
linked_lists r (suc a) v ms =
    map-set_same (marked_list r) ms (suc a / 3 - 1) (with_link (suc a % 3) v (get_or ms (suc a / 3 - 1) 0)) 0
    (ap (list_at r) (link_first (suc a % 3) v (get_or ms (suc a / 3 - 1) 0)))

-- The link is one of the first n marks.
pub link_there : (r : RawLists) (ms heads : List ℕ) (x : List Term) (a k : ℕ) → Came r ms heads x a k → 0 < a → a / 3 - 1 < length ms
link_there r ms heads x a k c h = let u = c.under h in let f = u.few in let s = u.some in omega arith

module _ (r : RawLists) (ms heads : List ℕ) (x : List Term) (a v m : ℕ) (t : Treed r ms heads) (c : Came r ms heads x a 0) (ev : v ≡ suc (length ms)) (small : v < 2048) where
  abbrev ns : List ℕ
  ns = linked_marks a v ms ++ (m ∷ [])

  abbrev hs : List ℕ
  hs = linked_heads a (class_of (fingerprint x)) v heads

  long : length ns ≡ suc (length ms)
  long = let e = length-marks a v ms in let q = length-append (linked_marks a v ms) (m ∷ []) in omega arith

  -- What holds of a mark holds of the mark in its place, if it holds with the link that it gained.
  at-linked : (P : ℕ → Type 0) (j : ℕ) → j < length ms → P (get_or ms j 0)
      → (0 < a → j ≡ a / 3 - 1 → link_in (a % 3) (get_or ms j 0) ≡ 0 → P (with_link (a % 3) v (get_or ms j 0))) → P (get_or ns j 0)
  at-linked P j h p f = subst P (sym (get_or-append (linked_marks a v ms) (m ∷ []) 0 j (let e = length-marks a v ms in omega arith))) (by a refl)
    where
      by : (b : ℕ) → a ≡ b → P (get_or (linked_marks a v ms) j 0)
      by zero e = subst (λ (l : List ℕ). P (get_or l j 0)) (marks-first a v ms e) p
      by (suc b) e = subst (λ (l : List ℕ). P (get_or l j 0)) (marks_later a v ms (omega arith)) (at (ℕ_discrete j (a / 3 - 1)))
        where
          w : ℕ
          w = with_link (a % 3) v (get_or ms (a / 3 - 1) 0)

          at : Dec (j ≡ a / 3 - 1) → P (get_or (set ms (a / 3 - 1) w) j 0)
          at (yes q) =
              let u = c.under (omega arith) in
              let g = f (omega arith) q (ap (λ (k : ℕ). link_in (a % 3) (get_or ms k 0)) q ∙ u.link) in
              subst P (sym (ap (λ (k : ℕ). get_or (set ms (a / 3 - 1) w) k 0) q ∙ get_or-set_same ms (a / 3 - 1) w 0 (omega arith)))
              (subst (λ (k : ℕ). P (with_link (a % 3) v (get_or ms k 0))) q g)
          at (no n) = subst P (sym (get_or-set_other ms (a / 3 - 1) j w 0 n)) p

  at_last : (P : ℕ → Type 0) → P m → P (get_or ns (length ms) 0)
  at_last P p =
      subst P (sym (ap (λ (k : ℕ). get_or ns k 0) (sym (length-marks a v ms)) ∙ get_or-append_seam (linked_marks a v ms) m [] 0)) p

  -- What holds of each mark, with or without its new link, and of the new one.
  each : (P : ℕ → ℕ → Type 0) → ((j : ℕ) → j < length ms → P j (get_or ms j 0))
      → ((j : ℕ) → j < length ms → j ≡ a / 3 - 1 → link_in (a % 3) (get_or ms j 0) ≡ 0 → P j (with_link (a % 3) v (get_or ms j 0)))
      → P (length ms) m → (j : ℕ) → j < length ns → P j (get_or ns j 0)
  each P p f q j h = by (dec_lt j (length ms))
    where
      by : Dec (j < length ms) → P j (get_or ns j 0)
      by (yes l) = at-linked (P j) j l (p j l) (λ n e z. f j l e z)
      by (no l) = subst (λ (k : ℕ). P k (get_or ns k 0)) (let e = long in let f : length ms ≡ j = omega arith in f) (at_last (P (length ms)) q)

  third : a % 3 < 3
  third = omega arith

  grows : Grows r ms ns
  grows = record {
    lists = λ j h. at-linked (λ (n : ℕ). marked_list r n ≡ marked_list r (get_or ms j 0)) j h refl (λ u e z. ap (list_at r) (link_first (a % 3) v (get_or ms j 0)));
    links = λ j s l h k e. at-linked (λ (n : ℕ). link_in s n ≡ suc l) j h e (λ u q z. kept j s l e z k (ℕ_discrete s (a % 3)));
  }
    where
      kept : (j s l : ℕ) → link_in s (get_or ms j 0) ≡ suc l → link_in (a % 3) (get_or ms j 0) ≡ 0 → s < 3 → Dec (s ≡ a % 3) → link_in s (with_link (a % 3) v (get_or ms j 0)) ≡ suc l
      kept j s l e z k (yes q) = absurd (let f : 0 ≡ suc l = sym z ∙ ap (λ (u : ℕ). link_in u (get_or ms j 0)) (sym q) ∙ e in omega arith)
      kept j s l e z k (no n) = link_other (a % 3) s v (get_or ms j 0) third k small z n ∙ e

  pub marked_one : (count : ℕ) → Marked r count ms → m % max_thresholds < count → print_in m ≡ fingerprint (marked_list r m) % shorts → Marked r count ns
  marked_one count w f p = record {
    first = each (λ (k n : ℕ). n % max_thresholds < count) w.first (λ j h e z. subst (λ (n : ℕ). n < count) (sym (link_first (a % 3) v (get_or ms j 0))) (w.first j h)) f;
    print = each (λ (k n : ℕ). print_in n ≡ fingerprint (marked_list r n) % shorts) w.print
        (λ j h e z. link_print (a % 3) v (get_or ms j 0) ∙ w.print j h ∙ ap (λ (n : ℕ). fingerprint (list_at r n) % shorts) (sym (link_first (a % 3) v (get_or ms j 0)))) p;
  }

  linked-link : (j s : ℕ) → link_in (a % 3) (get_or ms j 0) ≡ 0 → (P : ℕ → Type 0) → P v → P (link_in s (get_or ms j 0)) → P (link_in s (with_link (a % 3) v (get_or ms j 0)))
  linked-link j s z P p q = by (dec_lt s 3)
    where
      under : (u : ℕ) → u < 3 → P (link_in u (get_or ms j 0)) → P (link_in u (with_link (a % 3) v (get_or ms j 0)))
      under u k q = at (ℕ_discrete u (a % 3))
        where
          at : Dec (u ≡ a % 3) → P (link_in u (with_link (a % 3) v (get_or ms j 0)))
          at (yes e) = subst P (sym (ap (λ (w : ℕ). link_in w (with_link (a % 3) v (get_or ms j 0))) e ∙ link_same (a % 3) v (get_or ms j 0) small z)) p
          at (no n) = subst P (sym (link_other (a % 3) u v (get_or ms j 0) third k small z n)) q

      by : Dec (s < 3) → P (link_in s (with_link (a % 3) v (get_or ms j 0)))
      by (yes k) = under s k q
      by (no k) = subst P (sides s (with_link (a % 3) v (get_or ms j 0)) (omega arith)) (under 2 (omega arith) (subst P (sym (sides s (get_or ms j 0) (omega arith))) q))

  head-kept : (y : List Term) → 0 < head_of heads y → head_of hs y ≡ head_of heads y
  head-kept y h = by a refl
    where
      cx : ℕ
      cx = class_of (fingerprint x)

      cy : ℕ
      cy = class_of (fingerprint y)

      by : (b : ℕ) → a ≡ b → head_of (linked_heads a cx v heads) y ≡ head_of heads y
      by (suc b) e = ap (λ (l : List ℕ). get_or l cy 0) (sym (heads_later a cx v heads (omega arith)))
      by zero e = ap (λ (l : List ℕ). get_or l cy 0) (sym (heads_first a cx v heads e)) ∙ get_or-set_other heads cx cy v 0 (λ q. not q)
        where
          not : cy ≡ cx → ⊥
          not q = let z = ap (λ (k : ℕ). get_or heads k 0) q ∙ c.head e in omega arith

  pub treed_one : marked_list r m ≡ x → ((s : ℕ) → link_in s m ≡ 0) → Treed r ns hs
  unfolding walk on_from
  treed_one ex none = record {
    wide = let e = length_heads a (class_of (fingerprint x)) v heads in let w = t.wide in omega arith;
    heads_few = λ h l. let n = long in few-heads h l a refl;
    few = λ j s h. each (λ (k n : ℕ). link_in s n ≤ length ns) (λ j h. let n = long in let f = t.few j s h in omega arith)
        (λ j h e z. linked-link j s z (λ (l : ℕ). l ≤ length ns) (let n = long in omega arith) (let n = long in let f = t.few j s h in omega arith))
        (let z = none s in omega arith) j h;
    later = λ j s h. each (λ (k n : ℕ). 0 < link_in s n → suc k < link_in s n) (λ j h. t.later j s h)
        (λ j h e z. linked-link j s z (λ (l : ℕ). 0 < l → suc j < l) (λ o. omega arith) (t.later j s h))
        (λ o. absurd (let z = none s in omega arith)) j h;
    reached = each (λ (k n : ℕ). (d : ℕ) × ((walk r ns (marked_list r n) d (begin hs (marked_list r n))).row ≡ suc k)) old
        (λ j h e z. subst (λ (n : ℕ). (d : ℕ) × ((walk r ns (list_at r n) d (begin hs (list_at r n))).row ≡ suc j)) (sym (link_first (a % 3) v (get_or ms j 0))) (old j h))
        (subst (λ (y : List Term). (d : ℕ) × ((walk r ns y d (begin hs y)).row ≡ suc (length ms))) (sym ex) (new a refl));
  }
    where
      few-heads : (h : ℕ) → h < class_count → (b : ℕ) → a ≡ b → get_or hs h 0 ≤ length ns
      few-heads h l (suc b) e =
          let n = long in
          let q = ap (λ (l : List ℕ). get_or l h 0) (heads_later a (class_of (fingerprint x)) v heads (omega arith)) in
          let f = t.heads_few h l in
          omega arith
      few-heads h l zero e = subst (λ (l : List ℕ). get_or l h 0 ≤ length ns) (heads_first a (class_of (fingerprint x)) v heads e) (at (ℕ_discrete h (class_of (fingerprint x))))
        where
          at : Dec (h ≡ class_of (fingerprint x)) → get_or (set heads (class_of (fingerprint x)) v) h 0 ≤ length ns
          at (yes q) =
              let n = long in
              let w = t.wide in
              let g = ap (λ (k : ℕ). get_or (set heads (class_of (fingerprint x)) v) k 0) q ∙ get_or-set_same heads (class_of (fingerprint x)) v 0 (omega arith) in
              omega arith
          at (no q) = let n = long in let g = get_or-set_other heads (class_of (fingerprint x)) h v 0 q in let f = t.heads_few h l in omega arith

      old : (j : ℕ) → j < length ms → (d : ℕ) × ((walk r ns (marked_list r (get_or ms j 0)) d (begin hs (marked_list r (get_or ms j 0)))).row ≡ suc j)
      old j h = (d, ap (λ (k : ℕ). (walk r ns y d (way k 0 (word_at y 0))).row) (head-kept y there) ∙ ap (λ (w : Way). w.row) kept ∙ e)
        where
          y : List Term
          y = marked_list r (get_or ms j 0)

          d : ℕ
          d = (t.reached j h).0

          e : (walk r ms y d (begin heads y)).row ≡ suc j
          e = (t.reached j h).1

          few : head_of heads y ≤ length ms
          few = t.heads_few (class_of (fingerprint y)) (class_small (fingerprint y))

          there : 0 < head_of heads y
          there = by (head_of heads y) refl
            where
              by : (k : ℕ) → head_of heads y ≡ k → 0 < head_of heads y
              by (suc k) q = omega arith
              by zero q =
                  absurd
                  (let n = walk_none r ms y d 0 (word_at y 0) in
                  let g = ap (λ (k : ℕ). (walk r ms y d (way k 0 (word_at y 0))).row) (sym q) in
                  let f : 0 ≡ suc j = sym n ∙ g ∙ e in
                  omega arith)

          kept : walk r ns y d (begin heads y) ≡ walk r ms y d (begin heads y)
          kept = walk_kept r ms ns y t.few grows d (head_of heads y) 0 (word_at y 0) j few e

      new : (b : ℕ) → a ≡ b → (d : ℕ) × ((walk r ns x d (begin hs x)).row ≡ suc (length ms))
      new zero e =
          let w = t.wide in
          let s = class_small (fingerprint x) in
          (0, ap (λ (l : List ℕ). head_of l x) (sym (heads_first a (class_of (fingerprint x)) v heads e)) ∙ get_or-set_same heads (class_of (fingerprint x)) v 0 (omega arith) ∙ ev)
      new (suc b) e = (
        suc u.steps,
        ap (λ (l : List ℕ). (walk r ns x (suc u.steps) (begin l x)).row) (sym (heads_later a (class_of (fingerprint x)) v heads (omega arith)))
            ∙ ap (λ (w : Way). w.row) (walk_more r ns x u.steps (begin heads x) ∙ ap (onward r ns x) (kept ∙ u.leads ∙ ap (λ (k : ℕ). way k u.place u.rest) ej))
            ∙ ap₂ link_in (ap (λ (y : List Term). side_at y x u.place u.rest) (grows.lists j there) ∙ u.side) is ∙ link_same (a % 3) v (get_or ms j 0) small u.link ∙ ev,
      )
        where
          u : Under r ms heads x a 0
          u = c.under (omega arith)

          j : ℕ
          j = a / 3 - 1

          ej : a / 3 ≡ suc j
          ej = let s = u.some in omega arith

          there : j < length ms
          there = let f = u.few in let s = u.some in omega arith

          kept : walk r ns x u.steps (begin heads x) ≡ walk r ms x u.steps (begin heads x)
          kept = walk_kept r ms ns x t.few grows u.steps (head_of heads x) 0 (word_at x 0) j (t.heads_few (class_of (fingerprint x)) (class_small (fingerprint x))) (ap (λ (w : Way). w.row) u.leads ∙ ej)

          is : get_or ns j 0 ≡ with_link (a % 3) v (get_or ms j 0)
          is =
              get_or-append (linked_marks a v ms) (m ∷ []) 0 j (let e = length-marks a v ms in let h = there in omega arith) ∙ ap (λ (l : List ℕ). get_or l j 0) (sym (marks_later a v ms (omega arith)))
              ∙ get_or-set_same ms j (with_link (a % 3) v (get_or ms j 0)) 0 there

-- No rows: every class is empty.
pub treed_none : (r : RawLists) (marks heads : List ℕ) → marks ≡ [] → class_count ≤ length heads → heads ≡ replicate (length heads) 0 → Treed r marks heads
treed_none r marks heads e l b =
    subst (λ (ms : List ℕ). Treed r ms heads) (sym e)
    (record {
      wide = l;
      heads_few = λ h q. let z = ap (λ (xs : List ℕ). get_or xs h 0) b ∙ get_or-replicate (length heads) h 0 0 (omega arith) in omega arith;
      few = λ j s h. absurd (not-suc-le-zero h);
      later = λ j s h. absurd (not-suc-le-zero h);
      reached = λ i h. absurd (not-suc-le-zero h);
    })

-- ---- no list twice

number_kept : (ls ms : List (List Term)) (y : List Term) → number_in ls y < length ls → number_in (ls ++ ms) y ≡ number_in ls y
unfolding number_in
number_kept [] ms y h = absurd (not-suc-le-zero h)
number_kept (l ∷ ls) ms y h = by (number_kept ls ms y) (same_terms l y) refl
  where
    by : (number_in ls y < length ls → number_in (ls ++ ms) y ≡ number_in ls y) → (b : Bool) → same_terms l y ≡ b → number_in (l ∷ (ls ++ ms)) y ≡ number_in (l ∷ ls) y
    by ih true e = rw (e, number_in)
    by ih false e =
        let g : 1 + number_in ls y < suc (length ls) = rw (e, number_in) at h in
        rw (e, number_in) (ap (λ (n : ℕ). 1 + n) (ih (omega arith)))

number_last : (ls : List (List Term)) (x : List Term) → number_in ls x ≡ length ls → number_in (ls ++ (x ∷ [])) x ≡ length ls
unfolding number_in
number_last [] x h = rw (same_refl x, number_in)
number_last (l ∷ ls) x h = by (number_last ls x) (same_terms l x) refl
  where
    by : (number_in ls x ≡ length ls → number_in (ls ++ (x ∷ [])) x ≡ length ls) → (b : Bool) → same_terms l x ≡ b → number_in (l ∷ (ls ++ (x ∷ []))) x ≡ suc (length ls)
    by ih true e = absurd (let g : 0 ≡ suc (length ls) = rw (e, number_in) at h in omega arith)
    by ih false e =
        let g : 1 + number_in ls x ≡ suc (length ls) = rw (e, number_in) at h in
        let i = ih (omega arith) in
        rw (e, number_in) (omega arith)

own_one : (ls : List (List Term)) (x : List Term) → Own ls → number_in ls x ≡ length ls → Own (ls ++ (x ∷ []))
own_one ls x w e k h = by (dec_lt k (length ls))
  where
    by : Dec (k < length ls) → number_in (ls ++ (x ∷ [])) (get_or (ls ++ (x ∷ [])) k []) ≡ k
    by (yes a) =
        let i = w k a in
        ap (number_in (ls ++ (x ∷ []))) (get_or-append ls (x ∷ []) [] k a) ∙ number_kept ls (x ∷ []) (get_or ls k []) (omega arith) ∙ i
    by (no a) =
        let f : k ≡ length ls = let n = length-append ls (x ∷ []) in omega arith in
        ap (λ (j : ℕ). number_in (ls ++ (x ∷ [])) (get_or (ls ++ (x ∷ [])) j [])) f ∙ ap (number_in (ls ++ (x ∷ []))) (get_or-append_seam ls x [] [])
        ∙ number_last ls x e ∙ sym f

-- ROWS HAVE DIFFERENT RAW LISTS.
pub raws_own : (r : RawLists) (t : ℕ) → Own (raws_to r t)
unfolding raws_to
raws_own r zero = λ k h. absurd (not-suc-le-zero h)
raws_own r (suc t) = by (raws_own r t) (ltb (row_to r t) (length (raws_to r t))) refl
  where
    by : Own (raws_to r t) → (b : Bool) → ltb (row_to r t) (length (raws_to r t)) ≡ b → Own (cond b (raws_to r t) (raws_to r t ++ (list_at r t ∷ [])))
    by w true e = w
    by w false e =
        own_one (raws_to r t) (list_at r t) w (let g = ltb-false (row_to r t) (length (raws_to r t)) e in let m = number_most (raws_to r t) (list_at r t) in let i : row_to r t ≡ length (raws_to r t) = omega arith in i)

-- ---- the search

-- A list with another fingerprint is another list.
pub prints_differ : (r : RawLists) (m : ℕ) (x : List Term) → print_in m ≡ fingerprint (marked_list r m) % shorts → (print_in m ≡ fingerprint x % shorts → ⊥) → same_terms (marked_list r m) x ≡ false
prints_differ r m x e n = by (same_terms (marked_list r m) x) refl
  where
    by : (b : Bool) → same_terms (marked_list r m) x ≡ b → same_terms (marked_list r m) x ≡ false
    by true q = absurd (n (e ∙ ap (λ (l : List Term). fingerprint l % shorts) (same_is (marked_list r m) x q)))
    by false q = q

pub length_marked : (r : RawLists) (marks : List ℕ) → length (map (marked_list r) marks) ≡ length marks
length_marked r [] = refl
length_marked r (m ∷ marks) = ap suc (length_marked r marks)

list_marked : (r : RawLists) (marks : List ℕ) (k : ℕ) → k < length marks → get_or (map (marked_list r) marks) k [] ≡ marked_list r (get_or marks k 0)
list_marked r [] k h = absurd (not-suc-le-zero h)
list_marked r (m ∷ marks) zero h = refl
list_marked r (m ∷ marks) (suc k) h = list_marked r marks k (omega arith)

number_none : (r : RawLists) (marks : List ℕ) (x : List Term) → ((i : ℕ) → i < length marks → same_terms (marked_list r (get_or marks i 0)) x ≡ false)
    → number_in (map (marked_list r) marks) x ≡ length marks
unfolding number_in
number_none r [] x h = refl
number_none r (m ∷ marks) x h =
    let e : same_terms (marked_list r m) x ≡ false = h 0 (omega arith) in
    let i = number_none r marks x (λ j l. h (suc j) (omega arith)) in
    rw (e, number_in) (omega arith)

-- How many rows can lie ahead of row k, counted from 1.
unfoldable pub left : ℕ → ℕ → ℕ
left n zero = 0
left n (suc k) = n - k

left_less : (n k l : ℕ) → 0 < k → k ≤ n → l ≤ n → (0 < l → k < l) → left n l < left n k
unfolding left
left_less n zero l h a b c = absurd (not-suc-le-zero h)
left_less n (suc k) zero h a b c = omega arith
left_less n (suc k) (suc l) h a b c = let d = c (omega arith) in omega arith

module _ (r : RawLists) (ms heads : List ℕ) (x : List Term) (t : Treed r ms heads) where
  pub search-start : (k q : ℕ) → k ≡ head_of heads x → q ≡ word_at x 0 → Searching r ms heads x k 0 q 0
  unfolding walk
  search-start k q ek eq = subst (λ (k : ℕ). Searching r ms heads x k 0 q 0) (sym ek) (subst (λ (q : ℕ). Searching r ms heads x (head_of heads x) 0 q 0) (sym eq)
      (record {
        few = t.heads_few (class_of (fingerprint x)) (class_small (fingerprint x));
        early = λ h. h;
        steps = 0;
        leads = refl;
        came = record { head = λ e. refl; under = λ h. absurd (not-suc-le-zero h) };
        ahead = λ i h e. subst (λ (y : List Term). (d : ℕ) × ((walk r ms y d (begin heads y)).row ≡ suc i)) (same_is (marked_list r (get_or ms i 0)) x e) (t.reached i h);
      }))

  -- The list of row k, counted from 1, is another: on along a link.
  module _ (k p q a : ℕ) (s : Searching r ms heads x k p q a) (h : 0 < k) (d : same_terms (marked_list r (get_or ms (k - 1) 0)) x ≡ false) where
    abbrev v : List Term
    v = marked_list r (get_or ms (k - 1) 0)

    abbrev side : ℕ
    side = side_at v x p q

    there : k - 1 < length ms
    there = let f = s.few in omega arith

    pub search_on : (l p' q' b : ℕ) → l ≡ link_in side (get_or ms (k - 1) 0) → p' ≡ next_place v x p → q' ≡ next_rest v x p q → b ≡ 3 * k + side → Searching r ms heads x l p' q' b
    unfolding walk on_from
    search_on l p' q' b el ep eq eb = record {
      few = let f = t.few (k - 1) side there in omega arith;
      early = λ o. let f = t.later (k - 1) side there (omega arith) in let n = s.early h in let m = place-most (meets v x p) in omega arith;
      steps = suc s.steps;
      leads = walk_more r ms x s.steps (begin heads x) ∙ ap (onward r ms x) s.leads ∙ here k refl ∙ ways;
      came = record {
        head = λ e. absurd (omega arith);
        under = λ o. record {
          some = let e = third in omega arith;
          few = let e = third in let f = s.few in omega arith;
          steps = s.steps;
          place = p;
          rest = q;
          leads = s.leads ∙ ap (λ (n : ℕ). way n p q) (sym third);
          side = ap (λ (n : ℕ). side_at (marked_list r (get_or ms n 0)) x p q) less ∙ sym rem;
          link = ap₂ (λ (s n : ℕ). link_in s (get_or ms n 0)) rem less ∙ sym el;
        };
      };
      ahead = λ i g e. on i e (s.ahead i g e);
    }
      where
        small : side < 3
        small = side_small v x p q

        third : b / 3 ≡ k
        third = let s = small in omega arith

        rem : b % 3 ≡ side
        rem = let s = small in omega arith

        less : b / 3 - 1 ≡ k - 1
        less = ap (λ (n : ℕ). n - 1) third

        place-most : (c : Bool) → cond c (p + 1) p ≤ p + 1
        place-most true = omega arith
        place-most false = omega arith

        ways : way (link_in side (get_or ms (k - 1) 0)) (next_place v x p) (next_rest v x p q) ≡ way l p' q'
        ways = ap₂ (λ (n m : ℕ). way n m (next_rest v x p q)) (sym el) (sym ep) ∙ ap (way l p') (sym eq)

        here : (n : ℕ) → k ≡ n → on_from r ms x k p q ≡ way (link_in side (get_or ms (k - 1) 0)) (next_place v x p) (next_rest v x p q)
        here zero e = absurd (omega arith)
        here (suc n) e =
            ap (λ (n : ℕ). on_from r ms x n p q) e
            ∙ ap (λ (n : ℕ). way (link_in (side_at (marked_list r (get_or ms n 0)) x p q) (get_or ms n 0)) (next_place (marked_list r (get_or ms n 0)) x p) (next_rest (marked_list r (get_or ms n 0)) x p q))
            (let f : n ≡ k - 1 = omega arith in f)

        on : (i : ℕ) → same_terms (marked_list r (get_or ms i 0)) x ≡ true → (d : ℕ) × ((walk r ms x d (way k p q)).row ≡ suc i) → (d : ℕ) × ((walk r ms x d (way l p' q')).row ≡ suc i)
        on i e (zero, w) =
            absurd (false≢true (sym d ∙ ap (λ (n : ℕ). same_terms (marked_list r (get_or ms n 0)) x) (let z : k ≡ suc i = w in let f : k - 1 ≡ i = omega arith in f) ∙ e))
        on i e (suc d, w) = (d, ap (λ (u : Way). (walk r ms x d u).row) (sym (here k refl ∙ ways)) ∙ w)

    pub search_less : (l : ℕ) → l ≡ link_in side (get_or ms (k - 1) 0) → left (length ms) l < left (length ms) k
    search_less l e =
        let f = t.few (k - 1) side there in
        left_less (length ms) k l h s.few (omega arith) (λ o. let g = t.later (k - 1) side there (omega arith) in omega arith)

  pub search_found : Own (map (marked_list r) ms) → (k : ℕ) → k < length ms → same_terms (marked_list r (get_or ms k 0)) x ≡ true → Finds r ms heads x (Ok k)
  search_found own k h e =
      let l = length_marked r ms in
      (sym (ap (number_in (map (marked_list r) ms)) (sym (list_marked r ms k h ∙ same_is (marked_list r (get_or ms k 0)) x e)) ∙ own k (omega arith)), h)

  pub search-none : (k p q a : ℕ) → k ≡ 0 → Searching r ms heads x k p q a → Finds r ms heads x (Err a)
  search-none k p q a e s = (number_none r ms x (λ i h. other i h (same_terms (marked_list r (get_or ms i 0)) x) refl), subst (Came r ms heads x a) e s.came)
    where
      other : (i : ℕ) → i < length ms → (b : Bool) → same_terms (marked_list r (get_or ms i 0)) x ≡ b → same_terms (marked_list r (get_or ms i 0)) x ≡ false
      other i h false z = z
      other i h true z =
          absurd
          (let w = s.ahead i h z in
          let n = walk_none r ms x w.0 p q in
          let g = ap (λ (k : ℕ). (walk r ms x w.0 (way k p q)).row) e in
          let f : 0 ≡ suc i = sym n ∙ sym g ∙ w.1 in
          omega arith)
