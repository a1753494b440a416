-- THE LAYOUT THAT IS EXHIBITED IS ONE, and the least: what is true in it is true in every layout of the job. All of this stays on one law,
-- `asked_rises`: what a threshold asks rises with the layout.
use Prim.Native.Nat.{ℕ, zero, suc, ◌+◌, ◌≤◌, ◌<◌}
use Rattle.std.proofs.Common.{arith, sym, ◌∙◌, subst, eqb-true, eq-eqb, ne_eqb}
use Rattle.std.specs.Prelude.{◌≡◌, Bool, ◌||◌, length, ℤ, pos, negsuc}
use Rattle.std.proofs.Math.Path.{refl, ap}
use Rattle.std.proofs.Math.Bool.{true, false}
use mathlib.Core.List.Memᴰ
use mathlib.Core.List.{List, [], ◌∷◌, Memᴰ}
use Rattle.std.proofs.Math.Logic.{⊎_elim}
use Rattle.std.proofs.Math.Dec.{eqb}
use Rattle.std.proofs.lemmas.Bool.{eqb-false}
use Rattle.base.specs.TestLaws.{clash, or-true, or_left, or_right}
use Rattle.base.specs.All.{All}
use Rattle.base.specs.AllLaws.{all_each}
use Rattle.numeric.specs.Threshold.{Term, term, Threshold, Job}
use Rattle.numeric.specs.Layout.{Layout, value, asked, IsLayout}
use Rattle.numeric.specs.LayoutLaws.{Included, asked_rises}
use Rattle.numeric.specs.Least.{among, asked_nodes, grown, least_nodes, least_layout, NodesRise}

-- ---- WORKED: two thresholds that list each other stay false, and one that lists itself, unless its bound is 0 or less; a chain grows
-- from its end

abbrev asking : ℕ → ℤ → List Term → Threshold
asking n b ts = record { node = n; bound = b; terms = ts }

abbrev grows : List Threshold → List ℕ
grows ts = least_nodes (record { nodes = length ts; thresholds = ts })

each_other : grows (asking 0 (pos 1) (term 1 1 ∷ []) ∷ asking 1 (pos 1) (term 0 1 ∷ []) ∷ []) ≡ []
unfolding grown asked_nodes among value
each_other = refl

itself : grows (asking 0 (pos 3) (term 0 3 ∷ []) ∷ asking 1 (pos 0) (term 1 3 ∷ []) ∷ []) ≡ 1 ∷ []
unfolding grown asked_nodes among value
itself = refl

chain : grows (asking 0 (pos 2) (term 1 2 ∷ []) ∷ asking 1 (pos 5) (term 2 5 ∷ []) ∷ asking 2 (negsuc 0) [] ∷ []) ≡ 0 ∷ 1 ∷ 2 ∷ []
unfolding grown asked_nodes among value
chain = refl

-- ---- A ROUND

-- What a threshold adds to the nodes that those behind it add.
abbrev next : Bool → ℕ → List ℕ → List ℕ
next x n ns = elim x [ true ↦ n ∷ ns | false ↦ ns ]

-- One list of nodes in another: its nodes are true there; it is no longer, and as long only if it is the same.
record Within (ns ms : List ℕ) : Type 0 where
  pub below : Included (among ns) (among ms)
  pub short : length ns ≤ length ms
  pub same : length ns ≡ length ms → ns ≡ ms

within_none : (ms : List ℕ) → Within [] ms
unfolding among
within_none ms = record { below = λ n h. absurd (clash false h refl); short = omega arith; same = λ e. by ms e }
  where
    by : (ms : List ℕ) → 0 ≡ length ms → [] ≡ ms
    by [] e = refl
    by (m ∷ ms) e = absurd (omega arith)

within_more : (m : ℕ) (ns ms : List ℕ) → Within ns ms → Within ns (m ∷ ms)
unfolding among
within_more m ns ms h = record {
  below = λ n k. or_right (eqb m n) (among ms n) (h.below n k);
  short = omega (arith, h.short);
  same = λ e. absurd (let q = h.short in omega arith);
}

within_both : (m : ℕ) (ns ms : List ℕ) → Within ns ms → Within (m ∷ ns) (m ∷ ms)
unfolding among
within_both m ns ms h = record {
  below = λ n k. ⊎_elim (λ (e : eqb m n ≡ true). or_left (eqb m n) (among ms n) e) (λ (e : among ns n ≡ true). or_right (eqb m n) (among ms n) (h.below n e)) (or-true (eqb m n) (among ns n) k);
  short = omega (arith, h.short);
  same = λ e. ap (λ (l : List ℕ). m ∷ l) (h.same (omega arith));
}

-- With more nodes true, more are asked to be.
round_rises : (v w : Layout) → Included v w → (ts : List Threshold) → Within (asked_nodes v ts) (asked_nodes w ts)
unfolding asked_nodes
round_rises v w b [] = within_none []
round_rises v w b (t ∷ ts) = by (round_rises v w b ts) (asked v t) (asked w t) (asked_rises v w b t)
  where
    by : Within (asked_nodes v ts) (asked_nodes w ts) → (x y : Bool) → (x ≡ true → y ≡ true)
        → Within (next x t.node (asked_nodes v ts)) (next y t.node (asked_nodes w ts))
    by ih true true h = within_both t.node _ _ ih
    by ih true false h = absurd (clash false (h refl) refl)
    by ih false true h = within_more t.node _ _ ih
    by ih false false h = ih

-- No more than there are thresholds.
round_few : (v : Layout) (ts : List Threshold) → length (asked_nodes v ts) ≤ length ts
unfolding asked_nodes
round_few v [] = omega arith
round_few v (t ∷ ts) = by (asked v t) (round_few v ts)
  where
    by : (x : Bool) → length (asked_nodes v ts) ≤ length ts → length (next x t.node (asked_nodes v ts)) ≤ suc (length ts)
    by true h = omega arith
    by false h = omega arith

-- ---- THE LAST ROUND adds none

abbrev Stays : List Threshold → List ℕ → Type 0
Stays ts ns = ns ≡ asked_nodes (among ns) ts

stays : (k : ℕ) (ts : List Threshold) (ns : List ℕ) → Within ns (asked_nodes (among ns) ts) → length ts ≤ k + length ns → Stays ts (grown k ts ns)
unfolding grown
stays zero ts ns h l = h.same (omega (arith, round_few (among ns) ts, h.short))
stays (suc k) ts ns h l = by (λ q. stays k ts more (round_rises (among ns) (among more) h.below ts) q) (eqb (length more) (length ns)) refl
  where
    more : List ℕ
    more = asked_nodes (among ns) ts

    by : (length ts ≤ k + length more → Stays ts (grown k ts more)) → (b : Bool) → eqb (length more) (length ns) ≡ b → Stays ts (elim b [ true ↦ ns | false ↦ grown k ts more ])
    by ih true e = h.same (sym (eqb-true (length more) (length ns) e))
    by ih false e = ih (omega (arith, h.short, eqb-false (length more) (length ns) e))

-- ---- IT IS A LAYOUT

-- A node below those of all thresholds is not asked to be true.
absent : (v : Layout) (n : ℕ) (ts : List Threshold) → All (λ (u : Threshold). n < u.node) ts → among (asked_nodes v ts) n ≡ false
unfolding asked_nodes among
absent v n [] h = refl
absent v n (t ∷ ts) h = by (absent v n ts h.1) (asked v t)
  where
    by : among (asked_nodes v ts) n ≡ false → (x : Bool) → among (next x t.node (asked_nodes v ts)) n ≡ false
    by ih true = ap (λ (b : Bool). b || among (asked_nodes v ts) n) (ne_eqb t.node n (λ e. let k = h.0 in omega arith)) ∙ ih
    by ih false = ih

-- Where nodes rise, a threshold's node is among those asked to be true exactly if this threshold asks for it.
own_node : (v : Layout) (ts : List Threshold) → NodesRise ts → (t : Threshold) → Memᴰ t ts → among (asked_nodes v ts) t.node ≡ asked v t
unfolding asked_nodes among
own_node v [] h t m = absurd (Memᴰ.not-nil m)
own_node v (u ∷ us) h t m =
    ⊎_elim (λ (e : t ≡ u). subst (λ (y : Threshold). among (asked_nodes v (u ∷ us)) y.node ≡ asked v y) (sym e) (first (asked v u)))
    (λ (k : Memᴰ t us). later (own_node v us h.1 t k) (all_each (λ (y : Threshold). u.node < y.node) us h.0 t k) (asked v u)) (Memᴰ.cases_cons m)
  where
    first : (x : Bool) → among (next x u.node (asked_nodes v us)) u.node ≡ x
    first true = or_left (eqb u.node u.node) (among (asked_nodes v us) u.node) (eq-eqb u.node u.node refl)
    first false = absent v u.node us h.0

    later : among (asked_nodes v us) t.node ≡ asked v t → u.node < t.node → (x : Bool) → among (next x u.node (asked_nodes v us)) t.node ≡ asked v t
    later ih l true = ap (λ (b : Bool). b || among (asked_nodes v us) t.node) (ne_eqb u.node t.node (λ e. omega arith)) ∙ ih
    later ih l false = ih

pub least_layout_lem : (j : Job) → NodesRise j.thresholds → IsLayout j (least_layout j)
least_layout_lem j h t m = ap (λ (l : List ℕ). among l t.node) still ∙ own_node (least_layout j) j.thresholds h t m
  where
    still : Stays j.thresholds (least_nodes j)
    still = stays _ j.thresholds [] (within_none _) (omega arith)

-- ---- AND THE LEAST: what a part of a layout asks to be true is true in it

module _ (j : Job) (v : Layout) (is : IsLayout j v) where
  round-below : (u : Layout) → Included u v → (ts : List Threshold) → ((t : Threshold) → Memᴰ t ts → Memᴰ t j.thresholds) → Included (among (asked_nodes u ts)) v
  unfolding asked_nodes among
  round-below u b [] s n h = absurd (clash false h refl)
  round-below u b (t ∷ ts) s n h = by (round-below u b ts (λ x m. s x (Memᴰ.tail m)) n) (asked u t) refl h
    where
      by : (among (asked_nodes u ts) n ≡ true → v n ≡ true) → (x : Bool) → asked u t ≡ x → among (next x t.node (asked_nodes u ts)) n ≡ true → v n ≡ true
      by ih true e k =
          ⊎_elim (λ (q : eqb t.node n ≡ true). ap v (sym (eqb-true t.node n q)) ∙ is t (s t (Memᴰ.head refl)) ∙ asked_rises u v b t e) ih
          (or-true (eqb t.node n) (among (asked_nodes u ts) n) k)
      by ih false e k = ih k

  grown-below : (k : ℕ) (ns : List ℕ) → Included (among ns) v → Included (among (grown k j.thresholds ns)) v
  unfolding grown
  grown-below zero ns b = b
  grown-below (suc k) ns b = by (grown-below k more (round-below (among ns) b j.thresholds (λ t m. m))) (eqb (length more) (length ns))
    where
      more : List ℕ
      more = asked_nodes (among ns) j.thresholds

      by : Included (among (grown k j.thresholds more)) v → (x : Bool) → Included (among (elim x [ true ↦ ns | false ↦ grown k j.thresholds more ])) v
      by ih true = b
      by ih false = ih

  pub least_below : Included (least_layout j) v
  unfolding among
  least_below = grown-below _ [] (λ n h. absurd (clash false h refl))
