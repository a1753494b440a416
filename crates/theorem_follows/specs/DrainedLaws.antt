-- A DRAINED CONDITION keeps the invariant of Stands: its weight is added to known or taken from possible once in each row in which it
-- stands, and each of these rows is run. After it the node counts as drained in every row.
use Rattle.std.specs.Prelude.{ℕ, ◌+◌, ◌≤◌, ◌<◌, ◌≡◌, Bool, not, ◌&&◌, ◌||◌, ◌⊎◌, ◌≢◌, length, eqb, ℤ, ◌+ℤ◌, ◌-ℤ◌, ◌≤ℤ◌, Option}
use Rattle.std.proofs.Math.Decide.{ℕ_discrete}
use native.Mathlib.Omega.{arith}
use Rattle.std.proofs.Math.Path.{refl, ap, subst}
use Rattle.std.proofs.Common.{sym, ap₂, ◌∙◌, inl, inr, length-set, eq-eqb, ne_eqb}
use Rattle.std.proofs.Math.Bool as B
use Rattle.std.proofs.Math.Bool.{true, false, cond}
use mathlib.Core.List.Memᴰ
use mathlib.Core.List.{List, [], ◌∷◌, Memᴰ}
use Rattle.std.proofs.Math.Logic.{⊎_elim}
use Rattle.std.proofs.Math.IntN.{pos, pos-+ℤ-pos}
use Rattle.std.specs.Int.Signed.{≤ℤ_refl}
use Rattle.base.specs.AllLaws.{all_each}
use Rattle.base.specs.TestLaws.{true-false, clash}
use Rattle.base.specs.SignedLaws.{pos_minus}
use Rattle.numeric.specs.Threshold.{Term, term}
use Rattle.state.specs.declared.State.{State}
use Rattle.state.specs.Step.{contradicts}
use Rattle.state.specs.State.{drained, with_known, with_possible}
use Rattle.words.specs.Mask.{bit}
use Rattle.queues.specs.Marks.{is_decided}
use Rattle.row.specs.TermsLaws.{Distinct}
use Rattle.rows.specs.Rows.{Row, Edge, edges_of}
use Rattle.row_moves.specs.Between.{Index, Live, state_at, with_state, Did, run_row, condition_from, threshold_condition}
use Rattle.row_moves.specs.LoopLaws.{drained_lower, drained_upper, condition_walk}
use Rattle.row_moves.specs.Handing.{edge_run}
use Rattle.row_moves.specs.WalkLaws.{walks}
use Rattle.theorem_table.specs.Table.{Table, IsRow, terms_of, known, possible}
use Rattle.theorem_table.specs.OrderLaws.{UpLe, up_refl}
use Rattle.theorem_table.proofs.TableLaws.{le_then}
use Rattle.theorem_follows.specs.DecideLaws.{Broken}
use Rattle.theorem_follows.specs.StandsLaws.{table_at, among, also, Stands, known_same, possible_same, put_state, restart}
use Rattle.theorem_follows.specs.MovesLaws.{Kept, run_stands}
use Rattle.theorem_follows.specs.EdgesLaws.{leads_to, OnceEach, leads_not, leads_here, leads_other, edge-term, term-edge, edges_once}

-- ONE TERM of a row whose conditions are distinct, counted now and not before
module _ (f g : ℕ → Bool) (t : Term) (off : f t.condition ≡ false) (on : g t.condition ≡ true) (same : (n : ℕ) → n ≢ t.condition → g n ≡ f n) where
  known-one : (ts : List Term) → Distinct ts → Memᴰ t ts → known g ts ≡ known f ts + t.weight
  unfolding known
  known-one [] d m = absurd (Memᴰ.not-nil m)
  known-one (x ∷ xs) d m = by (λ k. known-one xs d.1 k) (Memᴰ.cases_cons m)
    where
      by : (Memᴰ t xs → known g xs ≡ known f xs + t.weight) → (t ≡ x) ⊎ Memᴰ t xs
          → cond (g x.condition) x.weight 0 + known g xs ≡ cond (f x.condition) x.weight 0 + known f xs + t.weight
      by ih (inl e) =
          let a : cond (g x.condition) x.weight 0 ≡ x.weight = ap (λ (b : Bool). cond b x.weight 0) (ap (λ (y : Term). g y.condition) (sym e) ∙ on) in
          let b : cond (f x.condition) x.weight 0 ≡ 0 = ap (λ (b : Bool). cond b x.weight 0) (ap (λ (y : Term). f y.condition) (sym e) ∙ off) in
          let w : t.weight ≡ x.weight = ap (λ (y : Term). y.weight) e in
          let r : known g xs ≡ known f xs = known_same g f xs (λ u k. same u.condition (λ q. all_each (λ (y : Term). y.condition ≢ x.condition) xs d.0 u k (q ∙ ap (λ (y : Term). y.condition) e))) in
          omega arith
      by ih (inr k) =
          let a : cond (g x.condition) x.weight 0 ≡ cond (f x.condition) x.weight 0 =
          ap (λ (b : Bool). cond b x.weight 0) (same x.condition (λ q. all_each (λ (y : Term). y.condition ≢ x.condition) xs d.0 t k (sym q))) in
          let r = ih k in
          omega arith

  possible-one : (ts : List Term) → Distinct ts → Memᴰ t ts → possible g ts + t.weight ≡ possible f ts
  unfolding possible
  possible-one [] d m = absurd (Memᴰ.not-nil m)
  possible-one (x ∷ xs) d m = by (λ k. possible-one xs d.1 k) (Memᴰ.cases_cons m)
    where
      by : (Memᴰ t xs → possible g xs + t.weight ≡ possible f xs) → (t ≡ x) ⊎ Memᴰ t xs
          → cond (g x.condition) 0 x.weight + possible g xs + t.weight ≡ cond (f x.condition) 0 x.weight + possible f xs
      by ih (inl e) =
          let a : cond (g x.condition) 0 x.weight ≡ 0 = ap (λ (b : Bool). cond b 0 x.weight) (ap (λ (y : Term). g y.condition) (sym e) ∙ on) in
          let b : cond (f x.condition) 0 x.weight ≡ x.weight = ap (λ (b : Bool). cond b 0 x.weight) (ap (λ (y : Term). f y.condition) (sym e) ∙ off) in
          let w : t.weight ≡ x.weight = ap (λ (y : Term). y.weight) e in
          let r : possible g xs ≡ possible f xs = possible_same g f xs (λ u k. same u.condition (λ q. all_each (λ (y : Term). y.condition ≢ x.condition) xs d.0 u k (q ∙ ap (λ (y : Term). y.condition) e))) in
          omega arith
      by ih (inr k) =
          let a : cond (g x.condition) 0 x.weight ≡ cond (f x.condition) 0 x.weight =
          ap (λ (b : Bool). cond b 0 x.weight) (same x.condition (λ q. all_each (λ (y : Term). y.condition ≢ x.condition) xs d.0 t k (sym q))) in
          let r = ih k in
          omega arith

-- ONE ROW, ONE NODE: decided, not drained into the row before, and drained into it now
module _ (rows : List Row) (s : Table) (before now : ℕ → ℕ → Bool) (v : Live) (h : Stands rows s before v) (r c w : ℕ) (is : IsRow rows r)
    (there : Memᴰ (term c w) (terms_of rows r)) (distinct : Distinct (terms_of rows r)) (done : is_decided v.marks c ≡ true)
    (fresh : before r c ≡ false) (new : now r c ≡ true) (rest : (n : ℕ) → n ≢ c → now r n ≡ before r n) (others : (q n : ℕ) → q ≢ r → now q n ≡ before q n) where
  abbrev value : Bool
  value = bit v.marks.sure c

  abbrev st : State
  st = drained value w (state_at v r)

  room : r < length v.states
  room = let z = h.sized in omega arith

  among-fresh : (m : List ℕ) → among (before r) m c ≡ false
  among-fresh m = ap (λ (b : Bool). b && bit m c) fresh

  among-new : (m : List ℕ) → bit m c ≡ true → among (now r) m c ≡ true
  among-new m e = ap₂ (λ (a b : Bool). a && b) new e

  among-rest : (m : List ℕ) (n : ℕ) → n ≢ c → among (now r) m n ≡ among (before r) m n
  among-rest m n e = ap (λ (b : Bool). b && bit m n) (rest n e)

  -- a mask without the node counts as it did
  among_none : (m : List ℕ) → bit m c ≡ false → (n : ℕ) → among (before r) m n ≡ among (now r) m n
  among_none m e n = by (ℕ_discrete n c)
    where
      by : Dec (n ≡ c) → among (before r) m n ≡ among (now r) m n
      by (yes q) = subst (λ (i : ℕ). among (before r) m i ≡ among (now r) m i) (sym q) (among-fresh m ∙ sym (ap₂ (λ (a b : Bool). a && b) new e))
      by (no q) = sym (among-rest m n q)

  now-known : st.known ≡ pos (known (among (now r) v.marks.sure) (terms_of rows r))
  unfolding drained with_known with_possible
  now-known = by (bit v.marks.sure c) refl
    where
      by : (b : Bool) → bit v.marks.sure c ≡ b → (drained b w (state_at v r)).known ≡ pos (known (among (now r) v.marks.sure) (terms_of rows r))
      by true e =
          ap (λ (z : ℤ). z +ℤ pos w) (h.known r is) ∙ pos-+ℤ-pos (known (among (before r) v.marks.sure) (terms_of rows r)) w
          ∙ ap pos (sym (known-one (among (before r) v.marks.sure) (among (now r) v.marks.sure) (term c w) (among-fresh v.marks.sure) (among-new v.marks.sure e)
          (among-rest v.marks.sure) (terms_of rows r) distinct there))
      by false e = h.known r is ∙ ap pos (known_same _ _ (terms_of rows r) (λ t i. among_none v.marks.sure e t.condition))

  now-possible : st.possible ≡ pos (possible (among (now r) v.marks.never) (terms_of rows r))
  unfolding drained with_known with_possible
  now-possible = by (bit v.marks.sure c) refl
    where
      not-never : bit v.marks.sure c ≡ true → bit v.marks.never c ≡ false
      not-never e = ⊎_elim (λ (k : bit v.marks.never c ≡ true). absurd (h.apart c e k)) (λ k. k) (true-false (bit v.marks.never c))

      by : (b : Bool) → bit v.marks.sure c ≡ b → (drained b w (state_at v r)).possible ≡ pos (possible (among (now r) v.marks.never) (terms_of rows r))
      by true e = h.possible r is ∙ ap pos (possible_same _ _ (terms_of rows r) (λ t i. among_none v.marks.never (not-never e) t.condition))
      by false e =
          let never : bit v.marks.never c ≡ true = ap (λ (b : Bool). b || bit v.marks.never c) (sym e) ∙ done in
          let p = possible-one (among (before r) v.marks.never) (among (now r) v.marks.never) (term c w) (among-fresh v.marks.never) (among-new v.marks.never never)
          (among-rest v.marks.never) (terms_of rows r) distinct there in
          ap (λ (z : ℤ). z -ℤ pos w) (h.possible r is) ∙ pos_minus (possible (among (before r) v.marks.never) (terms_of rows r)) w (omega arith) ∙ ap pos (omega arith)

  pub drain_stands : Stands rows s now (with_state v r st)
  drain_stands = record {
    sized = subst (λ (n : ℕ). length rows ≤ n) (sym (length-set v.states r st)) h.sized;
    above = le_then s (table_at v) (table_at (with_state v r st)) h.above (record {
      sure = λ n e. e;
      never = λ n e. e;
      lower = put_state (λ (k : ℕ) (t : State). (state_at v k).lower ≤ℤ t.lower) v.states r st room
          (subst (λ (z : ℤ). (state_at v r).lower ≤ℤ z) (sym (drained_lower value w (state_at v r))) (≤ℤ_refl (state_at v r).lower)) (λ k e. ≤ℤ_refl (state_at v k).lower);
      upper = put_state (λ (k : ℕ) (t : State). UpLe t.upper (state_at v k).upper) v.states r st room
          (subst (λ (z : Option ℤ). UpLe z (state_at v r).upper) (sym (drained_upper value w (state_at v r))) (up_refl (state_at v r).upper)) (λ k e. up_refl (state_at v k).upper);
    });
    follows = λ u a still. let f = h.follows u a still in record {
      sure = f.sure;
      never = f.never;
      lower = put_state (λ (k : ℕ) (t : State). t.lower ≤ℤ u.lower k) v.states r st room
          (subst (λ (z : ℤ). z ≤ℤ u.lower r) (sym (drained_lower value w (state_at v r))) (f.lower r)) (λ k e. f.lower k);
      upper = put_state (λ (k : ℕ) (t : State). UpLe (u.upper k) t.upper) v.states r st room
          (subst (λ (z : Option ℤ). UpLe (u.upper r) z) (sym (drained_upper value w (state_at v r))) (f.upper r)) (λ k e. f.upper k);
    };
    apart = h.apart;
    decided = λ q n e. was q n e (ℕ_discrete q r) (ℕ_discrete n c);
    known = put_state (λ (k : ℕ) (t : State). IsRow rows k → t.known ≡ pos (known (among (now k) v.marks.sure) (terms_of rows k))) v.states r st room (λ i. now-known)
        (λ k e i. h.known k i ∙ ap pos (known_same _ _ (terms_of rows k) (λ t j. ap (λ (b : Bool). b && bit v.marks.sure t.condition) (sym (others k t.condition e)))));
    possible = put_state (λ (k : ℕ) (t : State). IsRow rows k → t.possible ≡ pos (possible (among (now k) v.marks.never) (terms_of rows k))) v.states r st room (λ i. now-possible)
        (λ k e i. h.possible k i ∙ ap pos (possible_same _ _ (terms_of rows k) (λ t j. ap (λ (b : Bool). b && bit v.marks.never t.condition) (sym (others k t.condition e)))));
  }
    where
      was : (q n : ℕ) → now q n ≡ true → Dec (q ≡ r) → Dec (n ≡ c) → is_decided v.marks n ≡ true
      was q n e (no k) d = h.decided q n (sym (others q n k) ∙ e)
      was q n e (yes k) (yes d) = subst (λ (i : ℕ). is_decided v.marks i ≡ true) (sym d) done
      was q n e (yes k) (no d) = h.decided r n (sym (rest n d) ∙ subst (λ (i : ℕ). now i n ≡ true) k e)

-- The same sums over the terms of each row: only they matter.
pub stands_by : (rows : List Row) (s : Table) (before now : ℕ → ℕ → Bool) (v : Live) → Stands rows s before v
    → ((r n : ℕ) → now r n ≡ true → is_decided v.marks n ≡ true) → ((r : ℕ) (t : Term) → IsRow rows r → Memᴰ t (terms_of rows r) → before r t.condition ≡ now r t.condition)
    → Stands rows s now v
stands_by rows s before now v h d e = record {
  sized = h.sized;
  above = h.above;
  follows = h.follows;
  apart = h.apart;
  decided = d;
  known = λ r i. h.known r i ∙ ap pos (known_same _ _ (terms_of rows r) (λ t m. ap (λ (b : Bool). b && bit v.marks.sure t.condition) (e r t i m)));
  possible = λ r i. h.possible r i ∙ ap pos (possible_same _ _ (terms_of rows r) (λ t m. ap (λ (b : Bool). b && bit v.marks.never t.condition) (e r t i m)));
}

-- THE NODE IS DRAINED into every row but those to which an edge is left.
abbrev pub drained_but : ℕ → List Edge → (ℕ → ℕ → Bool) → ℕ → ℕ → Bool
drained_but c es into r n = cond (eqb n c) (not (leads_to r es)) (into r n)

-- The node is drained into every row.
abbrev pub drained_all : ℕ → (ℕ → ℕ → Bool) → ℕ → ℕ → Bool
drained_all c into r = also c (into r)

module _ (x : Index) (s : Table) where
  -- What a drained condition keeps: all that is decided follows, whether it contradicts or not; if not, the node is drained everywhere.
  pub record Drains (now : ℕ → ℕ → Bool) (d : Did) : Type 0 where
    pub stands : (some : ℕ → ℕ → Bool) × Stands x.rows s some d.live
    pub everywhere : contradicts d.step ≡ false → Stands x.rows s now d.live
    pub broken : contradicts d.step ≡ true → Broken x.rows s

  module _ (into : ℕ → ℕ → Bool) (c : ℕ) (distinct : (r : ℕ) → IsRow x.rows r → Distinct (terms_of x.rows r)) where
    -- an edge drained, and its row run
    module _ (value : Bool) (e : Edge) (es : List Edge) (is : IsRow x.rows e.row × Memᴰ (term c e.weight) (terms_of x.rows e.row))
        (once : (f : Edge) → Memᴰ f es → f.row ≢ e.row) (v : Live) (has : bit v.marks.sure c ≡ value) (done : is_decided v.marks c ≡ true) where
      abbrev stepped : Live
      stepped = with_state v e.row (drained value e.weight (state_at v e.row))

      abbrev ran : Did
      ran = run_row x stepped e.row

      edge-stands : (u : Table) → Stands x.rows u (drained_but c (e ∷ es) into) v → Stands x.rows u (drained_but c es into) stepped
      edge-stands u h =
          subst (λ (b : Bool). Stands x.rows u (drained_but c es into) (with_state v e.row (drained b e.weight (state_at v e.row)))) has
          (drain_stands x.rows u (drained_but c (e ∷ es) into) (drained_but c es into) v h e.row c e.weight is.0 is.1 (distinct e.row is.0) done
          (ap₂ (λ (a b : Bool). cond a (not b) (into e.row c)) (eq-eqb c c refl) (leads_here e es))
          (ap₂ (λ (a b : Bool). cond a (not b) (into e.row c)) (eq-eqb c c refl) (leads_not e.row es once))
          (λ n q. ap (λ (a : Bool). cond a (not (leads_to e.row es)) (into e.row n)) (ne_eqb n c q)
          ∙ sym (ap (λ (a : Bool). cond a (not (leads_to e.row (e ∷ es))) (into e.row n)) (ne_eqb n c q)))
          (λ r n q. ap (λ (b : Bool). cond (eqb n c) (not b) (into r n)) (sym (leads_other r e es q))))

      one : (u : Table) → Stands x.rows u (drained_but c (e ∷ es) into) v → Kept x (drained_but c es into) u ran
      one u h = run_stands x (drained_but c es into) u stepped e.row is.0 (edge-stands u h)

      -- the node keeps its value
      value_stays : (u : Table) → Stands x.rows u (drained_but c (e ∷ es) into) v → (bit ran.live.marks.sure c ≡ value) × (is_decided ran.live.marks c ≡ true)
      value_stays u h = by (true-false (bit v.marks.sure c))
        where
          k : Stands x.rows (table_at stepped) (drained_but c es into) ran.live
          k = (run_stands x (drained_but c es into) (table_at stepped) stepped e.row is.0 (restart x.rows u (drained_but c es into) stepped (edge-stands u h))).0

          by : (bit v.marks.sure c ≡ true) ⊎ (bit v.marks.sure c ≡ false) → (bit ran.live.marks.sure c ≡ value) × (is_decided ran.live.marks c ≡ true)
          by (inl t) = let g = k.above.sure c t in (g ∙ sym t ∙ has, ap (λ (b : Bool). b || bit ran.live.marks.never c) g)
          by (inr f) =
              let g = k.above.never c (ap (λ (b : Bool). b || bit v.marks.never c) (sym f) ∙ done) in (
                ⊎_elim (λ (t : bit ran.live.marks.sure c ≡ true). absurd (k.apart c t g)) (λ (n : bit ran.live.marks.sure c ≡ false). n ∙ sym f ∙ has) (true-false (bit ran.live.marks.sure c)),
                ap (λ (b : Bool). bit ran.live.marks.sure c || b) g ∙ B.or-true (bit ran.live.marks.sure c),
              )

    -- before each edge: the node has its value, and is drained into every row but those to which an edge is left
    pub record Drain (value : Bool) (es : List Edge) (v : Live) : Type 0 where
      pub once : OnceEach es
      pub has : bit v.marks.sure c ≡ value
      pub done : is_decided v.marks c ≡ true
      pub stands : Stands x.rows s (drained_but c es into) v

    conditions-from : (value : Bool) (all : List Edge) → ((e : Edge) → Memᴰ e all → IsRow x.rows e.row × Memᴰ (term c e.weight) (terms_of x.rows e.row))
        → (v : Live) → Drain value all v → Drains (drained_but c [] into) (condition_from x value all v)
    conditions-from value all are v h =
        walks (condition_walk x value) all (Drain value) (Drains (drained_but c [] into))
        (λ u k f p. record { stands = (drained_but c [] into, p.stands); everywhere = λ _. p.stands; broken = λ q. absurd (clash (contradicts k) q f) })
        (λ e es u m p q. let o = kept e es u m p in record { stands = (drained_but c es into, o.0); everywhere = λ k. absurd (clash _ q k); broken = λ _. o.1 q })
        (λ e es u m p q. let y = value_stays value e es (are e m) p.once.0 u p.has p.done s p.stands in record { once = p.once.1; has = y.0; done = y.1; stands = (kept e es u m p).0 }) v h
      where
        kept : (e : Edge) (es : List Edge) (u : Live) → Memᴰ e all → Drain value (e ∷ es) u → Kept x (drained_but c es into) s (edge_run x value e u)
        kept e es u m p = one value e es (are e m) p.once.0 u p.has p.done s p.stands

    -- A DRAINED CONDITION: a decided node that was not drained before
    pub condition_stands : (v : Live) → is_decided v.marks c ≡ true → ((r : ℕ) → into r c ≡ false) → Stands x.rows s into v → Drains (drained_all c into) (threshold_condition x v c)
    unfolding threshold_condition leads_to
    condition_stands v done fresh h =
        conditions-from (bit v.marks.sure c) (edges_of x.rows c) (edge-term x.rows c) v
        (record {
          once = edges_once x.rows c distinct;
          has = refl;
          done = done;
          stands = stands_by x.rows s into (drained_but c (edges_of x.rows c) into) v h (λ r n e. was r n e (ℕ_discrete n c)) (λ r t i m. same r t i m (ℕ_discrete t.condition c));
        })
      where
        was : (r n : ℕ) → drained_but c (edges_of x.rows c) into r n ≡ true → Dec (n ≡ c) → is_decided v.marks n ≡ true
        was r n e (yes q) = subst (λ (i : ℕ). is_decided v.marks i ≡ true) (sym q) done
        was r n e (no q) = h.decided r n (sym (ap (λ (a : Bool). cond a (not (leads_to r (edges_of x.rows c))) (into r n)) (ne_eqb n c q)) ∙ e)

        same : (r : ℕ) (t : Term) → IsRow x.rows r → Memᴰ t (terms_of x.rows r) → Dec (t.condition ≡ c)
            → into r t.condition ≡ drained_but c (edges_of x.rows c) into r t.condition
        same r t i m (no q) = sym (ap (λ (a : Bool). cond a (not (leads_to r (edges_of x.rows c))) (into r t.condition)) (ne_eqb t.condition c q))
        same r t i m (yes q) =
            ap (into r) q ∙ fresh r
            ∙ sym (ap₂ (λ (a b : Bool). cond a (not b) (into r t.condition)) (eq-eqb t.condition c q) (term-edge x.rows c r t i m q))
