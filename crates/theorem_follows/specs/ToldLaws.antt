-- RULE 1 STAYS DONE: a drained guard's bound is in its row, and whatever comes later keeps it there.
use Rattle.std.specs.Prelude.{ℕ, zero, suc, ◌<◌, ◌≡◌, refl, Bool, ◌||◌, ◌⊎◌, ◌≢◌, length, get_or, ℤ, ◌≤ℤ◌, Option, None, Some}
use Rattle.std.proofs.Common.{not-suc-le-zero, le_of_suc-le-suc, arith, sym, ap, ◌∙◌, subst, inl, inr, ⊎_elim}
use Rattle.std.proofs.Math.Bool as B
use Rattle.std.proofs.Math.Bool.{true, false}
use mathlib.Core.List.{List, [], ◌∷◌, Memᴰ}
use Rattle.std.specs.Int.Signed.{≤ℤ_refl}
use Rattle.base.specs.TestLaws.{true-false, clash}
use Rattle.numeric.specs.Threshold.{Term, Threshold, Job}
use Rattle.row.specs.Terms.{same_terms}
use Rattle.state.specs.declared.Step.TheVariants.{Unchanged}
use Rattle.state.specs.declared.State.{State}
use Rattle.state.specs.State.{upper_at_most, with_lower, with_upper}
use Rattle.words.specs.Mask.{bit}
use Rattle.queues.specs.Marks.{is_decided}
use Rattle.rows.specs.Rows.{Row, row_of, no_row, Guard, guard, insert_guard, place, place_all, rows_of, row_number}
use Rattle.rows.specs.ListsLaws.{same_refl}
use Rattle.tightening.specs.Told.{Tightened, guard_state}
use Rattle.tightening.specs.ToldLaws.{guard-cases}
use Rattle.row_moves.specs.Between.{Index, Live, state_at, Did, did, threshold_guard}
use Rattle.row_moves.specs.WalkLaws.{guard-ends}
use Rattle.row_moves.specs.Handing.{guard_told, guard_run}
use Rattle.theorem_table.specs.Table.{Table, Guards}
use Rattle.theorem_table.specs.OrderLaws.{le, ≤ℤ_trans, UpLe, up_refl, up_trans}
use Rattle.theorem_table.proofs.TableLaws.{Le}
use Rattle.theorem_table.proofs.LayoutLaws.{row_made}
use Rattle.theorem_follows.specs.StandsLaws.{table_at, also, also_which, Apart, Stands, restart}
use Rattle.queues.proofs.StayLaws.{Stay, stay_decided}
use Rattle.theorem_follows.specs.BoundsLaws.{SameBounds, put_here}
use Rattle.theorem_follows.specs.MovesLaws.{guard_stands}

-- The guards of the nodes that are told: a sure one's bound is at most its row's lower, a never one's at least its upper.
pub record Told (rows : List Row) (told : ℕ → Bool) (v : Live) : Type 0 where
  pub decided : (n : ℕ) → told n ≡ true → is_decided v.marks n ≡ true
  pub sure : (r : ℕ) (g : Guard) → Guards rows r g → told g.node ≡ true → bit v.marks.sure g.node ≡ true → g.bound ≤ℤ (state_at v r).lower
  pub never : (r : ℕ) (g : Guard) → Guards rows r g → told g.node ≡ true → bit v.marks.never g.node ≡ true → UpLe (state_at v r).upper (Some g.bound)

-- MORE DECIDED AND MASKS APART: decided nodes keep their value
pub later_stay : (v w : Live) → Le (table_at v) (table_at w) → Apart w.marks → Stay v.marks w.marks
later_stay v w l apart n d true = by (true-false (bit v.marks.sure n))
  where
    by : (bit v.marks.sure n ≡ true) ⊎ (bit v.marks.sure n ≡ false) → bit w.marks.sure n ≡ bit v.marks.sure n
    by (inl e) = l.sure n e ∙ sym e
    by (inr e) =
        ⊎_elim (λ (k : bit w.marks.sure n ≡ true). absurd (apart n k (l.never n (ap (λ (b : Bool). b || bit v.marks.never n) (sym e) ∙ d)))) (λ k. k ∙ sym e) (true-false (bit w.marks.sure n))
later_stay v w l apart n d false = by (true-false (bit v.marks.never n))
  where
    by : (bit v.marks.never n ≡ true) ⊎ (bit v.marks.never n ≡ false) → bit w.marks.never n ≡ bit v.marks.never n
    by (inl e) = l.never n e ∙ sym e
    by (inr e) =
        let s : bit v.marks.sure n ≡ true = sym (B.or-false (bit v.marks.sure n)) ∙ ap (λ (b : Bool). bit v.marks.sure n || b) (sym e) ∙ d in
        ⊎_elim (λ (k : bit w.marks.never n ≡ true). absurd (apart n (l.sure n s) k)) (λ k. k ∙ sym e) (true-false (bit w.marks.never n))

-- WHAT IS TOLD STAYS TOLD, whatever else follows
pub told_stays : (rows : List Row) (told : ℕ → Bool) (drained : ℕ → ℕ → Bool) (v w : Live) → Stands rows (table_at v) drained w → Told rows told v → Told rows told w
told_stays rows told drained v w h t = record {
  decided = λ n e. stay_decided v.marks w.marks stay n (t.decided n e);
  sure = λ r g i e s. ≤ℤ_trans (t.sure r g i e (sym (stay g.node (t.decided g.node e) true) ∙ s)) (h.above.lower r);
  never = λ r g i e s. up_trans (state_at w r).upper (state_at v r).upper (Some g.bound) (h.above.upper r) (t.never r g i e (sym (stay g.node (t.decided g.node e) false) ∙ s));
}
  where
    stay : Stay v.marks w.marks
    stay = later_stay v w h.above h.apart

-- a node that is no guard has nothing to tell
pub told_none : (rows : List Row) (told : ℕ → Bool) (v : Live) (n : ℕ) → is_decided v.marks n ≡ true → ((r : ℕ) (g : Guard) → Guards rows r g → g.node ≢ n)
    → Told rows told v → Told rows (also n told) v
told_none rows told v n d none t = record {
  decided = λ m e. ⊎_elim (λ (q : m ≡ n). subst (λ (i : ℕ). is_decided v.marks i ≡ true) (sym q) d) (λ q. t.decided m q) (also_which n told m e);
  sure = λ r g i e s. ⊎_elim (λ (q : g.node ≡ n). absurd (none r g i q)) (λ q. t.sure r g i q s) (also_which n told g.node e);
  never = λ r g i e s. ⊎_elim (λ (q : g.node ≡ n). absurd (none r g i q)) (λ q. t.never r g i q s) (also_which n told g.node e);
}

-- No node guards twice.
abbrev pub Single : List Row → Type 0
Single rows = (r q : ℕ) (g h : Guard) → Guards rows r g → Guards rows q h → g.node ≡ h.node → (r ≡ q) × (g ≡ h)

-- What a guard tells is nothing new, or the row has it then.
at_most : (b : ℤ) (y : Option ℤ) → upper_at_most y b ≡ true → UpLe y (Some b)
at_most b None e = absurd (clash false e refl)
at_most b (Some z) e = le e

module _ (st : State) (b : ℤ) (value : Bool) where
  guard-same : (guard_state st value b).changed ≡ false → (guard_state st value b).state ≡ st
  guard-same = guard-cases st value b (λ (o : Tightened). o.changed ≡ false → o.state ≡ st) (λ e c. refl) (λ e f c. absurd (clash true refl c)) (λ e f c. absurd (clash true refl c))

  guard-has : (value ≡ true → b ≤ℤ (guard_state st value b).state.lower) × (value ≡ false → UpLe (guard_state st value b).state.upper (Some b))
  unfolding with_lower with_upper
  guard-has = guard-cases st value b (λ (o : Tightened). (value ≡ true → b ≤ℤ o.state.lower) × (value ≡ false → UpLe o.state.upper (Some b)))
      (λ e. ((λ f. le (e.0 f)), λ f. at_most b st.upper (e.1 f))) (λ e f. ((λ _. ≤ℤ_refl b), λ k. absurd (clash value e k))) (λ e f. ((λ k. absurd (clash value k e)), λ _. up_refl (Some b)))

module _ (x : Index) (drained : ℕ → ℕ → Bool) (s : Table) (v : Live) (t : Threshold) (is : Guards x.rows (row_number x.rows t.terms) (guard t.bound t.node))
    (d : is_decided v.marks t.node ≡ true) (h : Stands x.rows s drained v) where
  abbrev number : ℕ
  number = row_number x.rows t.terms

  abbrev after : Live
  after = (threshold_guard x v t).live

  kept : Stands x.rows (table_at v) drained after
  kept = (guard_stands x drained (table_at v) v t is d (restart x.rows s drained v h)).0

  -- the bound is in the row
  guard_tells : (bit v.marks.sure t.node ≡ true → t.bound ≤ℤ (state_at after number).lower) × (bit v.marks.sure t.node ≡ false → UpLe (state_at after number).upper (Some t.bound))
  guard_tells = guard-ends x v t Tells (λ e. from (did v Unchanged) (same-as (state_at v number) (guard-same (state_at v number) t.bound (bit v.marks.sure t.node) e)))
      (λ e. from (guard_run x v t) (put_here x v number room (guard_told x v t).state _ _))
    where
      room : number < length v.states
      room = let z = h.sized in let k = is.0 in omega arith

      Tells : Did → Type 0
      Tells d = (bit v.marks.sure t.node ≡ true → t.bound ≤ℤ (state_at d.live number).lower) × (bit v.marks.sure t.node ≡ false → UpLe (state_at d.live number).upper (Some t.bound))

      same-as : (st : State) → (guard_told x v t).state ≡ st → SameBounds st (guard_told x v t).state
      same-as st e = record { lower = ap (λ (y : State). y.lower) (sym e); upper = ap (λ (y : State). y.upper) (sym e) }

      from : (d : Did) → SameBounds (state_at d.live number) (guard_told x v t).state → Tells d
      from d k =
          let o = guard-has (state_at v number) t.bound (bit v.marks.sure t.node) in
          ((λ e. subst (λ (z : ℤ). t.bound ≤ℤ z) (sym k.lower) (o.0 e)), λ e. subst (λ (z : Option ℤ). UpLe z (Some t.bound)) (sym k.upper) (o.1 e))

  -- A DRAINED GUARD IS TOLD
  pub guard_told_lem : (told : ℕ → Bool) → Single x.rows → Told x.rows told v → Told x.rows (also t.node told) after
  guard_told_lem told single k = record {
    decided = λ m e. ⊎_elim (λ (q : m ≡ t.node). subst (λ (i : ℕ). is_decided after.marks i ≡ true) (sym q) (stay_decided v.marks after.marks stay t.node d)) (λ q. old.decided m q) (also_which t.node told m e);
    sure = λ r g i e a. ⊎_elim
        (λ (q : g.node ≡ t.node).
        let o = single r number g (guard t.bound t.node) i is q in
        let b : bit v.marks.sure t.node ≡ true = sym (stay t.node d true) ∙ subst (λ (m : ℕ). bit after.marks.sure m ≡ true) q a in
        subst (λ (y : ℕ). g.bound ≤ℤ (state_at after y).lower) (sym o.0) (subst (λ (y : Guard). y.bound ≤ℤ (state_at after number).lower) (sym o.1) (guard_tells.0 b)))
        (λ q. old.sure r g i q a) (also_which t.node told g.node e);
    never = λ r g i e a. ⊎_elim
        (λ (q : g.node ≡ t.node).
        let o = single r number g (guard t.bound t.node) i is q in
        let b : bit v.marks.never t.node ≡ true = sym (stay t.node d false) ∙ subst (λ (m : ℕ). bit after.marks.never m ≡ true) q a in
        let f : bit v.marks.sure t.node ≡ false = ⊎_elim (λ (c : bit v.marks.sure t.node ≡ true). absurd (h.apart t.node c b)) (λ c. c) (true-false (bit v.marks.sure t.node)) in
        subst (λ (y : ℕ). UpLe (state_at after y).upper (Some g.bound)) (sym o.0) (subst (λ (y : Guard). UpLe (state_at after number).upper (Some y.bound)) (sym o.1) (guard_tells.1 f)))
        (λ q. old.never r g i q a) (also_which t.node told g.node e);
  }
    where
      stay : Stay v.marks after.marks
      stay = later_stay v after kept.above kept.apart

      old : Told x.rows told after
      old = told_stays x.rows told drained v after kept k

-- ROWS HAVE DIFFERENT RAW LISTS, so a threshold whose node no other has guards one row once

abbrev AllDiffer : List Term → List Row → Type 0
AllDiffer raw [] = Unit {0}
AllDiffer raw (q ∷ qs) = (same_terms raw q.raw ≡ false) × AllDiffer raw qs

abbrev Own : List Row → Type 0
Own [] = Unit {0}
Own (r ∷ rs) = AllDiffer r.raw rs × Own rs

differ_place : (raw : List Term) (t : Threshold) (rs : List Row) → same_terms raw t.terms ≡ false → AllDiffer raw rs → AllDiffer raw (place t rs)
unfolding place
differ_place raw t [] e h = (e, tt)
differ_place raw t (q ∷ qs) e h = by (λ k. differ_place raw t qs e k) (same_terms q.raw t.terms)
  where
    by : (AllDiffer raw qs → AllDiffer raw (place t qs)) → (b : Bool) → AllDiffer raw (elim b [ true ↦ row_of q.raw q.terms (insert_guard (guard t.bound t.node) q.guards) ∷ qs | false ↦ q ∷ place t qs ])
    by ih true = h
    by ih false = (h.0, ih h.1)

own_place : (t : Threshold) (rs : List Row) → Own rs → Own (place t rs)
unfolding place
own_place t [] h = (tt, tt)
own_place t (r ∷ rs) h = by (λ k. own_place t rs k) (same_terms r.raw t.terms) refl
  where
    by : (Own rs → Own (place t rs)) → (b : Bool) → same_terms r.raw t.terms ≡ b
        → Own (elim b [ true ↦ row_of r.raw r.terms (insert_guard (guard t.bound t.node) r.guards) ∷ rs | false ↦ r ∷ place t rs ])
    by ih true e = h
    by ih false e = (differ_place r.raw t rs e h.0, ih h.1)

own_all : (ts : List Threshold) (rs : List Row) → Own rs → Own (place_all ts rs)
unfolding place_all
own_all [] rs h = h
own_all (t ∷ ts) rs h = own_all ts (place t rs) (own_place t rs h)

differ_at : (raw : List Term) (rs : List Row) (k : ℕ) → AllDiffer raw rs → k < length rs → same_terms raw (get_or rs k no_row).raw ≡ false
differ_at raw [] k h i = absurd (not-suc-le-zero i)
differ_at raw (q ∷ qs) zero h i = h.0
differ_at raw (q ∷ qs) (suc k) h i = differ_at raw qs k h.1 (le_of_suc-le-suc i)

own_number : (rs : List Row) (k : ℕ) → Own rs → k < length rs → row_number rs (get_or rs k no_row).raw ≡ k
unfolding row_number
own_number [] k h i = absurd (not-suc-le-zero i)
own_number (r ∷ rs) zero h i = rw (same_refl r.raw, row_number)
own_number (r ∷ rs) (suc k) h i = let e = own_number rs k h.1 (le_of_suc-le-suc i) in rw (differ_at r.raw rs k h.0 (le_of_suc-le-suc i), row_number) (omega arith)

-- NO NODE GUARDS TWICE where no two thresholds have one node
pub rows_single : (j : Job) → ((t u : Threshold) → Memᴰ t j.thresholds → Memᴰ u j.thresholds → t.node ≡ u.node → t ≡ u) → Single (rows_of j)
rows_single j unique r q g h a b e =
    let own = own_all j.thresholds [] tt in
    let m = (row_made j r a.0).guards g a.1 in
    let n = (row_made j q b.0).guards h b.1 in
    let same = unique m.0 n.0 m.1 n.1 (ap (λ (y : Guard). y.node) (sym m.3) ∙ e ∙ ap (λ (y : Guard). y.node) n.3) in
    let raws : (get_or (rows_of j) r no_row).raw ≡ (get_or (rows_of j) q no_row).raw = sym m.2 ∙ ap (λ (y : Threshold). y.terms) same ∙ n.2 in (
      sym (own_number (rows_of j) r own a.0) ∙ ap (row_number (rows_of j)) raws ∙ own_number (rows_of j) q own b.0,
      m.3 ∙ ap (λ (y : Threshold). guard y.bound y.node) same ∙ sym n.3,
    )
