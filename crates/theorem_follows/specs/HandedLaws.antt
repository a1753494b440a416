-- RULE 6 STAYS DONE: each row that does not wait to hand on its bounds has handed them on to all its neighbours; whatever moves a
-- bound later makes its row wait. Where no row waits, rule 6 is done for all rows of which one starts the other.
use Prim.Native.Nat.{ℕ, ◌≤◌, ◌<◌}
use Rattle.std.proofs.Math.Decide.{ℕ_discrete}
use Rattle.std.proofs.Common.{arith, ◌∙◌, ⊎_elim, length-append, get_or-set_same, get_or-set_other, eq-eqb, ne_eqb, eqb-true, le-leb}
use Rattle.std.specs.Prelude.{◌≡◌, true, not, cond, ◌⊎◌, ◌≢◌, length, set, leb, ℤ, ◌≤ℤ◌, Option, None, Some}
use Rattle.std.proofs.Math.Path.{refl, sym, ap, subst}
use Rattle.std.proofs.Math.Bool.{Bool, false}
use mathlib.Core.List.Memᴰ
use mathlib.Core.List.{List, [], ◌∷◌, Memᴰ}
use Rattle.std.proofs.Math.Logic.{inl, inr}
use Rattle.std.proofs.Math.ListN.{get_or, length-set}
use Rattle.std.proofs.Math.Dec.{eqb}
use Rattle.std.specs.Int.Signed.{le_z, lt_z, ≤ℤ_refl}
use Rattle.base.specs.TestLaws.{clash, and_one}
use Rattle.base.specs.SignedLaws.{nlt-le_z}
use Rattle.numeric.specs.Threshold.{Threshold}
use Rattle.state.specs.declared.State.{State}
use Rattle.state.specs.Step.{contradicts}
use Rattle.state.specs.State.{with_lower, with_upper, drained}
use Rattle.words.specs.Mask.{bit}
use Rattle.queues.specs.Queue.{Rows, oldest, queue_row, next_row}
use Rattle.queues.specs.QueueLaws.{row-waits, row_new}
use Rattle.rows.specs.Rows.{Edge, edges_of, row_number}
use Rattle.links.specs.Links.{Link, links, neighbours}
use Rattle.links.proofs.LinksLaws.{link, link_starts, Climbs, stay, up, across, onward, climbs_exactly, downward, upward, joined-neighbours}
use Rattle.tightening.specs.Told.{Tightened, moved_lower, moved_state, under}
use Rattle.tightening.specs.ToldLaws.{lower_cases, upper_cases}
use Rattle.row_moves.specs.Between.{Index, Live, state_at, Did, run_row, run_with, threshold_guard, threshold_condition, term_count, prefixes_from, threshold_prefixes, with_dirty_rows, with_residuals, with_state}
use Rattle.row_moves.specs.LoopLaws.{drained_lower, drained_upper}
use Rattle.row_moves.specs.Handing.{edge_run, moved, moved_run, guard_row, guard_told}
use Rattle.row_moves.specs.WalkLaws.{prefix_fine, guard-ends, condition_keeps}
use Rattle.theorem_table.specs.Table.{Table, IsRow, terms_of, IsPrefix}
use Rattle.theorem_table.specs.OrderLaws.{le, ≤ℤ_trans, UpLe, up_refl, up_trans}
use Rattle.theorem_follows.specs.StandsLaws.{Stands}
use Rattle.theorem_follows.specs.BoundsLaws.{SameBounds, same_bounds, run_bounds, put_here, put_there}
use Rattle.theorem_follows.specs.MovesLaws.{guard_tightens, neighbour_stands, moved_tighter}
use Rattle.theorem_follows.specs.EdgesLaws.{edge-term}

-- The row waits to hand on its bounds.
abbrev pub waiting : Live → ℕ → Bool
waiting v r = eqb (get_or v.dirty.pending r 0) 1

-- The longer of the two rows has at least the shorter's lower, the shorter at most the longer's upper, as far as r can tell q.
abbrev pub HandedOn : Index → Live → ℕ → ℕ → Type 0
HandedOn x v r q = (term_count x r ≤ term_count x q → (state_at v r).lower ≤ℤ (state_at v q).lower) × (term_count x q ≤ term_count x r → UpLe (state_at v q).upper (state_at v r).upper)

-- `but` says which rows are excepted.
pub record Handed (x : Index) (but : ℕ → Bool) (v : Live) : Type 0 where
  pub sized : length x.rows ≤ length v.states
  pub flags : length x.rows ≤ length v.dirty.pending
  pub handed : (r q : ℕ) → Memᴰ q (neighbours r x.links) → but r ≡ false → waiting v r ≡ false → HandedOn x v r q

-- QUEUED ROWS wait
module _ (q : Rows) (r : ℕ) where
  queued-length : length (queue_row q r).pending ≡ length q.pending
  queued-length = by (ℕ_discrete (get_or q.pending r 0) 1)
    where
      by : Dec (get_or q.pending r 0 ≡ 1) → length (queue_row q r).pending ≡ length q.pending
      by (yes e) = ap (λ (z : Rows). length z.pending) (row-waits q r e)
      by (no e) = ap (λ (z : Rows). length z.pending) (row_new q r e) ∙ length-set q.pending r 1

  queued-waits : r < length q.pending → eqb (get_or (queue_row q r).pending r 0) 1 ≡ true
  queued-waits h = by (ℕ_discrete (get_or q.pending r 0) 1)
    where
      by : Dec (get_or q.pending r 0 ≡ 1) → eqb (get_or (queue_row q r).pending r 0) 1 ≡ true
      by (yes e) = ap (λ (z : Rows). eqb (get_or z.pending r 0) 1) (row-waits q r e) ∙ eq-eqb (get_or q.pending r 0) 1 e
      by (no e) = ap (λ (z : Rows). eqb (get_or z.pending r 0) 1) (row_new q r e) ∙ eq-eqb (get_or (set q.pending r 1) r 0) 1 (get_or-set_same q.pending r 1 0 h)

  queued-other : (k : ℕ) → k ≢ r → get_or (queue_row q r).pending k 0 ≡ get_or q.pending k 0
  queued-other k n = by (ℕ_discrete (get_or q.pending r 0) 1)
    where
      by : Dec (get_or q.pending r 0 ≡ 1) → get_or (queue_row q r).pending k 0 ≡ get_or q.pending k 0
      by (yes e) = ap (λ (z : Rows). get_or z.pending k 0) (row-waits q r e)
      by (no e) = ap (λ (z : Rows). get_or z.pending k 0) (row_new q r e) ∙ get_or-set_other q.pending r k 1 0 n

module _ (x : Index) where
  -- what was handed on stays so when the taker's bounds get tighter and the giver's stay
  handed-on : (v w : Live) (r q : ℕ) → SameBounds (state_at w r) (state_at v r) → (state_at v q).lower ≤ℤ (state_at w q).lower → UpLe (state_at w q).upper (state_at v q).upper
      → HandedOn x v r q → HandedOn x w r q
  handed-on v w r q s l u h = (
    λ k. ≤ℤ_trans (subst (λ (z : ℤ). z ≤ℤ (state_at v q).lower) (sym s.lower) (h.0 k)) l,
    λ k. up_trans (state_at w q).upper (state_at v q).upper (state_at w r).upper u (subst (λ (z : Option ℤ). UpLe (state_at v q).upper z) (sym s.upper) (h.1 k)),
  )

  -- ONE STEP: each row has no neighbours, waits, or has its bounds and its flag as before
  AsBefore : Live → Live → ℕ → Type 0
  AsBefore v w r = ((q : ℕ) → Memᴰ q (neighbours r x.links) → ⊥) ⊎ ((waiting w r ≡ true) ⊎ (SameBounds (state_at w r) (state_at v r) × (waiting w r ≡ waiting v r)))

  step-handed : (but : ℕ → Bool) (v w : Live) → length v.states ≡ length w.states → length v.dirty.pending ≡ length w.dirty.pending
      → ((q : ℕ) → ((state_at v q).lower ≤ℤ (state_at w q).lower) × UpLe (state_at w q).upper (state_at v q).upper) → ((r : ℕ) → AsBefore v w r) → Handed x but v → Handed x but w
  unfolding AsBefore
  step-handed but v w a b grown told h = record {
    sized = let z = h.sized in omega arith;
    flags = let z = h.flags in omega arith;
    handed = λ r q m e f. by r q m e f (told r);
  }
    where
      by : (r q : ℕ) → Memᴰ q (neighbours r x.links) → but r ≡ false → waiting w r ≡ false → AsBefore v w r → HandedOn x w r q
      by r q m e f (inl none) = absurd (none q m)
      by r q m e f (inr (inl k)) = absurd (clash (waiting w r) k f)
      by r q m e f (inr (inr k)) = handed-on v w r q k.0 (grown q).0 (grown q).1 (h.handed r q m e (sym k.1 ∙ f))

  -- A ROW RUN
  pub run_handed : (but : ℕ → Bool) (v : Live) (r : ℕ) → IsRow x.rows r → Handed x but v → Handed x but (run_row x v r).live
  unfolding run_row run_with AsBefore
  run_handed but v r i h =
      step-handed but v (run_row x v r).live (sym (length-set v.states r _)) refl
      (λ q. let s = same q in (subst (λ (z : ℤ). (state_at v q).lower ≤ℤ z) (sym s.lower) (≤ℤ_refl (state_at v q).lower), subst (λ (z : Option ℤ). UpLe z (state_at v q).upper) (sym s.upper) (up_refl (state_at v q).upper)))
      (λ q. inr (inr (same q, refl))) h
    where
      same : (q : ℕ) → SameBounds (state_at (run_row x v r).live q) (state_at v q)
      same = run_bounds x v r (let z = h.sized in omega arith)

  -- A STATE PUT ANEW, AND ITS ROW RUN
  module _ (but : ℕ → Bool) (v : Live) (r : ℕ) (st : State) (d q : Rows) (is : IsRow x.rows r) (h : Handed x but v)
      (low : (state_at v r).lower ≤ℤ st.lower) (high : UpLe st.upper (state_at v r).upper) (long : length v.dirty.pending ≡ length d.pending)
      (others : (k : ℕ) → k ≢ r → get_or d.pending k 0 ≡ get_or v.dirty.pending k 0) where
    abbrev ended : Live
    ended = (run_row x (with_residuals (with_dirty_rows (with_state v r st) d) q) r).live

    room : r < length v.states
    room = let z = h.sized in omega arith

    put-grown : (k : ℕ) → ((state_at v k).lower ≤ℤ (state_at ended k).lower) × UpLe (state_at ended k).upper (state_at v k).upper
    put-grown k = by (ℕ_discrete k r)
      where
        by : Dec (k ≡ r) → ((state_at v k).lower ≤ℤ (state_at ended k).lower) × UpLe (state_at ended k).upper (state_at v k).upper
        by (yes e) =
            let s = put_here x v r room st d q in
            subst (λ (i : ℕ). ((state_at v i).lower ≤ℤ (state_at ended i).lower) × UpLe (state_at ended i).upper (state_at v i).upper) (sym e)
            (subst (λ (z : ℤ). (state_at v r).lower ≤ℤ z) (sym s.lower) low, subst (λ (z : Option ℤ). UpLe z (state_at v r).upper) (sym s.upper) high)
        by (no e) =
            let s = put_there x v r room st d q k e in
            (subst (λ (z : ℤ). (state_at v k).lower ≤ℤ z) (sym s.lower) (≤ℤ_refl (state_at v k).lower), subst (λ (z : Option ℤ). UpLe z (state_at v k).upper) (sym s.upper) (up_refl (state_at v k).upper))

    put-run-handed : ((k : ℕ) → Memᴰ k (neighbours r x.links) → ⊥) ⊎ ((eqb (get_or d.pending r 0) 1 ≡ true) ⊎ (SameBounds st (state_at v r) × (get_or d.pending r 0 ≡ get_or v.dirty.pending r 0)))
        → Handed x but ended
    unfolding run_row run_with AsBefore
    put-run-handed here =
        step-handed but v ended (sym (length-set v.states r st) ∙ sym (length-set (set v.states r st) r _)) long put-grown (λ k. by k (ℕ_discrete k r)) h
      where
        at-r : ((k : ℕ) → Memᴰ k (neighbours r x.links) → ⊥) ⊎ ((eqb (get_or d.pending r 0) 1 ≡ true) ⊎ (SameBounds st (state_at v r) × (get_or d.pending r 0 ≡ get_or v.dirty.pending r 0))) → AsBefore v ended r
        at-r (inl none) = inl none
        at-r (inr (inl w)) = inr (inl w)
        at-r (inr (inr k)) =
            let s = put_here x v r room st d q in
            inr (inr (record { lower = s.lower ∙ k.0.lower; upper = s.upper ∙ k.0.upper }, ap (λ (n : ℕ). eqb n 1) k.1))

        by : (k : ℕ) → Dec (k ≡ r) → AsBefore v ended k
        by k (yes e) = subst (AsBefore v ended) (sym e) (at-r here)
        by k (no e) = inr (inr (put_there x v r room st d q k e, ap (λ (n : ℕ). eqb n 1) (others k e)))

  -- A DRAINED GUARD
  pub guard_handed : (but : ℕ → Bool) (v : Live) (t : Threshold) → IsRow x.rows (row_number x.rows t.terms) → Handed x but v → Handed x but (threshold_guard x v t).live
  guard_handed but v t is h = guard-ends x v t (λ (d : Did). Handed x but d.live) (λ e. h) (λ e. at-links (eqb (length (neighbours r x.links)) 0) refl)
    where
      r : ℕ
      r = guard_row x t

      st : State
      st = (guard_told x v t).state

      tighter : ((state_at v r).lower ≤ℤ st.lower) × UpLe st.upper (state_at v r).upper
      tighter = guard_tightens (state_at v r) t.bound (bit v.marks.sure t.node)

      nothing : (l : List ℕ) → length l ≡ 0 → (k : ℕ) → Memᴰ k l → ⊥
      nothing [] e k m = Memᴰ.not-nil m
      nothing (y ∷ ys) e k m = let z : length (y ∷ ys) ≡ 0 = e in omega arith

      at-links : (b : Bool) → eqb (length (neighbours r x.links)) 0 ≡ b
          → Handed x but (run_row x (with_dirty_rows (with_state v r st) (cond b v.dirty (queue_row v.dirty r))) r).live
      at-links true e =
          put-run-handed but v r st v.dirty v.residuals is h tighter.0 tighter.1 refl (λ k n. refl) (inl (nothing (neighbours r x.links) (eqb-true (length (neighbours r x.links)) 0 e)))
      at-links false e =
          put-run-handed but v r st (queue_row v.dirty r) v.residuals is h tighter.0 tighter.1 (sym (queued-length v.dirty r)) (queued-other v.dirty r)
          (inr (inl (queued-waits v.dirty r (let z = h.flags in let y : r < length x.rows = is in omega arith))))

  -- A DRAINED CONDITION moves no bound
  pub condition_handed : (but : ℕ → Bool) (v : Live) (n : ℕ) → Handed x but v → Handed x but (threshold_condition x v n).live
  unfolding threshold_condition
  condition_handed but v n h = condition_keeps x (Handed x but) value (edges_of x.rows n) one v h
    where
      value : Bool
      value = bit v.marks.sure n

      one : (e : Edge) (u : Live) → Memᴰ e (edges_of x.rows n) → Handed x but u → Handed x but (edge_run x value e u).live
      one e u m k =
          let r = e.row in
          let st = drained value e.weight (state_at u r) in
          let s : SameBounds st (state_at u r) = record { lower = drained_lower value e.weight (state_at u r); upper = drained_upper value e.weight (state_at u r) } in
          put-run-handed but u r st u.dirty u.residuals (edge-term x.rows n e m).0 k
          (subst (λ (z : ℤ). (state_at u r).lower ≤ℤ z) (sym s.lower) (≤ℤ_refl (state_at u r).lower))
          (subst (λ (z : Option ℤ). UpLe z (state_at u r).upper) (sym s.upper) (up_refl (state_at u r).upper)) refl (λ k n. refl) (inr (inr (s, refl)))

  -- BOUNDS HANDED ON

  -- a moved state has what it is told
  module _ (source st : State) (n k : ℕ) where
    abbrev first : Tightened
    first = moved_lower source st n k

    abbrev last : Tightened
    last = moved_state source st n k

    lower-told : n ≤ k → source.lower ≤ℤ last.state.lower
    unfolding with_lower with_upper
    lower-told h =
        let low = lower_cases source n k (λ (t : Tightened). source.lower ≤ℤ t.state.lower) st (λ e. ≤ℤ_refl source.lower)
        (λ e. le (nlt-le_z st.lower source.lower (and_one (leb n k) (lt_z st.lower source.lower) (le-leb n k h) e))) in
        upper_cases source n k (λ (t : Tightened). source.lower ≤ℤ t.state.lower) first (λ e. low) (λ e. low)

    not-under : (a b : Option ℤ) → under a b ≡ false → UpLe b a
    not-under None b e = tt
    not-under (Some a) None e = absurd (clash true refl e)
    not-under (Some a) (Some b) e = at_test (le_z b a) refl e
      where
        at_test : (t : Bool) → le_z b a ≡ t → not t ≡ false → b ≤ℤ a
        at_test true f g = le f
        at_test false f g = absurd (clash true refl g)

    upper-told : k ≤ n → UpLe last.state.upper source.upper
    unfolding with_upper
    upper-told h = upper_cases source n k (λ (t : Tightened). UpLe t.state.upper source.upper) first (λ e. up_refl source.upper)
        (λ e. not-under source.upper first.state.upper (and_one (leb k n) (under source.upper first.state.upper) (le-leb k n h) e))

    -- and where nothing changed it is the state that was
    unchanged : last.changed ≡ false → last.state ≡ st
    unchanged =
        let same : Tightened → Type 0 = λ (t : Tightened). t.changed ≡ false → t.state ≡ st in
        upper_cases source n k same first (λ e f. absurd (clash true refl f)) (λ e. lower_cases source n k same st (λ g f. absurd (clash true refl f)) (λ g f. refl))

  -- a row is told what the source has, whose bounds the row that hands on still has
  told-on : (v : Live) (row r : ℕ) (source st : State) → SameBounds (state_at v row) source → SameBounds (state_at v r) (moved_state source st (term_count x row) (term_count x r)).state → HandedOn x v row r
  told-on v row r source st a b = (
    λ k. subst (λ (z : ℤ). z ≤ℤ (state_at v r).lower) (sym a.lower) (subst (λ (z : ℤ). source.lower ≤ℤ z) (sym b.lower) (lower-told source st (term_count x row) (term_count x r) k)),
    λ k. subst (λ (z : Option ℤ). UpLe (state_at v r).upper z) (sym a.upper) (subst (λ (z : Option ℤ). UpLe z source.upper) (sym b.upper) (upper-told source st (term_count x row) (term_count x r) k)),
  )

  -- While a row hands on: all but the row itself as before, the row's own bounds, and each neighbour told that is passed.
  module _ (drained : ℕ → ℕ → Bool) (s : Table) (row : ℕ) (source : State) (all : List ℕ)
      (are : (r : ℕ) → Memᴰ r all → (r ≢ row) × (IsPrefix x.rows row r ⊎ IsPrefix x.rows r row)) where
    pub record Hands (rs : List ℕ) (v : Live) : Type 0 where
      pub stands : Stands x.rows s drained v
      pub own : SameBounds (state_at v row) source
      pub others : Handed x (λ (r : ℕ). eqb r row) v
      pub told : (q : ℕ) → Memᴰ q all → Memᴰ q rs ⊎ HandedOn x v row q

    -- one neighbour more is passed, and told
    passed : (r : ℕ) (rs : List ℕ) (v w : Live) → ((q : ℕ) → HandedOn x v row q → HandedOn x w row q) → HandedOn x w row r → (q : ℕ) → Memᴰ q (r ∷ rs) ⊎ HandedOn x v row q
        → Memᴰ q rs ⊎ HandedOn x w row q
    passed r rs v w grown new q (inl m) = ⊎_elim (λ (e : q ≡ r). inr (subst (HandedOn x w row) (sym e) new)) (λ k. inl k) (Memᴰ.cases_cons m)
    passed r rs v w grown new q (inr y) = inr (grown q y)

    -- it takes nothing new
    hands-skip : (r : ℕ) (rs : List ℕ) (v : Live) → Memᴰ r all → Hands (r ∷ rs) v → (moved x row source r v).changed ≡ false → Hands rs v
    hands-skip r rs v m h f =
        let e = unchanged source (state_at v r) (term_count x row) (term_count x r) f in
        let new = told-on v row r source (state_at v r) h.own (record { lower = ap (λ (y : State). y.lower) (sym e); upper = ap (λ (y : State). y.upper) (sym e) }) in
        record { stands = h.stands; own = h.own; others = h.others; told = λ q i. passed r rs v v (λ k y. y) new q (h.told q i) }

    -- it takes something, and is run
    module _ (r : ℕ) (rs : List ℕ) (v : Live) (m : Memᴰ r all) (h : Hands (r ∷ rs) v) where
      abbrev st : State
      st = (moved x row source r v).state

      abbrev w : Live
      w = (moved_run x row source r v).live

      prefix : IsPrefix x.rows row r ⊎ IsPrefix x.rows r row
      prefix = (are r m).1

      is : IsRow x.rows r
      is = ⊎_elim (λ (i : IsPrefix x.rows row r). i.1) (λ (i : IsPrefix x.rows r row). i.0) prefix

      low : source.lower ≤ℤ (state_at v row).lower
      low = subst (λ (z : ℤ). source.lower ≤ℤ z) (sym h.own.lower) (≤ℤ_refl source.lower)

      high : UpLe (state_at v row).upper source.upper
      high = subst (λ (z : Option ℤ). UpLe z source.upper) (sym h.own.upper) (up_refl source.upper)

      tighter : ((state_at v r).lower ≤ℤ st.lower) × UpLe st.upper (state_at v r).upper
      tighter = let k = moved_tighter x drained s v row r source prefix low high h.stands in (k.2, k.3)

      here : r < length v.states
      here = let z = h.others.sized in let y : r < length x.rows = is in omega arith

      stays : SameBounds (state_at w row) (state_at v row)
      stays = put_there x v r here st (queue_row v.dirty r) v.residuals row (λ e. (are r m).0 (sym e))

      hands_next : Hands rs w
      hands_next =
          let long = sym (queued-length v.dirty r) in
          let other = queued-other v.dirty r in
          let own : SameBounds (state_at w row) source = record { lower = stays.lower ∙ h.own.lower; upper = stays.upper ∙ h.own.upper } in
          let new = told-on w row r source (state_at v r) own (put_here x v r here st (queue_row v.dirty r) v.residuals) in
          record {
            stands = (neighbour_stands x drained s v row r source prefix low high h.stands).0;
            own = own;
            others = put-run-handed (λ (q : ℕ). eqb q row) v r st (queue_row v.dirty r) v.residuals is h.others tighter.0 tighter.1 long other
                (inr (inl (queued-waits v.dirty r (let z = h.others.flags in let y : r < length x.rows = is in omega arith))));
            told = λ q i. passed r rs v w
                (λ k y. let g = put-grown (λ (n : ℕ). eqb n row) v r st (queue_row v.dirty r) v.residuals is h.others tighter.0 tighter.1 long other k in handed-on v w row k stays g.0 g.1 y)
                new q (h.told q i);
          }

  -- A ROW THAT HANDED ON ITS BOUNDS is excepted no more
  pub prefixes_handed : (drained : ℕ → ℕ → Bool) (s : Table) (v : Live) (row : ℕ)
      → ((r : ℕ) → Memᴰ r (neighbours row x.links) → (r ≢ row) × (IsPrefix x.rows row r ⊎ IsPrefix x.rows r row))
      → Stands x.rows s drained v → Handed x (λ (r : ℕ). eqb r row) v → contradicts (threshold_prefixes x v row).step ≡ false → Handed x (λ (r : ℕ). false) (threshold_prefixes x v row).live
  unfolding threshold_prefixes
  prefixes_handed drained s v row are k h c =
      record { sized = o.others.sized; flags = o.others.flags; handed = λ r q m e f. by r q m f (ℕ_discrete r row) }
    where
      all : List ℕ
      all = neighbours row x.links

      source : State
      source = state_at v row

      w : Live
      w = (prefixes_from x row source all v).live

      o : Hands drained s row source all are [] w
      o = prefix_fine x row source all (Hands drained s row source all are) (hands-skip drained s row source all are) (λ r rs u m y e. hands_next drained s row source all are r rs u m y) v
          (record { stands = k; own = same_bounds source; others = h; told = λ q m. inl m }) c

      by : (r q : ℕ) → Memᴰ q (neighbours r x.links) → waiting w r ≡ false → Dec (r ≡ row) → HandedOn x w r q
      by r q m f (yes e) = subst (λ (i : ℕ). HandedOn x w i q) (sym e) (⊎_elim (λ i. absurd (Memᴰ.not-nil i)) (λ y. y) (o.told q (subst (λ (i : ℕ). Memᴰ q (neighbours i x.links)) e m)))
      by r q m f (no e) = o.others.handed r q m (ne_eqb r row e) f

  -- THE OLDEST ROW IS TAKEN: it waits no more, and is excepted until it has handed on its bounds
  pub taken_handed : (v : Live) → Handed x (λ (r : ℕ). false) v → Handed x (λ (r : ℕ). eqb r (oldest v.dirty.queue)) (with_dirty_rows v (next_row v.dirty))
  unfolding next_row
  taken_handed v h = record {
    sized = h.sized;
    flags = let z = h.flags in let e = length-set v.dirty.pending (oldest v.dirty.queue) 0 in omega arith;
    handed = λ r q m e f. h.handed r q m refl (sym (ap (λ (n : ℕ). eqb n 1) (get_or-set_other v.dirty.pending (oldest v.dirty.queue) r 0 0 (apart r e))) ∙ f);
  }
    where
      apart : (r : ℕ) → eqb r (oldest v.dirty.queue) ≡ false → r ≢ oldest v.dirty.queue
      apart r e q = clash (eqb r (oldest v.dirty.queue)) (eq-eqb r (oldest v.dirty.queue) q) e

  -- WHERE NO ROW WAITS rule 6 is done
  module _ (linked : x.links ≡ links x.rows) (v : Live) (h : Handed x (λ (r : ℕ). false) v) (idle : (r : ℕ) → waiting v r ≡ false) where
    both_ways : (p e : ℕ) → Memᴰ (link p e) (links x.rows) → HandedOn x v p e × HandedOn x v e p
    both_ways p e m =
        let i = subst (λ (l : List Link). Memᴰ (link p e) l) (sym linked) m in
        (h.handed p e (joined-neighbours p e x.links (link p e) i (downward refl refl)) refl (idle p), h.handed e p (joined-neighbours e p x.links (link p e) i (upward refl refl)) refl (idle e))

    not-longer : (p e : ℕ) → Memᴰ (link p e) (links x.rows) → term_count x p ≤ term_count x e
    not-longer p e m =
        let s = link_starts x.rows p e m in
        let l = ap length s.1 ∙ length-append (terms_of x.rows p) s.0 in
        omega arith

    climbed : {r q : ℕ} → Climbs x.rows (links x.rows) r q → ((state_at v r).lower ≤ℤ (state_at v q).lower) × UpLe (state_at v r).upper (state_at v q).upper
    climbed (stay r) = (≤ℤ_refl (state_at v r).lower, up_refl (state_at v r).upper)
    climbed (up {p} {e} m) = let b = both_ways p e m in let n = not-longer p e m in (b.0.0 n, b.1.1 n)
    climbed (across {p} {e} m z) = let b = both_ways p e m in (b.1.0 (omega arith), b.0.1 (omega arith))
    climbed (onward {r} {q} {s} c d) =
        let a = climbed c in
        let b = climbed d in
        (≤ℤ_trans a.0 b.0, up_trans (state_at v r).upper (state_at v q).upper (state_at v s).upper a.1 b.1)

    pub all_handed : (r q : ℕ) → IsPrefix x.rows r q → ((state_at v r).lower ≤ℤ (state_at v q).lower) × UpLe (state_at v r).upper (state_at v q).upper
    all_handed r q i = climbed ((climbs_exactly x.rows r q i.0 i.1).0 (i.2.0, i.2.1))
