-- THE INVARIANT of a live state: its nodes and bounds lie between a start and every rest of the table above that start, and each
-- row's known and possible are the sums of the nodes drained into it. So whatever is decided, raised or lowered follows by the
-- rules, and drained sums lie inside those that the masks give.
use Rattle.std.specs.Prelude.{ℕ, ◌+◌, ◌≤◌, ◌<◌, ◌≡◌, refl, Bool, true, false, cond, ◌&&◌, ◌⊎◌, ◌≢◌, length, get_or, set, eqb, ℤ, pos, ◌≤ℤ◌, Option}
use Rattle.std.proofs.Math.Decide.{ℕ_discrete}
use Rattle.std.proofs.Common.{arith, sym, ap, ap₂, ◌∙◌, subst, inl, inr, length-set, get_or-set_same, get_or-set_other, eq-eqb, ne_eqb, eqb-true}
use Rattle.std.proofs.Math.Bool as B
use mathlib.Core.List.{List, [], ◌∷◌, Memᴰ}
use Rattle.std.specs.Int.Signed.{≤ℤ_refl}
use Rattle.base.specs.TestLaws.{true-false, clash, and_right}
use Rattle.numeric.specs.Threshold.{Term}
use Rattle.state.specs.declared.State.{State}
use Rattle.state.specs.State.{no_state}
use Rattle.words.specs.Mask.{bit}
use Rattle.queues.specs.Marks.{Marks, is_decided, decide, mask}
use Rattle.queues.proofs.MarksLaws.{decide_other, decide_opposite}
use Rattle.queues.proofs.StayLaws.{Stay, stay_decided, sure_decided, never_decided, decide-nothing, not-decided}
use Rattle.queues.specs.Queue.{Rows}
use Rattle.rows.specs.Rows.{Row}
use Rattle.row_moves.specs.Between.{Live, state_at, with_dirty_rows, with_marks, with_residuals, with_state}
use Rattle.theorem_table.specs.Table.{Table, IsRow, terms_of, known, possible, known_of, possible_of}
use Rattle.theorem_table.specs.OrderLaws.{pos_≤ℤ, up_refl}
use Rattle.theorem_table.proofs.TableLaws.{Le, le_same, le_then, Follows, follows_start, known_up, possible_down}
use Rattle.theorem_follows.specs.DecideLaws.{table_of}

-- The nodes of the masks and the bounds of the row states, as a state of the table.
abbrev pub table_at : Live → Table
table_at v = table_of v.marks (λ (r : ℕ). (state_at v r).lower) (λ (r : ℕ). (state_at v r).upper)

-- The nodes of a mask that were drained.
abbrev pub among : (ℕ → Bool) → List ℕ → ℕ → Bool
among drained m n = drained n && bit m n

-- One number more than those before.
abbrev pub also : ℕ → (ℕ → Bool) → ℕ → Bool
also n before k = cond (eqb k n) true (before k)

pub also_which : (n : ℕ) (before : ℕ → Bool) (k : ℕ) → also n before k ≡ true → (k ≡ n) ⊎ (before k ≡ true)
also_which n before k h = by (eqb k n) refl h
  where
    by : (b : Bool) → eqb k n ≡ b → cond b true (before k) ≡ true → (k ≡ n) ⊎ (before k ≡ true)
    by true e g = inl (eqb-true k n e)
    by false e g = inr g

pub also_before : (n : ℕ) (before : ℕ → Bool) (k : ℕ) → before k ≡ true → also n before k ≡ true
also_before n before k h = by (eqb k n)
  where
    by : (b : Bool) → cond b true (before k) ≡ true
    by true = refl
    by false = h

pub also_other : (n : ℕ) (before : ℕ → Bool) (k : ℕ) → k ≢ n → also n before k ≡ before k
also_other n before k h = ap (λ (b : Bool). cond b true (before k)) (ne_eqb k n h)

pub also_this : (n : ℕ) (before : ℕ → Bool) (k : ℕ) → k ≡ n → also n before k ≡ true
also_this n before k h = ap (λ (b : Bool). cond b true (before k)) (eq-eqb k n h)

-- No node is in both masks.
abbrev pub Apart : Marks → Type 0
Apart m = (n : ℕ) → bit m.sure n ≡ true → bit m.never n ≡ true → ⊥

-- `drained r n` says whether node n was drained into row r.
pub record Stands (rows : List Row) (s : Table) (drained : ℕ → ℕ → Bool) (v : Live) : Type 0 where
  pub sized : length rows ≤ length v.states
  -- nothing of the start is lost
  pub above : Le s (table_at v)
  -- every rest of the table above the start has all nodes and bounds: they follow by the rules
  pub follows : Follows rows s (table_at v)
  pub apart : Apart v.marks
  -- only decided nodes are drained, and the figures are the sums of those
  pub decided : (r n : ℕ) → drained r n ≡ true → is_decided v.marks n ≡ true
  pub known : (r : ℕ) → IsRow rows r → (state_at v r).known ≡ pos (known (among (drained r) v.marks.sure) (terms_of rows r))
  pub possible : (r : ℕ) → IsRow rows r → (state_at v r).possible ≡ pos (possible (among (drained r) v.marks.never) (terms_of rows r))

-- SUMS go by the conditions of their terms alone.
pub known_same : (f g : ℕ → Bool) (ts : List Term) → ((t : Term) → Memᴰ t ts → f t.condition ≡ g t.condition) → known f ts ≡ known g ts
unfolding known
known_same f g [] h = refl
known_same f g (t ∷ ts) h =
    ap₂ (λ (a b : ℕ). a + b) (ap (λ (b : Bool). cond b t.weight 0) (h t (Memᴰ.head refl))) (known_same f g ts (λ u i. h u (Memᴰ.tail i)))

pub possible_same : (f g : ℕ → Bool) (ts : List Term) → ((t : Term) → Memᴰ t ts → f t.condition ≡ g t.condition) → possible f ts ≡ possible g ts
unfolding possible
possible_same f g [] h = refl
possible_same f g (t ∷ ts) h =
    ap₂ (λ (a b : ℕ). a + b) (ap (λ (b : Bool). cond b 0 t.weight) (h t (Memᴰ.head refl))) (possible_same f g ts (λ u i. h u (Memᴰ.tail i)))

-- among nodes that were decided, both masks have the same
pub among_stay : (m m' : Marks) → Stay m m' → (drained : ℕ → Bool) → ((n : ℕ) → drained n ≡ true → is_decided m n ≡ true) → (value : Bool) (n : ℕ)
    → among drained (mask value m) n ≡ among drained (mask value m') n
among_stay m m' stay drained decided value n = by (drained n) refl
  where
    by : (b : Bool) → drained n ≡ b → (b && bit (mask value m) n) ≡ (b && bit (mask value m') n)
    by true e = sym (stay n (decided n e) value)
    by false e = refl

pub stay_le : (m m' : Marks) (l : ℕ → ℤ) (u : ℕ → Option ℤ) → Stay m m' → Le (table_of m l u) (table_of m' l u)
stay_le m m' l u h = record {
  sure = λ n e. h n (sure_decided m n e) true ∙ e;
  never = λ n e. h n (never_decided m n e) false ∙ e;
  lower = λ r. ≤ℤ_refl (l r);
  upper = λ r. up_refl (u r);
}

-- the masks stay apart
pub apart_decide : (value : Bool) (m : Marks) (n : ℕ) → Apart m → Apart (decide value m n).marks
apart_decide value m n h k a b = by (ℕ_discrete k n) (true-false (is_decided m n))
  where
    one_side : (value : Bool) → bit (mask true (decide value m n).marks) n ≡ true → bit (mask false (decide value m n).marks) n ≡ true → is_decided m n ≡ false → ⊥
    one_side true x y e = clash (bit m.never n) (ap (λ (l : List ℕ). bit l n) (sym (decide_opposite true m n)) ∙ y) (not-decided m n e false)
    one_side false x y e = clash (bit m.sure n) (ap (λ (l : List ℕ). bit l n) (sym (decide_opposite false m n)) ∙ x) (not-decided m n e true)

    by : Dec (k ≡ n) → (is_decided m n ≡ true) ⊎ (is_decided m n ≡ false) → ⊥
    by (no e) d = h k (sym (decide_other value m n true k e) ∙ a) (sym (decide_other value m n false k e) ∙ b)
    by (yes e) (inl d) =
        let q = decide-nothing value m n d in
        h k (ap (λ (x : Marks). bit x.sure k) (sym q) ∙ a) (ap (λ (x : Marks). bit x.never k) (sym q) ∙ b)
    by (yes e) (inr d) =
        one_side value (subst (λ (i : ℕ). bit (decide value m n).marks.sure i ≡ true) e a) (subst (λ (i : ℕ). bit (decide value m n).marks.never i ≡ true) e b) d

-- A STATE PUT ANEW: what holds of it and of all others before holds after.
pub put_state : (P : ℕ → State → Type 0) (ss : List State) (r : ℕ) (st : State) → r < length ss → P r st → ((q : ℕ) → q ≢ r → P q (get_or ss q no_state))
    → (q : ℕ) → P q (get_or (set ss r st) q no_state)
put_state P ss r st h p k q = by (ℕ_discrete q r)
  where
    by : Dec (q ≡ r) → P q (get_or (set ss r st) q no_state)
    by (yes e) = subst (λ (i : ℕ). P i (get_or (set ss r st) i no_state)) (sym e) (subst (P r) (sym (get_or-set_same ss r st no_state h)) p)
    by (no e) = subst (P q) (sym (get_or-set_other ss r q st no_state e)) (k q e)

module _ (rows : List Row) (s : Table) (drained : ℕ → ℕ → Bool) (v : Live) (h : Stands rows s drained v) where
  -- DRAINED KNOWN IS AT MOST, DRAINED POSSIBLE AT LEAST, WHAT THE MASKS GIVE
  pub known_inside : (r : ℕ) → IsRow rows r → (state_at v r).known ≤ℤ known_of rows (table_at v) r
  known_inside r i =
      subst (λ (z : ℤ). z ≤ℤ known_of rows (table_at v) r) (sym (h.known r i))
      (pos_≤ℤ (known_up (among (drained r) v.marks.sure) (bit v.marks.sure) (terms_of rows r) (λ n e. and_right (drained r n) (bit v.marks.sure n) e)))

  pub possible_inside : (r : ℕ) → IsRow rows r → possible_of rows (table_at v) r ≤ℤ (state_at v r).possible
  possible_inside r i =
      subst (λ (z : ℤ). possible_of rows (table_at v) r ≤ℤ z) (sym (h.possible r i))
      (pos_≤ℤ (possible_down (among (drained r) v.marks.never) (bit v.marks.never) (terms_of rows r) (λ n e. and_right (drained r n) (bit v.marks.never n) e)))

  -- and they are just that once every decided term of the row is drained
  abbrev pub AllDrained : ℕ → Type 0
  AllDrained r = (t : Term) → Memᴰ t (terms_of rows r) → is_decided v.marks t.condition ≡ true → drained r t.condition ≡ true

  all_in : (r n : ℕ) → (is_decided v.marks n ≡ true → drained r n ≡ true) → (value : Bool) → among (drained r) (mask value v.marks) n ≡ bit (mask value v.marks) n
  all_in r n all value = by (bit (mask value v.marks) n) refl
    where
      is : (value : Bool) → bit (mask value v.marks) n ≡ true → is_decided v.marks n ≡ true
      is true e = sure_decided v.marks n e
      is false e = never_decided v.marks n e

      by : (b : Bool) → bit (mask value v.marks) n ≡ b → (drained r n && b) ≡ b
      by true e = ap (λ (d : Bool). d && true) (all (is value e))
      by false e = B.and-false (drained r n)

  pub known_exact : (r : ℕ) → IsRow rows r → AllDrained r → (state_at v r).known ≡ known_of rows (table_at v) r
  known_exact r i all = h.known r i ∙ ap pos (known_same _ _ (terms_of rows r) (λ t j. all_in r t.condition (all t j) true))

  pub possible_exact : (r : ℕ) → IsRow rows r → AllDrained r → (state_at v r).possible ≡ possible_of rows (table_at v) r
  possible_exact r i all = h.possible r i ∙ ap pos (possible_same _ _ (terms_of rows r) (λ t j. all_in r t.condition (all t j) false))

  -- The state itself as the start of what comes next.
  pub restart : Stands rows (table_at v) drained v
  restart = record {
    sized = h.sized;
    above = le_same (table_at v);
    follows = follows_start rows (table_at v);
    apart = h.apart;
    decided = h.decided;
    known = h.known;
    possible = h.possible;
  }

  -- ONE ROW'S STATE AND THE MARKS PUT ANEW, known and possible as they were: what follows and lies above stands.
  pub put_stands : (r : ℕ) (st : State) (m : Marks) (d q : Rows) → IsRow rows r → let w = with_residuals (with_dirty_rows (with_marks (with_state v r st) m) d) q in
      st.known ≡ (state_at v r).known → st.possible ≡ (state_at v r).possible → Stay v.marks m → Apart m
      → Le (table_at v) (table_at w) → Follows rows s (table_at w) → Stands rows s drained w
  put_stands r st m d q i a b stay apart up f = record {
    sized = subst (λ (n : ℕ). length rows ≤ n) (sym (length-set v.states r st)) h.sized;
    above = le_then s (table_at v) (table_at (with_residuals (with_dirty_rows (with_marks (with_state v r st) m) d) q)) h.above up;
    follows = f;
    apart = apart;
    decided = λ k n e. stay_decided v.marks m stay n (h.decided k n e);
    known = put_state (λ (k : ℕ) (t : State). IsRow rows k → t.known ≡ pos (known (among (drained k) m.sure) (terms_of rows k))) v.states r st
        (let z = h.sized in omega arith) (λ j. a ∙ h.known r j ∙ ap pos (known_same _ _ (terms_of rows r) (λ t x. same true r t.condition)))
        (λ k e j. h.known k j ∙ ap pos (known_same _ _ (terms_of rows k) (λ t x. same true k t.condition)));
    possible = put_state (λ (k : ℕ) (t : State). IsRow rows k → t.possible ≡ pos (possible (among (drained k) m.never) (terms_of rows k))) v.states r st
        (let z = h.sized in omega arith) (λ j. b ∙ h.possible r j ∙ ap pos (possible_same _ _ (terms_of rows r) (λ t x. same false r t.condition)))
        (λ k e j. h.possible k j ∙ ap pos (possible_same _ _ (terms_of rows k) (λ t x. same false k t.condition)));
  }
    where
      same : (value : Bool) (k n : ℕ) → among (drained k) (mask value v.marks) n ≡ among (drained k) (mask value m) n
      same value k = among_stay v.marks m stay (drained k) (h.decided k) value
