-- NO RULE IS LEFT UNDONE: a row that was run without a contradiction, all its decided terms drained, has none of the rules 2 to 5 left
-- and is in no conflict. With rules 1 and 6 done for all rows, the live state is a rest of the table.
use Rattle.std.specs.Prelude.{ℕ, ◌+◌, ◌-◌, ◌≤◌, ◌≡◌, refl, Bool, true, false, not, cond, ◌&&◌, ◌||◌, ◌⊎◌, get_or, take, ℤ, pos, ◌-ℤ◌, ◌≤ℤ◌, ◌<ℤ◌, Option, None, Some}
use Rattle.std.proofs.Common.{arith, sym, ap, ap₂, ◌∙◌, subst, inl, inr, ⊎_elim, take-append-drop}
use Rattle.std.proofs.Math.Bool as B
use mathlib.Core.List.Memᴰ
use mathlib.Core.List.{List, [], ◌∷◌, Memᴰ}
use Rattle.std.specs.Int.Signed.{le_z, lt_z, ≤ℤ_refl, clash_ℤ}
use Rattle.base.specs.TestLaws.{true-false, clash, or-false}
use Rattle.base.specs.SignedLaws.{pos_minus, lt_z-nle, le_z-nlt}
use Rattle.numeric.specs.Threshold.{Term}
use Rattle.state.specs.State.{max_z, reached, upper_at_most, conflict}
use Rattle.words.specs.Mask.{bit}
use Rattle.queues.specs.Marks.{is_decided}
use Rattle.rows.specs.Rows.{Row, no_row, Guard, Other, alone, is_alone, MayDecide}
use Rattle.row_runs.specs.Row.{reachable}
use Rattle.row_moves.specs.Between.{Live, state_at}
use Rattle.theorem_table.specs.Table.{Table, IsRow, terms_of, known, possible, Guards, HasTerm, known_of, possible_of, reached_of, Undecided, AtMost, IsPrefix, Step, sure-guard, never-guard, bound-reached, bound-out-of-reach, term-needed, term-too-heavy, longer-lower, shorter-upper, Conflict, both, lower-above, upper-reached, AtRest, Below}
use Rattle.theorem_table.specs.OrderLaws.{le, of_le, of_lt, ≤ℤ_trans, pos_≤ℤ, sub_up, UpLe, of_at-most}
use Rattle.theorem_follows.specs.RowCompleteLaws.{Complete}
use Rattle.theorem_follows.specs.DoneLaws.{Met}
use Rattle.theorem_follows.specs.StandsLaws.{table_at, Stands, AllDrained, known_exact, possible_exact}

-- No rule of 2 to 5, and no conflict, is left for the row.
pub record RowRests (rows : List Row) (t : Table) (r : ℕ) : Type 0 where
  pub reached : (g : Guard) → Guards rows r g → MayDecide g → g.other ≡ alone → g.bound ≤ℤ reached_of rows t r → t.sure g.node ≡ true
  pub out_of_reach : (g : Guard) → Guards rows r g → MayDecide g → (possible_of rows t r <ℤ g.bound) ⊎ AtMost (t.upper r) g.bound → t.never g.node ≡ true
  pub needed : (u : Term) → HasTerm rows r u → Undecided rows t u.condition → (possible_of rows t r -ℤ t.lower r) <ℤ pos u.weight → ⊥
  pub too_heavy : (u : Term) (b : ℤ) → HasTerm rows r u → Undecided rows t u.condition → t.upper r ≡ Some b → (b -ℤ known_of rows t r) ≤ℤ pos u.weight → ⊥
  pub in_reach : possible_of rows t r <ℤ t.lower r → ⊥
  pub not-reached : AtMost (t.upper r) (reached_of rows t r) → ⊥

-- An undecided term fits between known and possible.
room_left : (sure never : ℕ → Bool) (ts : List Term) (u : Term) → ((n : ℕ) → sure n ≡ true → never n ≡ true → ⊥) → Memᴰ u ts → sure u.condition ≡ false → never u.condition ≡ false
    → known sure ts + u.weight ≤ possible never ts
unfolding known possible
room_left sure never [] u apart m a b = absurd (Memᴰ.not-nil m)
room_left sure never (t ∷ ts) u apart m a b = by (λ k. room_left sure never ts u apart k a b) (Memᴰ.cases_cons m)
  where
    one : (x y : Bool) (w : ℕ) → (x ≡ true → y ≡ true → ⊥) → cond x w 0 ≤ cond y 0 w
    one true true w h = absurd (h refl refl)
    one true false w h = omega arith
    one false y w h = omega arith

    all : (ts : List Term) → known sure ts ≤ possible never ts
    all [] = omega arith
    all (x ∷ xs) = let k = all xs in let o = one (sure x.condition) (never x.condition) x.weight (apart x.condition) in omega arith

    by : (Memᴰ u ts → known sure ts + u.weight ≤ possible never ts) → (u ≡ t) ⊎ Memᴰ u ts
        → cond (sure t.condition) t.weight 0 + known sure ts + u.weight ≤ cond (never t.condition) 0 t.weight + possible never ts
    by ih (inl e) =
        let c : cond (sure t.condition) t.weight 0 ≡ 0 = ap (λ (x : Bool). cond x t.weight 0) (ap (λ (y : Term). sure y.condition) (sym e) ∙ a) in
        let d : cond (never t.condition) 0 t.weight ≡ t.weight = ap (λ (x : Bool). cond x 0 t.weight) (ap (λ (y : Term). never y.condition) (sym e) ∙ b) in
        let w : u.weight ≡ t.weight = ap (λ (y : Term). y.weight) e in
        let k = all ts in
        omega arith
    by ih (inr k) = let i = ih k in let o = one (sure t.condition) (never t.condition) t.weight (apart t.condition) in omega arith

module _ (rows : List Row) (s : Table) (drained : ℕ → ℕ → Bool) (v : Live) (h : Stands rows s drained v) (r : ℕ) (is : IsRow rows r) (all : AllDrained rows s drained v h r)
    (done : Complete (get_or rows r no_row) (state_at v r) v.marks) (met : Met rows v) (free : conflict (state_at v r) ≡ false) where
  is_known : (state_at v r).known ≡ known_of rows (table_at v) r
  is_known = known_exact rows s drained v h r is all

  is-possible : (state_at v r).possible ≡ possible_of rows (table_at v) r
  is-possible = possible_exact rows s drained v h r is all

  is-reached : reached (state_at v r) ≡ reached_of rows (table_at v) r
  is-reached = ap (λ (z : ℤ). max_z z (state_at v r).lower) is_known

  no-conflict : (lt_z (state_at v r).possible (state_at v r).lower ≡ false) × (upper_at_most (state_at v r).upper (reached (state_at v r)) ≡ false)
  unfolding conflict
  no-conflict = or-false (lt_z (state_at v r).possible (state_at v r).lower) (upper_at_most (state_at v r).upper (reached (state_at v r))) free

  unreachable : (b : ℤ) → (possible_of rows (table_at v) r <ℤ b) ⊎ AtMost (state_at v r).upper b → reachable (state_at v r) b ≡ false
  unreachable b (inl a) =
      ap (λ (x : Bool). x && not (upper_at_most (state_at v r).upper b)) (lt_z-nle (state_at v r).possible b (ap (λ (z : ℤ). lt_z z b) is-possible ∙ of_lt a))
  unreachable b (inr a) = ap (λ (x : Bool). le_z b (state_at v r).possible && not x) (of_at-most (state_at v r).upper b a) ∙ B.and-false (le_z b (state_at v r).possible)

  undecided : (n : ℕ) → Undecided rows (table_at v) n → is_decided v.marks n ≡ true → ⊥
  undecided n u d = clash (is_decided v.marks n) d (ap₂ (λ (x y : Bool). x || y) u.0 u.1)

  is-needed : (u : Term) → HasTerm rows r u → Undecided rows (table_at v) u.condition → (possible_of rows (table_at v) r -ℤ (state_at v r).lower) <ℤ pos u.weight → ⊥
  is-needed u t n k = by (true-false (le_z (state_at v r).lower (state_at v r).known))
    where
      by : (le_z (state_at v r).lower (state_at v r).known ≡ true) ⊎ (le_z (state_at v r).lower (state_at v r).known ≡ false) → ⊥
      by (inr f) =
          undecided u.condition n (done.needed f u t.1
          (lt_z-nle ((state_at v r).possible -ℤ (state_at v r).lower) (pos u.weight) (ap (λ (z : ℤ). lt_z (z -ℤ (state_at v r).lower) (pos u.weight)) is-possible ∙ of_lt k)))
      by (inl e) =
          let a = known (bit v.marks.sure) (terms_of rows r) in
          let b = possible (bit v.marks.never) (terms_of rows r) in
          let m = room_left (bit v.marks.sure) (bit v.marks.never) (terms_of rows r) u h.apart t.1 n.0 n.1 in
          let fits : pos u.weight ≤ℤ (pos b -ℤ pos a) = subst (λ (z : ℤ). pos u.weight ≤ℤ z) (sym (pos_minus b a (omega arith))) (pos_≤ℤ {a = u.weight} {b = b - a} (omega arith)) in
          clash_ℤ k (≤ℤ_trans fits (sub_up (≤ℤ_refl (pos b)) (subst (λ (z : ℤ). (state_at v r).lower ≤ℤ z) is_known (le e))))

  -- a guard that the figures reach was passed
  passed : (g : Guard) → Memᴰ g (get_or rows r no_row).guards → le_z g.bound (reached (state_at v r)) ≡ true → Memᴰ g (take (state_at v r).sure_guard (get_or rows r no_row).guards)
  passed g i k =
      ⊎_elim (λ j. j) (λ j. absurd (clash (le_z g.bound (reached (state_at v r))) k (done.all g j)))
      (Memᴰ.append_cases (take (state_at v r).sure_guard (get_or rows r no_row).guards)
      (subst (λ (l : List Guard). Memᴰ g l) (sym (take-append-drop (state_at v r).sure_guard (get_or rows r no_row).guards)) i))

  -- A ROW AT REST
  pub row_rests : RowRests rows (table_at v) r
  row_rests = record {
    reached = λ g i p o k. met r is g (passed g i.1 (ap (le_z g.bound) is-reached ∙ of_le k)) (ap₂ (λ (x : Bool) (o : Other). x && (is_alone o || false)) p o);
    out_of_reach = λ g i p k. done.out_of_reach g i.1 (unreachable g.bound k) (ap₂ (λ (x y : Bool). x && y) p (B.or-true (is_alone g.other)));
    needed = is-needed;
    too_heavy = λ u b t n e k. undecided u.condition n (done.too_heavy b e u t.1
        (le_z-nlt (pos u.weight) (b -ℤ (state_at v r).known) (ap (λ (z : ℤ). le_z (b -ℤ z) (pos u.weight)) is_known ∙ of_le k)));
    in_reach = λ k. clash (lt_z (state_at v r).possible (state_at v r).lower) (ap (λ (z : ℤ). lt_z z (state_at v r).lower) is-possible ∙ of_lt k) no-conflict.0;
    not-reached = λ k. clash (upper_at_most (state_at v r).upper (reached (state_at v r)))
        (ap (upper_at_most (state_at v r).upper) is-reached ∙ of_at-most (state_at v r).upper (reached_of rows (table_at v) r) k) no-conflict.1;
  }

-- ALL ROWS AT REST, rules 1 and 6 done: the table is
pub at_rest_lem : (rows : List Row) (t : Table) → ((n : ℕ) → t.sure n ≡ true → t.never n ≡ true → ⊥) → ((r : ℕ) → IsRow rows r → RowRests rows t r)
    → ((r : ℕ) (g : Guard) → Guards rows r g → (t.sure g.node ≡ true → g.bound ≤ℤ t.lower r) × (t.never g.node ≡ true → UpLe (t.upper r) (Some g.bound)))
    → ((r q : ℕ) → IsPrefix rows r q → (t.lower r ≤ℤ t.lower q) × UpLe (t.upper r) (t.upper q)) → ((r : ℕ) (g : Guard) → Guards rows r g → g.other ≡ alone) → AtRest rows t
at_rest_lem rows t apart rest guards prefixes single = (no-conflict, no_step)
  where
    no-conflict : Conflict rows t → ⊥
    no-conflict (both n a b) = apart n a b
    no-conflict (lower-above r i k) = (rest r i).in_reach k
    no-conflict (upper-reached r i k) = (rest r i).not-reached k

    not-below : (a b : Option ℤ) → UpLe a b → Below b a → ⊥
    not-below a None l k = k
    not-below None (Some b) l k = l
    not-below (Some a) (Some b) l k = clash_ℤ k l

    no_step : (u : Table) → Step rows t u → ⊥
    no_step u (sure-guard r g i e k) = clash_ℤ k ((guards r g i).0 e)
    no_step u (never-guard r g i e k) = not-below (t.upper r) (Some g.bound) ((guards r g i).1 e.0) k
    no_step u (bound-reached r g i k e) = clash (t.sure g.node) ((rest r i.0).reached g i k.0 (single r g i) k.1) e
    no_step u (bound-out-of-reach r g i k e) = clash (t.never g.node) ((rest r i.0).out_of_reach g i k.0 k.1) e
    no_step u (term-needed r x i d k) = (rest r i.0).needed x i d k
    no_step u (term-too-heavy r x b i d e k) = (rest r i.0).too_heavy x b i d e k
    no_step u (longer-lower r q i k) = clash_ℤ k (prefixes r q i).0
    no_step u (shorter-upper r q i k) = not-below (t.upper r) (t.upper q) (prefixes r q i).1 k
