-- NOTHING IS LEFT UNDONE: a row that was run without a contradiction has every guard and term decided that its drained figures
-- decide. Cursors only move forward, and pass only what is decided.
use Rattle.std.specs.Prelude.{ℕ, zero, suc, ◌+◌, ◌-◌, ◌≤◌, ◌<◌, ◌≡◌, refl, Bool, true, false, not, cond, ◌&&◌, ◌||◌, ◌⊎◌, length, take, drop, ℤ, pos, Option, None, Some}
use Rattle.std.proofs.Common.{arith, sym, ap, ap₂, ◌∙◌, subst, inl, inr, ⊎_elim, take-append-drop, length-take, length-append, take-add, drop-drop}
use mathlib.Core.List.Memᴰ
use mathlib.Core.List.{List, [], ◌∷◌, ◌++◌, append_assoc, reverse, reverse-cons, reverse-append, reverse-reverse, Memᴰ}
use Rattle.std.proofs.lemmas.List.{length-reverse}
use Rattle.std.proofs.Math.Seq.{take-append_seam, drop-append_seam}
use Rattle.std.specs.Int.Signed.{le_z}
use Rattle.base.specs.TestLaws.{true-false, and_left, and_right, or-true, unequal}
use Rattle.state.specs.StepLaws.{joined_fine}
use Rattle.memory.specs.Limits.{max_nodes}
use Rattle.base.specs.SignedLaws.{le_z_refl, le_z_trans, le_z-nlt, nlt-le_z}
use Rattle.numeric.specs.Threshold.{Term}
use Rattle.state.specs.declared.Step.{Step}
use Rattle.state.specs.declared.Step.TheVariants.{Unchanged, Contradiction}
use Rattle.state.specs.declared.State.{State}
use Rattle.state.specs.Step.{joined, contradicts}
use Rattle.state.specs.State.{reached, upper_at_most}
use Rattle.words.specs.Mask.{bit}
use Rattle.queues.specs.Marks.{Marks, is_decided, Decided, decided, decide, mask}
use Rattle.queues.proofs.MarksLaws.{decide_has, decide-length}
use Rattle.rows.specs.Rows.{Guard}
use Rattle.row_runs.specs.Scan.{scan, Scanned, scanned, force}
use Rattle.row_runs.specs.Row.{sure_waits, deciding, decides, sure_guards, reachable, never_waits, never_guards, term_waits, forces, forced}
use Rattle.row_runs.proofs.RowLaws.{decides_keeps}
use Rattle.theorem_follows.specs.DecideLaws.{scan_keeps}
use Rattle.theorem_follows.specs.RowLaws.{decide_grows}
use Rattle.base.specs.MembersLaws.{mem_drop, mem_take, mem_reverse}
use Rattle.theorem_follows.specs.Ordered.{Each, Rising, Falling}

-- WHERE A SCAN STOPS: the places that it passed are done, and the next one waits.
pub record Stopped {X : Type 0} (waits : X → Marks → Bool) (Done : X → Marks → Type 0) (xs : List X) (n : ℕ) (r : Scanned) : Type 0 where
  pub front : List X
  pub back : List X
  pub split : xs ≡ front ++ back
  pub passed : r.passed ≡ n + length front
  pub done : Each (λ (x : X). Done x r.marks) front
  pub next : (back ≡ []) ⊎ ((x : X) × (rest : List X) × (back ≡ x ∷ rest) × (waits x r.marks ≡ true))

pub scan_stops : {X : Type 0} (waits : X → Marks → Bool) (act : X → Marks → Decided) (P : Marks → Type 0) (Done : X → Marks → Type 0)
    → ((x : X) (m : Marks) → P m → P (act x m).marks)
    → ((x y : X) (m : Marks) → Done x m → Done x (act y m).marks)
    → (xs : List X) → ((x : X) (m : Marks) → Memᴰ x xs → P m → waits x m ≡ false → contradicts (act x m).step ≡ false → Done x (act x m).marks)
    → (n : ℕ) (m : Marks) (k : Step) → P m → contradicts k ≡ false → contradicts (scan waits act xs n m k).step ≡ false
    → Stopped waits Done xs n (scan waits act xs n m k)
unfolding scan
scan_stops waits act P Done keeps stays [] makes n m k p c h = record {
  front = [];
  back = [];
  split = refl;
  passed = omega arith;
  done = λ x i. absurd (Memᴰ.not-nil i);
  next = inl refl;
}
scan_stops {X} waits act P Done keeps stays (x ∷ xs) makes n m k p c h =
    one (λ n m k p c h. scan_stops waits act P Done keeps stays xs (λ y m i. makes y m (Memᴰ.tail i)) n m k p c h) (waits x m) refl h
  where
    Goal : Scanned → Type 0
    Goal r = Stopped waits Done (x ∷ xs) n r

    After : Type 0
    After = (n : ℕ) (m : Marks) (k : Step) → P m → contradicts k ≡ false → contradicts (scan waits act xs n m k).step ≡ false → Stopped waits Done xs n (scan waits act xs n m k)

    go_on : waits x m ≡ false → contradicts (act x m).step ≡ false → (r : Scanned)
        → r ≡ scan waits act xs (n + 1) (act x m).marks (joined k (act x m).step) → Stopped waits Done xs (n + 1) r → Goal r
    go_on w e r q o = record {
      front = x ∷ o.front;
      back = o.back;
      split = ap (λ (l : List X). x ∷ l) o.split;
      passed = o.passed ∙ omega arith;
      done = λ y i. ⊎_elim
          (λ (d : y ≡ x). subst (λ (z : X). Done z r.marks) (sym d)
          (subst (λ (z : Scanned). Done x z.marks) (sym q)
          (scan_keeps (Done x) (Unit {0}) waits act xs (λ z a j p v. (stays x z a p, λ _. tt)) (n + 1) (act x m).marks (joined k (act x m).step)
          (makes x m (Memᴰ.head refl) p w e) (joined_fine k (act x m).step c e)).0))
          (λ j. o.done y j) (Memᴰ.cases_cons i);
      next = o.next;
    }

    acted : Bool → Scanned
    acted b = elim b [ true ↦ scanned (n + 1) (act x m).marks Contradiction | false ↦ scan waits act xs (n + 1) (act x m).marks (joined k (act x m).step) ]

    turn : Bool → Scanned
    turn b = elim b [ true ↦ scanned n m k | false ↦ acted (contradicts (act x m).step) ]

    two : After → waits x m ≡ false → (b : Bool) → contradicts (act x m).step ≡ b → contradicts (acted b).step ≡ false → Goal (acted b)
    two ih w true e d = absurd (unequal cc)
    two ih w false e d =
        go_on w e (scan waits act xs (n + 1) (act x m).marks (joined k (act x m).step)) refl
        (ih (n + 1) (act x m).marks (joined k (act x m).step) (keeps x m p) (joined_fine k (act x m).step c e) d)

    one : After → (b : Bool) → waits x m ≡ b → contradicts (turn b).step ≡ false → Goal (turn b)
    one ih true e d = record { front = []; back = x ∷ xs; split = refl; passed = omega arith; done = λ y i. absurd (Memᴰ.not-nil i); next = inr (x, xs, refl, e) }
    one ih false e d = two ih e (contradicts (act x m).step) refl d

-- MASKS of 64 words, so that every node has its place.
pub record Wide (m : Marks) : Type 0 where
  pub sure : 64 ≤ length m.sure
  pub never : 64 ≤ length m.never

pub wide_decide : (value : Bool) (m : Marks) (n : ℕ) → Wide m → Wide (decide value m n).marks
wide_decide value m n w = let a = decide-length value m n true in let b = decide-length value m n false in record { sure = let h = w.sure in omega arith; never = let h = w.never in omega arith }

-- A node is in the mask of a value, and stays there.
abbrev pub Has : Bool → ℕ → Marks → Type 0
Has v n m = bit (mask v m) n ≡ true

pub has_stays : (v : Bool) (k : ℕ) (value : Bool) (m : Marks) (n : ℕ) → Has v k m → Has v k (decide value m n).marks
has_stays true k value m n h = (decide_grows value m n (λ _. pos 0) (λ _. None)).sure k h
has_stays false k value m n h = (decide_grows value m n (λ _. pos 0) (λ _. None)).never k h

has_after : (v : Bool) (m : Marks) (n : ℕ) → n < max_nodes → Wide m → contradicts (decide v m n).step ≡ false → Has v n (decide v m n).marks
has_after true m n h w c = decide_has true m n (let k = w.sure in omega arith) (λ e. absurd (unequal cc))
has_after false m n h w c = decide_has false m n (let k = w.never in omega arith) (λ e. absurd (unequal cc))

either_has : (v : Bool) (n : ℕ) (m : Marks) → Has v n m → is_decided m n ≡ true
either_has true n m h = ap (λ (b : Bool). b || bit m.never n) h
either_has false n m h = ap (λ (b : Bool). bit m.sure n || b) h ∙ by (bit m.sure n)
  where
    by : (b : Bool) → (b || true) ≡ true
    by true = refl
    by false = refl

pub decided_stays : (k : ℕ) (value : Bool) (m : Marks) (n : ℕ) → is_decided m k ≡ true → is_decided (decide value m n).marks k ≡ true
decided_stays k value m n h =
    ⊎_elim (λ (e : bit m.sure k ≡ true). either_has true k (decide value m n).marks (has_stays true k value m n e))
    (λ (e : bit m.never k ≡ true). either_has false k (decide value m n).marks (has_stays false k value m n e)) (or-true (bit m.sure k) (bit m.never k) h)

module _ {X : Type 0} where
  -- in the front or in the back
  split-cases : (xs front back : List X) (n : ℕ) → drop n xs ≡ front ++ back → (x : X) → Memᴰ x xs
      → Memᴰ x (take n xs) ⊎ (Memᴰ x front ⊎ Memᴰ x back)
  split-cases xs front back n e x m =
      ⊎_elim (λ h. inl h)
      (λ h. inr (Memᴰ.append_cases front (subst (λ (l : List X). Memᴰ x l) e h)))
      (Memᴰ.append_cases (take n xs) (subst (λ (l : List X). Memᴰ x l) (sym (take-append-drop n xs)) m))

  -- the cursor behind the front
  front-is : (xs front back : List X) (n k : ℕ) → drop n xs ≡ front ++ back → k ≡ 0 + length front → take (n + k) xs ≡ take n xs ++ front
  front-is xs front back n k e q =
      let h : k ≡ length front = omega arith in
      take-add n k xs ∙ ap (λ (l : List X). take n xs ++ l) (ap₂ (λ (i : ℕ) (l : List X). take i l) h e ∙ take-append_seam front back)

  front-cases : (xs front back : List X) (n k : ℕ) → drop n xs ≡ front ++ back → k ≡ 0 + length front → (x : X) → Memᴰ x (take (n + k) xs)
      → Memᴰ x (take n xs) ⊎ Memᴰ x front
  front-cases xs front back n k e q x m = Memᴰ.append_cases (take n xs) (subst (λ (l : List X). Memᴰ x l) (front-is xs front back n k e q) m)

  -- what a cursor passed on its way, and what stands behind it
  drop-take : (n k m : ℕ) (xs : List X) → m ≡ n + k → drop n (take m xs) ≡ take k (drop n xs)
  drop-take zero k m xs e = let h : m ≡ k = omega arith in ap (λ (i : ℕ). take i xs) h
  drop-take (suc n) k zero xs e = absurd (omega arith)
  drop-take (suc n) zero (suc m) [] e = refl
  drop-take (suc n) (suc k) (suc m) [] e = refl
  drop-take (suc n) k (suc m) (x ∷ xs) e = drop-take n k m xs (omega arith)

  front-now : (xs front back : List X) (n k : ℕ) → drop n xs ≡ front ++ back → k ≡ 0 + length front → drop n (take (n + k) xs) ≡ front
  front-now xs front back n k e q =
      let h : k ≡ length front = omega arith in
      drop-take n k (n + k) xs refl ∙ ap₂ (λ (i : ℕ) (l : List X). take i l) h e ∙ take-append_seam front back

  back-now : (xs front back : List X) (n k : ℕ) → drop n xs ≡ front ++ back → k ≡ 0 + length front → drop (n + k) xs ≡ back
  back-now xs front back n k e q =
      let h : k ≡ length front = omega arith in
      sym (drop-drop k n xs) ∙ ap₂ (λ (i : ℕ) (l : List X). drop i l) h e ∙ drop-append_seam front back

rising_back : (xs ys : List Guard) → Rising (xs ++ ys) → Rising ys
rising_back [] ys h = h
rising_back (x ∷ xs) ys h = rising_back xs ys h.1

rising_drop : (n : ℕ) (xs : List Guard) → Rising xs → Rising (drop n xs)
rising_drop zero xs h = h
rising_drop (suc n) [] h = h
rising_drop (suc n) (x ∷ xs) h = rising_drop n xs h.1

-- PASSING A GUARD keeps what deciding its node keeps, and its node is decided where it decides.
abbrev pub Meets : Bool → Guard → Marks → Type 0
Meets v g m = deciding v g ≡ true → Has v g.node m

pub wide_decides : (value : Bool) (g : Guard) (m : Marks) → Wide m → Wide (decides value g m).marks
wide_decides value g m w = decides_keeps Wide value g m w (wide_decide value m g.node w)

pub decides_stays : (v : Bool) (k : ℕ) (value : Bool) (g : Guard) (m : Marks) → Has v k m → Has v k (decides value g m).marks
decides_stays v k value g m h = decides_keeps (Has v k) value g m h (has_stays v k value m g.node h)

meets-after : (v : Bool) (g : Guard) (m : Marks) → g.node < max_nodes → Wide m → contradicts (decides v g m).step ≡ false → Meets v g (decides v g m).marks
meets-after v g m h w c e = by (deciding v g) e c
  where
    by : (b : Bool) → b ≡ true → contradicts (cond b (decide v m g.node) (decided m Unchanged)).step ≡ false
        → Has v g.node (cond b (decide v m g.node) (decided m Unchanged)).marks
    by true f d = has_after v m g.node h w d
    by false f d = absurd (unequal cc)

-- RULE 2 IS DONE: the cursor passes just the guards whose bounds are reached, and those that it passes now and that decide are sure.
pub record SurePassed (gs : List Guard) (st : State) (n : ℕ) (m : Marks) : Type 0 where
  pub inside : Each (λ (g : Guard). le_z g.bound (reached st) ≡ true) (take st.sure_guard gs) → Each (λ (g : Guard). le_z g.bound (reached st) ≡ true) (take n gs)
  pub all : Each (λ (g : Guard). le_z g.bound (reached st) ≡ false) (drop n gs)
  pub fresh : Each (λ (g : Guard). Meets true g m) (drop st.sure_guard (take n gs))

pub sure_complete : (gs : List Guard) (st : State) (m : Marks) → Rising gs → Each (λ (g : Guard). g.node < max_nodes) gs → Wide m
    → contradicts (sure_guards gs st m).step ≡ false
    → let a = sure_guards gs st m in SurePassed gs st (st.sure_guard + a.passed) a.marks
sure_complete gs st m up small w c =
    let o : Ends = scan_stops (sure_waits st) (decides true) Wide Reached (λ g k p. wide_decides true g k p)
    (λ g h k p. (p.0, λ e. decides_stays true g.node true h k (p.1 e))) (drop st.sure_guard gs)
    (λ g k i p v d. (nlt-le_z (reached st) g.bound v, meets-after true g k (small g (mem_drop st.sure_guard gs g i)) p d)) 0 m Unchanged w refl c in
    record {
      inside = λ old g i. ⊎_elim (old g) (λ j. (o.done g j).0) (front-cases gs o.front o.back st.sure_guard a.passed o.split o.passed g i);
      all = λ g i. ⊎_elim
          (λ (h : le_z g.bound (reached st) ≡ true).
          absurd (waits-on g h o (subst (λ (l : List Guard). Memᴰ g l) (back-now gs o.front o.back st.sure_guard a.passed o.split o.passed) i)))
          (λ h. h) (true-false (le_z g.bound (reached st)));
      fresh = λ g i. (o.done g (subst (λ (l : List Guard). Memᴰ g l) (front-now gs o.front o.back st.sure_guard a.passed o.split o.passed) i)).1;
    }
  where
    a : Scanned
    a = sure_guards gs st m

    Reached : Guard → Marks → Type 0
    Reached g k = (le_z g.bound (reached st) ≡ true) × Meets true g k

    Ends : Type 0
    Ends = Stopped (sure_waits st) Reached (drop st.sure_guard gs) 0 a

    waits-on : (g : Guard) → le_z g.bound (reached st) ≡ true → (o : Ends) → Memᴰ g o.back → ⊥
    waits-on g h o b =
        ⊎_elim (λ (e : o.back ≡ []). Memᴰ.not-nil (subst (λ (l : List Guard). Memᴰ g l) e b))
        (λ n.
        let x = n.0 in
        let up' : Rising (x ∷ n.1) = subst Rising n.2 (rising_back o.front o.back (subst Rising o.split (rising_drop st.sure_guard gs up))) in
        let le : le_z x.bound g.bound ≡ true =
        ⊎_elim (λ (e : g ≡ x). subst (λ (y : Guard). le_z x.bound y.bound ≡ true) (sym e) (le_z_refl x.bound)) (λ j. up'.0 g j)
        (Memᴰ.cases_cons (subst (λ (l : List Guard). Memᴰ g l) n.2 b)) in
        let f = le_z-nlt (reached st) x.bound (le_z_trans x.bound g.bound (reached st) le h) in
        unequal (cc (f, n.3))) o.next

falling_back : (xs ys : List Term) → Falling (xs ++ ys) → Falling ys
falling_back [] ys h = h
falling_back (x ∷ xs) ys h = falling_back xs ys h.1

falling_drop : (n : ℕ) (xs : List Term) → Falling xs → Falling (drop n xs)
falling_drop zero xs h = h
falling_drop (suc n) [] h = h
falling_drop (suc n) (x ∷ xs) h = falling_drop n xs h.1

pub wide_force : (value : Bool) (m : Marks) (n : ℕ) → Wide m → Wide (force value m n).marks
wide_force value m n w = by (is_decided m n)
  where
    by : (b : Bool) → Wide (cond b (decided m Unchanged) (decide value m n)).marks
    by true = w
    by false = wide_decide value m n w

pub force_stays : (k : ℕ) (value : Bool) (m : Marks) (n : ℕ) → is_decided m k ≡ true → is_decided (force value m n).marks k ≡ true
force_stays k value m n h = by (is_decided m n)
  where
    by : (b : Bool) → is_decided (cond b (decided m Unchanged) (decide value m n)).marks k ≡ true
    by true = h
    by false = decided_stays k value m n h

force_makes : (value : Bool) (m : Marks) (n : ℕ) → n < max_nodes → Wide m → contradicts (force value m n).step ≡ false → is_decided (force value m n).marks n ≡ true
force_makes value m n s w c = by (is_decided m n) refl c
  where
    by : (b : Bool) → is_decided m n ≡ b → contradicts (cond b (decided m Unchanged) (decide value m n)).step ≡ false → is_decided (cond b (decided m Unchanged) (decide value m n)).marks n ≡ true
    by true e d = e
    by false e d = either_has value n (decide value m n).marks (has_after value m n s w d)

pub force_has : (v : Bool) (k : ℕ) (value : Bool) (m : Marks) (n : ℕ) → Has v k m → Has v k (force value m n).marks
force_has v k value m n h = by (is_decided m n)
  where
    by : (b : Bool) → Has v k (cond b (decided m Unchanged) (decide value m n)).marks
    by true = h
    by false = has_stays v k value m n h

-- RULES 4 AND 5 ARE DONE: every term that the cutoff forces is decided, and so is every term that the cursor passed.
pub forced_complete : (value : Bool) (light : ℕ → Bool) → ((a b : ℕ) → a ≤ b → light b ≡ true → light a ≡ true)
    → (ts : List Term) (n : ℕ) (m : Marks) → Falling ts → Each (λ (t : Term). t.condition < max_nodes) ts → Wide m
    → Each (λ (t : Term). is_decided m t.condition ≡ true) (take n ts) → contradicts (forced value light (drop n ts) m).step ≡ false
    → let a = forced value light (drop n ts) m in
    Each (λ (t : Term). is_decided a.marks t.condition ≡ true) (take (n + a.passed) ts)
    × Each (λ (t : Term). light t.weight ≡ false → is_decided a.marks t.condition ≡ true) ts
forced_complete value light down ts n m fall small w old c =
    let o = scan_stops (term_waits light) (forces value) Wide (λ (t : Term) (k : Marks). is_decided k t.condition ≡ true) (λ t k p. wide_force value k t.condition p)
    (λ t u k p. force_stays t.condition value k u.condition p) (drop n ts)
    (λ t k i p v d. force_makes value k t.condition (small t (mem_drop n ts t i)) p d) 0 m Unchanged w refl c in
    let before : Each (λ (t : Term). is_decided (forced value light (drop n ts) m).marks t.condition ≡ true) (take n ts) =
    λ t i. (scan_keeps (λ (k : Marks). is_decided k t.condition ≡ true) (Unit {0}) (term_waits light) (forces value) (drop n ts)
    (λ u k j p v. (force_stays t.condition value k u.condition p, λ _. tt)) 0 m Unchanged (old t i) refl).0 in (
      λ t i. ⊎_elim (before t) (o.done t) (front-cases ts o.front o.back n (forced value light (drop n ts) m).passed o.split o.passed t i),
      λ t i h. ⊎_elim (before t) (λ j. ⊎_elim (o.done t) (λ b. absurd (waits-on t h o b)) j) (split-cases ts o.front o.back n o.split t i),
    )
  where
    waits-on : (t : Term) → light t.weight ≡ false
        → (o : Stopped (term_waits light) (λ (t : Term) (k : Marks). is_decided k t.condition ≡ true) (drop n ts) 0 (forced value light (drop n ts) m)) → Memᴰ t o.back → ⊥
    waits-on t h o b =
        ⊎_elim (λ (e : o.back ≡ []). Memᴰ.not-nil (subst (λ (l : List Term). Memᴰ t l) e b))
        (λ q.
        let x = q.0 in
        let fall' : Falling (x ∷ q.1) = subst Falling q.2 (falling_back o.front o.back (subst Falling o.split (falling_drop n ts fall))) in
        let le : t.weight ≤ x.weight =
        ⊎_elim (λ (e : t ≡ x). let z : t.weight ≡ x.weight = ap (λ (y : Term). y.weight) e in omega arith) (λ j. fall'.0 t j)
        (Memᴰ.cases_cons (subst (λ (l : List Term). Memᴰ t l) q.2 b)) in
        let f = down t.weight x.weight le (and_right (not (is_decided (forced value light (drop n ts) m).marks x.condition)) (light x.weight) q.3) in
        unequal (cc (f, h))) o.next

-- GUARDS FROM ABOVE: bounds fall along the reversed list.
abbrev FallingBounds : List Guard → Type 0
FallingBounds [] = Unit {0}
FallingBounds (g ∷ gs) = Each (λ (h : Guard). le_z h.bound g.bound ≡ true) gs × FallingBounds gs

falls_snoc : (gs : List Guard) (x : Guard) → FallingBounds gs → Each (λ (h : Guard). le_z x.bound h.bound ≡ true) gs → FallingBounds (gs ++ (x ∷ []))
falls_snoc [] x f h = (λ y i. absurd (Memᴰ.not-nil i), tt)
falls_snoc (g ∷ gs) x f h = (
  λ y i. ⊎_elim (f.0 y)
      (λ j. ⊎_elim (λ (e : y ≡ x). subst (λ (z : Guard). le_z z.bound g.bound ≡ true) (sym e) (h g (Memᴰ.head refl))) (λ k. absurd (Memᴰ.not-nil k)) (Memᴰ.cases_cons j))
      (Memᴰ.append_cases gs i),
  falls_snoc gs x f.1 (λ y i. h y (Memᴰ.tail i)),
)

reverse_falls : (gs : List Guard) → Rising gs → FallingBounds (reverse gs)
reverse_falls [] h = tt
reverse_falls (g ∷ gs) h = subst FallingBounds (sym (reverse-cons g gs)) (falls_snoc (reverse gs) g (reverse_falls gs h.1) (λ y i. h.0 y (mem_reverse gs y i)))

rising_take : (n : ℕ) (gs : List Guard) → Rising gs → Rising (take n gs)
rising_take zero gs h = tt
rising_take (suc n) [] h = tt
rising_take (suc n) (g ∷ gs) h = (λ y i. h.0 y (mem_take n gs y i), rising_take n gs h.1)

falls_back : (xs ys : List Guard) → FallingBounds (xs ++ ys) → FallingBounds ys
falls_back [] ys h = h
falls_back (x ∷ xs) ys h = falls_back xs ys h.1

-- what is in reach stays so for a lower bound
reach_down : (st : State) (a b : ℤ) → le_z a b ≡ true → reachable st b ≡ true → reachable st a ≡ true
reach_down st a b h k = both_true (le_z_trans a b st.possible h (and_left (le_z b st.possible) _ k)) (under st.upper (and_right (le_z b st.possible) _ k))
  where
    both_true : {p q : Bool} → p ≡ true → q ≡ true → (p && q) ≡ true
    both_true {p} {q} e f = ap₂ (λ (x y : Bool). x && y) e f

    below : (u : ℤ) (t : Bool) → le_z u a ≡ t → not (le_z u b) ≡ true → not t ≡ true
    below u true e f = ap not (sym (le_z_trans u a b e h)) ∙ f
    below u false e f = refl

    under : (x : Option ℤ) → not (upper_at_most x b) ≡ true → not (upper_at_most x a) ≡ true
    under None e = refl
    under (Some u) e = below u (le_z u a) refl e

-- RULE 3 IS DONE: every guard whose bound is out of reach is never, and so is every guard behind the cursor.
pub never_complete : (gs : List Guard) (st : State) (m : Marks) (k : Step) → Rising gs → Each (λ (g : Guard). g.node < max_nodes) gs → Wide m → st.never_guard ≤ length gs
    → Each (λ (g : Guard). Meets false g m) (drop st.never_guard gs) → contradicts k ≡ false → contradicts (never_guards gs st m k).step ≡ false
    → let a = never_guards gs st m k in
    Each (λ (g : Guard). Meets false g a.marks) (drop (st.never_guard - a.passed) gs)
    × Each (λ (g : Guard). reachable st g.bound ≡ false → Meets false g a.marks) gs
never_complete gs st m k up small w fits old ck c =
    let o = scan_stops (never_waits st) (decides false) Wide (Meets false) (λ g n p. wide_decides false g n p)
    (λ g h n p e. decides_stays false g.node false h n (p e)) rs
    (λ g n i p v d. meets-after false g n (small g (mem_take st.never_guard gs g (mem_reverse (take st.never_guard gs) g i))) p d) 0 m k w ck c in
    let before : Each (λ (g : Guard). Meets false g (never_guards gs st m k).marks) (drop st.never_guard gs) =
    λ g i e. (scan_keeps (Has false g.node) (Unit {0}) (never_waits st) (decides false) rs
    (λ h n j p v. (decides_stays false g.node false h n p, λ _. tt)) 0 m k (old g i e) ck).0 in (
      λ g i. ⊎_elim (λ j. o.done g (mem_reverse o.front g j)) (before g)
          (Memᴰ.append_cases (reverse o.front) (subst (λ (l : List Guard). Memᴰ g l) (cursor o) i)),
      λ g i h. ⊎_elim
          (λ j. ⊎_elim (o.done g) (λ b. absurd (waits-on g h o b)) (Memᴰ.append_cases o.front (subst (λ (l : List Guard). Memᴰ g l) o.split (in-reverse (take st.never_guard gs) g j))))
          (before g)
          (Memᴰ.append_cases (take st.never_guard gs) (subst (λ (l : List Guard). Memᴰ g l) (sym (take-append-drop st.never_guard gs)) i)),
    )
  where
    rs : List Guard
    rs = reverse (take st.never_guard gs)

    Ends : Type 0
    Ends = Stopped (never_waits st) (Meets false) rs 0 (never_guards gs st m k)

    in-reverse : (xs : List Guard) (g : Guard) → Memᴰ g xs → Memᴰ g (reverse xs)
    in-reverse xs g i = mem_reverse (reverse xs) g (subst (λ (l : List Guard). Memᴰ g l) (sym (reverse-reverse xs)) i)

    cursor : (o : Ends) → drop (st.never_guard - (never_guards gs st m k).passed) gs ≡ reverse o.front ++ drop st.never_guard gs
    cursor o =
        let t : take st.never_guard gs ≡ reverse o.back ++ reverse o.front = sym (reverse-reverse (take st.never_guard gs)) ∙ ap reverse o.split ∙ reverse-append o.front o.back in
        let e : gs ≡ reverse o.back ++ (reverse o.front ++ drop st.never_guard gs) =
        sym (take-append-drop st.never_guard gs) ∙ ap (λ (l : List Guard). l ++ drop st.never_guard gs) t
        ∙ append_assoc (reverse o.back) (reverse o.front) (drop st.never_guard gs) in
        let n : length (take st.never_guard gs) ≡ st.never_guard = length-take st.never_guard gs ∙ omega arith in
        let q : length (take st.never_guard gs) ≡ length (reverse o.back) + length (reverse o.front) = ap length t ∙ length-append (reverse o.back) (reverse o.front) in
        let f = length-reverse o.front in
        let p = o.passed in
        let d : st.never_guard - (never_guards gs st m k).passed ≡ length (reverse o.back) = omega arith in
        ap₂ (λ (i : ℕ) (l : List Guard). drop i l) d e ∙ drop-append_seam (reverse o.back) (reverse o.front ++ drop st.never_guard gs)

    waits-on : (g : Guard) → reachable st g.bound ≡ false → (o : Ends) → Memᴰ g o.back → ⊥
    waits-on g h o b =
        ⊎_elim (λ (e : o.back ≡ []). Memᴰ.not-nil (subst (λ (l : List Guard). Memᴰ g l) e b))
        (λ n.
        let x = n.0 in
        let fall : FallingBounds (x ∷ n.1) = subst FallingBounds n.2 (falls_back o.front o.back (subst FallingBounds o.split (reverse_falls (take st.never_guard gs) (rising_take st.never_guard gs up)))) in
        let le : le_z g.bound x.bound ≡ true =
        ⊎_elim (λ (e : g ≡ x). subst (λ (y : Guard). le_z y.bound x.bound ≡ true) (sym e) (le_z_refl x.bound)) (λ j. fall.0 g j)
        (Memᴰ.cases_cons (subst (λ (l : List Guard). Memᴰ g l) n.2 b)) in
        let f = reach_down st g.bound x.bound le n.3 in
        unequal (cc (f, h))) o.next
