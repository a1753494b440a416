-- A scan, place by place: what a turn leaves, how far a scan comes, and what it keeps. Assumes nothing.
use Rattle.std.specs.Prelude.{ℕ, zero, suc, ◌+◌, ◌<◌, ◌≤◌, ◌≡◌, Bool, ◌&&◌, not, take, drop}
use native.Mathlib.Omega.{arith}
use Rattle.std.proofs.Math.Path.{refl, sym, ap}
use Rattle.std.proofs.Common.{◌∙◌}
use Rattle.std.proofs.Math.Bool.{true, false, cond}
use mathlib.Core.List.{List, [], ◌∷◌, reverse, reverse_aux}
use Rattle.std.proofs.Math.ListN.{length}
use Rattle.base.specs.All.{All}
use Rattle.base.specs.TestLaws.{contrary}
use Rattle.state.specs.declared.Step.{Step}
use Rattle.state.specs.declared.Step.TheVariants.{Unchanged, Changed, Contradiction}
use Rattle.state.specs.Step.{joined, contradicts}
use Rattle.queues.specs.declared.Ring.{Ring}
use Rattle.queues.specs.Queue.{queue}
use Rattle.queues.specs.Marks.{Marks, marks, Decided, decided, is_decided, decide}
use Rattle.queues.proofs.MarksLaws.{waits-decide}
use Rattle.queues.specs.Waiting.{Waits}
use Rattle.row_runs.specs.Scan.{Scanned, scanned, scan, force}
use Rattle.row_runs.specs.Turns.{Turned, turn, turned}

pub joined_last : (s : Step) → joined s Unchanged ≡ s
joined_last Unchanged = refl
joined_last Changed = refl
joined_last Contradiction = refl

-- The three turns.
pub turn-waits : (d : Decided) (s : Scanned) → turned true d s ≡ turn s true
unfolding turned
turn-waits d s = refl

pub turn_stops : (d : Decided) (s : Scanned) → contradicts d.step ≡ true → turned false d s ≡ turn (scanned (s.passed + 1) d.marks Contradiction) true
unfolding turned
turn_stops d s h = rw (h, turned)

pub turn_on : (d : Decided) (s : Scanned) → contradicts d.step ≡ false
    → turned false d s ≡ turn (scanned (s.passed + 1) d.marks (joined s.step d.step)) false
unfolding turned
turn_on d s h = rw (h, turned)

-- A scan at its first place: it ends with the turn, or goes on behind it.
module _ {X : Type 0} (waits : X → Marks → Bool) (act : X → Marks → Decided) (x : X) (xs : List X) (n : ℕ) (m : Marks) (k : Step) where
  after : Turned → Scanned
  after t = cond t.ends t.scanned (scan waits act xs t.scanned.passed t.scanned.marks t.scanned.step)

  scan-turn : scan waits act (x ∷ xs) n m k ≡ after (turned (waits x m) (act x m) (scanned n m k))
  unfolding scan after
  scan-turn = by (waits x m) refl (contradicts (act x m).step) refl
    where
      by : (w : Bool) → waits x m ≡ w → (c : Bool) → contradicts (act x m).step ≡ c
          → scan waits act (x ∷ xs) n m k ≡ after (turned (waits x m) (act x m) (scanned n m k))
      by true e c f = rw (e, scan, turn-waits (act x m) (scanned n m k))
      by false e true f = rw (e, turn_stops (act x m) (scanned n m k) f, scan) (rw f)
      by false e false f = rw (e, turn_on (act x m) (scanned n m k) f, scan) (rw f)

  module _ (t : Turned) (made : t ≡ turned (waits x m) (act x m) (scanned n m k)) where
    pub scan-ends : t.ends ≡ true → t.scanned ≡ scan waits act (x ∷ xs) n m k
    unfolding after
    scan-ends e =
        sym (scan-turn ∙ ap after (sym made) ∙ ap (λ (b : Bool). cond b t.scanned (scan waits act xs t.scanned.passed t.scanned.marks t.scanned.step)) e)

    pub scan_goes : t.ends ≡ false → scan waits act xs t.scanned.passed t.scanned.marks t.scanned.step ≡ scan waits act (x ∷ xs) n m k
    unfolding after
    scan_goes e =
        sym (scan-turn ∙ ap after (sym made) ∙ ap (λ (b : Bool). cond b t.scanned (scan waits act xs t.scanned.passed t.scanned.marks t.scanned.step)) e)

pub scan-none : {X : Type 0} (waits : X → Marks → Bool) (act : X → Marks → Decided) (n : ℕ) (m : Marks) (k : Step) → scan waits act [] n m k ≡ scanned n m k
unfolding scan
scan-none waits act n m k = refl

-- A turn that goes on passes one place; one that ends passes at most one.
pub turn_passed : (w : Bool) (d : Decided) (s : Scanned) → (turned w d s).ends ≡ false → (turned w d s).scanned.passed ≡ s.passed + 1
unfolding turned
turn_passed true d s e = contrary e
turn_passed false d s e = by (contradicts d.step) refl
  where
    by : (c : Bool) → contradicts d.step ≡ c → (turned false d s).scanned.passed ≡ s.passed + 1
    by true f = rw (turn_stops d s f)
    by false f = rw (turn_on d s f)

-- What a turn keeps.
pub turn_keeps : (P : Marks → Type 0) (w : Bool) (d : Decided) (s : Scanned) → P s.marks → P d.marks → P (turned w d s).scanned.marks
unfolding turned
turn_keeps P true d s a b = a
turn_keeps P false d s a b = by (contradicts d.step) refl
  where
    by : (c : Bool) → contradicts d.step ≡ c → P (turned false d s).scanned.marks
    by true f = rw (turn_stops d s f) b
    by false f = rw (turn_on d s f) b

module _ {X : Type 0} (P : X → Type 0) where
  pub all_drop : (n : ℕ) (xs : List X) → All P xs → All P (drop n xs)
  all_drop zero xs h = h
  all_drop (suc n) [] h = h
  all_drop (suc n) (x ∷ xs) h = all_drop n xs h.1

  pub all_take : (n : ℕ) (xs : List X) → All P xs → All P (take n xs)
  all_take zero xs h = Prim.tt
  all_take (suc n) [] h = h
  all_take (suc n) (x ∷ xs) h = (h.0, all_take n xs h.1)

  pub all_reverse : (xs : List X) → All P xs → All P (reverse xs)
  all_reverse xs h = go xs [] h Prim.tt
    where
      go : (ys acc : List X) → All P ys → All P acc → All P (reverse_aux ys acc)
      go [] acc a b = b
      go (y ∷ ys) acc a b = go ys (y ∷ acc) a.1 (a.0, b)

-- What holds before and is kept by each act holds after; and no more places are passed than there are.
module _ {X : Type 0} (waits : X → Marks → Bool) (act : X → Marks → Decided) where
  pub scan_keeps : (P : Marks → Type 0) (Q : X → Type 0) → ((x : X) (m : Marks) → Q x → P m → P (act x m).marks)
      → (xs : List X) (n : ℕ) (m : Marks) (k : Step) → All Q xs → P m → P (scan waits act xs n m k).marks
  unfolding scan
  scan_keeps P Q f [] n m k q p = p
  scan_keeps P Q f (x ∷ xs) n m k q p = by (waits x m) refl (contradicts (act x m).step) refl (scan_keeps P Q f xs (n + 1) (act x m).marks (joined k (act x m).step) q.1 (f x m q.0 p))
    where
      by : (w : Bool) → waits x m ≡ w → (c : Bool) → contradicts (act x m).step ≡ c
          → P (scan waits act xs (n + 1) (act x m).marks (joined k (act x m).step)).marks → P (scan waits act (x ∷ xs) n m k).marks
      by true e c g rest = rw (e, scan) p
      by false e true g rest = rw (e, scan) (rw g (f x m q.0 p))
      by false e false g rest = rw (e, scan) (rw g rest)

  pub scan_within : (xs : List X) (n : ℕ) (m : Marks) (k : Step) → (scan waits act xs n m k).passed ≤ n + length xs
  unfolding scan
  scan_within [] n m k = omega arith
  scan_within (x ∷ xs) n m k = by (waits x m) refl (contradicts (act x m).step) refl (scan_within xs (n + 1) (act x m).marks (joined k (act x m).step))
    where
      by : (w : Bool) → waits x m ≡ w → (c : Bool) → contradicts (act x m).step ≡ c
          → (scan waits act xs (n + 1) (act x m).marks (joined k (act x m).step)).passed ≤ n + 1 + length xs
          → (scan waits act (x ∷ xs) n m k).passed ≤ n + length (x ∷ xs)
      by true e c g rest = rw (e, scan) (omega arith)
      by false e true g rest = rw (e, scan) (rw g (omega arith))
      by false e false g rest = rw (e, scan) (rw g (omega arith))

-- ---- turns as the code makes them

pub waits-turn : (w : Bool) (d : Decided) (s : Scanned) → w ≡ true → turn s true ≡ turned w d s
waits-turn w d s e = rw (e, turn-waits d s)

-- A decision, and a place passed with it.
module _ (value w : Bool) (m : Marks) (x q : ℕ) (i : Step) (s n l : List ℕ) (r r' : Ring) (k : Step) (p : ℕ) (j : Step) (b : Bool) (a : r' ≡ r)
    (f : (y z : Marks) → turn (scanned p y j) b ≡ turned false (decided y k) (scanned q z i)) where
  pub guard_passed : w ≡ false → decided (marks s n (queue l r)) k ≡ decide value m x
      → turn (scanned p (marks s n (queue l r')) j) b ≡ turned w (decide value m x) (scanned q m i)
  guard_passed h e =
      f (marks s n (queue l r')) m
      ∙ ap (λ (y : Ring). turned false (decided (marks s n (queue l y)) k) (scanned q m i)) a
      ∙ ap (λ (d : Decided). turned false d (scanned q m i)) e
      ∙ ap (λ (v : Bool). turned v (decide value m x) (scanned q m i)) (sym h)

  pub term_passed : k ≡ Unchanged → marks s n (queue l r) ≡ m → is_decided m x ≡ true
      → turn (scanned p (marks s n (queue l r')) j) b ≡ turned (not (is_decided m x) && w) (force value m x) (scanned q m i)
  term_passed u e h =
      f (marks s n (queue l r')) m
      ∙ ap (λ (y : Ring). turned false (decided (marks s n (queue l y)) k) (scanned q m i)) a
      ∙ ap (λ (y : Step). turned false (decided (marks s n (queue l r)) y) (scanned q m i)) u
      ∙ ap (λ (y : Marks). turned false (decided y Unchanged) (scanned q m i)) e
      ∙ ap (λ (v : Bool). turned (not v && w) (cond v (decided m Unchanged) (decide value m x)) (scanned q m i)) (sym h)

pub term_free : (value w : Bool) (m : Marks) (x : ℕ) (s : Scanned) → is_decided m x ≡ false
    → turned w (decide value m x) s ≡ turned (not (is_decided m x) && w) (force value m x) s
term_free value w m x s h = ap (λ (v : Bool). turned (not v && w) (cond v (decided m Unchanged) (decide value m x)) s) (sym h)

-- What waits after a turn.
pub guard_keeps : (value w : Bool) (m : Marks) (x q : ℕ) (i : Step) → x < 4096 → Waits m → Waits (turned w (decide value m x) (scanned q m i)).scanned.marks
guard_keeps value w m x q i h a = turn_keeps Waits w (decide value m x) (scanned q m i) a (waits-decide m a value x h)

pub force_keeps : (value : Bool) (m : Marks) (x : ℕ) → x < 4096 → Waits m → Waits (force value m x).marks
force_keeps value m x h a = by (is_decided m x) refl
  where
    by : (b : Bool) → is_decided m x ≡ b → Waits (force value m x).marks
    by true e = rw e a
    by false e = rw e (waits-decide m a value x h)

pub term_keeps : (value w : Bool) (m : Marks) (x q : ℕ) (i : Step) → x < 4096 → Waits m
    → Waits (turned (not (is_decided m x) && w) (force value m x) (scanned q m i)).scanned.marks
term_keeps value w m x q i h a = turn_keeps Waits (not (is_decided m x) && w) (force value m x) (scanned q m i) a (force_keeps value m x h a)

-- A scan at a place of a loop, with the test and the turn as the code has them.
module _ {X : Type 0} (waits : X → Marks → Bool) (act : X → Marks → Decided) (l : List X) (x : X) (xs : List X) (here : l ≡ x ∷ xs) (q : ℕ) (m : Marks) (i : Step)
    (w : Bool) (v : w ≡ waits x m) (t : Turned) (e : t ≡ turned w (act x m) (scanned q m i)) where
  made : t ≡ turned (waits x m) (act x m) (scanned q m i)
  made = e ∙ ap (λ (b : Bool). turned b (act x m) (scanned q m i)) v

  pub place-ends : t.ends ≡ true → t.scanned ≡ scan waits act l q m i
  place-ends h = scan-ends waits act x xs q m i t made h ∙ ap (λ (y : List X). scan waits act y q m i) (sym here)

  pub place_goes : t.ends ≡ false → scan waits act xs t.scanned.passed t.scanned.marks t.scanned.step ≡ scan waits act l q m i
  place_goes h = scan_goes waits act x xs q m i t made h ∙ ap (λ (y : List X). scan waits act y q m i) (sym here)

  pub place_passed : t.ends ≡ false → t.scanned.passed ≡ q + 1
  place_passed h =
      ap (λ (y : Turned). y.scanned.passed) e
      ∙ turn_passed w (act x m) (scanned q m i) (ap (λ (y : Turned). y.ends) (sym e) ∙ h)

  pub place_keeps : (P : Marks → Type 0) → P m → P (act x m).marks → P t.scanned.marks
  place_keeps P a b = rw e (turn_keeps P w (act x m) (scanned q m i) a b)
