-- The plain rule table of document 01: rules, conflicts and runs on states of their own, whatever the order.
use Rattle.std.specs.Prelude.{ℕ, ◌+◌, ◌<◌, ◌≤◌, ◌≡◌, Bool, true, false, cond, ◌||◌, ◌⊎◌, length, get_or, eqb, ℤ, pos, ◌-ℤ◌, ◌≤ℤ◌, ◌<ℤ◌, Option, None, Some}
use mathlib.Core.List.{List, [], ◌∷◌, ◌++◌, Memᴰ}
use Rattle.numeric.specs.Threshold.{Term}
use Rattle.state.specs.State.{max_z}
use Rattle.rows.specs.Rows.{Row, Guard, Other, alone, beside, MayDecide, Linked, no_row}

-- A state of the table: which nodes are sure and which never, and for each row its lower and its upper.
pub record Table : Type 0 where
  pub sure : ℕ → Bool
  pub never : ℕ → Bool
  pub lower : ℕ → ℤ
  pub upper : ℕ → Option ℤ

-- The start: some nodes with their values; each row begins with lower 0 and no upper.
abbrev pub start : (ℕ → Bool) → (ℕ → Bool) → Table
start sure never = record { sure = sure; never = never; lower = λ r. pos 0; upper = λ r. None }

-- Known: the weights of the sure terms. Possible: all weights less those of the never terms.
unfoldable pub known : (ℕ → Bool) → List Term → ℕ
known sure [] = 0
known sure (t ∷ ts) = cond (sure t.condition) t.weight 0 + known sure ts

unfoldable pub possible : (ℕ → Bool) → List Term → ℕ
possible never [] = 0
possible never (t ∷ ts) = cond (never t.condition) 0 t.weight + possible never ts

-- There is an upper, and it is at most z.
abbrev pub AtMost : Option ℤ → ℤ → Type 0
AtMost None z = ⊥
AtMost (Some u) z = u ≤ℤ z

-- The first upper lies below the second, or the second is none.
abbrev pub Below : Option ℤ → Option ℤ → Type 0
Below None u = ⊥
Below (Some a) None = Unit {0}
Below (Some a) (Some b) = a <ℤ b

-- A function changed at one place.
abbrev pub at : {X : Type 0} → ℕ → X → (ℕ → X) → ℕ → X
at n x f m = cond (eqb m n) x (f m)

abbrev pub decide_sure : Table → ℕ → Table
decide_sure s n = record { sure = at n true s.sure; never = s.never; lower = s.lower; upper = s.upper }

abbrev pub decide_never : Table → ℕ → Table
decide_never s n = record { sure = s.sure; never = at n true s.never; lower = s.lower; upper = s.upper }

abbrev pub raise_lower : Table → ℕ → ℤ → Table
raise_lower s r b = record { sure = s.sure; never = s.never; lower = at r b s.lower; upper = s.upper }

abbrev pub lower_upper : Table → ℕ → Option ℤ → Table
lower_upper s r u = record { sure = s.sure; never = s.never; lower = s.lower; upper = at r u s.upper }

-- The rules of a job's rows; each premise says also that the conclusion does not stand yet.
module _ (rows : List Row) where
  abbrev pub IsRow : ℕ → Type 0
  IsRow r = r < length rows

  abbrev pub terms_of : ℕ → List Term
  terms_of r = (get_or rows r no_row).terms

  abbrev pub Guards : ℕ → Guard → Type 0
  Guards r g = IsRow r × Memᴰ g (get_or rows r no_row).guards

  abbrev pub HasTerm : ℕ → Term → Type 0
  HasTerm r t = IsRow r × Memᴰ t (terms_of r)

  abbrev pub known_of : Table → ℕ → ℤ
  known_of s r = pos (known s.sure (terms_of r))

  abbrev pub possible_of : Table → ℕ → ℤ
  possible_of s r = pos (possible s.never (terms_of r))

  abbrev pub reached_of : Table → ℕ → ℤ
  reached_of s r = max_z (known_of s r) (s.lower r)

  -- The other measure of a guard's node is reached, if it has one.
  unfoldable pub OtherReached : Table → Other → Type 0
  OtherReached s alone = Unit {0}
  OtherReached s (beside q b) = b ≤ℤ reached_of s q

  abbrev pub Undecided : Table → ℕ → Type 0
  Undecided s n = (s.sure n ≡ false) × (s.never n ≡ false)

  -- The three things that rules 1 to 3 ask of a guard of row r. It falls short: its node is never, though the other measure is reached.
  -- It is reached, or out of reach: so its node is decided, if it may be.
  abbrev pub FallsShort : Table → Guard → Type 0
  FallsShort s g = (s.never g.node ≡ true) × OtherReached s g.other

  abbrev pub Reached : Table → ℕ → Guard → Type 0
  Reached s r g = MayDecide g × (g.bound ≤ℤ reached_of s r) × OtherReached s g.other

  abbrev pub OutOfReach : Table → ℕ → Guard → Type 0
  OutOfReach s r g = MayDecide g × ((possible_of s r <ℤ g.bound) ⊎ AtMost (s.upper r) g.bound)

  -- The terms of row r stand at the start of row q's, and both rows are linked; two rows with equal terms are prefixes of each other.
  abbrev pub Prefixed : ℕ → ℕ → Type 0
  Prefixed r q = (rest : List Term) × (terms_of q ≡ terms_of r ++ rest) × Linked (get_or rows r no_row) × Linked (get_or rows q no_row)

  abbrev pub IsPrefix : ℕ → ℕ → Type 0
  IsPrefix r q = IsRow r × IsRow q × Prefixed r q

  pub data Step (s : Table) : Table → Type 0 where
    -- 1. Guard sure: lower is at least its bound. Guard never: upper is at most its bound.
    sure-guard : (r : ℕ) (g : Guard) → Guards r g → s.sure g.node ≡ true → s.lower r <ℤ g.bound → Step s (raise_lower s r g.bound)
    never-guard : (r : ℕ) (g : Guard) → Guards r g → FallsShort s g → Below (Some g.bound) (s.upper r) → Step s (lower_upper s r (Some g.bound))
    -- 2. Bound at most max(known, lower): guard sure.
    bound-reached : (r : ℕ) (g : Guard) → Guards r g → Reached s r g → s.sure g.node ≡ false → Step s (decide_sure s g.node)
    -- 3. Bound above possible, or at least upper: guard never.
    bound-out-of-reach : (r : ℕ) (g : Guard) → Guards r g → OutOfReach s r g → s.never g.node ≡ false → Step s (decide_never s g.node)
    -- 4. Undecided weight above possible - lower: term sure.
    term-needed : (r : ℕ) (t : Term) → HasTerm r t → Undecided s t.condition → (possible_of s r -ℤ s.lower r) <ℤ pos t.weight
        → Step s (decide_sure s t.condition)
    -- 5. Undecided weight at least upper - known: term never.
    term-too-heavy : (r : ℕ) (t : Term) (u : ℤ) → HasTerm r t → Undecided s t.condition → s.upper r ≡ Some u → (u -ℤ known_of s r) ≤ℤ pos t.weight
        → Step s (decide_never s t.condition)
    -- 6. The longer's lower becomes at least the shorter's, and the shorter's upper at most the longer's.
    longer-lower : (r q : ℕ) → IsPrefix r q → s.lower q <ℤ s.lower r → Step s (raise_lower s q (s.lower r))
    shorter-upper : (r q : ℕ) → IsPrefix r q → Below (s.upper q) (s.upper r) → Step s (lower_upper s r (s.upper q))

  -- A node both sure and never, lower above possible, or max(known, lower) at least upper.
  pub data Conflict (s : Table) : Type 0 where
    both : (n : ℕ) → s.sure n ≡ true → s.never n ≡ true → Conflict s
    lower-above : (r : ℕ) → IsRow r → possible_of s r <ℤ s.lower r → Conflict s
    upper-reached : (r : ℕ) → IsRow r → AtMost (s.upper r) (reached_of s r) → Conflict s

  -- A run: single steps, one after the other, in any order; a conflict ends it.
  pub data Run : Table → Table → Type 0 where
    done : {s : Table} → Run s s
    more : {s t u : Table} → (Conflict s → ⊥) → Step s t → Run t u → Run s u

  unfoldable pub steps : {s t : Table} → Run s t → ℕ
  steps done = 0
  steps (more h a r) = 1 + steps r

  -- A run from s reaches a conflict.
  abbrev pub ReachesConflict : Table → Type 0
  ReachesConflict s = (t : Table) × Run s t × Conflict t

  -- A run that ended at rest: no conflict, and no step is left.
  abbrev pub AtRest : Table → Type 0
  AtRest t = (Conflict t → ⊥) × ((u : Table) → Step t u → ⊥)

  -- A run from s that went on to its end.
  abbrev pub Ended : Table → Table → Type 0
  Ended s t = Run s t × (Conflict t ⊎ AtRest t)
