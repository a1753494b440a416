-- How far the bounds of rows may still move: lower up and upper down, between -2 ^ 52 and 2 ^ 52. What a row is told by a guard
-- or by another row leaves less. Assumes nothing.
use Rattle.std.specs.Prelude.{ℕ, zero, suc, ◌+◌, ◌-◌, ◌*◌, ◌≤◌, ◌<◌, ◌≡◌, refl, Bool, true, false, List, [], ◌∷◌, length, get_or, set, leb, ℤ, pos, Option, None, Some}
use Rattle.std.proofs.Common.{le_refl, not-suc-le-zero, le_of_suc-le-suc, arith, sym, ap₂, ◌∙◌, ltb-true}
use Rattle.std.specs.Int.Signed.{le_z, lt_z}
use Rattle.std.proofs.lemmas.Bool.{not-true}
use Rattle.base.specs.TestLaws.{and_right, contrary}
use Rattle.base.specs.SignedLaws.{nle-lt_z, lt_z-nle, lt_z-add, lt_z-pos}
use Rattle.state.specs.declared.State.{State}
use Rattle.state.specs.State.{limit, upper_at_most, with_lower, with_upper, no_state, first_state}
use Rattle.rows.specs.Guards.{Bound, raised}
use Rattle.rows.specs.GuardsLaws.{raised-pos, raised_small}
use Rattle.tightening.specs.Told.{Tightened, tight, guard_state, moved_lower, under, moved_upper, moved_state}
use Rattle.tightening.specs.ToldLaws.{guard-cases, lower_cases, upper_cases}
use Rattle.theorem_ends.specs.Sound.{Bounded, AllBounded}

abbrev pub above : ℤ → ℕ
above z = 9007199254740992 - raised z

abbrev pub beneath : Option ℤ → ℕ
beneath None = 9007199254740994
beneath (Some u) = raised u

abbrev pub room : State → ℕ
room s = above s.lower + beneath s.upper

pub zero_bound : Bound (pos 0)
zero_bound = record { low = refl; high = refl }

raised_less : (a b : ℤ) → Bound a → Bound b → lt_z a b ≡ true → raised a < raised b
raised_less a b h k l =
    ltb-true (raised a) (raised b)
    (sym (lt_z-pos (raised a) (raised b)) ∙ ap₂ lt_z (raised-pos a h) (raised-pos b k) ∙ lt_z-add a b (pos 4503599627370496) ∙ l)

beneath_most : (u : Option ℤ) → Bound (limit u) → beneath u ≤ 9007199254740994
beneath_most None h = omega arith
beneath_most (Some u) h = omega (arith, raised_small u h)

pub room_most : (s : State) → Bounded s → room s ≤ 18014398509481986
room_most s h = omega (arith, beneath_most s.upper h.upper)

beneath_less : (u : Option ℤ) (b : ℤ) → Bound (limit u) → Bound b → upper_at_most u b ≡ false → raised b < beneath u
beneath_less None b h k e = omega (arith, raised_small b k)
beneath_less (Some u) b h k e = raised_less b u k h (nle-lt_z b u e)

-- A bound that moves leaves less.
pub room_lower : (s : State) (b : ℤ) → Bounded s → Bound b → le_z b s.lower ≡ false → room (with_lower s b) < room s
unfolding with_lower
room_lower s b h k e =
    omega (arith, raised_less s.lower b h.lower k (nle-lt_z s.lower b e), raised_small b k, raised_small s.lower h.lower)

pub room_upper : (s : State) (b : ℤ) → Bounded s → Bound b → upper_at_most s.upper b ≡ false → room (with_upper s (Some b)) < room s
unfolding with_upper
room_upper s b h k e = omega (arith, beneath_less s.upper b h.upper k e)

bounded_lower : (s : State) (b : ℤ) → Bounded s → Bound b → Bounded (with_lower s b)
unfolding with_lower
bounded_lower s b h k = record { lower = k; upper = h.upper }

bounded_upper : (s : State) (u : Option ℤ) → Bounded s → Bound (limit u) → Bounded (with_upper s u)
unfolding with_upper
bounded_upper s u h k = record { lower = h.lower; upper = k }

-- What a row was told: bounds in the range, and less room if anything is new.
pub record Tells (s : State) (t : Tightened) : Type 0 where
  pub bounded : Bounded t.state
  pub most : room t.state ≤ room s
  pub less : t.changed ≡ true → room t.state < room s

tells_not : (s : State) → Bounded s → Tells s (tight s false)
tells_not s h = record { bounded = h; most = le_refl (room s); less = λ e. contrary (sym e) }

tells_less : (s t : State) → Bounded t → room t < room s → Tells s (tight t true)
tells_less s t h k = record { bounded = h; most = omega arith; less = λ e. k }

pub tells_guard : (s : State) (value : Bool) (b : ℤ) → Bounded s → Bound b → Tells s (guard_state s value b)
tells_guard s value b h k =
    guard-cases s value b (Tells s) (λ e. tells_not s h) (λ e f. tells_less s (with_lower s b) (bounded_lower s b h k) (room_lower s b h k f))
    (λ e f. tells_less s (with_upper s (Some b)) (bounded_upper s (Some b) h k) (room_upper s b h k f))

tells_lower : (source s : State) (n k : ℕ) → Bounded source → Bounded s → Tells s (moved_lower source s n k)
tells_lower source s n k o h =
    lower_cases source n k (Tells s) s (λ e. tells_less s (with_lower s source.lower) (bounded_lower s source.lower h o.lower)
    (room_lower s source.lower h o.lower (lt_z-nle s.lower source.lower (and_right (leb n k) (lt_z s.lower source.lower) e)))) (λ e. tells_not s h)

tells_then : (s : State) (t : Tightened) (u : State) → Tells s t → Bounded u → room u < room t.state → Tells s (tight u true)
tells_then s t u h k l = tells_less s u k (omega (arith, h.most))

tells_upper : (source s : State) (t : Tightened) (n k : ℕ) → Bounded source → Tells s t → Tells s (moved_upper source t n k)
tells_upper source s t n k o h = upper_cases source n k (Tells s) t (λ e. one source.upper o.upper (and_right (leb k n) (under source.upper t.state.upper) e)) (λ e. h)
  where
    one : (u : Option ℤ) → Bound (limit u) → under u t.state.upper ≡ true → Tells s (tight (with_upper t.state u) true)
    one None b e = contrary (sym e)
    one (Some a) b e =
        tells_then s t (with_upper t.state (Some a)) h (bounded_upper t.state (Some a) h.bounded b)
        (room_upper t.state a h.bounded b (not-true (upper_at_most t.state.upper a) e))

pub tells_moved : (source s : State) (n k : ℕ) → Bounded source → Bounded s → Tells s (moved_state source s n k)
tells_moved source s n k o h = tells_upper source s (moved_lower source s n k) n k o (tells_lower source s n k o h)

-- ---- all rows

unfoldable pub rooms : List State → ℕ
rooms [] = 0
rooms (s ∷ ss) = room s + rooms ss

pub rooms_set : (ss : List State) (r : ℕ) (s : State) → r < length ss → rooms (set ss r s) + room (get_or ss r no_state) ≡ rooms ss + room s
unfolding rooms
rooms_set [] r s h = absurd (not-suc-le-zero h)
rooms_set (x ∷ ss) zero s h = omega arith
rooms_set (x ∷ ss) (suc r) s h = omega (arith, rooms_set ss r s (le_of_suc-le-suc h))

pub rooms_most : (ss : List State) → AllBounded ss → rooms ss ≤ 18014398509481986 * length ss
unfolding rooms
rooms_most [] h = omega arith
rooms_most (s ∷ ss) h = omega (arith, room_most s (h 0), rooms_most ss (λ r. h (suc r)))

pub none-bounded : Bounded no_state
unfolding no_state
none-bounded = record { lower = zero_bound; upper = zero_bound }

pub first-bounded : (total guards : ℕ) → Bounded (first_state total guards)
unfolding first_state
first-bounded total guards = record { lower = zero_bound; upper = zero_bound }

pub set-bounded : (ss : List State) (r : ℕ) (s : State) → AllBounded ss → Bounded s → AllBounded (set ss r s)
set-bounded [] r s h k i = h i
set-bounded (x ∷ ss) zero s h k zero = k
set-bounded (x ∷ ss) zero s h k (suc i) = h (suc i)
set-bounded (x ∷ ss) (suc r) s h k zero = h 0
set-bounded (x ∷ ss) (suc r) s h k (suc i) = set-bounded ss r s (λ j. h (suc j)) k i

-- Bounds that are as they were.
pub bounded_same : (s t : State) → t.lower ≡ s.lower → t.upper ≡ s.upper → Bounded s → Bounded t
bounded_same s t e f h = record { lower = rw e h.lower; upper = rw f h.upper }

pub room_same : (s t : State) → t.lower ≡ s.lower → t.upper ≡ s.upper → room t ≡ room s
room_same s t e f = ap₂ (λ (a : ℤ) (b : Option ℤ). above a + beneath b) e f
