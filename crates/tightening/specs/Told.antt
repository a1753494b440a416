-- What the state of a row takes from a guard that was drained, and from a row with the same first terms.
use Rattle.std.specs.Prelude.{ℕ, Bool, true, false, cond, ◌&&◌, not, ℤ, leb, Option, None, Some}
use Rattle.std.specs.Int.Signed.{le_z, lt_z}
use Rattle.state.specs.declared.State.{State}
use Rattle.state.specs.State.{upper_at_most, with_lower, with_upper}

-- A row's state after what another row or a guard told it, and whether that is anything new.
pub record Tightened : Type 0 where
  pub state : State
  pub changed : Bool

abbrev pub tight : State → Bool → Tightened
tight s c = record { state = s; changed = c }

-- As the code has it: the state, where it is new; and back, for a state s that was told this.
abbrev pub told : Tightened → Option State
told t = cond t.changed (Some t.state) None

abbrev pub tightened : State → Option State → Tightened
tightened s None = tight s false
tightened s (Some t) = tight t true

-- A sure guard raises its row's lower to its bound, a never one lowers its upper.
abbrev pub guard_state : State → Bool → ℤ → Tightened
guard_state s true b = elim (le_z b s.lower) [ true ↦ tight s false | false ↦ tight (with_lower s b) true ]
guard_state s false b = elim (upper_at_most s.upper b) [ true ↦ tight s false | false ↦ tight (with_upper s (Some b)) true ]

-- The longer row has at least the shorter's lower, the shorter at most the longer's upper; equal rows both. The numbers are
-- those of the terms of the row that hands on and of the one that takes.
abbrev pub moved_lower : State → State → ℕ → ℕ → Tightened
moved_lower source s n k = cond (leb n k && lt_z s.lower source.lower) (tight (with_lower s source.lower) true) (tight s false)

abbrev pub under : Option ℤ → Option ℤ → Bool
under None u = false
under (Some a) u = not (upper_at_most u a)

abbrev pub moved_upper : State → Tightened → ℕ → ℕ → Tightened
moved_upper source t n k = cond (leb k n && under source.upper t.state.upper) (tight (with_upper t.state source.upper) true) t

abbrev pub moved_state : State → State → ℕ → ℕ → Tightened
moved_state source s n k = moved_upper source (moved_lower source s n k) n k
