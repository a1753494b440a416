-- Worked examples of what rules 1 to 3 and 6 ask besides figures. Each comes twice: where the rule has a step, and where that one
-- thing is lacking and nothing else.
use Rattle.std.specs.Prelude.{ℕ, ◌≡◌, refl, Bool, true, false, eqb, ltb, get_or, ℤ, pos, ◌≤ℤ◌, Some}
use mathlib.Core.List.{List, [], ◌∷◌, Memᴰ}
use Rattle.std.proofs.Common.{inl, arith}
use Rattle.std.specs.Int.Signed.{le_z}
use Rattle.base.specs.TestLaws.{clash}
use Rattle.numeric.specs.Threshold.{Term, term}
use Rattle.rows.specs.Rows.{Row, row_of, no_row, Guard, Other, alone, beside}
use Rattle.theorem_table.specs.Table.{Table, known, possible, start, decide_sure, decide_never, raise_lower, lower_upper, OtherReached, FallsShort, Reached, OutOfReach, Prefixed, Step, never-guard, bound-reached, bound-out-of-reach, longer-lower}
use Rattle.theorem_table.specs.OrderLaws.{le, lt, of_le}

abbrev row : List Term → List Guard → Row
row ts gs = row_of ts ts gs

-- One node, and none.
abbrev one : ℕ → ℕ → Bool
one n m = eqb m n

abbrev none : ℕ → Bool
none m = false

-- LEAVE TO DECIDE: a row of no terms reaches bound 0 and not bound 1; its guard is node 9
abbrev lone : ℤ → Bool → Guard
lone b may = record { bound = b; node = 9; may = may; linked = true; other = alone }

abbrev lonely : ℤ → Bool → List Row
lonely b may = row [] (lone b may ∷ []) ∷ []

abbrev unmarked : Table
unmarked = start none none

reached-decides : Step (lonely (pos 0) true) unmarked (decide_sure unmarked 9)
unfolding known OtherReached
reached-decides = bound-reached 0 (lone (pos 0) true) (omega arith, Memᴰ.head refl) (refl, le refl, tt) refl

reached-without_leave : Reached (lonely (pos 0) false) unmarked 0 (lone (pos 0) false) → ⊥
reached-without_leave h = clash false h.0 refl

out_of_reach_decides : Step (lonely (pos 1) true) unmarked (decide_never unmarked 9)
unfolding possible
out_of_reach_decides = bound-out-of-reach 0 (lone (pos 1) true) (omega arith, Memᴰ.head refl) (refl, inl (lt refl)) refl

out_of_reach_without_leave : OutOfReach (lonely (pos 1) false) unmarked 0 (lone (pos 1) false) → ⊥
out_of_reach_without_leave h = clash false h.0 refl

-- TWO MEASURES: node 9 asks two rows for 1 each; row 0 has node 0, row 1 node 1, each of weight 1
abbrev asks : ℕ → Guard
asks q = record { bound = pos 1; node = 9; may = true; linked = true; other = beside q (pos 1) }

abbrev pair : List Row
pair = row (term 0 1 ∷ []) (asks 1 ∷ []) ∷ row (term 1 1 ∷ []) (asks 0 ∷ []) ∷ []

abbrev two : ℕ → Bool
two m = ltb m 2

unreached : pos 1 ≤ℤ pos 0 → ⊥
unreached h = clash (le_z (pos 1) (pos 0)) (of_le h) refl

both_reached-decide : Step pair (start two none) (decide_sure (start two none) 9)
unfolding known OtherReached
both_reached-decide = bound-reached 0 (asks 1) (omega arith, Memᴰ.head refl) (refl, le refl, le refl) refl

one-reached_alone : Reached pair (start (one 0) none) 0 (asks 1) → ⊥
unfolding known OtherReached
one-reached_alone h = unreached h.2

never_beside_reached : Step pair (start (one 1) (one 9)) (lower_upper (start (one 1) (one 9)) 0 (Some (pos 1)))
unfolding known OtherReached
never_beside_reached = never-guard 0 (asks 1) (omega arith, Memᴰ.head refl) (refl, le refl) tt

never_beside_unreached : FallsShort pair (start none (one 9)) (asks 1) → ⊥
unfolding known OtherReached
never_beside_unreached h = unreached h.1

-- LINKS: row 0 begins row 1, and has a lower of 1
abbrev linked : Bool → Guard
linked l = record { bound = pos 1; node = 9; may = true; linked = l; other = alone }

abbrev chain : Bool → Bool → List Row
chain a b = row (term 0 1 ∷ []) (linked a ∷ []) ∷ row (term 0 1 ∷ term 1 1 ∷ []) (linked b ∷ []) ∷ []

abbrev raised : Table
raised = raise_lower (start none none) 0 (pos 1)

linked_hands_on : Step (chain true true) raised (raise_lower raised 1 (pos 1))
linked_hands_on = longer-lower 0 1 (omega arith, omega arith, (term 1 1 ∷ [], refl, refl, refl)) (lt refl)

unlinked_hands_nothing_on : Prefixed (chain false true) 0 1 → ⊥
unlinked_hands_nothing_on h = clash false h.2 refl

unlinked_takes_nothing : Prefixed (chain true false) 0 1 → ⊥
unlinked_takes_nothing h = clash false h.3 refl
