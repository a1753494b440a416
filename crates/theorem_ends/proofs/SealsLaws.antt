-- A seal leaves sound values: first states are within their bounds, and running each row keeps them so.
use Rattle.std.specs.Prelude.{ℕ, ◌+◌, ◌≤◌, ◌≡◌, refl, List, [], ◌∷◌, length, set}
use Rattle.std.proofs.Common.{arith, ◌∙◌, length-set}
use Rattle.memory.specs.Limits.{max_thresholds}
use Rattle.state.specs.declared.State.{State}
use Rattle.row.specs.Terms.{total}
use Rattle.rows.specs.Rows.{Row, state_of_row}
use Rattle.row_moves.specs.Between.{Index, Live, first_states}
use Rattle.drain.specs.Drain.{seal}
use Rattle.drain.proofs.DrainLaws.{seal_keeps}
use Rattle.theorem_ends.specs.RoomsLaws.{set-bounded, first-bounded}
use Rattle.theorem_ends.specs.Sound.{AllBounded, Indexed, Sound}
use Rattle.theorem_ends.proofs.TurnsLaws.{run_row_lem}

first_states_lem : (r : ℕ) (rs : List Row) (ss : List State) → AllBounded ss → AllBounded (first_states r rs ss)
unfolding first_states
first_states_lem r [] ss h = h
first_states_lem r (x ∷ xs) ss h =
    first_states_lem (r + 1) xs (set ss r (state_of_row x)) (set-bounded ss r (state_of_row x) h (first-bounded (total x.terms) (length x.guards)))

pub first_long : (r : ℕ) (rs : List Row) (ss : List State) → length (first_states r rs ss) ≡ length ss
unfolding first_states
first_long r [] ss = refl
first_long r (x ∷ xs) ss = first_long (r + 1) xs (set ss r (state_of_row x)) ∙ length-set ss r (state_of_row x)

-- A SEAL LEAVES SOUND VALUES
pub seal_stays : (x : Index) → Indexed x → length x.rows ≤ max_thresholds → (v : Live) → Sound v → Sound (seal x v).live
seal_stays x ix few v s =
    seal_keeps x Sound (λ u r l p. (run_row_lem x ix u r p (omega arith)).go.sound) v
    (record {
      long = first_long 0 x.rows v.states ∙ s.long;
      states = first_states_lem 0 x.rows v.states s.states;
      waits = s.waits;
      dirty = s.dirty;
      residuals = s.residuals;
    })
