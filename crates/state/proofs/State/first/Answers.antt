-- `state::State::first` meets its contract. Assumes nothing.
use mathlib.Core.Path.{◌≡◌}
use native.Mathlib.Omega.{arith}
use lib.IntN.{pos}
use mir.Syntax.{w64}
use mir.Val.{to_z}
use mir.Facts.{to_z_pos}
use Rattle.state.specs.State.{first_state}
use Rattle.state.proofs.State.first.Goals as goal

pub returns : goal.returns
unfolding first_state
returns c =
    let h : to_z w64 c.args.total ≡ pos c.args.total = to_z_pos w64 (omega (arith, c.requires)) in
    simp h
