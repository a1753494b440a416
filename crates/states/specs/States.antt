-- What lent row states show: the states that the rows of numbers hold.
use Rattle.std.specs.Prelude.{List, take}
use Rattle.base.specs.Laid.{over}
use Rattle.memory.specs.Limits.{max_thresholds}
use Rattle.memory.specs.Buffers.{zeros}
use Rattle.state.specs.declared.State.{State}
use Rattle.state.specs.State.{no_state}

-- The listed states in front of a cleared buffer.
abbrev pub shown : List State → List State → List State
shown states lent = over (take max_thresholds states) (zeros no_state lent)
