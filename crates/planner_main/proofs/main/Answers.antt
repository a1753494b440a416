-- The buffers are as long as `run` asks.
use Rattle.std.proofs.Common.{refl}
use Rattle.planner_main.specs.ReadsLaws.{zeros_room}
use Rattle.planner_main.proofs.main.Goals as goal

pub run-requires : goal.run-requires
run-requires c = (zeros_room 65537 65537 refl, zeros_room 262144 262144 refl, zeros_room 110 110 refl)
