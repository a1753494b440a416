-- `build::build_in` meets its contract: its buffers are cleared, and a job that stopped at its seal is built into them.
use Rattle.std.proofs.Common.{rules, ◌≡◌, true, false}
use Rattle.build.specs.ClearedLaws.{build_room, builds_rows, builds_none}
use Rattle.build.proofs.build_in.Goals as goal

pub build_job-requires : goal.build_job-requires
build_job-requires c =
    let r = build_room _ _ c.requires.1 c.requires.2 c.clear_built.ensures in
    (c.requires.0, r.0, r.1)

pub returns-then-sealing-clause-sealed : goal.returns-then-sealing-clause-sealed
returns-then-sealing-clause-sealed c =
    let e = c.build_job.ensures.laid in
    let sealing : c.args.read.sealing ≡ true = search rules in
    builds_rows _ _ _ _ _ _ sealing c.clear_built.ensures e.0 e.1

pub returns-else-sealing-clause-sealed : goal.returns-else-sealing-clause-sealed
returns-else-sealing-clause-sealed c =
    let reading : c.args.read.sealing ≡ false = search rules in
    builds_none _ _ _ _ reading c.clear_built.ensures
