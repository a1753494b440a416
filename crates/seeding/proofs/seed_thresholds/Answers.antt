-- `seeding::seed_thresholds` meets its contract: seeding the rows from here on is seeding all.
use mathlib.Core.Path.{◌∙◌, sym}
use Rattle.row_moves.specs.Lent.{held_of, live_in}
use Rattle.row_moves.specs.LentLaws.{lent_on}
use Rattle.seeding.specs.SeedingLaws.{seeding_next, seeding_stop, seeding_end}
use Rattle.seeding.proofs.seed_thresholds.Goals as goal

pub returns-then-contradicts-clause-ran : goal.returns-then-contradicts-clause-ran
returns-then-contradicts-clause-ran c =
    let ran = c.run-step in
    let w = c.loop-row in (
      seeding_stop (held_of c.args.held) (live_in c.args.live.now) w.row w.so_far (live_in w.live) w.invariant.0 c.requires.shaped c.loop-row-test.true
          (live_in ran.new.self) ran.result ran.ensures.ran.0 (sym c.contradicts.ensures ∙ c.if-contradicts.true),
      λ t. ran.ensures.ran.1 (w.invariant.1 t),
    )

pub loop-row-preserved : goal.loop-row-preserved
loop-row-preserved c =
    let ran = c.run-step in
    let w = c.loop-row in (
      seeding_next (held_of c.args.held) (live_in c.args.live.now) w.row w.so_far (live_in w.live) w.invariant.0 c.requires.shaped c.loop-row-test.true
          (live_in ran.new.self) ran.result ran.ensures.ran.0 (sym c.contradicts.ensures ∙ c.if-contradicts.false) c.join-so_far.result c.join-so_far.ensures,
      λ t. ran.ensures.ran.1 (w.invariant.1 t),
      lent_on c.args.live.now w.live ran.new.self w.invariant.2 ran.ensures.lent,
    )

pub returns-clause-ran : goal.returns-clause-ran
returns-clause-ran c =
    let w = c.loop-row in
    (seeding_end (held_of c.args.held) (live_in c.args.live.now) w.row w.so_far (live_in w.live) w.invariant.0 c.loop-row-test.false, w.invariant.1)
