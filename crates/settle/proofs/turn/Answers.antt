-- `settle::turn` meets its contract: a node if one waits, else a row.
use native.Mathlib.Omega.{arith}
use mathlib.Core.Bool.{true, false}
use borrow.Author.Tests.{eq-eqb, ne_eqb}
use Rattle.row_moves.specs.Between.{did}
use Rattle.row_moves.specs.Lent.{held_of, live_in}
use Rattle.theorem_keeps.specs.TurnLaws.{going_run, turn_is}
use Rattle.settle.proofs.turn.Goals as goal

pub take_row-requires : goal.take_row-requires
take_row-requires c =
    let a = c.args in
    let w = c.requires.count_nonzero in
    let s = w.0.1 in
    record { shaped = (s.shaped, s.linked, w.1 c.if-none.true, c.requires.going.within.tracked.dirty); runnable = going_run (held_of a.built.held) a.built.nodes.now (live_in a.live.now) c.requires.going }

pub returns-then-none-clause-ran : goal.returns-then-none-clause-ran
returns-then-none-clause-ran c =
    let t = c.take_row in
    let e = eq-eqb c.args.live.now.rings.nodes.count 0 c.if-none.true in
    (λ x s. turn_is x (live_in c.args.live.now) (did (live_in t.new.live) t.result) true e (t.ensures.ran.0 x s.holds s.holds_links), t.ensures.ran.1)

pub take_node-requires : goal.take_node-requires
take_node-requires c =
    let w = c.requires.count_nonzero in
    record { count_nonzero = ((w.0.0, c.args.built.links.now, w.0.1), omega (arith, c.if-none.false)); going = c.requires.going }

pub returns-clause-ran : goal.returns-clause-ran
returns-clause-ran c =
    let t = c.take_node in
    let e = ne_eqb c.args.live.now.rings.nodes.count 0 c.if-none.false in
    (λ x s. turn_is x (live_in c.args.live.now) (did (live_in t.new.live) t.result) false e (t.ensures.ran.0 x c.args.built.links.now s), t.ensures.ran.1)
