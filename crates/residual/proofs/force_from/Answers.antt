-- `residual::force_from` meets its contract: forcing the terms that are left, from here, is forcing all of them from the start.
use native.Mathlib.Omega.{arith}
use mathlib.Core.Path.{sym, ◌∙◌}
use Rattle.queues.specs.Queue.{queue}
use Rattle.queues.specs.Marks.{marks}
use Rattle.intervals.specs.Residual.{placed}
use Rattle.intervals.proofs.ForceLaws.{force_skip, turn-waits, turn_stops, turn_goes_on, force_end}
use Rattle.residual.proofs.force_from.Goals as goal

pub loop-position-preserved-then-decided : goal.loop-position-preserved-then-decided
loop-position-preserved-then-decided c =
    let g = c.args in
    let p = c.requires.shape in
    let w = c.loop-position in (
      omega arith,
      w.invariant.1,
      sym
          (force_skip g.i (placed g.gcds.now) g.terms.conditions.now g.terms.weights.now w.position w.prefix (marks w.sure w.never (queue w.node_queue w.so_far.ring)) w.so_far.step (omega arith) (omega arith)
          (sym c.decided.ensures ∙ c.if-decided.true))
          ∙ w.invariant.2,
    )

pub returns-then-contradicts : goal.returns-then-contradicts
returns-then-contradicts c =
    let g = c.args in
    let p = c.requires.shape in
    let w = c.loop-position in
    let t = c.loop-position-test.true in
    let j = c.joined_decision-so_far in
    let f = c.force_term-forced in
    (turn_stops g.i (placed g.gcds.now) g.terms.conditions.now g.terms.weights.now w.position w.prefix (marks w.sure w.never (queue w.node_queue w.so_far.ring)) w.so_far.step (omega (arith, t, p.same)) (omega (arith, t)) p.same
    (sym c.decided.ensures ∙ c.if-decided.false) c.gcd-divisor.result c.gcd-divisor.ensures
    f.new.sure f.new.never f.new.node_queue f.result.ring j.result.ring f.result.step j.result.step
    f.ensures j.ensures.1 j.ensures.0 (sym c.contradicts.ensures ∙ c.if-contradicts.true))
    ∙ w.invariant.2

pub loop-position-preserved : goal.loop-position-preserved
loop-position-preserved c =
    let g = c.args in
    let p = c.requires.shape in
    let w = c.loop-position in
    let t = c.loop-position-test.true in
    let j = c.joined_decision-so_far in
    let f = c.force_term-forced in (
      omega (arith, t),
      turn-waits g.i (placed g.gcds.now) g.terms.conditions.now g.terms.weights.now w.position w.prefix (marks w.sure w.never (queue w.node_queue w.so_far.ring)) w.so_far.step (omega (arith, t, p.same)) (omega (arith, t)) p.same
          (sym c.decided.ensures ∙ c.if-decided.false) c.gcd-divisor.result c.gcd-divisor.ensures
          f.new.sure f.new.never f.new.node_queue f.result.ring j.result.ring f.result.step j.result.step
          f.ensures j.ensures.1 j.ensures.0 (p.below w.position (omega (arith, t, p.same))) w.invariant.1,
      (turn_goes_on g.i (placed g.gcds.now) g.terms.conditions.now g.terms.weights.now w.position w.prefix (marks w.sure w.never (queue w.node_queue w.so_far.ring)) w.so_far.step (omega (arith, t, p.same)) (omega (arith, t)) p.same
          (sym c.decided.ensures ∙ c.if-decided.false) c.gcd-divisor.result c.gcd-divisor.ensures
          f.new.sure f.new.never f.new.node_queue f.result.ring j.result.ring f.result.step j.result.step
          f.ensures j.ensures.1 j.ensures.0 c.gcd-prefix.result c.gcd-prefix.ensures (sym c.contradicts.ensures ∙ c.if-contradicts.false))
          ∙ w.invariant.2,
    )

pub returns : goal.returns
returns c =
    let g = c.args in
    let w = c.loop-position in
    sym (force_end g.i (placed g.gcds.now) g.terms.conditions.now g.terms.weights.now w.position w.prefix (marks w.sure w.never (queue w.node_queue w.so_far.ring)) w.so_far.step c.loop-position-test.false) ∙ w.invariant.2
