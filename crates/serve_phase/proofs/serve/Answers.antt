-- `serve_phase::serve` meets its contract: memory is cleared, and a job that stopped at its seal is sealed and served.
use mathlib.Core.Path.{refl, sym, subst}
use Rattle.memory.specs.Buffers.{kept}
use Rattle.serve_phase.specs.Phase.{LeavesOn}
use Rattle.serve_phase.specs.PhaseLaws.{sealable_blank, begins_clear, ending_seals, ending-none, leaves_none}
use Rattle.serve_phase.proofs.serve.Goals as goal

pub lend-requires : goal.lend-requires
lend-requires c =
    let a = c.args in
    let m = c.clear_kept.new in
    let lent = kept a.figures.now a.cursors.now a.sure.now a.never.now a.search.now a.gcds.now a.node_queue.now a.row_queues.now a.answers.now in
    let clear = kept m.figures m.cursors m.sure m.never m.search m.gcds m.node_queue m.row_queues m.answers in
    let p = c.requires in
    let w = p.2 c.if-sealing.true in
    ((w.0.0, lent, sealable_blank _ _ w.0.0 _ w.0.1 w.0.2, begins_clear lent p.0 clear c.clear_kept.ensures w.0.0 w.0.2, w.0.3), w.1, w.2, p.1)

pub returns-then-sealing : goal.returns-then-sealing
returns-then-sealing c =
    let a = c.args in
    let m = c.clear_kept.new in
    let t = c.lend in
    let e = t.new in
    let lent = kept a.figures.now a.cursors.now a.sure.now a.never.now a.search.now a.gcds.now a.node_queue.now a.row_queues.now a.answers.now in
    let clear = kept m.figures m.cursors m.sure m.never m.search m.gcds m.node_queue m.row_queues m.answers in
    let left = kept e.figures e.cursors e.sure e.never e.search e.gcds e.node_queue e.row_queues e.answers in
    let yes-seal = c.if-sealing.true in
    λ f z d s.
    subst (LeavesOn lent left t.result) (sym (ending_seals a.input.now f a.read yes-seal))
    (t.ensures f lent (sealable_blank _ _ f _ (s yes-seal) z) (begins_clear lent c.requires.0 clear c.clear_kept.ensures f z) d)

pub returns : goal.returns
returns c =
    let a = c.args in
    let m = c.clear_kept.new in
    let lent = kept a.figures.now a.cursors.now a.sure.now a.never.now a.search.now a.gcds.now a.node_queue.now a.row_queues.now a.answers.now in
    let clear = kept m.figures m.cursors m.sure m.never m.search m.gcds m.node_queue m.row_queues m.answers in
    λ f z d s.
    subst (LeavesOn lent clear _) (sym (ending-none a.input.now f a.read c.if-sealing.false))
    (leaves_none lent c.requires.0 clear c.clear_kept.ensures f z a.read d _ refl refl refl refl refl)
