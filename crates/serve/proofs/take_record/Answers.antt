-- `serve::take_record` meets its contract.
use mathlib.Core.Path.{refl, ap, ◌∙◌}
use mathlib.Core.List.{[]}
use Rattle.memory.specs.Buffers.{Kept, kept}
use Rattle.records.specs.declared.Standing.{Standing}
use Rattle.files.specs.File.{apply, outcome}
use Rattle.row_moves.specs.Lent.{built_of}
use Rattle.serve.specs.declared.Reached.{Reached}
use Rattle.serve.specs.KeptLent.{kept_in}
use Rattle.serve.specs.KeptLentLaws.{lent_back}
use Rattle.serve.specs.Serve.{stood, Reaches}
use Rattle.serve.specs.ServeLaws.{record_takes, record_room, record_long, record_visits, record_reaches}
use borrow.Author.Rules.{rules}
use Rattle.serve.proofs.take_record.Goals as goal

pub store-count-requires : goal.store-count-requires
store-count-requires c =
    let a = c.args in
    let b = a.built in
    let k = kept_in a.kept.now in
    let p = c.requires in
    let t = c.take-step in
    let l = t.new.live in
    let m = kept l.figures.now l.cursors.now l.sure.now l.never.now t.new.search t.new.gcds l.node_queue.now l.row_queues.now k.answers in
    let takes = record_takes b.bounds.now (built_of b) p.1 p.0 k a.reached p.2 a.given p.3 p.4 in (
      record_room b.bounds.now (built_of b) p.1 p.0 k a.reached p.2 a.given p.3 p.4 t.result.step t.result.visits,
      record_long b.bounds.now (built_of b) p.1 p.0 k a.reached p.2 a.given p.3 p.4,
      record_visits b.bounds.now (built_of b) p.1 p.0 k a.reached p.2 a.given p.3 p.4 m l.rings t.result.step t.result.visits (t.ensures.came p.0 takes),
    )

pub returns-clause-reaches : goal.returns-clause-reaches
returns-clause-reaches c =
    let a = c.args in
    let b = a.built in
    let k = kept_in a.kept.now in
    let t = c.take-step in
    let l = t.new.live in
    let s = c.store-count in
    let m = kept l.figures.now l.cursors.now l.sure.now l.never.now t.new.search t.new.gcds l.node_queue.now l.row_queues.now s.new.answers in
    let o : Reached = record { at = a.behind; refused = 0; standing = c.stood-next.result; last = t.result.step; rings = l.rings } in
    λ f base z asks passed.
    let takes = record_takes b.bounds.now (built_of b) base f k a.reached z a.given asks passed in
    let put = s.ensures f.answers base z.lies.room (ap (λ (i : Standing). i.answers) z.standing) z.lies.answers in
    lent_back (λ (n : Kept). Reaches b.bounds.now (built_of b) base n o (outcome (apply f a.given) [] 0 a.behind)) l
    (search rules) (search rules) (search rules) (search rules) (search rules) (search rules)
    (record_reaches b.bounds.now (built_of b) base f k a.reached z a.given asks passed m l.rings t.result.step t.result.visits (t.ensures.came f takes)
    (t.ensures.kept.0 z.lies.tidy) t.auto.gcds t.ensures.kept.1 put.0 o refl refl refl
    (c.stood-next.ensures ∙ ap (stood a.reached.standing t.result.step) put.1))
