-- `propagate::sure_guards` meets its contract: scanning the guards that are left, from here, is scanning all from the cursor.
use Prim.Native.Nat.{◌+◌}
use native.Mathlib.Omega.{arith}
use mathlib.Core.Path.{◌≡◌, refl, sym, ap, ◌∙◌}
use mathlib.Core.Bool.{false, true}
use mathlib.Core.List.{List, [], ◌∷◌}
use lib.ListN.{get_or, drop, drop_of_length-le}
use lib.IntN.{pos}
use mir.Syntax.{w64}
use mir.Val.{to_z, of_z}
use borrow.Author.Rules.{rules}
use Rattle.rows.specs.Rows.{Guard, guard}
use Rattle.queues.specs.Queue.{queue}
use Rattle.queues.specs.Marks.{marks}
use Rattle.queues.proofs.MarksLaws.{waits-decide}
use Rattle.queues.specs.Waiting.{Waits}
use Rattle.row_runs.specs.Scan.{scan, scanned}
use Rattle.row_runs.specs.Turns.{turn}
use Rattle.row_runs.proofs.ScanLaws.{place-ends, place_goes, place_passed, place_keeps, scan-none}
use Rattle.row_runs.specs.GuardsLaws.{up_guards, length-guards}
use Rattle.row_runs.specs.Guards.{guards}
use Rattle.row_runs.specs.Row.{decides, sure_waits}
use Rattle.propagate.proofs.sure_guards.Goals as goal

pub returns-in-Break : goal.returns-in-Break
returns-in-Break c =
    let g = c.args in
    let w = c.loop-at in
    let t = c.guard_turn in
    let test = c.loop-at-test.true in
    let same = c.requires.0.same in
    let b = g.guards.bounds.now in
    let n = g.guards.nodes.now in
    let m = marks w.sure w.never (queue w.node_queue w.so_far.ring) in
    let x = guard (get_or b w.at (pos 0)) (get_or n w.at 0) in
    let here : drop w.at (guards b n) ≡ x ∷ drop (w.at + 1) (guards b n) = up_guards b n w.at (omega arith) (omega arith) in
    let hb : to_z w64 (of_z w64 (get_or b w.at (pos 0))) ≡ get_or b w.at (pos 0) = search rules in
    let v : c.sure_waits-waits.result ≡ sure_waits g.state x m = simp hb at c.sure_waits-waits.ensures in
    let last = c.in-Break.last in
    let d = turn (scanned last.passed (marks t.new.sure t.new.never (queue t.new.node_queue last.ring)) last.step) true in
    place-ends (sure_waits g.state) (decides true) (drop w.at (guards b n)) x (drop (w.at + 1) (guards b n)) here w.so_far.passed m w.so_far.step
    c.sure_waits-waits.result v d c.in-Break.ensures refl
    ∙ w.invariant.3

pub loop-at-preserved : goal.loop-at-preserved
loop-at-preserved c =
    let g = c.args in
    let w = c.loop-at in
    let t = c.guard_turn in
    let test = c.loop-at-test.true in
    let same = c.requires.0.same in
    let b = g.guards.bounds.now in
    let n = g.guards.nodes.now in
    let m = marks w.sure w.never (queue w.node_queue w.so_far.ring) in
    let x = guard (get_or b w.at (pos 0)) (get_or n w.at 0) in
    let here : drop w.at (guards b n) ≡ x ∷ drop (w.at + 1) (guards b n) = up_guards b n w.at (omega arith) (omega arith) in
    let hb : to_z w64 (of_z w64 (get_or b w.at (pos 0))) ≡ get_or b w.at (pos 0) = search rules in
    let v : c.sure_waits-waits.result ≡ sure_waits g.state x m = simp hb at c.sure_waits-waits.ensures in
    let next = c.in-Continue.next in
    let d = turn (scanned next.passed (marks t.new.sure t.new.never (queue t.new.node_queue next.ring)) next.step) false in
    let p = place_passed (sure_waits g.state) (decides true) (drop w.at (guards b n)) x (drop (w.at + 1) (guards b n)) here w.so_far.passed m w.so_far.step
    c.sure_waits-waits.result v d c.in-Continue.ensures refl in (
      omega arith,
      omega arith,
      place_keeps (sure_waits g.state) (decides true) (drop w.at (guards b n)) x (drop (w.at + 1) (guards b n)) here w.so_far.passed m w.so_far.step
          c.sure_waits-waits.result v d c.in-Continue.ensures Waits w.invariant.2 (waits-decide m w.invariant.2 true (get_or n w.at 0) (c.requires.0.below w.at (omega arith))),
      place_goes (sure_waits g.state) (decides true) (drop w.at (guards b n)) x (drop (w.at + 1) (guards b n)) here w.so_far.passed m w.so_far.step
          c.sure_waits-waits.result v d c.in-Continue.ensures refl
          ∙ w.invariant.3,
    )

pub returns : goal.returns
returns c =
    let g = c.args in
    let w = c.loop-at in
    let m = marks w.sure w.never (queue w.node_queue w.so_far.ring) in
    let e : drop w.at (guards g.guards.bounds.now g.guards.nodes.now) ≡ [] = drop_of_length-le (guards g.guards.bounds.now g.guards.nodes.now) {i = w.at} (omega (arith, length-guards g.guards.bounds.now g.guards.nodes.now)) in
    sym
    (ap (λ (l : List Guard). scan (sure_waits g.state) (decides true) l w.so_far.passed m w.so_far.step) e
    ∙ scan-none (sure_waits g.state) (decides true) w.so_far.passed m w.so_far.step)
    ∙ w.invariant.3
