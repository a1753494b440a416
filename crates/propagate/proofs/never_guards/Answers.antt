-- `propagate::never_guards` meets its contract: scanning the guards that are left, from here, is scanning all from the cursor.
use Prim.Native.Nat.{ℕ, ◌+◌, ◌-◌}
use native.Mathlib.Omega.{arith}
use mathlib.Core.Path.{◌≡◌, refl, sym, ap, ◌∙◌}
use mathlib.Core.Bool.{false, true}
use mathlib.Core.List.{List, [], ◌∷◌, reverse}
use lib.ListN.{get_or, take}
use lib.IntN.{pos}
use mir.Syntax.{w64}
use mir.Val.{to_z, of_z}
use borrow.Author.Rules.{rules}
use Rattle.rows.specs.Rows.{Guard, guard}
use Rattle.queues.specs.Queue.{queue}
use Rattle.queues.specs.Marks.{marks}
use Rattle.queues.proofs.MarksLaws.{waits-decide}
use Rattle.queues.specs.Waiting.{Waits}
use Rattle.row_runs.specs.Scan.{scan, scanned}
use Rattle.row_runs.specs.Turns.{turn}
use Rattle.row_runs.proofs.ScanLaws.{place-ends, place_goes, place_passed, place_keeps, scan-none}
use Rattle.row_runs.specs.GuardsLaws.{down_guards}
use Rattle.row_runs.specs.Guards.{guards}
use Rattle.row_runs.specs.Row.{decides, never_waits}
use Rattle.propagate.proofs.never_guards.Goals as goal

pub returns-in-Break : goal.returns-in-Break
returns-in-Break c =
    let g = c.args in
    let w = c.loop-at in
    let t = c.guard_turn in
    let test = c.loop-at-test.true in
    let same = c.requires.0.same in
    let room = c.requires.1 in
    let b = g.guards.bounds.now in
    let n = g.guards.nodes.now in
    let m = marks w.sure w.never (queue w.node_queue w.so_far.ring) in
    let x = guard (get_or b (w.at - 1) (pos 0)) (get_or n (w.at - 1) 0) in
    let here : reverse (take w.at (guards b n)) ≡ x ∷ reverse (take (w.at - 1) (guards b n)) = (let z : w.at ≡ w.at - 1 + 1 = omega arith in ap (λ (j : ℕ). reverse (take j (guards b n))) z) ∙ down_guards b n (w.at - 1) (omega arith) (omega arith) in
    let hb : to_z w64 (of_z w64 (get_or b (w.at - 1) (pos 0))) ≡ get_or b (w.at - 1) (pos 0) = search rules in
    let v : c.never_waits-waits.result ≡ never_waits g.state x m = simp hb at c.never_waits-waits.ensures in
    let last = c.in-Break.last in
    let d = turn (scanned last.passed (marks t.new.sure t.new.never (queue t.new.node_queue last.ring)) last.step) true in
    place-ends (never_waits g.state) (decides false) (reverse (take w.at (guards b n))) x (reverse (take (w.at - 1) (guards b n))) here w.so_far.passed m w.so_far.step
    c.never_waits-waits.result v d c.in-Break.ensures refl
    ∙ w.invariant.3

pub loop-at-preserved : goal.loop-at-preserved
loop-at-preserved c =
    let g = c.args in
    let w = c.loop-at in
    let t = c.guard_turn in
    let test = c.loop-at-test.true in
    let same = c.requires.0.same in
    let room = c.requires.1 in
    let b = g.guards.bounds.now in
    let n = g.guards.nodes.now in
    let m = marks w.sure w.never (queue w.node_queue w.so_far.ring) in
    let x = guard (get_or b (w.at - 1) (pos 0)) (get_or n (w.at - 1) 0) in
    let here : reverse (take w.at (guards b n)) ≡ x ∷ reverse (take (w.at - 1) (guards b n)) = (let z : w.at ≡ w.at - 1 + 1 = omega arith in ap (λ (j : ℕ). reverse (take j (guards b n))) z) ∙ down_guards b n (w.at - 1) (omega arith) (omega arith) in
    let hb : to_z w64 (of_z w64 (get_or b (w.at - 1) (pos 0))) ≡ get_or b (w.at - 1) (pos 0) = search rules in
    let v : c.never_waits-waits.result ≡ never_waits g.state x m = simp hb at c.never_waits-waits.ensures in
    let next = c.in-Continue.next in
    let d = turn (scanned next.passed (marks t.new.sure t.new.never (queue t.new.node_queue next.ring)) next.step) false in
    let p = place_passed (never_waits g.state) (decides false) (reverse (take w.at (guards b n))) x (reverse (take (w.at - 1) (guards b n))) here w.so_far.passed m w.so_far.step
    c.never_waits-waits.result v d c.in-Continue.ensures refl in (
      omega arith,
      omega arith,
      place_keeps (never_waits g.state) (decides false) (reverse (take w.at (guards b n))) x (reverse (take (w.at - 1) (guards b n))) here w.so_far.passed m w.so_far.step
          c.never_waits-waits.result v d c.in-Continue.ensures Waits w.invariant.2 (waits-decide m w.invariant.2 false (get_or n (w.at - 1) 0) (c.requires.0.below (w.at - 1) (omega arith))),
      place_goes (never_waits g.state) (decides false) (reverse (take w.at (guards b n))) x (reverse (take (w.at - 1) (guards b n))) here w.so_far.passed m w.so_far.step
          c.never_waits-waits.result v d c.in-Continue.ensures refl
          ∙ w.invariant.3,
    )

pub returns : goal.returns
returns c =
    let g = c.args in
    let w = c.loop-at in
    let m = marks w.sure w.never (queue w.node_queue w.so_far.ring) in
    let e : reverse (take w.at (guards g.guards.bounds.now g.guards.nodes.now)) ≡ [] = let z : w.at ≡ 0 = omega (arith, c.loop-at-test.false) in ap (λ (j : ℕ). reverse (take j (guards g.guards.bounds.now g.guards.nodes.now))) z in
    sym
    (ap (λ (l : List Guard). scan (never_waits g.state) (decides false) l w.so_far.passed m w.so_far.step) e
    ∙ scan-none (never_waits g.state) (decides false) w.so_far.passed m w.so_far.step)
    ∙ w.invariant.3
