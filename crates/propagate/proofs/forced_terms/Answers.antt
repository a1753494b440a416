-- `propagate::forced_terms` meets its contract: scanning the terms that are left, from here, is scanning all from the cursor.
use Prim.Native.Nat.{ℕ, ◌+◌}
use native.Mathlib.Omega.{arith}
use mathlib.Core.Path.{◌≡◌, refl, sym, ap, ◌∙◌}
use mathlib.Core.Bool.{Bool, false, not, true, ◌&&◌}
use mathlib.Core.List.{List, [], ◌∷◌}
use lib.ListN.{get_or, drop, drop_of_length-le}
use native.Mathlib.Numerals.{add-one}
use Rattle.numeric.specs.Threshold.{Term, term}
use Rattle.numeric.specs.Slices.{terms}
use Rattle.numeric.specs.TermsLaws.{up_terms, length-terms}
use Rattle.queues.specs.Queue.{queue}
use Rattle.queues.specs.Marks.{marks, is_decided}
use Rattle.queues.specs.Waiting.{Waits}
use Rattle.row_runs.specs.Scan.{scan, scanned}
use Rattle.row_runs.specs.Turns.{turn, light}
use Rattle.row_runs.proofs.ScanLaws.{force_keeps, place-ends, place_goes, place_passed, place_keeps, scan-none}
use Rattle.row_runs.specs.Row.{term_waits, forces}
use Rattle.propagate.proofs.forced_terms.Goals as goal

pub returns-in-Break : goal.returns-in-Break
returns-in-Break c =
    let g = c.args in
    let w = c.loop-at in
    let t = c.term_turn in
    let test = c.loop-at-test.true in
    let same = c.requires.0.same in
    let b = g.terms.weights.now in
    let n = g.terms.conditions.now in
    let m = marks w.sure w.never (queue w.node_queue w.so_far.ring) in
    let x = term (get_or n w.at 0) (get_or b w.at 0) in
    let here : drop w.at (terms n b) ≡ x ∷ drop (w.at + 1) (terms n b) = up_terms n b w.at (omega arith) (omega arith) ∙ ap (λ (j : ℕ). x ∷ drop j (terms n b)) (sym (add-one w.at)) in
    let v : (not (is_decided m (get_or n w.at 0)) && c.waits-waits.result) ≡ term_waits (light g.cutoff) x m = ap (λ (y : Bool). not (is_decided m (get_or n w.at 0)) && y) c.waits-waits.ensures in
    let last = c.in-Break.last in
    let d = turn (scanned last.passed (marks t.new.sure t.new.never (queue t.new.node_queue last.ring)) last.step) true in
    place-ends (term_waits (light g.cutoff)) (forces g.cutoff.value) (drop w.at (terms n b)) x (drop (w.at + 1) (terms n b)) here w.so_far.passed m w.so_far.step
    (not (is_decided m (get_or n w.at 0)) && c.waits-waits.result) v d c.in-Break.ensures refl
    ∙ w.invariant.3

pub loop-at-preserved : goal.loop-at-preserved
loop-at-preserved c =
    let g = c.args in
    let w = c.loop-at in
    let t = c.term_turn in
    let test = c.loop-at-test.true in
    let same = c.requires.0.same in
    let b = g.terms.weights.now in
    let n = g.terms.conditions.now in
    let m = marks w.sure w.never (queue w.node_queue w.so_far.ring) in
    let x = term (get_or n w.at 0) (get_or b w.at 0) in
    let here : drop w.at (terms n b) ≡ x ∷ drop (w.at + 1) (terms n b) = up_terms n b w.at (omega arith) (omega arith) ∙ ap (λ (j : ℕ). x ∷ drop j (terms n b)) (sym (add-one w.at)) in
    let v : (not (is_decided m (get_or n w.at 0)) && c.waits-waits.result) ≡ term_waits (light g.cutoff) x m = ap (λ (y : Bool). not (is_decided m (get_or n w.at 0)) && y) c.waits-waits.ensures in
    let next = c.in-Continue.next in
    let d = turn (scanned next.passed (marks t.new.sure t.new.never (queue t.new.node_queue next.ring)) next.step) false in
    let p = place_passed (term_waits (light g.cutoff)) (forces g.cutoff.value) (drop w.at (terms n b)) x (drop (w.at + 1) (terms n b)) here w.so_far.passed m w.so_far.step
    (not (is_decided m (get_or n w.at 0)) && c.waits-waits.result) v d c.in-Continue.ensures refl in (
      omega arith,
      omega arith,
      place_keeps (term_waits (light g.cutoff)) (forces g.cutoff.value) (drop w.at (terms n b)) x (drop (w.at + 1) (terms n b)) here w.so_far.passed m w.so_far.step
          (not (is_decided m (get_or n w.at 0)) && c.waits-waits.result) v d c.in-Continue.ensures Waits w.invariant.2 (force_keeps g.cutoff.value m (get_or n w.at 0) (c.requires.0.below w.at (omega arith)) w.invariant.2),
      place_goes (term_waits (light g.cutoff)) (forces g.cutoff.value) (drop w.at (terms n b)) x (drop (w.at + 1) (terms n b)) here w.so_far.passed m w.so_far.step
          (not (is_decided m (get_or n w.at 0)) && c.waits-waits.result) v d c.in-Continue.ensures refl
          ∙ w.invariant.3,
    )

pub returns : goal.returns
returns c =
    let g = c.args in
    let w = c.loop-at in
    let m = marks w.sure w.never (queue w.node_queue w.so_far.ring) in
    let e : drop w.at (terms g.terms.conditions.now g.terms.weights.now) ≡ [] = drop_of_length-le (terms g.terms.conditions.now g.terms.weights.now) {i = w.at} (omega (arith, length-terms g.terms.conditions.now g.terms.weights.now)) in
    sym
    (ap (λ (l : List Term). scan (term_waits (light g.cutoff)) (forces g.cutoff.value) l w.so_far.passed m w.so_far.step) e
    ∙ scan-none (term_waits (light g.cutoff)) (forces g.cutoff.value) w.so_far.passed m w.so_far.step)
    ∙ w.invariant.3
