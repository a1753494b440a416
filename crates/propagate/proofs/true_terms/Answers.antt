-- `propagate::true_terms` meets its contract: nothing is forced, or the scan of the terms below the cutoff's difference.
use Prim.Native.Nat.{◌+◌}
use native.Mathlib.Omega.{arith}
use mathlib.Core.Path.{◌≡◌, refl, sym, ap, ◌∙◌}
use mathlib.Core.Bool.{true}
use lib.IntN.{◌-ℤ◌}
use mir.Syntax.{w64}
use mir.Val.{to_z, of_z}
use mir.Facts.{to_z-of_z}
use Rattle.base.specs.SignedLaws.{sub_sfits}
use Rattle.numeric.specs.Slices.{terms}
use Rattle.numeric.specs.TermsLaws.{length-terms}
use Rattle.state.specs.declared.State.{State}
use Rattle.state.specs.declared.Step.TheVariants.{Unchanged}
use Rattle.state.specs.State.{with_terms}
use Rattle.queues.specs.Queue.{queue}
use Rattle.queues.specs.Marks.{marks}
use Rattle.row_runs.specs.Scan.{Scanned, scanned}
use Rattle.row_runs.specs.Turns.{light, cut}
use Rattle.row_runs.specs.Row.{ran}
use Rattle.row_runs.proofs.RowLaws.{stay_true, true-none, true-forced, forced_within, signed}
use Rattle.propagate.proofs.true_terms.Goals as goal

pub returns-then-state : goal.returns-then-state
returns-then-state c =
    let a = c.args in
    let p = c.requires in
    let hk : to_z w64 (of_z w64 a.state.known) ≡ a.state.known = signed a.state.known p.1.known in
    let hl : to_z w64 (of_z w64 a.state.lower) ≡ a.state.lower = signed a.state.lower p.1.lower in
    let m = marks a.sure.now a.never.now (queue a.node_queue.now a.ring) in
    (ap (λ (y : State). ran y m Unchanged) (sym (stay_true a.state)) ∙ true-none (terms a.terms.conditions.now a.terms.weights.now) a.state m (simp (hk, hl) at c.if-state.true), omega arith)

pub returns : goal.returns
returns c =
    let a = c.args in
    let p = c.requires in
    let f = c.forced_terms in
    let s = a.state in
    let hk : to_z w64 (of_z w64 s.known) ≡ s.known = signed s.known p.1.known in
    let hp : to_z w64 (of_z w64 s.possible) ≡ s.possible = signed s.possible p.1.possible in
    let hl : to_z w64 (of_z w64 s.lower) ≡ s.lower = signed s.lower p.1.lower in
    let ts = terms a.terms.conditions.now a.terms.weights.now in
    let m = marks a.sure.now a.never.now (queue a.node_queue.now a.ring) in
    let z = to_z w64 (of_z w64 (to_z w64 (of_z w64 s.possible) -ℤ to_z w64 (of_z w64 s.lower))) in
    let d : to_z w64 (of_z w64 (s.possible -ℤ s.lower)) ≡ s.possible -ℤ s.lower = to_z-of_z (sub_sfits s.possible s.lower (omega (arith, p.1.possible, p.1.lower))) in
    let scan = scanned f.result.passed (marks f.new.sure f.new.never (queue f.new.node_queue f.result.ring)) f.result.step in
    let next = with_terms s (s.true_term + f.result.passed) s.false_term in (
      true-forced ts s m z scan next (simp (hk, hl) at c.if-state.false) (simp (hp, hl, d)) f.ensures refl,
      omega (arith, forced_within true (light (cut true z)) ts s.true_term m, ap (λ (x : Scanned). x.passed) f.ensures, length-terms a.terms.conditions.now a.terms.weights.now),
    )
