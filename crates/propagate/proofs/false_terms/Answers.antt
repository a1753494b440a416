-- `propagate::false_terms` meets its contract: nothing is forced, or the scan of the terms below the cutoff's difference.
use Prim.Native.Nat.{◌+◌}
use native.Mathlib.Omega.{arith}
use mathlib.Core.Path.{◌≡◌, refl, sym, ap, ◌∙◌}
use mathlib.Core.Bool.{false}
use lib.IntN.{ℤ, ◌-ℤ◌}
use lib.Signed.{mag}
use mir.Syntax.{w64}
use mir.Val.{to_z, of_z}
use mir.Facts.{to_z-of_z}
use Rattle.base.specs.SignedLaws.{sub_sfits}
use Rattle.numeric.specs.Slices.{terms}
use Rattle.numeric.specs.TermsLaws.{length-terms}
use Rattle.state.specs.declared.State.{State}
use Rattle.state.specs.declared.Step.TheVariants.{Unchanged}
use Rattle.state.specs.State.{limit, limited, with_terms}
use Rattle.queues.specs.Queue.{queue}
use Rattle.queues.specs.Marks.{marks}
use Rattle.row_runs.specs.Scan.{Scanned, scanned}
use Rattle.row_runs.specs.Turns.{light, cut}
use Rattle.row_runs.specs.Row.{ran}
use Rattle.row_runs.proofs.RowLaws.{stay_false, false-none, false-forced, forced_within, signed}
use Rattle.propagate.proofs.false_terms.Goals as goal

pub returns-in-None : goal.returns-in-None
returns-in-None c =
    let a = c.args in
    let m = marks a.sure.now a.never.now (queue a.node_queue.now a.ring) in
    (ap (λ (y : State). ran y m Unchanged) (sym (stay_false a.state)) ∙ false-none (terms a.terms.conditions.now a.terms.weights.now) a.state m (ap limited c.in-None.is), omega arith)

pub returns-in-Some : goal.returns-in-Some
returns-in-Some c =
    let a = c.args in
    let p = c.requires in
    let f = c.forced_terms in
    let s = a.state in
    let v = c.in-Some.limit in
    let l : limit s.upper ≡ v = ap limit c.in-Some.is in
    let hu : to_z w64 (of_z w64 v) ≡ v = signed v (omega (arith, p.1.upper, ap mag l)) in
    let hk : to_z w64 (of_z w64 s.known) ≡ s.known = signed s.known p.1.known in
    let ts = terms a.terms.conditions.now a.terms.weights.now in
    let m = marks a.sure.now a.never.now (queue a.node_queue.now a.ring) in
    let z = to_z w64 (of_z w64 (to_z w64 (of_z w64 v) -ℤ to_z w64 (of_z w64 s.known))) in
    let d : to_z w64 (of_z w64 (v -ℤ s.known)) ≡ v -ℤ s.known = to_z-of_z (sub_sfits v s.known (omega (arith, p.1.upper, p.1.known, ap mag l))) in
    let scan = scanned f.result.passed (marks f.new.sure f.new.never (queue f.new.node_queue f.result.ring)) f.result.step in
    let next = with_terms s s.true_term (s.false_term + f.result.passed) in (
      false-forced ts s m z scan next (ap limited c.in-Some.is) (simp (hu, hk, d) (ap (λ (y : ℤ). y -ℤ s.known) (sym l))) f.ensures refl,
      omega (arith, forced_within false (light (cut false z)) ts s.false_term m, ap (λ (x : Scanned). x.passed) f.ensures, length-terms a.terms.conditions.now a.terms.weights.now),
    )
