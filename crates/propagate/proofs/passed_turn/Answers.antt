-- `propagate::passed_turn` meets its contract: a contradiction is one clause of the definition, any other answer the other.
use Prim.Native.Nat.{◌+◌}
use mathlib.Core.Path.{refl, sym, ap, ◌∙◌}
use mathlib.Core.Bool.{false}
use Rattle.state.specs.declared.Step.{Step}
use Rattle.queues.specs.Marks.{decided}
use Rattle.row_runs.specs.Scan.{scanned}
use Rattle.row_runs.specs.Turns.{turn}
use Rattle.row_runs.proofs.ScanLaws.{turn_stops, turn_on}
use Rattle.propagate.proofs.passed_turn.Goals as goal

pub returns-then-contradicts : goal.returns-then-contradicts
returns-then-contradicts c =
    let a = c.args in
    (λ m n. sym (turn_stops (decided m a.made.step) (scanned a.scan.passed n a.scan.step) (sym c.contradicts.ensures ∙ c.if-contradicts.true)), refl)

pub returns : goal.returns
returns c =
    let a = c.args in (
      λ m n. ap (λ (k : Step). turn (scanned (a.scan.passed + 1) m k) false) c.join-step.ensures
          ∙ sym (turn_on (decided m a.made.step) (scanned a.scan.passed n a.scan.step) (sym c.contradicts.ensures ∙ c.if-contradicts.false)),
      refl,
    )
