-- `residual::check_from` meets its contract: the check of the terms that are left, from here, is that of the whole row.
use Prim.Native.Nat.{ℕ}
use native.Mathlib.Omega.{arith}
use mathlib.Core.Path.{◌≡◌, sym, ap, ◌∙◌}
use mathlib.Core.List.{List}
use Rattle.numeric.specs.Threshold.{Term}
use Rattle.numeric.specs.TermsLaws.{last_all, last_none}
use Rattle.words.specs.Mask.{in_either}
use Rattle.misses.specs.Misses.{misses}
use Rattle.intervals.specs.Residual.{check_from}
use Rattle.intervals.specs.CheckLaws.{turn_skip, turn_stop, turn_more, check_end_divisor, check_end_misses, check_end_hits}
use Rattle.residual.proofs.check_from.Goals as goal
use Rattle.residual.proofs.check_from.Goals.{then-divisor-ne0-via-then-divisor-ne0, then-divisor-ne0-via-else-divisor-ne0+then-misses}

pub loop-remaining-init : goal.loop-remaining-init
loop-remaining-init c =
    let g = c.args in
    let p = c.requires.shape in
    (omega arith, ap (λ (l : List Term). check_from g.i (in_either g.sure.now g.never.now) l 0) (last_all g.terms.conditions.now g.terms.weights.now p.same))

pub loop-remaining-preserved-then-decided : goal.loop-remaining-preserved-then-decided
loop-remaining-preserved-then-decided c =
    let g = c.args in
    let w = c.loop-remaining in (
      omega arith,
      sym
          (turn_skip g.i (in_either g.sure.now g.never.now) g.terms.conditions.now g.terms.weights.now w.remaining w.divisor (omega arith) (omega arith) (omega arith)
          (sym c.decided.ensures ∙ c.if-decided.true))
          ∙ w.invariant.1,
    )

pub returns-then-stops : goal.returns-then-stops
returns-then-stops c =
    let g = c.args in
    let w = c.loop-remaining in
    sym
    (turn_stop g.i (in_either g.sure.now g.never.now) g.terms.conditions.now g.terms.weights.now w.remaining w.divisor (omega arith) (omega arith) (omega arith)
    c.gcd-next.result (sym c.decided.ensures ∙ c.if-decided.false) c.gcd-next.ensures
    (sym c.stops.ensures ∙ c.if-stops.true))
    ∙ w.invariant.1

pub loop-remaining-preserved : goal.loop-remaining-preserved
loop-remaining-preserved c =
    let g = c.args in
    let w = c.loop-remaining in (
      omega arith,
      sym
          (turn_more g.i (in_either g.sure.now g.never.now) g.terms.conditions.now g.terms.weights.now w.remaining w.divisor (omega arith) (omega arith) (omega arith)
          c.gcd-next.result (sym c.decided.ensures ∙ c.if-decided.false) c.gcd-next.ensures
          (sym c.stops.ensures ∙ c.if-stops.false))
          ∙ w.invariant.1,
    )

pub returns-then-divisor-ne0 : goal.returns-then-divisor-ne0
returns-then-divisor-ne0 c =
    let g = c.args in
    let d = in_either g.sure.now g.never.now in
    let w = c.loop-remaining in
    let at_end = ap (λ (l : List Term). check_from g.i d l w.divisor) (last_none g.terms.conditions.now g.terms.weights.now w.remaining (omega arith)) in
    elim c.then-divisor-ne0.branch [
      | then-divisor-ne0-via-then-divisor-ne0 b ↦
          sym (at_end ∙ check_end_divisor g.i d w.divisor b.if-divisor-ne0.true) ∙ w.invariant.1
      | then-divisor-ne0-via-else-divisor-ne0+then-misses b ↦
          sym
          (at_end
          ∙ check_end_misses g.i d w.divisor (omega (arith, b.if-divisor-ne0.false))
          (sym (b.misses.ensures ∙ ap (λ (x : ℕ). misses g.i.known g.i.lower x 0) c.min-upper.ensures) ∙ b.if-misses.true))
          ∙ w.invariant.1
    ]

pub returns : goal.returns
returns c =
    let g = c.args in
    let d = in_either g.sure.now g.never.now in
    let w = c.loop-remaining in
    let z : w.divisor ≡ 0 = omega (arith, c.if-divisor-ne0.false) in
    sym
    (ap (λ (l : List Term). check_from g.i d l w.divisor) (last_none g.terms.conditions.now g.terms.weights.now w.remaining (omega arith))
    ∙ check_end_hits g.i d w.divisor z
    (sym (c.misses.ensures ∙ ap (λ (x : ℕ). misses g.i.known g.i.lower x 0) c.min-upper.ensures) ∙ c.if-misses.false))
    ∙ w.invariant.1
