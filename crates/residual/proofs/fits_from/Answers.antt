-- `residual::fits_from` meets its contract: the scan of the terms that are left, from here, is that of the whole row.
use native.Mathlib.Omega.{arith}
use mathlib.Core.Path.{sym, ap, ◌∙◌}
use mathlib.Core.Bool.{false}
use mathlib.Core.List.{List}
use Rattle.numeric.specs.Threshold.{Term}
use Rattle.words.specs.Mask.{in_either}
use Rattle.intervals.specs.Residual.{fits_from}
use Rattle.numeric.specs.TermsLaws.{last_all}
use Rattle.intervals.specs.FitsLaws.{fits_wide, fits_skip, fits-first, fits_both, fits_more, fits-none}
use Rattle.residual.proofs.fits_from.Goals as goal

pub loop-unread-init : goal.loop-unread-init
loop-unread-init c =
    let g = c.args in
    let p = c.requires in
    (omega arith, ap (λ (l : List Term). fits_from g.i (in_either g.sure.now g.never.now) l false 0) (last_all g.terms.conditions.now g.terms.weights.now p.same))

pub returns-then-too_wide : goal.returns-then-too_wide
returns-then-too_wide c =
    let w = c.loop-unread in
    let g = c.args in
    sym
    (fits_wide g.i (in_either g.sure.now g.never.now) g.terms.conditions.now g.terms.weights.now w.unread w.fitting w.complement (omega arith) (omega arith) (omega arith)
    (sym c.too_wide.ensures ∙ c.if-too_wide.true))
    ∙ w.invariant.1

pub loop-unread-preserved-then-decided : goal.loop-unread-preserved-then-decided
loop-unread-preserved-then-decided c =
    let w = c.loop-unread in
    let g = c.args in (
      omega arith,
      sym
          (fits_skip g.i (in_either g.sure.now g.never.now) g.terms.conditions.now g.terms.weights.now w.unread w.fitting w.complement (omega arith) (omega arith) (omega arith)
          (sym c.too_wide.ensures ∙ c.if-too_wide.false) (sym c.decided.ensures ∙ c.if-decided.true))
          ∙ w.invariant.1,
    )

pub returns-then-both_fit : goal.returns-then-both_fit
returns-then-both_fit c =
    let w = c.loop-unread in
    let g = c.args in
    sym
    (fits_both g.i (in_either g.sure.now g.never.now) g.terms.conditions.now g.terms.weights.now w.unread w.fitting w.complement (omega arith) (omega arith) (omega arith)
    (sym c.too_wide.ensures ∙ c.if-too_wide.false) (sym c.decided.ensures ∙ c.if-decided.false)
    c.if-fitting.true c.gcd-complement.result c.gcd-complement.ensures
    (sym c.both_fit.ensures ∙ c.if-both_fit.true))
    ∙ w.invariant.1

pub loop-unread-preserved-else-both_fit : goal.loop-unread-preserved-else-both_fit
loop-unread-preserved-else-both_fit c =
    let w = c.loop-unread in
    let g = c.args in (
      omega arith,
      sym
          (fits_more g.i (in_either g.sure.now g.never.now) g.terms.conditions.now g.terms.weights.now w.unread w.fitting w.complement (omega arith) (omega arith) (omega arith)
          (sym c.too_wide.ensures ∙ c.if-too_wide.false) (sym c.decided.ensures ∙ c.if-decided.false)
          c.if-fitting.true c.gcd-complement.result c.gcd-complement.ensures
          (sym c.both_fit.ensures ∙ c.if-both_fit.false))
          ∙ w.invariant.1,
    )

pub loop-unread-preserved : goal.loop-unread-preserved
loop-unread-preserved c =
    let w = c.loop-unread in
    let g = c.args in (
      omega arith,
      sym
          (fits-first g.i (in_either g.sure.now g.never.now) g.terms.conditions.now g.terms.weights.now w.unread w.fitting w.complement (omega arith) (omega arith) (omega arith)
          (sym c.too_wide.ensures ∙ c.if-too_wide.false) (sym c.decided.ensures ∙ c.if-decided.false) c.if-fitting.false)
          ∙ w.invariant.1,
    )

pub returns : goal.returns
returns c =
    let w = c.loop-unread in
    let g = c.args in
    sym (fits-none g.i (in_either g.sure.now g.never.now) g.terms.conditions.now g.terms.weights.now w.unread w.fitting w.complement (omega arith))
    ∙ w.invariant.1
