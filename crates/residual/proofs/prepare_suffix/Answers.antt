-- `residual::prepare_suffix` meets its contract: what is laid down and what is left to lay are the suffixes of the whole row.
use Prim.Native.Nat.{ℕ, ◌-◌}
use native.Mathlib.Omega.{arith}
use mathlib.Core.Path.{◌≡◌, refl, sym, ap, ◌∙◌}
use mathlib.Core.Bool.{Bool, cond}
use lib.ListN.{length, get_or, set}
use Rattle.numeric.specs.Slices.{terms}
use Rattle.numeric.specs.TermsLaws.{length-terms}
use Rattle.words.specs.Mask.{in_either}
use Rattle.divisors.specs.Gcd.{gcd}
use Rattle.intervals.specs.SuffixLaws.{laid, laid-start, laid_next, laid_end}
use Rattle.residual.proofs.prepare_suffix.Goals as goal

pub loop-left-init : goal.loop-left-init
loop-left-init c =
    let g = c.args in
    let e = length-terms g.terms.conditions.now g.terms.weights.now in (
      refl,
      omega arith,
      laid-start (in_either g.sure.now g.never.now) (terms g.terms.conditions.now g.terms.weights.now) (length g.terms.weights.now) g.gcds.now
          (omega arith) (omega arith),
    )

pub loop-left-preserved : goal.loop-left-preserved
loop-left-preserved c =
    let g = c.args in
    let w = c.loop-left in
    let d = in_either g.sure.now g.never.now in
    let n = length g.terms.weights.now in
    let z : n - (w.left - 1) - 1 ≡ n - w.left = omega arith in (
      refl,
      omega arith,
      rw z
          (ap (λ (x : ℕ). laid d (terms g.terms.conditions.now g.terms.weights.now) n (w.left - 1) x (set w.gcds (n - w.left) w.suffix))
          (c.reduce-suffix.ensures
          ∙ ap (λ (x : Bool). cond x w.suffix (gcd w.suffix (get_or g.terms.weights.now (w.left - 1) 0))) c.decided-skip.ensures)
          ∙ sym (laid_next d g.terms.conditions.now g.terms.weights.now n w.left w.suffix w.gcds (omega arith) (omega arith) (omega arith) (omega arith))
          ∙ w.invariant.2),
    )

pub returns : goal.returns
returns c =
    let g = c.args in
    let w = c.loop-left in
    laid_end (in_either g.sure.now g.never.now) (terms g.terms.conditions.now g.terms.weights.now) (length g.terms.weights.now) w.left w.suffix w.gcds
    (omega arith)
    ∙ w.invariant.2
