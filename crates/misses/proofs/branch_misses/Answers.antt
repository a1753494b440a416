-- `misses::branch_misses` meets its contract: the window is cut to the branch's sums, and `misses` does the rest.
use Prim.Native.Nat.{ℕ}
use mathlib.Core.Path.{sym, ap₂, ◌∙◌}
use borrow.Author.Rules.{rules}
use Rattle.misses.specs.Misses.{misses}
use Rattle.misses.specs.MissesLaws.{branch_empty, branch_open}
use Rattle.misses.proofs.branch_misses.Goals as goal

pub returns-then-from-to : goal.returns-then-from-to
returns-then-from-to c =
    let g = c.args in
    sym (branch_empty g.base g.maximum g.lower g.upper g.divisor (search rules))

pub returns : goal.returns
returns c =
    let g = c.args in
    c.misses.ensures
    ∙ ap₂ (λ (x y : ℕ). misses g.base x y g.divisor) c.max-from.ensures c.min-to.ensures
    ∙ sym (branch_open g.base g.maximum g.lower g.upper g.divisor (search rules))
