-- `notice::notice` meets its contract: two texts, one behind the other.
use Rattle.std.proofs.Common.{◌≡◌, ℕ, List, arith, rules, sym, subst}
use Rattle.text.specs.Text.{Wrote}
use Rattle.text.specs.TextLaws.{wrote_then}
use Rattle.notice.specs.Notice.{notice}
use Rattle.notice.proofs.notice.Goals as goal

-- What the writer holds is what its buffer ends as.
lent : {k : ℕ} {d e f : List ℕ} {at r : ℕ} {s : List ℕ} → Wrote k d e at r s → f ≡ e → Wrote k d f at r s
lent {k} {d} {e} {f} {at} {r} {s} w q = subst (λ (x : List ℕ). Wrote k d x at r s) (sym q) w

pub returns : goal.returns
unfolding notice
returns c = lent (wrote_then (omega arith) c.refused.ensures.wrote c.left.ensures.wrote) (search rules)
