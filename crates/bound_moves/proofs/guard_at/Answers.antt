-- `bound_moves::guard_at` meets its contract: the node is no threshold, or its threshold's guard is told.
use Prim.Native.Nat.{ℕ, ◌-◌, ◌<◌}
use mathlib.Core.Path.{◌≡◌, ◌∙◌, sym, ap, subst}
use native.Mathlib.Omega.{arith}
use lib.ListN.{length, get_or}
use lib.Signed.{mag}
use lib.IntN.{pos}
use Rattle.row_runs.proofs.RowLaws.{signed}
use Rattle.memory.specs.Ranges.{figure_limit}
use Rattle.row_moves.specs.Between.{did, threshold_guard}
use Rattle.row_moves.specs.Held.{no_threshold}
use Rattle.row_moves.specs.Lent.{live_in}
use Rattle.row_moves.specs.GuardLaws.{guard-not, guard_is, guard_bound, guard-row}
use Rattle.bound_moves.proofs.guard_at.Goals as goal

pub returns-in_default-clause-ran : goal.returns-in_default-clause-ran
returns-in_default-clause-ran c =
    let t = c.threshold_of in
    let a = c.args in
    let none : t.result ≡ 0 = omega (arith, c.in_default.ensures) in
    (λ x z y n. guard-not x a.built.nodes.now a.built.bounds.now y a.node c.requires.shaped.2 (live_in a.live.now) t.result t.ensures.0 none, λ t. t)

pub returns-clause-ran : goal.returns-clause-ran
returns-clause-ran c =
    let told = c.threshold_guard in
    let row-of-node = c.row_of_node-row in
    let a = c.args in
    let b = a.built in
    let v = live_in a.live.now in
    let o = live_in told.new.live in
    let y = c.requires.shaped.1 in
    let n = a.node in
    let t = c.threshold_of.result in
    let inside = c.requires.shaped.2 in
    let is : c.in-Some.t ≡ t - 1 = c.in-Some.ensures.1 in
    let some : 0 < t = omega (arith, c.in-Some.ensures.0) in
    let k : row-of-node.result < length b.held.rows.now = omega (arith, row-of-node.ensures.0, y.rows n inside (omega (arith, c.threshold_of.ensures.0, some))) in
    let z : mag (get_or b.bounds.now (t - 1) (pos 0)) < figure_limit = y.small (t - 1) (omega (arith, c.threshold_of.ensures.0, some, y.inside n inside)) in (
      λ x held holds counts.
          let f = guard_is x b.nodes.now b.bounds.now holds n inside v t c.threshold_of.ensures.0 some in
          let e = guard_bound x b.nodes.now b.bounds.now holds n inside v t c.threshold_of.ensures.0 in
          let row = guard-row x b.nodes.now b.bounds.now holds n inside v t c.threshold_of.ensures.0 some row-of-node.result row-of-node.ensures.0 in
          let th = get_or x.thresholds (t - 1) no_threshold in
          let bound = e ∙ ap (λ (i : ℕ). get_or b.bounds.now i (pos 0)) (sym is) ∙ sym (signed (get_or b.bounds.now c.in-Some.t (pos 0)) (subst (λ (i : ℕ). mag (get_or b.bounds.now i (pos 0)) < figure_limit) (sym is) z)) in
          ◌∙◌ {a = did o told.result} {b = threshold_guard x v th}
          (told.ensures.ran.0 x th held (counts row-of-node.result k ∙ sym c.links_count-links.ensures) row f.node bound) f.guard,
      told.ensures.ran.1,
    )
