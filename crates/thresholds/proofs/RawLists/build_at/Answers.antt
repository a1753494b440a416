-- `thresholds::RawLists::build_at` meets its contract. Assumes nothing.
use Rattle.memory.specs.Limits.{max_nodes}
use Rattle.memory.specs.Ranges.{raw_limit}
use Rattle.numeric.specs.Slices.{terms}
use Rattle.row.specs.Terms.{row_terms}
use Rattle.row.specs.Keys.{conditions_of, weights_of}
use Rattle.base.specs.Parts.{stretch}
use Rattle.thresholds.specs.PlacedLaws.{stretch_small, splice_by, clear_part}
use Rattle.rows.specs.ListsLaws.{stretch-length}
use mathlib.Core.Path.{◌≡◌, ap, ◌∙◌}
use mathlib.Core.List.{List, ◌++◌}
use Prim.Native.Nat.{ℕ, ◌+◌, ◌-◌}
use native.Mathlib.Omega.{arith}
use lib.ListN.{length, take, drop}
use Rattle.thresholds.proofs.RawLists.build_at.Goals as goal

pub build_row-count-requires : goal.build_row-count-requires
build_row-count-requires c =
    let g = c.args in
    let p = c.requires in
    let cs = g.self.raw_conditions.now in
    let ws = g.self.raw_weights.now in
    let lc = stretch-length g.a g.e cs p.1 in
    let to = g.at + (g.e - g.a) in
    let lw = stretch-length g.a g.e ws (omega arith) in
    let lr = stretch-length g.at to g.row_conditions.now (omega arith) in
    let lv = stretch-length g.at to g.row_weights.now (omega arith) in
    let ls = stretch-length 1024 (length g.scratch.now) g.scratch.now (omega arith) in (
      omega (arith, lw, lc),
      omega (arith, lr, lc),
      omega (arith, lv, lc),
      omega (arith, lc, p.3, p.0),
      omega (arith, lc, p.3, p.0, ls, p.8),
      stretch_small g.a g.e cs max_nodes p.6,
      stretch_small g.a g.e ws raw_limit p.7,
    )

pub returns : goal.returns
returns c =
    let g = c.args in
    let p = c.requires in
    let cs = g.self.raw_conditions.now in
    let ws = g.self.raw_weights.now in
    let lc = stretch-length g.a g.e cs p.1 in
    let x = row_terms (terms (stretch g.a g.e cs) (stretch g.a g.e ws)) in
    let s = c.build_row-count.ensures in
    let at = g.at in
    let m = g.e - g.a in
    let f : at + m - at ≡ m = omega arith in
    let n = s.1 in
    let k = s.0 in (
      ap (λ (x : ℕ). at + x) k,
      omega (arith, n, k, lc),
      splice_by at m (at + m - at) _ g.row_conditions.now _ (conditions_of x) s.2 lc f,
      splice_by at m (at + m - at) _ g.row_weights.now _ (weights_of x) s.3 lc f,
      ap (λ (y : List ℕ). take 1024 g.scratch.now ++ (y ++ drop (length g.scratch.now - 1024) (drop 1024 g.scratch.now))) s.4
          ∙ clear_part g.scratch.now 1024 (length (stretch g.a g.e cs)) (omega (arith, p.8)) p.9 (omega (arith, lc, p.3, p.0, p.8)),
    )
