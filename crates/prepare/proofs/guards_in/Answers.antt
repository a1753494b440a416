-- `prepare::guards_in` meets its contract. Assumes nothing.
use Prim.Native.Nat.{ℕ}
use native.Mathlib.Omega.{arith}
use mathlib.Core.List.{List, ◌++◌}
use lib.ListN.{length, take, drop}
use lib.Seq.{length-take-le}
use Rattle.base.specs.Laid.{ends}
use Rattle.base.specs.Deal.{grouped}
use Rattle.base.specs.Columns.{with_column}
use Rattle.base.specs.TallyLaws.{mapped_long}
use Rattle.rows.specs.Guards.{bound_item, node_item, bound_items, node_items}
use Rattle.prepare.specs.PreparePartsLaws.{grouped_part, cleared_part}
use Rattle.std.proofs.Common.{length-append, length-drop}
use mathlib.Core.Path.{◌∙◌, ap, refl}
use Rattle.prepare.proofs.guards_in.Goals as goal

pub returns-clause-dealt : goal.returns-clause-dealt
returns-clause-dealt c = let g = c.args in
    let p = c.requires in
    let s = c.index_guards.ensures in
    let ks = take (length g.bounds.now) g.scratch.now in
    let k = length-take-le (length g.bounds.now) g.scratch.now p.3 in
    let n = length-take-le g.count g.built.now.rows.now p.0 in
    let x = mapped_long (bound_item g.thresholds.now g.nodes.now g.bounds.now) ks in
    let y = mapped_long (node_item g.thresholds.now g.nodes.now) ks in (
      record {
        entries = ap (λ (l : List (List ℕ)). l ++ drop g.count g.built.now.rows.now)
            (s.0 ∙ ap (λ (m : ℕ). with_column 1 (take g.count g.built.now.rows.now) (ends 0 (grouped 0 m (bound_items g.thresholds.now g.nodes.now g.bounds.now ks)))) n);
        limits = grouped_part (bound_items g.thresholds.now g.nodes.now g.bounds.now ks) _ g.count g.built.now.guard_bounds.now _ (length g.bounds.now) n (omega arith) p.1 s.1;
        names = grouped_part (node_items g.thresholds.now g.nodes.now ks) _ g.count g.built.now.guard_nodes.now _ (length g.bounds.now) n (omega arith) p.2 s.2;
      },
      cleared_part g.scratch.now _ (length g.bounds.now) p.3 (c.fill.ensures.after (λ y h. h)),
      (
          let x = length-append c.index_guards.new.rows (drop g.count g.built.now.rows.now) in
          let y = length-drop g.count g.built.now.rows.now in
          let z = c.index_guards.auto.rows in
          omega (arith, x, y, z, n, p.0)
          ),
      refl,
      refl,
    )
