-- `prepare::place_in` meets its contract. Assumes nothing.
use Prim.Native.Nat.{ℕ}
use native.Mathlib.Omega.{arith}
use mathlib.Core.List.{List, ◌++◌}
use lib.ListN.{length, drop, length-map}
use Rattle.base.specs.Laid.{join_all}
use Rattle.numeric.specs.Threshold.{Term}
use Rattle.row.specs.Keys.{conditions_of, weights_of}
use Rattle.thresholds.specs.Lent.{lists_of}
use Rattle.job.specs.Shared.{terms_to}
use Rattle.job.specs.RowsGivenTermsLaws.{terms_fit}
use Rattle.prepare.specs.PreparePartsLaws.{over_part, tail_kept}
use Rattle.prepare.specs.PrepareLaws.{open_ready}
use mathlib.Core.Path.{◌∙◌, ap, refl}
use Rattle.prepare.proofs.place_in.Goals as goal

pub place_all-requires : goal.place_all-requires
place_all-requires c =
    let g = c.args in
    let r = lists_of g.lists in
    open_ready r g.built.now.row_conditions.now g.built.now.row_weights.now g.built.now.rows.now g.nodes.now g.scratch.now g.built.now.guard_nodes.now c.requires

pub returns-clause-placed : goal.returns-clause-placed
returns-clause-placed c =
    let g = c.args in
    let p = c.requires in
    let r = lists_of g.lists in
    let s = c.place_all.ensures in
    let J = join_all (terms_to r (length g.lists.thresholds.now)) in
    let fit = terms_fit r (length g.lists.thresholds.now) p.lists in
    let lc = length-map J (λ (t : Term). t.condition) in
    let lw = length-map J (λ (t : Term). t.weight) in (
      record {
        many = s.0.many;
        end = s.0.end;
        conditions = ap (λ (l : List ℕ). l ++ drop (length g.lists.raw_conditions.now) g.built.now.row_conditions.now) s.0.conditions
            ∙ over_part (conditions_of J) g.built.now.row_conditions.now (length g.lists.raw_conditions.now) (omega arith) p.conditions;
        weights = ap (λ (l : List ℕ). l ++ drop (length g.lists.raw_conditions.now) g.built.now.row_weights.now) s.0.weights
            ∙ over_part (weights_of J) g.built.now.row_weights.now (length g.lists.raw_conditions.now) (omega arith) p.weights;
        entries = s.0.entries;
        named = s.0.named;
      },
      tail_kept g.scratch.now _ 1024 s.1,
      s.2,
      refl,
    )
