-- `prepare::order_keys` meets its contract. Assumes nothing.
use lib.ListN.{length}
use lib.Seq.{length-take-le}
use Rattle.sort.specs.Sorted.{sorted}
use Rattle.sort.specs.SortedLaws.{length-sorted}
use Rattle.rows.specs.Guards.{guard_keys}
use Rattle.rows.specs.GuardsLaws.{length_keys}
use Rattle.prepare.specs.PreparePartsLaws.{keys_over, spare_kept}
use mathlib.Core.Path.{◌∙◌}
use Rattle.prepare.proofs.order_keys.Goals as goal

pub returns : goal.returns
returns c = let g = c.args in
    let p = c.requires in
    let s = c.order_guards.ensures in
    let a = length-take-le (length g.bounds.now) g.scratch.now p.3 in (
      spare_kept g.row_weights.now _ (length g.bounds.now) _ p.4 p.2 a s.1,
      keys_over g.scratch.now (sorted (guard_keys 0 g.bounds.now)) _ (length g.bounds.now) s.0 (length-sorted (guard_keys 0 g.bounds.now) ∙ length_keys 0 g.bounds.now),
    )
