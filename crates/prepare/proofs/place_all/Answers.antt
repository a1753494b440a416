-- `prepare::place_all` meets its contract. Assumes nothing.
use native.Mathlib.Omega.{arith}
use Prim.Native.Nat.{ℕ, ◌≤◌}
use lib.ListN.{length, replicate}
use Rattle.base.specs.Laid.{join_all}
use Rattle.row.specs.Keys.{conditions_of, weights_of}
use Rattle.thresholds.specs.Lent.{lists_of}
use Rattle.job.specs.Shared.{terms_to}
use Rattle.placing.specs.PlaceLaws.{marks_few}
use Rattle.prepare.specs.PreparePartsLaws.{laid-over, cleared_part}
use Rattle.prepare.specs.PrepareLaws.{marks-cleared}
use mathlib.Core.Path.{◌∙◌, sym, ap}
use Rattle.prepare.proofs.place_all.Goals as goal

pub returns : goal.returns
returns c =
    let g = c.args in
    let p = c.requires in
    let r = (lists_of c.args.lists) in
    let s = c.place_rows-so.ensures in
    let J = join_all (terms_to r (length g.lists.thresholds.now)) in
    let k = c.place_rows-so.auto.scratch in
    let few = marks_few r _ _ _ _ s.0.marks in
    let many = p.0.lists.many in
    let words = p.0.words in (
      record {
        many = s.0.marks.many;
        end = s.0.end;
        conditions = laid-over g.row_conditions.now _ (conditions_of J) p.2 c.place_rows-so.auto.row_conditions s.0.terms.conditions;
        weights = laid-over g.row_weights.now _ (weights_of J) p.3 c.place_rows-so.auto.row_weights s.0.terms.weights;
        entries = s.1;
        named = s.2;
      },
      cleared_part _ _ c.place_rows-so.result.rows ((let it : c.place_rows-so.result.rows ≤ length c.place_rows-so.new.scratch = let few = marks_few (lists_of c.args.lists) _ _ _ _ c.place_rows-so.ensures.0.marks in omega (arith, c.requires.0.lists.many, c.requires.0.words, c.place_rows-so.auto.scratch) in it)) (c.fill.ensures.after (λ y h. h)) ∙ marks-cleared r _ c.place_rows-so.result.rows g.scratch.now _ _ p.4 k (omega arith) s.0.marks,
      c.fill-2.ensures.after (λ y h. h) ∙ ap (λ (n : ℕ). replicate n 0) c.place_rows-so.auto.heads ∙ sym p.5,
    )
