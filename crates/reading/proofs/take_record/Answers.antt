-- `reading::take_record` meets its contract: an arm for each kind.
use mathlib.Core.Path.{◌≡◌, refl, sym, ap, ◌∙◌}
use lib.IntN.{ℤ}
use mir.Syntax.{w64}
use mir.Val.{to_z, of_z}
use Rattle.records.specs.declared.Record.TheVariants.{Opens}
use Rattle.checks.specs.Checks.{refused_by}
use Rattle.reading.specs.HeldLaws.{takes_header, takes_opens, takes_adds, takes_areas, takes_seal, takes_other}
use borrow.Author.Rules.{rules}
use Rattle.reading.proofs.take_record.Goals as goal

pub open_threshold-requires : goal.open_threshold-requires
open_threshold-requires c =
    let g = c.args in
    let z = c.in-Opens.bound in
    let same : to_z w64 (of_z w64 z) ≡ z = search rules in
    (c.requires.0.listed, c.requires.0.bounded, ap (λ (y : ℤ). refused_by g.standing (Opens c.in-Opens.node y)) same ∙ sym (ap (refused_by g.standing) c.in-Opens.is) ∙ c.requires.2)

pub add_term-requires : goal.add_term-requires
add_term-requires c =
    ((c.requires.0.listed, c.requires.0.termed), search rules, sym (ap (refused_by c.args.standing) c.in-Adds.is) ∙ c.requires.2)

pub add_area-requires : goal.add_area-requires
add_area-requires c =
    ((c.requires.0.listed, c.requires.0.termed), c.requires.1, search rules, sym (ap (refused_by c.args.standing) c.in-Areas.is) ∙ c.requires.2)

pub returns-in-Header-clause-takes : goal.returns-in-Header-clause-takes
returns-in-Header-clause-takes c =
    let g = c.args in
    takes_header g.entry g.standing _ _ _ _ _ _ c.requires.2 _ c.in-Header.is c.begin.result c.begin.ensures

pub returns-in-Opens-clause-takes : goal.returns-in-Opens-clause-takes
returns-in-Opens-clause-takes c =
    let g = c.args in
    let w = g.raw.now in
    let n = g.notes.now in
    let t = c.open_threshold in
    let v = t.new.self in
    let z = c.in-Opens.bound in
    let same : to_z w64 (of_z w64 z) ≡ z = search rules in
    let so = takes_opens g.entry g.standing w.raw_conditions.now w.raw_weights.now w.thresholds.now w.bounds.now n.places.now n.sums.now c.requires.2 c.in-Opens.node z (to_z w64 (of_z w64 z)) c.in-Opens.is same t.result v.thresholds.now v.bounds.now t.ensures.opened in
    rw (t.ensures.kept.0, t.ensures.kept.1) so

pub returns-in-Adds-clause-takes : goal.returns-in-Adds-clause-takes
returns-in-Adds-clause-takes c =
    let g = c.args in
    let w = g.raw.now in
    let n = g.notes.now in
    let t = c.add_term in
    let v = t.new.self in
    let so = takes_adds g.entry g.standing w.raw_conditions.now w.raw_weights.now w.thresholds.now w.bounds.now n.places.now n.sums.now c.requires.2 _ _ c.in-Adds.is t.result v.raw_conditions.now v.raw_weights.now v.thresholds.now t.ensures.added in
    rw (t.ensures.kept) so

pub returns-in-Areas-clause-takes : goal.returns-in-Areas-clause-takes
returns-in-Areas-clause-takes c =
    let g = c.args in
    let w = g.raw.now in
    let n = g.notes.now in
    let t = c.add_area in
    let v = t.new.self in
    let m = t.new.notes in
    let so = takes_areas g.entry g.standing w.raw_conditions.now w.raw_weights.now w.thresholds.now w.bounds.now n.places.now n.sums.now c.requires.2 _ _ _ c.in-Areas.is refl t.result v.raw_conditions.now v.raw_weights.now v.thresholds.now m.places.now m.sums.now t.ensures.taken in
    rw (t.ensures.kept) so

pub returns-in-Seal-clause-takes : goal.returns-in-Seal-clause-takes
returns-in-Seal-clause-takes c =
    let g = c.args in
    takes_seal g.entry g.standing _ _ _ _ _ _ c.requires.2 c.in-Seal.is c.requires.4

pub returns-in-Mark-clause-takes : goal.returns-in-Mark-clause-takes
returns-in-Mark-clause-takes c =
    let g = c.args in
    takes_other g.entry g.standing _ _ _ _ _ _ c.requires.2 _ c.in-Mark.is c.requires.3 (λ z. z)

pub returns-in-Settle-clause-takes : goal.returns-in-Settle-clause-takes
returns-in-Settle-clause-takes c =
    let g = c.args in
    takes_other g.entry g.standing _ _ _ _ _ _ c.requires.2 _ c.in-Settle.is c.requires.3 (λ z. z)

pub returns-in-Sift-clause-takes : goal.returns-in-Sift-clause-takes
returns-in-Sift-clause-takes c =
    let g = c.args in
    takes_other g.entry g.standing _ _ _ _ _ _ c.requires.2 _ c.in-Sift.is c.requires.3 (λ z. z)

pub returns-in-Unknown-clause-takes : goal.returns-in-Unknown-clause-takes
returns-in-Unknown-clause-takes c =
    let g = c.args in
    takes_other g.entry g.standing _ _ _ _ _ _ c.requires.2 _ c.in-Unknown.is c.requires.3 (λ z. z)
