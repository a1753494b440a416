-- `thresholds::fingerprint` meets its contract.
use Rattle.std.proofs.Common.{rules, arith, ℕ, [], ◌∷◌, ◌++◌, ◌+◌, ◌*◌, ◌%◌, ◌∙◌, sym, ap, ap₂, length, drop, get_or, mod-lt}
use Rattle.std.proofs.lemmas.List.{length_push}
use Rattle.std.proofs.lemmas.Slice.Zip.{zip_turn, zip_end}
use Rattle.numeric.specs.Slices.{terms}
use Rattle.thresholds.specs.Raw.{prints, mixed as mixedOf}
use Rattle.thresholds.specs.RawLaws.{mixed_next, mixed_done, fingerprint_of}
use lib.Dec.{lit<}
use Rattle.thresholds.proofs.fingerprint.Goals as goal

pub loop-condition-preserved : goal.loop-condition-preserved
loop-condition-preserved c =
    let cs = c.args.conditions.now in
    let ws = c.args.weights.now in
    let w = c.loop-condition in
    let i = length w.yielded in
    let t = zip_turn cs ws w.yielded c.into_iter-condition-iterator.result w.condition-iterator c.next.new.self _ (search rules) (search rules) w.yielded_by _ c.in-Some.is c.next.ensures.steps in
    let n = length_push w.yielded (c.in-Some.condition, c.in-Some.weight) in (
      mod-lt _ (lit< tt),
      ap₂ (λ (x y : ℕ). mixedOf ((w.mixed * 65599 + x * 257 + y) % prints) (terms (drop (length (w.yielded ++ (c.in-Some.condition, c.in-Some.weight) ∷ [])) cs) (drop (length (w.yielded ++ (c.in-Some.condition, c.in-Some.weight) ∷ [])) ws))) (c.from.ensures ∙ t.2 0) (t.3 0)
          ∙ ap (λ (k : ℕ). mixedOf ((w.mixed * 65599 + get_or cs i 0 * 257 + get_or ws i 0) % prints) (terms (drop k cs) (drop k ws))) n
          ∙ sym (mixed_next cs ws w.mixed i t.0 t.1) ∙ w.invariant.1,
    )

pub returns : goal.returns
returns c =
    let cs = c.args.conditions.now in
    let ws = c.args.weights.now in
    let w = c.loop-condition in
    let t = zip_end cs ws w.yielded c.into_iter-condition-iterator.result w.condition-iterator c.next.new.self _ (search rules) (search rules) w.yielded_by c.in-None.is c.next.ensures.steps in
    mixed_done cs ws w.mixed (length w.yielded) (omega arith) ∙ w.invariant.1 ∙ fingerprint_of cs ws c.requires.1
