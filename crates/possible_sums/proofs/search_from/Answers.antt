-- `possible_sums::search_from` meets its contract: the search of the terms that are left, from here, is that of the whole row.
use Prim.Native.Nat.{ℕ, suc, ◌+◌, ◌-◌, ◌/◌}
use native.Mathlib.Omega.{arith}
use mathlib.Core.Bool.{false}
use lib.Dec.{ltb}
use mathlib.Core.Path.{◌≡◌, refl, sym, ap, ap₂, ◌∙◌}
use mathlib.Core.List.{List, ◌∷◌, reverse}
use lib.ListN.{length, get_or}
use borrow.Author.Tests.{lt-ltb, le-ltb}
use Rattle.numeric.specs.Threshold.{Term}
use Rattle.numeric.specs.Slices.{terms}
use Rattle.words.specs.Mask.{in_either}
use Rattle.words.specs.Shift.{union_shifted}
use Rattle.words.specs.ShiftLaws.{union_length, complete_visits}
use Rattle.searches.specs.Search.{search_from}
use Rattle.numeric.specs.TermsLaws.{last_terms_of, last_all}
use Rattle.searches.specs.SearchStepsLaws.{last_term, turn, turn-none, turn-cut, from_heavy, from_skip, from_fits, from_stopped, from_more, hit_left}
use Rattle.possible_sums.proofs.search_from.Goals as goal
use Rattle.possible_sums.proofs.search_from.Goals.{Else-left-eq0, Else-weight-limit}

pub loop-place-init : goal.loop-place-init
loop-place-init c =
    let g = c.args in (
      refl,
      refl,
      omega arith,
      c.requires.prepared.1,
      omega arith,
      refl,
      ap (λ (l : List Term). search_from g.w (in_either g.sure.now g.never.now) l g.words.now 0 g.allowance)
          (last_all g.terms.conditions.now g.terms.weights.now c.requires.shape.same),
    )

pub returns-then-left-eq0 : goal.returns-then-left-eq0
returns-then-left-eq0 c =
    let g = c.args in
    let v = c.loop-place in
    let s = c.requires.shape.same in
    sym
    (turn-cut g.w (in_either g.sure.now g.never.now) g.terms.conditions.now g.terms.weights.now v.words v.place v.maximum v.left
    (omega arith) (omega arith) (omega arith) c.if-left-eq0.true)
    ∙ v.invariant.6

-- With a visit left, the search goes on with the lightest term that is left.
from_here : (c : Else-left-eq0) → search_from c.args.w (in_either c.args.sure.now c.args.never.now)
    (last_term c.args.terms.conditions.now c.args.terms.weights.now c.loop-place.place
    ∷ last_terms_of c.args.terms.conditions.now c.args.terms.weights.now (c.loop-place.place - 1))
    c.loop-place.words c.loop-place.maximum (suc (c.loop-place.left - 1))
    ≡ search_from c.args.w (in_either c.args.sure.now c.args.never.now)
    (reverse (terms c.args.terms.conditions.now c.args.terms.weights.now)) c.args.words.now 0 c.args.allowance
from_here c =
    let g = c.args in
    let v = c.loop-place in
    let s = c.requires.shape.same in
    sym
    (turn g.w (in_either g.sure.now g.never.now) g.terms.conditions.now g.terms.weights.now v.words v.place v.maximum v.left
    (omega arith) (omega arith) (omega arith) c.if-left-eq0.false)
    ∙ v.invariant.6

pub returns-then-weight-limit : goal.returns-then-weight-limit
returns-then-weight-limit c =
    let g = c.args in
    let v = c.loop-place in
    sym
    (from_heavy g.w (in_either g.sure.now g.never.now) (last_term g.terms.conditions.now g.terms.weights.now v.place) (last_terms_of g.terms.conditions.now g.terms.weights.now (v.place - 1))
    v.words v.maximum (v.left - 1)
    (lt-ltb g.w.maximum (get_or g.terms.weights.now (v.place - 1) 0) c.if-weight-limit.true))
    ∙ from_here (goal.at.returns-then-weight-limit c).Else-left-eq0

-- A term that is not too heavy.
light : (c : Else-weight-limit) → ltb c.args.w.maximum (get_or c.args.terms.weights.now (c.loop-place.place - 1) 0) ≡ false
light c = le-ltb c.args.w.maximum (get_or c.args.terms.weights.now (c.loop-place.place - 1) 0) c.if-weight-limit.false

pub loop-place-preserved-then-decided : goal.loop-place-preserved-then-decided
loop-place-preserved-then-decided c =
    let g = c.args in
    let v = c.loop-place in (
      refl,
      refl,
      omega arith,
      omega arith,
      v.invariant.4,
      v.invariant.5,
      sym
          (from_skip g.w (in_either g.sure.now g.never.now) (last_term g.terms.conditions.now g.terms.weights.now v.place) (last_terms_of g.terms.conditions.now g.terms.weights.now (v.place - 1))
          v.words v.maximum (v.left - 1)
          (light (goal.at.loop-place-preserved-then-decided c).Else-weight-limit) (sym c.decided.ensures ∙ c.if-decided.true))
          ∙ from_here (goal.at.loop-place-preserved-then-decided c).Else-left-eq0,
    )

pub overflow_sub-hit : goal.overflow_sub-hit
overflow_sub-hit c =
    let g = c.args in
    let v = c.loop-place in
    let h = hit_left v.words (v.maximum / 64 + 1) (get_or g.terms.weights.now (v.place - 1) 0) g.w.lower g.w.maximum (v.left - 1) c.in-Hit.after (sym c.union_shifted_until_hit-ended.ensures.ended ∙ c.in-Hit.is) in
    omega arith

pub returns-in-Hit : goal.returns-in-Hit
returns-in-Hit c =
    let g = c.args in
    let v = c.loop-place in
    sym
    (from_fits g.w (in_either g.sure.now g.never.now) (last_term g.terms.conditions.now g.terms.weights.now v.place) (last_terms_of g.terms.conditions.now g.terms.weights.now (v.place - 1))
    v.words v.maximum (v.left - 1)
    (light (goal.at.returns-in-Hit c).Else-weight-limit) ((sym c.decided.ensures ∙ c.if-decided.false)) c.in-Hit.after (sym c.union_shifted_until_hit-ended.ensures.ended ∙ c.in-Hit.is))
    ∙ from_here (goal.at.returns-in-Hit c).Else-left-eq0

pub returns-in-Stopped : goal.returns-in-Stopped
returns-in-Stopped c =
    let g = c.args in
    let v = c.loop-place in
    sym
    (from_stopped g.w (in_either g.sure.now g.never.now) (last_term g.terms.conditions.now g.terms.weights.now v.place) (last_terms_of g.terms.conditions.now g.terms.weights.now (v.place - 1))
    v.words v.maximum (v.left - 1)
    (light (goal.at.returns-in-Stopped c).Else-weight-limit) ((sym c.decided.ensures ∙ c.if-decided.false)) (sym c.union_shifted_until_hit-ended.ensures.ended ∙ c.in-Stopped.is))
    ∙ from_here (goal.at.returns-in-Stopped c).Else-left-eq0

pub loop-place-preserved : goal.loop-place-preserved
loop-place-preserved c =
    let g = c.args in
    let v = c.loop-place in
    let q : (union_shifted v.words (v.maximum / 64 + 1) (get_or g.terms.weights.now (v.place - 1) 0) g.w.lower g.w.maximum (v.left - 1)).ended ≡ _ = sym c.union_shifted_until_hit-ended.ensures.ended ∙ c.in-Complete.is in
    let k = complete_visits v.words (v.maximum / 64 + 1) (get_or g.terms.weights.now (v.place - 1) 0) g.w.lower g.w.maximum (v.left - 1) c.in-Complete.after q in
    let m = c.min-maximum.ensures in (
      refl,
      refl,
      omega arith,
      omega arith,
      omega arith,
      ap length c.union_shifted_until_hit-ended.ensures.moved ∙ union_length v.words (v.maximum / 64 + 1) (get_or g.terms.weights.now (v.place - 1) 0) g.w.lower g.w.maximum (v.left - 1) ∙ v.invariant.5,
      ap₂ (λ (l : List ℕ) (n : ℕ). search_from g.w (in_either g.sure.now g.never.now) (last_terms_of g.terms.conditions.now g.terms.weights.now (v.place - 1)) l n c.in-Complete.after) c.union_shifted_until_hit-ended.ensures.moved m
          ∙ sym
          (from_more g.w (in_either g.sure.now g.never.now) (last_term g.terms.conditions.now g.terms.weights.now v.place) (last_terms_of g.terms.conditions.now g.terms.weights.now (v.place - 1))
          v.words v.maximum (v.left - 1)
          (light (goal.at.loop-place-preserved c).Else-weight-limit) ((sym c.decided.ensures ∙ c.if-decided.false)) c.in-Complete.after q)
          ∙ from_here (goal.at.loop-place-preserved c).Else-left-eq0,
    )

pub returns : goal.returns
returns c =
    let g = c.args in
    let v = c.loop-place in
    sym
    (turn-none g.w (in_either g.sure.now g.never.now) g.terms.conditions.now g.terms.weights.now v.words v.place v.maximum v.left
    (omega (arith, c.loop-place-test.false)))
    ∙ v.invariant.6
