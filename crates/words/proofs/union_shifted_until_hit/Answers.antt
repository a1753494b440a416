-- `words::union_shifted_until_hit` meets its contract. The loop's invariant: the walk from here gives what the walk from the start gives.
use mathlib.Core.Path.{refl, sym, ap, ◌∙◌}
use mathlib.Core.List.{List}
use Prim.Native.Nat.{ℕ, ◌-◌}
use native.Mathlib.Omega.{arith}
use lib.ListN.{length}
use borrow.Author.Rules.{rules}
use Rattle.words.specs.Shift.{Shifted, shift_from}
use Rattle.words.specs.ShiftStepsLaws.{length_shift, from_none, from_stopped, from_hit, from_next, from_start}
use Rattle.words.proofs.union_shifted_until_hit.Goals as goal

pub loop-source-init : goal.loop-source-init
loop-source-init c =
    let g = c.args in
    let r = c.readable_words-readable.ensures in
    (refl, omega arith, from_start g.shift g.start g.end g.words.now g.source_words g.allowance c.readable_words-readable.result r)

pub returns-then-left-eq0 : goal.returns-then-left-eq0
returns-then-left-eq0 c =
    let g = c.args in
    let w = c.loop-source in
    let e = sym w.invariant.2 ∙ from_stopped g.shift g.start g.end w.words w.source w.left (search rules) c.if-left-eq0.true in
    record { moved = ap (λ (x : Shifted). x.words) (sym e); ended = ap (λ (x : Shifted). x.ended) (sym e) }

pub returns-then-shift_word : goal.returns-then-shift_word
returns-then-shift_word c =
    let g = c.args in
    let w = c.loop-source in
    let e = sym w.invariant.2
    ∙ from_hit g.shift g.start g.end w.words w.source w.left c.shift_word.result (search rules)
    c.if-left-eq0.false c.shift_word.ensures.hit c.if-shift_word.true in
    record { moved = c.shift_word.ensures.moved ∙ ap (λ (x : Shifted). x.words) (sym e); ended = ap (λ (x : Shifted). x.ended) (sym e) }

pub loop-source-preserved : goal.loop-source-preserved
loop-source-preserved c =
    let g = c.args in
    let w = c.loop-source in (
      ap length c.shift_word.ensures.moved ∙ length_shift w.words (w.source - 1) g.shift ∙ w.invariant.0,
      search rules,
      ap (λ (l : List ℕ). shift_from g.shift g.start g.end (w.source - 1) l (w.left - 1)) c.shift_word.ensures.moved
          ∙ sym (from_next g.shift g.start g.end w.words w.source w.left c.shift_word.result (search rules)
          c.if-left-eq0.false c.shift_word.ensures.hit c.if-shift_word.false)
          ∙ w.invariant.2,
    )

pub returns : goal.returns
returns c =
    let g = c.args in
    let w = c.loop-source in
    let e = sym w.invariant.2 ∙ from_none g.shift g.start g.end w.words w.source w.left (omega arith) in
    record { moved = ap (λ (x : Shifted). x.words) (sym e); ended = ap (λ (x : Shifted). x.ended) (sym e) }
