-- `words::shift_word` meets its contract: a word that stays whole, one whose upper part falls off the end, and one in two parts.
use mathlib.Core.Path.{sym, ◌∙◌}
use Prim.Native.Nat.{◌+◌, ◌-◌, ◌/◌, ◌%◌, ◌<◌, ◌≤◌}
use lib.ListN.{length, length-set}
use Rattle.words.specs.ShiftStepsLaws.{spills-whole, spills_last, spills-over, shift_one, shift_two, hits_one, hits_low, hits_high}
use Rattle.words.proofs.shift_word.Goals as goal

pub returns-then-offset-eq0 : goal.returns-then-offset-eq0
returns-then-offset-eq0 c =
    let g = c.args in
    let e = spills-whole g.words.now (g.source + g.shift / 64) (g.shift % 64) c.if-offset-eq0.true in
    record { moved = shift_one g.words.now g.source g.shift e; hit = c.meets-found.ensures ∙ hits_one g.words.now g.source g.shift g.start g.end e }

pub returns-then-last-target : goal.returns-then-last-target
returns-then-last-target c =
    let g = c.args in
    let h : length g.words.now - 1 ≤ g.source + g.shift / 64 = simp length-set at c.if-last-target.true in
    let e = spills_last g.words.now (g.source + g.shift / 64) (g.shift % 64) h in
    record { moved = shift_one g.words.now g.source g.shift e; hit = c.meets-found.ensures ∙ hits_one g.words.now g.source g.shift g.start g.end e }

pub returns-then-found : goal.returns-then-found
returns-then-found c =
    let g = c.args in
    let h : g.source + g.shift / 64 < length g.words.now - 1 = simp length-set at c.if-last-target.false in
    let e = spills-over g.words.now (g.source + g.shift / 64) (g.shift % 64) c.if-offset-eq0.false h in record { moved = shift_two g.words.now g.source g.shift e; hit = hits_low g.words.now g.source g.shift g.start g.end (sym c.meets-found.ensures ∙ c.if-found.true) }

pub returns : goal.returns
returns c =
    let g = c.args in
    let h : g.source + g.shift / 64 < length g.words.now - 1 = simp length-set at c.if-last-target.false in
    let e = spills-over g.words.now (g.source + g.shift / 64) (g.shift % 64) c.if-offset-eq0.false h in record { moved = shift_two g.words.now g.source g.shift e; hit = c.meets.ensures ∙ hits_high g.words.now g.source g.shift g.start g.end e (sym c.meets-found.ensures ∙ c.if-found.false) }
