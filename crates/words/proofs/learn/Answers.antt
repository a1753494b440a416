-- `words::learn` meets its contract: the three answers of its definition.
use mathlib.Core.Path.{sym, ap, ◌∙◌}
use Rattle.words.specs.Mask.{Learned}
use Rattle.words.specs.MaskLaws.{learn_there, learn_opposite, learn_new, set-bit}
use Rattle.words.proofs.learn.Goals as goal

pub returns-then-bit : goal.returns-then-bit
returns-then-bit c =
    let g = c.args in
    let e = learn_there g.mask.now g.opposite.now g.n (sym c.bit.ensures ∙ c.if-bit.true) in
    record { into = ap (λ (x : Learned). x.mask) (sym e); step = ap (λ (x : Learned). x.step) (sym e) }

pub returns-then-bit-2 : goal.returns-then-bit-2
returns-then-bit-2 c =
    let g = c.args in
    let e = learn_opposite g.mask.now g.opposite.now g.n (sym c.bit.ensures ∙ c.if-bit.false) (sym c.bit-2.ensures ∙ c.if-bit-2.true) in
    record { into = ap (λ (x : Learned). x.mask) (sym e); step = ap (λ (x : Learned). x.step) (sym e) }

pub returns : goal.returns
returns c =
    let g = c.args in
    let e = learn_new g.mask.now g.opposite.now g.n (sym c.bit.ensures ∙ c.if-bit.false) (sym c.bit-2.ensures ∙ c.if-bit-2.false) in
    record { into = set-bit g.mask.now g.n ∙ ap (λ (x : Learned). x.mask) (sym e); step = ap (λ (x : Learned). x.step) (sym e) }
