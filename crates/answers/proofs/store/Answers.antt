-- `answers::store` meets its contract: a settle's answer, a sift's, or none.
use native.Mathlib.Omega.{arith}
use mathlib.Core.Path.{◌≡◌, refl, sym, ap, subst}
use mathlib.Core.List.{List, [], ◌∷◌}
use Prim.Native.Nat.{ℕ, ◌+◌, ◌<◌}
use lib.ListN.{length}
use Rattle.state.specs.declared.Step.{Step}
use Rattle.records.specs.declared.Record.{Record}
use Rattle.records.specs.declared.Record.TheVariants.{Header, Opens, Adds, Areas, Seal, Mark, Settle, Sift, Unknown}
use Rattle.files.specs.File.{Answer, settled, sifted}
use Rattle.answers.specs.Answers.{answered}
use Rattle.answers.specs.AnswersLaws.{answer_put, answer_more, answer_none, answer_same}
use borrow.Author.Rules.{rules}
use Rattle.answers.proofs.store.Goals as goal

-- No other record has an answer.
none : (r : Record) → (r ≡ Settle → ⊥) → (r ≡ Sift → ⊥) → (k : Step) (n : ℕ) → answered r k n ≡ []
none (Header n) p q k m = refl
none (Opens n z) p q k m = refl
none (Adds c w) p q k m = refl
none (Areas c a) p q k m = refl
none Seal p q k m = refl
none (Mark n v) p q k m = refl
none Settle p q k m = absurd (p refl)
none Sift p q k m = absurd (q refl)
none Unknown p q k m = refl

-- A place for the answer.
room : (r : Record) (k : Step) (n : ℕ) (a : Answer) → answered r k n ≡ a ∷ [] → 0 < length (answered r k n)
room r k n a e = subst (λ (l : List Answer). 0 < length l) (sym e) (omega arith)

pub put-requires : goal.put-requires
put-requires c =
    let a = c.args in
    let e = ap (λ (r : Record). answered r a.step a.visits) c.in-Settle.is in
    let h = c.requires.0 (room a.given a.step a.visits (settled a.step) e) in
    (omega (arith, c.requires.1), h)

pub put-requires-in-Sift : goal.put-requires-in-Sift
put-requires-in-Sift c =
    let a = c.args in
    let e = ap (λ (r : Record). answered r a.step a.visits) c.in-Sift.is in
    let h = c.requires.0 (room a.given a.step a.visits (sifted a.step a.visits) e) in
    (omega (arith, c.requires.1), h)

pub returns-in-Settle : goal.returns-in-Settle
returns-in-Settle c =
    let a = c.args in
    let e = ap (λ (r : Record). answered r a.step a.visits) c.in-Settle.is in
    let h = c.requires.0 (room a.given a.step a.visits (settled a.step) e) in
    λ before base long many laid.
    rw e (
      answer_put before base a.answers.now laid a.count many (omega arith) (settled a.step) c.from-number.result 0 c.from-number.ensures refl c.put.new.answers c.put.ensures.0,
      answer_more before (settled a.step) a.count c.put.result many c.put.ensures.1,
    )

pub returns-in-Sift : goal.returns-in-Sift
returns-in-Sift c =
    let a = c.args in
    let e = ap (λ (r : Record). answered r a.step a.visits) c.in-Sift.is in
    let h = c.requires.0 (room a.given a.step a.visits (sifted a.step a.visits) e) in
    λ before base long many laid.
    rw e (
      answer_put before base a.answers.now laid a.count many (omega arith) (sifted a.step a.visits) (c.from-number.result + 4) a.visits (omega (arith, c.from-number.ensures)) refl c.put-in-Sift.new.answers c.put-in-Sift.ensures.0,
      answer_more before (sifted a.step a.visits) a.count c.put-in-Sift.result many c.put-in-Sift.ensures.1,
    )

pub returns-in_default : goal.returns-in_default
returns-in_default c =
    let a = c.args in
    let e = none a.given c.in_default.not-Settle c.in_default.not-Sift a.step a.visits in
    λ before base long many laid. rw e (answer_none before base a.answers.now laid, answer_same before a.count many)
