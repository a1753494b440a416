-- `serve::serve_record` meets its contract: the record is refused, or taken.
use mathlib.Core.Path.{refl, ap}
use Prim.Native.Nat.{ℕ, ◌+◌}
use Rattle.checks.specs.Next.{next_of}
use Rattle.row_moves.specs.Lent.{built_of}
use Rattle.serve.specs.KeptLent.{kept_in}
use Rattle.serve.specs.ServeLaws.{next_refused, next_passed, next_asks, next_taken}
use Rattle.serve.proofs.serve_record.Goals as goal

pub take_record-requires : goal.take_record-requires
take_record-requires c =
    let a = c.args in
    let b = a.built in
    let k = kept_in a.kept.now in
    let p = c.requires in
    let n = c.next_record-found in (
      p.0.0,
      p.0.1,
      p.0.2,
      next_asks b.bounds.now (built_of b) p.0.1 p.0.0 k a.reached p.0.2 a.input.now p.1 (next_of n.result) n.ensures c.in-Ok.given (ap next_of c.in-Ok.is),
      next_passed b.bounds.now (built_of b) p.0.1 p.0.0 k a.reached p.0.2 a.input.now p.1 (next_of n.result) n.ensures c.in-Ok.given (ap next_of c.in-Ok.is),
    )

pub returns-in-Err-clause-reaches : goal.returns-in-Err-clause-reaches
returns-in-Err-clause-reaches c =
    let a = c.args in
    let b = a.built in
    let n = c.next_record-found in
    λ f base z. next_refused b.bounds.now (built_of b) base f (kept_in a.kept.now) a.reached z a.input.now c.requires.1 (next_of n.result) n.ensures _ (ap next_of c.in-Err.is) _ refl refl refl c.from.ensures refl

pub returns-in-Ok-clause-reaches : goal.returns-in-Ok-clause-reaches
returns-in-Ok-clause-reaches c =
    let a = c.args in
    let b = a.built in
    let k = kept_in a.kept.now in
    let n = c.next_record-found in
    let t = c.take_record in
    let size = c.body_length-size in
    λ f base z.
    let asks = next_asks b.bounds.now (built_of b) base f k a.reached z a.input.now c.requires.1 (next_of n.result) n.ensures c.in-Ok.given (ap next_of c.in-Ok.is) in
    let passed = next_passed b.bounds.now (built_of b) base f k a.reached z a.input.now c.requires.1 (next_of n.result) n.ensures c.in-Ok.given (ap next_of c.in-Ok.is) in
    next_taken b.bounds.now (built_of b) base f k a.reached z a.input.now c.requires.1 (next_of n.result) n.ensures c.in-Ok.given (ap next_of c.in-Ok.is) (kept_in t.new.kept) t.result
    (a.reached.at + 1 + size.result) (ap (λ (k : ℕ). a.reached.at + 1 + k) size.ensures) (t.ensures.reaches f base z asks passed)
