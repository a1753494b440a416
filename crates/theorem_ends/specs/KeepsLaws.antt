-- What every decision of a node of some kind keeps, a residual of terms of that kind keeps too. Assumes nothing.
use Rattle.std.specs.Prelude.{ℕ, Bool, true, false, List, [], ◌∷◌}
use Rattle.base.specs.All.{All}
use Rattle.numeric.specs.Threshold.{Term}
use Rattle.state.specs.declared.State.{State}
use Rattle.queues.specs.Marks.{Marks, Decided, decide}
use Rattle.intervals.specs.Residual.{threshold_residual}
use Rattle.intervals.specs.declared.Interval.{Interval}
use Rattle.intervals.proofs.ForceLaws.{Each, force-cases, residual_keeping}

inside : (Q : Term → Type 0) (ts : List Term) → All Q ts → Each Q ts
inside Q [] h = tt
inside Q (t ∷ ts) h = (h.0, inside Q ts h.1)

pub residual-named : (P : Marks → Type 0) (Ok : ℕ → Type 0) → ((value : Bool) (m : Marks) (n : ℕ) → Ok n → P m → P (decide value m n).marks)
    → (ts : List Term) → All (λ (t : Term). Ok t.condition) ts → (s : State) (m : Marks) (gcds : List ℕ) → P m → P (threshold_residual ts s m gcds).marks
residual-named P Ok each ts are s m gcds p =
    residual_keeping (λ (t : Term). Ok t.condition) P
    (λ (i : Interval) (k : Marks) (t : Term) (divisor : ℕ) h v.
    force-cases (λ (x : Decided). P x.marks) i k t divisor v (λ f g. v) (λ f. each true k t.condition h v) (λ f. each false k t.condition h v))
    ts s m gcds (inside (λ (t : Term). Ok t.condition) ts are) p
