-- Laws of lent buffers: what keeps them twice keeps them, and what is said of the raw job when its buffers come back.
use Rattle.std.specs.Prelude.{ℕ, ℤ, List, ◌≡◌}
use Rattle.std.proofs.Common.{◌∙◌}
use Rattle.gather.specs.declared.Raw.{Raw}
use Rattle.gather.specs.declared.Notes.{Notes}
use Rattle.gather.specs.Lent.{SameRaw, SameNotes}

pub raw_on : (w v u : Raw) → SameRaw w v → SameRaw v u → SameRaw w u
raw_on w v u e f = (f.0 ∙ e.0, f.1 ∙ e.1, f.2 ∙ e.2, f.3 ∙ e.3, f.4 ∙ e.4, f.5 ∙ e.5, f.6 ∙ e.6, f.7 ∙ e.7)

pub notes_on : (n m l : Notes) → SameNotes n m → SameNotes m l → SameNotes n l
notes_on n m l e f = (f.0 ∙ e.0, f.1 ∙ e.1, f.2 ∙ e.2, f.3 ∙ e.3)

pub lent_back : (P : List ℕ → List ℕ → List (List ℕ) → List ℤ → Type 0) (v : Raw) {cs ws : List ℕ} {ts : List (List ℕ)} {bs : List ℤ}
    → cs ≡ v.raw_conditions.now → ws ≡ v.raw_weights.now → ts ≡ v.thresholds.now → bs ≡ v.bounds.now
    → P v.raw_conditions.now v.raw_weights.now v.thresholds.now v.bounds.now → P cs ws ts bs
lent_back P v e0 e1 e2 e3 p = rw (e0, e1, e2, e3) p
