-- What holds of each element of a list holds of one that is in it.
use Rattle.std.specs.Prelude.{◌≡◌}
use Rattle.std.proofs.Common.{sym, subst, ⊎_elim}
use mathlib.Core.List.Memᴰ
use mathlib.Core.List.{List, [], ◌∷◌, Memᴰ}
use Rattle.base.specs.All.{All}

pub all_each : {X : Type 0} (P : X → Type 0) (xs : List X) → All P xs → (y : X) → Memᴰ y xs → P y
all_each P [] h y m = absurd (Memᴰ.not-nil m)
all_each P (x ∷ xs) h y m = ⊎_elim (λ (e : y ≡ x). subst P (sym e) h.0) (all_each P xs h.1 y) (Memᴰ.cases_cons m)
