-- Cleared lists: as long as before, and the cleared element throughout.
use Rattle.std.specs.Prelude.{suc, ℕ, ◌≤◌, ◌≡◌, refl, List, [], ◌∷◌, length, replicate}
use Rattle.std.proofs.Common.{ap, sym, subst, ◌∙◌}
use Rattle.memory.specs.Buffers.{zeros}

pub zeros-length : {X : Type 0} (z : X) (l : List X) → length (zeros z l) ≡ length l
unfolding zeros
zeros-length z [] = refl
zeros-length z (x ∷ l) = ap suc (zeros-length z l)

pub zeros_are : {X : Type 0} (z : X) (l : List X) → zeros z l ≡ replicate (length (zeros z l)) z
unfolding zeros
zeros_are z [] = refl
zeros_are z (x ∷ l) = ap (λ (t : List _). z ∷ t) (zeros_are z l)

pub zeros_room : {X : Type 0} {n : ℕ} (z : X) (l : List X) → n ≤ length l → n ≤ length (zeros z l)
zeros_room {n = n} z l h = subst (λ (m : ℕ). n ≤ m) (sym (zeros-length z l)) h

-- A buffer filled with z, as `fill` says it, is cleared.
pub zeros-filled : {X : Type 0} (z : X) (l m : List X) → m ≡ replicate (length l) z → m ≡ zeros z l
zeros-filled z l m e = e ∙ ap (λ (n : ℕ). replicate n z) (sym (zeros-length z l)) ∙ sym (zeros_are z l)
