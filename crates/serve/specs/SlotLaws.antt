-- Slots of four numbers are what their four columns are.
use Rattle.std.specs.Prelude.{ℕ, suc, ◌<◌, ◌≡◌, refl, List, [], ◌∷◌, length, get_or}
use Rattle.std.proofs.Common.{arith, ap₂}
use Rattle.base.specs.Laid.{quads}
use Rattle.serve.specs.Serve.{fourfold}

four_list : (v : List ℕ) → length v ≡ 4 → (get_or v 0 0 ∷ get_or v 1 0 ∷ get_or v 2 0 ∷ get_or v 3 0 ∷ []) ≡ v
four_list [] h = absurd (omega arith)
four_list (a ∷ []) h = absurd (omega arith)
four_list (a ∷ b ∷ []) h = absurd (omega arith)
four_list (a ∷ b ∷ c ∷ []) h = absurd (omega arith)
four_list (a ∷ b ∷ c ∷ d ∷ []) h = refl
four_list (a ∷ b ∷ c ∷ d ∷ e ∷ l) h = absurd (omega arith)

pub fourfold_all : (q : List (List ℕ)) → ((i : ℕ) → i < length q → length (get_or q i []) ≡ 4) → fourfold q ≡ q
unfolding quads
fourfold_all [] h = refl
fourfold_all (v ∷ q) h = ap₂ (λ (x : List ℕ) (t : List (List ℕ)). x ∷ t) (four_list v (h 0 (omega arith))) (fourfold_all q (λ i k. h (suc i) (omega arith)))
