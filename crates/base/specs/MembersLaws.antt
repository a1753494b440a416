-- What is in a part of a list, or in the list turned round, is in the list.
use Rattle.std.specs.Prelude.{ℕ, zero, suc, ◌≡◌, ◌⊎◌, take, drop}
use mathlib.Core.List.Memᴰ
use mathlib.Core.List.{List, [], ◌∷◌, reverse, reverse_aux, Memᴰ}
use Rattle.std.proofs.Common.{inl, inr, ⊎_elim}

pub mem_drop : {X : Type 0} (n : ℕ) (xs : List X) (x : X) → Memᴰ x (drop n xs) → Memᴰ x xs
mem_drop zero xs x m = m
mem_drop (suc n) [] x m = m
mem_drop (suc n) (y ∷ ys) x m = Memᴰ.tail (mem_drop n ys x m)

pub mem_take : {X : Type 0} (n : ℕ) (xs : List X) (x : X) → Memᴰ x (take n xs) → Memᴰ x xs
mem_take zero xs x m = absurd (Memᴰ.not-nil m)
mem_take (suc n) [] x m = m
mem_take (suc n) (y ∷ ys) x m = ⊎_elim (λ (e : x ≡ y). Memᴰ.head e) (λ k. Memᴰ.tail (mem_take n ys x k)) (Memᴰ.cases_cons m)

mem_aux : {X : Type 0} (xs acc : List X) (x : X) → Memᴰ x (reverse_aux xs acc) → Memᴰ x xs ⊎ Memᴰ x acc
mem_aux [] acc x m = inr m
mem_aux (y ∷ ys) acc x m =
    ⊎_elim (λ k. inl (Memᴰ.tail k)) (λ k. ⊎_elim (λ (e : x ≡ y). inl (Memᴰ.head e)) (λ n. inr n) (Memᴰ.cases_cons k)) (mem_aux ys (y ∷ acc) x m)

pub mem_reverse : {X : Type 0} (xs : List X) (x : X) → Memᴰ x (reverse xs) → Memᴰ x xs
mem_reverse xs x m = ⊎_elim (λ k. k) (λ k. absurd (Memᴰ.not-nil k)) (mem_aux xs [] x m)
