-- Lists laid into buffers: one behind the other, with the places where each ends.
use Rattle.std.specs.Prelude.{ℕ, zero, suc, ◌+◌, List, [], ◌∷◌, ◌++◌, length, drop}

-- A list at the start of a buffer; behind it the buffer stays as it was.
abbrev pub over : {X : Type 0} → List X → List X → List X
over l b = l ++ drop (length l) b

-- All lists, one behind the other.
unfoldable pub join_all : {X : Type 0} → List (List X) → List X
join_all [] = []
join_all (l ∷ ls) = l ++ join_all ls

-- Where each of them ends; the first begins at n.
unfoldable pub ends : {X : Type 0} → ℕ → List (List X) → List ℕ
ends n [] = []
ends n (l ∷ ls) = (n + length l) ∷ ends (n + length l) ls

-- Two, three or four parallel lists, place by place.
unfoldable pub pairs : {X : Type 0} → List X → List X → List (List X)
pairs [] ys = []
pairs (x ∷ xs) [] = []
pairs (x ∷ xs) (y ∷ ys) = (x ∷ y ∷ []) ∷ pairs xs ys

unfoldable pub triples : {X : Type 0} → List X → List X → List X → List (List X)
triples [] ys zs = []
triples (x ∷ xs) [] zs = []
triples (x ∷ xs) (y ∷ ys) [] = []
triples (x ∷ xs) (y ∷ ys) (z ∷ zs) = (x ∷ y ∷ z ∷ []) ∷ triples xs ys zs

unfoldable pub quads : {X : Type 0} → List X → List X → List X → List X → List (List X)
quads [] ys zs ts = []
quads (x ∷ xs) [] zs ts = []
quads (x ∷ xs) (y ∷ ys) [] ts = []
quads (x ∷ xs) (y ∷ ys) (z ∷ zs) [] = []
quads (x ∷ xs) (y ∷ ys) (z ∷ zs) (t ∷ ts) = (x ∷ y ∷ z ∷ t ∷ []) ∷ quads xs ys zs ts

-- n, n + 1 .. as many as the second argument says.
unfoldable pub numbers : ℕ → ℕ → List ℕ
numbers n zero = []
numbers n (suc k) = n ∷ numbers (n + 1) k
