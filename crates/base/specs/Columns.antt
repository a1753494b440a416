-- Columns of a list of short rows, as a buffer of arrays holds them.
use Rattle.std.specs.Prelude.{ℕ, ◌<◌, ◌≡◌, List, [], ◌∷◌, map, length, get_or, set}

-- What stands in column j.
abbrev pub column : ℕ → List (List ℕ) → List ℕ
column j rows = map (λ (v : List ℕ). get_or v j 0) rows

-- Column j written anew, the others as they were.
unfoldable pub with_column : ℕ → List (List ℕ) → List ℕ → List (List ℕ)
with_column j [] cs = []
with_column j (v ∷ rows) [] = v ∷ rows
with_column j (v ∷ rows) (c ∷ cs) = set v j c ∷ with_column j rows cs

-- One place of column j written.
abbrev pub stored : ℕ → List (List ℕ) → ℕ → ℕ → List (List ℕ)
stored j rows i x = set rows i (set (get_or rows i []) j x)

-- Each row has a column j.
abbrev pub Wide : ℕ → List (List ℕ) → Type 0
Wide j rows = (i : ℕ) → i < length rows → j < length (get_or rows i [])

-- Two lists of rows that differ in column j alone.
pub record Beside (j : ℕ) (rows others : List (List ℕ)) : Type 0 where
  pub long : length rows ≡ length others
  pub apart : (cs : List ℕ) → length cs ≡ length others → with_column j rows cs ≡ with_column j others cs
