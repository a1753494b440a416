-- The one pass over the order: the ancestors as a chain through words. Below row a on the stack stands the row that word a names, its number and 1; 0 ends the chain.
use Rattle.std.specs.Prelude.{ℕ, zero, suc, ◌+◌, ◌-◌, ◌<◌, ◌≤◌, ◌≡◌, true, false, List, [], ◌∷◌, eqb, ltb, length, get_or}
use Rattle.base.specs.Parts.{end_by, start_by}
use Rattle.numeric.specs.Threshold.{Term}

-- The stack that begins at word t.
abbrev pub Chain : List ℕ → ℕ → List ℕ → Type 0
Chain s t [] = t ≡ 0
Chain s t (a ∷ more) = (t ≡ a + 1) × Chain s (get_or s a 0) more

-- How many terms a row has, and so the ancestors that are kept, and what stands below a new row.
abbrev pub length_at : List (List ℕ) → ℕ → ℕ
length_at rows r = end_by 0 rows r - start_by 0 rows r

unfoldable pub kept_by : (ℕ → ℕ) → ℕ → List ℕ → List ℕ
kept_by L shared [] = []
kept_by L shared (a ∷ more) = elim (ltb shared (L a)) [ true ↦ kept_by L shared more | false ↦ a ∷ more ]

unfoldable pub under_by : (ℕ → ℕ) → ℕ → List ℕ → List ℕ
under_by L r [] = []
under_by L r (a ∷ more) = elim (eqb (L a) (L r)) [ true ↦ more | false ↦ a ∷ more ]

-- One more than the length of the row that a word names; 0 for none. It falls along a chain.
unfoldable pub depth : List (List ℕ) → ℕ → ℕ
depth rows zero = 0
depth rows (suc a) = suc (length_at rows a)

abbrev pub Falling : List (List ℕ) → List ℕ → Type 0
Falling rows s = (a : ℕ) → a < length rows → (get_or s a 0 ≤ length rows) × (depth rows (get_or s a 0) < depth rows (a + 1))

abbrev pub Rises : List (List ℕ) → Type 0
Rises rows = (r : ℕ) → r < length rows → start_by 0 rows r ≤ end_by 0 rows r

-- The terms of the row that a word names.
unfoldable pub named : (ℕ → List Term) → ℕ → List Term
named T zero = []
named T (suc a) = T a

-- The word that names the first of a list.
unfoldable pub head_word : List ℕ → ℕ
head_word [] = 0
head_word (a ∷ more) = a + 1

-- What popping gives, and what goes below row r.
pub record Popped (rows : List (List ℕ)) (s : List ℕ) (top shared t : ℕ) : Type 0 where
  pub row : t ≤ length rows
  pub short : depth rows t ≤ shared + 1
  pub chain : (st : List ℕ) → Chain s top st → Chain s t (kept_by (length_at rows) shared st)

pub record Under (rows : List (List ℕ)) (s : List ℕ) (t r u : ℕ) : Type 0 where
  pub row : u ≤ length rows
  pub falls : depth rows u < depth rows (r + 1)
  pub chain : (st : List ℕ) → Chain s t st → Chain s u (under_by (length_at rows) r st)

-- Words of which as many are zero as there are rows.
abbrev pub Fresh : ℕ → List ℕ → Type 0
Fresh n s = (n ≤ length s) × ((a : ℕ) → a < n → get_or s a 0 ≡ 0)
