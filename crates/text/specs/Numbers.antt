-- The last digits of a number, as bytes.
use Rattle.std.specs.Prelude.{ℕ, ◌+◌, ◌/◌, ◌%◌, List, [], ◌∷◌}

abbrev pub unit : ℕ → ℕ
unit n = 48 + n % 10

abbrev pub pair : ℕ → List ℕ
pair n = unit (n / 10) ∷ unit n ∷ []

abbrev pub four : ℕ → List ℕ
four n = unit (n / 100 / 10) ∷ unit (n / 100) ∷ unit (n / 10) ∷ unit n ∷ []

-- THE LENGTH: the most bytes that a number, a step's word, the figures of a row and each line take.
abbrev pub max_decimal : ℕ
max_decimal = 20

abbrev pub max_signed : ℕ
max_signed = 21
