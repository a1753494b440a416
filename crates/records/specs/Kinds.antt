-- The bytes that name the kinds of records.
use Rattle.std.specs.Prelude.{ℕ, ◌≡◌, ◌||◌, true, Option, None, Some, length, eqb, leb}
use Rattle.records.specs.declared.Kind.{Kind}
use Rattle.records.specs.declared.Kind.TheVariants.{Header, Opens, Adds, Seal, Mark, Settle, Sift, Areas}
use Rattle.records.specs.Record.{kinds}

abbrev pub byte_of : Kind → ℕ
byte_of Header = 1
byte_of Opens = 2
byte_of Adds = 3
byte_of Seal = 4
byte_of Mark = 5
byte_of Settle = 6
byte_of Sift = 7
byte_of Areas = 8

-- A byte names a kind, or stands for none in the table of kinds.
abbrev pub Names : ℕ → Option Kind → Type 0
Names b None = (eqb b 0 || leb (length kinds) b) ≡ true
Names b (Some k) = b ≡ byte_of k
