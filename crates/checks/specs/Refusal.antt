-- The numbers of refusals, as docs/FORMAT.md has them.
use Rattle.std.specs.Prelude.{ℕ, Option, None, Some, Result, Ok, Err}
use Rattle.checks.specs.declared.Refusal.{Refusal}
use Rattle.checks.specs.declared.Refusal.TheVariants.{CutOff, UnknownKind, OutOfTurn, TooMany, NoSuchNode, NotRising, BoundOutside, NoValue, Contradicted, TooLong}

abbrev pub number_of : Refusal → ℕ
number_of CutOff = 1
number_of UnknownKind = 2
number_of OutOfTurn = 3
number_of TooMany = 4
number_of NoSuchNode = 5
number_of NotRising = 6
number_of BoundOutside = 7
number_of NoValue = 8
number_of Contradicted = 9
number_of TooLong = 10

-- 0 where nothing is refused.
abbrev pub number_if : Option Refusal → ℕ
number_if None = 0
number_if (Some r) = number_of r

abbrev pub number_in : {X : Type 0} → Result X Refusal → ℕ
number_in (Ok x) = 0
number_in (Err r) = number_of r
