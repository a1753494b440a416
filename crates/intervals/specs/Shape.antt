-- What a check by divisibility asks of a row's interval.
use Rattle.std.specs.Prelude.{◌≤◌, min}
use Rattle.intervals.specs.declared.Interval.{Interval}

-- Sums are allowed, above what is known and not above what is possible.
pub record Window (i : Interval) : Type 0 where
  pub above : i.known ≤ i.lower
  pub inside : i.lower ≤ min i.possible i.upper
