-- How large the figures of a row state may be, so that differences and drained weights fit.
use Rattle.std.specs.Prelude.{ℕ, ◌<◌, ◌^◌}
use Rattle.std.specs.Int.Signed.{mag}
use Rattle.state.specs.declared.State.{State}
use Rattle.state.specs.State.{limit}

-- Figures so far inside 64 bits that a difference of two fits.
pub record Figures (s : State) : Type 0 where
  pub known : mag s.known < 2 ^ 61
  pub possible : mag s.possible < 2 ^ 61
  pub lower : mag s.lower < 2 ^ 61
  pub upper : mag (limit s.upper) < 2 ^ 61

-- Figures and a weight so far inside 64 bits that draining the weight stays inside.
pub record Drains (s : State) (weight : ℕ) : Type 0 where
  pub known : mag s.known < 2 ^ 62
  pub possible : mag s.possible < 2 ^ 62
  pub light : weight < 2 ^ 46
