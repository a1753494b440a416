-- A job: its node count and its thresholds, each with its list of weighted terms.
use Rattle.std.specs.Prelude.{ℕ, List, ℤ}

-- A term: a condition node and its weight.
pub record Term : Type 0 where
  pub condition : ℕ
  pub weight : ℕ

abbrev pub term : ℕ → ℕ → Term
term c w = record { condition = c; weight = w }

-- A threshold: its node, its bound and what is listed in it, in the order of the records, zeros included.
pub record ThresholdOf (X : Type 0) : Type 0 where
  pub node : ℕ
  pub bound : ℤ
  pub terms : List X

pub record JobOf (X : Type 0) : Type 0 where
  pub nodes : ℕ
  pub thresholds : List (ThresholdOf X)

-- What is listed are terms; while records come in, what they give (`Entry`).
abbrev pub Threshold : Type 0
Threshold = ThresholdOf Term

abbrev pub Job : Type 0
Job = JobOf Term
