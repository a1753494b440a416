-- The powers of two below which numbers stay.
use Rattle.std.specs.Prelude.{ℕ, ◌^◌}

-- A raw weight is below this: the area of a term, or of areas joined to one.
abbrev pub raw_limit : ℕ
raw_limit = 2 ^ 36

-- A row's weight, and so an edge's, is below this: up to list_terms raw weights are merged into it.
abbrev pub weight_limit : ℕ
weight_limit = 2 ^ 46

-- A drained edge moves a figure by less than this.
abbrev pub drain_limit : ℕ
drain_limit = 2 ^ 47

-- Totals and bounds stand below total_limit when they are read, below room_limit while edges are drained (2 ^ 59 + 4,096 · 2 ^ 47), and no figure
-- reaches figure_limit.
abbrev pub total_limit : ℕ
total_limit = 2 ^ 59

abbrev pub room_limit : ℕ
room_limit = 2 ^ 60

abbrev pub figure_limit : ℕ
figure_limit = 2 ^ 61
