-- What `prepare` builds in lent buffers, as the buffers' records, before the links are found.
use Rattle.std.specs.Prelude.{ℕ, ◌≡◌, List, [], length}
use Rattle.memory.specs.Buffers.{HeldRows, held_rows, Built, built}
use Rattle.prepare.specs.declared.NewRows.{NewRows}

abbrev pub rows_in : NewRows → HeldRows
rows_in b = held_rows b.row_conditions.now b.row_weights.now b.rows.now b.guard_bounds.now b.guard_nodes.now

abbrev pub unlinked_in : NewRows → List (List ℕ) → List (List ℕ) → Built
unlinked_in b nodes edges = built (rows_in b) nodes edges []

-- The same buffers are lent, as long as they were.
abbrev pub SameRows : NewRows → NewRows → Type 0
SameRows b d =
    (d.row_conditions.ghost_name ≡ b.row_conditions.ghost_name) × (d.row_weights.ghost_name ≡ b.row_weights.ghost_name) × (d.rows.ghost_name ≡ b.rows.ghost_name)
    × (d.guard_bounds.ghost_name ≡ b.guard_bounds.ghost_name) × (d.guard_nodes.ghost_name ≡ b.guard_nodes.ghost_name)
    × (length d.row_conditions.now ≡ length b.row_conditions.now) × (length d.row_weights.now ≡ length b.row_weights.now) × (length d.rows.now ≡ length b.rows.now)
    × (length d.guard_bounds.now ≡ length b.guard_bounds.now) × (length d.guard_nodes.now ≡ length b.guard_nodes.now)
