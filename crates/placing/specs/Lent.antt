-- What placing is lent: its buffers as the records of placing speak of them.
use Rattle.std.specs.Prelude.{ℕ, ◌≡◌}
use Rattle.memory.specs.Buffers.{RawLists}
use Rattle.placing.specs.declared.Extent.{Extent}
use Rattle.placing.specs.declared.Places.{Places}
use Rattle.placing.specs.Place.{Placing, Ready}
use Rattle.placing.specs.PlaceLaws.{Same}

abbrev pub ReadyIn : RawLists → Places → Type 0
ReadyIn r p = Ready r p.row_conditions.now p.row_weights.now p.rows.now p.scratch.now

abbrev pub PlacingIn : RawLists → ℕ → Extent → Places → Type 0
PlacingIn r t so p = Placing r t so p.row_conditions.now p.row_weights.now p.scratch.now p.heads.now

-- The same buffers are lent.
abbrev pub SamePlaces : Places → Places → Type 0
SamePlaces p q =
    (q.row_conditions.ghost_name ≡ p.row_conditions.ghost_name) × (q.row_weights.ghost_name ≡ p.row_weights.ghost_name) × (q.rows.ghost_name ≡ p.rows.ghost_name)
    × (q.nodes.ghost_name ≡ p.nodes.ghost_name) × (q.scratch.ghost_name ≡ p.scratch.ghost_name) × (q.heads.ghost_name ≡ p.heads.ghost_name)

-- Each buffer is as long as it was.
abbrev pub SameLengths : Places → Places → Type 0
SameLengths p q =
    Same p.row_conditions.now p.row_weights.now p.rows.now p.nodes.now p.scratch.now p.heads.now
    q.row_conditions.now q.row_weights.now q.rows.now q.nodes.now q.scratch.now q.heads.now
