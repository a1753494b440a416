-- The lent buffers that travel together: the rows as a seal built them, and what draining changes.
use Rattle.std.specs.Prelude.{ℕ, ◌≡◌, List, length}
use Rattle.memory.specs.Buffers.{HeldRows, held_rows, Built, built}
use Rattle.row_moves.specs.declared.HeldRows.{HeldRows as LentRows}
use Rattle.row_moves.specs.declared.Built.{Built as LentBuilt}
use Rattle.row_moves.specs.declared.Live.{Live as LentLive}
use Rattle.row_moves.specs.Between.{Live}
use Rattle.row_moves.specs.Numbers.{live_of, Tidy}

-- The rows that are lent, and the same with other nodes for their guards: who reads no node asks nothing of those that are lent.
abbrev pub held_of : LentRows → HeldRows
held_of h = held_rows h.row_conditions.now h.row_weights.now h.rows.now h.guard_bounds.now h.guard_nodes.now

abbrev pub held_by : LentRows → List ℕ → HeldRows
held_by h ns = held_rows h.row_conditions.now h.row_weights.now h.rows.now h.guard_bounds.now ns

-- All that the seal built, and the same with other links.
abbrev pub built_of : LentBuilt → Built
built_of b = built (held_of b.held) b.nodes.now b.edges.now b.links.now

abbrev pub built_by : LentBuilt → List ℕ → Built
built_by b links = built (held_of b.held) b.nodes.now b.edges.now links

-- What draining changes, and that its words are tidy.
abbrev pub live_in : LentLive → Live
live_in l = live_of l.figures.now l.cursors.now l.sure.now l.never.now l.node_queue.now l.row_queues.now l.rings

abbrev pub TidyIn : LentLive → Type 0
TidyIn l = Tidy l.figures.now l.cursors.now

-- The same buffers are lent, as long as they were.
abbrev pub SameLent : LentLive → LentLive → Type 0
SameLent l m =
    (m.figures.ghost_name ≡ l.figures.ghost_name) × (m.cursors.ghost_name ≡ l.cursors.ghost_name) × (m.sure.ghost_name ≡ l.sure.ghost_name)
    × (m.never.ghost_name ≡ l.never.ghost_name) × (m.node_queue.ghost_name ≡ l.node_queue.ghost_name) × (m.row_queues.ghost_name ≡ l.row_queues.ghost_name)
    × (length m.figures.now ≡ length l.figures.now) × (length m.cursors.now ≡ length l.cursors.now) × (length m.sure.now ≡ length l.sure.now)
    × (length m.never.now ≡ length l.never.now) × (length m.node_queue.now ≡ length l.node_queue.now)
    × (length m.row_queues.now ≡ length l.row_queues.now)
