-- The lent buffers that the records behind the seal change, as one struct.
use Rattle.std.specs.Prelude.{◌≡◌, length}
use Rattle.memory.specs.Buffers.{Kept, kept}
use Rattle.serve.specs.declared.Kept.{Kept as LentKept}

abbrev pub kept_in : LentKept → Kept
kept_in k =
    kept k.figures.now k.cursors.now k.sure.now k.never.now k.search.now k.gcds.now k.node_queue.now k.row_queues.now k.answers.now

-- The same buffers are lent, as long as they were.
abbrev pub SameKept : LentKept → LentKept → Type 0
SameKept k l =
    (l.figures.ghost_name ≡ k.figures.ghost_name) × (l.cursors.ghost_name ≡ k.cursors.ghost_name) × (l.sure.ghost_name ≡ k.sure.ghost_name)
    × (l.never.ghost_name ≡ k.never.ghost_name) × (l.search.ghost_name ≡ k.search.ghost_name) × (l.gcds.ghost_name ≡ k.gcds.ghost_name)
    × (l.node_queue.ghost_name ≡ k.node_queue.ghost_name) × (l.row_queues.ghost_name ≡ k.row_queues.ghost_name)
    × (l.answers.ghost_name ≡ k.answers.ghost_name)
    × (length l.figures.now ≡ length k.figures.now) × (length l.cursors.now ≡ length k.cursors.now) × (length l.sure.now ≡ length k.sure.now)
    × (length l.never.now ≡ length k.never.now) × (length l.search.now ≡ length k.search.now) × (length l.gcds.now ≡ length k.gcds.now)
    × (length l.node_queue.now ≡ length k.node_queue.now) × (length l.row_queues.now ≡ length k.row_queues.now)
    × (length l.answers.now ≡ length k.answers.now)
