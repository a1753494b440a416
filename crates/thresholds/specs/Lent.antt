-- The raw lists that are lent, as the buffers' record.
use Rattle.memory.specs.Buffers.{RawLists, raw_lists}
use Rattle.thresholds.specs.declared.RawLists.{RawLists as LentLists}

abbrev pub lists_of : LentLists → RawLists
lists_of l = raw_lists l.raw_conditions.now l.raw_weights.now l.thresholds.now
