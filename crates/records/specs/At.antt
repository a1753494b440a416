-- The record at an offset of the input.
use Rattle.std.specs.Prelude.{ℕ, ◌+◌, List, get_or, drop}
use Rattle.records.specs.declared.Record.{Record}
use Rattle.records.specs.Record.{Kind, kind_of, record_at}

-- The kind of the record at an offset, and the record.
abbrev pub kind_at : List ℕ → ℕ → Kind
kind_at bytes at = kind_of (get_or bytes at 0)

abbrev pub record_in : List ℕ → ℕ → Record
record_in bytes at = record_at (get_or bytes at 0) (drop (at + 1) bytes)
