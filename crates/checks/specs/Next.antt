-- The record at an offset of the input, as the code takes it.
use Rattle.std.specs.Prelude.{ℕ, ◌+◌, ◌≤◌, ◌≡◌, List, length, get_or, take, drop, Bool, true, false, cond, eqb, ◌⊎◌, Result, Ok, Err}
use Rattle.records.specs.declared.Record.{Record}
use Rattle.records.specs.declared.Record.TheVariants.{Adds, Areas}
use Rattle.records.specs.Record.{little_endian}
use Rattle.records.specs.Facts.{Action, begins, changes, closes, decides, settles, sifts, idles}
use Rattle.checks.specs.declared.Refusal.{Refusal}
use Rattle.checks.specs.Refusal.{number_of}
use Rattle.records.specs.declared.Standing.{Standing}
use Rattle.checks.specs.Checks.{refused_at}
use Rattle.records.specs.At.{record_in}

-- Whether a record closes the job.
abbrev pub closing : Action → Bool
closing (begins n) = false
closing (changes c) = false
closing closes = true
closing (decides n v) = false
closing settles = false
closing sifts = false
closing (idles x) = false

-- The record at an offset, or the number that refuses it.
pub data Next : Type 0 where
  Refused : ℕ → Next
  Taken : Record → Next

abbrev pub next_of : Result Record Refusal → Next
next_of (Ok r) = Taken r
next_of (Err e) = Refused (number_of e)

abbrev pub taking : ℕ → Record → Next
taking n r = cond (eqb n 0) (Taken r) (Refused n)

abbrev pub next_at : Standing → List ℕ → ℕ → Next
next_at s bytes at = taking (refused_at s (get_or bytes at 0) (drop (at + 1) bytes)) (record_in bytes at)

-- A term or an area comes next, whole, and no check refuses it.
abbrev pub entry_condition : List ℕ → ℕ → ℕ
entry_condition bytes at = little_endian (take 2 (drop (at + 1) bytes))

abbrev pub entry_figure : List ℕ → ℕ → ℕ
entry_figure bytes at = little_endian (take 4 (drop (at + 3) bytes))

pub record EntryNext (s : Standing) (bytes : List ℕ) (at : ℕ) : Type 0 where
  pub kind : (get_or bytes at 0 ≡ 3) ⊎ (get_or bytes at 0 ≡ 8)
  pub whole : at + 7 ≤ length bytes
  pub term : get_or bytes at 0 ≡ 3 → Taken (Adds (entry_condition bytes at) (entry_figure bytes at)) ≡ next_at s bytes at
  pub area : get_or bytes at 0 ≡ 8 → Taken (Areas (entry_condition bytes at) (entry_figure bytes at)) ≡ next_at s bytes at
