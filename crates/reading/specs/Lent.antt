-- What is said of the raw job and its notes while they are read, of the two structs in which they are lent.
use Rattle.std.specs.Prelude.{ℕ, List}
use Rattle.memory.specs.Buffers.{Raw}
use Rattle.records.specs.declared.Standing.{Standing}
use Rattle.records.specs.declared.Record.{Record}
use Rattle.job.specs.Gathered.{Gathered}
use Rattle.gather.specs.declared.Raw.{Raw as LentRaw}
use Rattle.gather.specs.declared.Notes.{Notes}
use Rattle.files.specs.declared.JobRead.{JobRead}
use Rattle.files.specs.File.{File}
use Rattle.reading.specs.Held.{Held, Reading, Takes, Reads, GoesFrom, ReadsOn, ReadsJob}

abbrev pub GatheredIn : Standing → LentRaw → Type 0
GatheredIn s w = Gathered s w.raw_conditions.now w.raw_weights.now w.thresholds.now w.bounds.now

abbrev pub HeldIn : File → Raw → Standing → LentRaw → Type 0
HeldIn f u s w = Held f u s w.raw_conditions.now w.raw_weights.now w.thresholds.now w.bounds.now

abbrev pub ReadingIn : File → Raw → Standing → LentRaw → Notes → Type 0
ReadingIn f u s w n =
    Reading f u s w.raw_conditions.now w.raw_weights.now w.thresholds.now w.bounds.now n.places.now n.sums.now

abbrev pub TakesIn : Record → Standing → LentRaw → Notes → Standing → LentRaw → Notes → Type 0
TakesIn x s w n r v m =
    Takes x s w.raw_conditions.now w.raw_weights.now w.thresholds.now w.bounds.now n.places.now n.sums.now
    r v.raw_conditions.now v.raw_weights.now v.thresholds.now v.bounds.now m.places.now m.sums.now

abbrev pub ReadsIn : List ℕ → ℕ → Standing → LentRaw → Notes → JobRead → LentRaw → Notes → Type 0
ReadsIn bytes o s w n r v m =
    Reads bytes o s w.raw_conditions.now w.raw_weights.now w.thresholds.now w.bounds.now n.places.now n.sums.now
    r v.raw_conditions.now v.raw_weights.now v.thresholds.now v.bounds.now m.places.now m.sums.now

abbrev pub GoesIn : List ℕ → ℕ → Standing → LentRaw → Notes → JobRead → LentRaw → Notes → Type 0
GoesIn bytes o s w n r v m =
    GoesFrom bytes o s w.raw_conditions.now w.raw_weights.now w.thresholds.now w.bounds.now n.places.now n.sums.now
    r v.raw_conditions.now v.raw_weights.now v.thresholds.now v.bounds.now m.places.now m.sums.now

abbrev pub ReadsOnIn : List ℕ → ℕ → Standing → LentRaw → Notes → JobRead → LentRaw → Type 0
ReadsOnIn bytes o s w n r v =
    ReadsOn bytes o s w.raw_conditions.now w.raw_weights.now w.thresholds.now w.bounds.now n.places.now n.sums.now
    r v.raw_conditions.now v.raw_weights.now v.thresholds.now v.bounds.now

abbrev pub ReadsJobIn : List ℕ → ℕ → Standing → LentRaw → JobRead → LentRaw → Type 0
ReadsJobIn bytes o s w r v =
    ReadsJob bytes o s w.raw_conditions.now w.raw_weights.now w.thresholds.now w.bounds.now
    r v.raw_conditions.now v.raw_weights.now v.thresholds.now v.bounds.now
