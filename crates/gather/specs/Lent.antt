-- The lent buffers that travel together: the job while its records come in, and what is noted of the areas in the open threshold.
use Rattle.std.specs.Prelude.{ℕ, ◌≡◌, ℤ, length}
use Rattle.records.specs.declared.Standing.{Standing}
use Rattle.job.specs.Gathered.{Listed, Termed, Opened, Added, open_start, Joinable, FirstArea, MoreArea, AreaTaken}
use Rattle.gather.specs.declared.Raw.{Raw}
use Rattle.gather.specs.declared.Notes.{Notes}

abbrev pub TermedIn : Standing → Raw → Type 0
TermedIn k w = Listed k w.thresholds.now × Termed k w.raw_conditions.now w.raw_weights.now

abbrev pub JoinableIn : Standing → Raw → Notes → Type 0
JoinableIn k w n = Joinable k w.thresholds.now n.places.now n.sums.now

abbrev pub start_in : Standing → Raw → ℕ
start_in k w = open_start k w.thresholds.now

-- What a threshold, a term and an area change.
abbrev pub OpenedIn : Standing → ℕ → ℤ → Raw → Standing → Raw → Type 0
OpenedIn k n b w r v = Opened k n b w.thresholds.now w.bounds.now r v.thresholds.now v.bounds.now

abbrev pub AddedIn : Standing → ℕ → ℕ → Raw → Standing → Raw → Type 0
AddedIn k c x w r v =
    Added k c x w.raw_conditions.now w.raw_weights.now w.thresholds.now r v.raw_conditions.now v.raw_weights.now v.thresholds.now

abbrev pub FirstIn : Standing → ℕ → ℕ → Raw → Notes → Standing → Raw → Notes → Type 0
FirstIn k c a w n r v m =
    FirstArea k c a w.raw_conditions.now w.raw_weights.now w.thresholds.now n.places.now n.sums.now
    r v.raw_conditions.now v.raw_weights.now v.thresholds.now m.places.now m.sums.now

abbrev pub MoreIn : Standing → ℕ → ℕ → Raw → Notes → Standing → Raw → Notes → Type 0
MoreIn k c a w n r v m =
    MoreArea k c a w.raw_conditions.now w.raw_weights.now w.thresholds.now n.places.now n.sums.now r v.raw_weights.now m.sums.now

abbrev pub AreaIn : Standing → ℕ → ℕ → Raw → Notes → Standing → Raw → Notes → Type 0
AreaIn k c a w n r v m =
    AreaTaken k c a w.raw_conditions.now w.raw_weights.now w.thresholds.now n.places.now n.sums.now
    r v.raw_conditions.now v.raw_weights.now v.thresholds.now m.places.now m.sums.now

-- The same buffers are lent, as long as they were.
abbrev pub SameRaw : Raw → Raw → Type 0
SameRaw w v =
    (v.raw_conditions.ghost_name ≡ w.raw_conditions.ghost_name) × (v.raw_weights.ghost_name ≡ w.raw_weights.ghost_name)
    × (v.thresholds.ghost_name ≡ w.thresholds.ghost_name) × (v.bounds.ghost_name ≡ w.bounds.ghost_name)
    × (length v.raw_conditions.now ≡ length w.raw_conditions.now) × (length v.raw_weights.now ≡ length w.raw_weights.now)
    × (length v.thresholds.now ≡ length w.thresholds.now) × (length v.bounds.now ≡ length w.bounds.now)

abbrev pub SameNotes : Notes → Notes → Type 0
SameNotes n m =
    (m.places.ghost_name ≡ n.places.ghost_name) × (m.sums.ghost_name ≡ n.sums.ghost_name)
    × (length m.places.now ≡ length n.places.now) × (length m.sums.now ≡ length n.sums.now)
