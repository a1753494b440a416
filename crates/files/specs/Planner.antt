-- What the public call gives back and leaves in every lent buffer, for every input: row states are a buffer like every other.
use Rattle.std.specs.Prelude.{ℕ, Bool, true, false, ◌&&◌, List, length, leb}
use Rattle.base.specs.Laid.{over}
use Rattle.memory.specs.Limits.{max_thresholds}
use Rattle.memory.specs.Buffers.{Work, fits, zeros}
use Rattle.state.specs.declared.State.{State}
use Rattle.state.specs.State.{no_state}
use Rattle.files.specs.File.{file_of}
use Rattle.files.specs.Contents.{Out, served, untouched}

-- What is given back with every word of the buffers of numbers, and every row state.
pub record Left : Type 0 where
  pub out : Out
  pub states : List State

abbrev pub left : Out → List State → Left
left out states = record { out = out; states = states }

-- THE TEST of every length, that of the states among them.
abbrev pub fits_all : List ℕ → List State → Work → Bool
fits_all input states w = leb max_thresholds (length states) && fits input w

-- THE PUBLIC CALL: the file's states are laid over the cleared ones. Refusal 10 touches nothing.
unfoldable pub plan : List ℕ → List State → Work → Left
plan input states w =
    let o = file_of input in
    elim (fits_all input states w) [ true ↦ left (served o w) (over o.file.live.states (zeros no_state states)) | false ↦ left (untouched w) states ]
