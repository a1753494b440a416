-- What may follow a seal: marks, settles and sifts, and what they leave. Assumes nothing.
use Rattle.std.specs.Prelude.{ℕ, ◌<◌, Bool, List, [], ◌∷◌}
use Rattle.row_moves.specs.Between.{Index, Live}
use Rattle.drain.specs.Drain.{mark, settle}
use Rattle.drain.specs.Sift.{sift}

-- ---- WHAT FOLLOWS A SEAL

pub data Deed : Type 0 where
  marks : (node : ℕ) (value : Bool) → Deed
  settles sifts : Deed

-- A mark names a node of the job.
abbrev pub Inside : ℕ → Deed → Type 0
Inside count (marks n value) = n < count
Inside count settles = Unit {0}
Inside count sifts = Unit {0}

-- What a list of them leaves, none refused.
unfoldable pub followed : Index → List Deed → Live → List ℕ → Live
followed x [] v gcds = v
followed x (marks n value ∷ ds) v gcds = followed x ds (mark v n value).live gcds
followed x (settles ∷ ds) v gcds = followed x ds (settle x v).live gcds
followed x (sifts ∷ ds) v gcds = followed x ds (sift x v gcds).live (sift x v gcds).gcds
