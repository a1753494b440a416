-- Answers as the buffer holds them, two numbers each, and the answer that a record gives.
use Rattle.std.specs.Prelude.{ℕ, List, [], ◌∷◌, map}
use Rattle.base.specs.Laid.{pairs}
use Rattle.state.specs.declared.Step.{Step}
use Rattle.records.specs.declared.Record.{Record}
use Rattle.records.specs.declared.Record.TheVariants.{Header, Opens, Adds, Areas, Seal, Mark, Settle, Sift, Unknown}
use Rattle.files.specs.File.{Answer, settled, sifted}
use Rattle.files.specs.Contents.{answer_number, answer_visits}

abbrev pub answers_of : List Answer → List (List ℕ)
answers_of as' = pairs (map answer_number as') (map answer_visits as')

-- The answer that it adds.
abbrev pub answered : Record → Step → ℕ → List Answer
answered (Header n) k visits = []
answered (Opens n z) k visits = []
answered (Adds c w) k visits = []
answered (Areas c a) k visits = []
answered Seal k visits = []
answered (Mark n v) k visits = []
answered Settle k visits = settled k ∷ []
answered Sift k visits = sifted k visits ∷ []
answered Unknown k visits = []
