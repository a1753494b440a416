-- What a record does, and what the checks read of it.
use Rattle.std.specs.Prelude.{ℕ, List, [], ◌∷◌, ℤ}
use Rattle.numeric.specs.Area.{Entry, plain, area, condition_of}
use Rattle.records.specs.declared.Record.{Record}
use Rattle.records.specs.declared.Record.TheVariants.{Header, Opens, Adds, Areas, Seal, Mark, Settle, Sift, Unknown}

-- When a record may come: first of all, up to the seal, in an open threshold, behind the seal, at any time.
pub data Turn : Type 0 where
  opening building within serving whenever : Turn

-- What a record counts: the nodes of the job, a threshold, a term, an answer.
pub data Counted : Type 0 where
  ofNodes : ℕ → Counted
  ofThresholds ofTerms ofAnswers ofNothing : Counted

pub record Facts : Type 0 where
  pub turn : Turn
  pub nodes : List ℕ
  pub rising : List ℕ
  pub bounds : List ℤ
  pub values : List ℕ
  pub counts : Counted

-- Turn; nodes and conditions; a threshold's node; bounds; values; what is counted.
abbrev pub facing : Turn → List ℕ → List ℕ → List ℤ → List ℕ → Counted → Facts
facing t n r b v c = record { turn = t; nodes = n; rising = r; bounds = b; values = v; counts = c }

-- A change of the job that is not sealed yet.
pub data Change : Type 0 where
  opens : (node : ℕ) (bound : ℤ) → Change
  adds : Entry → Change

-- A record begins the job, changes it, closes it, decides a node, settles, sifts, or does nothing but be checked.
pub data Action : Type 0 where
  begins : (nodes : ℕ) → Action
  changes : Change → Action
  closes : Action
  decides : (node value : ℕ) → Action
  settles : Action
  sifts : Action
  idles : Facts → Action

abbrev pub action : Record → Action
action (Header n) = begins n
action (Opens n b) = changes (opens n b)
action (Adds c w) = changes (adds (plain c w))
action (Areas c a) = changes (adds (area c a))
action Seal = closes
action (Mark n v) = decides n v
action Settle = settles
action Sift = sifts
action Unknown = idles (facing whenever [] [] [] [] ofNothing)

-- What the checks read, by what the record does; one that does nothing brings it along.
abbrev pub facts : Action → Facts
facts (begins n) = facing opening [] [] [] [] (ofNodes n)
facts (changes (opens n b)) = facing building (n ∷ []) (n ∷ []) (b ∷ []) [] ofThresholds
facts (changes (adds x)) = facing within (condition_of x ∷ []) [] [] [] ofTerms
facts closes = facing building [] [] [] [] ofNothing
facts (decides n v) = facing serving (n ∷ []) [] [] (v ∷ []) ofNothing
facts settles = facing serving [] [] [] [] ofAnswers
facts sifts = facing serving [] [] [] [] ofAnswers
facts (idles x) = x
