-- What the records of a threshold give it: terms with their weights, and areas (records 0x03 and 0x08). Areas of one condition are
-- joined, then each is rounded to a weight.
use Rattle.std.specs.Prelude.{ℕ, ◌+◌, ◌/◌, ◌≡◌, true, false, cond, List, [], ◌∷◌, map, eqb}
use Rattle.numeric.specs.Threshold.{Term, term, ThresholdOf, Threshold, JobOf, Job}

-- A term, or an area in hundredths of a square centimetre.
pub data Entry : Type 0 where
  plain : (condition weight : ℕ) → Entry
  area : (condition hundredths : ℕ) → Entry

abbrev pub condition_of : Entry → ℕ
condition_of (plain c w) = c
condition_of (area c h) = c

-- ---- JOINING

-- The hundredths of all areas of a condition, and a list without its areas.
unfoldable pub hundredths : ℕ → List Entry → ℕ
hundredths c [] = 0
hundredths c (plain d w ∷ es) = hundredths c es
hundredths c (area d h ∷ es) = cond (eqb d c) h 0 + hundredths c es

unfoldable pub without : ℕ → List Entry → List Entry
without c [] = []
without c (plain d w ∷ es) = plain d w ∷ without c es
without c (area d h ∷ es) = elim (eqb d c) [ true ↦ without c es | false ↦ area d h ∷ without c es ]

-- The first area of a condition stands for all of them.
unfoldable pub joined : List Entry → List Entry
joined [] = []
joined (plain c w ∷ es) = plain c w ∷ joined es
joined (area c h ∷ es) = area c (h + hundredths c es) ∷ without c (joined es)

-- No condition has two areas: without the areas of one, what is behind it stays as it is.
abbrev pub Single : List Entry → Type 0
Single [] = Unit {0}
Single (plain c w ∷ es) = Single es
Single (area c h ∷ es) = (without c es ≡ es) × Single es

-- ---- ROUNDING

-- area / 100, rounded to the nearest whole number, a half going up
abbrev pub weight_of_area : ℕ → ℕ
weight_of_area hundredths = (hundredths + 50) / 100

abbrev pub rounded : Entry → Term
rounded (plain c w) = term c w
rounded (area c h) = term c (weight_of_area h)

-- ---- THE JOB of the entries that records gave

abbrev pub weighed : List Entry → List Term
weighed es = map rounded (joined es)

abbrev pub weighed_threshold : ThresholdOf Entry → Threshold
weighed_threshold t = record { node = t.node; bound = t.bound; terms = weighed t.terms }

-- A draft: the job as its records give it.
abbrev pub Draft : Type 0
Draft = JobOf Entry

abbrev pub job_of : Draft → Job
job_of d = record { nodes = d.nodes; thresholds = map weighed_threshold d.thresholds }
