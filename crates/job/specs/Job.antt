-- A job while its records come in: its open threshold, what the checks read of it, and what thresholds, terms and areas add.
use Rattle.std.specs.Prelude.{ℕ, ◌+◌, Bool, List, [], ◌∷◌, ◌++◌, length}
use Rattle.numeric.specs.Threshold.{ThresholdOf}
use Rattle.numeric.specs.Area.{Entry, Draft, job_of}
use Rattle.records.specs.declared.Standing.{Standing}
use Rattle.records.specs.Facts.{Change, opens, adds}

-- The last threshold of the list is the open one: its node, and what is listed in it.
unfoldable pub last_node_of : {X : Type 0} → List (ThresholdOf X) → ℕ
last_node_of [] = 0
last_node_of (t ∷ []) = t.node
last_node_of (t ∷ u ∷ us) = last_node_of (u ∷ us)

unfoldable pub last_list : {X : Type 0} → List (ThresholdOf X) → List X
last_list [] = []
last_list (t ∷ []) = t.terms
last_list (t ∷ u ∷ us) = last_list (u ∷ us)

unfoldable pub all_terms : {X : Type 0} → List (ThresholdOf X) → ℕ
all_terms [] = 0
all_terms (t ∷ ts) = length t.terms + all_terms ts

-- What the checks read of a file with this draft, in which each record counts, joined or not; and how many terms its raw lists have.
abbrev pub standing_of : (started sealed contradicted : Bool) → Draft → (answers : ℕ) → Standing
standing_of s e c d n =
    let ts = d.thresholds in
    record {
      started = s;
      sealed = e;
      contradicted = c;
      nodes = d.nodes;
      thresholds = length ts;
      last_node = last_node_of ts;
      last_terms = length (last_list ts);
      terms = all_terms ts;
      raw_terms = all_terms (job_of d).thresholds;
      answers = n;
    }

-- The open threshold with its list changed.
unfoldable pub on_last : {X : Type 0} → (List X → List X) → List (ThresholdOf X) → List (ThresholdOf X)
on_last g [] = []
on_last g (t ∷ []) = record { node = t.node; bound = t.bound; terms = g t.terms } ∷ []
on_last g (t ∷ u ∷ us) = t ∷ on_last g (u ∷ us)

-- What a change makes of the thresholds.
abbrev pub add_term : {X : Type 0} → X → List (ThresholdOf X) → List (ThresholdOf X)
add_term x ts = on_last (λ l. l ++ (x ∷ [])) ts

abbrev pub changed : Change → List (ThresholdOf Entry) → List (ThresholdOf Entry)
changed (opens n b) ts = ts ++ (record { node = n; bound = b; terms = [] } ∷ [])
changed (adds x) ts = add_term x ts

abbrev pub with_change : Draft → Change → Draft
with_change d c = record { nodes = d.nodes; thresholds = changed c d.thresholds }
