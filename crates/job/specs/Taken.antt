-- What a threshold, a term and an area that are taken make of the job and of what the checks read, as the code counts it.
use Rattle.std.specs.Prelude.{ℕ, ◌+◌, List, [], ◌∷◌, ◌++◌, ℤ, get_or, set}
use Rattle.numeric.specs.Threshold.{Term, term, JobOf, Job}
use Rattle.records.specs.declared.Standing.{Standing}
use Rattle.job.specs.Job.{on_last, add_term}

-- What is read after a threshold, and after a term or an area that leaves so many terms in the raw lists.
abbrev pub opened_by : Standing → ℕ → Standing
opened_by s n = record {
  started = s.started;
  sealed = s.sealed;
  contradicted = s.contradicted;
  nodes = s.nodes;
  thresholds = s.thresholds + 1;
  last_node = n;
  last_terms = 0;
  terms = s.terms;
  raw_terms = s.raw_terms;
  answers = s.answers;
}

abbrev pub added_to : Standing → ℕ → Standing
added_to s n = record {
  started = s.started;
  sealed = s.sealed;
  contradicted = s.contradicted;
  nodes = s.nodes;
  thresholds = s.thresholds;
  last_node = s.last_node;
  last_terms = s.last_terms + 1;
  terms = s.terms + 1;
  raw_terms = n;
  answers = s.answers;
}

abbrev pub with_threshold : {X : Type 0} → JobOf X → ℕ → ℤ → JobOf X
with_threshold j n b = record { nodes = j.nodes; thresholds = j.thresholds ++ (record { node = n; bound = b; terms = [] } ∷ []) }

abbrev pub with_term : {X : Type 0} → JobOf X → X → JobOf X
with_term j x = record { nodes = j.nodes; thresholds = add_term x j.thresholds }

-- The term at a place of the open threshold with another weight.
abbrev pub weighing : ℕ → ℕ → List Term → List Term
weighing i w l = set l i (term (get_or l i (term 0 0)).condition w)

abbrev pub with_weight : Job → ℕ → ℕ → Job
with_weight j i w = record { nodes = j.nodes; thresholds = on_last (weighing i w) j.thresholds }
