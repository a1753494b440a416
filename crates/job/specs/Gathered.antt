-- The job that the raw buffers hold, cut to its counts; what is true of counts and buffers; and what a threshold, a term or an area changes.
use Rattle.std.specs.Prelude.{ℕ, ◌+◌, ◌-◌, ◌*◌, ◌<◌, ◌≤◌, ◌≡◌, List, [], ◌∷◌, length, get_or, take, set, ℤ, pos}
use Rattle.base.specs.Parts.{end_by, start_by}
use Rattle.numeric.specs.Threshold.{Job, term}
use Rattle.numeric.specs.Area.{weight_of_area}
use Rattle.memory.specs.Limits.{max_nodes, max_terms, max_thresholds, list_terms}
use Rattle.memory.specs.Ranges.{raw_limit}
use Rattle.memory.specs.Buffers.{RawLists, raw_lists}
use Rattle.rows.specs.Guards.{Bound, node_at}
use Rattle.job.specs.Given.{given_job}
use Rattle.records.specs.declared.Standing.{Standing}
use Rattle.job.specs.Taken.{opened_by, added_to, with_threshold, with_term, with_weight}

abbrev pub cut : Standing → List ℕ → List ℕ → List (List ℕ) → RawLists
cut k cs ws ts = raw_lists (take k.raw_terms cs) (take k.raw_terms ws) (take k.thresholds ts)

abbrev pub job_in : Standing → List ℕ → List ℕ → List (List ℕ) → List ℤ → Job
job_in k cs ws ts bs = given_job (cut k cs ws ts) (take k.thresholds bs) k.nodes

-- Thresholds one behind the other: nodes of the job that rise, lists of at most list_terms, the last of which ends where all do; and what the
-- checks read of the last. There are no more terms than records.
pub record Listed (k : Standing) (ts : List (List ℕ)) : Type 0 where
  pub nodes : k.nodes ≤ max_nodes
  pub terms : k.raw_terms ≤ max_terms
  pub fewer : k.raw_terms ≤ k.terms
  pub many : k.thresholds ≤ max_thresholds
  pub room : max_thresholds ≤ length ts
  pub wide : (t : ℕ) → t < k.thresholds → length (get_or ts t []) ≡ 2
  pub rising : (t : ℕ) → t < k.thresholds → start_by 1 ts t ≤ end_by 1 ts t
  pub short : (t : ℕ) → t < k.thresholds → end_by 1 ts t ≤ start_by 1 ts t + list_terms
  pub within : (t : ℕ) → t < k.thresholds → end_by 1 ts t ≤ k.raw_terms
  pub ended : start_by 1 ts k.thresholds ≡ k.raw_terms
  pub inside : (t : ℕ) → t < k.thresholds → node_at ts t < k.nodes
  pub ordered : (t : ℕ) → t + 1 < k.thresholds → node_at ts t < node_at ts (t + 1)
  pub last : (t : ℕ) → t + 1 ≡ k.thresholds → node_at ts t ≡ k.last_node
  pub filled : (t : ℕ) → t + 1 ≡ k.thresholds → k.raw_terms ≤ start_by 1 ts t + k.last_terms

pub record Bounded (k : Standing) (bs : List ℤ) : Type 0 where
  pub room : max_thresholds ≤ length bs
  pub bound : (t : ℕ) → t < k.thresholds → Bound (get_or bs t (pos 0))

pub record Termed (k : Standing) (cs ws : List ℕ) : Type 0 where
  pub conditions : max_terms ≤ length cs
  pub weights : max_terms ≤ length ws
  pub below : (i : ℕ) → i < k.raw_terms → get_or cs i 0 < k.nodes
  pub light : (i : ℕ) → i < k.raw_terms → get_or ws i 0 < raw_limit

-- THE INVARIANT of the records up to the seal.
pub record Gathered (k : Standing) (cs ws : List ℕ) (ts : List (List ℕ)) (bs : List ℤ) : Type 0 where
  pub listed : Listed k ts
  pub bounded : Bounded k bs
  pub termed : Termed k cs ws

-- A threshold that passed its checks stands behind the others and has no terms; whatever the terms' buffers hold.
pub record Opened (k : Standing) (n : ℕ) (b : ℤ) (ts : List (List ℕ)) (bs : List ℤ) (r : Standing) (ts' : List (List ℕ)) (bs' : List ℤ) : Type 0 where
  pub standing : r ≡ opened_by k n
  pub job : (cs ws : List ℕ) → job_in r cs ws ts' bs' ≡ with_threshold (job_in k cs ws ts bs) n b
  pub thresholds : ts' ≡ set ts k.thresholds (n ∷ k.raw_terms ∷ [])
  pub bounds : bs' ≡ set bs k.thresholds b
  pub listed : Listed r ts'
  pub bounded : Bounded r bs'

-- A term that passed its checks is the last of the open threshold; whatever the bounds.
pub record Added (k : Standing) (c w : ℕ) (cs ws : List ℕ) (ts : List (List ℕ)) (r : Standing) (cs' ws' : List ℕ) (ts' : List (List ℕ)) : Type 0 where
  pub standing : r ≡ added_to k (k.raw_terms + 1)
  pub job : (bs : List ℤ) → job_in r cs' ws' ts' bs ≡ with_term (job_in k cs ws ts bs) (term c w)
  pub conditions : cs' ≡ set cs k.raw_terms c
  pub weights : ws' ≡ set ws k.raw_terms w
  pub thresholds : ts' ≡ set ts (k.thresholds - 1) (node_at ts (k.thresholds - 1) ∷ (k.raw_terms + 1) ∷ [])
  pub listed : Listed r ts'
  pub termed : Termed r cs' ws'

-- ---- areas of the open threshold

-- Where the list of the open threshold starts.
abbrev pub open_start : Standing → List (List ℕ) → ℕ
open_start k ts = start_by 1 ts (k.thresholds - 1)

-- For each node, 1 more than the place of the term that the last area with that condition went into, 0 for none: the open threshold has it if
-- that is behind its start. For each place of the open threshold, counted from its start, the hundredths of the areas there.
pub record Joinable (k : Standing) (ts : List (List ℕ)) (ps ss : List ℕ) : Type 0 where
  pub places : max_nodes ≤ length ps
  pub sums : list_terms ≤ length ss
  pub behind : (c : ℕ) → get_or ps c 0 ≤ k.raw_terms
  pub small : (c : ℕ) → open_start k ts < get_or ps c 0 → get_or ss (get_or ps c 0 - 1 - open_start k ts) 0 ≤ k.last_terms * 4294967295

-- The term at a place of the open threshold has another weight; whatever the bounds.
pub record Reweighed (k : Standing) (at w : ℕ) (cs ws : List ℕ) (ts : List (List ℕ)) (r : Standing) (ws' : List ℕ) : Type 0 where
  pub standing : r ≡ added_to k k.raw_terms
  pub job : (bs : List ℤ) → job_in r cs ws' ts bs ≡ with_weight (job_in k cs ws ts bs) (at - open_start k ts) w
  pub weights : ws' ≡ set ws at w
  pub listed : Listed r ts
  pub termed : Termed r cs ws'

-- An area that passed its checks: the first of its condition is the last of the open threshold, any other is added to the first.
pub record FirstArea (k : Standing) (c a : ℕ) (cs ws : List ℕ) (ts : List (List ℕ)) (ps ss : List ℕ) (r : Standing) (cs' ws' : List ℕ) (ts' : List (List ℕ)) (ps' ss' : List ℕ)
    : Type 0 where
  pub new : get_or ps c 0 ≤ open_start k ts
  pub added : Added k c (weight_of_area a) cs ws ts r cs' ws' ts'
  pub places : ps' ≡ set ps c (k.raw_terms + 1)
  pub sums : ss' ≡ set ss (k.raw_terms - open_start k ts) a
  pub joinable : Joinable r ts' ps' ss'

pub record MoreArea (k : Standing) (c a : ℕ) (cs ws : List ℕ) (ts : List (List ℕ)) (ps ss : List ℕ) (r : Standing) (ws' ss' : List ℕ) : Type 0 where
  pub there : open_start k ts < get_or ps c 0
  pub reweighed : let at = get_or ps c 0 - 1 in Reweighed k at (weight_of_area (get_or ss (at - open_start k ts) 0 + a)) cs ws ts r ws'
  pub sums : let i = get_or ps c 0 - 1 - open_start k ts in ss' ≡ set ss i (get_or ss i 0 + a)
  pub joinable : Joinable r ts ps ss'

pub data AreaTaken (k : Standing) (c a : ℕ) (cs ws : List ℕ) (ts : List (List ℕ)) (ps ss : List ℕ) (r : Standing) (cs' ws' : List ℕ) (ts' : List (List ℕ)) (ps' ss' : List ℕ)
    : Type 0 where
  first : FirstArea k c a cs ws ts ps ss r cs' ws' ts' ps' ss' → AreaTaken k c a cs ws ts ps ss r cs' ws' ts' ps' ss'
  more : MoreArea k c a cs ws ts ps ss r ws' ss' → cs' ≡ cs → ts' ≡ ts → ps' ≡ ps → AreaTaken k c a cs ws ts ps ss r cs' ws' ts' ps' ss'
