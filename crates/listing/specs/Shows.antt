-- What the listing is made of: an outcome, as what the call gives back and its buffers show it.
use Rattle.std.specs.Prelude.{ℕ, ◌≤◌, ◌<◌, ◌≡◌, true, List, [], map, length, take, drop}
use Rattle.base.specs.Laid.{pairs}
use Rattle.state.specs.declared.State.{State}
use Rattle.words.specs.Mask.{bit}
use Rattle.memory.specs.Limits.{max_nodes, max_thresholds}
use Rattle.files.specs.File.{Outcome, outcome, begun}
use Rattle.files.specs.Contents.{answer_number, answer_visits, given_of}
use Rattle.files.specs.Listing.{max_listing, listing}
use Rattle.files.specs.declared.Given.{Given}

-- Only nodes of the job are decided.
abbrev pub Inside : ℕ → List ℕ → Type 0
Inside nodes mask = (n : ℕ) → bit mask n ≡ true → n < nodes

-- The outcome's words stand in front of the buffers, and there are not more than the limits allow.
pub record Held (o : Outcome) (answers : List (List ℕ)) (states : List State) (sure never : List ℕ) : Type 0 where
  pub few_answers : length o.file.answers ≤ 64
  pub in_answers : length o.file.answers ≤ length answers
  pub numbered : take (length o.file.answers) answers ≡ pairs (map answer_number o.file.answers) (map answer_visits o.file.answers)
  pub closed : o.file.sealed ≡ true → o.file.closed.nodes ≡ o.file.draft.nodes
  pub few_rows : (given_of o).rows ≤ max_thresholds
  pub in_states : (given_of o).rows ≤ length states
  pub stated : take (given_of o).rows states ≡ take (given_of o).rows o.file.live.states
  pub few_nodes : o.file.draft.nodes ≤ max_nodes
  pub in_sure_lem : 64 ≤ length sure
  pub in_never_lem : 64 ≤ length never
  pub sures : take 64 sure ≡ o.file.live.marks.sure
  pub nevers : take 64 never ≡ o.file.live.marks.never
  pub only_sure : Inside o.file.draft.nodes o.file.live.marks.sure
  pub only_never : Inside o.file.draft.nodes o.file.live.marks.never

-- Refusal 10, before the first byte; the buffers are as they were, of whatever length.
abbrev pub ten : Outcome
ten = outcome begun [] 10 0

pub data Shows (o : Outcome) (g : Given) (answers : List (List ℕ)) (states : List State) (sure never : List ℕ) : Type 0 where
  untouched : o ≡ ten → g ≡ given_of ten → Shows o g answers states sure never
  held : g ≡ given_of o → Held o answers states sure never → Shows o g answers states sure never

-- THE LISTING IS MADE in front of a buffer, that of every outcome that is shown; the bytes behind it are as they were.
pub record Listed (g : Given) (answers : List (List ℕ)) (states : List State) (sure never before after : List ℕ) (r : ℕ) : Type 0 where
  pub fits : r ≤ max_listing
  pub bytes : (o : Outcome) → Shows o g answers states sure never → take r after ≡ listing o
  pub behind : drop r after ≡ drop r before
