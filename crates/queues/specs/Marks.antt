-- Deciding a node: it goes into its mask and waits to be drained. `sure` and `never` of regions.rs.
use Rattle.std.specs.Prelude.{ℕ, Bool, true, false, List}
use Rattle.memory.specs.Limits.{max_nodes}
use Rattle.state.specs.declared.Step.{Step}
use Rattle.state.specs.declared.Step.TheVariants.{Unchanged, Changed, Contradiction}
use Rattle.words.specs.Mask.{in_either, learn}
use Rattle.queues.specs.Queue.{Queue, push}

-- The decided nodes, and those of them that wait to be drained.
pub record Marks : Type 0 where
  pub sure : List ℕ
  pub never : List ℕ
  pub nodes : Queue

abbrev pub marks : List ℕ → List ℕ → Queue → Marks
marks s n q = record { sure = s; never = n; nodes = q }

-- The mask of a value.
abbrev pub mask : Bool → Marks → List ℕ
mask true m = m.sure
mask false m = m.never

abbrev pub is_decided : Marks → ℕ → Bool
is_decided m n = in_either m.sure m.never n

pub record Decided : Type 0 where
  pub marks : Marks
  pub step : Step

abbrev pub decided : Marks → Step → Decided
decided m s = record { marks = m; step = s }

-- Only a node that is new waits.
abbrev pub waiting : Step → Queue → ℕ → Queue
waiting Unchanged q n = q
waiting Changed q n = push max_nodes q n
waiting Contradiction q n = q

-- The node is sure (true) or never (false).
unfoldable pub decide : Bool → Marks → ℕ → Decided
decide true m n =
    let k = learn m.sure m.never n in
    decided (marks k.mask m.never (waiting k.step m.nodes n)) k.step
decide false m n =
    let k = learn m.never m.sure n in
    decided (marks m.sure k.mask (waiting k.step m.nodes n)) k.step
