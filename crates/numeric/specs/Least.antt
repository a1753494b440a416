-- A LAYOUT, EXHIBITED: all nodes false, then thresholds made true as their sums reach their bounds, until none is added. Weights are
-- never negative, so what asks for true goes on asking, and a job whose thresholds have rising nodes has this layout.
use Rattle.std.specs.Prelude.{ℕ, zero, suc, ◌<◌, true, false, ◌||◌, List, [], ◌∷◌, length, eqb}
use Rattle.base.specs.All.{All}
use Rattle.numeric.specs.Threshold.{ThresholdOf, Threshold, Job}
use Rattle.numeric.specs.Layout.{Layout, asked}

-- Just the nodes of a list are true.
unfoldable pub among : List ℕ → Layout
among [] n = false
among (m ∷ ms) n = eqb m n || among ms n

-- The nodes that a layout asks to be true.
unfoldable pub asked_nodes : Layout → List Threshold → List ℕ
asked_nodes v [] = []
asked_nodes v (t ∷ ts) = elim (asked v t) [ true ↦ t.node ∷ asked_nodes v ts | false ↦ asked_nodes v ts ]

-- Rounds from some true nodes on: in each, the nodes that are asked to be true become so, until there are no more than before. The first
-- argument bounds the rounds.
unfoldable pub grown : ℕ → List Threshold → List ℕ → List ℕ
grown zero ts ns = ns
grown (suc k) ts ns =
    let more = asked_nodes (among ns) ts in
    elim (eqb (length more) (length ns)) [ true ↦ ns | false ↦ grown k ts more ]

-- From no node on. Every round but the last adds a threshold, so that as many rounds as thresholds are enough.
abbrev pub least_nodes : Job → List ℕ
least_nodes j = grown (length j.thresholds) j.thresholds []

abbrev pub least_layout : Job → Layout
least_layout j = among (least_nodes j)

-- Nodes of thresholds rise in the order of the list, as refusal 6 has it: each has a node of its own.
abbrev pub NodesRise : {X : Type 0} → List (ThresholdOf X) → Type 0
NodesRise [] = Unit {0}
NodesRise (t ∷ ts) = All (λ u. t.node < u.node) ts × NodesRise ts
