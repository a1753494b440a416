-- A scan of a row's guards or terms: places are passed in order, and what they decide is decided, up to the first that
-- must wait. The four cursors of a row state count the places passed.
use Rattle.std.specs.Prelude.{ℕ, ◌+◌, Bool, true, false, cond, List, [], ◌∷◌}
use Rattle.state.specs.declared.Step.{Step}
use Rattle.state.specs.declared.Step.TheVariants.{Unchanged, Contradiction}
use Rattle.state.specs.Step.{joined, contradicts}
use Rattle.queues.specs.Marks.{Marks, is_decided, Decided, decided, decide}

pub record Scanned : Type 0 where
  pub passed : ℕ
  pub marks : Marks
  pub step : Step

abbrev pub scanned : ℕ → Marks → Step → Scanned
scanned n m k = record { passed = n; marks = m; step = k }

-- A place is passed before what it decides is decided, so that a contradiction leaves the cursor behind it.
unfoldable pub scan : {X : Type 0} → (X → Marks → Bool) → (X → Marks → Decided) → List X → ℕ → Marks → Step → Scanned
scan waits act [] n m k = scanned n m k
scan waits act (x ∷ xs) n m k =
    elim (waits x m) [
      | true ↦ scanned n m k
      | false ↦
          elim (contradicts (act x m).step) [
            | true ↦ scanned (n + 1) (act x m).marks Contradiction
            | false ↦ scan waits act xs (n + 1) (act x m).marks (joined k (act x m).step)
          ]
    ]

-- A term that is decided is passed as it is.
abbrev pub force : Bool → Marks → ℕ → Decided
force value m n = cond (is_decided m n) (decided m Unchanged) (decide value m n)
