-- The terms of a row from the light end: weights rise, and every two conditions differ.
use Rattle.std.specs.Prelude.{ℕ, ◌≤◌, ◌≢◌}
use mathlib.Core.List.{List, [], ◌∷◌, reverse, reverse_aux}
use Rattle.base.specs.All.{All}
use Rattle.numeric.specs.Threshold.{Term}
use Rattle.row.specs.Terms.{row_terms}
use Rattle.row.specs.TermsLaws.{Falling, Distinct, sorted_falling, distinct}

-- The condition is none of a list's.
abbrev pub Fresh : ℕ → List Term → Type 0
Fresh c ts = All (λ (t : Term). t.condition ≢ c) ts

-- The second term may stand behind the first.
abbrev pub Later : Term → Term → Type 0
Later t u = (t.weight ≤ u.weight) × (t.condition ≢ u.condition)

abbrev pub Rising : List Term → Type 0
Rising [] = Unit {0}
Rising (t ∷ ts) = All (Later t) ts × Rising ts

pub all_of : {P : Term → Type 0} → ((t : Term) → P t) → (ts : List Term) → All P ts
all_of f [] = tt
all_of f (t ∷ ts) = (f t, all_of f ts)

pub all_both : (P Q : Term → Type 0) (ts : List Term) → All P ts → All Q ts → All (λ (t : Term). P t × Q t) ts
all_both P Q [] h k = tt
all_both P Q (t ∷ ts) h k = ((h.0, k.0), all_both P Q ts h.1 k.1)

-- One term after the other goes over to the front of those that stand the other way round.
turned : (ts acc : List Term) → Falling ts → Distinct ts → Rising acc → All (λ (t : Term). All (Later t) acc) ts → Rising (reverse_aux ts acc)
turned [] acc f d r a = r
turned (t ∷ ts) acc f d r a =
    turned ts (t ∷ acc) f.1 d.1 (a.0, r)
    (all_both (λ (u : Term). Later u t) (λ (u : Term). All (Later u) acc) ts
    (all_both (λ (u : Term). u.weight ≤ t.weight) (λ (u : Term). u.condition ≢ t.condition) ts f.0 d.0) a.1)

pub rising : (raw : List Term) → Rising (reverse (row_terms raw))
rising raw = turned (row_terms raw) [] (sorted_falling raw) (distinct raw) tt (all_of (λ t. tt) (row_terms raw))
