-- The rows of a job: thresholds with the same raw list share one. The grouping of `prepare` on values.
use Rattle.std.specs.Prelude.{ℕ, ◌+◌, ◌≡◌, Bool, true, false, ◌&&◌, ◌||◌, List, [], ◌∷◌, ◌++◌, length, ℤ, eqb, ltb}
use Rattle.std.specs.Int.Signed.{le_z, lt_z}
use Rattle.base.specs.Insertion.{insert}
use Rattle.numeric.specs.Threshold.{Term, Threshold, Job}
use Rattle.state.specs.declared.State.{State}
use Rattle.state.specs.State.{first_state}
use Rattle.row.specs.Terms.{row_terms, same_terms, total}

-- What a guard's node asks besides: nothing, or that another row reaches a bound as well.
pub data Other : Type 0 where
  alone : Other
  beside : (row : ℕ) (bound : ℤ) → Other

abbrev pub is_alone : Other → Bool
is_alone alone = true
is_alone (beside r b) = false

-- A guard of a row: a threshold that compares its bound with the row's sum. One that may not decide its node still bounds its row
-- where the node is decided; a row whose guards are not linked hands nothing on.
pub record Guard : Type 0 where
  pub bound : ℤ
  pub node : ℕ
  pub may : Bool
  pub linked : Bool
  pub other : Other

abbrev pub guard : ℤ → ℕ → Guard
guard b n = record { bound = b; node = n; may = true; linked = true; other = alone }

abbrev pub MayDecide : Guard → Type 0
MayDecide g = g.may ≡ true

pub record Row : Type 0 where
  pub raw : List Term
  pub terms : List Term
  pub guards : List Guard

abbrev pub row_of : List Term → List Term → List Guard → Row
row_of raw ts gs = record { raw = raw; terms = ts; guards = gs }

-- Guards of one job are linked or not all alike, so the first tells it of its row.
abbrev pub linked_by : List Guard → Bool
linked_by [] = true
linked_by (g ∷ gs) = g.linked

abbrev pub Linked : Row → Type 0
Linked r = linked_by r.guards ≡ true

-- Guards stand by bound, then node, rising.
abbrev pub below : Guard → Guard → Bool
below g h = lt_z g.bound h.bound || (le_z g.bound h.bound && ltb g.node h.node)

abbrev pub insert_guard : Guard → List Guard → List Guard
insert_guard g gs = insert below g gs

-- The threshold joins the row of its raw list, or makes the next row.
unfoldable pub place : Threshold → List Row → List Row
place t [] = row_of t.terms (row_terms t.terms) (guard t.bound t.node ∷ []) ∷ []
place t (r ∷ rs) =
    elim (same_terms r.raw t.terms)
    [ true ↦ row_of r.raw r.terms (insert_guard (guard t.bound t.node) r.guards) ∷ rs | false ↦ r ∷ place t rs ]

unfoldable pub place_all : List Threshold → List Row → List Row
place_all [] rs = rs
place_all (t ∷ ts) rs = place_all ts (place t rs)

-- The rows, numbered by first use.
abbrev pub rows_of : Job → List Row
rows_of j = place_all j.thresholds []

-- The number of the row that a raw list makes.
unfoldable pub row_number : List Row → List Term → ℕ
row_number [] raw = 0
row_number (r ∷ rs) raw = elim (same_terms r.raw raw) [ true ↦ 0 | false ↦ 1 + row_number rs raw ]

-- What stands where no row is.
abbrev pub no_row : Row
no_row = row_of [] [] []

-- `has_nonunit_coefficient`: some merged weight is above 1; the first is the heaviest.
unfoldable pub has_nonunit : List Term → Bool
has_nonunit [] = false
has_nonunit (t ∷ ts) = ltb 1 t.weight

-- `Row::state`
abbrev pub state_of_row : Row → State
state_of_row r = first_state (total r.terms) (length r.guards)

-- The rows in which a condition stands, with its weight there: row by row, as `prepare` lists them.
pub record Edge : Type 0 where
  pub row : ℕ
  pub weight : ℕ

abbrev pub edge : ℕ → ℕ → Edge
edge r w = record { row = r; weight = w }

unfoldable pub edges_in : ℕ → ℕ → List Term → List Edge
edges_in c r [] = []
edges_in c r (t ∷ ts) = elim (eqb t.condition c) [ true ↦ edge r t.weight ∷ edges_in c r ts | false ↦ edges_in c r ts ]

unfoldable pub edges_from : ℕ → ℕ → List Row → List Edge
edges_from c n [] = []
edges_from c n (r ∷ rs) = edges_in c n r.terms ++ edges_from c (n + 1) rs

abbrev pub edges_of : List Row → ℕ → List Edge
edges_of rs c = edges_from c 0 rs
