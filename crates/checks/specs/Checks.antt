-- The refusal table: which check of a record applies first, by what the file so far has and what the record's facts say.
use Rattle.std.specs.Prelude.{ℕ, Bool, true, false, ◌&&◌, ◌||◌, not, List, [], ◌∷◌, length, eqb, leb, ltb, ℤ, pos, negsuc}
use Rattle.std.specs.Int.Signed.{lt_z}
use Rattle.memory.specs.Limits.{list_terms, max_nodes, max_terms, max_thresholds}
use Rattle.records.specs.declared.Record.{Record}
use Rattle.records.specs.declared.Standing.{Standing}
use Rattle.records.specs.Record.{kinds, kind_of, body_length, body_of, record_at}
use Rattle.records.specs.Facts.{Turn, opening, building, within, serving, whenever, Counted, ofNodes, ofThresholds, ofTerms, ofAnswers, ofNothing, Facts, action, facts}

-- What the checks read of the file so far is a `Standing`, declared in the code.

abbrev pub no_threshold : Standing → Bool
no_threshold s = eqb s.thresholds 0

abbrev pub wrong_turn : Standing → Turn → Bool
wrong_turn s opening = s.started
wrong_turn s building = not s.started || s.sealed
wrong_turn s within = not s.started || s.sealed || no_threshold s
wrong_turn s serving = not s.sealed
wrong_turn s whenever = false

abbrev pub any_of : {X : Type 0} → (X → Bool) → List X → Bool
any_of p [] = false
any_of p (x ∷ []) = p x
any_of p (x ∷ y ∷ ys) = p x || any_of p (y ∷ ys)

abbrev pub not_rising : Standing → ℕ → Bool
not_rising s n = not (no_threshold s) && leb n s.last_node

-- Outside -2^52 to 2^52.
abbrev pub bad_bound : ℤ → Bool
bad_bound b = lt_z b (negsuc 4503599627370495) || lt_z (pos 4503599627370496) b

abbrev pub too_many : Standing → Counted → Bool
too_many s (ofNodes n) = ltb max_nodes n
too_many s ofThresholds = leb max_thresholds s.thresholds
too_many s ofTerms = leb list_terms s.last_terms || leb max_terms s.terms
too_many s ofAnswers = leb 64 s.answers
too_many s ofNothing = false

-- A check, with the number that it gives.
pub record Check : Type 0 where
  pub applies : Bool
  pub number : ℕ

abbrev pub check : Bool → ℕ → Check
check b n = record { applies = b; number = n }

-- The number of the first check that applies; 0 for none.
unfoldable pub first : List Check → ℕ
first [] = 0
first (c ∷ cs) = elim c.applies [ true ↦ c.number | false ↦ first cs ]

-- Document 01's table, in its order: kind, body, turn twice, node field, threshold node, bound, value, counts.
abbrev pub checks : Standing → (unknown cut : Bool) → Facts → List Check
checks s unknown cut x =
    check unknown 2
    ∷ check cut 1
    ∷ check (wrong_turn s x.turn) 3
    ∷ check s.contradicted 9
    ∷ check (any_of (leb s.nodes) x.nodes) 5
    ∷ check (any_of (not_rising s) x.rising) 6
    ∷ check (any_of bad_bound x.bounds) 7
    ∷ check (any_of (ltb 1) x.values) 8
    ∷ check (too_many s x.counts) 4
    ∷ []

-- The number that refuses a record whose kind is known and whose body is whole.
abbrev pub refused_by : Standing → Record → ℕ
refused_by s r = first (checks s false false (facts (action r)))

-- The number that refuses the record that begins with this kind: kind, then body, then the other checks.
abbrev pub unknown_kind : ℕ → Bool
unknown_kind kind = eqb kind 0 || leb (length kinds) kind

abbrev pub cut_body : ℕ → List ℕ → Bool
cut_body kind rest = ltb (length (body_of kind rest)) (body_length (kind_of kind))

abbrev pub refused_at : Standing → ℕ → List ℕ → ℕ
refused_at s kind rest = first (checks s (unknown_kind kind) (cut_body kind rest) (facts (action (record_at kind rest))))
