-- The records of a job file: kinds, bodies and their fields.
use Rattle.std.specs.Prelude.{ℕ, ◌+◌, ◌-◌, ◌*◌, ◌^◌, cond, List, [], ◌∷◌, get_or, take, drop, ltb, ℤ, pos, negsuc}
use Rattle.records.specs.declared.Record.{Record}
use Rattle.records.specs.declared.Record.TheVariants.{Header, Opens, Adds, Areas, Seal, Mark, Settle, Sift, Unknown}

-- Bytes as a number, the lowest first.
unfoldable pub little_endian : List ℕ → ℕ
little_endian [] = 0
little_endian (b ∷ bs) = b + 256 * little_endian bs

-- Eight bytes as a signed number.
abbrev pub signed : ℕ → ℤ
signed n = cond (ltb n (2 ^ 63)) (pos n) (negsuc (2 ^ 64 - 1 - n))

-- The field of two bytes with which most bodies begin, and the field behind it.
abbrev pub front : List ℕ → ℕ
front body = little_endian (take 2 body)

abbrev pub behind : List ℕ → ℕ
behind body = little_endian (drop 2 body)

-- A kind: how many bytes of body follow, and the record that they make.
pub record Kind : Type 0 where
  pub size : ℕ
  pub made : List ℕ → Record

abbrev pub kind : ℕ → (List ℕ → Record) → Kind
kind n f = record { size = n; made = f }

abbrev pub no_kind : Kind
no_kind = kind 0 (λ (body : List ℕ). Unknown)

-- Document 01's table of kinds, by the byte.
abbrev pub kinds : List Kind
kinds =
    no_kind
    ∷ kind 2 (λ (body : List ℕ). Header (little_endian body))  -- 0x01
    ∷ kind 10 (λ (body : List ℕ). Opens (front body) (signed (behind body)))
    ∷ kind 6 (λ (body : List ℕ). Adds (front body) (behind body))
    ∷ kind 0 (λ (body : List ℕ). Seal)
    ∷ kind 3 (λ (body : List ℕ). Mark (front body) (behind body))
    ∷ kind 0 (λ (body : List ℕ). Settle)
    ∷ kind 0 (λ (body : List ℕ). Sift)
    ∷ kind 6 (λ (body : List ℕ). Areas (front body) (behind body))  -- 0x08
    ∷ []

abbrev pub kind_of : ℕ → Kind
kind_of b = get_or kinds b no_kind

abbrev pub body_length : Kind → ℕ
body_length k = k.size

-- The record that begins with this kind.
abbrev pub body_of : ℕ → List ℕ → List ℕ
body_of kind rest = take (body_length (kind_of kind)) rest

abbrev pub record_at : ℕ → List ℕ → Record
record_at kind rest = (kind_of kind).made (body_of kind rest)
