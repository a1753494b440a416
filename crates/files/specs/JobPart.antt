-- The records of a file up to its next seal: what they leave and where reading them ends.
use Rattle.std.specs.Prelude.{ℕ, zero, suc, ◌+◌, Bool, true, false, List, [], ◌∷◌, ◌++◌, length, drop, eqb}
use Rattle.records.specs.declared.Record.{Record}
use Rattle.records.specs.Record.{kind_of, body_length, record_at}
use Rattle.records.specs.Facts.{action}
use Rattle.checks.specs.Next.{closing}
use Rattle.files.specs.File.{File, begun, apply, refusal_at}

-- The file then, the records that were taken, the refusal with its offset (number 0 is none), and whether the record there is a seal that
-- passed its checks and is not done yet.
pub record JobPart : Type 0 where
  pub file : File
  pub records : List Record
  pub refused : ℕ
  pub at : ℕ
  pub sealing : Bool

abbrev pub job_part : File → List Record → ℕ → ℕ → Bool → JobPart
job_part f rs r o s = record { file = f; records = rs; refused = r; at = o; sealing = s }

-- From an offset on; the first argument bounds the number of records.
unfoldable pub read_job : ℕ → ℕ → List ℕ → File → List Record → JobPart
read_job zero o bytes f taken = job_part f taken 0 o false
read_job (suc n) o [] f taken = job_part f taken 0 o false
read_job (suc n) o (kind ∷ rest) f taken =
    let size = body_length (kind_of kind) in
    let x = record_at kind rest in
    elim (eqb (refusal_at f kind rest) 0) [
      | true ↦ elim (closing (action x)) [ true ↦ job_part f taken 0 o true | false ↦ read_job n (o + 1 + size) (drop size rest) (apply f x) (taken ++ (x ∷ [])) ]
      | false ↦ job_part f taken (refusal_at f kind rest) o false
    ]

-- The records of an input from an offset on, behind records that left a file.
abbrev pub job_part_from : List ℕ → ℕ → File → List Record → JobPart
job_part_from bytes o f taken = read_job (length bytes) o (drop o bytes) f taken

-- From the start.
unfoldable pub job_part_of : List ℕ → JobPart
job_part_of bytes = job_part_from bytes 0 begun []
