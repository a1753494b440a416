-- A file of bytes has small entries: no weight and no area is above what four bytes hold. Assumes nothing.
use Rattle.std.specs.Prelude.{ℕ, zero, suc, ◌+◌, ◌^◌, ◌<◌, ◌≤◌, Bool, true, false, List, [], ◌∷◌, ◌++◌, length, get_or, take, drop, eqb, ltb}
use Rattle.std.proofs.Common.{not-suc-le-zero, le_of_suc-le-suc, pow-suc, arith, length-take, length-drop}
use Rattle.base.specs.All.{All}
use Rattle.numeric.proofs.AreaLaws.{Small}
use Rattle.records.specs.declared.Record.{Record}
use Rattle.records.specs.Record.{little_endian, behind, kind_of, body_length}
use Rattle.records.specs.Facts.{Action, begins, changes, closes, decides, settles, sifts, idles, opens, adds, action}
use Rattle.files.specs.File.{File, Outcome, outcome, begun, record_at, refusal_at, apply, read_from, file_of, planned}
use Rattle.theorem_limits.specs.BuiltLaws.{every_last}
use Rattle.report.specs.Ready.{IsByte}

-- What is known of the elements of a slice of bytes, as a fact of the list.
pub bytes_by : (l : List ℕ) → ((i : ℕ) → get_or l i 0 < 256) → All IsByte l
bytes_by [] h = tt
bytes_by (b ∷ l) h = (h 0, bytes_by l (λ i. h (suc i)))

-- An entry that a record adds is small.
abbrev SmallAction : Action → Type 0
SmallAction (begins n) = Unit {0}
SmallAction (changes (opens n b)) = Unit {0}
SmallAction (changes (adds x)) = Small x
SmallAction closes = Unit {0}
SmallAction (decides n v) = Unit {0}
SmallAction settles = Unit {0}
SmallAction sifts = Unit {0}
SmallAction (idles x) = Unit {0}

abbrev pub SmallRecord : Record → Type 0
SmallRecord r = SmallAction (action r)

every_take : {X : Type 0} (P : X → Type 0) (n : ℕ) (l : List X) → All P l → All P (take n l)
every_take P zero l a = tt
every_take P (suc n) [] a = tt
every_take P (suc n) (x ∷ l) a = (a.0, every_take P n l a.1)

every_drop : {X : Type 0} (P : X → Type 0) (n : ℕ) (l : List X) → All P l → All P (drop n l)
every_drop P zero l a = a
every_drop P (suc n) [] a = tt
every_drop P (suc n) (x ∷ l) a = every_drop P n l a.1

little_small : (k : ℕ) (bs : List ℕ) → length bs ≤ k → All IsByte bs → little_endian bs < 256 ^ k
unfolding little_endian
little_small zero [] h a = omega arith
little_small zero (b ∷ bs) h a = absurd (not-suc-le-zero h)
little_small (suc k) [] h a = let i = little_small k [] (omega arith) tt in omega (arith, pow-suc 256 k)
little_small (suc k) (b ∷ bs) h a = let i = little_small k bs (le_of_suc-le-suc h) a.1 in let s = a.0 in omega (arith, pow-suc 256 k)

-- The last four bytes of a body of six.
field_small : (rest : List ℕ) → All IsByte rest → behind (take 6 rest) < 4294967296
field_small rest a =
    little_small 4 (drop 2 (take 6 rest)) (omega (arith, length-drop 2 (take 6 rest), length-take 6 rest)) (every_drop IsByte 2 (take 6 rest) (every_take IsByte 6 rest a))

small_at : (kind : ℕ) (rest : List ℕ) → All IsByte rest → SmallRecord (record_at kind rest)
small_at zero rest a = tt
small_at (suc zero) rest a = tt
small_at (suc (suc zero)) rest a = tt
small_at (suc (suc (suc zero))) rest a = omega (arith, field_small rest a)
small_at (suc (suc (suc (suc zero)))) rest a = tt
small_at (suc (suc (suc (suc (suc zero))))) rest a = tt
small_at (suc (suc (suc (suc (suc (suc zero)))))) rest a = tt
small_at (suc (suc (suc (suc (suc (suc (suc zero))))))) rest a = tt
small_at (suc (suc (suc (suc (suc (suc (suc (suc zero)))))))) rest a = omega (arith, field_small rest a)
small_at (suc (suc (suc (suc (suc (suc (suc (suc (suc n))))))))) rest a = tt

read_small : (n o : ℕ) (bytes : List ℕ) (f : File) (rs : List Record) → All IsByte bytes → All SmallRecord rs → All SmallRecord (read_from n o bytes f rs).records
unfolding read_from
read_small zero o bytes f rs a l = l
read_small (suc n) o [] f rs a l = l
read_small (suc n) o (kind ∷ rest) f rs a l = by (λ o b f t h q. read_small n o b f t h q) (eqb (refusal_at f kind rest) 0)
  where
    x : Record
    x = record_at kind rest

    by : ((o : ℕ) (b : List ℕ) (f : File) (t : List Record) → All IsByte b → All SmallRecord t → All SmallRecord (read_from n o b f t).records) → (b : Bool)
        → let r : Outcome = elim b [ true ↦ read_from n (o + 1 + body_length (kind_of kind)) (drop (body_length (kind_of kind)) rest) (apply f x) (rs ++ (x ∷ [])) | false ↦ outcome f rs (refusal_at f kind rest) o ]
        in All SmallRecord r.records
    by ih true = ih _ _ _ _ (every_drop IsByte (body_length (kind_of kind)) rest a.1) (every_last SmallRecord rs x l (small_at kind rest a.1))
    by ih false = l

-- EVERY RECORD OF A FILE OF BYTES IS LIGHT
pub planned_small : (input : List ℕ) → All IsByte input → All SmallRecord (planned input).records
unfolding planned file_of
planned_small input a = by (ltb 65536 (length input))
  where
    by : (b : Bool) → let o : Outcome = elim b [ true ↦ outcome begun [] 10 0 | false ↦ file_of input ] in All SmallRecord o.records
    by true = tt
    by false = read_small (length input) 0 input begun [] a tt
