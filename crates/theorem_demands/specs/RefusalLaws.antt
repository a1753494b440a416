-- DEMAND 1 as far as it is about refusals: one of ten numbers, what was taken makes the file, and a refused record leaves what the
-- file cut before it leaves.
use Rattle.std.specs.Prelude.{ℕ, ◌-◌, ◌≤◌, ◌≡◌, refl, Bool, true, false, List, [], ◌≢◌, ◌↔◌, length, take, ltb}
use Rattle.std.proofs.Common.{le_refl, arith, sym, ap, ◌∙◌, subst, append-nil, ⊎_elim, length-take, le-ltb}
use Rattle.numeric.specs.Area.{job_of}
use Rattle.base.specs.TestLaws.{true-false, unequal}
use Rattle.memory.specs.Buffers.{Work, fits}
use Rattle.files.specs.File.{Outcome, outcome, file_of, begun, after, planned, read_from}
use Rattle.files.specs.FileLaws.{read_up_to, read_taken, read_enough, read_cut}
use Rattle.memory.specs.LengthsLaws.{fits_input, fits_shorter}
use Rattle.files.specs.Contents.{Out, served, untouched, whole}
use Rattle.theorem_limits.specs.FilesLaws.{good_before}
use Rattle.theorem_limits.specs.Good.{Good}
use Rattle.theorem_demands.specs.Demands.{accepted}

pub numbers : (input : List ℕ) (w : Work) → (whole input w).given.refused ≤ 10
unfolding whole file_of
numbers input w = by (fits input w)
  where
    by : (b : Bool) → let o : Out = elim b [ true ↦ served (file_of input) w | false ↦ untouched w ] in o.given.refused ≤ 10
    by true = let h = read_up_to (length input) 0 input begun [] in omega arith
    by false = omega arith

pub taken : (input : List ℕ) → (planned input).file ≡ after begun (planned input).records
unfolding planned file_of after
taken input = by (ltb 65536 (length input))
  where
    by : (b : Bool) → let o : Outcome = elim b [ true ↦ outcome begun [] 10 0 | false ↦ file_of input ] in o.file ≡ after begun o.records
    by true = refl
    by false = read_taken (length input) 0 input begun begun [] refl

-- What is left is within the limits, and the job that the last seal closed is the job that the records gave.
pub good : (input : List ℕ) → Good (planned input).file
good input = subst Good (sym (taken input)) (good_before input (planned input).records [] (sym (append-nil (planned input).records)))

pub closed_job : (input : List ℕ) → (planned input).file.sealed ≡ true → (planned input).file.closed ≡ job_of (planned input).file.draft
closed_job input e = (good input).same e

pub ten_touches_nothing : (input : List ℕ) (w : Work) → (whole input w).given.refused ≡ 10 → ((whole input w).given.at ≡ 0) × ((whole input w).work ≡ w)
unfolding whole file_of
ten_touches_nothing input w h = by (fits input w) h
  where
    by : (b : Bool) → let o : Out = elim b [ true ↦ served (file_of input) w | false ↦ untouched w ] in o.given.refused ≡ 10 → (o.given.at ≡ 0) × (o.work ≡ w)
    by true e = absurd (let k = read_up_to (length input) 0 input begun [] in omega arith)
    by false e = (refl, refl)

pub ten : (input : List ℕ) (w : Work) → ((whole input w).given.refused ≡ 10) ↔ (fits input w ≡ false)
unfolding whole file_of
ten input w = by (fits input w)
  where
    by : (b : Bool) → let o : Out = elim b [ true ↦ served (file_of input) w | false ↦ untouched w ] in (o.given.refused ≡ 10) ↔ (b ≡ false)
    by true = ((λ e. absurd (let k = read_up_to (length input) 0 input begun [] in omega arith)), λ e. absurd (unequal cc))
    by false = ((λ e. refl), λ e. refl)

-- the two ways of the call
abbrev ways : List ℕ → Work → Bool → Out
ways input w b = elim b [ true ↦ served (file_of input) w | false ↦ untouched w ]

pub served_when : (input : List ℕ) (w : Work) → fits input w ≡ true → whole input w ≡ served (file_of input) w
unfolding whole
served_when input w e = ap (λ (b : Bool). ways input w b) e

pub untouched_when : (input : List ℕ) (w : Work) → fits input w ≡ false → whole input w ≡ untouched w
unfolding whole
untouched_when input w e = ap (λ (b : Bool). ways input w b) e

-- a file cut at the place of its refusal reads the same
pub cut-file : (input : List ℕ) → (file_of input).refused ≢ 0
    → file_of (take (file_of input).at input) ≡ outcome (file_of input).file (file_of input).records 0 (file_of input).at
unfolding file_of
cut-file input h =
    let c = read_cut (length input) 0 input begun [] h in
    let a = (read_from (length input) 0 input begun []).at in
    let z : a - 0 ≡ a = omega arith in
    let t = length-take a input in
    read_enough (length (take a input)) (length input) 0 (take a input) begun [] (le_refl (length (take a input))) (omega arith)
    ∙ ap (λ (k : ℕ). read_from (length input) 0 (take k input) begun []) (sym z) ∙ c.1

-- A REFUSED RECORD LEAVES WHAT THE FILE CUT BEFORE IT LEAVES
pub refused : (input : List ℕ) (w : Work) → (whole input w).given.refused ≢ 0 → (whole input w).given.refused ≢ 10
    → whole (take (whole input w).given.at input) w ≡ accepted (whole input w)
refused input w h k =
    ⊎_elim
    (λ (e : fits input w ≡ true).
    let q = served_when input w e in
    let a = (file_of input).at in
    let c = cut-file input (λ z. h (ap (λ (o : Out). o.given.refused) q ∙ z)) in
    let t = length-take a input in
    ap (λ (o : Out). whole (take o.given.at input) w) q
    ∙ served_when (take a input) w (fits_shorter (take a input) input w (omega arith) e) ∙ ap (λ (o : Outcome). served o w) c
    ∙ ap accepted (sym q))
    (λ (e : fits input w ≡ false). absurd (k (ap (λ (o : Out). o.given.refused) (untouched_when input w e)))) (true-false (fits input w))

-- Over memory that fits, the file is read.
pub planned-file : (input : List ℕ) → length input ≤ 65536 → planned input ≡ file_of input
unfolding planned
planned-file input h = ap (λ (b : Bool). by b) (le-ltb 65536 (length input) h)
  where
    by : Bool → Outcome
    by b = elim b [ true ↦ outcome begun [] 10 0 | false ↦ file_of input ]

pub files : (input : List ℕ) (w : Work) → fits input w ≡ true → whole input w ≡ served (planned input) w
files input w e = served_when input w e ∙ ap (λ (o : Outcome). served o w) (sym (planned-file input (fits_input input w e)))
