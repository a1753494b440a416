-- Laws of the records up to the seal: one record, the next ones, that the rest of the file goes on from there, and the number there.
use Rattle.std.specs.Prelude.{ℕ, zero, suc, ◌+◌, ◌-◌, ◌≤◌, ◌≡◌, refl, Bool, true, false, List, [], ◌∷◌, ◌++◌, length, drop, eqb}
use Rattle.std.proofs.Common.{le_refl, arith, sym, ◌∙◌, subst, length-drop, drop-drop, ⊎_elim, eq-eqb, ne_eqb}
use Rattle.std.proofs.Math.Path.{ap, ap₂}
use Rattle.base.specs.TestLaws.{true-false, unequal}
use Rattle.records.specs.declared.Record.{Record}
use Rattle.records.specs.Record.{kind_of, body_length, record_at}
use Rattle.records.specs.Facts.{action}
use Rattle.checks.specs.Next.{closing}
use Rattle.files.specs.File.{File, begun, apply, refusal_at, Outcome, outcome, read_from, file_of}
use Rattle.files.specs.FileLaws.{zero_or, read_on, read_stop, read_enough, read_up_to}
use Rattle.files.specs.JobPart.{JobPart, job_part, read_job, job_part_from, job_part_of}

-- ---- one record: it is refused, a seal, or taken
module _ (n o kind : ℕ) (rest : List ℕ) (f : File) (taken : List Record) where
  abbrev size : ℕ
  size = body_length (kind_of kind)

  abbrev this : Record
  this = record_at kind rest

  abbrev on : JobPart
  on = read_job n (o + 1 + size) (drop size rest) (apply f this) (taken ++ (this ∷ []))

  goes : Bool → Bool → JobPart
  goes b c = elim b [ true ↦ elim c [ true ↦ job_part f taken 0 o true | false ↦ on ] | false ↦ job_part f taken (refusal_at f kind rest) o false ]

  pub job_refused : (refusal_at f kind rest ≡ 0 → ⊥) → read_job (suc n) o (kind ∷ rest) f taken ≡ job_part f taken (refusal_at f kind rest) o false
  unfolding read_job goes
  job_refused h = ap (λ (b : Bool). goes b (closing (action this))) (ne_eqb (refusal_at f kind rest) 0 h)

  module _ (h : refusal_at f kind rest ≡ 0) where
    pub job_sealing : closing (action this) ≡ true → read_job (suc n) o (kind ∷ rest) f taken ≡ job_part f taken 0 o true
    unfolding read_job goes
    job_sealing c = ap₂ goes (eq-eqb (refusal_at f kind rest) 0 h) c

    pub job_next : closing (action this) ≡ false → read_job (suc n) o (kind ∷ rest) f taken ≡ on
    unfolding read_job goes
    job_next c = ap₂ goes (eq-eqb (refusal_at f kind rest) 0 h) c

-- ---- THE WHOLE FILE is the job, and what comes from there on

abbrev GoesOn : ℕ → ℕ → List ℕ → File → List Record → JobPart → Type 0
GoesOn n o bytes f taken j = (o ≤ j.at) × (read_from n o bytes f taken ≡ read_from n j.at (drop (j.at - o) bytes) j.file j.records)

pub goes_on_lem : (n o : ℕ) (bytes : List ℕ) (f : File) (taken : List Record) → length bytes ≤ n → GoesOn n o bytes f taken (read_job n o bytes f taken)
unfolding read_job
goes_on_lem zero o bytes f taken h = (le_refl o, (let e : o - o ≡ 0 = omega arith in ap (λ (k : ℕ). read_from zero o (drop k bytes) f taken) (sym e)))
goes_on_lem (suc n) o [] f taken h = (le_refl o, (let e : o - o ≡ 0 = omega arith in ap (λ (k : ℕ). read_from (suc n) o (drop k []) f taken) (sym e)))
goes_on_lem (suc n) o (kind ∷ rest) f taken h =
    ⊎_elim
    (λ (e : refusal_at f kind rest ≡ 0).
    ⊎_elim (λ (c : closing (action x) ≡ true). subst (GoesOn (suc n) o (kind ∷ rest) f taken) (sym (job_sealing n o kind rest f taken e c)) (stop 0 true))
    (λ (c : closing (action x) ≡ false).
    subst (GoesOn (suc n) o (kind ∷ rest) f taken) (sym (job_next n o kind rest f taken e c))
    (further e (read_job n (o + 1 + room) (drop room rest) (apply f x) (taken ++ (x ∷ []))) (goes_on_lem n (o + 1 + room) (drop room rest) (apply f x) (taken ++ (x ∷ [])) (let d = length-drop room rest in omega (arith, d, h)))))
    (true-false (closing (action x))))
    (λ (e : refusal_at f kind rest ≡ 0 → ⊥). subst (GoesOn (suc n) o (kind ∷ rest) f taken) (sym (job_refused n o kind rest f taken e)) (stop (refusal_at f kind rest) false))
    (zero_or (refusal_at f kind rest))
  where
    room : ℕ
    room = body_length (kind_of kind)

    x : Record
    x = record_at kind rest

    stop : (r : ℕ) (s : Bool) → GoesOn (suc n) o (kind ∷ rest) f taken (job_part f taken r o s)
    stop r s = (le_refl o, (let e : 0 ≡ o - o = omega arith in ap (λ (k : ℕ). read_from (suc n) o (drop k (kind ∷ rest)) f taken) e))

    further : refusal_at f kind rest ≡ 0 → (j : JobPart) → GoesOn n (o + 1 + room) (drop room rest) (apply f x) (taken ++ (x ∷ [])) j → GoesOn (suc n) o (kind ∷ rest) f taken j
    further e j g =
        let b = g.0 in
        let k = j.at - (o + 1 + room) in
        let a : suc (k + room) ≡ j.at - o = omega arith in
        let d = length-drop (j.at - o) (kind ∷ rest) in (
          omega arith,
          read_on n o kind rest f taken e ∙ g.1 ∙ ap (λ (l : List ℕ). read_from n j.at l j.file j.records) (drop-drop k room rest ∙ ap (λ (i : ℕ). drop i rest) {x = room + k} {y = k + room} (omega arith))
              ∙ ap (λ (i : ℕ). read_from n j.at (drop i (kind ∷ rest)) j.file j.records) a
              ∙ read_enough n (suc n) j.at (drop (j.at - o) (kind ∷ rest)) j.file j.records (let q : length (kind ∷ rest) ≤ suc n = h in omega (arith, d, q, a)) (let q : length (kind ∷ rest) ≤ suc n = h in omega (arith, d, q)),
        )

-- From any file and offset.
pub part_goes_on : (bytes : List ℕ) (o : ℕ) (f : File) (taken : List Record) → let j = job_part_from bytes o f taken in
    (o ≤ j.at) × (read_from (length bytes) o (drop o bytes) f taken ≡ read_from (length bytes) j.at (drop j.at bytes) j.file j.records)
part_goes_on bytes o f taken =
    let j = job_part_from bytes o f taken in
    let g = goes_on_lem (length bytes) o (drop o bytes) f taken (let d = length-drop o bytes in omega (arith, d)) in
    let b = g.0 in (
      b,
      g.1 ∙ ap (λ (l : List ℕ). read_from (length bytes) j.at l j.file j.records) (drop-drop (j.at - o) o bytes ∙ ap (λ (k : ℕ). drop k bytes) {x = o + (j.at - o)} {y = j.at} (omega (arith, b))),
    )

pub file_goes_on : (bytes : List ℕ) → let j = job_part_of bytes in file_of bytes ≡ read_from (length bytes) j.at (drop j.at bytes) j.file j.records
unfolding file_of job_part_of
file_goes_on bytes = (part_goes_on bytes 0 begun []).1

-- Where no seal is next, the file ends there: with the input, or refused.

abbrev EndsThere : ℕ → ℕ → List ℕ → File → List Record → JobPart → Type 0
EndsThere n o bytes f taken j = j.sealing ≡ false → read_from n o bytes f taken ≡ outcome j.file j.records j.refused j.at

ends_there : (n o : ℕ) (bytes : List ℕ) (f : File) (taken : List Record) → EndsThere n o bytes f taken (read_job n o bytes f taken)
unfolding read_job read_from
ends_there zero o bytes f taken = λ q. refl
ends_there (suc n) o [] f taken = λ q. refl
ends_there (suc n) o (kind ∷ rest) f taken =
    ⊎_elim
    (λ (e : refusal_at f kind rest ≡ 0).
    ⊎_elim
    (λ (c : closing (action x) ≡ true).
    subst (EndsThere (suc n) o (kind ∷ rest) f taken) (sym (job_sealing n o kind rest f taken e c)) (λ q. absurd (unequal cc)))
    (λ (c : closing (action x) ≡ false).
    subst (EndsThere (suc n) o (kind ∷ rest) f taken) (sym (job_next n o kind rest f taken e c))
    (λ q. read_on n o kind rest f taken e ∙ ends_there n (o + 1 + room) (drop room rest) (apply f x) (taken ++ (x ∷ [])) q))
    (true-false (closing (action x))))
    (λ (e : refusal_at f kind rest ≡ 0 → ⊥). subst (EndsThere (suc n) o (kind ∷ rest) f taken) (sym (job_refused n o kind rest f taken e)) (λ q. read_stop n o kind rest f taken e))
    (zero_or (refusal_at f kind rest))
  where
    room : ℕ
    room = body_length (kind_of kind)

    x : Record
    x = record_at kind rest

pub part_ends : (bytes : List ℕ) (o : ℕ) (f : File) (taken : List Record) → let j = job_part_from bytes o f taken in
    j.sealing ≡ false → read_from (length bytes) o (drop o bytes) f taken ≡ outcome j.file j.records j.refused j.at
part_ends bytes o f taken q = ends_there (length bytes) o (drop o bytes) f taken q

pub file-ends : (bytes : List ℕ) → let j = job_part_of bytes in j.sealing ≡ false → file_of bytes ≡ outcome j.file j.records j.refused j.at
unfolding file_of job_part_of
file-ends bytes q = part_ends bytes 0 begun [] q

-- ---- THE NUMBER THERE is at most 9, and 0 where a seal is next

abbrev Unrefused : JobPart → Type 0
Unrefused j = j.sealing ≡ true → j.refused ≡ 0

unrefused : (n o : ℕ) (bytes : List ℕ) (f : File) (taken : List Record) → Unrefused (read_job n o bytes f taken)
unfolding read_job goes
unrefused zero o bytes f taken = λ q. refl
unrefused (suc n) o [] f taken = λ q. refl
unrefused (suc n) o (kind ∷ rest) f taken = by (unrefused n _ _ _ _) (eqb (refusal_at f kind rest) 0) (closing (action (record_at kind rest)))
  where
    by : Unrefused (on n o kind rest f taken) → (b c : Bool) → Unrefused (goes n o kind rest f taken b c)
    by h true true = λ q. refl
    by h true false = h
    by h false c = λ q. absurd (unequal cc)

-- From any file and offset.
pub part_unrefused : (bytes : List ℕ) (o : ℕ) (f : File) (taken : List Record) → let j = job_part_from bytes o f taken in j.sealing ≡ true → j.refused ≡ 0
part_unrefused bytes o f taken = unrefused (length bytes) o (drop o bytes) f taken

pub part_numbered : (bytes : List ℕ) (o : ℕ) (f : File) (taken : List Record) → (job_part_from bytes o f taken).refused ≤ 9
part_numbered bytes o f taken = by j.sealing refl
  where
    j : JobPart
    j = job_part_from bytes o f taken

    by : (s : Bool) → j.sealing ≡ s → j.refused ≤ 9
    by true q = let e = part_unrefused bytes o f taken q in omega (arith, e)
    by false q = subst (λ (p : Outcome). p.refused ≤ 9) (part_ends bytes o f taken q) (read_up_to (length bytes) o (drop o bytes) f taken)
