-- One record of an input, and the records from an offset on by their first: more turns than bytes are enough. Assumes nothing.
use Rattle.std.specs.Prelude.{ℕ, zero, suc, ◌+◌, ◌-◌, ◌<◌, ◌≤◌, Bool, length, get_or, drop}
use native.Mathlib.Omega.{arith}
use Rattle.std.proofs.Math.Path.{◌≡◌, refl, sym, ap}
use Rattle.std.proofs.Common.{◌∙◌, drop_of_length-le, drop-cons}
use Rattle.std.proofs.Math.Bool.{true, false, cond}
use mathlib.Core.List.{List, [], ◌∷◌, ◌++◌}
use Rattle.std.proofs.Math.ListN.{length-drop}
use Rattle.std.proofs.Math.Seq.{drop-drop}
use Rattle.std.proofs.Math.Dec.{eqb}
use borrow.Author.Tests.{eqb-true, eqb-false}
use Rattle.records.specs.declared.Record.{Record}
use Rattle.records.specs.Record.{kind_of, body_length}
use Rattle.checks.specs.Next.{Next, Refused, Taken, next_at}
use Rattle.records.specs.At.{kind_at, record_in}
use Rattle.records.specs.declared.Record.TheVariants.{Header, Opens, Adds, Areas, Seal, Mark, Settle, Sift, Unknown}
use Rattle.checks.specs.Checks.{unknown_kind, cut_body}
use Rattle.files.specs.File.{File, standing, refusal, apply, Outcome, outcome, record_at, refusal_at, read_from}
use Rattle.files.specs.FileLaws.{read_enough, checked}
use Rattle.checks.specs.CheckLaws.{known_record}
use Rattle.theorem_limits.specs.FilesLaws.{refused_by_lem, both}
use Rattle.serve.specs.Serve.{read_at}

-- What is left of an outcome, its records not told.
abbrev pub ended : Outcome → Outcome
ended o = outcome o.file [] o.refused o.at

-- ---- the first record

-- It is taken, or the reading ends there.
module _ (n o kind : ℕ) (rest : List ℕ) (f : File) (taken : List Record) where
  abbrev goes : Bool → Outcome
  goes b = elim b [
    | true ↦ read_from n (o + 1 + body_length (kind_of kind)) (drop (body_length (kind_of kind)) rest) (apply f (record_at kind rest)) (taken ++ (record_at kind rest ∷ []))
    | false ↦ outcome f taken (refusal_at f kind rest) o
  ]

  first_one : read_from (suc n) o (kind ∷ rest) f taken ≡ goes (eqb (refusal_at f kind rest) 0)
  unfolding read_from
  first_one = refl

-- The records that were taken before do not change what follows.
pub taken_any : (n o : ℕ) (bytes : List ℕ) (f : File) (t u : List Record) → ended (read_from n o bytes f t) ≡ ended (read_from n o bytes f u)
unfolding read_from
taken_any zero o bytes f t u = refl
taken_any (suc n) o [] f t u = refl
taken_any (suc n) o (kind ∷ rest) f t u = by (λ a b g v w. taken_any n a b g v w) (eqb (refusal_at f kind rest) 0)
  where
    by : ((a : ℕ) (b : List ℕ) (g : File) (v w : List Record) → ended (read_from n a b g v) ≡ ended (read_from n a b g w)) → (b : Bool)
        → ended (goes n o kind rest f t b) ≡ ended (goes n o kind rest f u b)
    by ih true = ih _ _ _ _ _
    by ih false = refl

pub body_small : (kind : ℕ) → body_length (kind_of kind) ≤ 10
body_small zero = omega arith
body_small (suc zero) = omega arith
body_small (suc (suc zero)) = omega arith
body_small (suc (suc (suc zero))) = omega arith
body_small (suc (suc (suc (suc zero)))) = omega arith
body_small (suc (suc (suc (suc (suc zero))))) = omega arith
body_small (suc (suc (suc (suc (suc (suc zero)))))) = omega arith
body_small (suc (suc (suc (suc (suc (suc (suc zero))))))) = omega arith
body_small (suc (suc (suc (suc (suc (suc (suc (suc zero)))))))) = omega arith
body_small (suc (suc (suc (suc (suc (suc (suc (suc (suc k))))))))) = omega arith

is_seal : Record → Bool
is_seal (Header n) = false
is_seal (Opens n z) = false
is_seal (Adds c w) = false
is_seal (Areas c a) = false
is_seal Seal = true
is_seal (Mark n v) = false
is_seal Settle = false
is_seal Sift = false
is_seal Unknown = false

-- A seal has no body.
seal_body : (kind : ℕ) (rest : List ℕ) → record_at kind rest ≡ Seal → body_length (kind_of kind) ≡ 0
unfolding is_seal
seal_body zero rest q = refl
seal_body (suc zero) rest q = absurd (both refl (sym (ap is_seal q)))
seal_body (suc (suc zero)) rest q = absurd (both refl (sym (ap is_seal q)))
seal_body (suc (suc (suc zero))) rest q = absurd (both refl (sym (ap is_seal q)))
seal_body (suc (suc (suc (suc zero)))) rest q = refl
seal_body (suc (suc (suc (suc (suc zero))))) rest q = absurd (both refl (sym (ap is_seal q)))
seal_body (suc (suc (suc (suc (suc (suc zero)))))) rest q = refl
seal_body (suc (suc (suc (suc (suc (suc (suc zero))))))) rest q = refl
seal_body (suc (suc (suc (suc (suc (suc (suc (suc zero)))))))) rest q = absurd (both refl (sym (ap is_seal q)))
seal_body (suc (suc (suc (suc (suc (suc (suc (suc (suc k))))))))) rest q = refl

module _ (input : List ℕ) (at : ℕ) (f : File) (h : at < length input) where
  abbrev kind : ℕ
  kind = get_or input at 0

  abbrev rest : List ℕ
  rest = drop (at + 1) input

  abbrev number : ℕ
  number = refusal_at f kind rest

  abbrev behind : ℕ
  behind = at + 1 + body_length (kind_at input at)

  read_one : (n : ℕ) → read_at (suc n) input at f ≡ goes n at kind rest f [] (eqb number 0)
  read_one n =
      let e : suc at ≡ at + 1 = omega arith in
      ap (λ (l : List ℕ). read_from (suc n) at l f []) (drop-cons input at 0 h ∙ ap (λ (k : ℕ). kind ∷ drop k input) e) ∙ first_one n at kind rest f []

  -- What the code asks of it.
  number_of : Next → ℕ
  number_of (Refused m) = m
  number_of (Taken r) = 0

  is_taken : Next → Bool
  is_taken (Refused m) = false
  is_taken (Taken r) = true

  recordOr : Record → Next → Record
  recordOr d (Refused m) = d
  recordOr d (Taken r) = r

  asked : (b : Bool) → eqb number 0 ≡ b → next_at (standing f) input at ≡ cond b (Taken (record_in input at)) (Refused number)
  asked b e = ap (λ (c : Bool). cond c (Taken (record_in input at)) (Refused number)) e

  -- A REFUSED RECORD ends the reading.
  pub refused_next : (m : ℕ) → next_at (standing f) input at ≡ Refused m → read_at 1 input at f ≡ outcome f [] m at
  unfolding number_of is_taken
  refused_next m e = by (eqb number 0) refl
    where
      by : (b : Bool) → eqb number 0 ≡ b → read_at 1 input at f ≡ outcome f [] m at
      by true q = absurd (both refl (sym (ap is_taken (asked true q)) ∙ ap is_taken e))
      by false q = read_one 0 ∙ ap (goes 0 at kind rest f []) q ∙ ap (λ (k : ℕ). outcome f [] k at) (sym (ap number_of (asked false q)) ∙ ap number_of e)

  -- A RECORD THAT IS TAKEN
  pub taken_next : (r : Record) → next_at (standing f) input at ≡ Taken r → (refusal f r ≡ 0) × (record_in input at ≡ r) × (ended (read_at 1 input at f) ≡ outcome (apply f r) [] 0 behind)
  unfolding is_taken recordOr read_from
  taken_next r e = by (eqb number 0) refl
    where
      by : (b : Bool) → eqb number 0 ≡ b → (refusal f r ≡ 0) × (record_in input at ≡ r) × (ended (read_at 1 input at f) ≡ outcome (apply f r) [] 0 behind)
      by true q =
          let s : record_in input at ≡ r = sym (ap (recordOr r) (asked true q)) ∙ ap (recordOr r) e in (
            ap (refusal f) (sym s) ∙ refused_by_lem 0 (λ z. omega arith) (λ z. omega arith) f kind rest (eqb-true number 0 q),
            s,
            ap ended (read_one 0 ∙ ap (goes 0 at kind rest f []) q) ∙ ap (λ (y : Record). outcome (apply f y) [] 0 behind) s,
          )
      by false q = absurd (both refl (sym (ap is_taken e) ∙ ap is_taken (asked false q)))

  -- It is of a known kind.
  pub known_next : (r : Record) → next_at (standing f) input at ≡ Taken r → r ≡ Unknown → ⊥
  unfolding is_taken
  known_next r e u = by (eqb number 0) refl
    where
      is : (b : Bool) → unknown_kind kind ≡ b → number ≡ 0 → unknown_kind kind ≡ false
      is true q z =
          absurd (let w : ◌≡◌ {A = ℕ} 2 0 = sym (checked f kind rest ∙ ap (λ (c : Bool). cond c 2 (cond (cut_body kind rest) 1 (refusal f (record_at kind rest)))) q) ∙ z in omega arith)
      is false q z = q

      by : (b : Bool) → eqb number 0 ≡ b → ⊥
      by true q = known_record kind rest (is (unknown_kind kind) refl (eqb-true number 0 q)) ((taken_next r e).1 ∙ u)
      by false q = both refl (sym (ap is_taken e) ∙ ap is_taken (asked false q))

  -- ---- THE RECORDS FROM THERE ON, by the first

  abbrev one : Outcome
  one = read_at 1 input at f

  whole_is : (b : Bool) → eqb number 0 ≡ b → read_at (length input) input at f ≡ goes (length input - 1) at kind rest f [] b
  whole_is b e =
      let q : length input ≡ suc (length input - 1) = omega arith in
      ap (λ (n : ℕ). read_at n input at f) q ∙ read_one (length input - 1) ∙ ap (goes (length input - 1) at kind rest f []) e

  one-is : (b : Bool) → eqb number 0 ≡ b → one ≡ goes 0 at kind rest f [] b
  one-is b e = read_one 0 ∙ ap (goes 0 at kind rest f []) e

  pub read_stops : (one.refused ≡ 0 → ⊥) → ended (read_at (length input) input at f) ≡ ended one
  unfolding read_from
  read_stops some = by (eqb number 0) refl
    where
      by : (b : Bool) → eqb number 0 ≡ b → ended (read_at (length input) input at f) ≡ ended one
      by true e = absurd (some (ap (λ (o : Outcome). o.refused) (one-is true e)))
      by false e = ap ended (whole_is false e ∙ sym (one-is false e))

  pub read_goes : one.refused ≡ 0 → (at < one.at) × (ended (read_at (length input) input at f) ≡ ended (read_at (length input) input one.at one.file))
  unfolding read_from
  read_goes z = by (eqb number 0) refl
    where
      by : (b : Bool) → eqb number 0 ≡ b → (at < one.at) × (ended (read_at (length input) input at f) ≡ ended (read_at (length input) input one.at one.file))
      by true e =
          let s = one-is true e in
          let w : one.at ≡ behind = ap (λ (o : Outcome). o.at) s in
          let k = drop-drop (body_length (kind_of kind)) (at + 1) input in
          let l = length-drop behind input in (
            omega arith,
            ap ended (whole_is true e) ∙ taken_any (length input - 1) behind (drop (body_length (kind_of kind)) rest) (apply f (record_at kind rest)) _ []
                ∙ ap (λ (y : List ℕ). ended (read_from (length input - 1) behind y (apply f (record_at kind rest)) [])) k
                ∙ ap ended (read_enough (length input - 1) (length input) behind (drop behind input) (apply f (record_at kind rest)) [] (omega arith) (omega arith))
                ∙ ap (λ (o : Outcome). ended (read_at (length input) input o.at o.file)) (sym s),
          )
      by false e = absurd (omega (arith, eqb-false number 0 e, ap (λ (o : Outcome). o.refused) (one-is false e)))

  -- BEHIND A SEAL that comes next
  pub seal_goes : next_at (standing f) input at ≡ Taken Seal → (refusal f Seal ≡ 0) × (ended (read_at (length input) input (at + 1) (apply f Seal)) ≡ ended (read_at (length input) input at f))
  seal_goes e =
      let t = taken_next Seal e in
      let n = seal_body kind rest t.1 in
      let o : ended one ≡ outcome (apply f Seal) [] 0 (at + 1) = t.2 ∙ ap (outcome (apply f Seal) [] 0) (omega arith) in (
        t.0,
        ap (λ (p : Outcome). ended (read_at (length input) input p.at p.file)) (sym o) ∙ sym (read_goes (ap (λ (p : Outcome). p.refused) o)).1,
      )

-- Behind the last byte there is none.
pub read_none : (n : ℕ) (input : List ℕ) (at : ℕ) (f : File) → length input ≤ at → read_at n input at f ≡ outcome f [] 0 at
unfolding read_from
read_none n input at f h = ap (λ (l : List ℕ). read_from n at l f []) (drop_of_length-le input h) ∙ none n
  where
    none : (n : ℕ) → read_from n at [] f [] ≡ outcome f [] 0 at
    none zero = refl
    none (suc n) = refl
