-- DEMAND 1 as far as it is about reading: the records that are taken are those that the bytes before the offset spell, all bytes are
-- read if none is refused, and a refusal is the first check that applies to the record at its offset.
use Prim.Native.Nat.{ℕ, zero, suc, ◌+◌, ◌-◌, ◌≤◌}
use Rattle.std.proofs.Math.Nat.{le_refl}
use Rattle.std.proofs.Common.{not-suc-le-zero, ◌∙◌, drop-drop}
use native.Mathlib.Omega.{arith}
use Rattle.std.specs.Prelude.{◌≡◌, Bool, cond, ◌||◌, ◌≢◌, eqb}
use Rattle.std.proofs.Math.Path.{refl, sym, ap, ap₂}
use Rattle.std.proofs.Math.Bool.{true, false}
use mathlib.Core.List.{List, [], ◌∷◌, ◌++◌}
use Rattle.std.proofs.Math.ListN.{length, take, drop, length-take, length-drop}
use Rattle.std.proofs.Math.Seq.{take-nil}
use Rattle.std.proofs.Math.Dec.{ltb}
use borrow.Author.Tests.{eqb-true, eqb-false, ltb-false}
use Rattle.base.specs.TestLaws.{or-false}
use Rattle.records.specs.declared.Record.{Record}
use Rattle.records.specs.Record.{kind_of, body_length}
use Rattle.files.specs.File.{File, begun, apply, Outcome, outcome, body_of, record_at, unknown_kind, cut_body, refusal, refusal_at, read_from, file_of, planned}
use Rattle.files.specs.FileLaws.{checked, drop-take, same_body}
use Rattle.theorem_demands.specs.Reading.{Decoded, records, damaged, decode_from, decoded}

-- A record that is not refused has a known kind and a whole body.
whole_body : (f : File) (kind : ℕ) (rest : List ℕ) → refusal_at f kind rest ≡ 0 → (unknown_kind kind || cut_body kind rest) ≡ false
whole_body f kind rest h = by (unknown_kind kind) (cut_body kind rest) (sym (checked f kind rest) ∙ h)
  where
    by : (a b : Bool) → ◌≡◌ {A = ℕ} (cond a 2 (cond b 1 (refusal f (record_at kind rest)))) 0 → (a || b) ≡ false
    by true b e = absurd (omega arith)
    by false true e = absurd (omega arith)
    by false false e = refl

-- One record more, of a kind that is known, with its whole body.
module _ (n kind : ℕ) (rest : List ℕ) (taken : List Record) where
  goes : Bool → Decoded
  goes b = elim b [ true ↦ damaged | false ↦ decode_from n (drop (body_length (kind_of kind)) rest) (taken ++ (record_at kind rest ∷ [])) ]

  decode-on : (unknown_kind kind || cut_body kind rest) ≡ false
      → decode_from (suc n) (kind ∷ rest) taken ≡ decode_from n (drop (body_length (kind_of kind)) rest) (taken ++ (record_at kind rest ∷ []))
  unfolding decode_from goes
  decode-on h = ap goes h

  decode-damaged : (unknown_kind kind || cut_body kind rest) ≡ true → decode_from (suc n) (kind ∷ rest) taken ≡ damaged
  unfolding decode_from goes
  decode-damaged h = ap goes h

-- Enough is enough: the bound on the number of records is never met.
decode_enough : (n m : ℕ) (bytes : List ℕ) (taken : List Record) → length bytes ≤ n → length bytes ≤ m → decode_from n bytes taken ≡ decode_from m bytes taken
unfolding decode_from
decode_enough zero zero bytes taken h k = refl
decode_enough zero (suc m) [] taken h k = refl
decode_enough zero (suc m) (kind ∷ rest) taken h k = absurd (not-suc-le-zero h)
decode_enough (suc n) zero [] taken h k = refl
decode_enough (suc n) zero (kind ∷ rest) taken h k = absurd (not-suc-le-zero k)
decode_enough (suc n) (suc m) [] taken h k = refl
decode_enough (suc n) (suc m) (kind ∷ rest) taken h k = by (λ l t p q. decode_enough n m l t p q) (unknown_kind kind || cut_body kind rest) refl
  where
    by : ((l : List ℕ) (t : List Record) → length l ≤ n → length l ≤ m → decode_from n l t ≡ decode_from m l t) → (b : Bool) → (unknown_kind kind || cut_body kind rest) ≡ b
        → decode_from (suc n) (kind ∷ rest) taken ≡ decode_from (suc m) (kind ∷ rest) taken
    by ih true e = decode-damaged n kind rest taken e ∙ sym (decode-damaged m kind rest taken e)
    by ih false e =
        let d = length-drop (body_length (kind_of kind)) rest in
        decode-on n kind rest taken e ∙ ih _ _ (omega arith) (omega arith) ∙ sym (decode-on m kind rest taken e)

-- The record at which the reading stopped, and the first check that applies to it.
abbrev Stopped : List ℕ → Outcome → Type 0
Stopped l r = (kind : ℕ) × (rest : List ℕ) × (l ≡ kind ∷ rest) × (r.refused ≡ refusal_at r.file kind rest)

-- What was read from an offset on.
record Read (n o : ℕ) (bytes : List ℕ) (taken : List Record) (r : Outcome) : Type 0 where
  from : o ≤ r.at
  spelled : decode_from n (take (r.at - o) bytes) taken ≡ records r.records
  all : length bytes ≤ n → r.refused ≡ 0 → r.at ≡ o + length bytes
  stops : r.refused ≢ 0 → Stopped (drop (r.at - o) bytes) r

module _ (n o kind : ℕ) (rest : List ℕ) (f : File) (taken : List Record) where
  size : ℕ
  size = body_length (kind_of kind)

  read_next : refusal_at f kind rest ≡ 0 → (r : Outcome) → Read n (o + 1 + body_length (kind_of kind)) (drop (body_length (kind_of kind)) rest) (taken ++ (record_at kind rest ∷ [])) r
      → Read (suc n) o (kind ∷ rest) taken r
  unfolding size
  read_next e r i =
      let b = i.from in
      let k = r.at - o - 1 in
      let w : size ≤ k = omega arith in
      let a : r.at - o ≡ suc k = omega arith in
      let same = same_body kind k rest w in
      let known = whole_body f kind rest e in
      let d : drop size (take k rest) ≡ take (r.at - (o + 1 + size)) (drop size rest) =
      drop-take size k rest ∙ (let g : k - size ≡ r.at - (o + 1 + size) = omega arith in ap (λ (j : ℕ). take j (drop size rest)) g) in
      let body : size ≤ length rest =
      let c = ltb-false (length (body_of kind rest)) size (or-false (unknown_kind kind) (cut_body kind rest) known).1 in
      omega (arith, c, length-take size rest) in
      record {
        from = omega (arith, b);
        spelled = ap (λ (j : ℕ). decode_from (suc n) (take j (kind ∷ rest)) taken) a
            ∙ decode-on n kind (take k rest) taken (ap (λ (l : List ℕ). unknown_kind kind || ltb (length l) size) same ∙ known)
            ∙ ap₂ (λ (l : List ℕ) (y : Record). decode_from n l (taken ++ (y ∷ []))) d (ap (kind_of kind).made same)
            ∙ i.spelled;
        all = λ h z. omega (arith, i.all (omega (arith, length-drop size rest)) z, length-drop size rest, body);
        stops = λ h.
            let s = i.stops h in
            let g : size + (r.at - (o + 1 + size)) ≡ k = omega arith in (
              s.0,
              s.1,
              ap (λ (j : ℕ). drop j (kind ∷ rest)) a ∙ sym (drop-drop (r.at - (o + 1 + size)) size rest ∙ ap (λ (j : ℕ). drop j rest) g) ∙ s.2,
              s.3,
            );
      }

  read_stop : (refusal_at f kind rest ≡ 0 → ⊥) → Read (suc n) o (kind ∷ rest) taken (outcome f taken (refusal_at f kind rest) o)
  unfolding decode_from
  read_stop h =
      let z : o - o ≡ 0 = omega arith in
      record {
        from = le_refl o;
        spelled = ap (λ (j : ℕ). decode_from (suc n) (take j (kind ∷ rest)) taken) z;
        all = λ k e. absurd (h e);
        stops = λ k. (kind, rest, ap (λ (j : ℕ). drop j (kind ∷ rest)) z, refl);
      }

read : (n o : ℕ) (bytes : List ℕ) (f : File) (taken : List Record) → Read n o bytes taken (read_from n o bytes f taken)
unfolding read_from decode_from
read zero o bytes f taken = record { from = le_refl o; spelled = refl; all = λ h z. omega arith; stops = λ h. absurd (h refl) }
read (suc n) o [] f taken = record {
  from = le_refl o;
  spelled = ap (λ (l : List ℕ). decode_from (suc n) l taken) (take-nil {A = ℕ} (o - o));
  all = λ h z. omega arith;
  stops = λ h. absurd (h refl);
}
read (suc n) o (kind ∷ rest) f taken = by (λ o b f t. read n o b f t) (eqb (refusal_at f kind rest) 0) refl
  where
    by : ((o : ℕ) (b : List ℕ) (f : File) (t : List Record) → Read n o b t (read_from n o b f t)) → (b : Bool) → eqb (refusal_at f kind rest) 0 ≡ b
        → Read (suc n) o (kind ∷ rest) taken (elim b [
          | true ↦ read_from n (o + 1 + body_length (kind_of kind)) (drop (body_length (kind_of kind)) rest) (apply f (record_at kind rest)) (taken ++ (record_at kind rest ∷ []))
          | false ↦ outcome f taken (refusal_at f kind rest) o
        ])
    by ih true e = read_next n o kind rest f taken (eqb-true (refusal_at f kind rest) 0 e) _ (ih _ _ _ _)
    by ih false e = read_stop n o kind rest f taken (eqb-false (refusal_at f kind rest) 0 e)

-- ---- the file, with the test before its first byte

module _ (input : List ℕ) where
  minus-none : (n : ℕ) → n - 0 ≡ n
  minus-none n = omega arith

  file-read : Read (length input) 0 input [] (file_of input)
  unfolding file_of
  file-read = read (length input) 0 input begun []

  abbrev ways : Bool → Outcome
  ways b = elim b [ true ↦ outcome begun [] 10 0 | false ↦ file_of input ]

  -- THE RECORDS THAT WERE TAKEN ARE THOSE THAT THE BYTES BEFORE THE OFFSET SPELL,
  pub spelled : decoded (take (planned input).at input) ≡ records (planned input).records
  unfolding planned decoded decode_from
  spelled = by (ltb 65536 (length input))
    where
      by : (b : Bool) → decoded (take (ways b).at input) ≡ records (ways b).records
      by true = refl
      by false =
          let a = (file_of input).at in
          let t = length-take a input in
          decode_enough (length (take a input)) (length input) (take a input) [] (le_refl (length (take a input))) (omega arith)
          ∙ ap (λ (k : ℕ). decode_from (length input) (take k input) []) (sym (minus-none a)) ∙ file-read.spelled

  -- with no refusal all bytes were read,
  pub read_all : (planned input).refused ≡ 0 → (planned input).at ≡ length input
  unfolding planned
  read_all h = by (ltb 65536 (length input)) h
    where
      by : (b : Bool) → (ways b).refused ≡ 0 → (ways b).at ≡ length input
      by true e = absurd (omega arith)
      by false e = omega (arith, file-read.all (le_refl (length input)) e)

  -- and a refusal is the first check that applies to the record at its offset.
  pub first-check : (planned input).refused ≢ 0 → (planned input).refused ≢ 10
      → (kind : ℕ) × (rest : List ℕ) × (drop (planned input).at input ≡ kind ∷ rest) × ((planned input).refused ≡ refusal_at (planned input).file kind rest)
  unfolding planned
  first-check h k = by (ltb 65536 (length input)) h k
    where
      by : (b : Bool) → (ways b).refused ≢ 0 → (ways b).refused ≢ 10 → Stopped (drop (ways b).at input) (ways b)
      by true u v = absurd (v refl)
      by false u v =
          let s = file-read.stops u in
          (s.0, s.1, ap (λ (j : ℕ). drop j input) (sym (minus-none (file_of input).at)) ∙ s.2, s.3)
