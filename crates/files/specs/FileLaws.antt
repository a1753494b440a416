-- Laws of whole files: refusals are one of ten numbers; what was taken makes the file; a refused record leaves what the file
-- cut before it leaves.
use Rattle.std.specs.Prelude.{ℕ, zero, suc, ◌+◌, ◌-◌, ◌≤◌, ◌≡◌, refl, Bool, true, false, cond, List, [], ◌∷◌, ◌++◌, length, take, drop, eqb, ltb, ◌⊎◌}
use Rattle.std.proofs.Common.{le_refl, not-suc-le-zero, arith, sym, ap₂, ◌∙◌, subst, length-drop, take-take, inl, inr, ⊎_elim, eq-eqb, ne_eqb}
use Rattle.std.proofs.Math.Path.{ap}
use Rattle.std.proofs.Math.Seq.{take-nil}
use Rattle.records.specs.declared.Record.{Record}
use Rattle.records.specs.Record.{kind_of, body_length}
use Rattle.records.specs.Facts.{action, facts}
use Rattle.checks.specs.Checks.{Check, first, checks}
use Rattle.files.specs.File.{File, standing, refusal, apply, Outcome, outcome, body_of, record_at, unknown_kind, cut_body, refusal_at, read_from, after}

-- ONE OF TEN NUMBERS

abbrev UpTo : ℕ → List Check → Type 0
UpTo n [] = Unit {0}
UpTo n (c ∷ cs) = (c.number ≤ n) × UpTo n cs

first_up_to : (n : ℕ) (cs : List Check) → UpTo n cs → first cs ≤ n
unfolding first
first_up_to n [] h = omega arith
first_up_to n (c ∷ cs) h = by (first_up_to n cs h.1) c.applies
  where
    by : first cs ≤ n → (b : Bool) → elim b [ true ↦ c.number | false ↦ first cs ] ≤ n
    by ih true = h.0
    by ih false = ih

refusal-at_up_to : (f : File) (kind : ℕ) (rest : List ℕ) → refusal_at f kind rest ≤ 9
refusal-at_up_to f kind rest =
    first_up_to 9 (checks (standing f) (unknown_kind kind) (cut_body kind rest) (facts (action (record_at kind rest))))
    (omega arith, (omega arith, (omega arith, (omega arith, (omega arith, (omega arith, (omega arith, (omega arith, (omega arith, tt)))))))))

-- BEFORE THE OTHER CHECKS: kind, then body

pub checked : (f : File) (kind : ℕ) (rest : List ℕ) → refusal_at f kind rest ≡ cond (unknown_kind kind) 2 (cond (cut_body kind rest) 1 (refusal f (record_at kind rest)))
unfolding first refusal
checked f kind rest = by (unknown_kind kind) (cut_body kind rest)
  where
    by : (a b : Bool) → first (checks (standing f) a b (facts (action (record_at kind rest)))) ≡ cond a 2 (cond b 1 (refusal f (record_at kind rest)))
    by true b = refl
    by false true = refl
    by false false = refl

pub read_up_to : (n o : ℕ) (bytes : List ℕ) (f : File) (taken : List Record) → (read_from n o bytes f taken).refused ≤ 9
unfolding read_from
read_up_to zero o bytes f taken = omega arith
read_up_to (suc n) o [] f taken = omega arith
read_up_to (suc n) o (kind ∷ rest) f taken = by (λ o b g t. read_up_to n o b g t) (eqb (refusal_at f kind rest) 0)
  where
    by : ((o : ℕ) (b : List ℕ) (g : File) (t : List Record) → (read_from n o b g t).refused ≤ 9) → (b : Bool)
        → let r : Outcome = elim b [
          | true ↦ read_from n (o + 1 + body_length (kind_of kind)) (drop (body_length (kind_of kind)) rest) (apply f (record_at kind rest)) (taken ++ (record_at kind rest ∷ []))
          | false ↦ outcome f taken (refusal_at f kind rest) o
        ] in r.refused ≤ 9
    by ih true = ih _ _ _ _
    by ih false = refusal-at_up_to f kind rest

-- WHAT WAS TAKEN makes the file

pub after_snoc : (f : File) (rs : List Record) (r : Record) → after f (rs ++ (r ∷ [])) ≡ apply (after f rs) r
unfolding after
after_snoc f [] r = refl
after_snoc f (x ∷ xs) r = after_snoc (apply f x) xs r

pub read_taken : (n o : ℕ) (bytes : List ℕ) (f g : File) (taken : List Record) → f ≡ after g taken
    → (read_from n o bytes f taken).file ≡ after g (read_from n o bytes f taken).records
unfolding read_from
read_taken zero o bytes f g taken h = h
read_taken (suc n) o [] f g taken h = h
read_taken (suc n) o (kind ∷ rest) f g taken h = by (λ o b f t h. read_taken n o b f g t h) (eqb (refusal_at f kind rest) 0)
  where
    x : Record
    x = record_at kind rest

    by : ((o : ℕ) (b : List ℕ) (f : File) (t : List Record) → f ≡ after g t → (read_from n o b f t).file ≡ after g (read_from n o b f t).records) → (b : Bool)
        → let r : Outcome = elim b [ true ↦ read_from n (o + 1 + body_length (kind_of kind)) (drop (body_length (kind_of kind)) rest) (apply f x) (taken ++ (x ∷ [])) | false ↦ outcome f taken (refusal_at f kind rest) o ]
        in r.file ≡ after g r.records
    by ih true = ih _ _ _ _ (ap (λ (y : File). apply y x) h ∙ sym (after_snoc g taken x))
    by ih false = h

-- A REFUSED RECORD: cut before it, the file reads the same and is accepted

-- One record: it is taken, or the reading ends there.
module _ (n o kind : ℕ) (rest : List ℕ) (f : File) (taken : List Record) where
  goes : Bool → Outcome
  goes b = elim b [
    | true ↦ read_from n (o + 1 + body_length (kind_of kind)) (drop (body_length (kind_of kind)) rest) (apply f (record_at kind rest)) (taken ++ (record_at kind rest ∷ []))
    | false ↦ outcome f taken (refusal_at f kind rest) o
  ]

  pub read_on : refusal_at f kind rest ≡ 0
      → read_from (suc n) o (kind ∷ rest) f taken
      ≡ read_from n (o + 1 + body_length (kind_of kind)) (drop (body_length (kind_of kind)) rest) (apply f (record_at kind rest)) (taken ++ (record_at kind rest ∷ []))
  unfolding read_from goes
  read_on h = ap goes (eq-eqb (refusal_at f kind rest) 0 h)

  pub read_stop : (refusal_at f kind rest ≡ 0 → ⊥) → read_from (suc n) o (kind ∷ rest) f taken ≡ outcome f taken (refusal_at f kind rest) o
  unfolding read_from goes
  read_stop h = ap goes (ne_eqb (refusal_at f kind rest) 0 h)

pub zero_or : (n : ℕ) → (n ≡ 0) ⊎ (n ≡ 0 → ⊥)
zero_or zero = inl refl
zero_or (suc n) = inr (λ e. omega arith)

-- Enough is enough: the bound on the number of records is never met.
pub read_enough : (n m o : ℕ) (bytes : List ℕ) (f : File) (taken : List Record) → length bytes ≤ n → length bytes ≤ m → read_from n o bytes f taken ≡ read_from m o bytes f taken
unfolding read_from
read_enough zero zero o bytes f taken h k = refl
read_enough zero (suc m) o [] f taken h k = refl
read_enough zero (suc m) o (kind ∷ rest) f taken h k = absurd (not-suc-le-zero h)
read_enough (suc n) zero o [] f taken h k = refl
read_enough (suc n) zero o (kind ∷ rest) f taken h k = absurd (not-suc-le-zero k)
read_enough (suc n) (suc m) o [] f taken h k = refl
read_enough (suc n) (suc m) o (kind ∷ rest) f taken h k =
    let d = length-drop (body_length (kind_of kind)) rest in
    ⊎_elim
    (λ (e : refusal_at f kind rest ≡ 0). read_on n o kind rest f taken e ∙ read_enough n m _ _ _ _ (omega arith) (omega arith) ∙ sym (read_on m o kind rest f taken e))
    (λ (e : refusal_at f kind rest ≡ 0 → ⊥). read_stop n o kind rest f taken e ∙ sym (read_stop m o kind rest f taken e)) (zero_or (refusal_at f kind rest))

pub drop-take : (a b : ℕ) (l : List ℕ) → drop a (take b l) ≡ take (b - a) (drop a l)
drop-take zero b l = let e : b ≡ b - 0 = omega arith in ap (λ (n : ℕ). take n l) e
drop-take (suc a) zero l = let e : 0 ≡ 0 - suc a = omega arith in ap (λ (n : ℕ). take n (drop (suc a) l)) e
drop-take (suc a) (suc b) [] = sym (take-nil (suc b - suc a))
drop-take (suc a) (suc b) (x ∷ xs) = let e : b - a ≡ suc b - suc a = omega arith in drop-take a b xs ∙ ap (λ (n : ℕ). take n (drop a xs)) e

-- The body of a record is the same in a list that is cut behind it.
pub same_body : (kind k : ℕ) (rest : List ℕ) → body_length (kind_of kind) ≤ k → body_of kind (take k rest) ≡ body_of kind rest
same_body kind k rest h = take-take (body_length (kind_of kind)) k rest h

same_refusal : (f : File) (kind k : ℕ) (rest : List ℕ) → body_length (kind_of kind) ≤ k → refusal_at f kind (take k rest) ≡ refusal_at f kind rest
same_refusal f kind k rest h =
    ap (λ (b : List ℕ). first (checks (standing f) (unknown_kind kind) (ltb (length b) (body_length (kind_of kind))) (facts (action ((kind_of kind).made b))))) (same_body kind k rest h)

-- The reading stopped behind o, and the part before that place reads the same and is accepted.
abbrev pub Cut : ℕ → ℕ → List ℕ → File → List Record → Outcome → Type 0
Cut n o bytes f taken r = (o ≤ r.at) × (read_from n o (take (r.at - o) bytes) f taken ≡ outcome r.file r.records 0 r.at)

pub read_cut : (n o : ℕ) (bytes : List ℕ) (f : File) (taken : List Record) → ((read_from n o bytes f taken).refused ≡ 0 → ⊥) → Cut n o bytes f taken (read_from n o bytes f taken)
unfolding read_from
read_cut zero o bytes f taken h = absurd (h refl)
read_cut (suc n) o [] f taken h = absurd (h refl)
read_cut (suc n) o (kind ∷ rest) f taken h =
    ⊎_elim
    (λ (e : refusal_at f kind rest ≡ 0).
    let q = read_on n o kind rest f taken e in
    subst (Cut (suc n) o (kind ∷ rest) f taken) (sym q)
    (on e (read_from n (o + 1 + size) (drop size rest) (apply f (record_at kind rest)) (taken ++ (record_at kind rest ∷ []))) (read_cut n (o + 1 + size) (drop size rest) (apply f (record_at kind rest)) (taken ++ (record_at kind rest ∷ [])) (λ z. h (ap (λ (y : Outcome). y.refused) q ∙ z)))))
    (λ (e : refusal_at f kind rest ≡ 0 → ⊥). subst (Cut (suc n) o (kind ∷ rest) f taken) (sym (read_stop n o kind rest f taken e)) (stop (refusal_at f kind rest)))
    (zero_or (refusal_at f kind rest))
  where
    size : ℕ
    size = body_length (kind_of kind)

    stop : (r : ℕ) → Cut (suc n) o (kind ∷ rest) f taken (outcome f taken r o)
    stop r = (le_refl o, (let e : o - o ≡ 0 = omega arith in ap (λ (k : ℕ). read_from (suc n) o (take k (kind ∷ rest)) f taken) e))

    on : refusal_at f kind rest ≡ 0 → (r : Outcome) → Cut n (o + 1 + size) (drop size rest) (apply f (record_at kind rest)) (taken ++ (record_at kind rest ∷ [])) r
        → Cut (suc n) o (kind ∷ rest) f taken r
    on e r c =
        let b = c.0 in
        let k = r.at - o - 1 in
        let w : size ≤ k = omega arith in
        let a : r.at - o ≡ suc k = omega arith in
        let d : drop size (take k rest) ≡ take (r.at - (o + 1 + size)) (drop size rest) =
        drop-take size k rest ∙ (let g : k - size ≡ r.at - (o + 1 + size) = omega arith in ap (λ (i : ℕ). take i (drop size rest)) g) in
        let x : record_at kind (take k rest) ≡ record_at kind rest = ap (kind_of kind).made (same_body kind k rest w) in (
          omega arith,
          ap (λ (i : ℕ). read_from (suc n) o (take i (kind ∷ rest)) f taken) a
              ∙ read_on n o kind (take k rest) f taken (same_refusal f kind k rest w ∙ e)
              ∙ ap₂ (λ (l : List ℕ) (y : Record). read_from n (o + 1 + size) l (apply f y) (taken ++ (y ∷ []))) d x
              ∙ c.1,
        )
