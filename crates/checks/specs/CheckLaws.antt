-- Laws of the first check that applies.
use Rattle.std.specs.Prelude.{ℕ, zero, suc, ◌+◌, ◌-◌, ◌<◌, ◌≤◌, length, get_or, drop, eqb, leb, ltb, ℤ, ◌≡◌, refl, Bool, cond, not, ◌&&◌, ◌||◌, List, [], ◌∷◌, ◌⊎◌, Result, Ok, Err}
use Rattle.std.specs.Result.{is_ok}
use Rattle.std.proofs.Math.ListN.{length-take, length-drop}
use Rattle.std.proofs.Common.{arith, ◌∙◌, inl, inr, ⊎_elim, eqb-true, ltb-false, lt-ltb, le-ltb, eq-eqb, ne_eqb, le-leb}
use Rattle.std.proofs.Math.Path.{sym, ap}
use Rattle.std.proofs.Math.Bool.{true, false}
use Rattle.std.proofs.lemmas.Bool.{not-false}
use Rattle.base.specs.TestLaws.{unequal, and-false, or-false, or-true, contrary}
use Rattle.memory.specs.Limits.{max_thresholds}
use Rattle.records.specs.declared.Record.{Record}
use Rattle.records.specs.declared.Record.TheVariants.{Opens, Adds, Areas, Seal, Unknown, Header, Mark, Settle, Sift}
use Rattle.records.specs.declared.Standing.{Standing}
use Rattle.records.specs.Record.{front, behind, Kind, kind, kind_of, body_length, body_of, record_at}
use Rattle.checks.specs.declared.Refusal.{Refusal}
use Rattle.checks.specs.declared.Refusal.TheVariants.{CutOff, UnknownKind, OutOfTurn, TooMany, NoSuchNode, NotRising, BoundOutside, NoValue, Contradicted, TooLong}
use Rattle.checks.specs.Refusal.{number_of, number_in}
use Rattle.checks.specs.Next.{Refused, Taken, taking, next_at, entry_condition, entry_figure, EntryNext}
use Rattle.records.specs.declared.Kind as Kinds
use Rattle.records.specs.declared.Kind.TheVariants as Named
use Rattle.records.specs.Kinds.{byte_of}
use Rattle.records.specs.At.{record_in}
use Rattle.records.specs.RecordLaws.{two_fields}
use Rattle.records.specs.Facts.{Facts, building, within, ofTerms, action, facts}
use Rattle.checks.specs.Checks.{wrong_turn, any_of, not_rising, bad_bound, too_many, Check, check, first, checks, refused_by, unknown_kind, cut_body, refused_at}

pub first_here : (p : Bool) (n : ℕ) (cs : List Check) → p ≡ true → n ≡ first (check p n ∷ cs)
unfolding first
first_here true n cs e = refl
first_here false n cs e = absurd (unequal cc)

pub first_next_lem : (p : Bool) (n x : ℕ) (cs : List Check) → p ≡ false → x ≡ first cs → x ≡ first (check p n ∷ cs)
unfolding first
first_next_lem true n x cs e h = absurd (unequal cc)
first_next_lem false n x cs e h = h

-- Nothing is refused where all went well.
pub none_in : {X : Type 0} (r : Result X Refusal) → is_ok r ≡ true → number_in r ≡ 0
none_in (Ok x) e = refl
none_in (Err q) e = contrary (sym e)

-- No refusal has a number above 10.
pub number_up_to : (r : Refusal) → number_of r ≤ 10
number_up_to CutOff = omega arith
number_up_to UnknownKind = omega arith
number_up_to OutOfTurn = omega arith
number_up_to TooMany = omega arith
number_up_to NoSuchNode = omega arith
number_up_to NotRising = omega arith
number_up_to BoundOutside = omega arith
number_up_to NoValue = omega arith
number_up_to Contradicted = omega arith
number_up_to TooLong = omega arith

pub first-none : 0 ≡ first []
unfolding first
first-none = refl

first-not : (b : Bool) (n : ℕ) (cs : List Check) → 0 < n → first (check b n ∷ cs) ≡ 0 → (b ≡ false) × (first cs ≡ 0)
unfolding first
first-not true n cs h e = absurd (omega arith)
first-not false n cs h e = (refl, e)

-- EACH CHECK that a record passed which is not refused.
pub record Passes (s : Standing) (x : Facts) : Type 0 where
  pub turn : wrong_turn s x.turn ≡ false
  pub fine : s.contradicted ≡ false
  pub nodes : any_of (leb s.nodes) x.nodes ≡ false
  pub rising : any_of (not_rising s) x.rising ≡ false
  pub bounds : any_of bad_bound x.bounds ≡ false
  pub values : any_of (ltb 1) x.values ≡ false
  pub room : too_many s x.counts ≡ false

pub passes : (s : Standing) (x : Facts) → first (checks s false false x) ≡ 0 → Passes s x
passes s x h =
    let u = first-not false 2 _ (omega arith) h in
    let v = first-not false 1 _ (omega arith) u.1 in
    let a = first-not (wrong_turn s x.turn) 3 _ (omega arith) v.1 in
    let b = first-not s.contradicted 9 _ (omega arith) a.1 in
    let c = first-not (any_of (leb s.nodes) x.nodes) 5 _ (omega arith) b.1 in
    let d = first-not (any_of (not_rising s) x.rising) 6 _ (omega arith) c.1 in
    let e = first-not (any_of bad_bound x.bounds) 7 _ (omega arith) d.1 in
    let g = first-not (any_of (ltb 1) x.values) 8 _ (omega arith) e.1 in
    let k = first-not (too_many s x.counts) 4 _ (omega arith) g.1 in
    record { turn = a.0; fine = b.0; nodes = c.0; rising = d.0; bounds = e.0; values = g.0; room = k.0 }

-- The checks of a record of a known kind whose body is whole, by what each says.
abbrev pub answered : (turn contradicted node rising bound value count : Bool) → List Check
answered t p n r b v c = check t 3 ∷ check p 9 ∷ check n 5 ∷ check r 6 ∷ check b 7 ∷ check v 8 ∷ check c 4 ∷ []

-- A record's number, where the code asked some of its checks apart.
module _ (s : Standing) (x : ℕ) where
  pub opens_number : (n : ℕ) (b : ℤ) (t r v : Bool) → t ≡ wrong_turn s building → r ≡ not_rising s n → v ≡ bad_bound b
      → x ≡ first (answered t s.contradicted (leb s.nodes n) r v false (leb max_thresholds s.thresholds)) → x ≡ refused_by s (Opens n b)
  unfolding first
  opens_number n b t r v et er ev h = h ∙ (λ i. first (answered (et i) s.contradicted (leb s.nodes n) (er i) (ev i) false (leb max_thresholds s.thresholds)))

  pub adds_number : (n : ℕ) (t k : Bool) → t ≡ wrong_turn s within → k ≡ too_many s ofTerms
      → x ≡ first (answered t s.contradicted (leb s.nodes n) false false false k) → x ≡ refused_by s (Adds n 0)
  unfolding first
  adds_number n t k et ek h = h ∙ (λ i. first (answered (et i) s.contradicted (leb s.nodes n) false false false (ek i)))

  pub seal_number : (t : Bool) → t ≡ wrong_turn s building → x ≡ first (check t 3 ∷ check s.contradicted 9 ∷ check false 4 ∷ []) → x ≡ refused_by s Seal
  unfolding first
  seal_number t et h = h ∙ (λ i. first (check (et i) 3 ∷ check s.contradicted 9 ∷ check false 4 ∷ []))

-- The number for a record, from the number for what it was found to be.
pub refused_as : {r q : Record} (s : Standing) (x : ℕ) → r ≡ q → x ≡ first (checks s false false (facts (action q))) → x ≡ refused_by s r
refused_as s x e h = h ∙ ap (refused_by s) (sym e)

-- THE NEXT RECORD of an input, by how far its checks went.
module _ (s : Standing) (bytes : List ℕ) (at : ℕ) where
  abbrev key : ℕ
  key = get_or bytes at 0

  abbrev rest : List ℕ
  rest = drop (at + 1) bytes

  next-by : (u c : Bool) → unknown_kind key ≡ u → cut_body key rest ≡ c
      → next_at s bytes at ≡ taking (first (checks s u c (facts (action (record_in bytes at))))) (record_in bytes at)
  next-by u c eu ec = λ i. taking (first (checks s (eu i) (ec i) (facts (action (record_in bytes at))))) (record_in bytes at)

  pub next_unknown : unknown_kind key ≡ true → Refused 2 ≡ next_at s bytes at
  unfolding first
  next_unknown e = sym (next-by true (cut_body key rest) e refl)

  module _ (known : unknown_kind key ≡ false) (inside : at < length bytes) where
    pub next_cut : length bytes - at ≤ body_length (kind_of key) → Refused 1 ≡ next_at s bytes at
    unfolding first
    next_cut h =
        let d = length-drop (at + 1) bytes in
        let t = length-take (body_length (kind_of key)) rest in
        sym (next-by false true known (lt-ltb (length (body_of key rest)) (body_length (kind_of key)) (omega (arith, d, t))))

    module _ (whole : body_length (kind_of key) < length bytes - at) (x : ℕ) (number : x ≡ refused_by s (record_in bytes at)) where
      checked : next_at s bytes at ≡ taking x (record_in bytes at)
      unfolding first
      checked =
          let d = length-drop (at + 1) bytes in
          let t = length-take (body_length (kind_of key)) rest in
          next-by false false known (le-ltb (length (body_of key rest)) (body_length (kind_of key)) (omega (arith, d, t)))
          ∙ ap (λ (n : ℕ). taking n (record_in bytes at)) (sym number)

      pub next_refused : (x ≡ 0 → ⊥) → Refused x ≡ next_at s bytes at
      next_refused z = sym (checked ∙ ap (λ (t : Bool). cond t (Taken (record_in bytes at)) (Refused x)) (ne_eqb x 0 z))

      pub next_taken : (r : Record) → r ≡ record_in bytes at → x ≡ 0 → Taken r ≡ next_at s bytes at
      next_taken r e z = ap Taken e ∙ sym (checked ∙ ap (λ (t : Bool). cond t (Taken (record_in bytes at)) (Refused x)) (eq-eqb x 0 z))

-- A byte that names a kind is a known one.
pub named_known : {b : ℕ} (k : Kinds.Kind) → b ≡ byte_of k → unknown_kind b ≡ false
named_known k e = ap unknown_kind e ∙ known k
  where
    known : (k : Kinds.Kind) → unknown_kind (byte_of k) ≡ false
    known Named.Header = refl
    known Named.Opens = refl
    known Named.Adds = refl
    known Named.Seal = refl
    known Named.Mark = refl
    known Named.Settle = refl
    known Named.Sift = refl
    known Named.Areas = refl

pub either_kind : (k : ℕ) → (not (eqb k 3) && not (eqb k 8)) ≡ false → (k ≡ 3) ⊎ (k ≡ 8)
either_kind k e =
    ⊎_elim (λ (q : not (eqb k 3) ≡ false). inl (eqb-true k 3 (not-false (eqb k 3) q))) (λ (q : not (eqb k 8) ≡ false). inr (eqb-true k 8 (not-false (eqb k 8) q)))
    (and-false (not (eqb k 3)) (not (eqb k 8)) e)

-- A byte that names a term or an area.
pub entry_named : {b : ℕ} (k : Kinds.Kind) → b ≡ byte_of k → (eqb (byte_of k) 3 || eqb (byte_of k) 8) ≡ true → (b ≡ 3) ⊎ (b ≡ 8)
entry_named k e t = ⊎_elim (λ (q : eqb (byte_of k) 3 ≡ true). inl (e ∙ eqb-true (byte_of k) 3 q)) (λ (q : eqb (byte_of k) 8 ≡ true). inr (e ∙ eqb-true (byte_of k) 8 q))
    (or-true (eqb (byte_of k) 3) (eqb (byte_of k) 8) t)

-- A term or an area, whole, with no number that refuses it. Both are checked alike.
pub entry_next : (s : Standing) (bytes : List ℕ) (at : ℕ) → (get_or bytes at 0 ≡ 3) ⊎ (get_or bytes at 0 ≡ 8) → at < length bytes → 6 < length bytes - at
    → (c n : ℕ) → c ≡ entry_condition bytes at → n ≡ refused_by s (Adds c 0) → n ≡ 0 → EntryNext s bytes at
entry_next s bytes at which inside long c n e number z =
    record { kind = which; whole = omega (arith, inside, long); term = by_kind 3 Adds refl refl (λ x y. refl); area = by_kind 8 Areas refl refl (λ x y. refl) }
  where
    by_kind : (b : ℕ) (make : ℕ → ℕ → Record) → kind_of b ≡ kind 6 (λ (body : List ℕ). make (front body) (behind body)) → unknown_kind b ≡ false
        → ((x y : ℕ) → refused_by s (make x y) ≡ refused_by s (Adds x 0)) → get_or bytes at 0 ≡ b → Taken (make (entry_condition bytes at) (entry_figure bytes at)) ≡ next_at s bytes at
    by_kind b make made known like k =
        next_taken s bytes at (ap unknown_kind k ∙ known) inside
        (let q = ap (λ (x : ℕ). body_length (kind_of x)) k ∙ ap (λ (y : Kind). y.size) made in omega (arith, q, long)) n
        (number ∙ sym (like c (entry_figure bytes at)) ∙ ap (refused_by s) (two_fields bytes at b 4 make c (entry_figure bytes at) made k e refl))
        (make (entry_condition bytes at) (entry_figure bytes at)) (two_fields bytes at b 4 make (entry_condition bytes at) (entry_figure bytes at) made k refl refl) z

-- What the next record says of the checks.

refused_more : (n : ℕ) (r : Record) → taking (suc n) r ≡ Refused (suc n)
refused_more n r = ap (λ (t : Bool). cond t (Taken r) (Refused (suc n))) (ne_eqb (suc n) 0 (λ z. omega arith))

skip_two : (cs : List Check) → first cs ≡ 0 → first (check false 2 ∷ check false 1 ∷ cs) ≡ 0
unfolding first
skip_two cs h = h

module _ (s : Standing) (bytes : List ℕ) (at : ℕ) where
  abbrev number : ℕ
  number = refused_at s (get_or bytes at 0) (drop (at + 1) bytes)

  pub was_refused : (x : ℕ) → Refused x ≡ next_at s bytes at → (number ≡ x) × (x ≡ 0 → ⊥)
  was_refused x e = by number e
    where
      by : (n : ℕ) → Refused x ≡ taking n (record_in bytes at) → (n ≡ x) × (x ≡ 0 → ⊥)
      by zero q = absurd (unequal cc)
      by (suc n) q = let p = q ∙ refused_more n (record_in bytes at) in let same : suc n ≡ x = cc in (same, λ z. let y : ◌≡◌ {A = ℕ} (suc n) 0 = same ∙ z in omega arith)

  pub was_taken : (r : Record) → Taken r ≡ next_at s bytes at → (number ≡ 0) × (r ≡ record_in bytes at)
  was_taken r e = by number e
    where
      by : (n : ℕ) → Taken r ≡ taking n (record_in bytes at) → (n ≡ 0) × (r ≡ record_in bytes at)
      by zero q = (refl, cc)
      by (suc n) q = absurd (let p = q ∙ refused_more n (record_in bytes at) in unequal cc)

  -- Its body is whole and the other checks are passed.
  module _ (none : number ≡ 0) where
    known : (unknown_kind (get_or bytes at 0) ≡ false) × ((cut_body (get_or bytes at 0) (drop (at + 1) bytes) ≡ false) × (refused_by s (record_in bytes at) ≡ 0))
    known =
        let u = first-not (unknown_kind (get_or bytes at 0)) 2 _ (omega arith) none in
        let v = first-not (cut_body (get_or bytes at 0) (drop (at + 1) bytes)) 1 _ (omega arith) u.1 in
        (u.0, (v.0, skip_two _ v.1))

    pub taken_passes : refused_by s (record_in bytes at) ≡ 0
    taken_passes = known.1.1

    pub taken_whole : at < length bytes → at + 1 + body_length (kind_of (get_or bytes at 0)) ≤ length bytes
    taken_whole h =
        let c = ltb-false (length (body_of (get_or bytes at 0) (drop (at + 1) bytes))) (body_length (kind_of (get_or bytes at 0))) known.1.0 in
        let d = length-drop (at + 1) bytes in
        let t = length-take (body_length (kind_of (get_or bytes at 0))) (drop (at + 1) bytes) in
        omega (arith, c, d, t)

is_unknown : Record → Bool
is_unknown (Header n) = false
is_unknown (Opens n z) = false
is_unknown (Adds c w) = false
is_unknown (Areas c a) = false
is_unknown Seal = false
is_unknown (Mark n v) = false
is_unknown Settle = false
is_unknown Sift = false
is_unknown Unknown = true

pub known_record : (kind : ℕ) (rest : List ℕ) → unknown_kind kind ≡ false → record_at kind rest ≡ Unknown → ⊥
unfolding is_unknown
known_record zero rest e q = contrary e
known_record (suc zero) rest e q = contrary (sym (ap is_unknown q))
known_record (suc (suc zero)) rest e q = contrary (sym (ap is_unknown q))
known_record (suc (suc (suc zero))) rest e q = contrary (sym (ap is_unknown q))
known_record (suc (suc (suc (suc zero)))) rest e q = contrary (sym (ap is_unknown q))
known_record (suc (suc (suc (suc (suc zero))))) rest e q = contrary (sym (ap is_unknown q))
known_record (suc (suc (suc (suc (suc (suc zero)))))) rest e q = contrary (sym (ap is_unknown q))
known_record (suc (suc (suc (suc (suc (suc (suc zero))))))) rest e q = contrary (sym (ap is_unknown q))
known_record (suc (suc (suc (suc (suc (suc (suc (suc zero)))))))) rest e q = contrary (sym (ap is_unknown q))
known_record (suc (suc (suc (suc (suc (suc (suc (suc (suc k))))))))) rest e q =
    let n : ℕ = suc (suc (suc (suc (suc (suc (suc (suc (suc k)))))))) in
    let b : ◌≡◌ {A = Bool} true false = sym (le-leb 9 n (omega arith)) ∙ (or-false (eqb n 0) (leb 9 n) e).1 in
    unequal cc
