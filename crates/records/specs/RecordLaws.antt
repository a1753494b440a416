-- Laws of the fields of records: bytes put together, and a body's fields read where they stand.
use Rattle.std.specs.Prelude.{ℕ, zero, suc, ◌+◌, ◌*◌, ◌-◌, ◌^◌, ◌<◌, ◌≤◌, ◌≡◌, refl, List, [], ◌∷◌, ◌++◌, length, get_or, take, drop, ℤ, pos, negsuc, ◌-ℤ◌}
use Rattle.std.proofs.Common.{mul-add, mul_assoc, add_assoc, one-mul, zero-add, suc-add, arith, sym, ap, ap₂, ◌∙◌, subst, length-drop, take-add, drop-drop, drop-cons, take-take, length-take-le, SFits, lt-ltb, le-ltb}
use Rattle.std.proofs.Math.Nat.{pow-succ'}
use Rattle.std.proofs.Math.Decide.{ℕ_discrete}
use Rattle.std.proofs.Math.ListN.{get_or-eq_default}
use Rattle.std.proofs.Math.Seq.{take-nil}
use Rattle.std.specs.Int.{w64}
use Rattle.records.specs.declared.Record.{Record}
use Rattle.records.specs.declared.Record.TheVariants.{Unknown}
use Rattle.records.specs.Record.{Kind, kind, no_kind, kinds, kind_of, body_length, little_endian, front, behind, signed}
use Rattle.records.specs.At.{kind_at, record_in}

little_append : (xs ys : List ℕ) → little_endian (xs ++ ys) ≡ little_endian xs + 256 ^ length xs * little_endian ys
unfolding little_endian
little_append [] ys = let q = one-mul (little_endian ys) in omega (arith, q)
little_append (x ∷ xs) ys =
    ap (λ (n : ℕ). x + 256 * n) (little_append xs ys)
    ∙ ap (λ (n : ℕ). x + n) (mul-add 256 (little_endian xs) (256 ^ length xs * little_endian ys))
    ∙ sym (add_assoc x (256 * little_endian xs) (256 * (256 ^ length xs * little_endian ys)))
    ∙ ap (λ (n : ℕ). x + 256 * little_endian xs + n) (sym (mul_assoc 256 (256 ^ length xs) (little_endian ys)))
    ∙ ap (λ (n : ℕ). x + 256 * little_endian xs + n * little_endian ys) (sym (pow-succ' 256 (length xs)))

-- Bytes from a place on are the first ones and those behind them.
pub little_split : (l : List ℕ) (at m n : ℕ) → at + m ≤ length l
    → little_endian (take (m + n) (drop at l)) ≡ little_endian (take m (drop at l)) + 256 ^ m * little_endian (take n (drop (at + m) l))
little_split l at m n h =
    ap little_endian (take-add m n (drop at l))
    ∙ little_append (take m (drop at l)) (take n (drop m (drop at l)))
    ∙ ap₂ (λ (k : ℕ) (d : List ℕ). little_endian (take m (drop at l)) + 256 ^ k * little_endian (take n d))
    (length-take-le m (drop at l) (let q = length-drop at l in omega arith)) (drop-drop m at l)

pub one_byte : (l : List ℕ) (at : ℕ) → at < length l → little_endian (take 1 (drop at l)) ≡ get_or l at 0
unfolding little_endian
one_byte l at h = ap (λ (d : List ℕ). little_endian (take 1 d)) (drop-cons l at 0 h) ∙ omega arith

pub two_bytes : (l : List ℕ) (at : ℕ) → at + 2 ≤ length l → get_or l at 0 + 256 * get_or l (at + 1) 0 ≡ little_endian (take 2 (drop at l))
two_bytes l at h =
    sym (little_split l at 1 1 (omega arith)
    ∙ ap₂ (λ (x y : ℕ). x + 256 * y) (one_byte l at (omega arith)) (one_byte l (at + 1) (omega arith)))

pub four_bytes : (l : List ℕ) (at : ℕ) → at + 4 ≤ length l
    → little_endian (take 2 (drop at l)) + 65536 * little_endian (take 2 (drop (at + 2) l)) ≡ little_endian (take 4 (drop at l))
four_bytes l at h = sym (little_split l at 2 2 (omega arith))

pub eight_bytes : (l : List ℕ) (at : ℕ) → at + 8 ≤ length l
    → little_endian (take 4 (drop at l)) + 4294967296 * little_endian (take 4 (drop (at + 4) l)) ≡ little_endian (take 8 (drop at l))
eight_bytes l at h = sym (little_split l at 4 4 (omega arith))

-- Eight bytes as a signed number, the upper half by its distance to the top.
pub signed_low : (n : ℕ) → n < 9223372036854775808 → pos n ≡ signed n
signed_low n h = rw (lt-ltb n 9223372036854775808 h) refl

pub signed_high : (n : ℕ) → 9223372036854775808 ≤ n → negsuc (18446744073709551615 - n) ≡ signed n
signed_high n h = rw (le-ltb n 9223372036854775808 h) refl

minus_one : (k : ℕ) → negsuc 0 -ℤ pos k ≡ negsuc k
minus_one zero = refl
minus_one (suc k) = ap (λ (n : ℕ). negsuc (suc n)) (zero-add k)

pub below-fits : (n : ℕ) → 9223372036854775808 ≤ n → SFits w64 (negsuc 0 -ℤ pos (18446744073709551615 - n))
below-fits n h = subst (λ (z : ℤ). SFits w64 z) (sym (minus_one (18446744073709551615 - n))) (record { sfits = omega arith })

pub below-zero : (n : ℕ) → 9223372036854775808 ≤ n → negsuc 0 -ℤ pos (18446744073709551615 - n) ≡ signed n
below-zero n h = minus_one (18446744073709551615 - n) ∙ signed_high n h

-- The fields of a body are read where they stand in the input.
cut-front : (n m : ℕ) (l : List ℕ) → drop n (take (n + m) l) ≡ take m (drop n l)
cut-front zero m l = ap (λ (k : ℕ). take k l) (zero-add m)
cut-front (suc n) m [] = ap (λ (k : ℕ). drop (suc n) (take k [])) (suc-add n m) ∙ sym (take-nil m)
cut-front (suc n) m (x ∷ l) = ap (λ (k : ℕ). drop (suc n) (take k (x ∷ l))) (suc-add n m) ∙ cut-front n m l

module _ (l : List ℕ) (at : ℕ) where
  abbrev field : ℕ → ℕ → ℕ
  field from size = little_endian (take size (drop (at + from) l))

  first_field : (m : ℕ) → little_endian (take 2 (take (2 + m) (drop (at + 1) l))) ≡ field 1 2
  first_field m = ap little_endian (take-take 2 (2 + m) (drop (at + 1) l) (omega arith))

  later-field : (m : ℕ) → little_endian (drop 2 (take (2 + m) (drop (at + 1) l))) ≡ field 3 m
  later-field m =
      ap little_endian (cut-front 2 m (drop (at + 1) l) ∙ ap (take m) (drop-drop 2 (at + 1) l) ∙ ap (λ (k : ℕ). take m (drop k l)) {x = at + 1 + 2} {y = at + 3} (omega arith))

  -- The record that a kind makes here.
  abbrev made_at : Kind → Record
  made_at k = k.made (take (body_length k) (drop (at + 1) l))

  -- A record by the byte of its kind: how long it is at least, and what it says.
  pub room_by : (b : ℕ) → get_or l at 0 ≡ b → at + 1 + body_length (kind_at l at) ≤ length l → at + 1 + body_length (kind_of b) ≤ length l
  room_by b e h = subst (λ (x : ℕ). at + 1 + body_length (kind_of x) ≤ length l) e h

  pub record_by : (b : ℕ) → get_or l at 0 ≡ b → made_at (kind_of b) ≡ record_in l at
  record_by b e = sym (ap (λ (x : ℕ). made_at (kind_of x)) e)

  -- A body of two bytes; one of two bytes and more behind them.
  pub one_field : (b : ℕ) (make : ℕ → Record) (x : ℕ) → kind_of b ≡ kind 2 (λ (body : List ℕ). make (little_endian body)) → get_or l at 0 ≡ b → x ≡ field 1 2
      → make x ≡ record_in l at
  one_field b make x k e h = ap make h ∙ sym (ap (λ (y : Kind). made_at y) k) ∙ record_by b e

  pub two_fields : (b size : ℕ) (make : ℕ → ℕ → Record) (x y : ℕ) → kind_of b ≡ kind (2 + size) (λ (body : List ℕ). make (front body) (behind body)) → get_or l at 0 ≡ b
      → x ≡ field 1 2 → y ≡ field 3 size → make x y ≡ record_in l at
  two_fields b size make x y k e h i =
      ap₂ make (h ∙ sym (first_field size)) (i ∙ sym (later-field size)) ∙ sym (ap (λ (z : Kind). made_at z) k) ∙ record_by b e

-- A byte that is none of 1, 2 .. n.
abbrev pub Missed : ℕ → ℕ → Type 0
Missed b zero = Unit {0}
Missed b (suc n) = Missed b n × (b ≡ suc n → ⊥)

past : (b n : ℕ) → Missed b n → (b ≡ 0 → ⊥) → n < b
past b zero m z = omega arith
past b (suc n) m z = let q = past b n m.0 z in let o = m.1 in omega arith

-- Such a byte is no kind, where the table has no more.
module _ (b n : ℕ) (m : Missed b n) (all : length kinds ≤ suc n) where
  pub no_kind_lem : kind_of b ≡ no_kind
  no_kind_lem = by (ℕ_discrete b 0)
    where
      by : Dec (b ≡ 0) → kind_of b ≡ no_kind
      by (yes e) = ap kind_of e
      by (no e) = let q = past b n m e in let w : length kinds ≤ b = omega arith in get_or-eq_default kinds no_kind w

  pub body_other : 0 ≡ body_length (kind_of b)
  body_other = ap (λ (k : Kind). body_length k) (sym no_kind_lem)

pub other_at : (l : List ℕ) (at n : ℕ) → Missed (get_or l at 0) n → length kinds ≤ suc n → Unknown ≡ record_in l at
other_at l at n m all = sym (ap (λ (k : Kind). made_at l at k) (no_kind_lem (get_or l at 0) n m all))
