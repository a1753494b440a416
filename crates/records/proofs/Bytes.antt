-- Bytes that stand one behind the other, put together as the fields of records have them.
use Rattle.std.specs.Prelude.{ℕ, ◌+◌, ◌*◌, ◌≤◌, ◌≡◌, refl, Bool, true, false, ltb, ◌-◌, ◌<◌, suc, List, length, get_or, take, drop}
use Rattle.std.proofs.Common.{arith, ap, ◌∙◌, ltb-true, ltb-false}
use Rattle.std.specs.Int.{w64, cast_signed}
use Rattle.std.proofs.Math.Facts.{to_z_pos, to_z-neg}
use Rattle.records.specs.Record.{little_endian, signed}
use Rattle.records.specs.RecordLaws.{two_bytes, four_bytes, eight_bytes, signed_low, signed_high}

module _ (l : List ℕ) where
  abbrev byte : ℕ → ℕ
  byte i = get_or l i 0

  -- So many bytes from a place on.
  abbrev number : ℕ → ℕ → ℕ
  number n i = little_endian (take n (drop i l))

  pub two : (i j : ℕ) → j ≡ i + 1 → i + 2 ≤ length l → byte i + 256 * byte j ≡ number 2 i
  two i j e h = ap (λ (k : ℕ). byte i + 256 * byte k) e ∙ two_bytes l i h

  pub four : (i j k m : ℕ) → j ≡ i + 1 → k ≡ i + 2 → m ≡ i + 3 → i + 4 ≤ length l → byte i + 256 * byte j + 65536 * byte k + 16777216 * byte m ≡ number 4 i
  four i j k m a b c h =
      let low = two i j a (omega (arith, h)) in
      let high = two k m (omega (arith, b, c)) (omega (arith, b, h)) in
      let there : number 2 k ≡ number 2 (i + 2) = ap (λ (x : ℕ). number 2 x) b in
      omega (arith, low, high, there, four_bytes l i h)

  pub eight : (i j k m n o p q : ℕ) → j ≡ i + 1 → k ≡ i + 2 → m ≡ i + 3 → n ≡ i + 4 → o ≡ i + 5 → p ≡ i + 6 → q ≡ i + 7 → i + 8 ≤ length l
      → byte i + 256 * byte j + 65536 * byte k + 16777216 * byte m
      + 4294967296 * byte n + 1099511627776 * byte o + 281474976710656 * byte p + 72057594037927936 * byte q ≡ number 8 i
  eight i j k m n o p q a b c d e f g h =
      let low = four i j k m a b c (omega (arith, h)) in
      let high = four n o p q (omega (arith, d, e)) (omega (arith, d, f)) (omega (arith, d, g)) (omega (arith, d, h)) in
      let there : number 4 n ≡ number 4 (i + 4) = ap (λ (x : ℕ). number 4 x) d in
      omega (arith, low, high, there, eight_bytes l i h)

-- Eight bytes as the machine reads a signed number.
pub signed_so : (n : ℕ) → n < 18446744073709551616 → cast_signed w64 n ≡ signed n
signed_so n h = by (ltb n 9223372036854775808) refl
  where
    by : (b : Bool) → ltb n 9223372036854775808 ≡ b → cast_signed w64 n ≡ signed n
    by true e =
        let low = ltb-true n 9223372036854775808 e in
        to_z_pos w64 low ∙ signed_low n low
    by false e =
        let high = ltb-false n 9223372036854775808 e in
        ap (λ (m : ℕ). cast_signed w64 m) {x = n} {y = 18446744073709551616 - suc (18446744073709551615 - n)} (omega (arith, h))
        ∙ to_z-neg w64 (18446744073709551615 - n) (omega (arith, high)) ∙ signed_high n high
