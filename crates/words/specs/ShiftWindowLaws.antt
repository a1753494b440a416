-- A word meets the window exactly if one of its set places lies in it; and so for the moved bits of one source word.
use Rattle.std.proofs.Math.Path.{◌≡◌, refl, sym}
use Rattle.std.proofs.Common.{ap, ◌∙◌, lt_of_lt_of_le, lt_of_le_of_lt, mod-lt, pow-suc, pow_mono, pow_pos, ne_eqb, ltb-true}
use Rattle.std.specs.Prelude.{Bool, true, false, not, ◌&&◌, List, eqb, ltb, length, get_or}
use Rattle.std.proofs.Math.Bool.{or-true}
use Prim.Native.Nat.{ℕ, zero, suc, ◌+◌, ◌*◌, ◌-◌, ◌/◌, ◌%◌, ◌^◌, ◌<◌, ◌≤◌}
use Rattle.std.proofs.Math.Nat.{lt_of_not-le, pow-zero, zero-div, zero-mod}
use Rattle.std.proofs.Math.Decide.{dec_le, dec_lt}
use native.Mathlib.Omega.{arith}
use native.Nat.{ℕᴺ_discrete as dec_eq}
use Rattle.std.proofs.lemmas.Nat.{shr_le}
use Rattle.std.proofs.lemmas.Bool.{eqb-false, not-true}
use Rattle.base.specs.TestLaws.{unequal}
use Rattle.words.specs.Mask.{digit, digit_at}
use Rattle.words.specs.DigitsLaws.{shr_digit, mod-digit, digit_high}
use Rattle.words.specs.Shift.{before, up_to, in_window, meets, spills, word_hits}
use Rattle.words.specs.ShiftStepsLaws.{target, low_of, high_of, spills-over, hits_low}
use Rattle.words.specs.ShiftPlacesLaws.{source_digit, low_up, low_none, high_at, high_none}

-- A number that is not 0 has a set place.
set-place : (n x : ℕ) → x < 2 ^ n → (x ≡ 0 → ⊥) → (j : ℕ) × (digit x j ≡ 1)
set-place zero x h z = absurd (z (omega (arith, pow-zero 2)))
set-place (suc n) x h z = by (λ y. set-place n (x / 2) (omega (arith, pow-suc 2 n)) y) (dec_eq (x % 2) 1)
  where
    by : ((x / 2 ≡ 0 → ⊥) → (j : ℕ) × (digit (x / 2) j ≡ 1)) → Dec (x % 2 ≡ 1) → (j : ℕ) × (digit x j ≡ 1)
    by rest (yes e) = (0, let f : x / 1 ≡ x = omega arith in rw f e)
    by rest (no e) =
        let r = rest (λ y. z (omega arith)) in
        (1 + r.0, sym (shr_digit x 1 r.0) ∙ r.1)

digit-none : (k : ℕ) → digit 0 k ≡ 0
digit-none k = ap (λ (x : ℕ). x % 2) (zero-div (2 ^ k)) ∙ zero-mod 2

-- A place of a word that stands at a position lies in the window.
pub record Met (position bits start end : ℕ) : Type 0 where
  pub place : ℕ
  pub small : place < 64
  pub set : digit bits place ≡ 1
  pub from : start ≤ 64 * position + place
  pub to : 64 * position + place ≤ end

pub meets-set : (position bits start end : ℕ) → Met position bits start end → meets position bits start end ≡ true
meets-set position bits start end m =
    let k = m.place in
    let f = before position start in
    let u = up_to position end in
    let a : f ≤ k = omega arith in
    let b : k < u = omega arith in
    let e : f + (k - f) ≡ k = omega arith in
    let d : digit (in_window position bits start end) (k - f) ≡ 1 =
    shr_digit (bits % 2 ^ u) f (k - f) ∙ ap (digit (bits % 2 ^ u)) e ∙ mod-digit bits u k b ∙ m.set
    in
    ap not (ne_eqb (in_window position bits start end) 0
    (λ z. let y : ◌≡◌ {A = ℕ} 0 1 = sym (digit-none (k - f)) ∙ ap (λ (x : ℕ). digit x (k - f)) (sym z) ∙ d in omega arith))

pub meets_only : (position bits start end : ℕ) → meets position bits start end ≡ true → Met position bits start end
meets_only position bits start end h =
    let f = before position start in
    let u = up_to position end in
    let small : bits % 2 ^ u < 2 ^ u = mod-lt bits (pow_pos u) in
    let r = set-place u (in_window position bits start end) (lt_of_le_of_lt (shr_le (bits % 2 ^ u) f) small)
    (eqb-false (in_window position bits start end) 0 (not-true (eqb (in_window position bits start end) 0) h)) in
    let k = f + r.0 in
    let d : digit (bits % 2 ^ u) k ≡ 1 = sym (shr_digit (bits % 2 ^ u) f r.0) ∙ r.1 in
    let b = below u k (bits % 2 ^ u) small d in
    record {
      place = k;
      small = omega arith;
      set = sym (mod-digit bits u k b) ∙ d;
      from = from position start k (omega arith) (omega arith);
      to = to position end k b;
    }
  where
    below : (u k x : ℕ) → x < 2 ^ u → digit x k ≡ 1 → k < u
    below u k x s d = by (dec_lt k u)
      where
        by : Dec (k < u) → k < u
        by (yes g) = g
        by (no g) =
            let v = lt_of_not-le g in
            let z = digit_high x k (lt_of_lt_of_le s (pow_mono {i = u} {j = k} (omega arith))) in
            absurd (omega arith)

    from : (position start k : ℕ) → before position start ≤ k → k < 64 → start ≤ 64 * position + k
    from position start k h g = omega arith

    to : (position end k : ℕ) → k < up_to position end → 64 * position + k ≤ end
    to position end k h = omega arith

-- Place p, inside the list, has a bit that moved up by d from a set place of word s, and lies in the window.
pub record Hits (l : List ℕ) (s d a b : ℕ) : Type 0 where
  pub place : ℕ
  pub up : d ≤ place
  pub word : (place - d) / 64 ≡ s
  pub inside : place / 64 < length l
  pub was : digit_at l (place - d) ≡ 1
  pub from : a ≤ place
  pub to : place ≤ b

module _ (l : List ℕ) (s d a b : ℕ) where
  pub hits_set : Hits l s d a b → word_hits l s d a b ≡ true
  unfolding word_hits
  hits_set r = by (dec_le (d % 64) (r.place % 64))
    where
      p : ℕ
      p = r.place

      source : (k : ℕ) → (p - d) % 64 ≡ k → digit (get_or l s 0) k ≡ 1
      source k e = source_digit l s (p - d) k r.word e ∙ r.was

      high : (d % 64 ≤ p % 64 → ⊥) → meets (target l s d + 1) (high_of l s d) a b ≡ true
      high n =
          let o = lt_of_not-le n in
          let u = r.up in
          let w = r.word in
          let t : p / 64 ≡ s + d / 64 + 1 = omega arith in
          meets-set (target l s d + 1) (high_of l s d) a b
          (record {
            place = p % 64;
            small = mod-lt p (omega arith);
            set = high_at (get_or l s 0) (d % 64) (p % 64) ∙ source (64 - d % 64 + p % 64) (omega arith);
            from = omega (arith, r.from);
            to = omega (arith, r.to);
          })

      two : (d % 64 ≤ p % 64 → ⊥) → spills l (target l s d) (d % 64) ≡ true
      two n =
          let o = lt_of_not-le n in
          let u = r.up in
          let w = r.word in
          let i = r.inside in
          spills-over l (target l s d) (d % 64) (λ z. omega arith) (omega arith)

      by : Dec (d % 64 ≤ p % 64) → word_hits l s d a b ≡ true
      by (yes o) =
          let u = r.up in
          let w = r.word in
          let t : p / 64 ≡ s + d / 64 = omega arith in
          let m = mod-lt p {m = 64} (omega arith) in
          sym (hits_low l s d a b (meets-set (target l s d) (low_of l s d) a b
          (record {
            place = p % 64;
            small = m;
            set = low_up (get_or l s 0) (d % 64) (p % 64) m o ∙ source (p % 64 - d % 64) (omega arith);
            from = omega (arith, r.from);
            to = omega (arith, r.to);
          })))
      by (no n) = rw (two n, high n) (or-true (meets (target l s d) (low_of l s d) a b))

  pub hits_only : get_or l s 0 < 2 ^ 64 → s + d / 64 < length l → word_hits l s d a b ≡ true → Hits l s d a b
  unfolding word_hits
  hits_only w i h = by (meets (target l s d) (low_of l s d) a b) refl
    where
      in-low : Met (target l s d) (low_of l s d) a b → Hits l s d a b
      in-low m = at (dec_le (d % 64) m.place)
        where
          at : Dec (d % 64 ≤ m.place) → Hits l s d a b
          at (yes o) =
              let k = m.place in
              let z = m.small in
              let p = 64 * (s + d / 64) + k in
              let e : (p - d) / 64 ≡ s = omega arith in
              let f : (p - d) % 64 ≡ k - d % 64 = omega arith in
              record {
                place = p;
                up = omega arith;
                word = e;
                inside = omega arith;
                was = rw (e, f) (sym (low_up (get_or l s 0) (d % 64) k z o) ∙ m.set);
                from = m.from;
                to = m.to;
              }
          at (no n) =
              let o = lt_of_not-le n in
              let y : ◌≡◌ {A = ℕ} 0 1 = sym (low_none (get_or l s 0) (d % 64) m.place m.small (omega arith)) ∙ m.set in
              absurd (omega arith)

      in-high : ltb (s + d / 64) (length l - 1) ≡ true → Met (target l s d + 1) (high_of l s d) a b → Hits l s d a b
      in-high g m = at (dec_lt m.place (d % 64))
        where
          at : Dec (m.place < d % 64) → Hits l s d a b
          at (yes o) =
              let k = m.place in
              let t = ltb-true (s + d / 64) (length l - 1) g in
              let p = 64 * (s + d / 64 + 1) + k in
              let e : (p - d) / 64 ≡ s = omega arith in
              let f : (p - d) % 64 ≡ 64 - d % 64 + k = omega arith in
              record {
                place = p;
                up = omega arith;
                word = e;
                inside = omega arith;
                was = rw (e, f) (sym (high_at (get_or l s 0) (d % 64) k) ∙ m.set);
                from = m.from;
                to = m.to;
              }
          at (no n) =
              let o = lt_of_not-le n in
              let y : ◌≡◌ {A = ℕ} 0 1 = sym (high_none (get_or l s 0) (d % 64) m.place w (omega arith)) ∙ m.set in
              absurd (omega arith)

      both : (x y z : Bool) → ((x && y) && z) ≡ true → (y ≡ true) × (z ≡ true)
      both true true true e = (refl, refl)
      both true true false e = absurd (unequal cc)
      both true false z e = absurd (unequal cc)
      both false y z e = absurd (unequal cc)

      by : (x : Bool) → meets (target l s d) (low_of l s d) a b ≡ x → Hits l s d a b
      by true e = in-low (meets_only (target l s d) (low_of l s d) a b e)
      by false e =
          let q = both (not (eqb (d % 64) 0)) (ltb (s + d / 64) (length l - 1)) (meets (target l s d + 1) (high_of l s d) a b) (rw e at h) in
          in-high q.0 (meets_only (target l s d + 1) (high_of l s d) a b q.1)
