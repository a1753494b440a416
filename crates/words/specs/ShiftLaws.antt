-- What the shifted union does: which places are set after it, when it answers a hit, how many visits it takes.
use Rattle.std.specs.Prelude.{◌≡◌, Bool, List, length}
use Rattle.std.proofs.Math.Path.{refl, ap₂, subst}
use Rattle.std.proofs.Common.{sym, ap, ◌∙◌, not-suc-le-zero}
use Rattle.std.proofs.Math.Bool.{true, false}
use Prim.Native.Nat.{ℕ, zero, suc, ◌+◌, ◌-◌, ◌/◌, ◌%◌, ◌<◌, ◌≤◌, min, max}
use native.Mathlib.Omega.{arith}
use native.Nat.{ℕᴺ_discrete as dec_eq}
use Rattle.std.proofs.Math.ListN.{get_or-eq_default}
use Rattle.base.specs.TestLaws.{unequal}
use Rattle.words.specs.Mask.{digit, digit_at}
use Rattle.words.specs.DigitsLaws.{Words}
use Rattle.words.specs.Shift.{Shifted, shifted, shift_word, word_hits, shift_from, union_shifted}
use Rattle.words.specs.ShiftStepsLaws.{length_shift}
use Rattle.words.specs.ShiftPlacesLaws.{shift_moved, shift_kept, source_kept, hits_kept, shift_words}
use Rattle.words.specs.ShiftWindowLaws.{Hits, hits_set, hits_only}
use Rattle.words.specs.declared.Ended.{Ended}
use Rattle.words.specs.declared.Ended.TheVariants.{Hit, Complete, Stopped}

-- The highest c of the first n words, moved.
unfoldable pub moves : ℕ → ℕ → ℕ → List ℕ → List ℕ
moves d zero n l = l
moves d (suc c) zero l = l
moves d (suc c) (suc n) l = moves d c n (shift_word l n d)

pub moves_length : (d c n : ℕ) (l : List ℕ) → length (moves d c n l) ≡ length l
unfolding moves
moves_length d zero n l = refl
moves_length d (suc c) zero l = refl
moves_length d (suc c) (suc n) l = moves_length d c n (shift_word l n d) ∙ length_shift l n d

pub moves_words : (d c n : ℕ) (l : List ℕ) → Words l → Words (moves d c n l)
unfolding moves
moves_words d zero n l w = w
moves_words d (suc c) zero l w = w
moves_words d (suc c) (suc n) l w = moves_words d c n (shift_word l n d) (shift_words l n d w)

module _ (d p : ℕ) where
  -- A place that no bit of the moved words goes to stays.
  pub moves_kept : (c n : ℕ) (l : List ℕ) → Words l → (d ≤ p → n ≤ (p - d) / 64 + c → (p - d) / 64 < n → ⊥) → digit_at (moves d c n l) p ≡ digit_at l p
  unfolding moves
  moves_kept zero n l w h = refl
  moves_kept (suc c) zero l w h = refl
  moves_kept (suc c) (suc n) l w h =
      moves_kept c n (shift_word l n d) (shift_words l n d w) (λ a b e. h a (omega arith) (omega arith))
      ∙ shift_kept l n d p (w n) (λ a e. h a (omega arith) (omega arith))

  -- A place that a bit of the moved words goes to is set if it was, or if the place d below was.
  pub moves_set : (c n : ℕ) (l : List ℕ) → Words l → d ≤ p → n ≤ (p - d) / 64 + c → (p - d) / 64 < n → p / 64 < length l
      → digit_at (moves d c n l) p ≡ max (digit_at l p) (digit_at l (p - d))
  unfolding moves
  moves_set zero n l w a b e i = absurd (omega arith)
  moves_set (suc c) zero l w a b e i = absurd (not-suc-le-zero e)
  moves_set (suc c) (suc n) l w a b e i =
      by (λ f. moves_set c n (shift_word l n d) (shift_words l n d w) a (omega arith) f (rw (length_shift l n d) i)) (dec_eq ((p - d) / 64) n)
    where
      by : ((p - d) / 64 < n → digit_at (moves d c n (shift_word l n d)) p ≡ max (digit_at (shift_word l n d) p) (digit_at (shift_word l n d) (p - d)))
          → Dec ((p - d) / 64 ≡ n) → digit_at (moves d c n (shift_word l n d)) p ≡ max (digit_at l p) (digit_at l (p - d))
      by rest (yes f) =
          moves_kept c n (shift_word l n d) (shift_words l n d w) (λ x y z. omega arith) ∙ shift_moved l n d p a f i
      by rest (no f) =
          let g : (p - d) / 64 < n = omega arith in
          rest g
          ∙ ap₂ max (shift_kept l n d p (w n) (λ x y. f y)) (ap (λ (x : ℕ). digit x ((p - d) % 64)) (source_kept l n d ((p - d) / 64) g))

-- The three ways in which a walk over the first n words, with so many visits, ends: no word hits and every one is moved; word s
-- is the highest that hits, and is the last that is moved; or the visits are used up before.
pub data Outcome (d a b n : ℕ) (l : List ℕ) (left : ℕ) : Shifted → Type 0 where
  completes : (k : ℕ) → k + n ≡ left → ((t : ℕ) → t < n → word_hits l t d a b ≡ false) → Outcome d a b n l left (shifted (moves d n n l) (Complete k))
  hits : (k s : ℕ) → s < n → k + (n - s) ≡ left → word_hits l s d a b ≡ true → ((t : ℕ) → s < t → t < n → word_hits l t d a b ≡ false)
      → Outcome d a b n l left (shifted (moves d (n - s) n l) (Hit k))
  stops : left < n → ((t : ℕ) → n ≤ t + left → t < n → word_hits l t d a b ≡ false) → Outcome d a b n l left (shifted (moves d left n l) Stopped)

module _ (d a b : ℕ) where
  -- What holds of the words below, and of word n, holds below n + 1.
  and_last : (n : ℕ) (l : List ℕ) → word_hits l n d a b ≡ false → (t : ℕ) → t < suc n
      → (t < n → word_hits (shift_word l n d) t d a b ≡ false) → word_hits l t d a b ≡ false
  and_last n l e t h f = by (dec_eq t n)
    where
      by : Dec (t ≡ n) → word_hits l t d a b ≡ false
      by (yes g) = rw g e
      by (no g) = let q : t < n = omega arith in sym (hits_kept l n d t a b q) ∙ f q

  one_more : (n : ℕ) (l : List ℕ) (left : ℕ) (r : Shifted) → word_hits l n d a b ≡ false → Outcome d a b n (shift_word l n d) left r
      → Outcome d a b (suc n) l (suc left) r
  unfolding moves
  one_more n l left r e (completes k q f) = completes k (omega arith) (λ t h. and_last n l e t h (f t))
  one_more n l left r e (hits k s i q w f) =
      let z : suc n - s ≡ suc (n - s) = omega arith in
      subst (λ (x : ℕ). Outcome d a b (suc n) l (suc left) (shifted (moves d x (suc n) l) (Hit k))) z
      (hits k s (omega arith) (omega arith) (sym (hits_kept l n d s a b i) ∙ w) (λ t g h. and_last n l e t h (f t g)))
  one_more n l left r e (stops i f) = stops (omega arith) (λ t g h. and_last n l e t h (f t (omega arith)))

  pub outcome : (n : ℕ) (l : List ℕ) (left : ℕ) → Outcome d a b n l left (shift_from d a b n l left)
  unfolding shift_from moves
  outcome zero l left = completes left (omega arith) (λ t h. absurd (not-suc-le-zero h))
  outcome (suc n) l zero = stops (omega arith) (λ t g h. absurd (omega arith))
  outcome (suc n) l (suc left) = by (outcome n (shift_word l n d) left) (word_hits l n d a b) refl
    where
      by : Outcome d a b n (shift_word l n d) left (shift_from d a b n (shift_word l n d) left) → (x : Bool) → word_hits l n d a b ≡ x
          → Outcome d a b (suc n) l (suc left) (shift_from d a b (suc n) l (suc left))
      by rest true e =
          let z : suc n - n ≡ 1 = omega arith in
          rw (e, shift_from)
          (subst (λ (x : ℕ). Outcome d a b (suc n) l (suc left) (shifted (moves d x (suc n) l) (Hit left))) z
          (hits left n (omega arith) (omega arith) e (λ t g h. absurd (omega arith))))
      by rest false e = rw (e, shift_from) (one_more n l left (shift_from d a b n (shift_word l n d) left) e rest)

-- The source words that stay inside the slice when they are moved by d.
abbrev pub readable : List ℕ → ℕ → ℕ → ℕ
readable l sources d = min sources (length l - d / 64)

-- Place p, inside the slice, has a bit that moved up by d from a set place of a source word.
pub record Moved (l : List ℕ) (sources d p : ℕ) : Type 0 where
  pub up : d ≤ p
  pub source : (p - d) / 64 < sources
  pub inside : p / 64 < length l
  pub was : digit_at l (p - d) ≡ 1

-- So many words were read.
abbrev pub visits : ℕ → Ended → ℕ
visits allowance (Hit k) = allowance - k
visits allowance (Complete k) = allowance - k
visits allowance Stopped = allowance

-- What each answer says of the walk.
module _ (d a b n : ℕ) (l : List ℕ) (left : ℕ) where
  outcome-words : (r : Shifted) → Outcome d a b n l left r → r.words ≡ moves d (visits left r.ended) n l
  outcome-words r (completes k e f) = let z : n ≡ left - k = omega arith in ap (λ (x : ℕ). moves d x n l) z
  outcome-words r (hits k s i e w f) = let z : n - s ≡ left - k = omega arith in ap (λ (x : ℕ). moves d x n l) z
  outcome-words r (stops i f) = refl

  outcome-complete : (r : Shifted) → Outcome d a b n l left r → (k : ℕ) → r.ended ≡ Complete k
      → (k + n ≡ left) × ((t : ℕ) → t < n → word_hits l t d a b ≡ false)
  outcome-complete r (completes k e f) j q = let z : k ≡ j = cc in (omega arith, f)
  outcome-complete r (hits k s i e w f) j q = absurd (unequal cc)
  outcome-complete r (stops i f) j q = absurd (unequal cc)

  outcome-hit : (r : Shifted) → Outcome d a b n l left r → (k : ℕ) → r.ended ≡ Hit k
      → (s : ℕ) × (s < n) × (k + (n - s) ≡ left) × (word_hits l s d a b ≡ true) × ((t : ℕ) → s < t → t < n → word_hits l t d a b ≡ false)
  outcome-hit r (completes k e f) j q = absurd (unequal cc)
  outcome-hit r (hits k s i e w f) j q = let z : k ≡ j = cc in (s, i, omega arith, w, f)
  outcome-hit r (stops i f) j q = absurd (unequal cc)

  outcome-stopped : (r : Shifted) → Outcome d a b n l left r → r.ended ≡ Stopped
      → (left < n) × ((t : ℕ) → n ≤ t + left → t < n → word_hits l t d a b ≡ false)
  outcome-stopped r (completes k e f) q = absurd (unequal cc)
  outcome-stopped r (hits k s i e w f) q = absurd (unequal cc)
  outcome-stopped r (stops i f) q = (i, f)

  outcome-some : (r : Shifted) → Outcome d a b n l left r → (t : ℕ) → t < n → word_hits l t d a b ≡ true → (r.ended ≡ Stopped → ⊥)
      → (k : ℕ) × (r.ended ≡ Hit k)
  outcome-some r (completes k e f) t h w q = absurd (let y = f t h in unequal cc)
  outcome-some r (hits k s i e w f) t h v q = (k, refl)
  outcome-some r (stops i f) t h w q = absurd (q refl)

module _ (l : List ℕ) (sources d a b allowance : ℕ) where
  union-outcome : Outcome d a b (readable l sources d) l allowance (union_shifted l sources d a b allowance)
  unfolding union_shifted
  union-outcome = outcome d a b (readable l sources d) l allowance

  -- Also of a shift cut short: the highest words were moved, as many as were read, and the length stays.
  pub union_words : (union_shifted l sources d a b allowance).words
      ≡ moves d (visits allowance (union_shifted l sources d a b allowance).ended) (readable l sources d) l
  union_words = outcome-words d a b (readable l sources d) l allowance (union_shifted l sources d a b allowance) union-outcome

  pub union_length : length (union_shifted l sources d a b allowance).words ≡ length l
  union_length = ap length union_words ∙ moves_length d (visits allowance (union_shifted l sources d a b allowance).ended) (readable l sources d) l

  pub union_64 : Words l → Words (union_shifted l sources d a b allowance).words
  union_64 w = subst Words (sym union_words) (moves_words d (visits allowance (union_shifted l sources d a b allowance).ended) (readable l sources d) l w)

  -- There is no place outside the slice, before or after.
  pub union_outside : (p : ℕ) → length l ≤ p / 64 → digit_at (union_shifted l sources d a b allowance).words p ≡ digit_at l p
  union_outside p h =
      ap (λ (x : ℕ). digit x (p % 64))
      (get_or-eq_default (union_shifted l sources d a b allowance).words 0 {n = p / 64} (rw union_length h)
      ∙ sym (get_or-eq_default l 0 {n = p / 64} h))

  -- VISITS: a complete shift reads every readable word, a shift is stopped only if it may not read them all.
  pub complete_visits : (k : ℕ) → (union_shifted l sources d a b allowance).ended ≡ Complete k → k + readable l sources d ≡ allowance
  complete_visits k q = (outcome-complete d a b (readable l sources d) l allowance (union_shifted l sources d a b allowance) union-outcome k q).0

  pub stopped_visits : (union_shifted l sources d a b allowance).ended ≡ Stopped → allowance < readable l sources d
  stopped_visits q = (outcome-stopped d a b (readable l sources d) l allowance (union_shifted l sources d a b allowance) union-outcome q).0

  -- PLACES: after a complete shift a place is set if it was, or if the place d below was and stood in the source words.
  module _ (w : Words l) (k : ℕ) (q : (union_shifted l sources d a b allowance).ended ≡ Complete k) (p : ℕ) where
    every-word : (union_shifted l sources d a b allowance).words ≡ moves d (readable l sources d) (readable l sources d) l
    every-word =
        let v = complete_visits k q in
        let z : allowance - k ≡ readable l sources d = omega arith in
        union_words ∙ ap (λ (e : Ended). moves d (visits allowance e) (readable l sources d) l) q
        ∙ ap (λ (x : ℕ). moves d x (readable l sources d) l) z

    pub complete_moved : d ≤ p → (p - d) / 64 < sources → p / 64 < length l
        → digit_at (union_shifted l sources d a b allowance).words p ≡ max (digit_at l p) (digit_at l (p - d))
    complete_moved g s i =
        let n : (p - d) / 64 < readable l sources d = omega arith in
        ap (λ (x : List ℕ). digit_at x p) every-word
        ∙ moves_set d p (readable l sources d) (readable l sources d) l w g (omega arith) n i

    pub complete_kept : (d ≤ p → (p - d) / 64 < sources → ⊥) → digit_at (union_shifted l sources d a b allowance).words p ≡ digit_at l p
    complete_kept f =
        ap (λ (x : List ℕ). digit_at x p) every-word
        ∙ moves_kept d p (readable l sources d) (readable l sources d) l w (λ g x y. f g (omega arith))

  -- HITS: a hit means that a moved bit lies in the window; it came from word s, the last that was read, and no word above has such a bit.
  pub hit_word : Words l → (k : ℕ) → (union_shifted l sources d a b allowance).ended ≡ Hit k
      → (s : ℕ) × (s < readable l sources d) × (k + (readable l sources d - s) ≡ allowance) × Hits l s d a b
      × ((t : ℕ) → s < t → t < readable l sources d → Hits l t d a b → ⊥)
  hit_word w k q =
      let o = outcome-hit d a b (readable l sources d) l allowance (union_shifted l sources d a b allowance) union-outcome k q in (
        o.0,
        o.1,
        o.2,
        hits_only l o.0 d a b (w o.0) (let i = o.1 in omega arith) o.3,
        λ t g h x. let y = o.4 t g h in let v = hits_set l t d a b x in unequal cc,
      )

  -- A stopped shift has met no such bit in the words that it read.
  pub stopped_none : (union_shifted l sources d a b allowance).ended ≡ Stopped
      → (t : ℕ) → readable l sources d ≤ t + allowance → t < readable l sources d → Hits l t d a b → ⊥
  stopped_none q t g h x =
      let o = outcome-stopped d a b (readable l sources d) l allowance (union_shifted l sources d a b allowance) union-outcome q in
      let y = o.1 t g h in
      let v = hits_set l t d a b x in
      unequal cc

  pub hit_moved : Words l → (k : ℕ) → (union_shifted l sources d a b allowance).ended ≡ Hit k → (p : ℕ) × Moved l sources d p × (a ≤ p) × (p ≤ b)
  hit_moved w k q =
      let o = hit_word w k q in
      let h = o.3 in
      let i = o.1 in
      let e = h.word in
      (h.place, record { up = h.up; source = omega arith; inside = h.inside; was = h.was }, h.from, h.to)

  -- And such a bit is a hit, unless the visits were used up before.
  pub moved_hit : (p : ℕ) → Moved l sources d p → a ≤ p → p ≤ b → ((union_shifted l sources d a b allowance).ended ≡ Stopped → ⊥)
      → (k : ℕ) × ((union_shifted l sources d a b allowance).ended ≡ Hit k)
  moved_hit p m f t n =
      let u = m.up in
      let s = m.source in
      let i = m.inside in
      outcome-some d a b (readable l sources d) l allowance (union_shifted l sources d a b allowance) union-outcome ((p - d) / 64) (omega arith)
      (hits_set l ((p - d) / 64) d a b (record { place = p; up = u; word = refl; inside = i; was = m.was; from = f; to = t })) n
