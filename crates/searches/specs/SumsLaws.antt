-- What the words of a search hold: the sums of the undecided terms looked at so far, and none in the window.
use Rattle.std.specs.Prelude.{ℕ, ◌+◌, ◌-◌, ◌/◌, ◌%◌, ◌^◌, ◌<◌, ◌≤◌, min, max, ◌≡◌, refl, Bool, true, false, ◌≢◌, ◌⊎◌, List, [], ◌∷◌, length, get_or, set, replicate}
use Rattle.std.proofs.Common.{lt_of_not-le, arith, sym, ap, ◌∙◌, inl, inr, pow_pos, length-set, get_or-set_same, get_or-set_other}
use Rattle.std.proofs.Math.Decide.{dec_le, dec_lt}
use native.Nat.{ℕᴺ_discrete as dec_eq}
use Rattle.std.proofs.lemmas.List.{length-replicate, get_or-replicate}
use Rattle.std.proofs.Math.ListN.{get_or-eq_default}
use Rattle.base.specs.TestLaws.{unequal}
use Rattle.numeric.specs.Threshold.{Term}
use Rattle.words.specs.declared.Ended.TheVariants.{Hit, Complete}
use Rattle.words.specs.Mask.{digit, digit_at}
use Rattle.words.specs.DigitsLaws.{Words, digit_small, digit_high, pow_digit}
use Rattle.words.specs.Shift.{union_shifted}
use Rattle.words.specs.ShiftLaws.{Moved, union_length, union_64, union_outside, complete_moved, complete_kept, hit_moved, moved_hit}
use Rattle.searches.specs.declared.Window.{Window}
use Rattle.searches.specs.Search.{chosen}
use Rattle.searches.specs.RowLaws.{Fresh}
use Rattle.searches.specs.ChoiceLaws.{
  changed,
  changed_here,
  chosen_none,
  chosen-decided,
  chosen_taken,
  chosen-left,
  chosen-changed,
  chosen-nothing,
}

-- The words after the terms `before`, with the terms `rest` to come.
pub record Sums (w : Window) (d : ℕ → Bool) (before rest : List Term) (sums : List ℕ) (maximum : ℕ) : Type 0 where
  pub long : length sums ≡ w.maximum / 64 + 1
  pub words : Words sums
  -- every set place is the sum of a choice of these terms, which takes none of the others
  pub sound : (p : ℕ) → digit_at sums p ≡ 1 → (choice : ℕ → Bool) × (chosen d choice before ≡ p) × (chosen d choice rest ≡ 0)
  -- every choice's sum up to the window's end is a set place, and no larger than the maximum
  pub complete : (choice : ℕ → Bool) → chosen d choice before ≤ w.maximum → digit_at sums (chosen d choice before) ≡ 1
  pub most : (choice : ℕ → Bool) → chosen d choice before ≤ w.maximum → chosen d choice before ≤ maximum
  -- no set place lies in the window
  pub outside : (p : ℕ) → digit_at sums p ≡ 1 → w.lower ≤ p → p ≤ w.maximum → ⊥

-- ---- at first: sum 0 alone

-- Words that are all zero, and those in which sum 0 is set.
abbrev zeros : ℕ → List ℕ
zeros n = replicate n 0

abbrev pub first : ℕ → List ℕ
first n = set (zeros n) 0 1

zeros-length : (n : ℕ) → length (zeros n) ≡ n
zeros-length n = length-replicate n 0

replicate-zero : (n i : ℕ) → get_or (zeros n) i 0 ≡ 0
replicate-zero n i = by (dec_lt i n)
  where
    by : Dec (i < n) → get_or (zeros n) i 0 ≡ 0
    by (yes h) = get_or-replicate n i 0 0 h
    by (no h) = get_or-eq_default (zeros n) 0 {n = i} (let g = lt_of_not-le h in let l = zeros-length n in omega arith)

module _ (n : ℕ) (h : 0 < n) where
  first_here : get_or (first n) 0 0 ≡ 1
  first_here = get_or-set_same (zeros n) 0 1 0 (omega (arith, zeros-length n))

  first_there : (i : ℕ) → i ≢ 0 → get_or (first n) i 0 ≡ 0
  first_there i z = get_or-set_other (zeros n) 0 i 1 0 z ∙ replicate-zero n i

  first-words : Words (first n)
  first-words i = by (dec_eq i 0)
    where
      by : Dec (i ≡ 0) → get_or (first n) i 0 < 2 ^ 64
      by (yes e) = rw (e, first_here) (omega arith)
      by (no e) = rw (first_there i e) (omega arith)

  pub first-zero : digit_at (first n) 0 ≡ 1
  first-zero = ap (λ (x : ℕ). digit x 0) first_here

  pub first_only : (p : ℕ) → digit_at (first n) p ≡ 1 → p ≡ 0
  first_only p e = by (dec_eq (p / 64) 0) (dec_eq (p % 64) 0)
    where
      none : digit_at (first n) p ≡ 0 → p ≡ 0
      none z = absurd (omega arith)

      by : Dec (p / 64 ≡ 0) → Dec (p % 64 ≡ 0) → p ≡ 0
      by (yes q) (yes r) = omega arith
      by (yes q) (no r) =
          none (ap (λ (x : ℕ). digit x (p % 64)) (rw q first_here) ∙ pow_digit 0 (p % 64) (λ z. r (sym z)))
      by (no q) r = none (ap (λ (x : ℕ). digit x (p % 64)) (first_there (p / 64) q) ∙ digit_high 0 (p % 64) (pow_pos (p % 64)))

pub first_sums : (w : Window) (d : ℕ → Bool) (rest : List Term) → w.words ≡ w.maximum / 64 + 1 → 0 < w.lower
    → Sums w d [] rest (first w.words) 0
first_sums w d rest e l =
    let h : 0 < w.words = omega arith in
    record {
      long = length-set (zeros w.words) 0 1 ∙ zeros-length w.words ∙ e;
      words = first-words w.words h;
      sound = λ p q. (λ n. false, chosen_none d (λ n. false) ∙ sym (first_only w.words h p q), chosen-nothing d rest);
      complete = λ choice q. rw (chosen_none d choice) (first-zero w.words h);
      most = λ choice q. rw (chosen_none d choice) (omega arith);
      outside = λ p q a b. let z = first_only w.words h p q in omega arith;
    }

-- ---- one term more

module _ (w : Window) (d : ℕ → Bool) (t : Term) (before rest : List Term) (sums : List ℕ) (maximum : ℕ) (s : Sums w d before (t ∷ rest) sums maximum) where
  -- A decided term adds nothing.
  pub sums_skip : d t.condition ≡ true → Sums w d (t ∷ before) rest sums maximum
  sums_skip h = record {
    long = s.long;
    words = s.words;
    sound = λ p q. let r = s.sound p q in
        (r.0, chosen-decided d r.0 t before h ∙ r.1, sym (chosen-decided d r.0 t rest h) ∙ r.2);
    complete = λ choice q. rw (chosen-decided d choice t before h) (s.complete choice (rw (chosen-decided d choice t before h) at q));
    most = λ choice q. rw (chosen-decided d choice t before h) (s.most choice (rw (chosen-decided d choice t before h) at q));
    outside = s.outside;
  }

  module _ (h : d t.condition ≡ false) (fb : Fresh t.condition before) (fr : Fresh t.condition rest) where
    -- A choice of the terms before, with this one taken or left.
    module _ (p : ℕ) (q : digit_at sums p ≡ 1) (b : Bool) where
      abbrev and_this : ℕ → Bool
      and_this = changed (s.sound p q).0 t.condition b

      with-here : and_this t.condition ≡ b
      with-here = changed_here (s.sound p q).0 t.condition b

      with-before : chosen d and_this before ≡ p
      with-before = chosen-changed d (s.sound p q).0 t.condition b before fb ∙ (s.sound p q).1

      rest-none : (choice : ℕ → Bool) → chosen d choice (t ∷ rest) ≡ 0 → (y : Bool) → choice t.condition ≡ y → chosen d choice rest ≡ 0
      rest-none choice z true e = omega (arith, chosen_taken d choice t rest h e)
      rest-none choice z false e = sym (chosen-left d choice t rest h e) ∙ z

      with_rest : chosen d and_this rest ≡ 0
      with_rest =
          chosen-changed d (s.sound p q).0 t.condition b rest fr
          ∙ rest-none (s.sound p q).0 (s.sound p q).2 ((s.sound p q).0 t.condition) refl

    -- A hit: some choice of these terms and this one lies in the window.
    pub sums_hit : (left k : ℕ) → (union_shifted sums (maximum / 64 + 1) t.weight w.lower w.maximum left).ended ≡ Hit k
        → (choice : ℕ → Bool) × (w.lower ≤ chosen d choice before + chosen d choice (t ∷ rest)) × (chosen d choice before + chosen d choice (t ∷ rest) ≤ w.maximum)
    sums_hit left k e =
        let m = hit_moved sums (maximum / 64 + 1) t.weight w.lower w.maximum left s.words k e in
        let p = m.0 in
        let q = m.1.was in
        let u = m.1.up in
        let c = and_this (p - t.weight) q true in
        let x = with-before (p - t.weight) q true in
        let y = chosen_taken d c t rest h (with-here (p - t.weight) q true) in
        let z = with_rest (p - t.weight) q true in
        let f = m.2 in
        let g = m.3 in
        (c, omega arith, omega arith)

    module _ (left k : ℕ) (e : (union_shifted sums (maximum / 64 + 1) t.weight w.lower w.maximum left).ended ≡ Complete k) where
      abbrev next : List ℕ
      next = (union_shifted sums (maximum / 64 + 1) t.weight w.lower w.maximum left).words

      both : (p : ℕ) → t.weight ≤ p → (p - t.weight) / 64 < maximum / 64 + 1 → p / 64 < length sums
          → digit_at next p ≡ max (digit_at sums p) (digit_at sums (p - t.weight))
      both p = complete_moved sums (maximum / 64 + 1) t.weight w.lower w.maximum left s.words k e p

      same : (p : ℕ) → (t.weight ≤ p → (p - t.weight) / 64 < maximum / 64 + 1 → ⊥) → digit_at next p ≡ digit_at sums p
      same p = complete_kept sums (maximum / 64 + 1) t.weight w.lower w.maximum left s.words k e p

      beyond : (p : ℕ) → length sums ≤ p / 64 → digit_at next p ≡ digit_at sums p
      beyond = union_outside sums (maximum / 64 + 1) t.weight w.lower w.maximum left

      bits : (p : ℕ) → digit_at sums p < 2
      bits p = digit_small (get_or sums (p / 64) 0) (p % 64)

      -- A place that is set was set, or has a bit that moved there.
      from : (p : ℕ) → digit_at next p ≡ 1 → (digit_at sums p ≡ 1) ⊎ Moved sums (maximum / 64 + 1) t.weight p
      from p q = by (dec_le t.weight p) (dec_lt ((p - t.weight) / 64) (maximum / 64 + 1)) (dec_lt (p / 64) (length sums))
        where
          one : t.weight ≤ p → (p - t.weight) / 64 < maximum / 64 + 1 → p / 64 < length sums → Dec (digit_at sums p ≡ 1)
              → (digit_at sums p ≡ 1) ⊎ Moved sums (maximum / 64 + 1) t.weight p
          one a b i (yes z) = inl z
          one a b i (no z) =
              let m = both p a b i in
              let x = bits p in
              let y = bits (p - t.weight) in
              inr (record { up = a; source = b; inside = i; was = omega arith })

          by : Dec (t.weight ≤ p) → Dec ((p - t.weight) / 64 < maximum / 64 + 1) → Dec (p / 64 < length sums)
              → (digit_at sums p ≡ 1) ⊎ Moved sums (maximum / 64 + 1) t.weight p
          by (yes a) (yes b) (yes i) = one a b i (dec_eq (digit_at sums p) 1)
          by (no a) b i = inl (sym (same p (λ x y. a x)) ∙ q)
          by (yes a) (no b) i = inl (sym (same p (λ x y. b y)) ∙ q)
          by (yes a) (yes b) (no i) = inl (sym (beyond p (let g = lt_of_not-le i in omega arith)) ∙ q)

      -- A place that was set is set.
      stays : (p : ℕ) → digit_at sums p ≡ 1 → digit_at next p ≡ 1
      stays p q = by (dec_le t.weight p) (dec_lt ((p - t.weight) / 64) (maximum / 64 + 1)) (dec_lt (p / 64) (length sums))
        where
          by : Dec (t.weight ≤ p) → Dec ((p - t.weight) / 64 < maximum / 64 + 1) → Dec (p / 64 < length sums) → digit_at next p ≡ 1
          by (yes a) (yes b) (yes i) = let m = both p a b i in let y = bits (p - t.weight) in omega arith
          by (no a) b i = same p (λ x y. a x) ∙ q
          by (yes a) (no b) i = same p (λ x y. b y) ∙ q
          by (yes a) (yes b) (no i) = beyond p (let g = lt_of_not-le i in omega arith) ∙ q

      -- And so is the place that its bit goes to, up to the window's end.
      moves-up : (p : ℕ) → digit_at sums p ≡ 1 → p ≤ maximum → t.weight + p ≤ w.maximum → digit_at next (t.weight + p) ≡ 1
      moves-up p q a b =
          let l = s.long in
          let z : t.weight + p - t.weight ≡ p = omega arith in
          let m = rw z at (both (t.weight + p) (omega arith) (omega arith) (omega arith)) in
          let x = bits (t.weight + p) in
          omega arith

      next-sound : (p : ℕ) → digit_at next p ≡ 1 → (choice : ℕ → Bool) × (chosen d choice (t ∷ before) ≡ p) × (chosen d choice rest ≡ 0)
      next-sound p q = by (from p q)
        where
          by : (digit_at sums p ≡ 1) ⊎ Moved sums (maximum / 64 + 1) t.weight p
              → (choice : ℕ → Bool) × (chosen d choice (t ∷ before) ≡ p) × (chosen d choice rest ≡ 0)
          by (inl z) =
              (and_this p z false, chosen-left d (and_this p z false) t before h (with-here p z false) ∙ with-before p z false, with_rest p z false)
          by (inr m) =
              let v = p - t.weight in
              let c = and_this v m.was true in
              let x = chosen_taken d c t before h (with-here v m.was true) in
              let y = with-before v m.was true in
              let u = m.up in
              (c, omega arith, with_rest v m.was true)

      next-complete : (choice : ℕ → Bool) → chosen d choice (t ∷ before) ≤ w.maximum → digit_at next (chosen d choice (t ∷ before)) ≡ 1
      next-complete choice q = by (choice t.condition) refl
        where
          by : (b : Bool) → choice t.condition ≡ b → digit_at next (chosen d choice (t ∷ before)) ≡ 1
          by true z =
              let x = chosen_taken d choice t before h z in
              let r : chosen d choice before ≤ w.maximum = omega arith in
              rw x (moves-up (chosen d choice before) (s.complete choice r) (s.most choice r) (omega arith))
          by false z =
              let x = chosen-left d choice t before h z in
              rw x (stays (chosen d choice before) (s.complete choice (omega arith)))

      next-most : (choice : ℕ → Bool) → chosen d choice (t ∷ before) ≤ w.maximum → chosen d choice (t ∷ before) ≤ min (maximum + t.weight) w.maximum
      next-most choice q = by (choice t.condition) refl
        where
          by : (b : Bool) → choice t.condition ≡ b → chosen d choice (t ∷ before) ≤ min (maximum + t.weight) w.maximum
          by true z =
              let x = chosen_taken d choice t before h z in
              let m = s.most choice (omega arith) in
              omega arith
          by false z =
              let x = chosen-left d choice t before h z in
              let m = s.most choice (omega arith) in
              omega arith

      next-outside : (p : ℕ) → digit_at next p ≡ 1 → w.lower ≤ p → p ≤ w.maximum → ⊥
      next-outside p q a b = by (from p q)
        where
          by : (digit_at sums p ≡ 1) ⊎ Moved sums (maximum / 64 + 1) t.weight p → ⊥
          by (inl z) = s.outside p z a b
          by (inr m) =
              let r = moved_hit sums (maximum / 64 + 1) t.weight w.lower w.maximum left p m a b
              (λ x. unequal cc) in
              let f = r.1 in
              unequal cc

      -- A complete shift: the words hold the sums with this term too.
      pub sums_more : Sums w d (t ∷ before) rest next (min (maximum + t.weight) w.maximum)
      sums_more = record {
        long = union_length sums (maximum / 64 + 1) t.weight w.lower w.maximum left ∙ s.long;
        words = union_64 sums (maximum / 64 + 1) t.weight w.lower w.maximum left s.words;
        sound = next-sound;
        complete = next-complete;
        most = next-most;
        outside = next-outside;
      }
