-- Guards and their keys: a later threshold's guard is below an earlier one's exactly if its key is, so that guards are inserted as
-- their keys are put in.
use Prim.Native.Nat.{ℕ, zero, suc, ◌+◌, ◌*◌, ◌%◌, ◌≤◌, ◌<◌}
use Rattle.std.proofs.Common.{add-zero, arith, sym, ap, ap₂, ◌∙◌, ltb-true, ltb-false, le-leb, le-ltb, eqb-true}
use Rattle.std.specs.Prelude.{◌≡◌, Bool, true, false, ◌&&◌, ◌||◌, List, [], ◌∷◌, map, length, get_or, eqb, leb, ltb, ℤ, pos}
use Rattle.std.proofs.Math.Path.{refl}
use Rattle.std.specs.Int.Signed.{le_z, lt_z}
use Rattle.std.proofs.lemmas.Bool.{lt-leb, eqb-false}
use Rattle.base.specs.All.{All}
use Rattle.memory.specs.Limits.{max_thresholds}
use Rattle.base.specs.Laid.{numbers}
use Rattle.base.specs.SignedLaws.{lt_z-add}
use Rattle.sort.specs.Sorted.{put}
use Rattle.base.specs.InsertionLaws.{all_map, insert-map}
use Rattle.rows.specs.Rows.{Guard, guard, below, insert_guard}
use Rattle.rows.specs.Guards.{Bound, Bounds, raised, guard_key, guard_keys, node_at}
use Rattle.rows.specs.GuardsLaws.{raised-pos}
use Rattle.prepare.specs.GuardOrderPickedLaws.{picked, picked_same, picked_other}

-- ---- keys as numbers

pub key_number : (x t : ℕ) → t < max_thresholds → (x * max_thresholds + t) % max_thresholds ≡ t
key_number x t h = omega arith

key_order : (x y s t : ℕ) → s < t → t < max_thresholds → ltb x y ≡ leb (x * max_thresholds + t) (y * max_thresholds + s)
key_order x y s t h k = by (ltb x y) refl
  where
    by : (b : Bool) → ltb x y ≡ b → b ≡ leb (x * max_thresholds + t) (y * max_thresholds + s)
    by true e = sym (le-leb (x * max_thresholds + t) (y * max_thresholds + s) (let q = ltb-true x y e in omega arith))
    by false e = sym (lt-leb (x * max_thresholds + t) (y * max_thresholds + s) (let q = ltb-false x y e in omega arith))

raised_order : (a b : ℤ) → Bound a → Bound b → lt_z a b ≡ ltb (raised a) (raised b)
raised_order a b h k = sym (lt_z-add a b (pos 4503599627370496)) ∙ sym (ap₂ lt_z (raised-pos a h) (raised-pos b k))

-- What rises from each number to the next rises.
rises : (f : ℕ → ℕ) (n : ℕ) → ((t : ℕ) → t + 1 < n → f t < f (t + 1)) → (s t : ℕ) → s < t → t < n → f s < f t
rises f n up s zero h k = absurd (omega arith)
rises f n up s (suc t) h k = by (λ q. rises f n up s t q (omega arith)) (eqb s t) refl
  where
    by : (s < t → f s < f t) → (b : Bool) → eqb s t ≡ b → f s < f (suc t)
    by ih true e =
        let q = eqb-true s t e in
        let a = ap f q in
        let c : f (t + 1) ≡ f (suc t) = ap f (omega arith) in
        let u = up t (omega arith) in
        omega arith
    by ih false e =
        let q = eqb-false s t e in
        let a = ih (omega arith) in
        let c : f (t + 1) ≡ f (suc t) = ap f (omega arith) in
        let u = up t (omega arith) in
        omega arith

-- ---- the guard and the key of each threshold

abbrev pub guard_at : List (List ℕ) → List ℤ → ℕ → Guard
guard_at ths bounds t = guard (get_or bounds t (pos 0)) (node_at ths t)

abbrev pub key_at : List ℤ → ℕ → ℕ
key_at bounds t = guard_key (get_or bounds t (pos 0)) t

-- The guard of the threshold that a key names.
abbrev pub key_guard : List (List ℕ) → List ℤ → ℕ → Guard
key_guard ths bounds x = guard_at ths bounds (x % max_thresholds)

-- A key of a threshold before t.
abbrev pub Before : List ℤ → ℕ → ℕ → Type 0
Before bounds t x = (s : ℕ) × (s < t) × (x ≡ key_at bounds s)

keys_from : (bounds : List ℤ) (a : ℕ) (bs : List ℤ) → ((i : ℕ) → i < length bs → get_or bs i (pos 0) ≡ get_or bounds (a + i) (pos 0))
    → guard_keys a bs ≡ map (key_at bounds) (numbers a (length bs))
unfolding guard_keys numbers
keys_from bounds a [] h = refl
keys_from bounds a (b ∷ bs) h =
    ap₂ (λ (x : ℕ) (l : List ℕ). x ∷ l)
    (ap (λ (z : ℤ). guard_key z a) (h 0 (omega arith) ∙ ap (λ (i : ℕ). get_or bounds i (pos 0)) (add-zero a)))
    (keys_from bounds (a + 1) bs (λ i q. h (suc i) (omega arith) ∙ ap (λ (j : ℕ). get_or bounds j (pos 0)) (omega arith)))

-- The keys, threshold by threshold.
pub keys_are : (bounds : List ℤ) → guard_keys 0 bounds ≡ map (key_at bounds) (numbers 0 (length bounds))
keys_are bounds = keys_from bounds 0 bounds (λ i h. ap (λ (j : ℕ). get_or bounds j (pos 0)) (omega arith))

-- The keys whose thresholds are of row k are the keys of the thresholds of row k.
module _ (row : ℕ → ℕ) (bounds : List ℤ) (k : ℕ) where
  abbrev row_named : ℕ → ℕ
  row_named x = row (x % max_thresholds)

  pub picked_keys : (m a : ℕ) → a + m ≤ max_thresholds → picked row_named k (map (key_at bounds) (numbers a m)) ≡ map (key_at bounds) (picked row k (numbers a m))
  unfolding numbers picked
  picked_keys zero a h = refl
  picked_keys (suc m) a h = by (picked_keys m (a + 1) (omega arith)) (eqb (row a) k) refl
    where
      key : ℕ → ℕ
      key = key_at bounds

      rest : List ℕ
      rest = numbers (a + 1) m

      same : row (key_at bounds a % max_thresholds) ≡ row a
      same = ap row (key_number (raised (get_or bounds a (pos 0))) a (omega arith))

      by : picked row_named k (map key rest) ≡ map key (picked row k rest) → (b : Bool) → eqb (row a) k ≡ b
          → picked row_named k (map key (a ∷ rest)) ≡ map key (picked row k (a ∷ rest))
      by ih true e =
          let q = eqb-true (row a) k e in
          picked_same row_named k (key a) (map key rest) (same ∙ q) ∙ ap (λ (l : List ℕ). key a ∷ l) ih ∙ sym (ap (map key) (picked_same row k a rest q))
      by ih false e =
          let q = eqb-false (row a) k e in
          picked_other row_named k (key a) (map key rest) (λ z. q (sym same ∙ z)) ∙ ih ∙ sym (ap (map key) (picked_other row k a rest q))

module _ (ths : List (List ℕ)) (bounds : List ℤ) (many : length bounds ≤ max_thresholds) (good : Bounds bounds)
    (up : (t : ℕ) → t + 1 < length bounds → node_at ths t < node_at ths (t + 1)) where
  abbrev key : ℕ → ℕ
  key = key_at bounds

  abbrev own : ℕ → Guard
  own = guard_at ths bounds

  abbrev named : ℕ → Guard
  named = key_guard ths bounds

  -- A LATER THRESHOLD'S GUARD IS BELOW AN EARLIER ONE'S EXACTLY IF ITS KEY IS.
  pub below_key : (s t : ℕ) → s < t → t < length bounds → below (own t) (own s) ≡ leb (key t) (key s)
  below_key s t h k =
      ap (λ (b : Bool). lt_z x y || (le_z x y && b)) (le-ltb (node_at ths t) (node_at ths s) (let q = rises (node_at ths) (length bounds) up s t h k in omega arith))
      ∙ only (lt_z x y) (le_z x y) ∙ raised_order x y (good t k) (good s (omega arith)) ∙ key_order (raised x) (raised y) s t h (omega arith)
    where
      x : ℤ
      x = get_or bounds t (pos 0)

      y : ℤ
      y = get_or bounds s (pos 0)

      only : (p q : Bool) → (p || (q && false)) ≡ p
      only true q = refl
      only false true = refl
      only false false = refl

  named-own : (t : ℕ) → t < length bounds → named (key t) ≡ own t
  named-own t h = ap own (key_number (raised (get_or bounds t (pos 0))) t (omega arith))

  -- A GUARD IS INSERTED AS ITS KEY IS PUT IN.
  pub insert_key : (t : ℕ) → t < length bounds → (l : List ℕ) → All (Before bounds t) l → insert_guard (own t) (map named l) ≡ map named (put (key t) l)
  insert_key t h l a =
      ap (λ (g : Guard). insert_guard g (map named l)) (sym (named-own t h))
      ∙ sym (insert-map named leb below (key t) l (all_map (Before bounds t) (λ (x : ℕ). below (named (key t)) (named x) ≡ leb (key t) x) l test a))
    where
      test : (x : ℕ) → Before bounds t x → below (named (key t)) (named x) ≡ leb (key t) x
      test x b =
          let s = b.0 in
          let q = b.1 in
          let e = b.2 in
          ap₂ (λ (g : Guard) (z : ℕ). below g (named z)) (named-own t h) e ∙ ap (below (own t)) (named-own s (omega arith)) ∙ below_key s t q h ∙ ap (leb (key t)) (sym e)
