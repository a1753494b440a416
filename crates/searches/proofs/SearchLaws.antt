-- WHAT A SEARCH SHOWS: planned and not cut short, it contradicts exactly if no choice of undecided terms lands in its window.
-- One that is cut short never contradicts, and none uses more than 4 visits for each term.
use Prim.Native.Nat.{ℕ, zero, suc, ◌+◌, ◌-◌, ◌*◌, ◌/◌, ◌<◌, ◌≤◌, min}
use Rattle.std.proofs.Common.{lt_of_lt_of_le, arith, sym, ap, ◌∙◌, subst, inl, inr, ltb-true, leb-true}
use Rattle.std.specs.Prelude.{◌≡◌, Bool, true, false, ◌≢◌, ◌⊎◌, ◌↔◌, length, ltb, ℤ, pos, negsuc, ◌+ℤ◌, ◌-ℤ◌, Option, Some, None}
use Rattle.std.proofs.Math.Path.{refl}
use mathlib.Core.List.{List, [], ◌∷◌, reverse}
use Rattle.std.proofs.Math.IntN.{+ℤ_idl, +ℤ_comm, +ℤ-neg_ℤ_cancel}
use Rattle.std.specs.Int.Signed.{le_z, lt_z}
use Rattle.base.specs.All.{All}
use Rattle.base.specs.TestLaws.{unequal}
use Rattle.numeric.specs.Threshold.{Term}
use Rattle.base.specs.SignedLaws.{natural_minus, le_z-sub, lt_z_minus}
use Rattle.base.specs.Signed.{natural}
use Rattle.state.specs.declared.State.{State}
use Rattle.state.specs.declared.Step.TheVariants.{Unchanged, Contradiction}
use Rattle.state.specs.State.{limit}
use Rattle.state.specs.StateLaws.{known_lower, upper_cuts}
use Rattle.words.specs.declared.Ended.{Ended}
use Rattle.words.specs.declared.Ended.TheVariants.{Hit, Complete, Stopped}
use Rattle.words.specs.Shift.{union_shifted}
use Rattle.row.specs.Terms.{row_terms}
use Rattle.searches.specs.declared.Window.{Window}
use Rattle.searches.specs.declared.Search.{Search}
use Rattle.searches.specs.declared.Search.TheVariants.{Skipped, Fits, Nothing, Cut}
use Rattle.searches.specs.Search.{window, plan, search, search_from, search_step, search_visits, chosen, Lands}
use Rattle.row.specs.TermsLaws.{all_map}
use Rattle.searches.specs.RowLaws.{Fresh, Later, Rising, all_both, all_of, rising}
use Rattle.searches.specs.ChoiceLaws.{chosen_none, chosen_moves, chosen_heavy, chosen-reverse}
use Rattle.searches.specs.SearchStepsLaws.{from_heavy, from_skip, from_fits, from_stopped, from_more, plan_is, search-none, search-begins}
use Rattle.searches.specs.SumsLaws.{Sums, first, first_sums, sums_skip, sums_hit, sums_more}

-- ---- what an answer says of the choices, the terms in two parts

module _ (w : Window) (d : ℕ → Bool) where
  abbrev Landing : List Term → List Term → (ℕ → Bool) → Type 0
  Landing before rest choice =
      (w.lower ≤ chosen d choice before + chosen d choice rest) × (chosen d choice before + chosen d choice rest ≤ w.maximum)

  abbrev Answers : List Term → List Term → Search → Type 0
  Answers before rest Skipped = ⊥
  Answers before rest (Fits n) = (choice : ℕ → Bool) × Landing before rest choice
  Answers before rest (Nothing n) = (choice : ℕ → Bool) → Landing before rest choice → ⊥
  Answers before rest (Cut n) = Unit {0}

  module _ (t : Term) (before rest : List Term) where
    answers-move : (r : Search) → Answers (t ∷ before) rest r → Answers before (t ∷ rest) r
    answers-move Skipped a = a
    answers-move (Fits n) a = let c = a.0 in let m = chosen_moves d c t rest before in let x = a.1.0 in let y = a.1.1 in (c, (omega arith, omega arith))
    answers-move (Nothing n) a = λ c l. let m = chosen_moves d c t rest before in let x = l.0 in let y = l.1 in a c (omega arith, omega arith)
    answers-move (Cut n) a = tt

  -- No term that is left can be added: the sums are those of the terms before.
  left_over : (before rest : List Term) (sums : List ℕ) (maximum : ℕ) → Sums w d before rest sums maximum → (choice : ℕ → Bool)
      → (chosen d choice rest ≡ 0) ⊎ (w.maximum < chosen d choice rest) → Landing before rest choice → ⊥
  left_over before rest sums maximum s choice (inl z) (a, b) =
      s.outside (chosen d choice before) (s.complete choice (omega arith)) (omega arith) (omega arith)
  left_over before rest sums maximum s choice (inr z) (a, b) = omega arith

  -- The terms to come rise, and their conditions are none of those before.
  abbrev Apart : List Term → List Term → Type 0
  Apart before rest = All (λ (t : Term). Fresh t.condition before) rest

  exact : (rest before : List Term) (sums : List ℕ) (maximum left : ℕ) → Rising rest → Apart before rest → Sums w d before rest sums maximum
      → Answers before rest (search_from w d rest sums maximum left)
  unfolding search_from
  exact [] before sums maximum left r f s = λ choice. left_over before [] sums maximum s choice (inl (chosen_none d choice))
  exact (t ∷ rest) before sums maximum zero r f s = tt
  exact (t ∷ rest) before sums maximum (suc left) r f s =
      by (λ b m l x. exact rest (t ∷ before) b m l r.1 apart x) (ltb w.maximum t.weight) refl (d t.condition) refl
      (union_shifted sums (maximum / 64 + 1) t.weight w.lower w.maximum left).ended refl
    where
      fresh : Fresh t.condition rest
      fresh =
          all_map (Later t) (λ (u : Term). u.condition ≢ t.condition) rest (λ u x e. x.1 (sym e)) r.0

      apart : Apart (t ∷ before) rest
      apart =
          all_both (λ (u : Term). t.condition ≢ u.condition) (λ (u : Term). Fresh u.condition before) rest
          (all_map (Later t) (λ (u : Term). t.condition ≢ u.condition) rest (λ u x. x.1) r.0)
          f.1

      by : ((b : List ℕ) (m l : ℕ) → Sums w d (t ∷ before) rest b m → Answers (t ∷ before) rest (search_from w d rest b m l))
          → (x : Bool) → ltb w.maximum t.weight ≡ x → (y : Bool) → d t.condition ≡ y
          → (e : Ended) → (union_shifted sums (maximum / 64 + 1) t.weight w.lower w.maximum left).ended ≡ e
          → Answers before (t ∷ rest) (search_from w d (t ∷ rest) sums maximum (suc left))
      by ih true a y b e c =
          let h = ltb-true w.maximum t.weight a in
          subst (Answers before (t ∷ rest)) (sym (from_heavy w d t rest sums maximum left a))
          (λ choice. left_over before (t ∷ rest) sums maximum s choice
          (chosen_heavy d choice w.maximum (t ∷ rest) (
            h,
            all_map (Later t) (λ (u : Term). w.maximum < u.weight) rest (λ u x. lt_of_lt_of_le h x.0) r.0,
          )))
      by ih false a true b e c =
          subst (Answers before (t ∷ rest)) (sym (from_skip w d t rest sums maximum left a b))
          (answers-move t before rest (search_from w d rest sums maximum left) (ih sums maximum left (sums_skip w d t before rest sums maximum s b)))
      by ih false a false b (Hit k) c =
          subst (Answers before (t ∷ rest)) (sym (from_fits w d t rest sums maximum left a b k c))
          (let z = sums_hit w d t before rest sums maximum s b f.0 fresh left k c in (z.0, (z.1, z.2)))
      by ih false a false b (Complete k) c =
          subst (Answers before (t ∷ rest)) (sym (from_more w d t rest sums maximum left a b k c))
          (answers-move t before rest
          (search_from w d rest (union_shifted sums (maximum / 64 + 1) t.weight w.lower w.maximum left).words (min (maximum + t.weight) w.maximum) k)
          (ih (union_shifted sums (maximum / 64 + 1) t.weight w.lower w.maximum left).words (min (maximum + t.weight) w.maximum) k
          (sums_more w d t before rest sums maximum s b f.0 fresh left k c)))
      by ih false a false b Stopped c =
          subst (Answers before (t ∷ rest)) (sym (from_stopped w d t rest sums maximum left a b c)) tt

-- ---- a plan's window begins above sum 0

above : (z : ℤ) → lt_z (pos 0) z ≡ true → 0 < natural z
above (pos n) e = ltb-true 0 n e
above (negsuc n) e = absurd (unequal cc)

gap_above : (a b : ℤ) → lt_z a b ≡ true → 0 < natural (b -ℤ a)
gap_above a b h = above (b -ℤ a) (lt_z_minus (pos 0) b a ∙ ap (λ (z : ℤ). lt_z z b) (+ℤ_idl a) ∙ h)

begins : (ts : List Term) (s : State) (w : Window) → plan ts s ≡ Some w → (w.words ≡ w.maximum / 64 + 1) × (0 < w.lower)
begins ts s w e =
    let p = plan_is ts s w e in
    subst (λ (v : Window). (v.words ≡ v.maximum / 64 + 1) × (0 < v.lower)) p.same (refl, gap_above s.known s.lower (known_lower s p.cut))

-- ---- THE THEOREMS

module _ (raw : List Term) (s : State) (d : ℕ → Bool) where
  answered : (w : Window) → plan (row_terms raw) s ≡ Some w → Answers w d [] (reverse (row_terms raw)) (search (row_terms raw) s d)
  answered w e =
      let b = begins (row_terms raw) s w e in
      subst (Answers w d [] (reverse (row_terms raw))) (sym (search-begins (row_terms raw) s d w e))
      (exact w d (reverse (row_terms raw)) [] (first w.words) 0 (w.visits - (w.words + 2)) (rising raw) (all_of (λ t. tt) (reverse (row_terms raw)))
      (first_sums w d (reverse (row_terms raw)) b.0 b.1))

  whole : (choice : ℕ → Bool) → chosen d choice [] + chosen d choice (reverse (row_terms raw)) ≡ chosen d choice (row_terms raw)
  whole choice = omega (arith, chosen_none d choice, chosen-reverse d choice (row_terms raw))

-- PLANNED AND NOT CUT SHORT: A CONTRADICTION EXACTLY IF NO CHOICE LANDS IN THE WINDOW
pub search_exact : (raw : List Term) (s : State) (decided : ℕ → Bool) (w : Window) → plan (row_terms raw) s ≡ Some w
    → ((n : ℕ) → search (row_terms raw) s decided ≢ Cut n)
    → (search_step (search (row_terms raw) s decided) ≡ Contradiction) ↔ ((choice : ℕ → Bool) → Lands w decided (row_terms raw) choice → ⊥)
search_exact raw s d w e n = by (search (row_terms raw) s d) refl (answered raw s d w e)
  where
    by : (r : Search) → search (row_terms raw) s d ≡ r → Answers w d [] (reverse (row_terms raw)) r
        → (search_step r ≡ Contradiction) ↔ ((choice : ℕ → Bool) → Lands w d (row_terms raw) choice → ⊥)
    by Skipped q a = absurd a
    by (Fits k) q a =
        let c = a.0 in
        let l = a.1.0 in
        let m = a.1.1 in
        let x = whole raw s d c in
        (λ z. absurd (unequal cc), λ f. absurd (f c (omega arith, omega arith)))
    by (Nothing k) q a =
        (λ z choice l. let x = whole raw s d choice in let f = l.0 in let g = l.1 in a choice (omega arith, omega arith), λ f. refl)
    by (Cut k) q a = absurd (n k q)

-- CUT SHORT: NEVER A CONTRADICTION
pub cut_short : (raw : List Term) (s : State) (decided : ℕ → Bool) (n : ℕ) → search (row_terms raw) s decided ≡ Cut n
    → search_step (search (row_terms raw) s decided) ≡ Unchanged
cut_short raw s d n e = ap search_step e

-- A CONTRADICTION, IN THE ROW'S FIGURES: with what is known, no choice's sum reaches lower and stays below upper.
past : (z : ℤ) (n : ℕ) → le_z z (pos n) ≡ true → natural z ≤ n
past (pos m) n h = leb-true m n h
past (negsuc m) n h = omega arith

short : (z : ℤ) (n : ℕ) → lt_z (pos n) z ≡ true → n ≤ natural (z -ℤ pos 1)
short (pos m) n h = omega (arith, ltb-true n m h, natural_minus m 1)
short (negsuc m) n h = absurd (unequal cc)

lands : (ts : List Term) (s : State) (d choice : ℕ → Bool) → le_z s.lower (s.known +ℤ pos (chosen d choice ts)) ≡ true
    → lt_z (s.known +ℤ pos (chosen d choice ts)) (limit s.upper) ≡ true → Lands (window ts s) d ts choice
lands ts s d choice f g =
    let n = chosen d choice ts in
    let e : s.known +ℤ pos n -ℤ s.known ≡ pos n = ap (λ (z : ℤ). z -ℤ s.known) (+ℤ_comm s.known (pos n)) ∙ +ℤ-neg_ℤ_cancel (pos n) s.known in (
      past (s.lower -ℤ s.known) n (ap (le_z (s.lower -ℤ s.known)) (sym e) ∙ le_z-sub s.lower (s.known +ℤ pos n) s.known ∙ f),
      short (limit s.upper -ℤ s.known) n
          (lt_z_minus (pos n) (limit s.upper) s.known ∙ ap (λ (z : ℤ). lt_z z (limit s.upper)) (+ℤ_comm (pos n) s.known) ∙ g),
    )

pub search_refutes : (raw : List Term) (s : State) (d : ℕ → Bool) → search_step (search (row_terms raw) s d) ≡ Contradiction
    → (b : ℤ) × (s.upper ≡ Some b)
    × ((choice : ℕ → Bool) → le_z s.lower (s.known +ℤ pos (chosen d choice (row_terms raw))) ≡ true
    → lt_z (s.known +ℤ pos (chosen d choice (row_terms raw))) b ≡ true → ⊥)
search_refutes raw s d q = by (plan (row_terms raw) s) refl
  where
    not-cut : (n : ℕ) → search (row_terms raw) s d ≢ Cut n
    not-cut n e = let z = sym (ap search_step e) ∙ q in unequal cc

    by : (p : Option Window) → plan (row_terms raw) s ≡ p → (b : ℤ) × (s.upper ≡ Some b)
        × ((choice : ℕ → Bool) → le_z s.lower (s.known +ℤ pos (chosen d choice (row_terms raw))) ≡ true
        → lt_z (s.known +ℤ pos (chosen d choice (row_terms raw))) b ≡ true → ⊥)
    by None e =
        absurd (let z = sym (ap search_step (search-none (row_terms raw) s d e)) ∙ q in unequal cc)
    by (Some w) e =
        let p = plan_is (row_terms raw) s w e in
        let u = upper_cuts s p.cut in (
          u.0,
          u.1,
          λ choice f g.
              (search_exact raw s d w e not-cut).0 q choice
              (subst (λ (v : Window). Lands v d (row_terms raw) choice) p.same
              (lands (row_terms raw) s d choice f
              (ap (λ (x : Option ℤ). lt_z (s.known +ℤ pos (chosen d choice (row_terms raw))) (limit x)) u.1 ∙ g))),
        )

-- ---- visits

from_visits : (w : Window) (d : ℕ → Bool) (ts : List Term) (sums : List ℕ) (maximum left : ℕ) → search_visits 0 (search_from w d ts sums maximum left) ≤ w.visits
unfolding search_from
from_visits w d [] sums maximum left = omega arith
from_visits w d (t ∷ ts) sums maximum zero = omega arith
from_visits w d (t ∷ ts) sums maximum (suc left) =
    by (λ b m l. from_visits w d ts b m l) (ltb w.maximum t.weight) refl (d t.condition) refl
    (union_shifted sums (maximum / 64 + 1) t.weight w.lower w.maximum left).ended refl
  where
    by : ((b : List ℕ) (m l : ℕ) → search_visits 0 (search_from w d ts b m l) ≤ w.visits)
        → (x : Bool) → ltb w.maximum t.weight ≡ x → (y : Bool) → d t.condition ≡ y
        → (e : Ended) → (union_shifted sums (maximum / 64 + 1) t.weight w.lower w.maximum left).ended ≡ e
        → search_visits 0 (search_from w d (t ∷ ts) sums maximum (suc left)) ≤ w.visits
    by ih true a y b e c = rw (from_heavy w d t ts sums maximum left a) (omega arith)
    by ih false a true b e c = rw (from_skip w d t ts sums maximum left a b) (ih sums maximum left)
    by ih false a false b (Hit k) c = rw (from_fits w d t ts sums maximum left a b k c) (omega arith)
    by ih false a false b (Complete k) c =
        rw (from_more w d t ts sums maximum left a b k c)
        (ih (union_shifted sums (maximum / 64 + 1) t.weight w.lower w.maximum left).words (min (maximum + t.weight) w.maximum) k)
    by ih false a false b Stopped c = rw (from_stopped w d t ts sums maximum left a b c) (omega arith)

-- NO SEARCH USES MORE THAN 4 VISITS FOR EACH TERM
pub search_visits_lem : (ts : List Term) (s : State) (d : ℕ → Bool) → search_visits 0 (search ts s d) ≤ 4 * length ts
search_visits_lem ts s d = by (plan ts s) refl
  where
    by : (p : Option Window) → plan ts s ≡ p → search_visits 0 (search ts s d) ≤ 4 * length ts
    by None e = rw (search-none ts s d e) (omega arith)
    by (Some w) e =
        let v : w.visits ≡ 4 * length ts = ap (λ (x : Window). x.visits) (sym (plan_is ts s w e).same) in
        rw (search-begins ts s d w e) (omega (arith, from_visits w d (reverse ts) (first w.words) 0 (w.visits - (w.words + 2))))
