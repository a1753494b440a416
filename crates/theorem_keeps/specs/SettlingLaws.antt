-- The loop of `settle`: what holds between two turns. Turns never run out, since each leaves less to do than there are turns left.
-- Assumes nothing.
use Rattle.std.specs.Prelude.{ℕ, zero, suc, ◌<◌, ◌≡◌, refl, Bool, true, false, not, ◌&&◌, List, eqb, ℤ}
use Rattle.std.proofs.Common.{not-suc-le-zero, arith, sym, ap, subst, ◌∙◌, eq-eqb, ne_eqb}
use Rattle.std.proofs.lemmas.Bool.{eqb-false}
use Rattle.memory.specs.Buffers.{Built}
use Rattle.state.specs.declared.Step.{Step}
use Rattle.state.specs.declared.Step.TheVariants.{Unchanged}
use Rattle.state.specs.Step.{joined, contradicts}
use Rattle.row_moves.specs.Between.{Index, Live, Did, did}
use Rattle.drain.specs.Drain.{turn, at_rest, drain, turns, settle}
use Rattle.drain.proofs.DrainLaws.{drain_goes, settle_keeps}
use Rattle.theorem_ends.specs.TurnsLaws.{left, left-most}
use Rattle.theorem_ends.proofs.SettlesLaws.{fall_turn}
use Rattle.theorem_keeps.specs.Serves.{Serves, Going}
use Rattle.theorem_keeps.specs.TurnLaws.{going_turn}

-- So many turns from here are all turns from the start, and more than can be taken.
abbrev Rest : Index → Live → Step → Live → Type 0
Rest x v₀ k v = (n : ℕ) × (left v < n) × (drain n x v k ≡ settle x v₀)

-- One is left at least.
one_left : (x : Index) (v₀ : Live) (k : Step) (v : Live) (n : ℕ) → left v < n → drain n x v k ≡ settle x v₀ → (m : ℕ) × (left v < suc m) × (drain (suc m) x v k ≡ settle x v₀)
one_left x v₀ k v zero h q = absurd (not-suc-le-zero h)
one_left x v₀ k v (suc n) h q = (n, h, q)

pub record Settling (bounds : List ℤ) (b : Built) (v₀ : Live) (k : Step) (v : Live) : Type 0 where
  pub going : Going b.held b.nodes v
  pub whole : (x : Index) → Serves x bounds b → Rest x v₀ k v

pub settling_first : (bounds : List ℤ) (b : Built) (v₀ : Live) → Going b.held b.nodes v₀ → Settling bounds b v₀ Unchanged v₀
settling_first bounds b v₀ g = record { going = g; whole = λ x s. (turns, left-most v₀ g.sound, refl) }

module _ (bounds : List ℤ) (b : Built) (v₀ : Live) (k : Step) (v : Live) (l : Settling bounds b v₀ k v) where
  there : (x : Index) → Serves x bounds b → (n : ℕ) × (left v < suc n) × (drain (suc n) x v k ≡ settle x v₀)
  there x s = let a = l.whole x s in one_left x v₀ k v a.0 a.1 a.2

  -- Nothing waits.
  pub settling_end : at_rest v ≡ true → (x : Index) → Serves x bounds b → did v k ≡ settle x v₀
  settling_end e x s = let a = there x s in sym (drain_goes x a.0 v k true (contradicts (turn x v).step) e refl) ∙ a.2

  -- A turn was taken.
  module _ (e : at_rest v ≡ false) (o : Did) (made : (x : Index) → Serves x bounds b → o ≡ turn x v) where
    same : (x : Index) → Serves x bounds b → (c : Bool) → contradicts o.step ≡ c → contradicts (turn x v).step ≡ c
    same x s c h = ap (λ (t : Did). contradicts t.step) (sym (made x s)) ∙ h

    pub settling_stop : contradicts o.step ≡ true → (x : Index) → Serves x bounds b → o ≡ settle x v₀
    settling_stop c x s = let a = there x s in made x s ∙ sym (drain_goes x a.0 v k false true e (same x s true c)) ∙ a.2

    pub settling_less : (x : Index) → Serves x bounds b → left o.live < left v
    settling_less x s = subst (λ (t : Did). left t.live < left v) (sym (made x s)) (fall_turn x s.indexed v l.going.sound e).1

    pub settling_next : (x : Index) → Serves x bounds b → contradicts o.step ≡ false → (j : Step) → j ≡ joined k o.step → Settling bounds b v₀ j o.live
    settling_next z t c j i = record {
      going = subst (λ (d : Did). Going b.held b.nodes d.live) (sym (made z t)) (going_turn z bounds b t v l.going e);
      whole = λ x s. let a = there x s in (
        a.0,
        omega (arith, settling_less x s, a.1),
        ap (λ (m : Step). drain a.0 x o.live m) i ∙ ap (λ (d : Did). drain a.0 x d.live (joined k d.step)) (made x s)
            ∙ sym (drain_goes x a.0 v k false false e (same x s false c)) ∙ a.2,
      );
    }

-- ---- what can be drained stays such

pub going_settle : (x : Index) (bounds : List ℤ) (b : Built) → Serves x bounds b → (v : Live) → Going b.held b.nodes v → Going b.held b.nodes (settle x v).live
going_settle x bounds b s v g = settle_keeps x (Going b.held b.nodes) (λ u e p. going_turn x bounds b s u p e) v g

-- Where something waits but no node does, a row does.
pub row-waits : (a c : ℕ) → (eqb a 0 && eqb c 0) ≡ false → a ≡ 0 → 0 < c
row-waits a c h e = omega (arith, eqb-false c 0 (sym (ap (λ (b : Bool). b && eqb c 0) (eq-eqb a 0 e)) ∙ h))

-- Something waits: a node, or, where none does, a row.
pub waits_node : (a c : ℕ) → (a ≡ 0 → ⊥) → true ≡ not (eqb a 0 && eqb c 0)
waits_node a c h = ap (λ (b : Bool). not (b && eqb c 0)) (sym (ne_eqb a 0 h))

pub waits-rows : (a c : ℕ) → a ≡ 0 → not (eqb c 0) ≡ not (eqb a 0 && eqb c 0)
waits-rows a c h = ap (λ (b : Bool). not (b && eqb c 0)) (sym (eq-eqb a 0 h))
