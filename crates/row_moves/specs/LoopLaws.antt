-- What moves between rows, equation by equation: a walk is its first move and the rest, and what was done so far joined with what is
-- left is the whole. Only this file opens the definitions of the walks. Assumes nothing.
use Rattle.std.specs.Prelude.{ℕ, ◌+◌, ◌≡◌, Bool, List, [], ◌∷◌}
use Rattle.std.proofs.Math.Path.{refl, sym, ap}
use Rattle.std.proofs.Common.{◌∙◌}
use Rattle.std.proofs.Math.Bool.{true, false, cond}
use Rattle.state.specs.StepLaws.{contradiction_is}
use Rattle.state.specs.declared.Step.{Step}
use Rattle.state.specs.declared.Step.TheVariants.{Unchanged, Changed, Contradiction}
use Rattle.state.specs.declared.State.{State}
use Rattle.state.specs.Step.{joined, contradicts}
use Rattle.state.specs.State.{drained, with_known, with_possible}
use Rattle.rows.specs.Rows.{Row, Edge}
use Rattle.row_runs.proofs.ScanLaws.{joined_last}
use Rattle.row_moves.specs.Between.{Index, Live, Did, did, run_row, condition_from, prefixes_from, seed_from}
use Rattle.row_moves.specs.Handing.{after, after-told, handed_on, edge_run, moved, moved_run, hand_run}

-- ---- answers

pub joined_assoc : (a b c : Step) → joined (joined a b) c ≡ joined a (joined b c)
joined_assoc Unchanged b c = refl
joined_assoc Changed Unchanged c = refl
joined_assoc Changed Changed Unchanged = refl
joined_assoc Changed Changed Changed = refl
joined_assoc Changed Changed Contradiction = refl
joined_assoc Changed Contradiction c = refl
joined_assoc Contradiction b c = refl

joined_contradiction : (k : Step) → joined k Contradiction ≡ Contradiction
joined_contradiction Unchanged = refl
joined_contradiction Changed = refl
joined_contradiction Contradiction = refl

pub after_none : (v : Live) (k : Step) → did v k ≡ after k (did v Unchanged)
after_none v k = ap (did v) (sym (joined_last k))

-- A turn and the rest: a contradiction ends, any other answer is joined.
module _ (rest : Live → Did) where
  abbrev pub both : Did → Did
  both d = cond (contradicts d.step) d (after d.step (rest d.live))

  pub both_next : (k : Step) (d : Did) → contradicts d.step ≡ false → after (joined k d.step) (rest d.live) ≡ after k (both d)
  both_next k d h =
      ap (did (rest d.live).live) (joined_assoc k d.step (rest d.live).step)
      ∙ ap (λ (b : Bool). after k (cond b d (after d.step (rest d.live)))) (sym h)

  pub both_stop : (k : Step) (d : Did) → contradicts d.step ≡ true → d ≡ after k (both d)
  both_stop k d h =
      let e = contradiction_is d.step h in
      ap (did d.live) (e ∙ sym (joined_contradiction k) ∙ ap (joined k) (sym e))
      ∙ ap (λ (b : Bool). after k (cond b d (after d.step (rest d.live)))) (sym h)

-- A walk makes its moves one after the other, up to the first that contradicts.
pub record Walk {A : Type 0} (walk : List A → Live → Did) (move : A → Live → Did) : Type 0 where
  pub none : (v : Live) → walk [] v ≡ did v Unchanged
  pub some : (a : A) (as' : List A) (v : Live) → walk (a ∷ as') v ≡ both (walk as') (move a v)

module _ {A : Type 0} {walk : List A → Live → Did} {move : A → Live → Did} (w : Walk walk move) where
  pub walk_end : (v : Live) (k : Step) → did v k ≡ after k (walk [] v)
  walk_end v k = after_none v k ∙ ap (after k) (sym (w.none v))

  module _ (a : A) (as' : List A) (v : Live) (k : Step) (d : Did) (made : d ≡ move a v) where
    whole : after k (both (walk as') d) ≡ after k (walk (a ∷ as') v)
    whole = ap (λ (y : Did). after k (both (walk as') y)) made ∙ ap (after k) (sym (w.some a as' v))

    pub walk_next : contradicts d.step ≡ false → after (joined k d.step) (walk as' d.live) ≡ after k (walk (a ∷ as') v)
    walk_next h = both_next (walk as') k d h ∙ whole

    pub walk_stop : contradicts d.step ≡ true → d ≡ after k (walk (a ∷ as') v)
    walk_stop h = both_stop (walk as') k d h ∙ whole

-- ---- the rows of a drained condition

-- Draining leaves the bounds.
pub drained_lower : (value : Bool) (w : ℕ) (s : State) → (drained value w s).lower ≡ s.lower
unfolding drained with_known with_possible
drained_lower true w s = refl
drained_lower false w s = refl

pub drained_upper : (value : Bool) (w : ℕ) (s : State) → (drained value w s).upper ≡ s.upper
unfolding drained with_known with_possible
drained_upper true w s = refl
drained_upper false w s = refl

pub condition_walk : (x : Index) (value : Bool) → Walk (condition_from x value) (edge_run x value)
unfolding condition_from
condition_walk x value = record { none = λ v. refl; some = λ e es v. by e es v (contradicts (edge_run x value e v).step) refl }
  where
    by : (e : Edge) (es : List Edge) (v : Live) (b : Bool) → contradicts (edge_run x value e v).step ≡ b → condition_from x value (e ∷ es) v ≡ both (condition_from x value es) (edge_run x value e v)
    by e es v true h = rw (condition_from, h) (ap (did (edge_run x value e v).live) (sym (contradiction_is (edge_run x value e v).step h)))
    by e es v false h = rw (condition_from, h)

-- ---- the neighbours of a row

-- It takes nothing, or it takes something and is run.
pub hand_ends : (x : Index) (row : ℕ) (source : State) (r : ℕ) (v : Live) (G : Did → Type 0) → ((moved x row source r v).changed ≡ false → G (did v Unchanged))
    → ((moved x row source r v).changed ≡ true → G (after-told (moved_run x row source r v))) → G (hand_run x row source r v)
unfolding handed_on run_row
hand_ends x row source r v G none some = by (moved x row source r v).changed refl
  where
    by : (b : Bool) → (moved x row source r v).changed ≡ b → G (cond b (after-told (moved_run x row source r v)) (did v Unchanged))
    by true h = some h
    by false h = none h

pub prefix_walk : (x : Index) (row : ℕ) (source : State) → Walk (prefixes_from x row source) (hand_run x row source)
unfolding prefixes_from handed_on run_row
prefix_walk x row source = record { none = λ v. refl; some = λ r rs v. by r rs v (moved x row source r v).changed refl (contradicts (moved_run x row source r v).step) refl }
  where
    by : (r : ℕ) (rs : List ℕ) (v : Live) (b : Bool) → (moved x row source r v).changed ≡ b → (c : Bool) → contradicts (moved_run x row source r v).step ≡ c
        → prefixes_from x row source (r ∷ rs) v ≡ both (prefixes_from x row source rs) (hand_run x row source r v)
    by r rs v false h c g = rw (prefixes_from, h)
    by r rs v true h true g = rw (prefixes_from, h) (rw g)
    by r rs v true h false g = rw (prefixes_from, h) (rw g)

-- ---- all rows, once each

module _ (x : Index) (r : ℕ) (y : Row) (rs : List Row) (v : Live) (k : Step) (d : Did) (made : d ≡ run_row x v r) where
  seed : Did → Did
  seed o = cond (contradicts o.step) (did o.live Contradiction) (seed_from x (r + 1) rs o.live (joined k o.step))

  seed-both : seed_from x r (y ∷ rs) v k ≡ seed (run_row x v r)
  unfolding seed_from seed
  seed-both = by (contradicts (run_row x v r).step) refl
    where
      by : (b : Bool) → contradicts (run_row x v r).step ≡ b → seed_from x r (y ∷ rs) v k ≡ seed (run_row x v r)
      by true h = rw (seed_from, h)
      by false h = rw (seed_from, h)

  pub seed_next : contradicts d.step ≡ false → seed_from x (r + 1) rs d.live (joined k d.step) ≡ seed_from x r (y ∷ rs) v k
  unfolding seed
  seed_next h =
      ap (λ (b : Bool). cond b (did d.live Contradiction) (seed_from x (r + 1) rs d.live (joined k d.step))) (sym h) ∙ ap seed made ∙ sym seed-both

  pub seed_stop : contradicts d.step ≡ true → d ≡ seed_from x r (y ∷ rs) v k
  unfolding seed
  seed_stop h =
      ap (did d.live) (contradiction_is d.step h)
      ∙ ap (λ (b : Bool). cond b (did d.live Contradiction) (seed_from x (r + 1) rs d.live (joined k d.step))) (sym h) ∙ ap seed made ∙ sym seed-both

pub seed_end : (x : Index) (r : ℕ) (v : Live) (k : Step) → did v k ≡ seed_from x r [] v k
unfolding seed_from
seed_end x r v k = refl
