-- The loop of `sift`: what holds between two rounds. Rounds never run out, since each leaves less to do than there are rounds left.
-- Assumes nothing.
use Rattle.std.specs.Prelude.{ℕ, zero, suc, ◌+◌, ◌<◌, ◌≤◌, ◌≡◌, Bool, true, false, cond, List, length, ℤ}
use Rattle.std.proofs.Common.{not-suc-le-zero, arith, sym, subst, ◌∙◌}
use Rattle.std.proofs.Math.Path.{refl, ap}
use Rattle.base.specs.TestLaws.{clash}
use Rattle.memory.specs.Ranges.{figure_limit}
use Rattle.memory.specs.Buffers.{Built}
use Rattle.state.specs.declared.Step.{Step}
use Rattle.state.specs.declared.Step.TheVariants.{Unchanged, Changed, Contradiction}
use Rattle.state.specs.Step.{joined, contradicts}
use Rattle.queues.specs.Queue.{is_empty}
use Rattle.row_moves.specs.Between.{Index, Live, Did}
use Rattle.row_moves.specs.LoopLaws.{joined_assoc}
use Rattle.row_moves.specs.KeptLaws.{runnable_more}
use Rattle.drain.specs.Drain.{turns, settle}
use Rattle.drain.specs.Sift.{Sifted, sifted, try_row, sift_from, sift}
use Rattle.drain.specs.SiftLaws.{tries, sift_tries, sift_keeps}
use Rattle.theorem_ends.specs.TurnsLaws.{left, left-most}
use Rattle.theorem_ends.proofs.SettlesLaws.{settle_stays, fall_try}
use Rattle.theorem_keeps.specs.Serves.{Serves, Going}
use Rattle.theorem_keeps.specs.SettlingLaws.{going_settle}
use Rattle.theorem_keeps.specs.Tries.{Scratch, Short, Tries, Round, round, once}
use Rattle.theorem_keeps.specs.TryLaws.{going_try}

-- ---- answers

joined_later : (a b : Step) → contradicts a ≡ false → contradicts (joined a b) ≡ contradicts b
joined_later Unchanged b e = refl
joined_later Changed Unchanged e = refl
joined_later Changed Changed e = refl
joined_later Changed Contradiction e = refl
joined_later Contradiction b e = absurd (clash true refl e)

joined_last : (a b : Step) → contradicts a ≡ false → contradicts b ≡ true → joined a b ≡ b
joined_last Unchanged b e f = refl
joined_last Changed Unchanged e f = absurd (clash false f refl)
joined_last Changed Changed e f = absurd (clash false f refl)
joined_last Changed Contradiction e f = refl
joined_last Contradiction b e f = absurd (clash true refl e)

-- ---- a round

-- What follows a round.
abbrev pub goes_on : Step → Round → (Live → List ℕ → Step → ℕ → Sifted) → Sifted
goes_on k o next =
    let s = o.sifted in
    cond (contradicts s.step) s (cond o.more (next s.live s.gcds (joined k s.step) s.visits) (sifted s.live s.gcds (joined k s.step) s.visits))

module _ (d : Did) (t : Sifted) (gcds : List ℕ) (visits : ℕ) where
  abbrev picks : Bool → Bool → Round
  picks settled none = elim settled [
    | true ↦ round (sifted d.live gcds Contradiction visits) false
    | false ↦ elim none [
      | true ↦ round (sifted d.live gcds d.step visits) false
      | false ↦ round (sifted t.live t.gcds (joined d.step t.step) t.visits) true
    ]
  ]

  round-tries : (next : Live → List ℕ → Step → ℕ → Sifted) (k : Step) (a b c : Bool) → contradicts d.step ≡ a → contradicts t.step ≡ c
      → goes_on k (picks a b) next ≡ tries next d t gcds visits k a b c
  round-tries next k true b c e f = refl
  round-tries next k false true c e f =
      ap (λ (i : Bool). cond i (sifted d.live gcds d.step visits) (sifted d.live gcds (joined k d.step) visits)) e
  round-tries next k false false true e f =
      ap (λ (i : Bool). cond i (sifted t.live t.gcds (joined d.step t.step) t.visits) (next t.live t.gcds (joined k (joined d.step t.step)) t.visits))
      (joined_later d.step t.step e ∙ f)
      ∙ ap (λ (i : Step). sifted t.live t.gcds i t.visits) (joined_last d.step t.step e f)
  round-tries next k false false false e f =
      ap (λ (i : Bool). cond i (sifted t.live t.gcds (joined d.step t.step) t.visits) (next t.live t.gcds (joined k (joined d.step t.step)) t.visits))
      (joined_later d.step t.step e ∙ f)
      ∙ ap (λ (i : Step). next t.live t.gcds i t.visits) (sym (joined_assoc k d.step t.step))

pub sift-round : (x : Index) (n : ℕ) (v : Live) (gcds : List ℕ) (k : Step) (visits : ℕ) → goes_on k (once x v gcds visits) (sift_from n x) ≡ sift_from (suc n) x v gcds k visits
unfolding once
sift-round x n v gcds k visits =
    let d = settle x v in
    let t = try_row x d.live gcds visits in
    round-tries d t gcds visits (sift_from n x) k (contradicts d.step) (is_empty d.live.residuals.queue) (contradicts t.step) refl refl ∙ sym (sift_tries x n v gcds k visits)

-- The round as the code makes it: what was settled, and what was tried.
module _ (x : Index) (v : Live) (gcds : List ℕ) (visits : ℕ) (d : Did) (made : d ≡ settle x v) where
  once_is : (b c : Bool) → contradicts d.step ≡ b → is_empty d.live.residuals.queue ≡ c → picks d (try_row x d.live gcds visits) gcds visits b c ≡ once x v gcds visits
  unfolding once
  once_is b c e f =
      ap (λ (i : Bool). picks d (try_row x d.live gcds visits) gcds visits i c) (sym e)
      ∙ ap (picks d (try_row x d.live gcds visits) gcds visits (contradicts d.step)) (sym f)
      ∙ ap (λ (o : Did). picks o (try_row x o.live gcds visits) gcds visits (contradicts o.step) (is_empty o.live.residuals.queue)) made

  pub once_stop : contradicts d.step ≡ true → round (sifted d.live gcds d.step visits) false ≡ once x v gcds visits
  once_stop e = ap (λ (k : Step). round (sifted d.live gcds k visits) false) (is d.step e) ∙ once_is true (is_empty d.live.residuals.queue) e refl
    where
      is : (k : Step) → contradicts k ≡ true → k ≡ Contradiction
      is Unchanged f = absurd (clash false f refl)
      is Changed f = absurd (clash false f refl)
      is Contradiction f = refl

  pub once-none : contradicts d.step ≡ false → is_empty d.live.residuals.queue ≡ true → round (sifted d.live gcds d.step visits) false ≡ once x v gcds visits
  once-none e f = once_is false true e f

  pub once_try : contradicts d.step ≡ false → is_empty d.live.residuals.queue ≡ false → (t : Sifted) → t ≡ try_row x d.live gcds visits → (k : Step) → k ≡ joined d.step t.step
      → round (sifted t.live t.gcds k t.visits) true ≡ once x v gcds visits
  once_try e f t g k j =
      ap (λ (i : Step). round (sifted t.live t.gcds i t.visits) true) j
      ∙ ap (λ (o : Sifted). round (sifted o.live o.gcds (joined d.step o.step) o.visits) true) g ∙ once_is false false e f

-- ---- what can be drained stays such

module _ (x : Index) (bounds : List ℤ) (b : Built) (s : Serves x bounds b) where
  -- What was settled can be tried.
  pub settled_tries : (v : Live) → Going b.held b.nodes v → (d : Did) → d ≡ settle x v → 0 < d.live.residuals.queue.ring.count → (gcds words : List ℕ) → Short b.held.rows → Scratch gcds words
      → Tries b.held d.live gcds words
  settled_tries v g d made some gcds words short scratch =
      let w = (subst (λ (o : Did). Going b.held b.nodes o.live) (sym made) (going_settle x bounds b s v g)).within in
      record {
        shaped = s.shaped;
        short = short;
        ready = (runnable_more b.held w.range figure_limit d.live (omega (arith, w.room)) w.runnable).ready;
        among = w.tracked.residuals;
        some = some;
        scratch = scratch;
      }

  -- A round keeps it, and leaves less to do where there is another.
  pub going_once : (v : Live) (gcds : List ℕ) (visits : ℕ) → Going b.held b.nodes v
      → Going b.held b.nodes (once x v gcds visits).sifted.live × (left (once x v gcds visits).sifted.live + cond (once x v gcds visits).more 1 0 ≤ left v)
  unfolding once
  going_once v gcds visits g = by (contradicts d.step) (is_empty d.live.residuals.queue) refl
    where
      d : Did
      d = settle x v

      t : Sifted
      t = try_row x d.live gcds visits

      by : (a c : Bool) → is_empty d.live.residuals.queue ≡ c → Going b.held b.nodes (picks d t gcds visits a c).sifted.live × (left (picks d t gcds visits a c).sifted.live + cond (picks d t gcds visits a c).more 1 0 ≤ left v)
      by true c e = (going_settle x bounds b s v g, omega (arith, (settle_stays x s.indexed v g.sound).1))
      by false true e = (going_settle x bounds b s v g, omega (arith, (settle_stays x s.indexed v g.sound).1))
      by false false e = (
        going_try x bounds b s d.live (going_settle x bounds b s v g) gcds visits e,
        omega (arith, (settle_stays x s.indexed v g.sound).1, (fall_try x s.indexed d.live gcds visits (settle_stays x s.indexed v g.sound).0 e).1),
      )

-- Behind all rounds too, whatever they answer.
pub going_sift : (x : Index) (bounds : List ℤ) (b : Built) → Serves x bounds b → (v : Live) (gcds : List ℕ) → Going b.held b.nodes v → Going b.held b.nodes (sift x v gcds).live
going_sift x bounds b s v gcds g =
    sift_keeps x (λ (u : Live) (c : List ℕ) (m : ℕ). Going b.held b.nodes u) (λ u c m h. going_settle x bounds b s u h) (λ u c m e h. going_try x bounds b s u h c m e) v gcds g

-- ---- the loop

-- So many rounds from here are all rounds from the start, and more than can be taken; or all is done.
abbrev Rest : Index → Live → List ℕ → Step → ℕ → Bool → Live → List ℕ → Type 0
Rest x v₀ gcds₀ k visits true v gcds = (n : ℕ) × (left v < n) × (sift_from n x v gcds k visits ≡ sift x v₀ gcds₀)
Rest x v₀ gcds₀ k visits false v gcds = sifted v gcds k visits ≡ sift x v₀ gcds₀

pub record Sifting (bounds : List ℤ) (b : Built) (v₀ : Live) (gcds₀ : List ℕ) (k : Step) (visits : ℕ) (more : Bool) (v : Live) (gcds : List ℕ) : Type 0 where
  pub going : Going b.held b.nodes v
  pub whole : (x : Index) → Serves x bounds b → Rest x v₀ gcds₀ k visits more v gcds

pub sifting_first : (bounds : List ℤ) (b : Built) (v₀ : Live) (gcds₀ : List ℕ) → Going b.held b.nodes v₀ → Sifting bounds b v₀ gcds₀ Unchanged 0 true v₀ gcds₀
sifting_first bounds b v₀ gcds₀ g = record { going = g; whole = λ x s. (turns, left-most v₀ g.sound, refl) }

module _ (bounds : List ℤ) (b : Built) (v₀ : Live) (gcds₀ : List ℕ) (k : Step) (visits : ℕ) (more : Bool) (v : Live) (gcds : List ℕ) (l : Sifting bounds b v₀ gcds₀ k visits more v gcds) where
  pub sifting_end : more ≡ false → (x : Index) → Serves x bounds b → sifted v gcds k visits ≡ sift x v₀ gcds₀
  sifting_end e x s = subst (λ (i : Bool). Rest x v₀ gcds₀ k visits i v gcds) e (l.whole x s)

  -- A round was made.
  module _ (again : more ≡ true) (o : Round) (made : (x : Index) → Serves x bounds b → o ≡ once x v gcds visits) where
    there : (x : Index) → Serves x bounds b → Rest x v₀ gcds₀ k visits true v gcds
    there x s = subst (λ (i : Bool). Rest x v₀ gcds₀ k visits i v gcds) again (l.whole x s)

    turned : (x : Index) → Serves x bounds b → (n : ℕ) → sift_from (suc n) x v gcds k visits ≡ sift x v₀ gcds₀ → goes_on k o (sift_from n x) ≡ sift x v₀ gcds₀
    turned x s n q = ap (λ (i : Round). goes_on k i (sift_from n x)) (made x s) ∙ sift-round x n v gcds k visits ∙ q

    pub sifting_stop : contradicts o.sifted.step ≡ true → (x : Index) → Serves x bounds b → o.sifted ≡ sift x v₀ gcds₀
    sifting_stop c x s = let a = there x s in by a.0 a.1 a.2
      where
        by : (n : ℕ) → left v < n → sift_from n x v gcds k visits ≡ sift x v₀ gcds₀ → o.sifted ≡ sift x v₀ gcds₀
        by zero h q = absurd (not-suc-le-zero h)
        by (suc n) h q =
            let u = o.sifted in
            ap (λ (i : Bool). cond i u (cond o.more (sift_from n x u.live u.gcds (joined k u.step) u.visits) (sifted u.live u.gcds (joined k u.step) u.visits))) (sym c)
            ∙ turned x s n q

    less : (x : Index) → Serves x bounds b → left o.sifted.live + cond o.more 1 0 ≤ left v
    less x s = subst (λ (i : Round). left i.sifted.live + cond i.more 1 0 ≤ left v) (sym (made x s)) (going_once x bounds b s v gcds visits l.going).1

    pub sifting_less : (x : Index) → Serves x bounds b → left o.sifted.live + cond o.more 1 0 < left v + cond more 1 0
    sifting_less x s = let e : ◌≡◌ {A = ℕ} (cond more 1 0) 1 = ap (λ (i : Bool). cond i 1 0) again in omega (arith, less x s)

    rest_next : (x : Index) → Serves x bounds b → (n : ℕ) → left v < suc n → goes_on k o (sift_from n x) ≡ sift x v₀ gcds₀ → contradicts o.sifted.step ≡ false → (j : Step) → j ≡ joined k o.sifted.step
        → (m : Bool) → o.more ≡ m → Rest x v₀ gcds₀ j o.sifted.visits m o.sifted.live o.sifted.gcds
    rest_next x s n h q c j i true e =
        let u = o.sifted in (
          n,
          (let f : ◌≡◌ {A = ℕ} (cond o.more 1 0) 1 = ap (λ (z : Bool). cond z 1 0) e in omega (arith, less x s)),
          ap (λ (z : Step). sift_from n x u.live u.gcds z u.visits) i
              ∙ ap (λ (z : Bool). cond z (sift_from n x u.live u.gcds (joined k u.step) u.visits) (sifted u.live u.gcds (joined k u.step) u.visits)) (sym e)
              ∙ ap (λ (z : Bool). cond z u (cond o.more (sift_from n x u.live u.gcds (joined k u.step) u.visits) (sifted u.live u.gcds (joined k u.step) u.visits))) (sym c) ∙ q,
        )
    rest_next x s n h q c j i false e =
        let u = o.sifted in
        ap (λ (z : Step). sifted u.live u.gcds z u.visits) i
        ∙ ap (λ (z : Bool). cond z (sift_from n x u.live u.gcds (joined k u.step) u.visits) (sifted u.live u.gcds (joined k u.step) u.visits)) (sym e)
        ∙ ap (λ (z : Bool). cond z u (cond o.more (sift_from n x u.live u.gcds (joined k u.step) u.visits) (sifted u.live u.gcds (joined k u.step) u.visits))) (sym c) ∙ q

    pub sifting_next : (x : Index) → Serves x bounds b → contradicts o.sifted.step ≡ false → (j : Step) → j ≡ joined k o.sifted.step
        → Sifting bounds b v₀ gcds₀ j o.sifted.visits o.more o.sifted.live o.sifted.gcds
    sifting_next z t c j i = record {
      going = subst (λ (r : Round). Going b.held b.nodes r.sifted.live) (sym (made z t)) (going_once z bounds b t v gcds visits l.going).0;
      whole = λ x s. let a = there x s in by x s a.0 a.1 a.2;
    }
      where
        by : (x : Index) → Serves x bounds b → (n : ℕ) → left v < n → sift_from n x v gcds k visits ≡ sift x v₀ gcds₀ → Rest x v₀ gcds₀ j o.sifted.visits o.more o.sifted.live o.sifted.gcds
        by x s zero h q = absurd (not-suc-le-zero h)
        by x s (suc n) h q = rest_next x s n h (turned x s n q) c j i o.more refl

pub scratch_next : (g h u w : List ℕ) → length h ≡ length g → w ≡ u → Scratch g u → Scratch h w
scratch_next g h u w e f s = subst (Scratch h) (sym f) (record { room = omega (arith, s.room); long = s.long; zero = s.zero })
