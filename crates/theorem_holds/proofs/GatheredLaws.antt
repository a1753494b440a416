-- WHAT THE RAW BUFFERS HOLD IS WITHIN THE LIMITS: `build` requires the invariant of the records up to the seal, so that what it leaves
-- serves with no more asked. Assumes nothing.
use Rattle.std.specs.Prelude.{ℕ, zero, suc, ◌+◌, ◌-◌, ◌<◌, ◌≤◌, List, [], ◌∷◌, map, length, get_or, drop, ℤ}
use Rattle.std.proofs.Common.{arith, sym, ◌∙◌, subst, get_or-drop, get_or-take}
use Rattle.base.specs.All.{All}
use Rattle.memory.specs.Ranges.{raw_limit}
use Rattle.memory.specs.Buffers.{Built, raw_lists}
use Rattle.base.specs.Parts.{end_by, start_by, stretch}
use Rattle.base.specs.Laid.{numbers}
use Rattle.numeric.specs.Threshold.{Term, Threshold}
use Rattle.numeric.specs.Slices.{terms}
use Rattle.rows.specs.Lists.{list_at}
use Rattle.rows.specs.ListsLaws.{stretch-length}
use Rattle.job.specs.Given.{threshold_at}
use Rattle.job.specs.JobBuffers.{built_of}
use Rattle.records.specs.declared.Standing.{Standing}
use Rattle.job.specs.Gathered.{job_in, Gathered}
use Rattle.job.specs.GatheredLaws.{gathered, many, length_at, all_terms_lem}
use Rattle.theorem_limits.specs.Good.{Fit, Fits, Light}
use Rattle.theorem_holds.proofs.ServedLaws.{Served}
use Rattle.theorem_holds.proofs.LentLaws.{served-built}
use Rattle.theorem_holds.specs.Lent.{lent_of, Lendable}

every_number : {X : Type 0} (P : X → Type 0) (f : ℕ → X) (s n : ℕ) → ((t : ℕ) → s ≤ t → t < s + n → P (f t)) → All P (map f (numbers s n))
unfolding numbers
every_number P f s zero h = tt
every_number P f s (suc n) h = (h s (omega arith) (omega arith), every_number P f (s + 1) n (λ t a b. h t (omega arith) (omega arith)))

every_place : (P : ℕ → Type 0) (l : List ℕ) → ((i : ℕ) → i < length l → P (get_or l i 0)) → All P l
every_place P [] h = tt
every_place P (x ∷ l) h = (h 0 (omega arith), every_place P l (λ i k. h (suc i) (omega arith)))

every_stretch : (P : ℕ → Type 0) (a e : ℕ) (l : List ℕ) → e ≤ length l → ((i : ℕ) → i < e → P (get_or l i 0)) → All P (stretch a e l)
every_stretch P a e l k h =
    every_place P (stretch a e l)
    (λ i q.
    let m : i < e - a = omega (arith, stretch-length a e l k) in
    subst P (sym (get_or-take (e - a) (drop a l) i 0 m ∙ get_or-drop a l i 0)) (h (a + i) (omega arith)))

every_condition : (P : ℕ → Type 0) (cs ws : List ℕ) → All P cs → All (λ (u : Term). P u.condition) (terms cs ws)
unfolding terms
every_condition P [] ws a = tt
every_condition P (c ∷ cs) [] a = tt
every_condition P (c ∷ cs) (w ∷ ws) a = (a.0, every_condition P cs ws a.1)

every_weight : (P : ℕ → Type 0) (cs ws : List ℕ) → All P ws → All (λ (u : Term). P u.weight) (terms cs ws)
unfolding terms
every_weight P [] ws a = tt
every_weight P (c ∷ cs) [] a = tt
every_weight P (c ∷ cs) (w ∷ ws) a = (a.0, every_weight P cs ws a.1)

module _ (k : Standing) (cs ws : List ℕ) (ts : List (List ℕ)) (bs : List ℤ) (g : Gathered k cs ws ts bs) where
  abbrev at : ℕ → Threshold
  at t = threshold_at (raw_lists cs ws ts) bs t

  -- What each threshold has, the job's have.
  each : (P : Threshold → Type 0) → ((t : ℕ) → t < k.thresholds → P (at t)) → All P (job_in k cs ws ts bs).thresholds
  each P h = subst (All P) (sym (gathered k cs ws ts bs g.listed)) (every_number P at 0 k.thresholds (λ t a b. h t (omega arith)))

  conditions : (t : ℕ) → t < k.thresholds → All (λ (u : Term). u.condition < k.nodes) (at t).terms
  unfolding list_at
  conditions t h =
      every_condition (λ (c : ℕ). c < k.nodes) (stretch (start_by 1 ts t) (end_by 1 ts t) cs) (stretch (start_by 1 ts t) (end_by 1 ts t) ws)
      (every_stretch (λ (c : ℕ). c < k.nodes) (start_by 1 ts t) (end_by 1 ts t) cs (omega (arith, g.listed.within t h, g.listed.terms, g.termed.conditions))
      (λ i q. g.termed.below i (omega (arith, g.listed.within t h))))

  weights : (t : ℕ) → t < k.thresholds → All (λ (u : Term). u.weight < raw_limit) (at t).terms
  unfolding list_at
  weights t h =
      every_weight (λ (w : ℕ). w < raw_limit) (stretch (start_by 1 ts t) (end_by 1 ts t) cs) (stretch (start_by 1 ts t) (end_by 1 ts t) ws)
      (every_stretch (λ (w : ℕ). w < raw_limit) (start_by 1 ts t) (end_by 1 ts t) ws (omega (arith, g.listed.within t h, g.listed.terms, g.termed.weights))
      (λ i q. g.termed.light i (omega (arith, g.listed.within t h))))

  pub gathered_fits : Fits (job_in k cs ws ts bs)
  gathered_fits = record {
    nodes = g.listed.nodes;
    few = omega (arith, many k cs ws ts bs g.listed, g.listed.many);
    terms = omega (arith, all_terms_lem k cs ws ts bs g.listed g.termed, g.listed.terms);
    each = each (Fit k.nodes) (λ t h. record {
      node = g.listed.inside t h;
      bound = g.bounded.bound t h;
      conditions = conditions t h;
      short = omega (arith, length_at k cs ws ts bs g.listed g.termed t h, g.listed.short t h);
    });
  }

  pub gathered_light : Light raw_limit (job_in k cs ws ts bs)
  gathered_light = each (λ (t : Threshold). All (λ (u : Term). u.weight < raw_limit) t.terms) weights

  -- WHAT `build` LEAVES SERVES
  pub served_gathered : (w : Built) → Lendable w → Served (job_in k cs ws ts bs) (lent_of (job_in k cs ws ts bs) (built_of (job_in k cs ws ts bs) w))
  served_gathered w p = served-built (job_in k cs ws ts bs) gathered_fits gathered_light w p
