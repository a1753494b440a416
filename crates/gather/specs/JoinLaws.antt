-- An area that passes its checks: the first of its condition is a term more, any other gives an entry another weight; and the places and
-- sums of areas go on saying where they are, whatever record is taken.
use Rattle.std.specs.Prelude.{ℕ, zero, suc, ◌+◌, ◌-◌, ◌*◌, ◌<◌, ◌≤◌, ◌≡◌, refl, List, [], ◌∷◌, ◌++◌, map, length, get_or, take, drop, set, ℤ}
use Rattle.std.proofs.Common.{le_refl, not-suc-le-zero, arith, ap₂, ◌∙◌, subst, length-set, get_or-set_same, get_or-set_other, leb-false}
use native.Nat.{ℕᴺ_discrete as dec_eq}
use Rattle.std.proofs.Math.Decide.{dec_lt}
use Rattle.std.proofs.Math.Path.{sym, ap}
use Rattle.std.proofs.lemmas.List.{drop-set-add}
use Rattle.base.specs.Parts.{end_by, start_by, stretch}
use Rattle.base.specs.PartsLaws.{start-after}
use Rattle.base.specs.Laid.{numbers}
use Rattle.numeric.specs.Threshold.{Term, term, Threshold}
use Rattle.numeric.specs.Area.{weight_of_area}
use Rattle.numeric.specs.Slices.{terms}
use Rattle.memory.specs.Limits.{list_terms, max_nodes, max_terms}
use Rattle.memory.specs.Ranges.{raw_limit}
use Rattle.memory.specs.Buffers.{raw_lists}
use Rattle.rows.specs.Lists.{list_at}
use Rattle.rows.specs.ListsLaws.{stretch-length}
use Rattle.job.specs.Given.{threshold_at, given}
use Rattle.records.specs.declared.Record.TheVariants.{Opens, Adds, Areas}
use Rattle.records.specs.declared.Standing.{Standing}
use Rattle.checks.specs.Checks.{refused_by}
use Rattle.job.specs.Job.{on_last}
use Rattle.job.specs.Taken.{added_to, weighing, with_weight}
use Rattle.job.specs.Gathered.{cut, job_in, Listed, Bounded, Termed, Gathered, Opened, Added, open_start, Joinable, Reweighed, FirstArea, MoreArea}
use Rattle.job.specs.JobLaws.{map_same, on_more, stretch-set}
use Rattle.job.specs.GatheredLaws.{threshold_by, list_by, gathered_last}
use Rattle.gather.specs.TakenLaws.{fine, term_open, counts-left, starts, last_start}

-- ---- one element of a list

set-most : (l : List ℕ) (i x j b : ℕ) → x ≤ b → get_or l j 0 ≤ b → get_or (set l i x) j 0 ≤ b
set-most [] i x j b h k = k
set-most (y ∷ l) zero x zero b h k = h
set-most (y ∷ l) zero x (suc j) b h k = k
set-most (y ∷ l) (suc i) x zero b h k = k
set-most (y ∷ l) (suc i) x (suc j) b h k = set-most l i x j b h k

take-set : {X : Type 0} (n i : ℕ) (x : X) (l : List X) → take n (set l i x) ≡ set (take n l) i x
take-set zero i x l = refl
take-set (suc n) i x [] = refl
take-set (suc n) zero x (y ∷ l) = refl
take-set (suc n) (suc i) x (y ∷ l) = ap (λ (r : List _). y ∷ r) (take-set n i x l)

stretch_inside : {X : Type 0} (a e i : ℕ) (x : X) (l : List X) → stretch a e (set l (a + i) x) ≡ set (stretch a e l) i x
stretch_inside a e i x l = ap (take (e - a)) (drop-set-add a l i x) ∙ take-set (e - a) i x (drop a l)

terms-set : (cs ws : List ℕ) (i w : ℕ) → length ws ≡ length cs → terms cs (set ws i w) ≡ weighing i w (terms cs ws)
unfolding terms
terms-set [] [] i w e = refl
terms-set [] (v ∷ ws) i w e = absurd (let z : ◌≡◌ {A = ℕ} (suc (length ws)) 0 = e in omega arith)
terms-set (c ∷ cs) [] i w e = absurd (let z : ◌≡◌ {A = ℕ} 0 (suc (length cs)) = e in omega arith)
terms-set (c ∷ cs) (v ∷ ws) zero w e = refl
terms-set (c ∷ cs) (v ∷ ws) (suc i) w e = ap (λ (l : List Term). term c v ∷ l) (terms-set cs ws i w (let z : ◌≡◌ {A = ℕ} (suc (length ws)) (suc (length cs)) = e in omega arith))

-- ---- another weight in the open threshold

module _ (k : Standing) (at w : ℕ) (cs ws : List ℕ) (ts : List (List ℕ)) (g : Listed k ts) (h : Termed k cs ws) (some : k.thresholds ≡ k.thresholds - 1 + 1)
    (behind : open_start k ts ≤ at) (before : at < k.raw_terms) where
  abbrev last : ℕ
  last = k.thresholds - 1

  abbrev start : ℕ
  start = open_start k ts

  abbrev offset : ℕ
  offset = at - start

  abbrev with_it : Standing
  with_it = added_to k k.raw_terms

  listed-so : Listed with_it ts
  listed-so = record {
    nodes = g.nodes;
    terms = g.terms;
    fewer = omega (arith, g.fewer);
    many = g.many;
    room = g.room;
    wide = g.wide;
    rising = g.rising;
    short = g.short;
    within = g.within;
    ended = g.ended;
    inside = g.inside;
    ordered = g.ordered;
    last = g.last;
    filled = λ t e. omega (arith, g.filled t e);
  }

  termed-so : w < raw_limit → Termed with_it cs (set ws at w)
  termed-so small = record {
    conditions = h.conditions;
    weights = subst (λ (x : ℕ). max_terms ≤ x) (sym (length-set ws at w)) h.weights;
    below = h.below;
    light = λ i q. let a = set-most ws at w i (raw_limit - 1) (omega (arith, small)) (let l = h.light i q in omega (arith, l)) in omega (arith, a);
  }

  -- Lists before the open one end before it starts.
  ended-before : (m : ℕ) → m ≤ last → (t : ℕ) → t < m → end_by 1 ts t ≤ start_by 1 ts m
  ended-before zero q t l = absurd (not-suc-le-zero l)
  ended-before (suc m) q t l = by (ended-before m (omega arith) t) (dec_lt t m)
    where
      next : start_by 1 ts (suc m) ≡ start_by 1 ts (m + 1)
      next = ap (start_by 1 ts) {x = suc m} {y = m + 1} (omega arith)

      by : (t < m → end_by 1 ts t ≤ start_by 1 ts m) → Dec (t < m) → end_by 1 ts t ≤ start_by 1 ts (suc m)
      by ih (yes d) = let a = ih d in let r = g.rising m (let s = some in omega (arith, s, q)) in let e = next ∙ start-after 1 ts m in omega (arith, a, r, e)
      by ih (no d) = let e = next ∙ start-after 1 ts m in let z : t ≡ m = omega arith in let x = ap (end_by 1 ts) z in omega (arith, e, x)

  module _ (bs : List ℤ) where
    one-reweighed : list_at (raw_lists cs (set ws at w) ts) last ≡ weighing offset w (list_at (raw_lists cs ws ts) last)
    unfolding list_at
    one-reweighed =
        let p = h.conditions in
        let q = h.weights in
        let e = end_by 1 ts last in
        let in_one = g.within last (omega (arith, some)) in
        let most = g.terms in
        ap (λ (x : ℕ). terms (stretch start e cs) (stretch start e (set ws x w))) {x = at} {y = start + offset} (omega (arith, behind))
        ∙ ap (terms (stretch start e cs)) (stretch_inside start e offset w ws)
        ∙ terms-set (stretch start e cs) (stretch start e ws) offset w
        (stretch-length start e ws (omega (arith, q, in_one, most)) ∙ sym (stretch-length start e cs (omega (arith, p, in_one, most))))

    others-at : (t : ℕ) → t < last → threshold_at (raw_lists cs (set ws at w) ts) bs t ≡ threshold_at (raw_lists cs ws ts) bs t
    others-at t q =
        threshold_by refl refl
        (list_by (raw_lists cs (set ws at w) ts) (raw_lists cs ws ts) t refl refl refl
        (stretch-set (start_by 1 ts t) (end_by 1 ts t) at w ws (g.rising t (omega (arith, some))) (let b = ended-before last (le_refl last) t q in omega (arith, b, behind))))

    job-reweighed : job_in with_it cs (set ws at w) ts bs ≡ with_weight (job_in k cs ws ts bs) offset w
    job-reweighed = λ i. record { nodes = k.nodes; thresholds = all i }
      where
        open-one : k.thresholds ≡ suc last
        open-one = omega (arith, some)

        all : given (cut with_it cs (set ws at w) ts) (take k.thresholds bs) ≡ on_last (weighing offset w) (given (cut k cs ws ts) (take k.thresholds bs))
        all =
            gathered_last with_it cs (set ws at w) ts bs listed-so last open-one
            ∙ ap₂ (λ (l : List Threshold) (x : Threshold). l ++ (x ∷ []))
            (map_same (threshold_at (raw_lists cs (set ws at w) ts) bs) (threshold_at (raw_lists cs ws ts) bs) last others-at)
            (threshold_by refl refl one-reweighed)
            ∙ sym (ap (on_last (weighing offset w)) (gathered_last k cs ws ts bs g last open-one)
            ∙ on_more (threshold_at (raw_lists cs ws ts) bs last) (weighing offset w) (map (threshold_at (raw_lists cs ws ts) bs) (numbers 0 last)))

  pub reweighed : w < raw_limit → Reweighed k at w cs ws ts with_it (set ws at w)
  reweighed small = record { standing = refl; job = job-reweighed; weights = refl; listed = listed-so; termed = termed-so small }

pub reweighed_gathered : (k : Standing) (at w : ℕ) (cs ws : List ℕ) (ts : List (List ℕ)) (bs : List ℤ) (r : Standing) (ws' : List ℕ)
    → Gathered k cs ws ts bs → Reweighed k at w cs ws ts r ws' → Gathered r cs ws' ts bs
reweighed_gathered k at w cs ws ts bs r ws' g o = record {
  listed = o.listed;
  bounded = record { room = g.bounded.room; bound = λ t q. g.bounded.bound t (subst (λ (x : ℕ). t < x) (ap (λ (x : Standing). x.thresholds) o.standing) q) };
  termed = o.termed;
}

-- ---- what the other records do to places and sums

pub opened_joinable : (k : Standing) (n : ℕ) (b : ℤ) (ts : List (List ℕ)) (bs : List ℤ) → Listed k ts → Bounded k bs → refused_by k (Opens n b) ≡ 0
    → (r : Standing) (ts' : List (List ℕ)) (bs' : List ℤ) → Opened k n b ts bs r ts' bs' → (open_start r ts' ≡ k.raw_terms) × ((ps ss : List ℕ) → Joinable k ts ps ss → Joinable r ts' ps ss)
opened_joinable k n b ts bs g h none r ts' bs' o = (
  at-end,
  λ ps ss j. record {
    places = j.places;
    sums = j.sums;
    behind = λ c. let q = ap (λ (x : Standing). x.raw_terms) o.standing in let l = j.behind c in omega (arith, q, l);
    small = λ c q. absurd (let e = at-end in let l = j.behind c in omega (arith, e, q, l));
  },
)
  where
    at-end : open_start r ts' ≡ k.raw_terms
    at-end =
        ap₂ (λ (x : Standing) (l : List (List ℕ)). open_start x l) o.standing o.thresholds
        ∙ ap (start_by 1 (set ts k.thresholds (n ∷ k.raw_terms ∷ []))) {x = k.thresholds + 1 - 1} {y = k.thresholds} (omega arith)
        ∙ starts k n b ts bs g h none

pub added_joinable : (k : Standing) (c w : ℕ) (cs ws : List ℕ) (ts : List (List ℕ)) → Listed k ts → Termed k cs ws → refused_by k (Adds c w) ≡ 0
    → (v : ℕ) (r : Standing) (cs' ws' : List ℕ) (ts' : List (List ℕ)) → Added k c v cs ws ts r cs' ws' ts'
    → (open_start r ts' ≡ open_start k ts) × ((ps ss : List ℕ) → Joinable k ts ps ss → Joinable r ts' ps ss)
added_joinable k c w cs ws ts g h none v r cs' ws' ts' o = (
  same,
  λ ps ss j. record {
    places = j.places;
    sums = j.sums;
    behind = λ d. let q = ap (λ (x : Standing). x.raw_terms) o.standing in let l = j.behind d in omega (arith, q, l);
    small = λ d q.
        let e = same in
        let m = ap (λ (x : Standing). x.last_terms) o.standing in
        let l = j.small d (omega (arith, e, q)) in
        let z = ap (λ (x : ℕ). get_or ss (get_or ps d 0 - 1 - x) 0) e in omega (arith, m, l, z);
  },
)
  where
    same : open_start r ts' ≡ open_start k ts
    same =
        ap₂ (λ (x : Standing) (l : List (List ℕ)). open_start x l) o.standing o.thresholds ∙ last_start k c w cs ws ts g h none

-- ---- AN AREA

-- What its checks say.
module _ (k : Standing) (c a : ℕ) (cs ws : List ℕ) (ts : List (List ℕ)) (ps ss : List ℕ) (g : Listed k ts) (h : Termed k cs ws) (j : Joinable k ts ps ss)
    (none : refused_by k (Areas c a) ≡ 0) where
  pub area_open : k.thresholds ≡ k.thresholds - 1 + 1
  area_open = term_open k c a cs ws ts g h none

  pub area_counts : (k.last_terms < list_terms) × (k.terms < max_terms)
  area_counts = counts-left k c a cs ws ts g h none

  pub area_named : c < length ps
  area_named =
      let n = leb-false k.nodes c (fine k c a cs ws ts g h none).nodes in omega (arith, n, g.nodes, j.places)

  -- The open list is no longer than its records.
  pub open_filled : k.raw_terms ≤ open_start k ts + k.last_terms
  open_filled = g.filled (k.thresholds - 1) (sym area_open)

  pub start_inside : open_start k ts ≤ k.raw_terms
  start_inside =
      let r = g.rising (k.thresholds - 1) (omega (arith, area_open)) in
      let w = g.within (k.thresholds - 1) (omega (arith, area_open)) in omega (arith, r, w)

module _ (k : Standing) (c a : ℕ) (cs ws : List ℕ) (ts : List (List ℕ)) (ps ss : List ℕ) (g : Listed k ts) (h : Termed k cs ws) (j : Joinable k ts ps ss)
    (none : refused_by k (Areas c a) ≡ 0) (narrow : a < 4294967296) where
  named : c < length ps
  named = area_named k c a cs ws ts ps ss g h j none

  filled : k.raw_terms ≤ open_start k ts + k.last_terms
  filled = open_filled k c a cs ws ts ps ss g h j none

  counts : (k.last_terms < list_terms) × (k.terms < max_terms)
  counts = area_counts k c a cs ws ts ps ss g h j none

  -- the first of its condition
  module _ (new : get_or ps c 0 ≤ open_start k ts) (r : Standing) (cs' ws' : List ℕ) (ts' : List (List ℕ)) (o : Added k c (weight_of_area a) cs ws ts r cs' ws' ts') where
    same_start : open_start r ts' ≡ open_start k ts
    same_start = (added_joinable k c a cs ws ts g h none (weight_of_area a) r cs' ws' ts' o).0

    first-area : FirstArea k c a cs ws ts ps ss r cs' ws' ts' (set ps c (k.raw_terms + 1)) (set ss (k.raw_terms - open_start k ts) a)
    first-area = record {
      new = new;
      added = o;
      places = refl;
      sums = refl;
      joinable = record {
        places = subst (λ (n : ℕ). max_nodes ≤ n) (sym (length-set ps c (k.raw_terms + 1))) j.places;
        sums = subst (λ (n : ℕ). list_terms ≤ n) (sym (length-set ss (k.raw_terms - open_start k ts) a)) j.sums;
        behind = λ d.
            let q = ap (λ (x : Standing). x.raw_terms) o.standing in
            let m = set-most ps c (k.raw_terms + 1) d (k.raw_terms + 1) (le_refl (k.raw_terms + 1)) (let l = j.behind d in omega (arith, l)) in omega (arith, q, m);
        small = λ d q. by d (dec_eq d c) q;
      };
    }
      where
        most : ℕ
        most = k.last_terms * 4294967295 + 4294967295

        count : r.last_terms ≡ k.last_terms + 1
        count = ap (λ (x : Standing). x.last_terms) o.standing

        sums-most : (i : ℕ) → get_or ss i 0 ≤ k.last_terms * 4294967295 → get_or (set ss (k.raw_terms - open_start k ts) a) i 0 ≤ r.last_terms * 4294967295
        sums-most i l =
            let m = set-most ss (k.raw_terms - open_start k ts) a i (k.last_terms * 4294967295 + 4294967295) (omega (arith, narrow)) (omega (arith, l)) in
            let n = count in omega (arith, m, n)

        by : (d : ℕ) → Dec (d ≡ c) → open_start r ts' < get_or (set ps c (k.raw_terms + 1)) d 0
            → get_or (set ss (k.raw_terms - open_start k ts) a) (get_or (set ps c (k.raw_terms + 1)) d 0 - 1 - open_start r ts') 0 ≤ r.last_terms * 4294967295
        by d (yes e) q =
            let p : get_or (set ps c (k.raw_terms + 1)) d 0 ≡ k.raw_terms + 1 = ap (λ (x : ℕ). get_or (set ps c (k.raw_terms + 1)) x 0) e ∙ get_or-set_same ps c (k.raw_terms + 1) 0 named in
            let i : get_or (set ps c (k.raw_terms + 1)) d 0 - 1 - open_start r ts' ≡ k.raw_terms - open_start k ts = (let s = same_start in omega (arith, p, s)) in
            let v : get_or (set ss (k.raw_terms - open_start k ts) a) (get_or (set ps c (k.raw_terms + 1)) d 0 - 1 - open_start r ts') 0 ≡ a =
            ap (λ (x : ℕ). get_or (set ss (k.raw_terms - open_start k ts) a) x 0) i
            ∙ get_or-set_same ss (k.raw_terms - open_start k ts) a 0 (let f = filled in let n = counts in omega (arith, f, n.0, j.sums)) in
            let n = count in omega (arith, v, n, narrow)
        by d (no e) q =
            let p : get_or (set ps c (k.raw_terms + 1)) d 0 ≡ get_or ps d 0 = get_or-set_other ps c d (k.raw_terms + 1) 0 e in
            let s = same_start in
            let i : get_or (set ps c (k.raw_terms + 1)) d 0 - 1 - open_start r ts' ≡ get_or ps d 0 - 1 - open_start k ts = omega (arith, p, s) in
            subst (λ (x : ℕ). get_or (set ss (k.raw_terms - open_start k ts) a) x 0 ≤ r.last_terms * 4294967295) (sym i)
            (sums-most (get_or ps d 0 - 1 - open_start k ts) (j.small d (omega (arith, p, s, q))))

    pub first_read : (q : ℕ) → q ≡ open_start k ts → FirstArea k c a cs ws ts ps ss r cs' ws' ts' (set ps c (k.raw_terms + 1)) (set ss (k.raw_terms - q) a)
    first_read q e =
        subst (λ (x : ℕ). FirstArea k c a cs ws ts ps ss r cs' ws' ts' (set ps c (k.raw_terms + 1)) (set ss (k.raw_terms - x) a)) (sym e) first-area

  -- any other
  module _ (there : open_start k ts < get_or ps c 0) where
    abbrev at : ℕ
    at = get_or ps c 0 - 1

    abbrev spot : ℕ
    spot = get_or ps c 0 - 1 - open_start k ts

    abbrev sum : ℕ
    sum = get_or ss spot 0 + a

    pub at_inside : at < k.raw_terms
    at_inside = omega (arith, there, j.behind c)

    spot_inside : spot < length ss
    spot_inside = let f = filled in let n = counts in omega (arith, there, j.behind c, f, n.0, j.sums)

    sum-small : sum ≤ 1024 * 4294967295
    sum-small = let s = j.small c there in let n = counts in omega (arith, s, n.0, narrow)

    pub more_area : MoreArea k c a cs ws ts ps ss (added_to k k.raw_terms) (set ws at (weight_of_area sum)) (set ss spot sum)
    more_area = record {
      there = there;
      reweighed = reweighed k at (weight_of_area sum) cs ws ts g h (area_open k c a cs ws ts ps ss g h j none) (omega (arith, there)) at_inside (let s = sum-small in omega (arith, s));
      sums = refl;
      joinable = record {
        places = j.places;
        sums = subst (λ (n : ℕ). list_terms ≤ n) (sym (length-set ss spot sum)) j.sums;
        behind = j.behind;
        small = λ d q.
            let l = j.small d q in
            let s = j.small c there in
            let m = set-most ss spot sum (get_or ps d 0 - 1 - open_start k ts) (k.last_terms * 4294967295 + 4294967295) (omega (arith, s, narrow)) (omega (arith, l)) in
            omega (arith, m);
      };
    }

    -- with the numbers that were read
    module _ (p q : ℕ) (e : p ≡ get_or ps c 0) (f : q ≡ open_start k ts) where
      at-spot : p - 1 - q ≡ spot
      at-spot = ap₂ (λ (x y : ℕ). x - 1 - y) e f

      pub read_inside : p - 1 - q < length ss
      read_inside = let i = spot_inside in let z = at-spot in omega (arith, i, z)

      pub read_small : get_or ss (p - 1 - q) 0 + a ≤ 1024 * 4294967295
      read_small = let s = sum-small in let z = ap (λ (x : ℕ). get_or ss x 0) at-spot in omega (arith, s, z)

      pub more_read : (v : ℕ) → v ≡ weight_of_area (get_or ss (p - 1 - q) 0 + a)
          → MoreArea k c a cs ws ts ps ss (added_to k k.raw_terms) (set ws (p - 1) v) (set ss (p - 1 - q) (get_or ss (p - 1 - q) 0 + a))
      more_read v w =
          subst (λ (x : ℕ). MoreArea k c a cs ws ts ps ss (added_to k k.raw_terms) (set ws (x - 1) v) (set ss (p - 1 - q) (get_or ss (p - 1 - q) 0 + a))) (sym e)
          (subst (λ (x : ℕ). MoreArea k c a cs ws ts ps ss (added_to k k.raw_terms) (set ws at v) (set ss x (get_or ss x 0 + a))) (sym at-spot)
          (subst (λ (x : ℕ). MoreArea k c a cs ws ts ps ss (added_to k k.raw_terms) (set ws at x) (set ss spot sum))
          (sym (w ∙ ap (λ (x : ℕ). weight_of_area (get_or ss x 0 + a)) at-spot)) more_area))
