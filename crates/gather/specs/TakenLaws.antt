-- A threshold or a term that passes its checks: the buffers hold the job with it added, and the invariant is kept.
use Prim.Native.Nat.{ℕ, zero, suc, ◌+◌, ◌-◌, ◌<◌, ◌≤◌}
use Rattle.std.proofs.Common.{le_refl, arith, ◌∙◌, subst, length-set, get_or-set_same, get_or-set_other, leb-false, ne_eqb}
use Rattle.std.specs.Prelude.{◌≡◌, Bool, false, not, ◌&&◌, ◌||◌, List, [], ◌∷◌, ◌++◌, map, length, get_or, take, drop, set, eqb, leb, ℤ, pos, negsuc}
use Rattle.std.proofs.Math.Path.{refl, sym, ap, ap₂}
use Rattle.std.specs.Int.Signed.{lt_z}
use Rattle.std.proofs.lemmas.Bool.{eqb-false}
use Rattle.base.specs.TestLaws.{or-false}
use Rattle.base.specs.SignedLaws.{nlt-le_z}
use Rattle.base.specs.PartsLaws.{start-after}
use Rattle.base.specs.Parts.{end_by, start_by, stretch}
use Rattle.base.specs.Laid.{numbers}
use Rattle.numeric.specs.Threshold.{term, Threshold}
use Rattle.numeric.specs.Slices.{terms}
use Rattle.memory.specs.Limits.{list_terms, max_terms, max_thresholds}
use Rattle.memory.specs.Ranges.{raw_limit}
use Rattle.memory.specs.Buffers.{raw_lists}
use Rattle.rows.specs.Lists.{list_at}
use Rattle.rows.specs.ListsLaws.{stretch-length}
use Rattle.rows.specs.Guards.{Bound, node_at}
use Rattle.job.specs.Given.{threshold_at, given}
use Rattle.records.specs.declared.Record.TheVariants.{Opens, Adds}
use Rattle.records.specs.declared.Standing.{Standing}
use Rattle.records.specs.Facts.{action, facts}
use Rattle.checks.specs.Checks.{refused_by}
use Rattle.checks.specs.CheckLaws.{Passes, passes}
use Rattle.job.specs.Job.{add_term}
use Rattle.job.specs.Taken.{opened_by, added_to, with_threshold, with_term}
use Rattle.job.specs.Gathered.{cut, job_in, Listed, Bounded, Termed, Gathered, Opened, Added}
use Rattle.job.specs.JobLaws.{map_same, on_more, term_more, stretch-set, stretch_more}
use Rattle.job.specs.GatheredLaws.{threshold_by, by_last, list_by, gathered, gathered_last}

abbrev node_of : List ℕ → ℕ
node_of p = get_or p 0 0

abbrev end_of : List ℕ → ℕ
end_of p = get_or p 1 0

-- ---- a threshold

module _ (k : Standing) (n : ℕ) (b : ℤ) (ts : List (List ℕ)) (bs : List ℤ) (g : Listed k ts) (h : Bounded k bs) (none : refused_by k (Opens n b) ≡ 0) where
  abbrev passed : Passes k (facts (action (Opens n b)))
  passed = passes k (facts (action (Opens n b))) none

  pub open_room : k.thresholds < max_thresholds
  open_room = leb-false max_thresholds k.thresholds passed.room

  range : Bound b
  range =
      let o = or-false (lt_z b (negsuc 4503599627370495)) (lt_z (pos 4503599627370496) b) passed.bounds in
      record { low = nlt-le_z b (negsuc 4503599627370495) o.0; high = nlt-le_z (pos 4503599627370496) b o.1 }

  above : (t : ℕ) → t + 1 ≡ k.thresholds → node_at ts t < n
  above t e =
      let z = ne_eqb k.thresholds 0 (λ (q : k.thresholds ≡ 0). omega arith) in
      let l : leb n k.last_node ≡ false = sym (ap (λ (x : Bool). not x && leb n k.last_node) z) ∙ passed.rising in
      subst (λ (x : ℕ). x < n) (sym (g.last t e)) (leb-false n k.last_node l)

  abbrev next : Standing
  next = opened_by k n

  abbrev entry : List ℕ
  entry = n ∷ k.raw_terms ∷ []

  abbrev ts' : List (List ℕ)
  ts' = set ts k.thresholds entry

  abbrev bs' : List ℤ
  bs' = set bs k.thresholds b

  old : (t : ℕ) → t < k.thresholds → get_or ts' t [] ≡ get_or ts t []
  old t q = get_or-set_other ts k.thresholds t entry [] (λ (e : t ≡ k.thresholds). omega arith)

  new : get_or ts' k.thresholds [] ≡ entry
  new = get_or-set_same ts k.thresholds entry [] (let r = open_room in let l = g.room in omega arith)

  old-start : (t : ℕ) → t ≤ k.thresholds → start_by 1 ts' t ≡ start_by 1 ts t
  unfolding start_by
  old-start zero q = refl
  old-start (suc t) q = ap end_of (old t q)

  pub starts : start_by 1 ts' k.thresholds ≡ k.raw_terms
  starts = old-start k.thresholds (le_refl k.thresholds) ∙ g.ended

  ends : end_by 1 ts' k.thresholds ≡ k.raw_terms
  ends = ap end_of new

  listed-open : Listed next ts'
  listed-open = record {
    nodes = g.nodes;
    terms = g.terms;
    fewer = g.fewer;
    many = let r = open_room in omega arith;
    room = subst (λ (x : ℕ). max_thresholds ≤ x) (sym (length-set ts k.thresholds entry)) g.room;
    wide = by_last (λ (t : ℕ). length (get_or ts' t []) ≡ 2) k.thresholds (k.thresholds + 1) refl (λ t q. ap length (old t q) ∙ g.wide t q) (ap length new);
    rising =
        by_last (λ (t : ℕ). start_by 1 ts' t ≤ end_by 1 ts' t) k.thresholds (k.thresholds + 1) refl
        (λ t q. let a = old-start t (omega arith) in let e : end_by 1 ts' t ≡ end_by 1 ts t = ap end_of (old t q) in let r = g.rising t q in omega (arith, a, e, r))
        (let a = starts in let e = ends in omega (arith, a, e));
    short =
        by_last (λ (t : ℕ). end_by 1 ts' t ≤ start_by 1 ts' t + list_terms) k.thresholds (k.thresholds + 1) refl
        (λ t q. let a = old-start t (omega arith) in let e : end_by 1 ts' t ≡ end_by 1 ts t = ap end_of (old t q) in let r = g.short t q in omega (arith, a, e, r))
        (let a = starts in let e = ends in omega (arith, a, e));
    within =
        by_last (λ (t : ℕ). end_by 1 ts' t ≤ k.raw_terms) k.thresholds (k.thresholds + 1) refl
        (λ t q. let e : end_by 1 ts' t ≡ end_by 1 ts t = ap end_of (old t q) in let r = g.within t q in omega (arith, e, r)) (let e = ends in omega (arith, e));
    ended = start-after 1 ts' k.thresholds ∙ ends;
    inside =
        by_last (λ (t : ℕ). node_at ts' t < k.nodes) k.thresholds (k.thresholds + 1) refl
        (λ t q. let e : node_at ts' t ≡ node_at ts t = ap node_of (old t q) in let r = g.inside t q in omega (arith, e, r))
        (let e : node_at ts' k.thresholds ≡ n = ap node_of new in let r = leb-false k.nodes n passed.nodes in omega (arith, e, r));
    ordered = λ t q.
        subst (λ (x : ℕ). x < node_at ts' (t + 1)) (sym (ap node_of (old t (omega arith)))) (behind (t + 1) q t refl);
    last = λ t e. let q : t ≡ k.thresholds = omega arith in ap (node_at ts') q ∙ ap node_of new;
    filled = λ t e. let q : t ≡ k.thresholds = omega arith in let r = ap (start_by 1 ts') q ∙ starts in omega (arith, r);
  }
    where
      behind : (s : ℕ) → s < k.thresholds + 1 → (r : ℕ) → r + 1 ≡ s → node_at ts r < node_at ts' s
      behind = by_last (λ (s : ℕ). (r : ℕ) → r + 1 ≡ s → node_at ts r < node_at ts' s) k.thresholds (k.thresholds + 1) refl
          (λ s u r e. subst (λ (x : ℕ). node_at ts r < x) (ap (node_at ts) e ∙ sym (ap node_of (old s u))) (g.ordered r (let v : r + 1 ≡ s = e in omega arith)))
          (λ r e. subst (λ (x : ℕ). node_at ts r < x) (sym (ap node_of new)) (above r e))

  bounded-open : Bounded next bs'
  bounded-open = record {
    room = subst (λ (x : ℕ). max_thresholds ≤ x) (sym (length-set bs k.thresholds b)) h.room;
    bound =
        by_last (λ (t : ℕ). Bound (get_or bs' t (pos 0))) k.thresholds (k.thresholds + 1) refl
        (λ t q. subst Bound (sym (old-bound t q)) (h.bound t q)) (subst Bound (sym new-bound) range);
  }
    where
      old-bound : (t : ℕ) → t < k.thresholds → get_or bs' t (pos 0) ≡ get_or bs t (pos 0)
      old-bound t q = get_or-set_other bs k.thresholds t b (pos 0) (λ (e : t ≡ k.thresholds). omega arith)

      new-bound : get_or bs' k.thresholds (pos 0) ≡ b
      new-bound = get_or-set_same bs k.thresholds b (pos 0) (let r = open_room in let l = h.room in omega arith)

  module _ (cs ws : List ℕ) where
    old-at : (t : ℕ) → t < k.thresholds → threshold_at (raw_lists cs ws ts') bs' t ≡ threshold_at (raw_lists cs ws ts) bs t
    old-at t q =
        threshold_by (ap node_of (old t q)) (get_or-set_other bs k.thresholds t b (pos 0) (λ (e : t ≡ k.thresholds). omega arith))
        (list_by (raw_lists cs ws ts') (raw_lists cs ws ts) t (old-start t (omega arith)) (ap end_of (old t q)) refl refl)

    no-terms : list_at (raw_lists cs ws ts') k.thresholds ≡ []
    unfolding list_at terms
    no-terms =
        ap₂ (λ (x y : ℕ). terms (stretch x y cs) (stretch x y ws)) starts ends
        ∙ ap (λ (j : ℕ). terms (take j (drop k.raw_terms cs)) (take j (drop k.raw_terms ws))) {x = k.raw_terms - k.raw_terms} {y = 0} (omega arith)

    new-at : threshold_at (raw_lists cs ws ts') bs' k.thresholds ≡ record { node = n; bound = b; terms = [] }
    new-at =
        threshold_by (ap node_of new) (get_or-set_same bs k.thresholds b (pos 0) (let r = open_room in let l = h.room in omega arith)) no-terms

    job-open : job_in next cs ws ts' bs' ≡ with_threshold (job_in k cs ws ts bs) n b
    job-open = λ i. record { nodes = k.nodes; thresholds = all i }
      where
        all : given (cut next cs ws ts') (take (k.thresholds + 1) bs') ≡ given (cut k cs ws ts) (take k.thresholds bs) ++ (record { node = n; bound = b; terms = [] } ∷ [])
        all =
            gathered_last next cs ws ts' bs' listed-open k.thresholds (omega arith)
            ∙ ap₂ (λ (l : List Threshold) (x : Threshold). l ++ (x ∷ []))
            (map_same (threshold_at (raw_lists cs ws ts') bs') (threshold_at (raw_lists cs ws ts) bs) k.thresholds old-at ∙ sym (gathered k cs ws ts bs g)) new-at

  -- THE THRESHOLD TAKEN
  pub opened : Opened k n b ts bs next ts' bs'
  opened = record {
    standing = refl;
    job = λ cs ws. job-open cs ws;
    thresholds = refl;
    bounds = refl;
    listed = listed-open;
    bounded = bounded-open;
  }

-- ---- a term

module _ (k : Standing) (c w : ℕ) (cs ws : List ℕ) (ts : List (List ℕ)) (g : Listed k ts) (h : Termed k cs ws) (none : refused_by k (Adds c w) ≡ 0) where
  abbrev last : ℕ
  last = k.thresholds - 1

  abbrev pub fine : Passes k (facts (action (Adds c w)))
  fine = passes k (facts (action (Adds c w))) none

  pub term_open : k.thresholds ≡ last + 1
  term_open =
      let o = or-false (not k.started || k.sealed) (eqb k.thresholds 0) fine.turn in
      let z = eqb-false k.thresholds 0 o.1 in
      by k.thresholds refl z
    where
      by : (m : ℕ) → k.thresholds ≡ m → (k.thresholds ≡ 0 → ⊥) → k.thresholds ≡ k.thresholds - 1 + 1
      by zero e z = absurd (z e)
      by (suc m) e z = omega arith

  pub counts-left : (k.last_terms < list_terms) × (k.terms < max_terms)
  counts-left =
      let o = or-false (leb list_terms k.last_terms) (leb max_terms k.terms) fine.room in
      (leb-false list_terms k.last_terms o.0, leb-false max_terms k.terms o.1)

  pub term_room : k.raw_terms < max_terms
  term_room = omega (arith, counts-left.1, g.fewer)

  abbrev with_one : Standing
  with_one = added_to k (k.raw_terms + 1)

  abbrev longer : List ℕ
  longer = node_at ts last ∷ (k.raw_terms + 1) ∷ []

  abbrev ts'' : List (List ℕ)
  ts'' = set ts last longer

  before : (t : ℕ) → t < last → get_or ts'' t [] ≡ get_or ts t []
  before t q = get_or-set_other ts last t longer [] (λ (e : t ≡ last). omega arith)

  there : get_or ts'' last [] ≡ longer
  there = get_or-set_same ts last longer [] (let a = g.room in let b = g.many in let e = term_open in omega (arith, a, b, e))

  before-start : (t : ℕ) → t ≤ last → start_by 1 ts'' t ≡ start_by 1 ts t
  unfolding start_by
  before-start zero q = refl
  before-start (suc t) q = ap end_of (before t q)

  pub last_start : start_by 1 ts'' last ≡ start_by 1 ts last
  last_start = before-start last (le_refl last)

  last_end : end_by 1 ts last ≡ k.raw_terms
  last_end = sym (start-after 1 ts last) ∙ ap (start_by 1 ts) (sym term_open) ∙ g.ended

  new-end : end_by 1 ts'' last ≡ k.raw_terms + 1
  new-end = ap end_of there

  same-node : (t : ℕ) → t < k.thresholds → node_at ts'' t ≡ node_at ts t
  same-node = by_last (λ (t : ℕ). node_at ts'' t ≡ node_at ts t) last k.thresholds term_open (λ t q. ap node_of (before t q)) (ap node_of there)

  in-last : last < k.thresholds
  in-last = let e = term_open in omega (arith, e)

  earlier : (t : ℕ) → t < last → t < k.thresholds
  earlier t q = let e = term_open in omega (arith, e, q)

  listed-add : Listed with_one ts''
  listed-add = record {
    nodes = g.nodes;
    terms = let r = term_room in omega (arith, r);
    fewer = omega (arith, g.fewer);
    many = g.many;
    room = subst (λ (x : ℕ). max_thresholds ≤ x) (sym (length-set ts last longer)) g.room;
    wide = by_last (λ (t : ℕ). length (get_or ts'' t []) ≡ 2) last k.thresholds term_open (λ t q. ap length (before t q) ∙ g.wide t (earlier t q)) (ap length there);
    rising =
        by_last (λ (t : ℕ). start_by 1 ts'' t ≤ end_by 1 ts'' t) last k.thresholds term_open
        (λ t q. let a = before-start t (omega arith) in let e : end_by 1 ts'' t ≡ end_by 1 ts t = ap end_of (before t q) in let r = g.rising t (earlier t q) in omega (arith, a, e, r))
        (let a = last_start in let e = new-end in let f = last_end in let r = g.rising last in-last in omega (arith, a, e, f, r));
    short =
        by_last (λ (t : ℕ). end_by 1 ts'' t ≤ start_by 1 ts'' t + list_terms) last k.thresholds term_open
        (λ t q. let a = before-start t (omega arith) in let e : end_by 1 ts'' t ≡ end_by 1 ts t = ap end_of (before t q) in let r = g.short t (earlier t q) in omega (arith, a, e, r))
        (let a = last_start in let e = new-end in let r = counts-left.0 in let o = g.filled last (sym term_open) in omega (arith, a, e, r, o));
    within =
        by_last (λ (t : ℕ). end_by 1 ts'' t ≤ k.raw_terms + 1) last k.thresholds term_open
        (λ t q. let e : end_by 1 ts'' t ≡ end_by 1 ts t = ap end_of (before t q) in let r = g.within t (earlier t q) in omega (arith, e, r)) (let e = new-end in omega (arith, e));
    ended = ap (start_by 1 ts'') term_open ∙ start-after 1 ts'' last ∙ new-end;
    inside = λ t q. subst (λ (x : ℕ). x < k.nodes) (sym (same-node t q)) (g.inside t q);
    ordered = λ t q.
        subst (λ (x : ℕ). x < node_at ts'' (t + 1)) (sym (same-node t (omega arith))) (subst (λ (x : ℕ). node_at ts t < x) (sym (same-node (t + 1) q)) (g.ordered t q));
    last = λ t e. same-node t (omega (arith, e)) ∙ g.last t e;
    filled = λ t e.
        let o = term_open in let a = before-start t (omega (arith, e, o)) in let r = g.filled t e in omega (arith, a, r);
  }

  termed-add : w < raw_limit → Termed with_one (set cs k.raw_terms c) (set ws k.raw_terms w)
  termed-add small = record {
    conditions = subst (λ (x : ℕ). max_terms ≤ x) (sym (length-set cs k.raw_terms c)) h.conditions;
    weights = subst (λ (x : ℕ). max_terms ≤ x) (sym (length-set ws k.raw_terms w)) h.weights;
    below =
        by_last (λ (i : ℕ). get_or (set cs k.raw_terms c) i 0 < k.nodes) k.raw_terms (k.raw_terms + 1) refl
        (λ i q. subst (λ (x : ℕ). x < k.nodes) (sym (get_or-set_other cs k.raw_terms i c 0 (λ (e : i ≡ k.raw_terms). omega arith))) (h.below i q))
        (subst (λ (x : ℕ). x < k.nodes) (sym (get_or-set_same cs k.raw_terms c 0 (let r = term_room in let l = h.conditions in omega (arith, r, l))))
        (leb-false k.nodes c fine.nodes));
    light =
        by_last (λ (i : ℕ). get_or (set ws k.raw_terms w) i 0 < raw_limit) k.raw_terms (k.raw_terms + 1) refl
        (λ i q. subst (λ (x : ℕ). x < raw_limit) (sym (get_or-set_other ws k.raw_terms i w 0 (λ (e : i ≡ k.raw_terms). omega arith))) (h.light i q))
        (subst (λ (x : ℕ). x < raw_limit) (sym (get_or-set_same ws k.raw_terms w 0 (let r = term_room in let l = h.weights in omega (arith, r, l)))) small);
  }

  module _ (bs : List ℤ) where
    abbrev start : ℕ
    start = start_by 1 ts last

    up_to : start ≤ k.raw_terms
    up_to = let r = g.rising last in-last in let e = last_end in omega (arith, r, e)

    before_at : (t : ℕ) → t < last → threshold_at (raw_lists (set cs k.raw_terms c) (set ws k.raw_terms w) ts'') bs t ≡ threshold_at (raw_lists cs ws ts) bs t
    before_at t q =
        threshold_by (ap node_of (before t q)) refl
        (list_by (raw_lists (set cs k.raw_terms c) (set ws k.raw_terms w) ts'') (raw_lists cs ws ts) t (before-start t (omega arith)) (ap end_of (before t q))
        (stretch-set (start_by 1 ts t) (end_by 1 ts t) k.raw_terms c cs (g.rising t (earlier t q)) (g.within t (earlier t q)))
        (stretch-set (start_by 1 ts t) (end_by 1 ts t) k.raw_terms w ws (g.rising t (earlier t q)) (g.within t (earlier t q))))

    one_more : list_at (raw_lists (set cs k.raw_terms c) (set ws k.raw_terms w) ts'') last ≡ list_at (raw_lists cs ws ts) last ++ (term c w ∷ [])
    unfolding list_at
    one_more =
        let p = h.conditions in
        let q = h.weights in
        let r = term_room in
        ap₂ (λ (x y : ℕ). terms (stretch x y (set cs k.raw_terms c)) (stretch x y (set ws k.raw_terms w))) last_start new-end
        ∙ ap₂ terms (stretch_more start k.raw_terms c cs up_to (omega (arith, p, r))) (stretch_more start k.raw_terms w ws up_to (omega (arith, q, r)))
        ∙ term_more (stretch start k.raw_terms cs) (stretch start k.raw_terms ws) c w
        (stretch-length start k.raw_terms ws (omega (arith, q, r)) ∙ sym (stretch-length start k.raw_terms cs (omega (arith, p, r))))
        ∙ ap (λ (y : ℕ). terms (stretch start y cs) (stretch start y ws) ++ (term c w ∷ [])) (sym last_end)

    job-add : job_in with_one (set cs k.raw_terms c) (set ws k.raw_terms w) ts'' bs ≡ with_term (job_in k cs ws ts bs) (term c w)
    job-add = λ i. record { nodes = k.nodes; thresholds = all i }
      where
        open-one : k.thresholds ≡ suc last
        open-one = let e = term_open in omega (arith, e)

        all : given (cut with_one (set cs k.raw_terms c) (set ws k.raw_terms w) ts'') (take k.thresholds bs) ≡ add_term (term c w) (given (cut k cs ws ts) (take k.thresholds bs))
        all =
            gathered_last with_one (set cs k.raw_terms c) (set ws k.raw_terms w) ts'' bs listed-add last open-one
            ∙ ap₂ (λ (l : List Threshold) (x : Threshold). l ++ (x ∷ []))
            (map_same (threshold_at (raw_lists (set cs k.raw_terms c) (set ws k.raw_terms w) ts'') bs) (threshold_at (raw_lists cs ws ts) bs) last before_at)
            (threshold_by (ap node_of there) refl one_more)
            ∙ sym (ap (add_term (term c w)) (gathered_last k cs ws ts bs g last open-one)
            ∙ on_more (threshold_at (raw_lists cs ws ts) bs last) (λ l. l ++ (term c w ∷ [])) (map (threshold_at (raw_lists cs ws ts) bs) (numbers 0 last)))

  -- THE TERM TAKEN
  pub added : w < raw_limit → Added k c w cs ws ts with_one (set cs k.raw_terms c) (set ws k.raw_terms w) ts''
  added small = record {
    standing = refl;
    job = λ bs. job-add bs;
    conditions = refl;
    weights = refl;
    thresholds = refl;
    listed = listed-add;
    termed = termed-add small;
  }

-- ---- both keep the invariant

pub opened_gathered : (k : Standing) (n : ℕ) (b : ℤ) (cs ws : List ℕ) (ts : List (List ℕ)) (bs : List ℤ) (r : Standing) (ts' : List (List ℕ)) (bs' : List ℤ)
    → Gathered k cs ws ts bs → Opened k n b ts bs r ts' bs' → Gathered r cs ws ts' bs'
opened_gathered k n b cs ws ts bs r ts' bs' g o = record {
  listed = o.listed;
  bounded = o.bounded;
  termed = record {
    conditions = g.termed.conditions;
    weights = g.termed.weights;
    below = λ i q. subst (λ (x : ℕ). get_or cs i 0 < x) (sym same_nodes) (g.termed.below i (subst (λ (x : ℕ). i < x) same_terms_lem q));
    light = λ i q. g.termed.light i (subst (λ (x : ℕ). i < x) same_terms_lem q);
  };
}
  where
    same_nodes : r.nodes ≡ k.nodes
    same_nodes = ap (λ (x : Standing). x.nodes) o.standing

    same_terms_lem : r.raw_terms ≡ k.raw_terms
    same_terms_lem = ap (λ (x : Standing). x.raw_terms) o.standing

pub added_gathered : (k : Standing) (c w : ℕ) (cs ws : List ℕ) (ts : List (List ℕ)) (bs : List ℤ) (r : Standing) (cs' ws' : List ℕ) (ts' : List (List ℕ))
    → Gathered k cs ws ts bs → Added k c w cs ws ts r cs' ws' ts' → Gathered r cs' ws' ts' bs
added_gathered k c w cs ws ts bs r cs' ws' ts' g o = record {
  listed = o.listed;
  bounded = record { room = g.bounded.room; bound = λ t q. g.bounded.bound t (subst (λ (x : ℕ). t < x) (ap (λ (x : Standing). x.thresholds) o.standing) q) };
  termed = o.termed;
}
