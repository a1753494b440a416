-- A record behind the seal: what the code makes of it is the definition's, and the buffers are those of the file behind it.
-- Assumes nothing.
use Rattle.std.specs.Prelude.{ℕ, ◌+◌, ◌-◌, ◌<◌, ◌≤◌, ◌≡◌, refl, List, [], ◌++◌, length, get_or, drop, eqb, ℤ}
use Rattle.std.proofs.Common.{not-suc-le-zero, arith, subst, ◌∙◌, append-nil, length-append, length-drop, leb-false}
use Rattle.std.proofs.Math.Path.{sym, ap, ap₂}
use Rattle.memory.specs.Limits.{max_nodes}
use Rattle.memory.specs.Buffers.{Built, Kept}
use Rattle.base.specs.Laid.{over}
use Rattle.numeric.specs.Area as Area
use Rattle.numeric.specs.Threshold.{Job}
use Rattle.state.specs.declared.Step.{Step}
use Rattle.queues.specs.declared.Rings.{Rings}
use Rattle.queues.specs.Queue.{oldest}
use Rattle.queues.specs.Marks.{is_decided}
use Rattle.rows.specs.Rows.{no_row}
use Rattle.searches.specs.declared.Search.{Search}
use Rattle.searches.specs.declared.Search.TheVariants.{Skipped, Fits, Nothing, Cut}
use Rattle.searches.specs.Search.{search_visits}
use Rattle.searches.proofs.SearchLaws.{search_visits_lem}
use Rattle.row_moves.specs.Between.{Index, Live, Did, state_at}
use Rattle.row_moves.specs.Numbers.{Tidy}
use Rattle.drain.specs.Drain as Drain
use Rattle.drain.specs.Drain.{index_of}
use Rattle.drain.specs.Sift as Sift
use Rattle.drain.specs.Sift.{Sifted, try_row}
use Rattle.drain.specs.SiftLaws.{try_ends, sift_keeps}
use Rattle.drain.specs.Steps.{try_terms, try_residual, try_search}
use Rattle.records.specs.declared.Record.{Record}
use Rattle.records.specs.declared.Record.TheVariants.{Header, Opens, Adds, Areas, Seal, Mark, Settle, Sift, Unknown}
use Rattle.records.specs.declared.Standing.{Standing}
use Rattle.records.specs.Record.{body_length}
use Rattle.checks.specs.Next.{Next, Refused, Taken, next_at}
use Rattle.records.specs.At.{kind_at}
use Rattle.records.specs.Facts.{adds}
use Rattle.files.specs.File.{File, Answer, standing, refusal, told, marked_file, settled_file, sifted_file, act, apply, Outcome, outcome}
use Rattle.theorem_limits.specs.FilesLaws.{both, taken, building_turn, change_turn}
use Rattle.theorem_limits.specs.SizeLaws.{row-terms_few}
use Rattle.theorem_keeps.specs.Serves.{Serves, Going}
use Rattle.theorem_keeps.specs.Tries.{Short}
use Rattle.theorem_keeps.specs.SiftingLaws.{scratch_next}
use Rattle.theorem_holds.proofs.ServedLaws.{Served}
use Rattle.theorem_holds.proofs.LentLaws.{served-built}
use Rattle.theorem_holds.proofs.FilesLaws.{serving_apply}
use Rattle.serve.specs.declared.Reached.{Reached}
use Rattle.serve.specs.Serve.{Lent, live_in, Lies, Asks, plain, came, Takes, stood, Reaches, read_at}
use Rattle.answers.specs.Answers.{answers_of, answered}
use Rattle.serve.specs.ReadLaws.{ended, refused_next, taken_next, known_next, read_goes, read_stops, read_none}

-- ---- what the seal built serves

module _ (bs : List ℤ) (b : Built) (f : File) (l : Lent bs b f) where
  served : Served l.job b
  served = subst (Served l.job) (sym l.built) (served-built l.job l.fits l.light l.from l.lendable)

  pub lent_serves : Serves (index_of f.closed) bs b
  lent_serves =
      subst (λ (j : Job). Serves (index_of j) bs b) (sym l.serving.closed)
      (subst (λ (z : List ℤ). Serves (index_of l.job) z b) (sym l.bounds) served.serves)

  pub lent_short : Short b.held.rows
  lent_short = served.short

  pub lent_going : Going b.held b.nodes f.live
  lent_going = subst (λ (z : Built). Going z.held z.nodes f.live) (sym l.built) l.serving.going

  -- BEHIND A RECORD THAT IS TAKEN it still does.
  pub lent_apply : (r : Record) → refusal f r ≡ 0 → Lent bs b (apply f r)
  lent_apply r h = record {
    job = l.job;
    fits = l.fits;
    light = l.light;
    from = l.from;
    lendable = l.lendable;
    built = l.built;
    bounds = l.bounds;
    serving = serving_apply l.job l.fits l.light l.from l.lendable f l.serving r h;
  }

  pub mark_small : (n v : ℕ) → refusal f (Mark n v) ≡ 0 → n < max_nodes
  mark_small n v h = omega (arith, leb-false f.draft.nodes n (taken f (Mark n v) h).nodes, l.serving.good.draft.nodes)

  -- NO OTHER RECORD PASSES THE CHECKS, one of an unknown kind left aside.
  pub only_asks : (r : Record) → (r ≡ Unknown → ⊥) → refusal f r ≡ 0 → Asks r
  only_asks (Header n) u h = both l.serving.sealed (l.serving.good.unstarted (taken f (Header n) h).turn)
  only_asks (Opens n z) u h = both l.serving.sealed (building_turn f (taken f (Opens n z) h).turn).1
  only_asks (Adds c w) u h = both l.serving.sealed (change_turn f (adds (Area.plain c w)) (taken f (Adds c w) h)).1
  only_asks (Areas c a) u h = both l.serving.sealed (change_turn f (adds (Area.area c a)) (taken f (Areas c a) h)).1
  only_asks Seal u h = both l.serving.sealed (building_turn f (taken f Seal h).turn).1
  only_asks (Mark n v) u h = tt
  only_asks Settle u h = tt
  only_asks Sift u h = tt
  only_asks Unknown u h = u refl

-- ---- what a record comes to

module _ (f : File) (v : Live) (gs : List ℕ) (e : v ≡ f.live) (g : gs ≡ f.gcds) where
  pub mark-came : (n i : ℕ) (o : Did) → o ≡ Drain.mark v n (eqb i 1) → plain o gs ≡ came f (Mark n i)
  unfolding came
  mark-came n i o made = ap₂ plain (made ∙ ap (λ (u : Live). Drain.mark u n (eqb i 1)) e) g

  pub settle-came : (o : Did) → o ≡ Drain.settle (index_of f.closed) v → plain o gs ≡ came f Settle
  unfolding came
  settle-came o made = ap₂ plain (made ∙ ap (Drain.settle (index_of f.closed)) e) g

  pub sift-came : (o : Sifted) → o ≡ Sift.sift (index_of f.closed) v gs → o ≡ came f Sift
  unfolding came
  sift-came o made = made ∙ ap₂ (Sift.sift (index_of f.closed)) e g

-- A record that can be taken: what the code's callees require, and that what they make is what it comes to.
module _ (bs : List ℤ) (b : Built) (f : File) (r : Record) (v : Live) (gs words : List ℕ) (t : Takes bs b f r v gs words) where
  pub takes_going : Going b.held b.nodes v
  takes_going = subst (Going b.held b.nodes) (sym t.live) (lent_going bs b f t.lent)

  pub takes_serves : (x : Index) × Serves x bs b
  takes_serves = (index_of f.closed, lent_serves bs b f t.lent)

  pub takes_short : Short b.held.rows
  takes_short = lent_short bs b f t.lent

  pub took_mark : (n i : ℕ) → r ≡ Mark n i → (o : Did) → o ≡ Drain.mark v n (eqb i 1) → plain o gs ≡ came f r
  took_mark n i e o made = mark-came f v gs t.live t.gcds n i o made ∙ ap (came f) (sym e)

  pub takes_mark : (n i : ℕ) → r ≡ Mark n i → n < max_nodes
  takes_mark n i e = mark_small bs b f t.lent n i (ap (refusal f) (sym e) ∙ t.passed)

  pub took_settle : r ≡ Settle → (o : Did) → ((x : Index) → Serves x bs b → o ≡ Drain.settle x v) → plain o gs ≡ came f r
  took_settle e o made = settle-came f v gs t.live t.gcds o (made (index_of f.closed) (lent_serves bs b f t.lent)) ∙ ap (came f) (sym e)

  pub took_sift : r ≡ Sift → (o : Sifted) → ((x : Index) → Serves x bs b → o ≡ Sift.sift x v gs) → o ≡ came f r
  took_sift e o made = sift-came f v gs t.live t.gcds o (made (index_of f.closed) (lent_serves bs b f t.lent)) ∙ ap (came f) (sym e)

-- ---- visits fit

module _ (x : Index) (short : (r : ℕ) → length (get_or x.rows r no_row).terms ≤ 1024) where
  few : (s : Search) (n m : ℕ) → n ≤ m → search_visits 0 s ≤ m → search_visits n s ≤ m
  few Skipped n m h k = h
  few (Fits i) n m h k = k
  few (Nothing i) n m h k = k
  few (Cut i) n m h k = k

  try-visits : (v : Live) (gcds : List ℕ) (n : ℕ) → n ≤ 4096 → (try_row x v gcds n).visits ≤ 4096
  try-visits v gcds n h =
      let r = oldest v.residuals.queue in
      try_ends x v gcds n (λ (t : Sifted). t.visits ≤ 4096)
      (λ e. few (try_search x v gcds) n 4096 h (omega (arith, search_visits_lem (try_terms x v) (state_at v r) (is_decided (try_residual x v gcds).marks), short r))) (λ e. h)

  sift_visits : (v : Live) (gcds : List ℕ) → (Sift.sift x v gcds).visits ≤ 4096
  sift_visits v gcds = sift_keeps x (λ (u : Live) (g : List ℕ) (m : ℕ). m ≤ 4096) (λ u g m h. h) (λ u g m e h. try-visits u g m h) v gcds (omega arith)

pub came_visits : (bs : List ℤ) (b : Built) (f : File) → Lent bs b f → (r : Record) → (came f r).visits ≤ 4096
unfolding came
came_visits bs b f l (Header n) = omega arith
came_visits bs b f l (Opens n z) = omega arith
came_visits bs b f l (Adds c w) = omega arith
came_visits bs b f l (Areas c a) = omega arith
came_visits bs b f l Seal = omega arith
came_visits bs b f l (Mark n v) = omega arith
came_visits bs b f l Settle = omega arith
came_visits bs b f l Sift = sift_visits (index_of f.closed) (row-terms_few f.closed l.serving.good.closed) f.live f.gcds
came_visits bs b f l Unknown = omega arith

-- ---- answers in their places

-- ---- THE FILE BEHIND THE RECORD

abbrev behind : File → Record → Sifted → File
behind f r c = told f f.closed c.step c.live c.gcds (f.answers ++ answered r c.step c.visits)

came_applied : (f : File) (r : Record) → Asks r → apply f r ≡ behind f r (came f r)
unfolding came apply act marked_file settled_file sifted_file
came_applied f (Mark n v) a =
    let d = Drain.mark f.live n (eqb v 1) in
    ap (λ (t : List Answer). told f f.closed d.step d.live f.gcds t) (sym (append-nil f.answers))
came_applied f Settle a = refl
came_applied f Sift a = refl
came_applied f (Header n) a = elim a [ ]
came_applied f (Opens n z) a = elim a [ ]
came_applied f (Adds n w) a = elim a [ ]
came_applied f (Areas n w) a = elim a [ ]
came_applied f Seal a = elim a [ ]
came_applied f Unknown a = elim a [ ]

module _ (bs : List ℤ) (b : Built) (base : List (List ℕ)) (f : File) (k : Kept) (at : Reached) (z : Reaches bs b base k at (outcome f [] 0 at.at)) (r : Record) (asks : Asks r) (passed : refusal f r ≡ 0) where
  pub record_takes : Takes bs b f r (live_in k at.rings) k.gcds k.search
  record_takes = record { lent = z.lent; live = z.lies.live; gcds = z.lies.gcds; scratch = z.lies.scratch; asks = asks; passed = passed }

  -- An answer has room.
  pub record_room : (step : Step) (visits : ℕ) → 0 < length (answered r step visits) → at.standing.answers < 64
  record_room step visits h = subst (λ (s : Standing). s.answers < 64) (sym z.standing) (by r asks passed h)
    where
      by : (q : Record) → Asks q → refusal f q ≡ 0 → 0 < length (answered q step visits) → length f.answers < 64
      by (Mark n i) a p k = absurd (not-suc-le-zero k)
      by Settle a p k = leb-false 64 (length f.answers) (taken f Settle p).room
      by Sift a p k = leb-false 64 (length f.answers) (taken f Sift p).room
      by (Header n) a p k = elim a [ ]
      by (Opens n z) a p k = elim a [ ]
      by (Adds n w) a p k = elim a [ ]
      by (Areas n w) a p k = elim a [ ]
      by Seal a p k = elim a [ ]
      by Unknown a p k = elim a [ ]

  pub record_long : 64 ≤ length k.answers
  record_long =
      let l = answers_of f.answers in
      omega (arith, z.lies.room, ap (λ (y : List (List ℕ)). length y) z.lies.answers, length-append l (drop (length l) base), length-drop (length l) base)

  module _ (m : Kept) (rings : Rings) (step : Step) (visits : ℕ) (made : Sift.sifted (live_in m rings) m.gcds step visits ≡ came f r) where
    pub record_visits : visits ≤ 4096
    record_visits = subst (λ (n : ℕ). n ≤ 4096) (sym (ap (λ (c : Sifted). c.visits) made)) (came_visits bs b f z.lent r)

    g : File
    g = apply f r

    whole : g ≡ behind f r (Sift.sifted (live_in m rings) m.gcds step visits)
    unfolding g
    whole = came_applied f r asks ∙ ap (behind f r) (sym made)

    -- ALL OF IT IS THE FILE'S
    pub record_reaches : Tidy m.figures m.cursors → length m.gcds ≡ length k.gcds → m.search ≡ k.search
        → m.answers ≡ over (answers_of (f.answers ++ answered r step visits)) base
        → (o : Reached) → o.rings ≡ rings → o.last ≡ step → o.refused ≡ 0 → o.standing ≡ stood at.standing step (length (f.answers ++ answered r step visits))
        → Reaches bs b base m o (outcome (apply f r) [] 0 o.at)
    unfolding g
    record_reaches tidy long same put o er el en es = record {
      lent = lent_apply bs b f z.lent r passed;
      lies = record {
        live = ap (live_in m) er ∙ sym (ap (λ (h : File). h.live) whole);
        tidy = tidy;
        gcds = sym (ap (λ (h : File). h.gcds) whole);
        scratch = scratch_next k.gcds m.gcds k.search m.search long same z.lies.scratch;
        answers = put ∙ ap (λ (h : File). over (answers_of h.answers) base) (sym whole);
        room = z.lies.room;
      };
      standing = es ∙ ap (λ (s : Standing). stood s step (length (f.answers ++ answered r step visits))) z.standing
          ∙ ap (λ (h : File). standing h) (sym whole);
      last = el ∙ ap (λ (h : File). h.last) (sym whole);
      refused = en;
      at = refl;
    }

-- ---- the next record of the input

pub reaches_ended : (bs : List ℤ) (b : Built) (base : List (List ℕ)) (k : Kept) (r : Reached) (o p : Outcome) → ended o ≡ ended p → Reaches bs b base k r o → Reaches bs b base k r p
reaches_ended bs b base k r o p e z = open_up (subst (Reaches bs b base k r) e (record { lent = z.lent; lies = z.lies; standing = z.standing; last = z.last; refused = z.refused; at = z.at }))
  where
    open_up : Reaches bs b base k r (ended p) → Reaches bs b base k r p
    open_up y = record { lent = y.lent; lies = y.lies; standing = y.standing; last = y.last; refused = y.refused; at = y.at }

module _ (bs : List ℤ) (b : Built) (base : List (List ℕ)) (f : File) (k : Kept) (at : Reached) (z : Reaches bs b base k at (outcome f [] 0 at.at))
    (input : List ℕ) (h : at.at < length input) (next : Next) (made : next ≡ next_at at.standing input at.at) where
  found : next_at (standing f) input at.at ≡ next
  found = ap (λ (s : Standing). next_at s input at.at) (sym z.standing) ∙ sym made

  -- It is refused.
  pub next_refused : (n : ℕ) → next ≡ Refused n → (o : Reached) → o.rings ≡ at.rings → o.standing ≡ at.standing → o.last ≡ at.last → o.refused ≡ n → o.at ≡ at.at
      → Reaches bs b base k o (read_at 1 input at.at f)
  next_refused n e o er es el en ea =
      subst (Reaches bs b base k o) (sym (refused_next input at.at f h n (found ∙ e)))
      (record {
        lent = z.lent;
        lies = subst (Lies base f k) (sym er) z.lies;
        standing = es ∙ z.standing;
        last = el ∙ z.last;
        refused = en;
        at = ea;
      })

  -- It can be taken.
  pub next_passed : (r : Record) → next ≡ Taken r → refusal f r ≡ 0
  next_passed r e = (taken_next input at.at f h r (found ∙ e)).0

  pub next_asks : (r : Record) → next ≡ Taken r → Asks r
  next_asks r e = only_asks bs b f z.lent r (known_next input at.at f h r (found ∙ e)) (next_passed r e)

  pub next_taken : (r : Record) → next ≡ Taken r → (m : Kept) (o : Reached) (behind : ℕ) → behind ≡ at.at + 1 + body_length (kind_at input at.at)
      → Reaches bs b base m o (outcome (apply f r) [] 0 behind) → Reaches bs b base m o (read_at 1 input at.at f)
  next_taken r e m o n q y =
      reaches_ended bs b base m o (outcome (apply f r) [] 0 n) (read_at 1 input at.at f)
      (ap (outcome (apply f r) [] 0) q ∙ sym (taken_next input at.at f h r (found ∙ e)).2) y

-- ---- THE LOOP: the records from here on are those from the start.

pub record Loops (input : List ℕ) (bs : List ℤ) (b : Built) (k₀ : Kept) (r₀ : Reached) (k : Kept) (r : Reached) : Type 0 where
  pub so_far : (f : File) (base : List (List ℕ)) → Reaches bs b base k₀ r₀ (outcome f [] 0 r₀.at)
      → (g : File) × Reaches bs b base k r (outcome g [] 0 r.at) × (ended (read_at (length input) input r.at g) ≡ ended (read_at (length input) input r₀.at f))

module _ (input : List ℕ) (bs : List ℤ) (b : Built) (k₀ : Kept) (r₀ : Reached) where
  pub loops_first : Loops input bs b k₀ r₀ k₀ r₀
  loops_first = record { so_far = λ f base z. (f, z, refl) }

  module _ (k : Kept) (r : Reached) (l : Loops input bs b k₀ r₀ k r) where
    pub loops_end : length input ≤ r.at → (f : File) (base : List (List ℕ)) → Reaches bs b base k₀ r₀ (outcome f [] 0 r₀.at)
        → Reaches bs b base k r (read_at (length input) input r₀.at f)
    loops_end h f base z =
        let a = l.so_far f base z in
        reaches_ended bs b base k r (outcome a.0 [] 0 r.at) (read_at (length input) input r₀.at f) (ap ended (sym (read_none (length input) input r.at a.0 h)) ∙ a.2) a.1

    -- One more was served.
    module _ (h : r.at < length input) (m : Kept) (o : Reached)
        (made : (f : File) (base : List (List ℕ)) → Reaches bs b base k r (outcome f [] 0 r.at) → Reaches bs b base m o (read_at 1 input r.at f)) where
      pub loops_stop : (o.refused ≡ 0 → ⊥) → (f : File) (base : List (List ℕ)) → Reaches bs b base k₀ r₀ (outcome f [] 0 r₀.at)
          → Reaches bs b base m o (read_at (length input) input r₀.at f)
      loops_stop s f base z =
          let a = l.so_far f base z in
          let y = made a.0 base a.1 in
          reaches_ended bs b base m o (read_at 1 input r.at a.0) (read_at (length input) input r₀.at f)
          (sym (read_stops input r.at a.0 h (λ e. s (y.refused ∙ e))) ∙ a.2) y

      goes : o.refused ≡ 0 → (f : File) (base : List (List ℕ)) → Reaches bs b base m o (read_at 1 input r.at f) → (read_at 1 input r.at f).refused ≡ 0
      goes e f base y = sym y.refused ∙ e

      pub loops_next : o.refused ≡ 0 → Loops input bs b k₀ r₀ m o
      loops_next e = record {
        so_far = λ f base z.
            let a = l.so_far f base z in
            let y = made a.0 base a.1 in
            let one = read_at 1 input r.at a.0 in
            let q = goes e a.0 base y in (
              one.file,
              record { lent = y.lent; lies = y.lies; standing = y.standing; last = y.last; refused = e; at = refl },
              ap (λ (n : ℕ). ended (read_at (length input) input n one.file)) y.at ∙ sym (read_goes input r.at a.0 h q).1 ∙ a.2,
            );
      }

      pub loops_less : o.refused ≡ 0 → (f : File) (base : List (List ℕ)) → Reaches bs b base k₀ r₀ (outcome f [] 0 r₀.at) → length input - o.at < length input - r.at
      loops_less e f base z =
          let a = l.so_far f base z in
          let y = made a.0 base a.1 in
          omega (arith, y.at, (read_goes input r.at a.0 h (goes e a.0 base y)).0)
