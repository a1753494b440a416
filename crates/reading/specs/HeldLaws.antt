-- Each record that is taken keeps what the buffers hold; reading one record, and the next ones.
use Rattle.std.specs.Prelude.{ℕ, zero, suc, ◌+◌, ◌-◌, ◌<◌, ◌≤◌, Bool, not, ◌||◌, get_or, drop, set, ℤ, eqb, ltb, ◌⊎◌, ◌≢◌}
use Rattle.std.proofs.Common.{arith, ◌∙◌, drop_of_length-le, length-append, length-set, drop-cons, drop-drop, inl, inr, ⊎_elim}
use Rattle.std.proofs.Math.Path.{◌≡◌, refl, sym, ap, ap₂, subst}
use Rattle.std.proofs.Math.Bool.{true, false}
use mathlib.Core.List.{List, [], ◌∷◌, ◌++◌, map}
use Rattle.std.proofs.Math.ListN.{length}
use Rattle.std.proofs.lemmas.List.{length-map}
use borrow.Author.Tests.{lt-ltb, ltb-false, ne_eqb, not-false}
use Rattle.base.specs.TestLaws.{or-false, true-false, unequal, contrary}
use Rattle.numeric.specs.Threshold.{term, Threshold, Job}
use Rattle.numeric.specs.Area.{Entry, plain, area, joined, weight_of_area, rounded, weighed, weighed_threshold, Draft, job_of}
use Rattle.numeric.proofs.AreaLaws.{joined-plain, joined_area, joined_long}
use Rattle.memory.specs.Limits.{max_nodes, max_terms, max_thresholds, list_terms}
use Rattle.memory.specs.Buffers.{Raw, raw_lists, raw}
use Rattle.base.specs.Laid.{numbers, join_all, ends, pairs}
use Rattle.base.specs.Parts.{start_by}
use Rattle.rows.specs.Guards.{node_at}
use Rattle.job.specs.JobBuffers.{raw_of}
use Rattle.records.specs.declared.Standing.{Standing}
use Rattle.records.specs.declared.Record.{Record}
use Rattle.records.specs.declared.Record.TheVariants.{Header, Opens, Adds, Areas, Seal, Mark, Settle, Sift, Unknown}
use Rattle.records.specs.Record.{kind_of, body_length}
use Rattle.checks.specs.Next.{Refused, Taken, closing, next_at, entry_condition, entry_figure, EntryNext}
use Rattle.records.specs.At.{record_in}
use Rattle.records.specs.Facts.{within, serving, action, facts}
use Rattle.checks.specs.Checks.{wrong_turn, unknown_kind, refused_by, refused_at}
use Rattle.checks.specs.CheckLaws.{Passes, passes, next_unknown, was_refused, was_taken, taken_passes, taken_whole, known_record}
use Rattle.job.specs.Job.{last_node_of, last_list, all_terms, standing_of}
use Rattle.job.specs.Taken.{opened_by, added_to, with_threshold, with_term, weighing, with_weight}
use Rattle.job.specs.Gathered.{Gathered, Opened, Added, open_start, Joinable, FirstArea, MoreArea, AreaTaken, first, more}
use Rattle.job.specs.JobLaws.{map_end, list_more, length_on, list_on, all_on, all_added, job_opened, last_weighed, node_weighed, job_added, standing_opened, standing_added}
use Rattle.job.specs.GatheredLaws.{gathered_none}
use Rattle.gather.specs.TakenLaws.{opened_gathered, added_gathered, term_open, counts-left}
use Rattle.gather.specs.JoinLaws.{opened_joinable, added_joinable, area_named, reweighed_gathered}
use Rattle.gather.specs.RawLaws.{raw_opened, raw_added, raw-weighed}
use Rattle.files.specs.declared.JobRead.{JobRead}
use Rattle.files.specs.File.{File, contradicted, standing, no_job, begun, with_draft, act, apply, refusal_at}
use Rattle.files.specs.FileLaws.{zero_or}
use Rattle.files.specs.JobPart.{JobPart, job_part, read_job, job_part_from, job_part_of}
use Rattle.files.specs.JobPartLaws.{job_refused, job_sealing, job_next}
use Rattle.reading.specs.Held.{headed, read_to, blank, Room, any_open, OfJob, NextOfJob, Held, no_entry, Noted, Reading, Unnoted, Takes, HeldPart, ReadPart, Reads, Going, GoesFrom, ReadsOn, ReadsJob}
use Rattle.reading.specs.NotedLaws.{add_new, add_old, rounded-set, noted_none, unnoted_joinable, noted_plain, no_first, noted_first, stands_there, spot_inside, only_one, noted_more}

-- ---- one record that is taken

-- A job of no thresholds lies nowhere.
words_none : (m n : ℕ) (w : Raw) → raw_of (no_job m) w ≡ raw_of (no_job n) w
unfolding raw_of
words_none m n w = refl

open_turn : (a : Bool) → a ≡ false → a || false ≡ false
open_turn true e = e
open_turn false e = refl

module _ (f : File) (w : Raw) (room : Room w) (s : Standing) (cs ws : List ℕ) (ts : List (List ℕ)) (bs : List ℤ) (ps ss : List ℕ) (g : Reading f w s cs ws ts bs ps ss) where
  abbrev h : Held f w s cs ws ts bs
  h = g.held

  abbrev now : Draft
  now = f.draft

  abbrev us : List Threshold
  us = (job_of now).thresholds

  abbrev open_list : List Entry
  open_list = last_list now.thresholds

  same-many : length us ≡ length now.thresholds
  same-many = length-map now.thresholds weighed_threshold

  many : s.thresholds ≡ length us
  many = ap (λ (x : Standing). x.thresholds) h.stands ∙ sym same-many

  all : s.raw_terms ≡ all_terms us
  all = ap (λ (x : Standing). x.raw_terms) h.stands

  pub held_header : (n : ℕ) → refused_by s (Header n) ≡ 0 → Reading (apply f (Header n)) w (headed s n) cs ws ts bs ps ss
  unfolding apply act last_node_of last_list all_terms numbers joined start_by
  held_header n e = record {
    held = record {
      stands = ap (λ (x : Standing). headed x n) h.stands;
      words = h.words ∙ ap (λ (j : Job). raw_of j w) first-job ∙ first-words;
      job = refl;
      gathered = gathered_none (headed s n) cs ws ts bs (ltb-false max_nodes n p.room) refl refl h.gathered.termed.conditions h.gathered.termed.weights h.gathered.listed.room h.gathered.bounded.room;
      unstarted = λ q. refl;
      unserved = λ q. absurd (unequal cc);
      fewer = let l = h.fewer in let e = ap length no-thresholds in omega (arith, l, e);
      opened = λ q. absurd (let b : ◌≡◌ {A = Bool} true false = (or-false f.sealed true q).1 in unequal cc);
    };
    joinable = noting;
    noted = λ q. noted_none (headed s n) ts ps ss noting refl;
  }
    where
      p : Passes s (facts (action (Header n)))
      p = passes s (facts (action (Header n))) e

      j : Joinable s ts ps ss
      j = g.joinable

      no-thresholds : f.draft.thresholds ≡ []
      no-thresholds = h.unstarted (sym (ap (λ (x : Standing). x.started) h.stands) ∙ p.turn)

      first-job : job_of f.draft ≡ no_job f.draft.nodes
      first-job = λ i. record { nodes = f.draft.nodes; thresholds = map weighed_threshold (no-thresholds i) }

      first-words : raw_of (no_job f.draft.nodes) w ≡ raw_of (no_job n) w
      first-words = words_none f.draft.nodes n w

      clear : (c : ℕ) → get_or ps c 0 ≤ 0
      clear c =
          let q = all ∙ ap (λ (i : Job). all_terms i.thresholds) first-job in
          let l = j.behind c in omega (arith, q, l)

      noting : Joinable (headed s n) ts ps ss
      noting = record { places = j.places; sums = j.sums; behind = λ c. clear c; small = λ c q. absurd (let z = clear c in omega (arith, z, q)) }

  -- The file was started.
  begun-by : (e : Bool) → not s.started || s.sealed || e ≡ false → f.started ≡ true
  begun-by e q =
      let o = or-false (not s.started || s.sealed) e q in
      let a = or-false (not s.started) s.sealed o.0 in
      sym (ap (λ (x : Standing). x.started) h.stands) ∙ not-false s.started a.0

  pub held_opens : (n : ℕ) (b : ℤ) → refused_by s (Opens n b) ≡ 0 → (r : Standing) (ts' : List (List ℕ)) (bs' : List ℤ) → Opened s n b ts bs r ts' bs'
      → Reading (apply f (Opens n b)) w r cs ws ts' bs' ps ss
  unfolding apply act joined
  held_opens n b e r ts' bs' o = record {
    held = record {
      stands = o.standing ∙ ap (λ (x : Standing). opened_by x n) h.stands ∙ ap (λ (t : Bool). opened_by (standing_of t f.sealed (contradicted f) now (length f.answers)) n) started
          ∙ sym (standing_opened true f.sealed (contradicted f) now (length f.answers) n b);
      words =
          ap₂ (λ (l : List (List ℕ)) (z : List ℤ). raw (raw_lists cs ws l) z) o.thresholds o.bounds
          ∙ ap (λ (x : Raw). raw (raw_lists x.lists.raw-conditions x.lists.raw-weights (set x.lists.thresholds s.thresholds (n ∷ s.raw_terms ∷ []))) (set x.bounds s.thresholds b)) h.words
          ∙ ap₂ (λ (k m : ℕ). raw (raw_lists held-so.lists.raw-conditions held-so.lists.raw-weights (set held-so.lists.thresholds k (n ∷ m ∷ []))) (set held-so.bounds k b)) many all
          ∙ raw_opened (job_of now) w n b (omega (arith, few, many, room.thresholds)) (omega (arith, few, many, room.bounds))
          ∙ ap (λ (j : Job). raw_of j w) (sym (job_opened now n b));
      job = o.job cs ws ∙ ap (λ (j : Job). with_threshold j n b) h.job ∙ sym (job_opened now n b);
      gathered = opened_gathered s n b cs ws ts bs r ts' bs' h.gathered o;
      unstarted = λ q. absurd (unequal cc);
      unserved = λ q. absurd (unequal cc);
      fewer = let l = longer in omega (arith, l);
      opened = λ q. lt-ltb (length f.closed.thresholds) (length (with_threshold now n b).thresholds) longer;
    };
    joinable = opens-so.1 ps ss g.joinable;
    noted = λ q.
        subst (λ (l : List Entry). Noted (joined l) r ts' ps ss) (sym (list_more (record { node = n; bound = b; terms = [] }) now.thresholds))
        (noted_none r ts' ps ss (opens-so.1 ps ss g.joinable) (opens-so.0 ∙ sym (ap (λ (x : Standing). x.raw_terms) o.standing)));
  }
    where
      held-so : Raw
      held-so = raw_of (job_of now) w

      longer : length f.closed.thresholds < length (with_threshold now n b).thresholds
      longer = let l = length-append now.thresholds (record { node = n; bound = b; terms = [] } ∷ []) in omega (arith, l, h.fewer)

      started : f.started ≡ true
      started = begun-by false (open_turn (not s.started || s.sealed) (passes s (facts (action (Opens n b))) e).turn)

      few : s.thresholds + 1 ≤ max_thresholds
      few = subst (λ (k : ℕ). k ≤ max_thresholds) (ap (λ (x : Standing). x.thresholds) o.standing) o.listed.many

      opens-so : (open_start r ts' ≡ s.raw_terms) × ((qs zs : List ℕ) → Joinable s ts qs zs → Joinable r ts' qs zs)
      opens-so = opened_joinable s n b ts bs h.gathered.listed h.gathered.bounded e r ts' bs' o

  -- An entry that passed its checks. A term and an area are checked alike.
  module _ (c v : ℕ) (e : refused_by s (Adds c v) ≡ 0) where
    started : f.started ≡ true
    started = begun-by (eqb s.thresholds 0) (passes s (facts (action (Adds c v))) e).turn

    -- a threshold is open, and stays so
    is_open : any_open f ≡ true
    is_open = h.opened (sym (ap (λ (x : Standing). wrong_turn x within) h.stands) ∙ (passes s (facts (action (Adds c v))) e).turn)

    noted-so : Noted (joined open_list) s ts ps ss
    noted-so = g.noted is_open

    as_many : (x : Entry) → length (with_term now x).thresholds ≡ length now.thresholds
    as_many x = length_on (λ l. l ++ (x ∷ [])) now.thresholds

    still-fewer : (x : Entry) → length f.closed.thresholds ≤ length (with_term now x).thresholds
    still-fewer x = let l = as_many x in omega (arith, l, h.fewer)

    still_open : (x : Entry) → ltb (length f.closed.thresholds) (length (with_term now x).thresholds) ≡ true
    still_open x = ap (ltb (length f.closed.thresholds)) (as_many x) ∙ is_open

    open-one : s.thresholds ≡ s.thresholds - 1 + 1
    open-one = term_open s c v cs ws ts h.gathered.listed h.gathered.termed e

    some : 0 < length now.thresholds
    some = let m = many in let k = same-many in let q = open-one in omega (arith, m, k, q)

    stands-so : (x : Entry) (n : ℕ) → all_terms (job_of (with_term now x)).thresholds ≡ n → (r : Standing) → r ≡ added_to s n → r ≡ standing (with_draft f (with_term now x))
    stands-so x n q r k =
        k ∙ ap (λ (y : Standing). added_to y n) h.stands ∙ ap (λ (t : Bool). added_to (standing_of t f.sealed (contradicted f) now (length f.answers)) n) started
        ∙ sym (standing_added true f.sealed (contradicted f) now (length f.answers) x n some q)

    -- one entry more
    module _ (x : Entry) (u : ℕ) (goes : weighed (open_list ++ (x ∷ [])) ≡ weighed open_list ++ (term c u ∷ []))
        (r : Standing) (cs' ws' : List ℕ) (ts' : List (List ℕ)) (o : Added s c u cs ws ts r cs' ws' ts') where
      job-so : job_of (with_term now x) ≡ with_term (job_of now) (term c u)
      job-so = job_added now x (λ l. l ++ (term c u ∷ [])) goes

      node : node_at ts (s.thresholds - 1) ≡ last_node_of us
      node =
          h.gathered.listed.last (s.thresholds - 1) (sym open-one) ∙ ap (λ (y : Standing). y.last_node) h.stands ∙ sym (node_weighed now.thresholds)

      few : s.raw_terms + 1 ≤ max_terms
      few = subst (λ (k : ℕ). k ≤ max_terms) (ap (λ (y : Standing). y.raw_terms) o.standing) o.listed.terms

      held-entry : Held (with_draft f (with_term now x)) w r cs' ws' ts' bs
      held-entry = record {
        stands = stands-so x (s.raw_terms + 1)
            (ap (λ (j : Job). all_terms j.thresholds) job-so ∙ all_added (term c u) us (let m = many in let q = open-one in omega (arith, m, q)) ∙ ap (λ (n : ℕ). n + 1) (sym all)) r o.standing;
        words =
            (λ i. raw (raw_lists (o.conditions i) (o.weights i) (o.thresholds i)) bs)
            ∙ (λ i. raw (raw_lists (set cs s.raw_terms c) (set ws s.raw_terms u) (set ts (s.thresholds - 1) (node i ∷ (s.raw_terms + 1) ∷ []))) bs)
            ∙ ap (λ (y : Raw). raw (raw_lists (set y.lists.raw-conditions s.raw_terms c) (set y.lists.raw-weights s.raw_terms u) (set y.lists.thresholds (s.thresholds - 1) (last_node_of us ∷ (s.raw_terms + 1) ∷ []))) y.bounds) h.words
            ∙ ap (λ (m : ℕ). raw (raw_lists (set (raw_of (job_of now) w).lists.raw-conditions m c) (set (raw_of (job_of now) w).lists.raw-weights m u) (set (raw_of (job_of now) w).lists.thresholds (s.thresholds - 1) (last_node_of us ∷ (m + 1) ∷ []))) (raw_of (job_of now) w).bounds) all
            ∙ raw_added (job_of now) w (term c u) (s.thresholds - 1) (omega (arith, many, open-one)) (omega (arith, all, few, room.conditions)) (omega (arith, all, few, room.weights))
            ∙ ap (λ (j : Job). raw_of j w) (sym job-so);
        job = o.job bs ∙ ap (λ (j : Job). with_term j (term c u)) h.job ∙ sym job-so;
        gathered = added_gathered s c u cs ws ts bs r cs' ws' ts' h.gathered o;
        unstarted = λ q. absurd (unequal cc);
        unserved = λ q. absurd (unequal cc);
        fewer = still-fewer x;
        opened = λ q. still_open x;
      }

    -- The list that is open then.
    open-then : (x : Entry) → last_list (with_term now x).thresholds ≡ open_list ++ (x ∷ [])
    open-then x = list_on (λ l. l ++ (x ∷ [])) now.thresholds some

    pub held_adds : (r : Standing) (cs' ws' : List ℕ) (ts' : List (List ℕ)) → Added s c v cs ws ts r cs' ws' ts' → Reading (apply f (Adds c v)) w r cs' ws' ts' bs ps ss
    unfolding apply act
    held_adds r cs' ws' ts' o = record {
      held = held-entry (plain c v) v (ap (map rounded) (joined-plain c v open_list) ∙ map_end rounded (joined open_list) (plain c v)) r cs' ws' ts' o;
      joinable = so.1 ps ss g.joinable;
      noted = λ q.
          subst (λ (l : List Entry). Noted l r ts' ps ss) (sym (ap joined (open-then (plain c v)) ∙ joined-plain c v open_list))
          (noted_plain (joined open_list) s ts ps ss noted-so r ts' (so.1 ps ss g.joinable) so.0 (ap (λ (y : Standing). y.raw_terms) o.standing) c v);
    }
      where
        so : (open_start r ts' ≡ open_start s ts) × ((qs zs : List ℕ) → Joinable s ts qs zs → Joinable r ts' qs zs)
        so = added_joinable s c v cs ws ts h.gathered.listed h.gathered.termed e v r cs' ws' ts' o

    -- the open list has room for one more
    short-list : length (joined open_list) < list_terms
    short-list =
        let k = (counts-left s c v cs ws ts h.gathered.listed h.gathered.termed e).0 in
        let q = ap (λ (y : Standing). y.last_terms) h.stands in
        let l = joined_long open_list in omega (arith, k, q, l)

    named : c < length ps
    named = area_named s c v cs ws ts ps ss h.gathered.listed h.gathered.termed g.joinable e

    held_first : (a : ℕ) (r : Standing) (cs' ws' : List ℕ) (ts' : List (List ℕ)) (ps' ss' : List ℕ) → FirstArea s c a cs ws ts ps ss r cs' ws' ts' ps' ss'
        → Reading (apply f (Areas c a)) w r cs' ws' ts' bs ps' ss'
    unfolding apply act
    held_first a r cs' ws' ts' ps' ss' o = record {
      held = held-entry (area c a) (weight_of_area a) (ap (map rounded) one ∙ map_end rounded (joined open_list) (area c a)) r cs' ws' ts' o.added;
      joinable = so.joinable;
      noted = λ q. subst (λ (l : List Entry). Noted l r ts' ps' ss') (sym (ap joined (open-then (area c a)) ∙ one)) so;
    }
      where
        same : open_start r ts' ≡ open_start s ts
        same = (added_joinable s c v cs ws ts h.gathered.listed h.gathered.termed e (weight_of_area a) r cs' ws' ts' o.added).0

        room-there : length (joined open_list) < length ss
        room-there = let k = short-list in omega (arith, k, g.joinable.sums)

        so : Noted (joined open_list ++ (area c a ∷ [])) r ts' ps' ss'
        so = noted_first (joined open_list) s c a cs ws ts ps ss noted-so r cs' ws' ts' ps' ss' o named room-there same

        one : joined (open_list ++ (area c a ∷ [])) ≡ joined open_list ++ (area c a ∷ [])
        one =
            joined_area c a open_list
            ∙ add_new c a (joined open_list) (no_first (joined open_list) s c a cs ws ts ps ss noted-so r cs' ws' ts' ps' ss' o named room-there same)

    held_more : (a : ℕ) (r : Standing) (ws' ss' : List ℕ) → MoreArea s c a cs ws ts ps ss r ws' ss' → Reading (apply f (Areas c a)) w r cs ws' ts bs ps ss'
    unfolding apply act
    held_more a r ws' ss' o = record {
      held = record {
        stands = stands-so (area c a) s.raw_terms (ap (λ (j : Job). all_terms j.thresholds) job-so ∙ same-all ∙ sym all) r o.reweighed.standing;
        words =
            ap (λ (l : List ℕ). raw (raw_lists cs l ts) bs) o.reweighed.weights
            ∙ ap (λ (y : Raw). raw (raw_lists y.lists.raw-conditions (set y.lists.raw-weights at weight) y.lists.thresholds) y.bounds) h.words
            ∙ ap (λ (m : ℕ). raw (raw_lists (raw_of (job_of now) w).lists.raw-conditions (set (raw_of (job_of now) w).lists.raw-weights m weight) (raw_of (job_of now) w).lists.thresholds) (raw_of (job_of now) w).bounds) at-spot
            ∙ raw-weighed (job_of now) w (open_start s ts) spot weight (let l = listed-long in let q = all in omega (arith, l, q, n.long)) (let l = listed-long in let k = inside in omega (arith, l, k))
            ∙ ap (λ (j : Job). raw_of j w) (sym job-so);
        job = o.reweighed.job bs ∙ ap (λ (j : Job). with_weight j spot weight) h.job ∙ sym job-so;
        gathered = reweighed_gathered s at weight cs ws ts bs r ws' h.gathered o.reweighed;
        unstarted = λ q. absurd (unequal cc);
        unserved = λ q. absurd (unequal cc);
        fewer = still-fewer (area c a);
        opened = λ q. still_open (area c a);
      };
      joinable = o.joinable;
      noted = λ q. subst (λ (l : List Entry). Noted l r ts ps ss') (sym (ap joined (open-then (area c a)) ∙ one)) (noted_more (joined open_list) s c a cs ws ts ps ss n r ws' ss' o wide);
    }
      where
        n : Noted (joined open_list) s ts ps ss
        n = noted-so

        wide : length (joined open_list) ≤ length ss
        wide = let k = short-list in omega (arith, k, g.joinable.sums)

        at : ℕ
        at = get_or ps c 0 - 1

        spot : ℕ
        spot = get_or ps c 0 - 1 - open_start s ts

        weight : ℕ
        weight = weight_of_area (get_or ss spot 0 + a)

        at-spot : at ≡ open_start s ts + spot
        at-spot = let t = o.there in omega (arith, t)

        inside : spot < length (joined open_list)
        inside = spot_inside (joined open_list) s c a cs ws ts ps ss n r ws' ss' o wide

        there : get_or (joined open_list) spot no_entry ≡ area c (get_or ss spot 0)
        there = stands_there (joined open_list) s c a cs ws ts ps ss n r ws' ss' o wide

        one : joined (open_list ++ (area c a ∷ [])) ≡ set (joined open_list) spot (area c (get_or ss spot 0 + a))
        one =
            joined_area c a open_list
            ∙ add_old c a (joined open_list) spot (get_or ss spot 0) there (only_one (joined open_list) s c a cs ws ts ps ss n r ws' ss' o wide)

        goes : weighed (open_list ++ (area c a ∷ [])) ≡ weighing spot weight (weighed open_list)
        goes = ap (map rounded) one ∙ rounded-set (joined open_list) spot c (get_or ss spot 0) (get_or ss spot 0 + a) there

        job-so : job_of (with_term now (area c a)) ≡ with_weight (job_of now) spot weight
        job-so = job_added now (area c a) (weighing spot weight) goes

        listed-long : length (last_list us) ≡ length (joined open_list)
        listed-long = ap length (last_weighed now.thresholds) ∙ length-map (joined open_list) rounded

        same-all : all_terms (with_weight (job_of now) spot weight).thresholds ≡ all_terms us
        same-all =
            let q = all_on (weighing spot weight) us (let m = many in let k = open-one in omega (arith, m, k)) in
            let l = length-set (last_list us) spot (term (get_or (last_list us) spot (term 0 0)).condition weight) in omega (arith, q, l)

    held-area : (a : ℕ) (r : Standing) (cs' ws' : List ℕ) (ts' : List (List ℕ)) (ps' ss' : List ℕ) → AreaTaken s c a cs ws ts ps ss r cs' ws' ts' ps' ss'
        → Reading (apply f (Areas c a)) w r cs' ws' ts' bs ps' ss'
    held-area a r cs' ws' ts' ps' ss' (first o) = held_first a r cs' ws' ts' ps' ss' o
    held-area a r cs' ws' ts' ps' ss' (more o ec et ep) =
        subst (λ (l : List ℕ). Reading (apply f (Areas c a)) w r l ws' ts' bs ps' ss') (sym ec)
        (subst (λ (l : List (List ℕ)). Reading (apply f (Areas c a)) w r cs ws' l bs ps' ss') (sym et)
        (subst (λ (l : List ℕ). Reading (apply f (Areas c a)) w r cs ws' ts bs l ss') (sym ep) (held_more a r ws' ss' o)))

-- Behind an entry marks, settles and sifts are not in their turn.

within_unsealed : (s : Standing) → wrong_turn s within ≡ false → wrong_turn s serving ≡ true
within_unsealed s e = ap not (or-false (not s.started) s.sealed (or-false (not s.started || s.sealed) (eqb s.thresholds 0) e).0).1

area_kept : (s : Standing) (c a : ℕ) (cs ws : List ℕ) (ts : List (List ℕ)) (ps ss : List ℕ) (r : Standing) (cs' ws' : List ℕ) (ts' : List (List ℕ)) (ps' ss' : List ℕ)
    → AreaTaken s c a cs ws ts ps ss r cs' ws' ts' ps' ss' → wrong_turn r serving ≡ wrong_turn s serving
area_kept s c a cs ws ts ps ss r cs' ws' ts' ps' ss' (first o) = ap (λ (t : Standing). wrong_turn t serving) o.added.standing
area_kept s c a cs ws ts ps ss r cs' ws' ts' ps' ss' (more o ec et ep) = ap (λ (t : Standing). wrong_turn t serving) o.reweighed.standing

-- THE RECORD TAKEN, by what it was found to be
module _ (x : Record) (s : Standing) (cs ws : List ℕ) (ts : List (List ℕ)) (bs : List ℤ) (ps ss : List ℕ) (none : refused_by s x ≡ 0) where
  pub takes_header : (n : ℕ) → x ≡ Header n → (r : Standing) → r ≡ headed s n → Takes x s cs ws ts bs ps ss r cs ws ts bs ps ss
  takes_header n e r q = record {
    done = λ f w room h.
        subst (λ (y : Record). Reading (apply f y) w r cs ws ts bs ps ss) (sym e)
        (subst (λ (t : Standing). Reading (apply f (Header n)) w t cs ws ts bs ps ss) (sym q) (held_header f w room s cs ws ts bs ps ss h n (sym (ap (refused_by s) e) ∙ none)));
    building = λ f w h.
        ap (λ (t : Standing). wrong_turn t serving) (q ∙ ap (λ (t : Standing). headed t n) h.held.stands)
        ∙ h.held.unserved (sym (ap (λ (t : Standing). t.started) h.held.stands) ∙ (passes s (facts (action (Header n))) (sym (ap (refused_by s) e) ∙ none)).turn);
  }

  pub takes_opens : (n : ℕ) (b z : ℤ) → x ≡ Opens n b → z ≡ b → (r : Standing) (ts' : List (List ℕ)) (bs' : List ℤ) → Opened s n z ts bs r ts' bs'
      → Takes x s cs ws ts bs ps ss r cs ws ts' bs' ps ss
  takes_opens n b z e q r ts' bs' o = record {
    done = λ f w room h.
        subst (λ (y : Record). Reading (apply f y) w r cs ws ts' bs' ps ss) (sym e)
        (held_opens f w room s cs ws ts bs ps ss h n b (sym (ap (refused_by s) e) ∙ none) r ts' bs' (subst (λ (y : ℤ). Opened s n y ts bs r ts' bs') q o));
    building = λ f w h.
        ap (λ (t : Standing). wrong_turn t serving) o.standing
        ∙ ap not (or-false (not s.started) s.sealed (passes s (facts (action (Opens n b))) (sym (ap (refused_by s) e) ∙ none)).turn).1;
  }

  pub takes_adds : (c v : ℕ) → x ≡ Adds c v → (r : Standing) (cs' ws' : List ℕ) (ts' : List (List ℕ)) → Added s c v cs ws ts r cs' ws' ts'
      → Takes x s cs ws ts bs ps ss r cs' ws' ts' bs ps ss
  takes_adds c v e r cs' ws' ts' o = record {
    done = λ f w room h.
        subst (λ (y : Record). Reading (apply f y) w r cs' ws' ts' bs ps ss) (sym e)
        (held_adds f w room s cs ws ts bs ps ss h c v (sym (ap (refused_by s) e) ∙ none) r cs' ws' ts' o);
    building = λ f w h.
        ap (λ (t : Standing). wrong_turn t serving) o.standing ∙ within_unsealed s (passes s (facts (action (Adds c v))) (sym (ap (refused_by s) e) ∙ none)).turn;
  }

  pub takes_areas : (c a v : ℕ) → x ≡ Areas c a → v ≡ a → (r : Standing) (cs' ws' : List ℕ) (ts' : List (List ℕ)) (ps' ss' : List ℕ) → AreaTaken s c v cs ws ts ps ss r cs' ws' ts' ps' ss'
      → Takes x s cs ws ts bs ps ss r cs' ws' ts' bs ps' ss'
  takes_areas c a v e q r cs' ws' ts' ps' ss' o = record {
    done = λ f w room h.
        subst (λ (y : Record). Reading (apply f y) w r cs' ws' ts' bs ps' ss') (sym e)
        (held-area f w room s cs ws ts bs ps ss h c a (sym (ap (refused_by s) e) ∙ none) a r cs' ws' ts' ps' ss' (subst (λ (y : ℕ). AreaTaken s c y cs ws ts ps ss r cs' ws' ts' ps' ss') q o));
    building = λ f w h. area_kept s c v cs ws ts ps ss r cs' ws' ts' ps' ss' o ∙ within_unsealed s (passes s (facts (action (Areas c a))) (sym (ap (refused_by s) e) ∙ none)).turn;
  }

  -- No other record comes here: a seal closes, and the others are of no job.
  pub takes_seal : x ≡ Seal → closing (action x) ≡ false → Takes x s cs ws ts bs ps ss s cs ws ts bs ps ss
  takes_seal e c =
      let b : ◌≡◌ {A = Bool} true false = sym (ap (λ (y : Record). closing (action y)) e) ∙ c in
      absurd (unequal cc)

  pub takes_other : (y : Record) → x ≡ y → OfJob x → (OfJob y → ⊥) → Takes x s cs ws ts bs ps ss s cs ws ts bs ps ss
  takes_other y e t u = absurd (u (subst (λ (z : Record). OfJob z) e t))

-- A known kind makes a record.

-- WHERE MARKS, SETTLES AND SIFTS ARE NOT IN THEIR TURN, what comes next is of a job.
module _ (s : Standing) (bytes : List ℕ) (o : ℕ) (u : wrong_turn s serving ≡ true) where
  not-serving : (y : Record) → Taken y ≡ next_at s bytes o → (facts (action y)).turn ≡ serving → ⊥
  not-serving y e t =
      let q = was_taken s bytes o y e in
      let p = passes s (facts (action y)) (ap (refused_by s) q.1 ∙ taken_passes s bytes o q.0) in
      let b : ◌≡◌ {A = Bool} true false = sym u ∙ sym (ap (wrong_turn s) t) ∙ p.turn in
      unequal cc

  is_known : (b : Bool) → unknown_kind (get_or bytes o 0) ≡ b → (y : Record) → Taken y ≡ next_at s bytes o → y ≡ Unknown → ⊥
  is_known true k y e q = let p = e ∙ sym (next_unknown s bytes o k) in unequal cc
  is_known false k y e q = known_record (get_or bytes o 0) (drop (o + 1) bytes) k (sym (was_taken s bytes o y e).1 ∙ q)

  pub builds_on : NextOfJob bytes o s
  builds_on (Header n) e = tt
  builds_on (Opens n b) e = tt
  builds_on (Adds c w) e = tt
  builds_on (Areas c a) e = tt
  builds_on Seal e = tt
  builds_on (Mark n v) e = not-serving (Mark n v) e refl
  builds_on Settle e = not-serving Settle e refl
  builds_on Sift e = not-serving Sift e refl
  builds_on Unknown e = is_known (unknown_kind (get_or bytes o 0)) refl Unknown e refl

-- What the next record says, if it is taken.
module _ (s : Standing) (bytes : List ℕ) (o : ℕ) (x : Record) (e : Taken x ≡ next_at s bytes o) where
  pub next_passes : refused_by s x ≡ 0
  next_passes = let q = was_taken s bytes o x e in ap (refused_by s) q.1 ∙ taken_passes s bytes o q.0

  pub next_whole : o < length bytes → o + 1 + body_length (kind_of (get_or bytes o 0)) ≤ length bytes
  next_whole h = taken_whole s bytes o (was_taken s bytes o x e).0 h

-- ONE RECORD

module _ (bytes : List ℕ) (o : ℕ) (inside : o < length bytes) where
  abbrev key : ℕ
  key = get_or bytes o 0

  abbrev rest : List ℕ
  rest = drop (o + 1) bytes

  abbrev size : ℕ
  size = body_length (kind_of key)

  split : drop o bytes ≡ key ∷ rest
  split = drop-cons bytes o 0 inside ∙ ap (λ (k : ℕ). key ∷ drop k bytes) {x = suc o} {y = o + 1} (omega arith)

  module _ (n : ℕ) (f : File) (taken : List Record) where
    at-refused : (refusal_at f key rest ≡ 0 → ⊥) → read_job (suc n) o (drop o bytes) f taken ≡ job_part f taken (refusal_at f key rest) o false
    at-refused z = ap (λ (l : List ℕ). read_job (suc n) o l f taken) split ∙ job_refused n o key rest f taken z

    at-sealing : refusal_at f key rest ≡ 0 → closing (action (record_in bytes o)) ≡ true → read_job (suc n) o (drop o bytes) f taken ≡ job_part f taken 0 o true
    at-sealing z c = ap (λ (l : List ℕ). read_job (suc n) o l f taken) split ∙ job_sealing n o key rest f taken z c

    at_next : refusal_at f key rest ≡ 0 → closing (action (record_in bytes o)) ≡ false
        → read_job (suc n) o (drop o bytes) f taken ≡ read_job n (o + 1 + size) (drop (o + 1 + size) bytes) (apply f (record_in bytes o)) (taken ++ (record_in bytes o ∷ []))
    at_next z c =
        ap (λ (l : List ℕ). read_job (suc n) o l f taken) split ∙ job_next n o key rest f taken z c
        ∙ ap (λ (l : List ℕ). read_job n (o + 1 + size) l (apply f (record_in bytes o)) (taken ++ (record_in bytes o ∷ []))) (drop-drop size (o + 1) bytes)

  one-next : (f : File) → refusal_at f key rest ≡ 0 → closing (action (record_in bytes o)) ≡ false
      → read_job 1 o (drop o bytes) f [] ≡ job_part (apply f (record_in bytes o)) (record_in bytes o ∷ []) 0 (o + 1 + size) false
  unfolding read_job
  one-next f z c = at_next 0 f [] z c

  -- What the code gives back, by what the next record is.
  module _ (f : File) (w : Raw) (s : Standing) (cs ws : List ℕ) (ts : List (List ℕ)) (bs : List ℤ) (ps ss : List ℕ) (h : Reading f w s cs ws ts bs ps ss) where
    abbrev part : JobPart
    part = read_job 1 o (drop o bytes) f []

    by-file : (x : ℕ) → refused_at s key rest ≡ x → refusal_at f key rest ≡ x
    by-file x e = sym (ap (λ (y : Standing). refused_at y key rest) h.held.stands) ∙ e

    pub read_refused : (x : ℕ) → Refused x ≡ next_at s bytes o → ReadPart part w (record { at = o; refusal = x; sealing = false; standing = s }) cs ws ts bs ps ss
    read_refused x e =
        let q = was_refused s bytes o x e in
        let v = by-file x q.0 in
        subst (λ (j : JobPart). ReadPart j w (record { at = o; refusal = x; sealing = false; standing = s }) cs ws ts bs ps ss)
        (sym (at-refused 0 f [] (λ z. q.1 (sym v ∙ z)) ∙ ap (λ (y : ℕ). job_part f [] y o false) v)) (record { part = record { refusal = refl; at = refl; sealing = refl; held = h.held }; joinable = h.joinable; noted = h.noted; building = λ z y. absurd (q.1 z) })

    module _ (x : Record) (e : Taken x ≡ next_at s bytes o) where
      same-record : x ≡ record_in bytes o
      same-record = (was_taken s bytes o x e).1

      pub read_sealing : closing (action x) ≡ true → ReadPart part w (record { at = o; refusal = 0; sealing = true; standing = s }) cs ws ts bs ps ss
      read_sealing c =
          subst (λ (j : JobPart). ReadPart j w (record { at = o; refusal = 0; sealing = true; standing = s }) cs ws ts bs ps ss)
          (sym (at-sealing 0 f [] (by-file 0 (was_taken s bytes o x e).0) (sym (ap (λ (y : Record). closing (action y)) same-record) ∙ c)))
          (record { part = record { refusal = refl; at = refl; sealing = refl; held = h.held }; joinable = h.joinable; noted = h.noted; building = λ z y. contrary y })

      pub read_next : closing (action x) ≡ false → (n : ℕ) → n ≡ size → (s' : Standing) (cs' ws' : List ℕ) (ts' : List (List ℕ)) (bs' : List ℤ) (ps' ss' : List ℕ) → Reading (apply f x) w s' cs' ws' ts' bs' ps' ss'
          → wrong_turn s' serving ≡ true → ReadPart part w (record { at = o + 1 + n; refusal = 0; sealing = false; standing = s' }) cs' ws' ts' bs' ps' ss'
      read_next c n en s' cs' ws' ts' bs' ps' ss' a t =
          subst (λ (j : JobPart). ReadPart j w (record { at = o + 1 + n; refusal = 0; sealing = false; standing = s' }) cs' ws' ts' bs' ps' ss')
          (sym (one-next f (by-file 0 (was_taken s bytes o x e).0) (sym (ap (λ (y : Record). closing (action y)) same-record) ∙ c)))
          (let b = subst (λ (y : Record). Reading (apply f y) w s' cs' ws' ts' bs' ps' ss') same-record a in
          record { part = record { refusal = refl; at = ap (λ (k : ℕ). o + 1 + k) en; sealing = refl; held = b.held }; joinable = b.joinable; noted = b.noted; building = λ z y. t })

-- A term or an area that comes next, by the numbers that were read of it.
module _ (bytes : List ℕ) (o : ℕ) (s : Standing) (t : EntryNext s bytes o) (c v : ℕ) (ec : c ≡ entry_condition bytes o) (ev : v ≡ entry_figure bytes o) where
  by_kind : (n : ℕ) → n ≢ 8 → (n ≡ 3) ⊎ (n ≡ 8) → n ≡ 3
  by_kind n f (inl e) = e
  by_kind n f (inr e) = absurd (f e)

  -- what it is, and how long its body
  module _ (x : Record) (next : Taken x ≡ next_at s bytes o) (goes : closing (action x) ≡ false) (long : 6 ≡ body_length (kind_of (get_or bytes o 0)))
      (cs ws : List ℕ) (ts : List (List ℕ)) (bs : List ℤ) (ps ss : List ℕ) (r : Standing) (cs' ws' : List ℕ) (ts' : List (List ℕ)) (ps' ss' : List ℕ)
      (k : Takes x s cs ws ts bs ps ss r cs' ws' ts' bs ps' ss') where
    read_one : Reads bytes o s cs ws ts bs ps ss (record { at = o + 1 + 6; refusal = 0; sealing = false; standing = r }) cs' ws' ts' bs ps' ss'
    read_one = record {
      part = λ f w room h.
          read_next bytes o (let q = t.whole in omega (arith, q)) f w s cs ws ts bs ps ss h x next goes 6 long r cs' ws' ts' bs ps' ss' (k.done f w room h) (k.building f w h);
    }

  module _ (other : get_or bytes o 0 ≢ 8) where
    is-term : get_or bytes o 0 ≡ 3
    is-term = by_kind (get_or bytes o 0) other t.kind

    term-comes : Taken (Adds c v) ≡ next_at s bytes o
    term-comes = (λ i. Taken (Adds (ec i) (ev i))) ∙ t.term is-term

    pub term_passes : refused_by s (Adds c v) ≡ 0
    term_passes = next_passes s bytes o (Adds c v) term-comes

    pub read_term : (cs ws : List ℕ) (ts : List (List ℕ)) (ps ss : List ℕ) (r : Standing) (cs' ws' : List ℕ) (ts' : List (List ℕ)) → Added s c v cs ws ts r cs' ws' ts' → (bs : List ℤ)
        → Reads bytes o s cs ws ts bs ps ss (record { at = o + 1 + 6; refusal = 0; sealing = false; standing = r }) cs' ws' ts' bs ps ss
    read_term cs ws ts ps ss r cs' ws' ts' a bs =
        read_one (Adds c v) term-comes refl (sym (ap (λ (b : ℕ). body_length (kind_of b)) is-term)) cs ws ts bs ps ss r cs' ws' ts' ps ss
        (takes_adds (Adds c v) s cs ws ts bs ps ss term_passes c v refl r cs' ws' ts' a)

  module _ (is-area : get_or bytes o 0 ≡ 8) where
    area-comes : Taken (Areas c v) ≡ next_at s bytes o
    area-comes = (λ i. Taken (Areas (ec i) (ev i))) ∙ t.area is-area

    pub area_passes : refused_by s (Areas c v) ≡ 0
    area_passes = next_passes s bytes o (Areas c v) area-comes

    pub read_area : (cs ws : List ℕ) (ts : List (List ℕ)) (ps ss : List ℕ) (r : Standing) (cs' ws' : List ℕ) (ts' : List (List ℕ)) (ps' ss' : List ℕ)
        → AreaTaken s c v cs ws ts ps ss r cs' ws' ts' ps' ss' → (bs : List ℤ)
        → Reads bytes o s cs ws ts bs ps ss (record { at = o + 1 + 6; refusal = 0; sealing = false; standing = r }) cs' ws' ts' bs ps' ss'
    read_area cs ws ts ps ss r cs' ws' ts' ps' ss' a bs =
        read_one (Areas c v) area-comes refl (sym (ap (λ (b : ℕ). body_length (kind_of b)) is-area)) cs ws ts bs ps ss r cs' ws' ts' ps' ss'
        (takes_areas (Areas c v) s cs ws ts bs ps ss area_passes c v v refl refl r cs' ws' ts' ps' ss' a)

-- ---- THE NEXT ONES: one record stops the reading, or it goes on behind it

pub record Stops (one whole : JobPart) : Type 0 where
  pub file : one.file ≡ whole.file
  pub refused : one.refused ≡ whole.refused
  pub at : one.at ≡ whole.at
  pub sealing : one.sealing ≡ whole.sealing
  pub stopped : (not (eqb one.refused 0) || one.sealing) ≡ true

pub record Goes (bytes : List ℕ) (o : ℕ) (one whole : JobPart) : Type 0 where
  pub refused : one.refused ≡ 0
  pub sealing : one.sealing ≡ false
  pub farther : o < one.at
  pub left : ℕ
  pub taken : List Record
  pub enough : length bytes ≤ left + one.at
  pub same : read_job left one.at (drop one.at bytes) one.file taken ≡ whole

stops_by : (one whole : JobPart) (f : File) (t : List Record) (x o : ℕ) (b : Bool) → one ≡ job_part f [] x o b → whole ≡ job_part f t x o b → (not (eqb x 0) || b) ≡ true → Stops one whole
stops_by one whole f t x o b a c e = record {
  file = ap (λ (j : JobPart). j.file) a ∙ sym (ap (λ (j : JobPart). j.file) c);
  refused = ap (λ (j : JobPart). j.refused) a ∙ sym (ap (λ (j : JobPart). j.refused) c);
  at = ap (λ (j : JobPart). j.at) a ∙ sym (ap (λ (j : JobPart). j.at) c);
  sealing = ap (λ (j : JobPart). j.sealing) a ∙ sym (ap (λ (j : JobPart). j.sealing) c);
  stopped = ap (λ (j : JobPart). not (eqb j.refused 0) || j.sealing) a ∙ e;
}

one_record : (left o : ℕ) (bytes : List ℕ) (f : File) (taken : List Record) (whole : JobPart) → o < length bytes → length bytes ≤ left + o
    → read_job left o (drop o bytes) f taken ≡ whole → Stops (read_job 1 o (drop o bytes) f []) whole ⊎ Goes bytes o (read_job 1 o (drop o bytes) f []) whole
one_record zero o bytes f taken whole h k e = absurd (omega (arith, h, k))
one_record (suc n) o bytes f taken whole h k e =
    ⊎_elim
    (λ (z : number ≡ 0).
    ⊎_elim (λ (c : closing (action x) ≡ true). inl (stops_by _ whole f taken 0 o true (at-sealing bytes o h 0 f [] z c) (sym e ∙ at-sealing bytes o h n f taken z c) refl))
    (λ (c : closing (action x) ≡ false). inr (on z c)) (true-false (closing (action x))))
    (λ (z : number ≡ 0 → ⊥). inl (stops_by _ whole f taken number o false (at-refused bytes o h 0 f [] z) (sym e ∙ at-refused bytes o h n f taken z)
    (ap (λ (t : Bool). not t || false) (ne_eqb number 0 z))))
    (zero_or number)
  where
    number : ℕ
    number = refusal_at f (get_or bytes o 0) (drop (o + 1) bytes)

    x : Record
    x = record_in bytes o

    on : number ≡ 0 → closing (action x) ≡ false → Goes bytes o (read_job 1 o (drop o bytes) f []) whole
    on z c =
        let a = one-next bytes o h f z c in
        let there = ap (λ (j : JobPart). j.at) a in
        record {
          refused = ap (λ (j : JobPart). j.refused) a;
          sealing = ap (λ (j : JobPart). j.sealing) a;
          farther = omega (arith, there);
          left = n;
          taken = taken ++ (x ∷ []);
          enough = omega (arith, there, k);
          same = ap (λ (j : JobPart). read_job n j.at (drop j.at bytes) j.file (taken ++ (x ∷ []))) a ∙ sym (at_next bytes o h n f taken z c) ∙ e;
        }

none_left : (n o : ℕ) (f : File) (taken : List Record) → read_job n o [] f taken ≡ job_part f taken 0 o false
unfolding read_job
none_left zero o f taken = refl
none_left (suc n) o f taken = refl

-- Whether what was given back ends the reading.
abbrev pub stopping : JobRead → Bool
stopping r = not (eqb r.refusal 0) || r.sealing

pub goes : (r : JobRead) → r.refusal ≡ 0 → r.sealing ≡ false → stopping r ≡ false
goes r e q = ap₂ (λ (n : ℕ) (b : Bool). not (eqb n 0) || b) e q

module _ (bytes : List ℕ) (whole : JobPart) (w : Raw) (r : JobRead) (cs ws : List ℕ) (ts : List (List ℕ)) (bs : List ℤ) (ps ss : List ℕ) (g : Going bytes whole w r cs ws ts bs ps ss) where
  going-ends : length bytes ≤ r.at → HeldPart whole w r cs ws ts bs
  going-ends h =
      subst (λ (j : JobPart). HeldPart j w r cs ws ts bs) (sym (nothing g.left) ∙ ap (λ (l : List ℕ). read_job g.left r.at l g.file g.taken) (sym (drop_of_length-le bytes h)) ∙ g.same)
      (record { refusal = g.refusal; at = refl; sealing = g.sealing; held = g.reading.held })
    where
      nothing : (n : ℕ) → read_job n r.at [] g.file g.taken ≡ job_part g.file g.taken 0 r.at false
      nothing n = none_left n r.at g.file g.taken

  module _ (inside : r.at < length bytes) (r' : JobRead) (cs' ws' : List ℕ) (ts' : List (List ℕ)) (bs' : List ℤ) (ps' ss' : List ℕ)
      (p : ReadPart (read_job 1 r.at (drop r.at bytes) g.file []) w r' cs' ws' ts' bs' ps' ss') where
    abbrev one : JobPart
    one = read_job 1 r.at (drop r.at bytes) g.file []

    by_part : stopping r' ≡ (not (eqb one.refused 0) || one.sealing)
    by_part = ap₂ (λ (n : ℕ) (b : Bool). not (eqb n 0) || b) p.part.refusal p.part.sealing

    either : Stops one whole ⊎ Goes bytes r.at one whole
    either = one_record g.left r.at bytes g.file g.taken whole inside g.enough g.same

    no-goes : stopping r' ≡ true → Goes bytes r.at one whole → ⊥
    no-goes e q =
        let a = ap₂ (λ (n : ℕ) (b : Bool). not (eqb n 0) || b) q.refused q.sealing in
        let b : ◌≡◌ {A = Bool} true false = sym e ∙ by_part ∙ a in
        unequal cc

    no-stops : stopping r' ≡ false → Stops one whole → ⊥
    no-stops e q =
        let b : ◌≡◌ {A = Bool} true false = sym q.stopped ∙ sym by_part ∙ e in
        unequal cc

    going-stops : stopping r' ≡ true → HeldPart whole w r' cs' ws' ts' bs'
    going-stops e =
        ⊎_elim
        (λ (q : Stops one whole). record {
          refusal = p.part.refusal ∙ q.refused;
          at = p.part.at ∙ q.at;
          sealing = p.part.sealing ∙ q.sealing;
          held = subst (λ (f : File). Held f w r'.standing cs' ws' ts' bs') q.file p.part.held;
        })
        (λ (q : Goes bytes r.at one whole). absurd (no-goes e q)) either

    goes_one : stopping r' ≡ false → Goes bytes r.at one whole
    goes_one e = ⊎_elim (λ (q : Stops one whole). absurd (no-stops e q)) (λ (q : Goes bytes r.at one whole). q) either

    going-farther : stopping r' ≡ false → r.at < r'.at
    going-farther e = let a = p.part.at in let b = (goes_one e).farther in omega (arith, a, b)

    going_on : stopping r' ≡ false → Going bytes whole w r' cs' ws' ts' bs' ps' ss'
    going_on e =
        let q = goes_one e in
        let a = p.part.at in
        let b = q.enough in
        record {
          file = one.file;
          taken = q.taken;
          left = q.left;
          enough = omega (arith, a, b);
          same = ap (λ (k : ℕ). read_job q.left k (drop k bytes) one.file q.taken) p.part.at ∙ q.same;
          reading = record { held = p.part.held; joinable = p.joinable; noted = p.noted };
          builds = builds_on r'.standing bytes r'.at (p.building (p.part.refusal ∙ q.refused) (p.part.sealing ∙ q.sealing));
          refusal = p.part.refusal ∙ q.refused;
          sealing = p.part.sealing ∙ q.sealing;
        }

-- ---- FROM AN OFFSET ON, whatever file the buffers held there

module _ (bytes : List ℕ) (o : ℕ) (s : Standing) (cs ws : List ℕ) (ts : List (List ℕ)) (bs : List ℤ) (ps ss : List ℕ) where
  pub from_here : NextOfJob bytes o s → GoesFrom bytes o s cs ws ts bs ps ss (read_to o s) cs ws ts bs ps ss
  from_here b = record {
    going = λ f w room h. record { file = f; taken = []; left = length bytes; enough = omega arith; same = refl; reading = h; builds = b; refusal = refl; sealing = refl };
  }

  module _ (r : JobRead) (cs₁ ws₁ : List ℕ) (ts₁ : List (List ℕ)) (bs₁ : List ℤ) (ps₁ ss₁ : List ℕ) (g : GoesFrom bytes o s cs ws ts bs ps ss r cs₁ ws₁ ts₁ bs₁ ps₁ ss₁) where
    -- What a record asks there.
    pub from_asks : (f : File) (w : Raw) → Room w → Reading f w s cs ws ts bs ps ss
        → NextOfJob bytes r.at r.standing × Gathered r.standing cs₁ ws₁ ts₁ bs₁ × Joinable r.standing ts₁ ps₁ ss₁
    from_asks f w room h =
        let q = g.going f w room h in
        (q.builds, q.reading.held.gathered, q.reading.joinable)

    pub from_ends : length bytes ≤ r.at → ReadsOn bytes o s cs ws ts bs ps ss r cs₁ ws₁ ts₁ bs₁
    from_ends l = record { part = λ f w room h. going-ends bytes (job_part_from bytes o f []) w r cs₁ ws₁ ts₁ bs₁ ps₁ ss₁ (g.going f w room h) l }

    module _ (inside : r.at < length bytes) (r' : JobRead) (cs' ws' : List ℕ) (ts' : List (List ℕ)) (bs' : List ℤ) (ps' ss' : List ℕ)
        (p : Reads bytes r.at r.standing cs₁ ws₁ ts₁ bs₁ ps₁ ss₁ r' cs' ws' ts' bs' ps' ss') where
      pub from_stops : stopping r' ≡ true → ReadsOn bytes o s cs ws ts bs ps ss r' cs' ws' ts' bs'
      from_stops e = record {
        part = λ f w room h.
            let q = g.going f w room h in
            going-stops bytes (job_part_from bytes o f []) w r cs₁ ws₁ ts₁ bs₁ ps₁ ss₁ q inside r' cs' ws' ts' bs' ps' ss' (p.part q.file w room q.reading) e;
      }

      pub from_farther : (f : File) (w : Raw) → Room w → Reading f w s cs ws ts bs ps ss → stopping r' ≡ false → r.at < r'.at
      from_farther f w room h e =
          let q = g.going f w room h in
          going-farther bytes (job_part_from bytes o f []) w r cs₁ ws₁ ts₁ bs₁ ps₁ ss₁ q inside r' cs' ws' ts' bs' ps' ss' (p.part q.file w room q.reading) e

      pub from_on : stopping r' ≡ false → GoesFrom bytes o s cs ws ts bs ps ss r' cs' ws' ts' bs' ps' ss'
      from_on e = record {
        going = λ f w room h.
            let q = g.going f w room h in
            going_on bytes (job_part_from bytes o f []) w r cs₁ ws₁ ts₁ bs₁ ps₁ ss₁ q inside r' cs' ws' ts' bs' ps' ss' (p.part q.file w room q.reading) e;
      }

-- NO THRESHOLD IS OPEN: nothing noted is right.
module _ (cs ws : List ℕ) (ts : List (List ℕ)) (bs : List ℤ) (ps ss : List ℕ) (u : Unnoted ps ss) (s : Standing) where
  anew : (f : File) (w : Raw) → Held f w s cs ws ts bs → any_open f ≡ false → Reading f w s cs ws ts bs ps ss
  anew f w h e = record {
    held = h;
    joinable = unnoted_joinable s ts ps ss u;
    noted = λ q. absurd (let b : ◌≡◌ {A = Bool} true false = sym q ∙ e in unequal cc);
  }

  pub anew_asks : ((f : File) × (w : Raw) × Room w × Held f w s cs ws ts bs × (any_open f ≡ false)) → (f : File) × (w : Raw) × Room w × Reading f w s cs ws ts bs ps ss
  anew_asks (f, w, room, h, e) = (f, w, room, anew f w h e)

  pub anew_reads : (bytes : List ℕ) (o : ℕ) (r : JobRead) (cs' ws' : List ℕ) (ts' : List (List ℕ)) (bs' : List ℤ) → ReadsOn bytes o s cs ws ts bs ps ss r cs' ws' ts' bs'
      → ReadsJob bytes o s cs ws ts bs r cs' ws' ts' bs'
  anew_reads bytes o r cs' ws' ts' bs' p = record { part = λ f w room h e. p.part f w room (anew f w h e) }

-- FROM THE START: what is asked, and what is given.
held_begun : (cs ws : List ℕ) (ts : List (List ℕ)) (bs : List ℤ) → Room (raw (raw_lists cs ws ts) bs) → Held begun (raw (raw_lists cs ws ts) bs) blank cs ws ts bs
unfolding begun last_node_of last_list all_terms raw_of numbers join_all ends pairs
held_begun cs ws ts bs h = record {
  stands = refl;
  words = refl;
  job = refl;
  gathered = gathered_none blank cs ws ts bs (omega arith) refl refl h.conditions h.weights h.thresholds h.bounds;
  unstarted = λ q. refl;
  unserved = λ q. refl;
  fewer = omega arith;
  opened = λ q. absurd (unequal cc);
}

none_open : any_open begun ≡ false
unfolding begun
none_open = refl

module _ (cs ws : List ℕ) (ts : List (List ℕ)) (bs : List ℤ) (room : Room (raw (raw_lists cs ws ts) bs)) (s : Standing) (none : s ≡ blank) where
  begun-so : Held begun (raw (raw_lists cs ws ts) bs) s cs ws ts bs
  begun-so = subst (λ (z : Standing). Held begun (raw (raw_lists cs ws ts) bs) z cs ws ts bs) (sym none) (held_begun cs ws ts bs room)

  pub begun-asks : (bytes : List ℕ) → ((f : File) × (w : Raw) × Room w × Held f w s cs ws ts bs × (any_open f ≡ false)) × NextOfJob bytes 0 s
  begun-asks bytes = ((begun, raw (raw_lists cs ws ts) bs, room, begun-so, none_open), builds_on s bytes 0 (ap (λ (z : Standing). wrong_turn z serving) none))

  pub begun_held : (bytes : List ℕ) (r : JobRead) (cs' ws' : List ℕ) (ts' : List (List ℕ)) (bs' : List ℤ) → ReadsJob bytes 0 s cs ws ts bs r cs' ws' ts' bs'
      → HeldPart (job_part_of bytes) (raw (raw_lists cs ws ts) bs) r cs' ws' ts' bs'
  unfolding job_part_of
  begun_held bytes r cs' ws' ts' bs' p = p.part begun (raw (raw_lists cs ws ts) bs) room begun-so none_open
