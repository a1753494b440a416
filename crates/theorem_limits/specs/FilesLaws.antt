-- DEMAND 1, its last two lines: in every file a settle or a sift that does not contradict ends because nothing waits any more.
-- Records that are not refused keep the job within the limits and the values sound. Assumes nothing.
use Rattle.std.specs.Prelude.{ℕ, zero, suc, ◌+◌, ◌<◌, ◌≡◌, Bool, true, false, cond, not, ◌||◌, List, [], ◌∷◌, ◌++◌, ◌⊎◌, length, drop, replicate, eqb, ltb, leb, ℤ, pos, negsuc}
use Rattle.std.proofs.Common.{arith, sym, ap, ◌∙◌, subst, inl, inr, ltb-false, leb-false, eqb-true}
use Rattle.std.proofs.Math.Path.{refl}
use Rattle.std.proofs.lemmas.List.{length-replicate}
use Rattle.std.specs.Int.Signed.{lt_z}
use Rattle.base.specs.TestLaws.{unequal, contrary}
use Rattle.memory.specs.Limits.{list_terms, max_nodes, max_terms, max_thresholds}
use Rattle.base.specs.SignedLaws.{nlt-le_z}
use Rattle.state.specs.declared.State.{State}
use Rattle.state.specs.State.{no_state}
use Rattle.queues.specs.Queue.{is_empty}
use Rattle.queues.specs.RowsLaws.{flags_none}
use Rattle.queues.proofs.MarksLaws.{waits-none, waits-decide}
use Rattle.rows.specs.Guards.{Bound}
use Rattle.drain.specs.Drain as Drain
use Rattle.drain.specs.Drain.{at_rest}
use Rattle.records.specs.declared.Record.{Record}
use Rattle.records.specs.declared.Record.TheVariants.{Settle, Sift}
use Rattle.records.specs.Record.{kind_of, body_length}
use Rattle.records.specs.Facts.{building, within, serving, Facts, Change, opens, adds, Action, begins, changes, closes, decides, settles, sifts, idles, action, facts}
use Rattle.checks.specs.Checks.{no_threshold, wrong_turn}
use Rattle.checks.specs.CheckLaws.{Passes, passes}
use Rattle.numeric.specs.Area.{condition_of, job_of}
use Rattle.job.specs.Job.{last_list, all_terms, with_change}
use Rattle.files.specs.File.{File, contradicted, begun, standing, refusal, sealed_file, marked_file, settled_file, sifted_file, act, apply, Outcome, outcome, record_at, unknown_kind, cut_body, refusal_at, read_from, file_of, planned, after, Passed}
use Rattle.files.specs.FileLaws.{checked, after_snoc}
use Rattle.theorem_ends.specs.RoomsLaws.{none-bounded}
use Rattle.theorem_limits.specs.Good.{Fits, Drafted, Good}
use Rattle.theorem_ends.specs.Sound.{Bounded, Sound}
use Rattle.theorem_ends.proofs.SettlesLaws.{settle_stays, settle-ends, sift_sound, sift-ends as sift-rests}
use Rattle.theorem_limits.specs.BuiltLaws.{drafted_none, drafted_threshold, drafted_term, fits-none, fits_of, indexed, seal_sound}
use Rattle.theorem_limits.specs.BlankLaws.{same_at}

pub both : {b : Bool} → b ≡ true → b ≡ false → ⊥
both h k = unequal cc

pub good_begun : Good begun
unfolding begun
good_begun = record {
  draft = drafted_none 0 (omega arith);
  closed = fits-none 0 (omega arith);
  live = record {
    long = length-replicate {A = State} max_thresholds no_state;
    states = λ r. subst Bounded (sym (same_at max_thresholds r no_state)) none-bounded;
    waits = waits-none (replicate max_nodes 0) (let e = length-replicate {A = ℕ} max_nodes 0 in omega arith);
    dirty = flags_none (replicate max_thresholds 0) (let e = length-replicate {A = ℕ} max_thresholds 0 in omega arith);
    residuals = flags_none (replicate max_thresholds 0) (let e = length-replicate {A = ℕ} max_thresholds 0 in omega arith);
  };
  unstarted = λ e. refl;
  same = λ e. refl;
}

-- ---- what a record that is not refused has

-- Each check that it passed.
abbrev pub Taken : File → Facts → Type 0
Taken f x = Passes (standing f) x

pub taken : (f : File) (r : Record) → refusal f r ≡ 0 → Taken f (facts (action r))
unfolding refusal
taken f r h = passes (standing f) (facts (action r)) h

-- What the turns say of the file.
pub building_turn : (f : File) → wrong_turn (standing f) building ≡ false → (f.started ≡ true) × (f.sealed ≡ false)
building_turn f h = by f.started f.sealed h
  where
    by : (s e : Bool) → (not s || e) ≡ false → (s ≡ true) × (e ≡ false)
    by true e q = (refl, q)
    by false e q = absurd (both refl q)

pub within_turn : (f : File) → wrong_turn (standing f) within ≡ false → (f.started ≡ true) × (f.sealed ≡ false)
within_turn f h = by f.started f.sealed h
  where
    by : (s e : Bool) → (not s || e || no_threshold (standing f)) ≡ false → (s ≡ true) × (e ≡ false)
    by true true q = absurd (both refl q)
    by true false q = (refl, refl)
    by false e q = absurd (both refl q)

pub change_turn : (f : File) (c : Change) → Taken f (facts (changes c)) → (f.started ≡ true) × (f.sealed ≡ false)
change_turn f (opens n b) t = building_turn f t.turn
change_turn f (adds x) t = within_turn f t.turn

pub serving_turn : (f : File) → wrong_turn (standing f) serving ≡ false → f.sealed ≡ true
serving_turn f h = by f.sealed h
  where
    by : (e : Bool) → not e ≡ false → e ≡ true
    by true q = refl
    by false q = absurd (both refl q)

pub unserving_turn : (f : File) → wrong_turn (standing f) serving ≡ true → f.sealed ≡ false
unserving_turn f h = by f.sealed h
  where
    by : (e : Bool) → not e ≡ true → e ≡ false
    by true q = absurd (both q refl)
    by false q = refl

or_left : (a b : Bool) → (a || b) ≡ false → a ≡ false
or_left true b h = h
or_left false b h = refl

or_right : (a b : Bool) → (a || b) ≡ false → b ≡ false
or_right true b h = contrary h
or_right false b h = h

bound_of_lem : (b : ℤ) → (lt_z b (negsuc 4503599627370495) || lt_z (pos 4503599627370496) b) ≡ false → Bound b
bound_of_lem b h = record {
  low = nlt-le_z b (negsuc 4503599627370495) (or_left (lt_z b (negsuc 4503599627370495)) (lt_z (pos 4503599627370496) b) h);
  high = nlt-le_z (pos 4503599627370496) b (or_right (lt_z b (negsuc 4503599627370495)) (lt_z (pos 4503599627370496) b) h);
}

-- ---- EVERY RECORD KEEPS A FILE GOOD

module _ (f : File) (g : Good f) where
  pub node_small : (c : ℕ) → leb f.draft.nodes c ≡ false → c < max_nodes
  node_small c h = let k = leb-false f.draft.nodes c h in omega (arith, g.draft.nodes)

  -- what a seal, a mark, a settle or a sift leaves of the rest
  closed-good : (h : File) → f.sealed ≡ true → h.started ≡ f.started → h.sealed ≡ true → h.draft ≡ f.draft → h.closed ≡ f.closed → Sound h.live → Good h
  closed-good h e s k j c v = record {
    draft = subst Drafted (sym j) g.draft;
    closed = subst Fits (sym c) g.closed;
    live = v;
    unstarted = λ q. absurd (both e (g.unstarted (sym s ∙ q)));
    same = λ q. c ∙ g.same e ∙ ap job_of (sym j);
  }

  changed-drafted : (c : Change) → Taken f (facts (changes c)) → Drafted (with_change f.draft c)
  changed-drafted (opens n b) t =
      drafted_threshold f.draft g.draft n b (leb-false f.draft.nodes n t.nodes) (bound_of_lem b t.bounds) (leb-false max_thresholds (length f.draft.thresholds) t.room)
  changed-drafted (adds x) t =
      let ts = f.draft.thresholds in
      drafted_term f.draft g.draft x (leb-false f.draft.nodes (condition_of x) t.nodes)
      (leb-false list_terms (length (last_list ts)) (or_left (leb list_terms (length (last_list ts))) (leb max_terms (all_terms ts)) t.room))
      (leb-false max_terms (all_terms ts) (or_right (leb list_terms (length (last_list ts))) (leb max_terms (all_terms ts)) t.room))

  kept : (a : Action) → Taken f (facts a) → Good (act f a)
  unfolding act sealed_file marked_file settled_file sifted_file Drain.mark
  kept (begins n) t = record {
    draft = drafted_none n (ltb-false max_nodes n t.room);
    closed = g.closed;
    live = g.live;
    unstarted = λ e. g.unstarted t.turn;
    same = λ e. absurd (both e (g.unstarted t.turn));
  }
  kept (changes c) t =
      let e = change_turn f c t in
      record { draft = changed-drafted c t; closed = g.closed; live = g.live; unstarted = λ q. e.1; same = λ q. absurd (both q e.1) }
  kept closes t = record {
    draft = g.draft;
    closed = fits_of g.draft;
    live = seal_sound (job_of f.draft) (fits_of g.draft) f.live g.live;
    unstarted = λ q. absurd (both (building_turn f t.turn).0 q);
    same = λ q. refl;
  }
  kept (decides n v) t = closed-good (act f (decides n v)) (serving_turn f t.turn) refl refl refl refl (record {
    long = g.live.long;
    states = g.live.states;
    waits = waits-decide f.live.marks g.live.waits (eqb v 1) n (node_small n t.nodes);
    dirty = g.live.dirty;
    residuals = g.live.residuals;
  })
  kept settles t =
      closed-good (act f settles) (serving_turn f t.turn) refl refl refl refl
      (settle_stays (Drain.index_of f.closed) (indexed f.closed g.closed) f.live g.live).0
  kept sifts t =
      closed-good (act f sifts) (serving_turn f t.turn) refl refl refl refl
      (sift_sound (Drain.index_of f.closed) (indexed f.closed g.closed) f.live f.gcds g.live)
  kept (idles x) t = g

  pub good_apply : (r : Record) → refusal f r ≡ 0 → Good (apply f r)
  unfolding apply
  good_apply r h = kept (action r) (taken f r h)

  -- ---- at the end of a settle and of a sift nothing waits

  pub rests_settle : contradicted (apply f Settle) ≡ false → at_rest (apply f Settle).live ≡ true
  unfolding apply act settled_file
  rests_settle h = settle-ends (Drain.index_of f.closed) (indexed f.closed g.closed) f.live g.live h

  pub rests_sift : contradicted (apply f Sift) ≡ false → (at_rest (apply f Sift).live ≡ true) × (is_empty (apply f Sift).live.residuals.queue ≡ true)
  unfolding apply act sifted_file
  rests_sift h = sift-rests (Drain.index_of f.closed) (indexed f.closed g.closed) f.live f.gcds g.live h

-- ---- records that were taken, one after the other

passed_snoc : (f : File) (rs : List Record) (r : Record) → Passed f rs → refusal (after f rs) r ≡ 0 → Passed f (rs ++ (r ∷ []))
unfolding after
passed_snoc f [] r p h = (h, tt)
passed_snoc f (x ∷ rs) r p h = (p.0, passed_snoc (apply f x) rs r p.1 h)

pub passed_before : (f : File) (rs qs : List Record) → Passed f (rs ++ qs) → Passed f rs
passed_before f [] qs p = tt
passed_before f (x ∷ rs) qs p = (p.0, passed_before (apply f x) rs qs p.1)

pub good_after : (f : File) (rs : List Record) → Good f → Passed f rs → Good (after f rs)
unfolding after
good_after f [] g p = g
good_after f (r ∷ rs) g p = good_after (apply f r) rs (good_apply f g r p.0) p.1

-- Any number but those for a kind and for a body is the refusal of the record itself.
pub refused_by_lem : (n : ℕ) → (2 ≡ n → ⊥) → (1 ≡ n → ⊥) → (f : File) (kind : ℕ) (rest : List ℕ) → refusal_at f kind rest ≡ n → refusal f (record_at kind rest) ≡ n
refused_by_lem n two one f kind rest h = by (unknown_kind kind) (cut_body kind rest) (sym (checked f kind rest) ∙ h)
  where
    by : (a b : Bool) → cond a 2 (cond b 1 (refusal f (record_at kind rest))) ≡ n → refusal f (record_at kind rest) ≡ n
    by true b e = absurd (two e)
    by false true e = absurd (one e)
    by false false e = e

pub read_passed : (n o : ℕ) (bytes : List ℕ) (f g : File) (rs : List Record) → f ≡ after g rs → Passed g rs → Passed g (read_from n o bytes f rs).records
unfolding read_from
read_passed zero o bytes f g rs h p = p
read_passed (suc n) o [] f g rs h p = p
read_passed (suc n) o (kind ∷ rest) f g rs h p = by (λ o b f t h q. read_passed n o b f g t h q) (eqb (refusal_at f kind rest) 0) refl
  where
    x : Record
    x = record_at kind rest

    by : ((o : ℕ) (b : List ℕ) (f : File) (t : List Record) → f ≡ after g t → Passed g t → Passed g (read_from n o b f t).records) → (b : Bool) → eqb (refusal_at f kind rest) 0 ≡ b
        → let r : Outcome = elim b [ true ↦ read_from n (o + 1 + body_length (kind_of kind)) (drop (body_length (kind_of kind)) rest) (apply f x) (rs ++ (x ∷ [])) | false ↦ outcome f rs (refusal_at f kind rest) o ]
        in Passed g r.records
    by ih true e =
        ih _ _ _ _ (ap (λ (y : File). apply y x) h ∙ sym (after_snoc g rs x))
        (passed_snoc g rs x p (ap (λ (y : File). refusal y x) (sym h) ∙ refused_by_lem 0 (λ q. omega arith) (λ q. omega arith) f kind rest (eqb-true (refusal_at f kind rest) 0 e)))
    by ih false e = p

pub planned_passed : (input : List ℕ) → Passed begun (planned input).records
unfolding planned file_of after
planned_passed input = by (ltb 65536 (length input))
  where
    by : (b : Bool) → let o : Outcome = elim b [ true ↦ outcome begun [] 10 0 | false ↦ file_of input ] in Passed begun o.records
    by true = tt
    by false = read_passed (length input) 0 input begun begun [] refl tt

-- THE FILE IS GOOD BEFORE EACH RECORD that was taken
pub good_before : (input : List ℕ) (before later : List Record) → (planned input).records ≡ before ++ later → Good (after begun before)
good_before input before later e = good_after begun before good_begun (passed_before begun before later (subst (Passed begun) e (planned_passed input)))

-- A SETTLE OR A SIFT THAT DOES NOT CONTRADICT ENDS BECAUSE NOTHING WAITS ANY MORE
pub ends : (input : List ℕ) (before later : List Record) (r : Record) → (planned input).records ≡ before ++ (r ∷ later) → (r ≡ Settle) ⊎ (r ≡ Sift)
    → contradicted (after begun (before ++ (r ∷ []))) ≡ false → at_rest (after begun (before ++ (r ∷ []))).live ≡ true
ends input before later r e (inl k) h =
    let q = after_snoc begun before r ∙ ap (apply (after begun before)) k in
    ap (λ (f : File). at_rest f.live) q
    ∙ rests_settle (after begun before) (good_before input before (r ∷ later) e) (ap (λ (f : File). contradicted f) (sym q) ∙ h)
ends input before later r e (inr k) h =
    let q = after_snoc begun before r ∙ ap (apply (after begun before)) k in
    ap (λ (f : File). at_rest f.live) q
    ∙ (rests_sift (after begun before) (good_before input before (r ∷ later) e) (ap (λ (f : File). contradicted f) (sym q) ∙ h)).0

pub sift-ends : (input : List ℕ) (before later : List Record) → (planned input).records ≡ before ++ (Sift ∷ later)
    → contradicted (after begun (before ++ (Sift ∷ []))) ≡ false → is_empty (after begun (before ++ (Sift ∷ []))).live.residuals.queue ≡ true
sift-ends input before later e h =
    let q = after_snoc begun before Sift in
    ap (λ (f : File). is_empty f.live.residuals.queue) q
    ∙ (rests_sift (after begun before) (good_before input before (Sift ∷ later) e) (ap (λ (f : File). contradicted f) (sym q) ∙ h)).1
