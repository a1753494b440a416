-- Buffers of the listed lengths take every input that is not too long, so that what is listed of them is the input's file; what a plan
-- says of its listing. Assumes nothing.
use Rattle.std.specs.Prelude.{ℕ, ◌≤◌, ◌<◌, ◌≡◌, refl, Bool, true, false, ◌&&◌, List, ◌++◌, length, take, drop, replicate, pos, leb}
use Rattle.std.proofs.Common.{arith, sym, ap, ap₂, ◌∙◌, subst, ⊎_elim, length-append, take-append-drop, length-take-le, take_at, leb-false, le-leb, lt-ltb}
use Rattle.std.proofs.lemmas.Bool.{lt-leb}
use Rattle.base.specs.TestLaws.{true-false}
use Rattle.base.specs.Laid.{over}
use Rattle.memory.specs.Limits.{max_thresholds}
use Rattle.memory.specs.Buffers.{raw_lists, raw, held_rows, built, kept, Work, work, needed, lengths, enough, longest_input, fits, fits_by}
use Rattle.files.specs.declared.Given.{Given}
use Rattle.state.specs.declared.State.{State}
use Rattle.files.specs.File.{Outcome, file_of, planned}
use Rattle.files.specs.Listing.{max_listing, listing}
use Rattle.files.specs.Contents.{given_of, nothing, out}
use Rattle.files.specs.Planner.{Left, left, fits_all, plan}
use Rattle.listing.specs.Lines.{Listable}
use Rattle.listing.specs.Shows.{ten, Shows, Listed}
use Rattle.listing.specs.Shows as Is
use Rattle.listing.specs.ShowsLaws.{shows_listable}
use Rattle.report.specs.ShownLaws.{ended, ShowsIn, shows_plan}
use Rattle.report.specs.declared.Planned.{Planned}
use Rattle.report.specs.Plan.{plan_of, Report, report, reported, Plans}
use Rattle.report.specs.Ready.{Ready}

fits_by_lem : (states : List State) (w : Work) → max_thresholds ≤ length states → lengths w ≡ needed → (input : List ℕ) → fits_all input states w ≡ leb (length input) longest_input
unfolding fits_by enough
fits_by_lem states w h e input =
    ap (λ (b : Bool). b && fits input w) (le-leb max_thresholds (length states) h) ∙ ap (λ (l : List ℕ). enough needed l && leb (length input) longest_input) e

ended-planned : (states : List State) (w : Work) → max_thresholds ≤ length states → lengths w ≡ needed → (input : List ℕ) → ended input states w ≡ planned input
unfolding ended planned
ended-planned states w h e input =
    let at = length input in
    ⊎_elim
    (λ (t : leb at longest_input ≡ true). ap (λ (b : Bool). elim b [ true ↦ planned input | false ↦ ten ]) (fits_by_lem states w h e input ∙ t))
    (λ (t : leb at longest_input ≡ false).
    ap (λ (b : Bool). elim b [ true ↦ planned input | false ↦ ten ]) (fits_by_lem states w h e input ∙ t)
    ∙ sym (ap (λ (b : Bool). elim b [ true ↦ ten | false ↦ file_of input ]) (lt-ltb longest_input at (leb-false at longest_input t))))
    (true-false (leb at longest_input))

-- The plan's own buffers before the call.
abbrev pub fresh : Work
fresh =
    work (raw (raw_lists (replicate 4096 0) (replicate 4096 0) (replicate 1024 (replicate 2 0))) (replicate 1024 (pos 0)))
    (built (held_rows (replicate 4096 0) (replicate 4096 0) (replicate 1024 (replicate 3 0)) (replicate 1024 (pos 0)) (replicate 1024 0))
    (replicate 4096 (replicate 3 0)) (replicate 4096 (replicate 2 0)) (replicate 2048 0))
    (kept (replicate 1024 (replicate 4 (pos 0))) (replicate 1024 (replicate 5 0)) (replicate 64 0) (replicate 64 0) (replicate 4096 0) (replicate 1025 0)
    (replicate 4096 0) (replicate 1024 (replicate 4 0)) (replicate 64 (replicate 2 0)))

pub fresh_long : lengths fresh ≡ needed
fresh_long = refl

-- ---- the two ways of the plan

abbrev ways : List ℕ → List ℕ → Bool → Report
ways input out b =
    let o = planned input in
    elim b [ true ↦ report (plan_of (given_of o) (length (listing o))) (over (listing o) out) | false ↦ report (plan_of nothing 0) out ]

reported_by : (input out : List ℕ) (b : Bool) → leb max_listing (length out) ≡ b → reported input out ≡ ways input out b
unfolding reported
reported_by input out b e = ap (ways input out) e

reported_room : (input out : List ℕ) → max_listing ≤ length out → reported input out ≡ ways input out true
reported_room input out h = reported_by input out true (le-leb max_listing (length out) h)

pub plans_short : (input out : List ℕ) (r : Planned) → length out < max_listing → r ≡ plan_of nothing 0 → Plans input out out r
plans_short input out r h e = ap (λ (p : Planned). report p out) e ∙ sym (reported_by input out false (lt-leb max_listing (length out) h))

-- What a plan with room for its listing gives.
module _ (input before after : List ℕ) (r : Planned) (room : max_listing ≤ length before) (p : Plans input before after r) where
  made : report r after ≡ ways input before true
  made = p ∙ reported_room input before room

  pub plans_given : r.given ≡ given_of (planned input)
  plans_given = ap (λ (x : Report). x.planned.given) made

  plans-long : r.length ≡ length (listing (planned input))
  plans-long = ap (λ (x : Report). x.planned.length) made

  plans-laid : after ≡ over (listing (planned input)) before
  plans-laid = ap (λ (x : Report). x.out) made

  pub plans_within : r.length ≤ length after
  plans_within = let l = listing (planned input) in omega (arith, plans-long, ap (λ (x : List ℕ). length x) plans-laid, length-append l (drop (length l) before))

  pub plans_listed : take r.length after ≡ listing (planned input)
  plans_listed = let l = listing (planned input) in ap (take r.length) plans-laid ∙ take_at l (drop (length l) before) r.length (sym plans-long)

-- A text is laid over a buffer if its first bytes are the text, and those after it are as they were.
laid-over : (s before after : List ℕ) (n : ℕ) → n ≤ length after → take n after ≡ s → drop n after ≡ drop n before → (n ≡ length s) × (after ≡ over s before)
laid-over s before after n h e k =
    let long : n ≡ length s = sym (length-take-le n after h) ∙ ap (λ (x : List ℕ). length x) e in
    (long, sym (take-append-drop n after) ∙ ap₂ (λ (x y : List ℕ). x ++ y) e (k ∙ ap (λ (m : ℕ). drop m before) long))

-- WHAT THE CALL LEFT in such buffers shows the input's file, so that it can be listed, and its listing is the file's.
module _ {input before : List ℕ} {w₀ : Work} (ready : Ready input before w₀) (states₀ states : List State) (w : Work) (g : Given) (h : max_thresholds ≤ length states₀)
    (e : left (out g w) states ≡ plan input states₀ w₀) where
  shown_by : ShowsIn (planned input) (left (out g w) states)
  shown_by =
      subst (λ (o : Outcome). ShowsIn o (left (out g w) states)) (ended-planned states₀ w₀ h ready.long input)
      (subst (λ (l : Left). ShowsIn (ended input states₀ w₀) l) (sym e) (shows_plan input ready.bytes states₀ w₀))

  pub ran_listable : let k = w.kept in Listable g k.answers states k.sure k.never
  ran_listable = shows_listable shown_by

  pub ran_plans : {after : List ℕ} {n : ℕ} → length after ≡ length before → (let k = w.kept in Listed g k.answers states k.sure k.never before after n) → Plans input before after (plan_of g n)
  ran_plans {after} {n} same l =
      let laid = laid-over (listing (planned input)) before after n (omega (arith, l.fits, ready.room, same)) (l.bytes (planned input) shown_by) l.behind in
      (λ i. report (plan_of (given-of shown_by i) (laid.0 i)) (laid.1 i)) ∙ sym (reported_room input before ready.room)
    where
      given-of : {o : Outcome} {answers : List (List ℕ)} {sure never : List ℕ} → Shows o g answers states sure never → g ≡ given_of o
      given-of (Is.untouched q k) = k ∙ ap given_of (sym q)
      given-of (Is.held q k) = q
