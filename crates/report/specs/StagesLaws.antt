-- ONLY NODES OF THE JOB ARE DECIDED, in every file of bytes: up to its seal none is, and behind it memory can be drained. Assumes nothing.
use Rattle.std.specs.Prelude.{ℕ, ◌<◌, ◌≡◌, refl, Bool, false, ◌||◌, List, [], ◌∷◌, ◌++◌, map}
use Rattle.std.proofs.Common.{not-suc-le-zero, arith, sym, ap, ◌∙◌, subst}
use Rattle.base.specs.All.{All}
use Rattle.base.specs.TestLaws.{or_right}
use Rattle.memory.specs.Ranges.{raw_limit}
use Rattle.memory.specs.Buffers.{Built, held_rows, built}
use Rattle.numeric.specs.Threshold.{Term, ThresholdOf, Threshold, Job}
use Rattle.numeric.specs.Area.{Entry, plain, area, condition_of, weighed_threshold, Draft, job_of}
use Rattle.numeric.proofs.AreaLaws.{Small, weighed-light}
use Rattle.words.specs.Mask.{bit}
use Rattle.job.specs.JobBuffers.{built_of}
use Rattle.records.specs.declared.Record.{Record}
use Rattle.job.specs.Job.{add_term}
use Rattle.job.specs.JobLaws.{every_on}
use Rattle.records.specs.declared.Record.TheVariants.{Header, Opens, Adds, Areas, Seal, Mark, Settle, Sift, Unknown}
use Rattle.files.specs.File.{File, begun, refusal, act, apply, after, planned, Passed}
use Rattle.theorem_limits.specs.BuiltLaws.{every_last, fits_of}
use Rattle.theorem_limits.specs.Good.{FitBy, Fits, Light, Good}
use Rattle.theorem_limits.specs.FilesLaws.{good_begun, both, taken, serving_turn, good_apply, planned_passed}
use Rattle.theorem_keeps.specs.Serves.{Low, Fresh}
use Rattle.theorem_holds.proofs.LentLaws.{served-built}
use Rattle.theorem_holds.specs.Lent.{lent_of, Lendable, Serving}
use Rattle.theorem_holds.proofs.GoesLaws.{fresh-begun}
use Rattle.theorem_holds.proofs.FilesLaws.{serving_seal, serving_apply}
use Rattle.theorem_demands.specs.RefusalLaws as Refusals
use Rattle.listing.specs.Shows.{Inside}
use Rattle.report.specs.BytesLaws.{SmallRecord, planned_small}
use Rattle.report.specs.Ready.{IsByte}

-- No buffers at all serve to speak of memory.
abbrev none : Built
none = built (held_rows [] [] [] [] []) [] [] []

lendable : Lendable none
lendable = record {
  weighed = refl;
  named = refl;
  edges = omega arith;
  conditions = λ i k. absurd (not-suc-le-zero k);
  weights = λ i k. absurd (not-suc-le-zero k);
  guards = λ i k. absurd (not-suc-le-zero k);
}

-- Each entry that records gave is small.
abbrev SmallDraft : Draft → Type 0
SmallDraft d = All (λ (t : ThresholdOf Entry). All Small t.terms) d.thresholds

small_term : (x : Entry) (ts : List (ThresholdOf Entry)) → Small x → All (λ (t : ThresholdOf Entry). All Small t.terms) ts
    → All (λ (t : ThresholdOf Entry). All Small t.terms) (add_term x ts)
small_term x ts h a = every_on (λ (t : ThresholdOf Entry). All Small t.terms) (λ l. l ++ (x ∷ [])) ts a (λ t e q. every_last Small t.terms x q h)

-- So the weights of its job are light.
light_of : (n : ℕ) (ts : List (ThresholdOf Entry)) → All (FitBy (λ (e : Entry). condition_of e) n) ts → All (λ (t : ThresholdOf Entry). All Small t.terms) ts
    → All (λ (t : Threshold). All (λ (u : Term). u.weight < raw_limit) t.terms) (map weighed_threshold ts)
light_of n [] f a = tt
light_of n (t ∷ ts) f a = (weighed-light t.terms f.0.short a.0, light_of n ts f.1 a.1)

data Stage (f : File) : Type 0 where
  unsealed : f.sealed ≡ false → ((b : Built) → Fresh b f.live) → SmallDraft f.draft → Stage f
  sealed : (j : Job) (fits : Fits j) (light : Light raw_limit j) → Serving j none f → Stage f

stage_first : (f : File) → Good f → f.sealed ≡ false → ((b : Built) → Fresh b f.live) → SmallDraft f.draft → (r : Record) → refusal f r ≡ 0 → SmallRecord r → Stage (apply f r)
unfolding apply act
stage_first f g e v l (Header n) h k = unsealed e v tt
stage_first f g e v l (Opens n b) h k =
    unsealed e v (every_last (λ (t : ThresholdOf Entry). All Small t.terms) f.draft.thresholds (record { node = n; bound = b; terms = [] }) l tt)
stage_first f g e v l (Adds c w) h k = unsealed e v (small_term (plain c w) f.draft.thresholds k l)
stage_first f g e v l (Areas c a) h k = unsealed e v (small_term (area c a) f.draft.thresholds k l)
stage_first f g e v l Seal h k =
    let j = job_of f.draft in
    let fits = fits_of g.draft in
    let light = light_of f.draft.nodes f.draft.thresholds g.draft.each l in
    sealed j fits light (serving_seal j fits light none lendable f g refl (v (lent_of j (built_of j none))) h)
stage_first f g e v l (Mark n x) h k = absurd (both (serving_turn f (taken f (Mark n x) h).turn) e)
stage_first f g e v l Settle h k = absurd (both (serving_turn f (taken f Settle h).turn) e)
stage_first f g e v l Sift h k = absurd (both (serving_turn f (taken f Sift h).turn) e)
stage_first f g e v l Unknown h k = unsealed e v l

stage_apply : (f : File) → Good f → Stage f → (r : Record) → refusal f r ≡ 0 → SmallRecord r → Stage (apply f r)
stage_apply f g (unsealed e v l) r h k = stage_first f g e v l r h k
stage_apply f g (sealed j fits light s) r h k = sealed j fits light (serving_apply j fits light none lendable f s r h)

stage_after : (f : File) (rs : List Record) → Good f → Stage f → Passed f rs → All SmallRecord rs → Stage (after f rs)
unfolding after
stage_after f [] g s p l = s
stage_after f (r ∷ rs) g s p l = stage_after (apply f r) rs (good_apply f g r p.0) (stage_apply f g s r p.0 l.0) p.1 l.1

stage_begun : Stage begun
unfolding begun
stage_begun = unsealed refl fresh-begun tt

-- ---- what is decided

low_stage : (f : File) → Good f → Stage f → Low f.draft.nodes f.live.marks
low_stage f g (unsealed e v l) i d = absurd (not-suc-le-zero ((v none).tracked.low i d))
low_stage f g (sealed j fits light s) i d =
    let m = (served-built j fits light none lendable).many in
    let q : j.nodes ≡ f.draft.nodes = ap (λ (k : Job). k.nodes) (sym s.closed ∙ g.same s.sealed) in
    let h = s.going.within.tracked.low i d in
    omega (arith, m, q, h)

-- ONLY NODES OF THE JOB
pub planned_inside : (input : List ℕ) → All IsByte input
    → let f = (planned input).file in Inside f.draft.nodes f.live.marks.sure × Inside f.draft.nodes f.live.marks.never
planned_inside input a =
    let f = (planned input).file in
    let m = f.live.marks in
    let s : Stage f = subst Stage (sym (Refusals.taken input)) (stage_after begun (planned input).records good_begun stage_begun (planned_passed input) (planned_small input a)) in
    let low = low_stage f (Refusals.good input) s in
    ((λ n h. low n (ap (λ (b : Bool). b || bit m.never n) h)), λ n h. low n (or_right (bit m.sure n) (bit m.never n) h))
