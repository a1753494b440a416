-- WHAT THE CALL LEAVES SHOWS ITS FILE: for every input of bytes and every lent memory the words and row states in the buffers are those of the
-- outcome, so that the listing made of them is the file's. Assumes nothing.
use Rattle.std.specs.Prelude.{ℕ, suc, ◌≤◌, ◌≡◌, refl, Bool, true, false, cond, List, [], ◌∷◌, map, length, take, drop, leb}
use Rattle.std.proofs.Common.{arith, sym, ap, subst, length-append, take_at}
use Rattle.std.proofs.lemmas.List.{take-append-le}
use Rattle.base.specs.All.{All}
use Rattle.base.specs.TestLaws.{and_right}
use Rattle.base.specs.Laid.{over, pairs}
use Rattle.state.specs.declared.State.{State}
use Rattle.state.specs.State.{no_state}
use Rattle.rows.specs.Rows.{rows_of}
use Rattle.memory.specs.Limits.{max_thresholds}
use Rattle.memory.specs.Buffers.{Work, Kept, fits, zeros, cleared}
use Rattle.files.specs.File.{Answer, Outcome, begun, file_of, planned}
use Rattle.files.specs.Contents.{answer_number, answer_visits, kept_of, laid, served, untouched, given_of}
use Rattle.theorem_limits.specs.BuiltLaws.{rows_few}
use Rattle.theorem_demands.specs.RefusalLaws.{planned-file}
use Rattle.theorem_limits.specs.KeptLaws as Fit
use Rattle.memory.specs.LengthsLaws.{fits_input}
use Rattle.files.specs.Planner.{Left, left, fits_all, plan}
use Rattle.listing.specs.Shows.{Inside, Held, ten, Shows}
use Rattle.listing.specs.Shows as Is
use Rattle.listing.specs.Lines.{Listable}
use Rattle.listing.specs.ShowsLaws.{shows_listable}
use Rattle.report.specs.Ready.{IsByte}
use Rattle.report.specs.StagesLaws.{planned_inside}

-- The outcome that the call stands for: the file's, or refusal 10.
unfoldable pub ended : List ℕ → List State → Work → Outcome
ended input states w = elim (fits_all input states w) [ true ↦ planned input | false ↦ ten ]

abbrev pub ShowsIn : Outcome → Left → Type 0
ShowsIn o l = let k = l.out.work.kept in Shows o l.out.given k.answers l.states k.sure k.never

-- ---- lists in front of buffers

over-front : {X : Type 0} (l b : List X) (n : ℕ) → length l ≡ n → take n (over l b) ≡ l
over-front l b n e = take_at l (drop (length l) b) n e

over_long : {X : Type 0} (l b : List X) → length l ≤ length (over l b)
over_long l b = omega (arith, length-append l (drop (length l) b))

answers_long : (as' : List Answer) → length (pairs (map answer_number as') (map answer_visits as')) ≡ length as'
unfolding pairs
answers_long [] = refl
answers_long (a ∷ as') = ap suc (answers_long as')

-- ---- a file, laid into any buffers

rows-at-most : (b : Bool) (n : ℕ) → n ≤ max_thresholds → cond b n 0 ≤ max_thresholds
rows-at-most true n h = h
rows-at-most false n h = omega arith

held_kept : (o : Outcome) → Fit.Kept o.file → Inside o.file.draft.nodes o.file.live.marks.sure → Inside o.file.draft.nodes o.file.live.marks.never → (states : List State) (w : Kept)
    → let k = kept_of o.file w in Held o k.answers (over o.file.live.states states) k.sure k.never
unfolding kept_of
held_kept o f s n states w =
    let v = o.file.live in
    let as' = o.file.answers in
    let l = pairs (map answer_number as') (map answer_visits as') in
    let long = f.good.live.long in
    let few = rows-at-most o.file.sealed (length (rows_of o.file.closed)) (rows_few o.file.closed f.good.closed) in
    record {
      few_answers = f.answers;
      in_answers = omega (arith, answers_long as', over_long l w.answers);
      numbered = over-front l w.answers (length as') (answers_long as');
      closed = λ q. ap (λ j. j.nodes) (f.good.same q);
      few_rows = few;
      in_states = omega (arith, over_long v.states states, few, long);
      stated = take-append-le (given_of o).rows v.states (drop (length v.states) states) (omega (arith, few, long));
      few_nodes = f.good.draft.nodes;
      in_sure_lem = omega (arith, over_long v.marks.sure w.sure, f.good.live.waits.sures);
      in_never_lem = omega (arith, over_long v.marks.never w.never, f.good.live.waits.nevers);
      sures = over-front v.marks.sure w.sure 64 f.good.live.waits.sures;
      nevers = over-front v.marks.never w.never 64 f.good.live.waits.nevers;
      only_sure = s;
      only_never = n;
    }

served_shows : (o : Outcome) → Fit.Kept o.file → Inside o.file.draft.nodes o.file.live.marks.sure → Inside o.file.draft.nodes o.file.live.marks.never → (states : List State) (w : Work)
    → ShowsIn o (left (served o w) (over o.file.live.states states))
unfolding laid
served_shows o f s n states w = Is.held refl (held_kept o f s n states (cleared w).kept)

untouched_shows : (states : List State) (w : Work) → ShowsIn ten (left (untouched w) states)
unfolding begun
untouched_shows states w = Is.untouched refl refl

-- THE CALL SHOWS ITS FILE
pub shows_plan : (input : List ℕ) → All IsByte input → (states : List State) (w : Work) → ShowsIn (ended input states w) (plan input states w)
unfolding ended plan
shows_plan input a states w = by (fits_all input states w) refl
  where
    by : (b : Bool) → fits_all input states w ≡ b
        → let o : Outcome = elim b [ true ↦ planned input | false ↦ ten ]
        in let f = file_of input
        in let l : Left = elim b [ true ↦ left (served f w) (over f.file.live.states (zeros no_state states)) | false ↦ left (untouched w) states ]
        in ShowsIn o l
    by true e =
        let p = planned-file input (fits_input input w (and_right (leb max_thresholds (length states)) (fits input w) e)) in
        let i = planned_inside input a in
        subst (λ (o : Outcome). ShowsIn (planned input) (left (served o w) (over o.file.live.states (zeros no_state states)))) p
        (served_shows (planned input) (subst (λ (o : Outcome). Fit.Kept o.file) (sym p) (Fit.kept-file input)) i.0 i.1 (zeros no_state states) w)
    by false e = untouched_shows states w

-- So the listing can be made of what the call left; `listing::list` then makes that of the outcome.
pub listable_plan : (input : List ℕ) → All IsByte input → (states : List State) (w : Work)
    → let l = plan input states w in let k = l.out.work.kept in Listable l.out.given k.answers l.states k.sure k.never
listable_plan input a states w = shows_listable (shows_plan input a states w)
