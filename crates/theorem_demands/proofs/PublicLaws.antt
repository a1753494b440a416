-- DEMAND 1 AND CLAUSE A OF THE PUBLIC CALL: what is proved of `whole`, with the row states as one more buffer. Assumes nothing.
use Rattle.std.specs.Prelude.{ℕ, suc, ◌≤◌, ◌<◌, ◌≡◌, refl, Bool, true, false, ◌&&◌, List, [], ◌∷◌, ◌≢◌, ◌↔◌, length, get_or, take, drop, leb}
use Rattle.std.proofs.Common.{arith, sym, ap, ap₂, ◌∙◌, subst, inl, inr, ⊎_elim, length-take, leb-true, leb-false, le-leb}
use Rattle.std.proofs.Math.ListN.{get_or-append}
use Rattle.base.specs.TestLaws.{true-false, clash, and_left, and_right, and-false, unequal}
use Rattle.base.specs.Laid.{over}
use Rattle.state.specs.declared.State.{State}
use Rattle.state.specs.State.{no_state, figures_of, cursors_of}
use Rattle.memory.specs.Limits.{max_thresholds}
use Rattle.memory.specs.Buffers.{Work, needed, enough, longest_input, fits_by, fits, zeros, cleared, clear_kept}
use Rattle.memory.specs.Buffers as Buffers
use Rattle.memory.specs.LengthsLaws.{fits_sized, fits_input, fits_shorter}
use Rattle.files.specs.File.{Outcome, file_of, planned}
use Rattle.files.specs.Contents.{Out, served, untouched, whole, kept_of, laid}
use Rattle.files.specs.Planner.{Left, left, fits_all, plan}
use Rattle.theorem_limits.specs.KeptLaws.{kept-file}
use Rattle.theorem_demands.specs.Demands.{accepted_left, TooShort}
use Rattle.theorem_demands.specs.RefusalLaws as Refusals
use Rattle.theorem_demands.specs.RefusalLaws.{served_when, untouched_when, cut-file, planned-file}
use Rattle.theorem_demands.specs.MemoryLaws as Memory
use Rattle.theorem_demands.specs.MemoryLaws.{SameLengths, zeros_same}
use Rattle.theorem_demands.specs.LengthLaws as Lengths
use Rattle.theorem_demands.specs.LengthLaws.{laid_long}
use Rattle.theorem_demands.proofs.CallLaws.{over-map}

-- ---- the two ways of the call

-- An outcome over lent memory, the row states among it.
abbrev shown : Outcome → List State → Work → Left
shown o states w = left (served o w) (over o.file.live.states (zeros no_state states))

abbrev ways : List ℕ → List State → Work → Bool → Left
ways input states w b = elim b [ true ↦ shown (file_of input) states w | false ↦ left (untouched w) states ]

plan_by : (input : List ℕ) (states : List State) (w : Work) (b : Bool) → fits_all input states w ≡ b → plan input states w ≡ ways input states w b
unfolding plan
plan_by input states w b e = ap (ways input states w) e

pub plan-served : (input : List ℕ) (states : List State) (w : Work) → fits_all input states w ≡ true → plan input states w ≡ shown (file_of input) states w
plan-served input states w e = plan_by input states w true e

pub plan-untouched : (input : List ℕ) (states : List State) (w : Work) → fits_all input states w ≡ false → plan input states w ≡ left (untouched w) states
plan-untouched input states w e = plan_by input states w false e

-- ---- the test of all lengths

all_fits : (input : List ℕ) (states : List State) (w : Work) → fits_all input states w ≡ true → fits input w ≡ true
all_fits input states w e = and_right (leb max_thresholds (length states)) (fits input w) e

all_long : (input : List ℕ) (states : List State) (w : Work) → fits_all input states w ≡ true → max_thresholds ≤ length states
all_long input states w e = leb-true max_thresholds (length states) (and_left (leb max_thresholds (length states)) (fits input w) e)

pub long_fits : (input : List ℕ) (states : List State) (w : Work) → max_thresholds ≤ length states → fits_all input states w ≡ fits input w
long_fits input states w h = ap (λ (b : Bool). b && fits input w) (le-leb max_thresholds (length states) h)

-- One length that is not enough, of as many as are needed.
enough_short : (ns ms : List ℕ) → length ns ≡ length ms → enough ns ms ≡ false → (i : ℕ) × (get_or ms i 0 < get_or ns i 0)
unfolding enough
enough_short [] ms l e = absurd (unequal cc)
enough_short (n ∷ ns) [] l e = absurd (omega arith)
enough_short (n ∷ ns) (m ∷ ms) l e =
    ⊎_elim (λ (h : leb n m ≡ false). (0, leb-false n m h))
    (λ (h : enough ns ms ≡ false). let t = enough_short ns ms (omega arith) h in (suc t.0, t.1)) (and-false (leb n m) (enough ns ms) e)

short_of : (input : List ℕ) (states : List State) (w : Work) → fits_all input states w ≡ false → TooShort input states w
unfolding fits_by
short_of input states w e =
    ⊎_elim (λ (h : leb max_thresholds (length states) ≡ false). inl (leb-false max_thresholds (length states) h))
    (λ (h : fits input w ≡ false).
    ⊎_elim (λ (k : enough needed (Buffers.lengths w) ≡ false). inr (inl (enough_short needed (Buffers.lengths w) refl k)))
    (λ (k : leb (length input) longest_input ≡ false). inr (inr (leb-false (length input) longest_input k)))
    (and-false (enough needed (Buffers.lengths w)) (leb (length input) longest_input) h))
    (and-false (leb max_thresholds (length states)) (fits input w) e)

fits-not_short : (input : List ℕ) (states : List State) (w : Work) → fits_all input states w ≡ true → TooShort input states w → ⊥
fits-not_short input states w e (inl h) = let k = all_long input states w e in omega arith
fits-not_short input states w e (inr (inl h)) = let k = fits_sized input w (all_fits input states w e) h.0 in omega (arith, k, h.1)
fits-not_short input states w e (inr (inr h)) = let k = fits_input input w (all_fits input states w e) in omega arith

fits_unless : (input : List ℕ) (states : List State) (w : Work) → (TooShort input states w → ⊥) → fits_all input states w ≡ true
fits_unless input states w h = ⊎_elim (λ (e : fits_all input states w ≡ true). e) (λ (e : fits_all input states w ≡ false). absurd (h (short_of input states w e))) (true-false (fits_all input states w))

-- ---- DEMAND 1

served_number : (input : List ℕ) (states : List State) (w : Work) → fits_all input states w ≡ true
    → (plan input states w).out.given.refused ≡ (whole input w).given.refused
served_number input states w e =
    ap (λ (l : Left). l.out.given.refused) (plan-served input states w e)
    ∙ sym (ap (λ (o : Out). o.given.refused) (served_when input w (all_fits input states w e)))

untouched_number : (input : List ℕ) (states : List State) (w : Work) → fits_all input states w ≡ false → (plan input states w).out.given.refused ≡ 10
untouched_number input states w e = ap (λ (l : Left). l.out.given.refused) (plan-untouched input states w e)

pub numbers : (input : List ℕ) (states : List State) (w : Work) → (plan input states w).out.given.refused ≤ 10
numbers input states w =
    ⊎_elim (λ (e : fits_all input states w ≡ true). omega (arith, served_number input states w e, Refusals.numbers input w))
    (λ (e : fits_all input states w ≡ false). omega (arith, untouched_number input states w e)) (true-false (fits_all input states w))

-- no file that fits is refused by 10
fits_of_ten : (input : List ℕ) (states : List State) (w : Work) → (plan input states w).out.given.refused ≡ 10 → fits_all input states w ≡ false
fits_of_ten input states w h =
    ⊎_elim
    (λ (e : fits_all input states w ≡ true).
    absurd (clash (fits input w) (all_fits input states w e) ((Refusals.ten input w).0 (sym (served_number input states w e) ∙ h))))
    (λ (e : fits_all input states w ≡ false). e) (true-false (fits_all input states w))

pub ten : (input : List ℕ) (states : List State) (w : Work) → ((plan input states w).out.given.refused ≡ 10) ↔ TooShort input states w
ten input states w = (
  (λ h. short_of input states w (fits_of_ten input states w h)),
  λ h. ⊎_elim (λ (e : fits_all input states w ≡ true). absurd (fits-not_short input states w e h)) (untouched_number input states w) (true-false (fits_all input states w)),
)

pub ten_touches_nothing : (input : List ℕ) (states : List State) (w : Work) → let l = plan input states w in
    l.out.given.refused ≡ 10 → (l.out.given.at ≡ 0) × (l.out.work ≡ w) × (l.states ≡ states)
ten_touches_nothing input states w h =
    let e = plan-untouched input states w (fits_of_ten input states w h) in
    (ap (λ (l : Left). l.out.given.at) e, ap (λ (l : Left). l.out.work) e, ap (λ (l : Left). l.states) e)

-- A REFUSED RECORD LEAVES WHAT THE FILE CUT BEFORE IT LEAVES
pub refused : (input : List ℕ) (states : List State) (w : Work) → let l = plan input states w in l.out.given.refused ≢ 0 → l.out.given.refused ≢ 10
    → plan (take l.out.given.at input) states w ≡ accepted_left l
refused input states w h k =
    ⊎_elim
    (λ (e : fits_all input states w ≡ true).
    let q = plan-served input states w e in
    let a = (file_of input).at in
    let c = cut-file input (λ z. h (ap (λ (l : Left). l.out.given.refused) q ∙ z)) in
    let t = length-take a input in
    let fit = ap₂ (λ (x y : Bool). x && y) (and_left (leb max_thresholds (length states)) (fits input w) e) (fits_shorter (take a input) input w (omega arith) (all_fits input states w e)) in
    ap (λ (l : Left). plan (take l.out.given.at input) states w) q
    ∙ plan-served (take a input) states w fit ∙ ap (λ (o : Outcome). shown o states w) c ∙ ap accepted_left (sym q))
    (λ (e : fits_all input states w ≡ false). absurd (k (untouched_number input states w e))) (true-false (fits_all input states w))

-- ---- CLAUSE A

pub as_whole : (input : List ℕ) (states : List State) (w : Work) → max_thresholds ≤ length states → (plan input states w).out ≡ whole input w
as_whole input states w h =
    ⊎_elim
    (λ (e : fits input w ≡ true). ap (λ (l : Left). l.out) (plan-served input states w (long_fits input states w h ∙ e)) ∙ sym (served_when input w e))
    (λ (e : fits input w ≡ false). ap (λ (l : Left). l.out) (plan-untouched input states w (long_fits input states w h ∙ e)) ∙ sym (untouched_when input w e))
    (true-false (fits input w))

-- the file's states over cleared ones, whatever these held
states_same : (input : List ℕ) (r s : List State) → length r ≡ length s
    → over (file_of input).file.live.states (zeros no_state r) ≡ over (file_of input).file.live.states (zeros no_state s)
states_same input r s e = ap (over (file_of input).file.live.states) (zeros_same no_state r s e)

pub memory : (input : List ℕ) (r s : List State) (v w : Work) → length r ≡ length s → SameLengths v w → (TooShort input r v → ⊥) → plan input r v ≡ plan input s w
memory input r s v w e h free =
    let f = fits_unless input r v free in
    let g : fits_all input s w ≡ true = ap₂ (λ (n : ℕ) (ms : List ℕ). leb max_thresholds n && fits_by ms (length input)) (sym e) (sym h) ∙ f in
    let o = sym (served_when input v (all_fits input r v f)) ∙ Memory.memory input v w h (all_fits input r v f) ∙ served_when input w (all_fits input s w g) in
    plan-served input r v f ∙ ap₂ left o (states_same input r s e) ∙ sym (plan-served input s w g)

pub lengths : (input : List ℕ) (states : List State) (w : Work) → let l = plan input states w in SameLengths l.out.work w × (length l.states ≡ length states)
lengths input states w =
    ⊎_elim
    (λ (e : fits_all input states w ≡ true).
    let o = ap (λ (x : Out). x.work) (served_when input w (all_fits input states w e)) in
    subst (λ (l : Left). SameLengths l.out.work w × (length l.states ≡ length states)) (sym (plan-served input states w e)) (
      subst (λ (x : Work). SameLengths x w) o (Lengths.lengths input w),
      laid_long no_state (file_of input).file.live.states states max_thresholds (omega (arith, (kept-file input).good.live.long)) (all_long input states w e),
    ))
    (λ (e : fits_all input states w ≡ false).
    subst (λ (l : Left). SameLengths l.out.work w × (length l.states ≡ length states)) (sym (plan-untouched input states w e)) (refl, refl))
    (true-false (fits_all input states w))

pub files : (input : List ℕ) (states : List State) (w : Work) → (TooShort input states w → ⊥) → plan input states w ≡ shown (planned input) states w
files input states w free =
    let e = fits_unless input states w free in
    plan-served input states w e ∙ ap (λ (o : Outcome). shown o states w) (sym (planned-file input (fits_input input w (all_fits input states w e))))

-- A row's state and the row's words are the same state.
pub rows : (input : List ℕ) (states : List State) (w : Work) → (TooShort input states w → ⊥) → (r : ℕ) → r < max_thresholds → let l = plan input states w in
    (get_or l.out.work.kept.figures r [] ≡ figures_of (get_or l.states r no_state)) × (get_or l.out.work.kept.cursors r [] ≡ cursors_of (get_or l.states r no_state))
unfolding laid cleared clear_kept kept_of
rows input states w free r h =
    let ss = (file_of input).file.live.states in
    let k : r < length ss = omega (arith, (kept-file input).good.live.long, h) in
    let s : get_or (over ss (zeros no_state states)) r no_state ≡ get_or ss r no_state = get_or-append ss (drop (length ss) (zeros no_state states)) no_state r k in
    subst (λ (l : Left). (get_or l.out.work.kept.figures r [] ≡ figures_of (get_or l.states r no_state)) × (get_or l.out.work.kept.cursors r [] ≡ cursors_of (get_or l.states r no_state)))
    (sym (plan-served input states w (fits_unless input states w free)))
    (over-map figures_of ss _ r no_state [] k ∙ ap figures_of (sym s), over-map cursors_of ss _ r no_state [] k ∙ ap cursors_of (sym s))
