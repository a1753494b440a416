-- The public call joined to `whole`, the call over the buffers of numbers. Assumes nothing.
use Rattle.std.specs.Prelude.{ℕ, ◌<◌, ◌≤◌, ◌≡◌, refl, Bool, true, ◌&&◌, List, [], ◌∷◌, ◌++◌, map, length, take, drop, ℤ}
use Rattle.std.proofs.Common.{arith, sym, ap, ap₂, ◌∙◌, ⊎_elim, length-append, take_at}
use Rattle.std.proofs.Math.Path.{subst}
use Rattle.std.proofs.lemmas.Bool.{lt-leb}
use Rattle.base.specs.TestLaws.{true-false}
use Rattle.base.specs.Laid.{over}
use Rattle.memory.specs.Limits.{max_thresholds}
use Rattle.memory.specs.Buffers.{Work, Kept, fits, zeros, cleared}
use Rattle.state.specs.declared.State.{State}
use Rattle.state.specs.State.{no_state, figures_of, cursors_of}
use Rattle.row_moves.specs.NumbersLaws.{stored_read}
use Rattle.row_moves.specs.Numbers.{states_of}
use Rattle.states.specs.States.{shown}
use Rattle.files.specs.File.{File, file_of}
use Rattle.files.specs.Contents.{Out, served, untouched, whole, kept_of, laid}
use Rattle.theorem_demands.specs.RefusalLaws.{ten, served_when, untouched_when}
use Rattle.theorem_demands.proofs.PublicLaws.{plan-served, plan-untouched, long_fits}
use Rattle.theorem_limits.specs.KeptLaws.{kept-file}
use Rattle.files.specs.Planner.{left, plan}

-- ---- the states that the rows of numbers hold

pub states_front : (ss : List State) (fs : List (List ℤ)) (cs : List (List ℕ)) → states_of (map figures_of ss ++ fs) (map cursors_of ss ++ cs) ≡ ss ++ states_of fs cs
unfolding states_of
states_front [] fs cs = refl
states_front (s ∷ ss) fs cs = λ i. stored_read s i ∷ states_front ss fs cs i

-- Those of a file, at least, and in front.
pub record Holds (ss : List State) (k : Kept) : Type 0 where
  pub many : max_thresholds ≤ length (states_of k.figures k.cursors)
  pub front : take max_thresholds (states_of k.figures k.cursors) ≡ ss

holds_kept : (f : File) → length f.live.states ≡ max_thresholds → (w : Kept) → Holds f.live.states (kept_of f w)
unfolding kept_of
holds_kept f long w =
    let ss = f.live.states in
    let fs = drop (length (map figures_of ss)) w.figures in
    let cs = drop (length (map cursors_of ss)) w.cursors in
    let e = states_front ss fs cs in
    record {
      many = omega (arith, ap length e, length-append ss (states_of fs cs), long);
      front = ap (take max_thresholds) e ∙ take_at ss (states_of fs cs) max_thresholds long;
    }

-- ---- the call's two ways

pub plan_short : (input : List ℕ) (states : List State) (w : Work) → length states < max_thresholds → left (untouched w) states ≡ plan input states w
plan_short input states w h = sym (plan-untouched input states w (ap (λ (b : Bool). b && fits input w) (lt-leb max_thresholds (length states) h)))

module _ (input : List ℕ) (states : List State) (w : Work) (long : max_thresholds ≤ length states) (o : Out) (run : o ≡ whole input w) where
  pub plan-ten : o.given.refused ≡ 10 → left o states ≡ plan input states w
  plan-ten h =
      let e = (ten input w).0 (sym (ap (λ (r : Out). r.given.refused) run) ∙ h) in
      ap (λ (r : Out). left r states) (run ∙ untouched_when input w e) ∙ sym (plan-untouched input states w (long_fits input states w long ∙ e))

  module _ (h : o.given.refused ≡ 10 → ⊥) where
    fitting : fits input w ≡ true
    fitting = ⊎_elim (λ e. e) (λ e. absurd (h (ap (λ (r : Out). r.given.refused) run ∙ (ten input w).1 e))) (true-false (fits input w))

    as-served : o ≡ served (file_of input) w
    as-served = run ∙ served_when input w fitting

    held : Holds (file_of input).file.live.states o.work.kept
    unfolding laid
    held = subst (λ (r : Out). Holds (file_of input).file.live.states r.work.kept) (sym as-served) (holds_kept (file_of input).file (kept-file input).good.live.long (cleared w).kept)

    pub plan_many : max_thresholds ≤ length (states_of o.work.kept.figures o.work.kept.cursors)
    plan_many = held.many

    pub plan-shown : (zs : List State) → zs ≡ shown (states_of o.work.kept.figures o.work.kept.cursors) states → left o zs ≡ plan input states w
    plan-shown zs e =
        ap₂ left as-served (e ∙ ap (λ (ss : List State). over ss (zeros no_state states)) held.front)
        ∙ sym (plan-served input states w (long_fits input states w long ∙ fitting))
