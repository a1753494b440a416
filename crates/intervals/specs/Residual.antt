-- What divisibility shows of a drained row: `threshold_residual` of residual.rs on values.
use Rattle.std.specs.Prelude.{ℕ, ◌+◌, ◌-◌, min, Bool, true, false, cond, ◌&&◌, ◌||◌, not, List, [], ◌∷◌, reverse, length, get_or, eqb, leb, ltb}
use Rattle.std.specs.Int.Signed.{lt_z}
pub use Rattle.base.specs.Laid.{over}
use Rattle.numeric.specs.Threshold.{Term}
use Rattle.state.specs.declared.Step.{Step}
use Rattle.state.specs.declared.Step.TheVariants.{Unchanged, Contradiction}
use Rattle.state.specs.declared.State.{State}
use Rattle.state.specs.Step.{joined, contradicts}
use Rattle.state.specs.State.{natural, limit, reached, upper_at_most, has_residual_interval}
use Rattle.queues.specs.Marks.{Marks, is_decided, Decided, decided, decide}
use Rattle.rows.specs.Rows.{has_nonunit}
use Rattle.intervals.specs.declared.Interval.{Interval}
use Rattle.divisors.specs.Gcd.{gcd}
use Rattle.misses.specs.Misses.{misses, branch_misses}

-- The figures of a row with a residual interval; none of them is negative. `upper` is the last sum allowed.
abbrev pub interval : State → Interval
interval s =
    let end = natural (limit s.upper) in
    record { known = natural s.known; possible = natural s.possible; lower = natural s.lower; upper = end - 1; width = end - natural s.lower }

-- The undecided weights up to here do not all miss: one fits the interval, their gcd is 1, or a new gcd hits.
abbrev pub stops_at : Interval → ℕ → ℕ → ℕ → Bool
stops_at i divisor weight next =
    (eqb divisor 0 && leb weight i.width) || eqb next 1
    || (not (eqb next divisor) && not (misses i.known i.lower (min i.possible i.upper) next))

-- `d` tells which nodes are decided. Terms from the light end: does the lattice of all undecided weights miss the interval?
unfoldable pub check_from : Interval → (ℕ → Bool) → List Term → ℕ → Step
check_from i d [] divisor =
    cond (eqb divisor 0 && not (misses i.known i.lower (min i.possible i.upper) 0)) Unchanged Contradiction
check_from i d (t ∷ ts) divisor =
    elim (d t.condition) [
      | true ↦ check_from i d ts divisor
      | false ↦
          let next = gcd divisor t.weight in
          elim (stops_at i divisor t.weight next) [ true ↦ Unchanged | false ↦ check_from i d ts next ]
    ]

-- `threshold_residual_check`
unfoldable pub residual_check : List Term → State → (ℕ → Bool) → Step
residual_check ts s d =
    cond (has_nonunit ts && has_residual_interval s)
    (cond (upper_at_most s.upper (reached s) || lt_z s.possible (reached s)) Contradiction (check_from (interval s) d (reverse ts) 0))
    Unchanged

-- No weight fits yet, and this one, the lightest that is left, does not.
abbrev pub too_wide : Interval → Bool → ℕ → Bool
too_wide i fitting weight = not fitting && ltb i.width weight

-- Beside a weight that fits, another one or the gcd of the others fits.
abbrev pub both_fit : Interval → ℕ → ℕ → Bool
both_fit i weight next = leb weight i.width || (ltb 0 next && leb next i.width)

-- Terms from the light end: one undecided weight fits, and so does another or the gcd of the others.
-- Then no term's lattice can miss, and nothing is forced.
unfoldable pub fits_from : Interval → (ℕ → Bool) → List Term → Bool → ℕ → Bool
fits_from i d [] fitting complement = false
fits_from i d (t ∷ ts) fitting complement =
    elim (too_wide i fitting t.weight) [
      | true ↦ false
      | false ↦
          elim (d t.condition) [
            | true ↦ fits_from i d ts fitting complement
            | false ↦
                elim fitting [
                  | false ↦ fits_from i d ts true complement
                  | true ↦
                      let next = gcd complement t.weight in
                      elim (both_fit i t.weight next) [ true ↦ true | false ↦ fits_from i d ts true next ]
                ]
          ]
    ]

-- `prepare_suffix`: the gcd of the undecided weights among the last 0, 1, 2 .. terms; the argument's terms are reversed.
unfoldable pub suffix_from : (ℕ → Bool) → List Term → ℕ → List ℕ
suffix_from d [] suffix = suffix ∷ []
suffix_from d (t ∷ ts) suffix = suffix ∷ suffix_from d ts (cond (d t.condition) suffix (gcd suffix t.weight))

abbrev pub suffixes : (ℕ → Bool) → List Term → List ℕ
suffixes d ts = suffix_from d (reverse ts) 0

-- The gcd of the undecided weights among the last n terms, of a list that begins with the suffixes.
abbrev pub placed : List ℕ → ℕ → ℕ
placed suf n = get_or suf n 0

-- By the gcd of the other undecided weights no sum is allowed where this one is left out; or where it is taken.
abbrev pub off_misses : Interval → ℕ → ℕ → Bool
off_misses i weight divisor = branch_misses i.known (i.possible - weight) i.lower i.upper divisor

abbrev pub on_misses : Interval → ℕ → ℕ → Bool
on_misses i weight divisor = branch_misses (i.known + weight) i.possible i.lower i.upper divisor

-- What one undecided term is forced to.
unfoldable pub force_term : Interval → Marks → Term → ℕ → Decided
force_term i m t divisor =
    elim (eqb divisor 1) [
      | true ↦ decided m Unchanged
      | false ↦
          elim (off_misses i t.weight divisor) [
            | true ↦ elim (on_misses i t.weight divisor) [ true ↦ decided m Contradiction | false ↦ decide true m t.condition ]
            | false ↦ elim (on_misses i t.weight divisor) [ true ↦ decide false m t.condition | false ↦ decided m Unchanged ]
          ]
    ]

-- Terms from the heavy end, with the gcd of the undecided weights before; `behind` tells that of the last 0, 1, 2 .. terms.
unfoldable pub force_from : Interval → (ℕ → ℕ) → List Term → ℕ → Marks → Step → Decided
force_from i behind [] prefix m step = decided m step
force_from i behind (t ∷ ts) prefix m step =
    elim (is_decided m t.condition) [
      | true ↦ force_from i behind ts prefix m step
      | false ↦
          let d = force_term i m t (gcd prefix (behind (length ts))) in
          elim (contradicts d.step) [
            | true ↦ decided d.marks Contradiction
            | false ↦ force_from i behind ts (gcd prefix t.weight) d.marks (joined step d.step)
          ]
    ]

-- What a residual did: the marks, the answer, and the buffer of gcds, whose first places hold the suffixes.
pub record Residual : Type 0 where
  pub marks : Marks
  pub step : Step
  pub gcds : List ℕ

abbrev pub residual : Marks → Step → List ℕ → Residual
residual m k g = record { marks = m; step = k; gcds = g }

-- Nothing can be forced: no residual interval, or every gcd of all weights but one fits it.
abbrev pub nothing_forced : List Term → State → (ℕ → Bool) → Bool
nothing_forced ts s d = not (has_nonunit ts && has_residual_interval s) || fits_from (interval s) d (reverse ts) false 0

-- `threshold_residual`
unfoldable pub threshold_residual : List Term → State → Marks → List ℕ → Residual
threshold_residual ts s m gcds =
    elim (contradicts (residual_check ts s (is_decided m))) [
      | true ↦ residual m Contradiction gcds
      | false ↦
          elim (nothing_forced ts s (is_decided m)) [
            | true ↦ residual m Unchanged gcds
            | false ↦
                let f = force_from (interval s) (placed (suffixes (is_decided m) ts)) ts 0 m Unchanged in
                residual f.marks f.step (over (suffixes (is_decided m) ts) gcds)
          ]
    ]
