-- How the suffixes are laid into the buffer of gcds, one store a turn, the light end first.
use Rattle.std.specs.Prelude.{ℕ, zero, suc, ◌-◌, ◌<◌, ◌≤◌, ◌≡◌, refl, Bool, cond, List, [], ◌∷◌, ◌++◌, reverse, length, get_or, set, take, drop}
use Rattle.std.proofs.Common.{not-suc-le-zero, zero-add, arith, sym, ap, ap₂, ◌∙◌}
use Rattle.std.proofs.lemmas.List.{length-reverse}
use Rattle.std.proofs.lemmas.List.Edits.{sets, sets-eq}
use Rattle.std.proofs.Math.Seq.{take-length}
use Rattle.numeric.specs.Threshold.{Term}
use Rattle.numeric.specs.Slices.{terms}
use Rattle.numeric.specs.TermsLaws.{down_terms}
use Rattle.divisors.specs.Gcd.{gcd}
use Rattle.intervals.specs.Residual.{suffix_from, suffixes, over}

pub length_suffix : (d : ℕ → Bool) (ts : List Term) (suffix : ℕ) → length (suffix_from d ts suffix) ≡ suc (length ts)
unfolding suffix_from
length_suffix d [] suffix = refl
length_suffix d (t ∷ ts) suffix = ap suc (length_suffix d ts (cond (d t.condition) suffix (gcd suffix t.weight)))

-- What is left to store, with `left` terms to go, of `count`.
abbrev pub laid : (ℕ → Bool) → List Term → ℕ → ℕ → ℕ → List ℕ → List ℕ
laid d ts count left suffix gcds = sets gcds (count - left) (suffix_from d (reverse (take left ts)) suffix)

pub laid-start : (d : ℕ → Bool) (ts : List Term) (count : ℕ) (gcds : List ℕ) → count ≡ length ts → length ts < length gcds
    → laid d ts count count 0 gcds ≡ over (suffixes d ts) gcds
laid-start d ts count gcds e h =
    let z : count - count ≡ 0 = omega arith in
    let n = length_suffix d (reverse ts) 0 in
    let r = length-reverse ts in
    ap₂ (λ (i : ℕ) (l : List Term). sets gcds i (suffix_from d (reverse l) 0)) z (ap (λ (k : ℕ). take k ts) e ∙ take-length ts)
    ∙ sets-eq (suffixes d ts) gcds 0 (omega arith)
    ∙ ap (λ (k : ℕ). suffixes d ts ++ drop k gcds) (zero-add (length (suffixes d ts)))

pub laid_next : (d : ℕ → Bool) (cs ws : List ℕ) (count left suffix : ℕ) (gcds : List ℕ) → 0 < left → left ≤ count
    → left ≤ length cs → left ≤ length ws
    → laid d (terms cs ws) count left suffix gcds
    ≡ laid d (terms cs ws) count (left - 1) (cond (d (get_or cs (left - 1) 0)) suffix (gcd suffix (get_or ws (left - 1) 0))) (set gcds (count - left) suffix)
unfolding suffix_from
laid_next d cs ws count zero suffix gcds h k f g = absurd (not-suc-le-zero h)
laid_next d cs ws count (suc left) suffix gcds h k f g =
    let e : suc left - 1 ≡ left = omega arith in
    let n : suc (count - suc left) ≡ count - left = omega arith in
    rw e
    (ap (λ (l : List Term). sets gcds (count - suc left) (suffix_from d l suffix)) (down_terms cs ws left (omega arith) (omega arith))
    ∙ ap (λ (i : ℕ). sets (set gcds (count - suc left) suffix) i
    (suffix_from d (reverse (take left (terms cs ws))) (cond (d (get_or cs left 0)) suffix (gcd suffix (get_or ws left 0))))) n)

pub laid_end : (d : ℕ → Bool) (ts : List Term) (count left suffix : ℕ) (gcds : List ℕ) → left ≡ 0
    → set gcds count suffix ≡ laid d ts count left suffix gcds
unfolding suffix_from
laid_end d ts count left suffix gcds e = rw e (ap (λ (i : ℕ). set gcds i suffix) (sym (let z : count - 0 ≡ count = omega arith in z)))
