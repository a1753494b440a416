-- Records that were taken pass every check but 9 by themselves. So what demand 3's last claim asks of its files narrows it nowhere: it
-- says nothing of a file that is not refused, and of one that is refused by 9 only what stands behind.
use Rattle.std.specs.Prelude.{ℕ, ◌≡◌, refl, false, List, [], ◌∷◌, ◌++◌, length, take}
use Rattle.std.proofs.Common.{arith, sym, ap, ◌∙◌, length-append}
use Rattle.std.proofs.Math.Seq.{take-length}
use Rattle.records.specs.declared.Record.{Record}
use Rattle.records.specs.Facts.{Action, begins, changes, closes, decides, settles, sifts, idles, action}
use Rattle.records.specs.declared.Standing.{Standing}
use Rattle.checks.specs.Checks.{refused_by}
use Rattle.job.specs.Job.{standing_of}
use Rattle.files.specs.File.{File, Answer, contradicted, begun, standing, refusal, sealed_file, marked_file, settled_file, sifted_file, act, apply, planned, Passed}
use Rattle.theorem_limits.specs.FilesLaws.{taken, planned_passed}
use Rattle.theorem_demands.specs.Reading.{records, decoded, plain, plainly, Passes}
use Rattle.theorem_demands.specs.ReadLaws.{spelled, read_all}
use Rattle.theorem_demands.specs.ReadOnLaws.{Level, level_same, level_apply}

-- Two files alike in all that the checks read.
pub record Alike (f g : File) : Type 0 where
  pub level : Level f g
  pub contradicted : contradicted f ≡ contradicted g
  pub answers : length f.answers ≡ length g.answers

alike_standing : (f g : File) → Alike f g → standing f ≡ standing g
alike_standing f g a = λ i. standing_of (a.level.started i) (a.level.sealed i) (a.contradicted i) (a.level.draft i) (a.answers i)

alike_refusal : (f g : File) (r : Record) → Alike f g → refusal f r ≡ refusal g r
unfolding refusal
alike_refusal f g r a = ap (λ (s : Standing). refused_by s r) (alike_standing f g a)

more_answers : (xs ys : List Answer) (x y : Answer) → length xs ≡ length ys → length (xs ++ (x ∷ [])) ≡ length (ys ++ (y ∷ []))
more_answers xs ys x y e = omega (arith, length-append xs (x ∷ []), e, length-append ys (y ∷ []))

-- what the two have after a record
module _ (f g : File) (e : length f.answers ≡ length g.answers) where
  answers-act : (a : Action) → length (act f a).answers ≡ length (plain g a).answers
  unfolding act sealed_file marked_file settled_file sifted_file plain
  answers-act (begins n) = e
  answers-act (changes c) = e
  answers-act closes = e
  answers-act (decides n v) = e
  answers-act settles = more_answers f.answers g.answers _ _ e
  answers-act sifts = more_answers f.answers g.answers _ _ e
  answers-act (idles x) = e

fine_plain : (g : File) (a : Action) → contradicted g ≡ false → contradicted (plain g a) ≡ false
unfolding act plain
fine_plain g (begins n) c = c
fine_plain g (changes x) c = c
fine_plain g closes c = refl
fine_plain g (decides n v) c = c
fine_plain g settles c = refl
fine_plain g sifts c = refl
fine_plain g (idles x) c = c

passed_passes : (f g : File) (rs : List Record) → Level f g → length f.answers ≡ length g.answers → contradicted g ≡ false → Passed f rs → Passes g rs
unfolding Passes apply plainly
passed_passes f g [] l e c p = tt
passed_passes f g (r ∷ rs) l e c p =
    let h : refusal g r ≡ 0 = sym (alike_refusal f g r (record { level = l; contradicted = (taken f r p.0).fine ∙ sym c; answers = e })) ∙ p.0 in
    (h, passed_passes (apply f r) (plainly g r) rs (level_apply f g l r (taken g r h)) (answers-act f g e (action r)) (fine_plain g (action r) c) p.1)

-- THE RECORDS THAT WERE TAKEN PASS
pub taken_passes : (input : List ℕ) → Passes begun (planned input).records
unfolding begun
taken_passes input = passed_passes begun begun (planned input).records (level_same begun) refl refl (planned_passed input)

-- and in a file that is not refused they are all
pub accepted_pass : (input : List ℕ) → (planned input).refused ≡ 0 → (decoded input ≡ records (planned input).records) × Passes begun (planned input).records
accepted_pass input h =
    let all = ap (λ (n : ℕ). take n input) (read_all input h) ∙ take-length input in
    (ap decoded (sym all) ∙ spelled input, taken_passes input)
