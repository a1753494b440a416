-- WHAT THE PHASE ASKS IS MET: the file that the records of a job leave is within the limits, memory is as it was before them, and where a
-- seal comes next it passes its checks. Assumes nothing.
use Prim.Native.Nat.{ℕ, zero, suc, ◌+◌, ◌<◌, ◌≤◌}
use Rattle.std.proofs.Math.Decide.{dec_lt}
use Rattle.std.proofs.Common.{arith, sym, ap, ap₂, subst, ◌∙◌, ⊎_elim, drop_of_length-le, drop-cons, drop-drop, eq-eqb}
use Rattle.std.specs.Prelude.{◌≡◌, Bool, true, false, cond, length, drop}
use Rattle.std.proofs.Math.Path.{refl}
use mathlib.Core.List.{List, [], ◌∷◌, ◌++◌}
use Rattle.std.proofs.Math.ListN.{get_or}
use Rattle.std.proofs.lemmas.Bool.{not-true}
use Rattle.base.specs.TestLaws.{true-false}
use Rattle.records.specs.declared.Record.{Record}
use Rattle.records.specs.declared.Record.TheVariants.{Header, Opens, Adds, Areas, Seal, Mark, Settle, Sift, Unknown}
use Rattle.records.specs.Record.{kind_of, body_length, record_at}
use Rattle.checks.specs.Next.{Refused, Taken, closing, next_at}
use Rattle.records.specs.At.{record_in}
use Rattle.checks.specs.Checks.{wrong_turn}
use Rattle.records.specs.Facts.{Action, serving, action, facts}
use Rattle.memory.specs.Buffers.{Kept, clear_kept}
use Rattle.queues.specs.declared.Rings.{Rings}
use Rattle.files.specs.declared.JobRead.{JobRead}
use Rattle.files.specs.File.{File, begun, standing, refusal, act, apply, Outcome, outcome, refusal_at, file_of}
use Rattle.files.specs.FileLaws.{zero_or}
use Rattle.files.specs.Contents.{kept_of}
use Rattle.files.specs.JobPart.{JobPart, job_part, read_job, job_part_from, job_part_of}
use Rattle.files.specs.JobPartLaws.{job_refused, job_sealing, job_next, part_goes_on, part_ends}
use Rattle.theorem_limits.specs.FilesLaws.{good_begun, good_apply, both, Taken as Passes, taken, unserving_turn, refused_by_lem}
use Rattle.theorem_limits.specs.ActionLaws.{act_unsealed}
use Rattle.theorem_limits.specs.Good.{Good}
use Rattle.serve.specs.declared.Reached.{Reached}
use Rattle.serve.specs.Serve.{read_at}
use Rattle.serve.specs.ReadLaws.{ended, taken_any}
use Rattle.serve_phase.specs.Phase.{Blank, Begins, ending, Leaves}
use Rattle.serve_phase.specs.PhaseLaws.{ending_seals, ending-none}

-- Records of a job leave memory and answers as they were.
pub record SameMemory (f₀ f : File) : Type 0 where
  pub live : f.live ≡ f₀.live
  pub gcds : f.gcds ≡ f₀.gcds
  pub answers : f.answers ≡ f₀.answers
  pub last : f.last ≡ f₀.last

-- Up to the next seal: marks, settles and sifts are not in their turn.
pub record Before (f₀ f : File) : Type 0 where
  pub memory : SameMemory f₀ f
  pub good : Good f
  pub building : wrong_turn (standing f) serving ≡ true

before-act : (f₀ f : File) → Before f₀ f → (a : Action) → Passes f (facts a) → closing a ≡ false → Good (act f a) → Before f₀ (act f a)
before-act f₀ f b =
    act_unsealed f (λ (a : Action) (h : File). closing a ≡ false → Good h → Before f₀ h) (λ x c g. b) (unserving_turn f b.building)
    (λ a d c g. record { memory = record { live = b.memory.live; gcds = b.memory.gcds; answers = b.memory.answers; last = b.memory.last }; good = g; building = b.building })
    (λ t c. absurd (both refl c))

before-apply : (f₀ f : File) → Before f₀ f → (r : Record) → refusal f r ≡ 0 → closing (action r) ≡ false → Before f₀ (apply f r)
unfolding apply
before-apply f₀ f b r h c = before-act f₀ f b (action r) (taken f r h) c (good_apply f b.good r h)

closing-seal : (r : Record) → closing (action r) ≡ true → r ≡ Seal
closing-seal (Header n) c = absurd (both c refl)
closing-seal (Opens n z) c = absurd (both c refl)
closing-seal (Adds x w) c = absurd (both c refl)
closing-seal (Areas x a) c = absurd (both c refl)
closing-seal Seal c = refl
closing-seal (Mark n v) c = absurd (both c refl)
closing-seal Settle c = absurd (both c refl)
closing-seal Sift c = absurd (both c refl)
closing-seal Unknown c = absurd (both c refl)

-- Where the records of the job end.
pub record Ended (input : List ℕ) (f₀ : File) (j : JobPart) : Type 0 where
  pub before : Before f₀ j.file
  pub next : j.sealing ≡ true → (j.at < length input) × (next_at (standing j.file) input j.at ≡ Taken Seal)

module _ (input : List ℕ) (f₀ : File) where
  stops : (f : File) → Before f₀ f → (rs : List Record) (r o : ℕ) → Ended input f₀ (job_part f rs r o false)
  stops f b rs r o = record { before = b; next = λ e. absurd (both e refl) }

  ends-from : (n o : ℕ) (f : File) (rs : List Record) → Before f₀ f → Ended input f₀ (read_job n o (drop o input) f rs)
  unfolding read_job
  ends-from zero o f rs b = stops f b rs 0 o
  ends-from (suc n) o f rs b = by (λ p g qs c. ends-from n p g qs c) (dec_lt o (length input))
    where
      kind : ℕ
      kind = get_or input o 0

      rest : List ℕ
      rest = drop (o + 1) input

      x : Record
      x = record_at kind rest

      size : ℕ
      size = body_length (kind_of kind)

      cons : o < length input → drop o input ≡ kind ∷ rest
      cons h = let e : suc o ≡ o + 1 = omega arith in drop-cons input o 0 h ∙ ap (λ (k : ℕ). kind ∷ drop k input) e

      one : ((p : ℕ) (g : File) (qs : List Record) → Before f₀ g → Ended input f₀ (read_job n p (drop p input) g qs)) → o < length input → Ended input f₀ (read_job (suc n) o (kind ∷ rest) f rs)
      one ih h =
          ⊎_elim
          (λ (e : refusal_at f kind rest ≡ 0).
          ⊎_elim
          (λ (c : closing (action x) ≡ true).
          subst (Ended input f₀) (sym (job_sealing n o kind rest f rs e c))
          (record {
            before = b;
            next = λ z. (h, ap (λ (t : Bool). cond t (Taken (record_in input o)) (Refused (refusal_at f kind rest))) (eq-eqb (refusal_at f kind rest) 0 e) ∙ ap Taken (closing-seal x c));
          }))
          (λ (c : closing (action x) ≡ false).
          subst (Ended input f₀) (sym (job_next n o kind rest f rs e c))
          (subst (λ (l : List ℕ). Ended input f₀ (read_job n (o + 1 + size) l (apply f x) (rs ++ (x ∷ [])))) (sym (drop-drop size (o + 1) input))
          (ih (o + 1 + size) (apply f x) (rs ++ (x ∷ [])) (before-apply f₀ f b x (refused_by_lem 0 (λ z. omega arith) (λ z. omega arith) f kind rest e) c)))) (true-false (closing (action x))))
          (λ (e : refusal_at f kind rest ≡ 0 → ⊥). subst (Ended input f₀) (sym (job_refused n o kind rest f rs e)) (stops f b rs (refusal_at f kind rest) o)) (zero_or (refusal_at f kind rest))

      by : ((p : ℕ) (g : File) (qs : List Record) → Before f₀ g → Ended input f₀ (read_job n p (drop p input) g qs)) → Dec (o < length input) → Ended input f₀ (read_job (suc n) o (drop o input) f rs)
      by ih (yes h) = subst (λ (l : List ℕ). Ended input f₀ (read_job (suc n) o l f rs)) (sym (cons h)) (one ih h)
      by ih (no h) =
          let k : length input ≤ o = omega arith in
          subst (λ (l : List ℕ). Ended input f₀ (read_job (suc n) o l f rs)) (sym (drop_of_length-le input k)) (stops f b rs 0 o)

module _ (input : List ℕ) where
  -- AFTER THE RECORDS OF A JOB, from any file and offset
  pub part_ended : (f : File) → Good f → wrong_turn (standing f) serving ≡ true → (o : ℕ) (rs : List Record) → Ended input f (job_part_from input o f rs)
  part_ended f g e o rs = ends-from input f (length input) o f rs (record { memory = record { live = refl; gcds = refl; answers = refl; last = refl }; good = g; building = e })

  -- and from the start.
  pub job_ended : Ended input begun (job_part_of input)
  unfolding job_part_of begun
  job_ended = part_ended begun good_begun refl 0 []

  pub job_blank : Blank (job_part_of input).file
  unfolding begun
  job_blank = let m = job_ended.before.memory in record { live = m.live; gcds = m.gcds; answers = m.answers; last = m.last }

  pub job_unsealed : (job_part_of input).file.sealed ≡ false
  job_unsealed = not-true (job_part_of input).file.sealed job_ended.before.building

-- THE FILE ENDS as the phase ends it, by what the job's reader gave back: from any file and offset.
module _ (input : List ℕ) (at : ℕ) (f : File) (r : JobRead)
    (er : r.refusal ≡ (job_part_from input at f []).refused) (ea : r.at ≡ (job_part_from input at f []).at) (es : r.sealing ≡ (job_part_from input at f []).sealing) where
  abbrev j : JobPart
  j = job_part_from input at f []

  part-ending : (b : Bool) → j.sealing ≡ b → ended (ending input j.file r) ≡ ended (read_at (length input) input at f)
  part-ending true q =
      ap ended (ending_seals input j.file r (es ∙ q)) ∙ ap (λ (n : ℕ). ended (read_at (length input) input n j.file)) ea
      ∙ taken_any (length input) j.at (drop j.at input) j.file [] j.records ∙ ap ended (sym (part_goes_on input at f []).1)
  part-ending false q =
      ap ended (ending-none input j.file r (es ∙ q)) ∙ ap₂ (λ (n m : ℕ). outcome j.file [] n m) er ea ∙ ap ended (sym (part_ends input at f [] q))

  pub leaves_part : (k₀ k : Kept) (o : Reached) → Leaves k₀ k o (ending input j.file r) → Leaves k₀ k o (read_at (length input) input at f)
  leaves_part k₀ k o l =
      let e = part-ending j.sealing refl in
      record {
        words = l.words ∙ ap (λ (p : Outcome). kept_of p.file (clear_kept k₀)) e;
        standing = l.standing ∙ ap (λ (p : Outcome). standing p.file) e;
        last = l.last ∙ ap (λ (p : Outcome). p.file.last) e;
        refused = l.refused ∙ ap (λ (p : Outcome). p.refused) e;
        at = l.at ∙ ap (λ (p : Outcome). p.at) e;
      }

  -- What the next phase can begin with is that of the file, too.
  pub begins_part : (k₀ k : Kept) (rings : Rings) → Begins k₀ (ending input j.file r).file k rings → Begins k₀ (read_at (length input) input at f).file k rings
  begins_part k₀ k rings b = subst (λ (p : Outcome). Begins k₀ p.file k rings) (part-ending j.sealing refl) b

-- THE WHOLE FILE
module _ (input : List ℕ) (r : JobRead) (er : r.refusal ≡ (job_part_of input).refused) (ea : r.at ≡ (job_part_of input).at) (es : r.sealing ≡ (job_part_of input).sealing) where
  pub leaves_file : (k₀ k : Kept) (o : Reached) → Leaves k₀ k o (ending input (job_part_of input).file r) → Leaves k₀ k o (file_of input)
  unfolding job_part_of file_of
  leaves_file k₀ k o l = leaves_part input 0 begun r er ea es k₀ k o l
