-- NO CONTRADICTION BEFORE A MARK: where there is no mark, the layout that is exhibited agrees with all of them, and where such a layout
-- exists no record contradicts.
use Rattle.std.specs.Prelude.{ℕ, ◌≡◌, true, false, List, [], ◌++◌, ◌≢◌}
use Rattle.std.proofs.Common.{arith, sym, ap, ◌∙◌, subst, append-nil, ⊎_elim}
use Rattle.base.specs.TestLaws.{clash, true-false}
use Rattle.numeric.specs.Area.{job_of}
use Rattle.numeric.specs.Layout.{Layout, IsLayout}
use Rattle.numeric.specs.Least.{least_layout}
use Rattle.numeric.proofs.LeastLaws.{least_layout_lem}
use Rattle.state.specs.declared.Step.TheVariants.{Contradiction}
use Rattle.memory.specs.Buffers.{Work, fits}
use Rattle.records.specs.declared.Record.{Record}
use Rattle.files.specs.File.{File, contradicted, begun, after, planned, Passed}
use Rattle.files.specs.Contents.{Out, whole}
use Rattle.theorem_limits.specs.FilesLaws.{planned_passed, passed_before}
use Rattle.theorem_demands.specs.Reading.{Unmarked, Agrees}
use Rattle.theorem_demands.specs.TableJobsLaws.{rises_weighed}
use Rattle.theorem_demands.specs.TableRecordsLaws.{Keeps, keeps_begun, keeps_after}
use Rattle.theorem_demands.specs.LayoutFilesLaws.{file_layouts}
use Rattle.theorem_demands.specs.RefusalLaws as Refusals
use Rattle.theorem_demands.specs.ReadLaws as Reads
use Rattle.theorem_demands.specs.ReadOnLaws.{refused_nine}
use Rattle.theorem_demands.proofs.CallLaws as Calls

agrees : (rs : List Record) → Unmarked rs → (v : Layout) → Agrees rs v
agrees rs u v n b m = absurd (u n b m)

pub fine : (input : List ℕ) (before later : List Record) → (planned input).records ≡ before ++ later → Unmarked before → contradicted (after begun before) ≡ false
fine input before later e u =
    let p = passed_before begun before later (subst (Passed begun) e (planned_passed input)) in
    let f = after begun before in
    (file_layouts before p (least_layout f.closed) (least_layout_lem f.closed (keeps_after begun before keeps_begun p).closed) (agrees before u (least_layout f.closed))).1

pub layouts : (input : List ℕ) → let f = (planned input).file in IsLayout (job_of f.draft) (least_layout (job_of f.draft)) × IsLayout f.closed (least_layout f.closed)
layouts input =
    let f = (planned input).file in
    let k : Keeps f = subst Keeps (sym (Refusals.taken input)) (keeps_after begun (planned input).records keeps_begun (planned_passed input)) in
    (least_layout_lem (job_of f.draft) (rises_weighed f.draft.thresholds k.rises), least_layout_lem f.closed k.closed)

-- 9 is given only behind a contradiction
pub not_nine : (input : List ℕ) → Unmarked (planned input).records → (planned input).refused ≢ 9
not_nine input u h =
    let s = Reads.first-check input (λ e. omega arith) (λ e. omega arith) in
    clash (contradicted (planned input).file) (refused_nine (planned input).file s.0 s.1 (sym s.3 ∙ h))
    (ap (λ (f : File). contradicted f) (Refusals.taken input) ∙ fine input (planned input).records [] (sym (append-nil (planned input).records)) u)

module _ (input : List ℕ) (w : Work) (u : Unmarked (planned input).records) where
  pub call_fine : (whole input w).given.last ≢ Contradiction
  call_fine e = let v = least_layout (planned input).file.closed in Calls.no_layout input w e v (layouts input).1 (agrees (planned input).records u v)

  pub call-not_nine : (whole input w).given.refused ≢ 9
  call-not_nine e =
      ⊎_elim (λ (h : fits input w ≡ true). not_nine input u (sym (ap (λ (o : Out). o.given.refused) (Refusals.files input w h)) ∙ e))
      (λ (h : fits input w ≡ false). let t = ap (λ (o : Out). o.given.refused) (Refusals.untouched_when input w h) in omega arith) (true-false (fits input w))
