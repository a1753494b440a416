-- `report::plan` meets its contract: without room nothing is touched; its own buffers are of the listed lengths, and the input is bytes.
use native.Mathlib.Omega.{arith}
use mathlib.Core.Path.{ap}
use Rattle.files.specs.declared.Given.{Given}
use Rattle.report.specs.Plan.{plan_of}
use Rattle.report.specs.BytesLaws.{bytes_by}
use Rattle.report.specs.Ready.{Ready}
use Rattle.report.specs.PlanLaws.{plans_short, fresh, fresh_long}
use Rattle.report.proofs.plan.Goals as goal

pub returns-then-short : goal.returns-then-short
returns-then-short c =
    let a = c.args in
    plans_short a.input.now a.out.now _ (omega (arith, c.if-short.true)) (ap (λ (g : Given). plan_of g 0) c.too_short.ensures)

pub plan_in-requires : goal.plan_in-requires
plan_in-requires c =
    let input = c.args.input.now in
    let r : Ready input c.args.out.now fresh =
    record { bytes = bytes_by input (λ i. omega (arith, c.shared_slice_known-1.given i)); room = omega (arith, c.if-short.false); long = fresh_long } in
    r

pub shape_of-out : goal.shape_of-out
shape_of-out c = c.plan_in.auto.out
