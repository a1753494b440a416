-- What is handed out is the front of the plan's buffer and of the notice's.
use Rattle.std.proofs.Common.{◌≤◌, length, sym, length-take-le}
use Rattle.report.specs.PlanLaws.{plans_within}
use Rattle.planner_main.specs.ReadsLaws.{front, prints, tells}
use Rattle.planner_main.proofs.answer.Goals as goal

pub slice_bounds-print-end : goal.slice_bounds-print-end
slice_bounds-print-end c =
    let p = c.plan-planned in
    plans_within c.args.input.read.now c.args.out.now p.new.out p.result c.requires.1 p.ensures

pub slice_bounds-print-end-2 : goal.slice_bounds-print-end-2
slice_bounds-print-end-2 c =
    let p = c.plan-planned in
    let within : p.result.length ≤ length p.new.out = plans_within c.args.input.read.now c.args.out.now p.new.out p.result c.requires.1 p.ensures in
    sym (length-take-le _ _ within)

pub print-requires : goal.print-requires
print-requires c =
    let p = c.plan-planned in
    prints c.args.input.ended c.args.input.read.now c.requires.0 c.args.out.now p.new.out p.result c.requires.1 p.ensures

pub tell-requires : goal.tell-requires
tell-requires c =
    let p = c.plan-planned in
    tells c.args.input.ended c.args.input.read.now c.requires.0 c.args.out.now p.new.out p.result c.requires.1 p.ensures _ (front _ _ _ _ _ c.notice-end.ensures)
