use Rattle.std.proofs.Common.{◌<◌, ◌≤◌, ◌+◌, length, take, replicate, get_or, subst, arith}
use Rattle.std.specs.List.{AllZip}
use Rattle.std.proofs.Math.Seq.{take_all}
use Rattle.reports.specs.Counting.{numbered}
use Rattle.reports.specs.Shown.{IsTold}
use Rattle.reports.specs.declared.fact.Fact.TheVariants.{StepDone}
use Rattle.reports.proofs.FactByFact.{all_told_none, all_told_then, numbered_more}
use Rattle.wasm_run.proofs.tally.tell_steps.Goals as goal

pub loop-class-init : goal.loop-class-init
loop-class-init g c = all_told_none g.R.Report.shown c.args.reports.now.items

pub loop-class-preserved : goal.loop-class-preserved
loop-class-preserved g c =
    let i = c.loop-class.class in
    let steps = c.args.steps.now in
    let lt : i < length steps = grind arith in
    subst (λ fs. AllZip (λ x y. IsTold fs (g.R.Report.shown x) (g.R.Report.shown y)) c.args.reports.now.items c.tell.new.reports.items)
    (numbered_more StepDone 1 i (i + 1) steps 0 (i + 1) lt (omega arith) (omega arith))
    (all_told_then g.R.Report.shown (numbered StepDone 1 (take i steps)) (replicate (get_or steps i 0) (StepDone (i + 1))) c.args.reports.now.items c.loop-class.reports.items c.tell.new.reports.items c.loop-class.invariant c.tell.ensures.told)

pub returns : goal.returns
returns g c =
    let steps = c.args.steps.now in
    let le : length steps ≤ c.loop-class.class = grind arith in
    record {
      told = subst (λ ns. AllZip (λ x y. IsTold (numbered StepDone 1 ns) (g.R.Report.shown x) (g.R.Report.shown y)) c.args.reports.now.items c.loop-class.reports.items) (take_all c.loop-class.class steps le) c.loop-class.invariant;
    }
