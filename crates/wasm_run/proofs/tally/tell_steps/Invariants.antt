use Rattle.std.proofs.Common.{take}
use Rattle.std.specs.List.{AllZip}
use Rattle.reports.specs.Counting.{numbered}
use Rattle.reports.specs.Shown.{IsTold}
use Rattle.reports.specs.declared.fact.Fact.TheVariants.{StepDone}
use Rattle.wasm_run.proofs.tally.tell_steps.Given as goal

abbrev pub invariant-loop-class : goal.invariant-loop-class
invariant-loop-class g l = AllZip (λ b c. IsTold (numbered StepDone 1 (take l.class l.steps)) (g.R.Report.shown b) (g.R.Report.shown c)) l.fn.reports.items l.reports.items
