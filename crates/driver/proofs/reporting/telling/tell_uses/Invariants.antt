use Rattle.std.proofs.Common.{take}
use Rattle.reports.specs.Counting.{numbered}
use Rattle.reports.specs.declared.fact.Fact.TheVariants.{RuleUsed}
use Rattle.module_run.specs.RunFacts.{AreTold}
use Rattle.driver.proofs.reporting.telling.tell_uses.Given as goal

abbrev pub invariant-loop-rule : goal.invariant-loop-rule
invariant-loop-rule g l = AreTold g.R.Report.shown (numbered RuleUsed 1 (take l.rule l.uses)) l.fn.reports.items l.reports.items
