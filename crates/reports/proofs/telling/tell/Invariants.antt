use Rattle.std.proofs.Common.{replicate}
use Rattle.reports.proofs.FactByFact.{ToldUpTo}
use Rattle.reports.proofs.telling.tell.Given as goal

abbrev pub invariant-loop-report : goal.invariant-loop-report
invariant-loop-report g l = ToldUpTo g.R.Report.shown (replicate l.times l.fact) l.report-index l.fn.reports.items l.report-items
