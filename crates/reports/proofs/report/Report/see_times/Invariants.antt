use Rattle.std.proofs.Common.{replicate}
use Rattle.reports.specs.Shown.{IsTold}
use Rattle.reports.proofs.report.Report.see_times.Given as goal

abbrev pub invariant-loop : goal.invariant-loop
invariant-loop g l = IsTold (replicate l.counter l.f) (g.Self.Report.shown l.fn.self) (g.Self.Report.shown l.self)
