use Rattle.std.proofs.Common.{Some, ◌≡◌, ◌≤◌, map, take}
use Rattle.std.specs.Io.KnownBytes.{Appends}
use Rattle.kio.specs.Known.{StillTells}
use Rattle.driver.specs.ReportLines.{lines}
use Rattle.driver.proofs.reporting.lines.write_lines.Given as goal

abbrev pub invariant-loop-report : goal.invariant-loop-report
invariant-loop-report g l = record {
  gone : Appends (g.E.Sink.taken l.fn.err) (g.E.Sink.taken l.err) (lines (map (λ b. (goal.Report-dyn g (b.vtable, b.value)).shown b.value) (take l.report-index l.reports)));
  history : Appends (Some (g.E.Sink.received l.fn.err)) (Some (g.E.Sink.received l.err)) (lines (map (λ b. (goal.Report-dyn g (b.vtable, b.value)).shown b.value) (take l.report-index l.reports)));
  tells : StillTells (g.E.Sink.taken l.fn.err) (g.E.Sink.taken l.err);
  later : g.E.Sink.faults l.fn.err ≤ g.E.Sink.faults l.err;
  still : l.report-index ≡ 0 → l.err ≡ l.fn.err;
}
