use Rattle.std.proofs.Common.{◌<◌, ◌+◌, length, replicate, arith}
use Rattle.reports.proofs.FactByFact.{told_up_to_more}
use Rattle.reports.proofs.telling.tell.Goals as goal

pub loop-report-preserved : goal.loop-report-preserved
loop-report-preserved g c =
    let xs = c.loop-report.report-items in
    let i = c.loop-report.report-index in
    let x = c.report-item.result in
    let lt : i < length xs = grind arith in
    told_up_to_more g.R.Report.shown (replicate c.args.times c.args.fact) i (i + 1) c.args.reports.now.items xs x c.see_times.new.self lt (omega arith) c.loop-report.invariant c.see_times.ensures.told
