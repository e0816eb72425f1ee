use Rattle.std.proofs.lemmas.List.{replicate_more}
use Rattle.reports.proofs.FactByFact.{told_as, told_none, told_one, told_then}
use Rattle.reports.proofs.report.Report.see_times.Goals as goal

pub loop-init : goal.loop-init
loop-init g c = told_none _

pub loop-preserved : goal.loop-preserved
loop-preserved g c =
    let s = c.see.ensures in
    told_as _ _ _ _ (replicate_more c.loop.counter c.args.f) (told_then _ _ _ _ _ c.loop.invariant (told_one c.args.f _ _ s.counted s.wanted s.named))
