use Rattle.reports.proofs.FactByFact.{all_told_then}
use Rattle.driver.proofs.reporting.telling.tell_check.Goals as goal

pub returns : goal.returns
returns g c = record { told = all_told_then g.R.Report.shown _ _ _ _ _ c.tell.ensures.told (all_told_then g.R.Report.shown _ _ _ _ _ c.tell-2.ensures.told c.tell_uses.ensures.told) }
