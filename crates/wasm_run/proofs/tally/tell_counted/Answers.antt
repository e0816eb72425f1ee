use Rattle.reports.proofs.FactByFact.{all_told_then}
use Rattle.wasm_run.proofs.tally.tell_counted.Goals as goal

pub returns : goal.returns
returns g c = record { told = all_told_then g.R.Report.shown _ _ _ _ _ c.tell_steps.ensures.told c.tell.ensures.told }
