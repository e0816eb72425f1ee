use Rattle.job_laws.proofs.WithoutReports.{without_reports}
use Rattle.job_laws.proofs.reports_break_no_promise.Goals as goal

pub returns : goal.returns
returns g c = record { kept = without_reports }
