use Rattle.driver.proofs.JobTold.{of_verify}
use Rattle.driver.proofs.top.answer_on.Goals as goal

pub returns-in-Verify-clause-told : goal.returns-in-Verify-clause-told
returns-in-Verify-clause-told g c = of_verify g.R.Report.shown c.args.request c.args.bytes.now c.args.request.job c.in-Verify.is c.verify.result c.args.reports.now.items
