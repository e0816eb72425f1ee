use Rattle.driver.proofs.Checking.{check_from}
use Rattle.driver.proofs.JobTold.{noted}
use Rattle.driver.proofs.check.accept.Goals as goal

pub returns-clause-says : goal.returns-clause-says
returns-clause-says g c = check_from c.args.turns c.accept_within.result c.args.raw.now c.accept_within.new.meter.account c.accept_within.ensures.says

pub returns-clause-told : goal.returns-clause-told
returns-clause-told g c = noted g.R.Report.shown c.args.turns c.accept_within.result c.args.raw.now c.accept_within.new.meter.account _ _ c.accept_within.ensures.says c.accept_within.ensures.told
