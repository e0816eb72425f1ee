use Rattle.std.proofs.Common.{◌∙◌}
use Rattle.driver.proofs.Checking.{begins}
use Rattle.driver.proofs.check.units.Goals as goal

pub returns-clause-account : goal.returns-clause-account
returns-clause-account c = begins c.args.turns c.new.result.account (c.new.ensures.left ∙ c.from.ensures) c.new.ensures.uses
