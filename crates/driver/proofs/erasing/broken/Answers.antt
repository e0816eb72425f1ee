use Rattle.std.proofs.Common.{refl}
use Rattle.driver.proofs.erasing.broken.Goals as goal

pub returns-in-Ok : goal.returns-in-Ok
returns-in-Ok c = record { says = (c.args.rule.now, refl, c.number.ensures.is, c.in-Ok.ensures.told) }
