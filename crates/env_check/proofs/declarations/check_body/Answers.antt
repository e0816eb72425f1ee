use Rattle.rule_laws.proofs.TypedCounts.{accepted_counted}
use Rattle.env_check.proofs.declarations.check_body.Goals as goal

pub check-requires-clause-env : goal.check-requires-clause-env
check-requires-clause-env g c = accepted_counted c.args.env.now c.requires.accepted
