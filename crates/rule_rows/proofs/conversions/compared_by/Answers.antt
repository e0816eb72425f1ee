use Rattle.rule_laws.proofs.TypedCounts.{accepted_counted}
use Rattle.rule_rows.proofs.conversions.compared_by.Goals as goal

pub compared-came-requires-clause-env : goal.compared-came-requires-clause-env
compared-came-requires-clause-env g c = accepted_counted c.args.env.now c.requires.accepted
