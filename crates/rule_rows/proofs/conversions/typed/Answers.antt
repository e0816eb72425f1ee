use Rattle.rule_laws.proofs.Names.{accepted_once}
use Rattle.rule_laws.proofs.TypedCounts.{typed_counted, accepted_counted}
use Rattle.rule_rows.proofs.conversions.typed.Goals as goal

pub infer-requires-clause-env : goal.infer-requires-clause-env
infer-requires-clause-env c = accepted_counted c.args.env.now c.requires.accepted

pub returns-in-Ok : goal.returns-in-Ok
returns-in-Ok c =
    let E = c.args.env.now in
    record { counted = typed_counted E (accepted_once E c.requires.accepted) c.in-Ok.ensures.typed }
