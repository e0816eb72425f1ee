use Rattle.std.proofs.Common.{subst}
use Rattle.driver.specs.CertSays.{WhySays}
use Rattle.driver.proofs.CertSaying.{why_broken, why_deep, why_spent, why_within}
use Rattle.driver.proofs.cert.refusal_of.Goals as goal

pub told-requires-clause-within : goal.told-requires-clause-within
told-requires-clause-within c =
    let x = c.in-Broken in
    why_within c.args.turns c.args.raw.now x.place x.rule (subst (WhySays c.args.turns c.args.raw.now) x.is c.requires.refused)

pub returns-in-Spent : goal.returns-in-Spent
returns-in-Spent c = record { says = why_spent c.args.turns c.args.raw.now (subst (WhySays c.args.turns c.args.raw.now) c.in-Spent.is c.requires.refused) }

pub returns-in-TooDeep : goal.returns-in-TooDeep
returns-in-TooDeep c = record { says = why_deep c.args.turns c.args.raw.now (subst (WhySays c.args.turns c.args.raw.now) c.in-TooDeep.is c.requires.refused) }

pub returns-in-Ok : goal.returns-in-Ok
returns-in-Ok c =
    let x = c.in-Broken in
    let y = c.in-Ok in
    record {
      says = why_broken c.args.turns c.args.raw.now x.place x.rule (subst (WhySays c.args.turns c.args.raw.now) x.is c.requires.refused) c.number.result y.place c.number.ensures.is y.ensures.told;
    }
