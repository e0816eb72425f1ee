use Rattle.std.proofs.Common.{subst}
use Rattle.env_check.specs.declared.refusal.Refusal.TheVariants as faults
use Rattle.driver.specs.ExplainSays.{FaultSays}
use Rattle.driver.proofs.Explaining.{broken_place, text_says}
use Rattle.driver.proofs.explain.text_of.Goals as goal

pub broken_text-requires-clause-within : goal.broken_text-requires-clause-within
broken_text-requires-clause-within c =
    let x = c.in-Broken in
    broken_place c.args.turns c.args.raw.now x.place x.rule (subst (FaultSays c.args.turns c.args.raw.now) x.is c.requires.refused)

pub returns-in-Broken-clause-text : goal.returns-in-Broken-clause-text
returns-in-Broken-clause-text c =
    let x = c.in-Broken in
    text_says (λ v. v.items) c.broken_text.result c.args.turns c.args.raw.now c.args.fault.now (faults.Broken x.place x.rule) x.is c.requires.refused c.broken_text.ensures.text

pub returns-in-Spent-clause-text : goal.returns-in-Spent-clause-text
returns-in-Spent-clause-text c =
    let x = c.in-Spent in
    text_says (λ v. v.items) c.spent_text.result c.args.turns c.args.raw.now c.args.fault.now (faults.Spent x.place x.before) x.is c.requires.refused c.spent_text.ensures.text

pub returns-in-TooDeep-clause-text : goal.returns-in-TooDeep-clause-text
returns-in-TooDeep-clause-text c =
    let x = c.in-TooDeep in
    text_says (λ v. v.items) c.deep_text.result c.args.turns c.args.raw.now c.args.fault.now (faults.TooDeep x.place) x.is c.requires.refused c.deep_text.ensures.text
