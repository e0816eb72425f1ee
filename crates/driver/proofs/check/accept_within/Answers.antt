use Rattle.std.proofs.Common.{Err, subst}
use Rattle.env_check.specs.Answers.{FollowsRules}
use Rattle.module_run.specs.RunFacts.{AreTold}
use Rattle.driver.specs.ReportedFacts.{facts_of}
use Rattle.driver.proofs.Checking.{accepted_with, broken_by, broken_within}
use Rattle.driver.proofs.check.accept_within.Goals as goal

pub told-requires-clause-within : goal.told-requires-clause-within
told-requires-clause-within g c =
    let m = c.args.meter.now in
    λ i is. broken_within c.args.turns c.args.raw.now m.nest m.account c.check_env.new.m.account c.requires.nest c.requires.units c.in-Err-Broken.place c.in-Err-Broken.rule i (subst (λ x. FollowsRules c.args.raw.now
    (Err x) m c.check_env.new.m) c.in-Err-Broken.field-0-is c.in-Err-Broken.ensures.follows) is

pub returns-in-Ok-clause-says : goal.returns-in-Ok-clause-says
returns-in-Ok-clause-says g c =
    let m = c.args.meter.now in
    (accepted_with c.args.turns c.args.raw.now m.nest m.account c.check_env.new.m.account c.requires.nest c.requires.units c.in-Ok.accepted c.in-Ok.ensures.follows, c.in-Ok.ensures.main, c.in-Ok.ensures.well_formed)

pub returns-in_ok-place-in-Err-Broken-clause-says : goal.returns-in_ok-place-in-Err-Broken-clause-says
returns-in_ok-place-in-Err-Broken-clause-says g c =
    let m = c.args.meter.now in
    broken_by c.args.turns c.args.raw.now m.nest m.account c.check_env.new.m.account c.requires.nest c.requires.units c.in-Err-Broken.place c.in-Err-Broken.rule c.number.result c.in_ok-place-in-Err-Broken.place (subst
    (λ x. FollowsRules c.args.raw.now (Err x) m c.check_env.new.m) c.in-Err-Broken.field-0-is c.in-Err-Broken.ensures.follows) c.number.ensures.is c.in_ok-place-in-Err-Broken.ensures.told

pub returns-in-Ok-clause-told : goal.returns-in-Ok-clause-told
returns-in-Ok-clause-told g c = subst (λ f. AreTold g.R.Report.shown (facts_of f) c.args.reports.now.items c.tell_check.new.reports.items) c.check_facts.ensures.is c.tell_check.ensures.told
