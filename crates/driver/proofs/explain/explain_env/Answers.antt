use Rattle.driver.proofs.Explaining.{acceptance_says, fault_says, refusal_says}
use Rattle.driver.proofs.explain.explain_env.Goals as goal

pub text_of-requires-clause-refused : goal.text_of-requires-clause-refused
text_of-requires-clause-refused g c =
    let m = c.units-meter.result in
    fault_says c.args.turns c.args.raw.now m c.check_env.new.m c.units-meter.ensures.nest c.units-meter.ensures.account c.in-Err.fault c.in-Err.ensures.follows c.in-Err.ensures.placed

pub returns-in-Ok-clause-says : goal.returns-in-Ok-clause-says
returns-in-Ok-clause-says g c =
    let m = c.units-meter.result in
    acceptance_says c.args.turns c.args.raw.now m c.check_env.new.m c.units-meter.ensures.nest c.units-meter.ensures.account (λ v. v.items) g.R.Report.shown c.accepted_text.result c.in-Ok.field-0 c.check_facts.result
    c.args.reports.now.items c.tell_check.new.reports.items c.in-Ok.ensures.follows c.in-Ok.ensures.well_formed c.check_facts.ensures.is c.tell_check.ensures.told c.accepted_text.ensures.text

pub returns-clause-says : goal.returns-clause-says
returns-clause-says g c = refusal_says (λ v. v.items) g.R.Report.shown c.text_of.result c.args.turns c.args.raw.now c.args.reports.now.items c.text_of.ensures.text
