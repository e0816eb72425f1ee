use Rattle.std.proofs.Common.{Err, subst}
use Rattle.module_run.specs.declared.refusal.RunRefusal.TheVariants as running
use Rattle.module_run.specs.Ends.{Ends}
use Rattle.module_run.specs.RunFacts.{RunIsTold}
use Rattle.driver.proofs.ModuleRuns.{machine_made, exhausted_says}
use Rattle.driver.proofs.running.measured.Goals as goal

pub answer_of-requires : goal.answer_of-requires
answer_of-requires g c = (let (P, form, fits, is) = c.requires.compiled in record { starts = machine_made c.args.pages c.requires.range.0 c.args.module.now P (fits, is) })

pub returns-in-Err-Exhausted : goal.returns-in-Err-Exhausted
returns-in-Err-Exhausted g c =
    let (P, form, fits, is) = c.requires.compiled in
    let s = subst (λ x. Ends c.args.module.now c.args.pages c.from.result (Err x)) c.in-Err-Exhausted.field-0-is c.in-Err-Exhausted.ensures.says in
    let h = subst (λ x. Ends c.args.module.now c.args.pages x (Err running.Exhausted)) c.from.ensures s in
    record { says = exhausted_says c.args.pages c.args.steps c.requires.range.1 c.known_status_tells.ensures.told c.args.module.now P (fits, is) h; spelled = tt; told = tt }

pub returns-in-Ok-clause-told : goal.returns-in-Ok-clause-told
returns-in-Ok-clause-told g c = subst (λ s. RunIsTold g.R.Report.shown c.args.module.now c.args.pages s c.args.reports.now.items c.answer_of.new.reports.items) c.from.ensures c.in-Ok.ensures.told
