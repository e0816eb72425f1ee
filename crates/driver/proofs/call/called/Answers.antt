use Rattle.std.proofs.Common.{Err, length, subst, arith}
use Rattle.module_run.specs.declared.refusal.RunRefusal.TheVariants as running
use Rattle.module_run.specs.CallEnds.{CallEnds}
use Rattle.module_run.specs.CallFacts.{CallRunIsTold}
use Rattle.driver.proofs.CallRuns.{call_machine_made, call_exhausted_says, heap_at_start}
use Rattle.driver.proofs.call.called.Goals as goal

pub answer_of_call-requires-clause-starts : goal.answer_of_call-requires-clause-starts
answer_of_call-requires-clause-starts g c =
    let (P, form, fits, is) = c.requires.compiled in
    let pages = c.requires.range.pages in
    call_machine_made c.args.request.pages (omega (arith, pages.0)) c.args.module.now P (length c.args.arguments.now) (fits, is)

pub answer_of_call-requires-clause-heap : goal.answer_of_call-requires-clause-heap
answer_of_call-requires-clause-heap g c = (let (P, form, fits, is) = c.requires.compiled in heap_at_start c.args.request.pages c.args.module.now P (length c.args.arguments.now) (fits, is))

pub returns-in-Err-Exhausted : goal.returns-in-Err-Exhausted
returns-in-Err-Exhausted g c =
    let q = c.args.request in
    let m = c.args.module.now in
    let args = c.args.arguments.now in
    let (P, form, fits, is) = c.requires.compiled in
    let pages = c.requires.range.pages in
    let s = subst (λ x. CallEnds m q.pages c.from-steps.result args (Err x)) c.in-Err-Exhausted.field-0-is c.in-Err-Exhausted.ensures.says in
    let h = subst (λ x. CallEnds m q.pages x args (Err running.Exhausted)) c.from-steps.ensures s in
    record { says = call_exhausted_says q.pages q.steps (omega (arith, pages.1)) c.called_programs_answer.ensures.status m P args c.requires.small c.requires.trees (fits, is) h; spelled = tt; told = tt }

pub returns-in-Ok-clause-told : goal.returns-in-Ok-clause-told
returns-in-Ok-clause-told g c = subst (λ s. CallRunIsTold g.R.Report.shown c.args.module.now c.args.request.pages s c.args.arguments.now c.args.reports.now.items c.answer_of_call.new.reports.items) c.from-steps.ensures c.in-Ok.ensures.told
