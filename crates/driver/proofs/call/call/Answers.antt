use Rattle.std.proofs.Common.{List, Ok, Err, length, sym, subst}
use Rattle.command_line.specs.declared.job.Job.TheVariants.{Call}
use Rattle.wasm_core.specs.WordData.{DataNodes}
use Rattle.module_run.specs.CallEnds.{CallEnds}
use Rattle.module_run.specs.CallFacts.{CallRunIsTold}
use Rattle.driver.specs.CallEnds.{CallSays}
use Rattle.driver.specs.CalledMain.{IsCallCompiled}
use Rattle.driver.proofs.Answering.{exit_says}
use Rattle.driver.proofs.CallSaying.{answer_named, call_line_says, call_refused, is_compiled}
use Rattle.driver.proofs.JobTold.{of_call}
use Rattle.driver.proofs.call.call.Goals as goal
use Rattle.module_run.proofs.CallEnding.{told_anyway}

pub returns-in_err-main-clause-says : goal.returns-in_err-main-clause-says
returns-in_err-main-clause-says g c = exit_says (λ v. v.items) Call c.args.request c.from_residual.result c.in_err-main.field-0.0 c.args.bytes.now c.from_residual.ensures.1 c.in_err-main.ensures.says

pub called-requires-clause-compiled : goal.called-requires-clause-compiled
called-requires-clause-compiled g c =
    let q = c.args.request in
    let m = c.in_ok-main.main in
    subst (λ (ds : List DataNodes). IsCallCompiled m.module (length ds) q.pages) (sym c.as_slice.ensures.value) (is_compiled q c.requires.range c.args.bytes.now m c.in_ok-main.ensures.says)

pub returns-in_err-answer-clause-says : goal.returns-in_err-answer-clause-says
returns-in_err-answer-clause-says g c =
    let q = c.args.request in
    let bytes = c.args.bytes.now in
    let r = c.in_err-answer.field-0.0 in
    let m = c.in_ok-main.main in
    let refused = subst (λ (ds : List DataNodes). CallSays m.module q.pages q.steps ds (Err r)) c.as_slice.ensures.value c.in_err-answer.ensures.says in
    exit_says (λ v. v.items) Call q c.from_residual-in_err-answer.result r bytes c.from_residual-in_err-answer.ensures.1 (call_refused q c.requires.range bytes m c.in_ok-main.ensures.says r refused)

pub line_of-requires : goal.line_of-requires
line_of-requires g c = record { named = answer_named c.args.request c.requires.range c.args.bytes.now c.in_ok-main.main c.in_ok-main.ensures.says }

pub returns-clause-says : goal.returns-clause-says
returns-clause-says g c =
    let q = c.args.request in
    let m = c.in_ok-main.main in
    let ends = subst (λ (ds : List DataNodes). CallEnds m.module q.pages q.steps ds (Ok c.in_ok-answer.answer)) c.as_slice.ensures.value c.in_ok-answer.ensures.says in
    call_line_says q c.requires.range c.args.bytes.now m c.in_ok-main.ensures.says c.in_ok-answer.answer ends c.in_ok-answer.ensures.spelled (λ v. v.items) c.line_of.result c.line_of.ensures.says

pub returns-clause-told : goal.returns-clause-told
returns-clause-told g c =
    let q = c.args.request in
    let m = c.in_ok-main.main in
    let shown = g.R.Report.shown in
    let told = subst (λ (ds : List DataNodes). CallRunIsTold shown m.module q.pages q.steps ds c.called_main.new.reports.items c.called.new.reports.items) c.as_slice.ensures.value c.in_ok-answer.ensures.told in
    told_anyway c.line_of.result (of_call shown q c.args.bytes.now c.requires.range m _ _ _ c.in_ok-main.ensures.says c.in_ok-main.ensures.told told)
