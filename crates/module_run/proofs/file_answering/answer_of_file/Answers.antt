use Rattle.std.proofs.Common.{subst}
use Rattle.std.proofs.lemmas.Result.{on_ok_weaker}
use Rattle.module_run.specs.FileEnds.{ProgramEnds}
use Rattle.module_run.specs.RunFacts.{RunIsTold}
use Rattle.module_run.proofs.FileStages.{file_runs}
use Rattle.module_run.proofs.file_answering.answer_of_file.Goals as goal

pub returns : goal.returns
returns g c =
    let m = c.in_ok-module.module in
    let checked = c.in_ok-program.ensures.says in
    let run = c.run.ensures in
    record {
      says = file_runs c.args.bytes.now m c.args.cap c.args.steps c.in_ok-module.ensures.says checked.1 c.run.result (subst (λ x. ProgramEnds x c.args.cap c.args.steps c.run.result) checked.0 run.says);
      told = on_ok_weaker c.run.result (λ t. (m, c.in_ok-module.ensures.says, subst (λ x. RunIsTold g.R.Report.shown x c.args.cap c.args.steps c.args.reports.now.items c.run.new.reports.items) checked.0 t)) run.told;
    }
