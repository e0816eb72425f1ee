use Rattle.std.proofs.Common.{Ok, Err, subst, sym}
use Rattle.command_line.specs.declared.job.Job.TheVariants.{Run}
use Rattle.module_run.specs.FileEnds.{FileEnds}
use Rattle.module_run.specs.RunFacts.{FileIsTold}
use Rattle.driver.specs.Serve.{RefusalSays}
use Rattle.driver.proofs.JobTold.{of_file}
use Rattle.driver.proofs.RunCauses.{run_says, tags_says}
use Rattle.driver.proofs.run.run.Goals as goal
use Rattle.module_run.proofs.CallEnding.{told_anyway}

pub returns-in-Ok : goal.returns-in-Ok
returns-in-Ok g c =
    let q = c.args.request in
    let bytes = c.args.bytes.now in
    let tree = c.in-Ok.tree in
    record {
      says = tags_says (λ v. v.items) q c.line_of.result bytes tree (subst (λ s. FileEnds bytes q.pages s (Ok tree)) c.from.ensures c.in-Ok.ensures.says) c.line_of.ensures.line c.line_of.ensures.only_memory;
      told = told_anyway c.line_of.result (of_file g.R.Report.shown q bytes _ _ (subst (λ s. FileIsTold g.R.Report.shown bytes q.pages s c.args.reports.now.items c.answer_of_file.new.reports.items) c.from.ensures c.in-Ok.ensures.told));
    }

pub returns-in-Err : goal.returns-in-Err
returns-in-Err g c =
    let q = c.args.request in
    let bytes = c.args.bytes.now in
    let why = c.in-Err.why in
    record {
      says = subst (λ r. RefusalSays Run q r bytes) (sym c.refused.ensures.is) (run_says q why bytes (subst (λ s. FileEnds bytes q.pages s (Err why)) c.from.ensures c.in-Err.ensures.says));
      told = tt;
    }
