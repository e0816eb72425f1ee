use Rattle.std.specs.Prelude.{codes}
use Rattle.command_line.specs.declared.job.Job.TheVariants.{Check}
use Rattle.driver.proofs.Answering.{cause_of, checked_says, exit_says, says}
use Rattle.driver.proofs.JobTold.{of_check}
use Rattle.driver.proofs.TextCauses.{within_limits}
use Rattle.driver.proofs.check.check.Goals as goal
use Rattle.module_run.proofs.CallEnding.{told_anyway}

pub returns-in_err-accept-clause-says : goal.returns-in_err-accept-clause-says
returns-in_err-accept-clause-says g c =
    let e = c.in_ok-environment.environment in
    let bytes = c.args.bytes.now in
    let r = c.in_err-accept.field-0.0 in
    exit_says (λ v. v.items) Check c.args.request c.from_residual-in_err-accept.result r bytes c.from_residual-in_err-accept.ensures.1 (checked_says Check c.args.request r bytes e
    (within_limits bytes e c.in_ok-environment.ensures.exact) tt (cause_of c.args.request.turns r e c.in_err-accept.ensures.says))

pub returns-clause-says : goal.returns-clause-says
returns-clause-says g c =
    let bytes = c.args.bytes.now in
    let e = c.in_ok-environment.environment in
    says (λ v. v.items) Check c.args.request c.accepted_text.result bytes (codes "ok\n") (λ text is. record {
      environment = e;
      spelled = within_limits bytes e c.in_ok-environment.ensures.exact;
      accepted =
          c.in_ok-accept.ensures.says.0;
      well = record { kept = _; type = _; checked = c.in_ok-accept.ensures.says.1 };
      text_is = is;
    }) c.accepted_text.ensures.text c.accepted_text.ensures.only_memory

pub returns-clause-told : goal.returns-clause-told
returns-clause-told g c =
    let e = c.in_ok-environment.environment in
    let bytes = c.args.bytes.now in
    told_anyway c.accepted_text.result (of_check g.R.Report.shown c.args.request bytes e _ _ (within_limits bytes e c.in_ok-environment.ensures.exact) c.in_ok-accept.ensures.told)
