use Rattle.command_line.specs.declared.job.Job.TheVariants.{Cert}
use Rattle.driver.proofs.Answering.{cause_of, checked_says, exit_says}
use Rattle.driver.proofs.CertSaying.{certified_says}
use Rattle.driver.proofs.JobTold.{of_check}
use Rattle.driver.proofs.TextCauses.{within_limits}
use Rattle.driver.proofs.cert.cert.Goals as goal
use Rattle.module_run.proofs.CallEnding.{told_anyway}

pub returns-in_err-certificate-clause-says : goal.returns-in_err-certificate-clause-says
returns-in_err-certificate-clause-says g c =
    let q = c.args.request in
    let bytes = c.args.bytes.now in
    let e = c.in_ok-environment.environment in
    let r = c.in_err-certificate.field-0.0 in
    exit_says (λ v. v.items) Cert q c.from_residual-in_err-certificate.result r bytes c.from_residual-in_err-certificate.ensures.1
    (checked_says Cert q r bytes e (within_limits bytes e c.in_ok-environment.ensures.exact) tt (cause_of q.turns r e c.in_err-certificate.ensures.says))

pub returns-clause-says : goal.returns-clause-says
returns-clause-says g c =
    let bytes = c.args.bytes.now in
    let e = c.in_ok-environment.environment in
    let made = c.in_ok-certificate.ensures in
    let x = c.text_of.ensures in
    certified_says (λ v. v.items) c.text_of.result c.args.request bytes e c.in_ok-certificate.certificate (within_limits bytes e c.in_ok-environment.ensures.exact) made.says made.well x.text x.small x.only_memory

pub returns-clause-told : goal.returns-clause-told
returns-clause-told g c =
    let bytes = c.args.bytes.now in
    let e = c.in_ok-environment.environment in
    told_anyway c.text_of.result (of_check g.R.Report.shown c.args.request bytes e _ _ (within_limits bytes e c.in_ok-environment.ensures.exact) c.in_ok-certificate.ensures.told)
